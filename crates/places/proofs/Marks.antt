-- The table of the nodes that cells have, and row 16 by it.
use Prim.Native.Nat.{ℕ, suc, ◌+◌, ◌-◌, ◌*◌, ◌/◌, ◌≤◌, ◌<◌}
use mathlib.Core.Path.{◌≡◌, refl, sym, ap, ◌∙◌}
use mathlib.Core.Bool.{Bool, true, false, not, ◌&&◌}
use mathlib.Core.List.{List}
use native.Mathlib.Omega.{arith}
use lib.Dec.{eqb}
use lib.ListN.{length, get_or}
use lib.Ieee.{Float, nan}
use borrow.Author.Tests.{eq-eqb, ne_eqb}
use Rattle.counting.specs.Pick.{pick}
use Rattle.counting.specs.Lists.{one}
use Rattle.counting.proofs.Bools.{not_clash}
use Rattle.counting.specs.Search.{first, last}
use Rattle.counting.proofs.Search.{first_ext, last_at, last_hit, last_miss}
use Rattle.slots.specs.Limits.{highest_node}
use Rattle.grid.specs.Grid.{cell_count, has_node}
use Rattle.place.specs.Place.{within, coordinates}
use Rattle.places.specs.Rows.{highest, node_end, bad_number}
use Rattle.grid.proofs.Nodes.{Noted, noted_all}
use Rattle.places.proofs.Nodes.{highest_has, has_highest}
use Rattle.places.specs.work.Work.{NodesMarked, is_marked, bad_marked}

module _ (cells used : List ℕ) where
  pub marked : length cells ≡ 4 * cell_count cells → (j : ℕ) → j ≡ length cells → Noted cells (λ v. 1) 0 j used → NodesMarked cells used
  marked f j e m = record { long = m.long; at = λ v h. noted_all cells (λ v. 1) 0 used f j e m v h ∙ pick_one (has_node cells v) }
    where
      pick_one : (b : Bool) → pick b 1 0 ≡ one b
      pick_one true = refl
      pick_one false = refl

  module _ (m : NodesMarked cells used) where
    is-marked : (v : ℕ) → v ≤ highest_node → is_marked used v ≡ has_node cells v
    unfolding is_marked
    is-marked v h = ap (λ n. eqb n 1) (m.at v h) ∙ same (has_node cells v)
      where
        same : (b : Bool) → eqb (one b) 1 ≡ b
        same true = refl
        same false = refl

    pub end_is : length cells ≡ 4 * cell_count cells → 0 < cell_count cells → highest cells ≤ highest_node → last (is_marked used) (length used) ≡ node_end cells
    end_is f s h =
        ap (last (is_marked used)) m.long
        ∙ last_at (is_marked used) (suc highest_node) (highest cells) (omega arith)
        (is-marked (highest cells) h ∙ highest_has cells f s)
        (λ i a b. is-marked i (omega arith) ∙ not_clash (has_node cells i) (λ e. not_lt i a (has_highest cells i e)))
      where
        not_lt : (i : ℕ) → highest cells < i → i ≤ highest cells → ⊥
        not_lt i a b = omega arith

    -- row 16 finds the same by the table
    pub row_16_is : (nodes : List Float) (n : ℕ) → n ≤ suc highest_node → first (bad_marked used nodes) (coordinates * n) ≡ first (bad_number cells nodes) (coordinates * n)
    unfolding bad_marked bad_number
    row_16_is nodes n l =
        first_ext (bad_marked used nodes) (bad_number cells nodes) (coordinates * n)
        (λ i h. ap (λ b. b && not (within (get_or nodes i nan))) (is-marked (i / coordinates) (omega arith)))

-- a number of the list, by the table
module _ (used : List ℕ) (nodes : List Float) (i : ℕ) where
  pub number_marked : get_or used (i / coordinates) 0 ≡ 1 → not (within (get_or nodes i nan)) ≡ bad_marked used nodes i
  unfolding bad_marked is_marked
  number_marked h = rw (eq-eqb _ _ h)

  pub number_free : (get_or used (i / coordinates) 0 ≡ 1 → ⊥) → false ≡ bad_marked used nodes i
  unfolding bad_marked is_marked
  number_free h = rw (ne_eqb _ _ h)

-- the search for the highest mark, downwards
module _ (used : List ℕ) (n : ℕ) (h : 0 < n) where
  pub end_here : get_or used (n - 1) 0 ≡ 1 → last (is_marked used) n ≡ n
  unfolding is_marked
  end_here e =
      let z : n ≡ n - 1 + 1 = omega arith in
      ap (last (is_marked used)) z ∙ last_hit (is_marked used) (n - 1) (eq-eqb _ _ e) ∙ sym z

  pub end_below : (get_or used (n - 1) 0 ≡ 1 → ⊥) → last (is_marked used) n ≡ last (is_marked used) (n - 1)
  unfolding is_marked
  end_below e =
      let z : n ≡ n - 1 + 1 = omega arith in
      ap (last (is_marked used)) z ∙ last_miss (is_marked used) (n - 1) (ne_eqb _ _ e)
