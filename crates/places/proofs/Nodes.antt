-- The nodes of an accepted grid's cells, and the ends of its edges among them.
use Prim.Native.Nat.{ℕ, zero, suc, ◌+◌, ◌*◌, ◌≤◌, ◌<◌}
use mathlib.Core.Path.{◌≡◌, ◌∙◌}
use mathlib.Core.Bool.{true}
use mathlib.Core.List.{List, [], ◌∷◌}
use native.Mathlib.Decide.{dec_lt}
use native.Mathlib.Nat.{not-suc-le-zero}
use native.Mathlib.Omega.{arith}
use lib.Dec.{eqb}
use lib.ListN.{length, get_or}
use borrow.Author.Tests.{eq-eqb}
use Rattle.counting.proofs.Search.{some_found}
use Rattle.grid.specs.Grid.{Grid, cell_count, has_node, low, high}
use Rattle.grid.specs.claims.Accepted.{Sound}
use Rattle.grid.proofs.Nodes.{node_at, in_cells, low_has, high_has}
use Rattle.places.specs.Rows.{highest, node_end}

-- no number of the list is above the highest, and the highest is one of them
at_most_highest : (cells : List ℕ) (j : ℕ) → j < length cells → get_or cells j 0 ≤ highest cells
unfolding highest
at_most_highest [] j h = absurd (not-suc-le-zero h)
at_most_highest (v ∷ l) zero h = omega arith
at_most_highest (v ∷ l) (suc j) h = omega (arith, at_most_highest l j (omega arith))

record Stands (cells : List ℕ) : Type 0 where
  at : ℕ
  lt : at < length cells
  is : get_or cells at 0 ≡ highest cells

highest_stands : (v : ℕ) (l : List ℕ) → Stands (v ∷ l)
unfolding highest
highest_stands v [] = record { at = 0; lt = omega arith; is = omega arith }
highest_stands v (w ∷ l) =
    let s = highest_stands w l in
    elim (dec_lt (highest (w ∷ l)) v) [
      | yes h ↦ record { at = 0; lt = omega arith; is = omega arith }
      | no h ↦ record { at = suc s.at; lt = omega (arith, s.lt); is = omega (arith, s.is) }
    ]

pub highest_has : (cells : List ℕ) → length cells ≡ 4 * cell_count cells → 0 < cell_count cells → has_node cells (highest cells) ≡ true
highest_has [] f h = absurd (omega (arith, h, f))
highest_has (v ∷ l) f h =
    let s = highest_stands v l in
    in_cells (v ∷ l) (highest (v ∷ l)) f ∙ some_found (λ j. eqb (get_or (v ∷ l) j 0) (highest (v ∷ l))) (length (v ∷ l)) s.at s.lt (eq-eqb _ _ s.is)

pub has_highest : (cells : List ℕ) (v : ℕ) → has_node cells v ≡ true → v ≤ highest cells
has_highest cells v e =
    let n = node_at cells v e in
    omega (arith, n.is, at_most_highest cells (4 * n.cell + n.place) (omega (arith, n.cell_lt, n.place_lt)))

pub highest_small : (cells : List ℕ) (n : ℕ) → ((j : ℕ) → j < length cells → get_or cells j 0 ≤ n) → highest cells ≤ n
unfolding highest
highest_small [] n h = omega arith
highest_small (v ∷ l) n h = let s = highest_stands v l in omega (arith, s.is, h s.at s.lt)

module _ (G : Grid) (S : Sound G) where
  -- the ends of a listed edge are nodes of some cell
  pub record End (v : ℕ) : Type 0 where
    pub has : has_node G.cells v ≡ true
    pub below : v < node_end G.cells

  end_of : (v : ℕ) → has_node G.cells v ≡ true → End v
  end_of v m = record { has = m; below = omega (arith, has_highest G.cells v m) }

  module _ (e : ℕ) (h : e < length G.counts) where
    pub low_end : End (low G.edges e)
    low_end = end_of (low G.edges e) (low_has G S e h)

    pub high_end : End (high G.edges e)
    high_end = end_of (high G.edges e) (high_has G S e h)
