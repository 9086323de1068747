-- Keys: equal exactly where the nodes are.
use Rattle.std.specs.Prelude.{None}
use Prim.Native.Nat.{ℕ, ◌%◌, ◌*◌, ◌+◌, ◌/◌, ◌<◌, ◌≤◌}
use mathlib.Core.Path.{◌∙◌, ◌≡◌, refl, sym}
use mathlib.Core.Logic.{⊎_elim}
use mathlib.Core.Bool.{Bool, ◌&&◌, ◌||◌, false, not, true}
use mathlib.Core.List.{List}
use native.Mathlib.Numerals.{add-one}
use native.Mathlib.Decide.{ℕ_discrete}
use native.Mathlib.Omega.{arith}
use lib.Dec.{eqb, leb, ltb}
use lib.ListN.{get_or, length}
use borrow.Author.Tests.{eq-eqb, eqb-false, eqb-true, le-leb, le-ltb, leb-false, lt-leb, ltb-false, ne_eqb}
use Rattle.counting.specs.Pick.{pick}
use Rattle.counting.specs.Search.{every, last, some}
use Rattle.counting.specs.work.Search.{found}
use Rattle.counting.proofs.Below.{rising, rising_once}
use Rattle.counting.proofs.Bools.{holds_or, or_none, or_right}
use Rattle.counting.proofs.Search.{every_is, first_none, found_none, is_every, none_some, some_ext, some_found, some_last, some_none}
use Rattle.slots.specs.Slots.{position}
use Rattle.slots.proofs.Slots.{corner_lt, same_slot}
use Rattle.grid.specs.claims.Accepted.{SameFace}
use Rattle.grid.specs.Grid.{cell_count, face_node, node, same_face}
use Rattle.slots.specs.Limits.{highest_node, most_cells}
use Rattle.grid.specs.Rows.{bad_cell, bad_length, repeats, same_cell}
use Rattle.grid.specs.work.Work.{RisingCells}
use Rattle.grid.specs.work.Shared.{join}
use Rattle.grid.specs.work.Walks.{Cells, SameFrom, SameNodes, Slots, cell_number, corner, labelled}

-- row 1
pub length_odd : (cells : List ℕ) → (length cells % 4 ≡ 0 → ⊥) → bad_length cells ≡ true
unfolding bad_length
length_odd cells h = rw (ne_eqb (length cells % 4) 0 h)

pub length_none : (cells : List ℕ) → length cells ≡ 0 → bad_length cells ≡ true
unfolding bad_length
length_none cells h = rw (eq-eqb (length cells) 0 h) (or_right (not (eqb (length cells % 4) 0)) true refl)

pub length_many : (cells : List ℕ) → length cells % 4 ≡ 0 → (length cells ≡ 0 → ⊥) → bad_length cells ≡ ltb most_cells (cell_count cells)
unfolding bad_length
length_many cells h l = rw (eq-eqb (length cells % 4) 0 h, ne_eqb (length cells) 0 l)

module _ (cells : List ℕ) (c : ℕ) where
  -- row 3
  pub cell_drops : (i : ℕ) → i < 3 → node cells c (i + 1) ≤ node cells c i → bad_cell cells c ≡ true
  unfolding bad_cell
  cell_drops i l h =
      or_right (some (λ i. ltb highest_node (node cells c i)) 4) (some (λ i. leb (node cells c (i + 1)) (node cells c i)) 3)
      (some_found (λ i. leb (node cells c (i + 1)) (node cells c i)) 3 i l (le-leb (node cells c (i + 1)) (node cells c i) h))

  pub cell_rises : ((i : ℕ) → i < 3 → node cells c i < node cells c (i + 1)) → bad_cell cells c ≡ ltb highest_node (node cells c 3)
  unfolding bad_cell some
  cell_rises h =
      rw (none_some (λ i. leb (node cells c (i + 1)) (node cells c i)) 3 (λ i l. lt-leb (node cells c (i + 1)) (node cells c i) (h i l)))
      (go (ltb highest_node (node cells c 3)) refl)
    where
      go : (b : Bool) → ltb highest_node (node cells c 3) ≡ b
          → (pick b true (pick (ltb highest_node (node cells c 2)) true (pick (ltb highest_node (node cells c 1)) true (pick (ltb highest_node (node cells c 0)) true false))) || false) ≡ b
      go true e = refl
      go false e =
          let l = ltb-false highest_node (node cells c 3) e in
          let l2 = h 2 (omega arith) in
          let l1 = h 1 (omega arith) in
          let l0 = h 0 (omega arith) in
          rw (le-ltb highest_node (node cells c 2) (omega arith), le-ltb highest_node (node cells c 1) (omega arith), le-ltb highest_node (node cells c 0) (omega arith))

  pub cell_fine : bad_cell cells c ≡ false
      → ((i : ℕ) → i < 4 → node cells c i ≤ highest_node) × ((i : ℕ) → i < 3 → node cells c i < node cells c (i + 1))
  unfolding bad_cell
  cell_fine e =
      let (a, b) = or_none (some (λ i. ltb highest_node (node cells c i)) 4) (some (λ i. leb (node cells c (i + 1)) (node cells c i)) 3) e in (
        λ i l. ltb-false highest_node (node cells c i) (some_none (λ i. ltb highest_node (node cells c i)) 4 a i l),
        λ i l. leb-false (node cells c (i + 1)) (node cells c i) (some_none (λ i. leb (node cells c (i + 1)) (node cells c i)) 3 b i l),
      )

-- what rows 1 and 3 leave
pub ordered_cells : (cells : List ℕ) → ((i : ℕ) → get_or cells i 0 < 65536) → cell_count cells ≤ most_cells → None ≡ found (bad_cell cells) (cell_count cells)
    → RisingCells cells
ordered_cells cells small few none = record { small = small; few = few; nodes = λ c i h l. (fine c h).0 i l; rising = λ c i h l. (fine c h).1 i l }
  where
    fine : (c : ℕ) → c < cell_count cells → ((i : ℕ) → i < 4 → node cells c i ≤ highest_node) × ((i : ℕ) → i < 3 → node cells c i < node cells c (i + 1))
    fine c h = cell_fine cells c (first_none (bad_cell cells) (cell_count cells) (omega (arith, found_none _ _ none)) c h)

-- the nodes of a cell that rise step by step
pub nodes_rise : (cells : List ℕ) (c : ℕ) → ((i : ℕ) → i < 3 → node cells c i < node cells c (i + 1)) → (a b : ℕ) → a < b → b < 4 → node cells c a < node cells c b
nodes_rise cells c h = rising (node cells c) 4 (λ i l. rw add-one at (h i (omega arith)))

pub join_eqb : (a b c d : ℕ) → b < 65536 → d < 65536 → eqb (join a b) (join c d) ≡ eqb a c && eqb b d
join_eqb a b c d h l = go (eqb a c) (eqb b d) refl refl
  where
    go : (x y : Bool) → eqb a c ≡ x → eqb b d ≡ y → eqb (join a b) (join c d) ≡ x && y
    go true true e f = eq-eqb (join a b) (join c d) (omega (arith, eqb-true a c e, eqb-true b d f))
    go true false e f = ne_eqb (join a b) (join c d) (λ q. eqb-false b d f (omega (arith, eqb-true a c e, q)))
    go false y e f = ne_eqb (join a b) (join c d) (λ q. eqb-false a c e (omega (arith, q)))

-- numbers that tell the nodes: row 4
module _ (cells same : List ℕ) (n : ℕ) (w : Cells n (SameNodes cells) same) where
  pub cell_eqb : (d c : ℕ) → d < n → c < n → same_cell cells d c ≡ eqb (cell_number same d) (cell_number same c)
  unfolding same_cell
  cell_eqb d c h l = elim (ℕ_discrete (cell_number same d) (cell_number same c)) [
    | yes e ↦ is_every (λ i. eqb (node cells d i) (node cells c i)) 4 (λ i b. eq-eqb (node cells d i) (node cells c i) (w.tells.told d c h l e i b)) ∙ sym (eq-eqb (cell_number same d) (cell_number same c) e)
    | no e ↦ ⊎_elim
        (λ (q : every (λ i. eqb (node cells d i) (node cells c i)) 4 ≡ true).
        absurd (e (w.tells.same d c h l (λ i b. eqb-true (node cells d i) (node cells c i) (every_is (λ i. eqb (node cells d i) (node cells c i)) 4 q i b)))))
        (λ (q : every (λ i. eqb (node cells d i) (node cells c i)) 4 ≡ false). q ∙ sym (ne_eqb (cell_number same d) (cell_number same c) e))
        (holds_or (every (λ i. eqb (node cells d i) (node cells c i)) 4))
  ]

  -- what the loop of `row_4` asks of a cell
  pub repeats_last : (c : ℕ) → c < n → repeats cells c ≡ ltb 0 (last (labelled (cell_number same) (cell_number same c)) c)
  unfolding repeats labelled
  repeats_last c h =
      some_ext (λ d. same_cell cells d c) (λ d. eqb (cell_number same d) (cell_number same c)) c (λ d l. cell_eqb d c (omega arith) h)
      ∙ some_last (λ d. eqb (cell_number same d) (cell_number same c)) c

-- the same face, as a test and as equations of nodes
module _ (cells : List ℕ) where
  pub same_true : (d t c s : ℕ) → same_face cells d t c s ≡ true → SameFace cells d t c s
  unfolding same_face face_node
  same_true d t c s e i l =
      eqb-true (face_node cells d t i) (face_node cells c s i) (every_is (λ i. eqb (face_node cells d t i) (face_node cells c s i)) 3 e i l)

  pub true_same : (d t c s : ℕ) → SameFace cells d t c s → same_face cells d t c s ≡ true
  unfolding same_face face_node
  true_same d t c s h =
      is_every (λ i. eqb (face_node cells d t i) (face_node cells c s i)) 3 (λ i l. eq-eqb (face_node cells d t i) (face_node cells c s i) (h i l))

-- and faces
module _ (cells keys : List ℕ) (n : ℕ) (w : Slots n (SameFrom 0 cells) keys) where
  corner_node : (d t r : ℕ) → t < 4 → corner cells r (4 * d + t) ≡ node cells d (position t r)
  corner_node d t r h =
      let a : (4 * d + t) / 4 ≡ d = omega arith in
      let b : (4 * d + t) % 4 ≡ t = omega arith in
      rw (a, b)

  pub face_eqb : (d t c s : ℕ) → d < n → t < 4 → c < n → s < 4 → same_face cells d t c s ≡ eqb (get_or keys (4 * d + t) 0) (get_or keys (4 * c + s) 0)
  face_eqb d t c s hd ht hc hs = elim (ℕ_discrete (get_or keys (4 * d + t) 0) (get_or keys (4 * c + s) 0)) [
    | yes e ↦ true_same cells d t c s (λ r b. sym (corner_node d t r ht) ∙ w.tells.told (4 * d + t) (4 * c + s) (omega arith) (omega arith) e r (omega arith) b ∙ corner_node c s r hs)
        ∙ sym (eq-eqb (get_or keys (4 * d + t) 0) (get_or keys (4 * c + s) 0) e)
    | no e ↦ ⊎_elim
        (λ (q : same_face cells d t c s ≡ true).
        absurd (e (w.tells.same (4 * d + t) (4 * c + s) (omega arith) (omega arith) (λ r a b. corner_node d t r ht ∙ same_true cells d t c s q r b ∙ sym (corner_node c s r hs)))))
        (λ (q : same_face cells d t c s ≡ false). q ∙ sym (ne_eqb (get_or keys (4 * d + t) 0) (get_or keys (4 * c + s) 0) e))
        (holds_or (same_face cells d t c s))
  ]

module _ (cells : List ℕ) (good : RisingCells cells) where
  -- a cell's nodes rise
  pub rises : (c : ℕ) → c < cell_count cells → (a b : ℕ) → a < b → b < 4 → node cells c a < node cells c b
  rises c h = nodes_rise cells c (λ i l. good.rising c i h l)

  -- two slots of a cell are two faces
  pub one_slot : (c t s : ℕ) → c < cell_count cells → t < 4 → s < 4 → same_face cells c t c s ≡ true → t ≡ s
  one_slot c t s h lt ls e =
      same_slot t s lt ls (λ i l. rising_once (node cells c) 4 (rises c h) (position t i) (position s i) (corner_lt t i l) (corner_lt s i l) (same_true cells c t c s e i l))
