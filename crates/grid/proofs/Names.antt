-- Names of faces, and outer edges: what the calls above the check use of them.
use Prim.Native.Nat.{ℕ, ◌%◌, ◌*◌, ◌+◌, ◌/◌, ◌<◌}
use mathlib.Core.Path.{◌∙◌, ◌≡◌, ap, refl, sym}
use mathlib.Core.Bool.{Bool, ◌&&◌, true}
use mathlib.Core.List.{List}
use native.Mathlib.Omega.{arith}
use lib.Dec.{eqb}
use lib.ListN.{length}
use borrow.Author.Tests.{eq-eqb}
use Rattle.counting.specs.Search.{count, first, some}
use Rattle.counting.proofs.Bools.{and_true, bool_same}
use Rattle.counting.proofs.Search.{count_one, first_ext, first_is, some_first, some_found, some_is}
use Rattle.slots.specs.Slots.{contains, position, slot_edge}
use Rattle.slots.proofs.Slots.{SlotEdge, slot-edge}
use Rattle.grid.specs.claims.Accepted.{EdgeNumbers, SameFace}
use Rattle.grid.specs.Grid.{Grid, cell_count, edge_number, face_name, has_face, is_edge, node, outer, same_face}
use Rattle.grid.proofs.Packed.{same_true, true_same}

module _ (cells : List ℕ) where
  -- the slot that the name gives has the face
  passes : ℕ → ℕ → ℕ → Bool
  passes c s m = same_face cells (m / 4) (m % 4) c s

  own : (c s : ℕ) → s < 4 → passes c s (4 * c + s) ≡ true
  unfolding passes
  own c s l =
      let a : (4 * c + s) / 4 ≡ c = omega arith in
      let b : (4 * c + s) % 4 ≡ s = omega arith in
      rw (a, b) (true_same cells c s c s (λ i k. refl))

  pub name_lt : (c s : ℕ) → c < cell_count cells → s < 4 → face_name cells c s < 4 * cell_count cells
  unfolding face_name passes
  name_lt c s h l = some_first (passes c s) (4 * cell_count cells) (some_found (passes c s) (4 * cell_count cells) (4 * c + s) (omega arith) (own c s l))

  pub named : (c s : ℕ) → c < cell_count cells → s < 4 → SameFace cells (face_name cells c s / 4) (face_name cells c s % 4) c s
  unfolding face_name passes
  named c s h l =
      same_true cells (face_name cells c s / 4) (face_name cells c s % 4) c s (first_is (passes c s) (4 * cell_count cells) (name_lt c s h l))

  -- one name, one face
  pub same_named : (a r b s : ℕ) → a < cell_count cells → b < cell_count cells → r < 4 → s < 4 → face_name cells a r ≡ face_name cells b s → SameFace cells a r b s
  same_named a r b s la lb lr ls e i l =
      sym (named a r la lr i l) ∙ ap (λ m. node cells (m / 4) (position (m % 4) i)) e ∙ named b s lb ls i l

  pub named_same : (a r b s : ℕ) → SameFace cells a r b s → face_name cells a r ≡ face_name cells b s
  unfolding face_name passes
  named_same a r b s h =
      first_ext (passes a r) (passes b s) (4 * cell_count cells)
      (λ m l. bool_same (passes a r m) (passes b s m)
      (λ e. true_same cells (m / 4) (m % 4) b s (λ i k. same_true cells (m / 4) (m % 4) a r e i k ∙ h i k))
      (λ e. true_same cells (m / 4) (m % 4) a r (λ i k. same_true cells (m / 4) (m % 4) b s e i k ∙ sym (h i k))))

-- the edges of a face that only one cell has are outer
pub outer_edge : (G : Grid) → EdgeNumbers G → (c s j : ℕ) → c < cell_count G.cells → s < 4 → j < 3
    → ((b t : ℕ) → b < cell_count G.cells → t < 4 → SameFace G.cells c s b t → b ≡ c) → outer G (edge_number G c (slot_edge s j)) ≡ true
unfolding outer has_face edge_number
outer_edge G E c s j h ls lj alone =
    some_found (λ c. some (λ k. is_edge G c k e && some (λ s. contains k s && eqb (count (has_face G.cells c s) (cell_count G.cells)) 1) 4) 6) (cell_count G.cells) c h
    (some_found (λ k. is_edge G c k e && some (λ s. contains k s && eqb (count (has_face G.cells c s) (cell_count G.cells)) 1) 4) 6 (slot_edge s j) g.lt
    (and_true (is_edge G c (slot_edge s j) e) (some (λ u. contains (slot_edge s j) u && eqb (count (has_face G.cells c u) (cell_count G.cells)) 1) 4)
    (first_is (is_edge G c (slot_edge s j)) (length G.counts) (E.listed c (slot_edge s j) h g.lt))
    (some_found (λ u. contains (slot_edge s j) u && eqb (count (has_face G.cells c u) (cell_count G.cells)) 1) 4 s ls
    (and_true (contains (slot_edge s j) s) (eqb (count (has_face G.cells c s) (cell_count G.cells)) 1) g.within (eq-eqb (count (has_face G.cells c s) (cell_count G.cells)) 1 single)))))
  where
    e : ℕ
    e = first (is_edge G c (slot_edge s j)) (length G.counts)

    g : SlotEdge s j
    g = slot-edge s j ls lj

    has : (d : ℕ) → d < cell_count G.cells → has_face G.cells c s d ≡ true → d ≡ c
    has d l q =
        let w = some_is (λ t. same_face G.cells d t c s) 4 q in
        alone d w.0 l w.1 (λ i k. sym (same_true G.cells d w.0 c s w.2 i k))

    itself : has_face G.cells c s c ≡ true
    itself = some_found (λ t. same_face G.cells c t c s) 4 s ls (true_same G.cells c s c s (λ i k. refl))

    single : count (has_face G.cells c s) (cell_count G.cells) ≡ 1
    single =
        count_one (has_face G.cells c s) (cell_count G.cells) (λ i k a b p q. omega (arith, has i (omega arith) p, has k b q))
        ∙ rw (some_found (has_face G.cells c s) (cell_count G.cells) c h itself)
