-- What holds of every half-edge: one computed test, lifted to any of them.
use Prim.Native.Nat.{ℕ, ◌+◌, ◌*◌, ◌%◌, ◌<◌, ◌≤◌}
use mathlib.Core.Path.{◌≡◌, refl, ◌∙◌}
use mathlib.Core.Logic.{◌≢◌}
use mathlib.Core.Bool.{Bool, true, false, not, ◌&&◌, ◌||◌}
use native.Mathlib.Omega.{arith}
use lib.Dec.{eqb, ltb}
use borrow.Author.Tests.{eqb-true, ltb-true, eq-eqb, ne_eqb, le-ltb}
use Rattle.counting.specs.Pick.{pick}
use Rattle.counting.specs.Search.{every}
use Rattle.counting.proofs.Bools.{and_left, and_right}
use Rattle.counting.proofs.Search.{every_is}
use Rattle.slots.specs.Slots.{slot_edge, edge_rank, contains, first_slot}
use Rattle.slots.proofs.Slots.{slot-edge, first-slot}
use Rattle.cell.specs.work.Half.{half_edges, half_of, twin}
use Rattle.cell.specs.claims.Half.{half_slot, rank_of, edge_of}

-- the half-edge that follows lies in the other slot of the same edge: the first if this one lies in the second
twin_test : ℕ → Bool
twin_test h =
    ltb (twin h) half_edges
    && (eqb (edge_of (twin h)) (edge_of h)
    && pick (eqb (first_slot (edge_of h)) (half_slot h)) (not (eqb (first_slot (edge_of h)) (half_slot (twin h)))) (eqb (first_slot (edge_of h)) (half_slot (twin h))))

twins_pass : every twin_test half_edges ≡ true
unfolding every twin_test twin edge_of first_slot
twins_pass = refl

module _ (h : ℕ) (l : h < half_edges) where
  pub slot_lt : half_slot h < 4
  slot_lt = omega arith

  pub place_lt : rank_of h < 3
  place_lt = omega arith

  pub edge_lt : edge_of h < 6
  unfolding edge_of
  edge_lt = (slot-edge (half_slot h) (rank_of h) slot_lt place_lt).lt

  pub place_is : edge_rank (half_slot h) (edge_of h) ≡ rank_of h
  unfolding edge_of
  place_is = (slot-edge (half_slot h) (rank_of h) slot_lt place_lt).place_is

  pub within : contains (edge_of h) (half_slot h) ≡ true
  unfolding edge_of
  within = (slot-edge (half_slot h) (rank_of h) slot_lt place_lt).within

  twin_passes : twin_test h ≡ true
  twin_passes = every_is twin_test half_edges twins_pass h l

  pub twin_lt : twin h < half_edges
  unfolding twin_test
  twin_lt = ltb-true (twin h) half_edges (and_left (ltb (twin h) half_edges) _ twin_passes)

  pub twin_edge : edge_of (twin h) ≡ edge_of h
  unfolding twin_test
  twin_edge =
      eqb-true (edge_of (twin h)) (edge_of h) (and_left (eqb (edge_of (twin h)) (edge_of h)) _ (and_right (ltb (twin h) half_edges) _ twin_passes))

  twin_slot : pick (eqb (first_slot (edge_of h)) (half_slot h)) (not (eqb (first_slot (edge_of h)) (half_slot (twin h)))) (eqb (first_slot (edge_of h)) (half_slot (twin h))) ≡ true
  unfolding twin_test
  twin_slot = and_right (eqb (edge_of (twin h)) (edge_of h)) _ (and_right (ltb (twin h) half_edges) _ twin_passes)

  -- the one half-edge of an edge lies in its first slot, the other in its second
  pub twin_second : first_slot (edge_of h) ≡ half_slot h → eqb (first_slot (edge_of h)) (half_slot (twin h)) ≡ false
  twin_second e = borrow.Author.Tests.not-true (eqb (first_slot (edge_of h)) (half_slot (twin h))) (rw (eq-eqb (first_slot (edge_of h)) (half_slot h) e) at twin_slot)

  pub twin_first : first_slot (edge_of h) ≢ half_slot h → eqb (first_slot (edge_of h)) (half_slot (twin h)) ≡ true
  twin_first e = rw (ne_eqb (first_slot (edge_of h)) (half_slot h) e) at twin_slot

-- the half-edge of edge j in slot s
pub half-slot : (s j : ℕ) → j < 3 → half_slot (3 * s + j) ≡ s
half-slot s j l = omega arith

pub half_place : (s j : ℕ) → j < 3 → rank_of (3 * s + j) ≡ j
half_place s j l = omega arith

pub half-edge : (s j : ℕ) → j < 3 → edge_of (3 * s + j) ≡ slot_edge s j
unfolding edge_of
half-edge s j l = rw (half-slot s j l, half_place s j l)

-- the half-edge of edge e in its first slot
pub first_half : {e h : ℕ} → e < 6 → h ≡ half_of (first_slot e) e → (edge_of h ≡ e) × (half_slot h ≡ first_slot e) × (h < half_edges)
unfolding half_of
first_half {e} {h} le q =
    let S = first-slot e le in
    (rw q (half-edge (first_slot e) (edge_rank (first_slot e) e) S.place_lt ∙ S.edge_is), rw q (half-slot (first_slot e) (edge_rank (first_slot e) e) S.place_lt), omega (arith, q, S.place_lt, S.lt))

-- the edge of a byte that is no half-edge is that of one of the last slot
past_test : ℕ → Bool
past_test h = ltb h half_edges || eqb (edge_of (9 + h % 3)) (edge_of h)

past_passes : every past_test 256 ≡ true
unfolding every past_test edge_of
past_passes = refl

pub edge_past : (h : ℕ) → h < 256 → half_edges ≤ h → edge_of (9 + h % 3) ≡ edge_of h
unfolding past_test
edge_past h l g = eqb-true (edge_of (9 + h % 3)) (edge_of h) (rw (le-ltb h half_edges g) at (every_is past_test 256 past_passes h l))
