-- The mates of a cell's crossings meet what a walk asks, from the laws of a face, on any slot.
use Prim.Native.Nat.{ℕ, ◌+◌, ◌*◌, ◌/◌, ◌<◌}
use mathlib.Core.Path.{◌≡◌, sym, ap, ◌∙◌}
use mathlib.Core.Logic.{◌⊎◌, ◌≢◌, ⊎_elim}
use native.Mathlib.Omega.{arith}
use Rattle.slots.specs.Slots.{slot_edge, edge_rank, first_slot, second_slot}
use Rattle.slots.proofs.Slots.{EdgeSlot, first-slot, second-slot, slot-edge, two_slots}
use Rattle.face.specs.Face.{joined, count_on}
use Rattle.face.specs.claims.Claims.{unjoined}
use Rattle.face.proofs.Ends.{edge_lt as face-edge-lt, edge_with}
use Rattle.face.proofs.Claims.{face_laws}
use Rattle.walk.specs.claims.Claims.{Darts, WalkLaws}
use Rattle.walk.specs.Darts.{half, rev}
use Rattle.walk.specs.claims.Step as walk
use Rattle.walk.proofs.Step as walks
use Rattle.walk.proofs.Claims.{walk_laws}
use Rattle.cell.specs.Cell.{Edges, crossings, edge, index, number, join_at, joined_to, mate, first_slot_at, second_slot_at, slot, step}
use Rattle.cell.proofs.Lay.{lay}
use Rattle.cell.proofs.Step.{number_lt, edge-number, index_number, slot_first, slot_second}
use Rattle.cell.proofs.Reach.{slot-count}

module _ (w : Edges) where
  abbrev N : ℕ
  N = crossings w

  -- crossing x of a slot: its edge there, its index, and that it is a crossing of the slot's face
  module _ (s x : ℕ) where
    abbrev ab : ℕ
    ab = w.count (slot_edge s 0)

    abbrev ac : ℕ
    ac = w.count (slot_edge s 1)

    abbrev bc : ℕ
    bc = w.count (slot_edge s 2)

    abbrev j : ℕ
    j = edge_rank s (edge w x)

    abbrev t : ℕ
    t = index w x

    pub mate_joined : {i u : ℕ} → join_at w s x ≡ joined i u → mate w s x ≡ number w (slot_edge s i) u
    unfolding mate joined_to
    mate_joined e = rw e

    pub mate_unjoined : join_at w s x ≡ unjoined → mate w s x ≡ N
    unfolding mate joined_to
    mate_unjoined e = rw e

    -- what a segment on the slot leads to
    module _ {i u : ℕ} (e : join_at w s x ≡ joined i u) where
      there : u < count_on ab ac bc i
      unfolding join_at
      there = ((face_laws ab ac bc).there j t i u e).1

      pub joined_edge : i < 3
      joined_edge = face-edge-lt (edge_with ab ac bc i u there)

      pub joined_index : u < w.count (slot_edge s i)
      joined_index = rw (slot-count w s i joined_edge) at there

    module _ (l : x < N) (S : EdgeSlot (edge w x) s) where
      within : t < count_on ab ac bc j
      within = rw (slot-count w s j S.place_lt, S.edge_is) ((lay w).index_lt x l)

      -- joined or not
      pub mate_cases : ((i : ℕ) × (u : ℕ) × (join_at w s x ≡ joined i u)) ⊎ (join_at w s x ≡ unjoined)
      unfolding join_at
      mate_cases = (face_laws ab ac bc).cases j t within

      -- the number of the crossing
      here : number w (slot_edge s j) t ≡ x
      here = ap (λ k. number w k t) S.edge_is ∙ (lay w).back x l

  module _ {s x : ℕ} (l : x < N) (S : EdgeSlot (edge w x) s) where
    abbrev sl : s < 4
    sl = S.lt

    module _ {i u : ℕ} (e : join_at w s x ≡ joined i u) where
      il : i < 3
      il = joined_edge s x e

      kl : slot_edge s i < 6
      kl = (slot-edge s i sl il).lt

      back : join_at w s (number w (slot_edge s i) u) ≡ joined (edge_rank s (edge w x)) (index w x)
      unfolding join_at
      back =
          rw (edge-number w (slot_edge s i) u kl (joined_index s x e), index_number w (slot_edge s i) u kl (joined_index s x e), (slot-edge s i sl il).place_is)
          ((face_laws (w.count (slot_edge s 0)) (w.count (slot_edge s 1)) (w.count (slot_edge s 2))).back (edge_rank s (edge w x)) (index w x) i u e)

      pub joined_lt : mate w s x < N
      joined_lt = rw (mate_joined s x e) (number_lt w (slot_edge s i) u kl (joined_index s x e))

      joined_back : mate w s (mate w s x) ≡ x
      joined_back = ap (mate w s) (mate_joined s x e) ∙ mate_joined s (number w (slot_edge s i) u) back ∙ here s x l S

      joined_other : mate w s x ≢ x
      unfolding join_at
      joined_other q =
          let m : number w (slot_edge s i) u ≡ x = sym (mate_joined s x e) ∙ q in
          let a : slot_edge s i ≡ edge w x = sym (edge-number w (slot_edge s i) u kl (joined_index s x e)) ∙ ap (edge w) m in
          let b : u ≡ index w x = sym (index_number w (slot_edge s i) u kl (joined_index s x e)) ∙ ap (index w) m in
          let k : edge_rank s (edge w x) ≡ i = sym (ap (edge_rank s) a) ∙ (slot-edge s i sl il).place_is in
          (face_laws (w.count (slot_edge s 0)) (w.count (slot_edge s 1)) (w.count (slot_edge s 2))).another (edge_rank s (edge w x)) (index w x) i u e (k, sym b)

      joined_lies : (first_slot (edge w (mate w s x)) ≡ s) ⊎ (second_slot (edge w (mate w s x)) ≡ s)
      joined_lies = rw (mate_joined s x e, edge-number w (slot_edge s i) u kl (joined_index s x e)) (slot-edge s i sl il).on

    mate_both : mate w s x < N → mate w s (mate w s x) ≡ x
    mate_both h = ⊎_elim (λ q. joined_back q.2) (λ q. absurd (omega (arith, mate_unjoined s x q))) (mate_cases s x l S)

    mate_other : mate w s x ≢ x
    mate_other = ⊎_elim (λ q. joined_other q.2) (λ q e. omega (arith, mate_unjoined s x q)) (mate_cases s x l S)

    mate_lies : mate w s x < N → (first_slot (edge w (mate w s x)) ≡ s) ⊎ (second_slot (edge w (mate w s x)) ≡ s)
    mate_lies h = ⊎_elim (λ q. joined_lies q.2) (λ q. absurd (omega (arith, mate_unjoined s x q))) (mate_cases s x l S)

  -- the slot of a dart has its edge
  pub slot_has : (d : ℕ) → d < 2 * N → EdgeSlot (edge w (d / 2)) (slot w d)
  slot_has = walks.by_parity N (λ d. EdgeSlot (edge w (d / 2)) (slot w d))
      (λ x l. let h : 2 * x / 2 ≡ x = omega arith in rw (h, slot_first w x) (first-slot (edge w x) ((lay w).edge_lt x l)))
      (λ x l. let h : (2 * x + 1) / 2 ≡ x = omega arith in rw (h, slot_second w x) (second-slot (edge w x) ((lay w).edge_lt x l)))

  pub ports : walk.Ports N (first_slot_at w) (second_slot_at w) (mate w)
  unfolding slot
  ports = record {
    apart = λ x l e. omega (arith, e, (two_slots (edge w x) ((lay w).edge_lt x l)).apart);
    both = λ d l h. mate_both (omega arith) (slot_has d l) h;
    other = λ d l. mate_other (omega arith) (slot_has d l);
    lies = λ d l h. mate_lies (omega arith) (slot_has d l) h;
  }

  pub darts : Darts (2 * N) N (step w) rev half
  unfolding step
  darts = walks.darts N (first_slot_at w) (second_slot_at w) (mate w) ports

  pub laws : WalkLaws N (step w)
  laws = walk_laws N (step w) rev darts
