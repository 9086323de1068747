-- A step of a cell follows a segment of a face, and the segments of a cell's faces are the darts that go on, two to each.
use Prim.Native.Nat.{ℕ, ◌+◌, ◌*◌, ◌/◌, ◌≤◌, ◌<◌}
use mathlib.Core.Path.{◌≡◌, refl, sym, ap, ◌∙◌}
use mathlib.Core.Logic.{◌≢◌, ⊎_elim}
use mathlib.Core.Bool.{Bool, true, false, ◌&&◌, ◌||◌}
use native.Mathlib.Omega.{arith}
use lib.Dec.{eqb}
use borrow.Author.Tests.{eqb-true, eqb-false, eq-eqb}
use Rattle.counting.specs.Lists.{tally}
use Rattle.slots.specs.Slots.{edge_rank, contains, first_slot, second_slot}
use Rattle.slots.proofs.Slots.{EdgeSlot, edge_slot, one_of_two, two_slots, slot-edge}
use Rattle.walk.specs.Darts.{half, rev}
use Rattle.walk.specs.claims.Claims.{flat}
use Rattle.walk.proofs.Step as walks
use Rattle.cell.specs.Cell.{Edges, crossings, edge, mate, first_slot_at, second_slot_at, slot, step}
use Rattle.cell.specs.claims.Claims.{Lies, Joined, AllJoined, runs_along, StepOf}
use Rattle.cell.proofs.Lay.{lay}
use Rattle.cell.proofs.Step.{step_is, slot_first, slot_second}
use Rattle.cell.proofs.Mates.{slot_has, ports, darts, mate_cases, mate_unjoined, joined_lt}
use Rattle.cell.proofs.Segments.{tally_ext, segment_most, segment_once}

pub contained : {k s : ℕ} → EdgeSlot k s → contains k s ≡ true
contained {k} {s} S = rw S.edge_is at (slot-edge s (edge_rank s k) S.lt S.place_lt).within

module _ (w : Edges) where
  abbrev N : ℕ
  N = crossings w

  -- the two darts of a crossing leave by its two slots
  slots_apart : (d : ℕ) → d < 2 * N → slot w (rev d) ≢ slot w d
  slots_apart = walks.by_parity N (λ d. slot w (rev d) ≢ slot w d)
      (λ x l e. omega (arith, (two_slots (edge w x) ((lay w).edge_lt x l)).apart, rw (walks.rev_first x, slot_second w x, slot_first w x) at e))
      (λ x l e. omega (arith, (two_slots (edge w x) ((lay w).edge_lt x l)).apart, rw (walks.rev_second x, slot_second w x, slot_first w x) at e))

  lies_at : (d : ℕ) → d < 2 * N → Lies w (slot w d) (d / 2)
  lies_at d l = record { slot_lt = (slot_has w d l).lt; inside = omega arith; on = contained (slot_has w d l) }

  module _ (d : ℕ) (l : d < 2 * N) (on : step w d < 2 * N) where
    goes : mate w (slot w d) (d / 2) < N
    unfolding step slot
    goes = walks.live N (first_slot_at w) (second_slot_at w) (mate w) (ports w) d on

    back_slot : slot w (rev (step w d)) ≡ slot w d
    unfolding slot
    back_slot =
        ap (λ x. slot w (rev x)) (step_is w d)
        ∙ walks.land_face N (first_slot_at w) (second_slot_at w) (mate w) (slot w d) (mate w (slot w d) (d / 2)) goes ((ports w).lies d l goes)

    step_half : step w d / 2 ≡ mate w (slot w d) (d / 2)
    step_half = ap half (step_is w d) ∙ walks.land_half N (first_slot_at w) (second_slot_at w) (mate w) (slot w d) (mate w (slot w d) (d / 2)) goes

    back_lt : rev (step w d) < 2 * N
    back_lt = walks.rev_lt N (step w d) on

    -- the next dart's edge is on the slot, and the next dart leaves by its other
    pub next_on : contains (edge w (step w d / 2)) (slot w d) ≡ true
    next_on = rw (back_slot, walks.half_rev (step w d)) at (contained (slot_has w (rev (step w d)) back_lt))

    pub next_apart : slot w d ≢ slot w (step w d)
    next_apart e = slots_apart (step w d) on (back_slot ∙ e)

    joined-on : Joined w (slot w d) (d / 2)
    joined-on =
        ⊎_elim (λ q. rw q.2) (λ q. absurd (omega (arith, mate_unjoined w (slot w d) (d / 2) q, goes)))
        (mate_cases w (slot w d) (d / 2) (omega arith) (slot_has w d l))

    pub step_of : StepOf w d
    step_of = record {
      lies = lies_at d l;
      joined = joined-on;
      there = record { slot_lt = (slot_has w d l).lt; inside = omega arith; on = next_on };
      to = step_half;
      turned = next_apart;
    }

  -- a crossing that lies on a slot and is joined there goes on
  module _ (s x : ℕ) (L : Lies w s x) where
    edge_lt : edge w x < 6
    edge_lt = (lay w).edge_lt x L.inside

    here : EdgeSlot (edge w x) s
    here = edge_slot (edge w x) s edge_lt L.slot_lt L.on

    mate_lt : Joined w s x → mate w s x < N
    mate_lt j =
        ⊎_elim (λ q. joined_lt w L.inside here q.2) (λ q. absurd (not_joined (rw q at j))) (mate_cases w s x L.inside here)
      where
        not_joined : ◌≡◌ {A = ℕ} 1 0 → ⊥
        not_joined e = omega (arith, e)

    -- the dart of x by slot s
    record From : Type 0 where
      d : ℕ
      lt : d < 2 * N
      of : d / 2 ≡ x
      by : slot w d ≡ s

    from : From
    from =
        ⊎_elim
        (λ (e : first_slot (edge w x) ≡ s). record { d = 2 * x; lt = omega (arith, L.inside); of = omega arith; by = slot_first w x ∙ e })
        (λ (e : second_slot (edge w x) ≡ s). record { d = 2 * x + 1; lt = omega (arith, L.inside); of = omega arith; by = slot_second w x ∙ e })
        (one_of_two (edge w x) s edge_lt L.slot_lt L.on)

  pub goes_on : (d : ℕ) → d < 2 * N → Joined w (slot w d) (d / 2) → step w d < 2 * N
  goes_on d l j =
      let m = mate_lt (slot w d) (d / 2) (lies_at d l) j in
      let h : step w d / 2 ≡ mate w (slot w d) (d / 2) =
      ap half (step_is w d) ∙ walks.land_half N (first_slot_at w) (second_slot_at w) (mate w) (slot w d) (mate w (slot w d) (d / 2)) m in
      omega (arith, h, m)

  -- the darts along a segment are that of its one end, and the one back
  module _ (s x : ℕ) (L : Lies w s x) (j : Joined w s x) where
    F : From s x L
    F = from s x L

    abbrev d : ℕ
    d = F.d

    on : step w d < 2 * N
    on = goes_on d F.lt (rw (F.by, F.of) j)

    abbrev b : ℕ
    b = rev (step w d)

    b_slot : slot w b ≡ s
    b_slot = back_slot d F.lt on ∙ F.by

    b_half : b / 2 ≡ mate w s x
    b_half = walks.half_rev (step w d) ∙ step_half d F.lt on ∙ rw (F.by, F.of) refl

    same : (e : ℕ) → runs_along w s x e ≡ (eqb e d || eqb e b)
    unfolding runs_along
    same e = go (eqb e d) (eqb e b) refl refl
      where
        at : (a : ℕ) → a < 2 * N → slot w a ≡ s → eqb e a ≡ false → slot w e ≡ s → e / 2 ≡ a / 2 → ⊥
        at a la sa ne se h = ⊎_elim (λ q. eqb-false e a ne q) (λ q. slots_apart a la (ap (slot w) (sym q) ∙ se ∙ sym sa)) (walks.same_half e a h)

        go : (p q : Bool) → eqb e d ≡ p → eqb e b ≡ q → (eqb (slot w e) s && (eqb (e / 2) x || eqb (e / 2) (mate w s x))) ≡ (p || q)
        go true q ep eq = rw (eqb-true e d ep, eq-eqb (slot w d) s F.by, eq-eqb (d / 2) x F.of) refl
        go false true ep eq = rw (eqb-true e b eq, eq-eqb (slot w b) s b_slot, eq-eqb (b / 2) (mate w s x) b_half) (or_true (eqb (b / 2) x))
          where
            or_true : (c : Bool) → (c || true) ≡ true
            or_true true = refl
            or_true false = refl
        go false false ep eq = none (eqb (slot w e) s) (eqb (e / 2) x) (eqb (e / 2) (mate w s x)) refl refl refl
          where
            none : (a c f : Bool) → eqb (slot w e) s ≡ a → eqb (e / 2) x ≡ c → eqb (e / 2) (mate w s x) ≡ f → (a && (c || f)) ≡ false
            none false c f ea ec ef = refl
            none true true f ea ec ef = absurd (at d F.lt F.by ep (eqb-true (slot w e) s ea) (eqb-true (e / 2) x ec ∙ sym F.of))
            none true false true ea ec ef = absurd (at b (back_lt d F.lt on) b_slot eq (eqb-true (slot w e) s ea) (eqb-true (e / 2) (mate w s x) ef ∙ sym b_half))
            none true false false ea ec ef = refl

    pub along_most : tally (runs_along w s x) (flat N (step w)) ≤ 1
    along_most = rw (tally_ext (runs_along w s x) (λ e. eqb e d || eqb e b) same (flat N (step w))) (segment_most N (step w) (darts w) d F.lt on)

    pub along_once : AllJoined w → tally (runs_along w s x) (flat N (step w)) ≡ 1
    along_once all =
        tally_ext (runs_along w s x) (λ e. eqb e d || eqb e b) same (flat N (step w))
        ∙ segment_once N (step w) (darts w) d F.lt on (λ e l. goes_on e l (all (slot w e) (e / 2) (lies_at e l)))
