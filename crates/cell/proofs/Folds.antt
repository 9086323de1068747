-- A segment goes along its edge exactly where both its ends are on one edge.
use Prim.Native.Nat.{ℕ, ◌*◌, ◌/◌, ◌<◌}
use mathlib.Core.Path.{◌≡◌, sym, ap, ◌∙◌}
use mathlib.Core.Logic.{◌≢◌, ⊎_elim}
use mathlib.Core.Bool.{true, false}
use native.Mathlib.Omega.{arith}
use native.Mathlib.Decide.{ℕ_discrete}
use lib.Dec.{eqb}
use borrow.Author.Tests.{eq-eqb, ne_eqb}
use Rattle.counting.specs.Lists.{one, after, tally}
use Rattle.counting.proofs.Range.{total_ext, after_lt}
use Rattle.slots.specs.Slots.{slot_edge, edge_rank}
use Rattle.slots.proofs.Slots.{EdgeSlot, slot-edge}
use Rattle.face.specs.Face.{joined, is_along}
use Rattle.face.proofs.Reasons.{reason_laws}
use Rattle.cell.specs.Cell.{Edges, crossings, edge, index, answer_at, join_at, slot, step}
use Rattle.cell.specs.Loop.{loop_size, dart, loop_darts, folded, normal}
use Rattle.cell.proofs.Step.{edge-number}
use Rattle.cell.proofs.Mates.{slot_has, mate_cases, mate_joined, mate_unjoined, joined_edge, joined_index}
use Rattle.cell.proofs.Loops.{dart_live, dart_after, tally_darts}
use Rattle.cell.proofs.Follow.{step_of}

module _ (w : Edges) (d : ℕ) (l : d < 2 * crossings w) (on : step w d < 2 * crossings w) where
  abbrev s : ℕ
  s = slot w d

  abbrev x : ℕ
  x = d / 2

  abbrev j : ℕ
  j = edge_rank s (edge w x)

  S : EdgeSlot (edge w x) s
  S = slot_has w d l

  module _ {i u : ℕ} (e : join_at w s x ≡ joined i u) where
    -- the edge that the segment leads to
    there : edge w (step w d / 2) ≡ slot_edge s i
    there =
        ap (edge w) ((step_of w d l on).to ∙ mate_joined w s x e)
        ∙ edge-number w (slot_edge s i) u (slot-edge s i S.lt (joined_edge w s x e)).lt (joined_index w s x e)

    same : j ≡ i → edge w x ≡ edge w (step w d / 2)
    same q = sym S.edge_is ∙ ap (slot_edge s) q ∙ sym there

    other : j ≢ i → edge w x ≢ edge w (step w d / 2)
    other n q = n (ap (edge_rank s) (q ∙ there) ∙ (slot-edge s i S.lt (joined_edge w s x e)).place_is)

    along_if : j ≡ i → folded w d ≡ true
    unfolding folded answer_at join_at
    along_if q = ap is_along ((reason_laws (w.count (slot_edge s 0)) (w.count (slot_edge s 1)) (w.count (slot_edge s 2))).one_along j (index w x) i u e q)

    round_if : j ≢ i → folded w d ≡ false
    unfolding folded answer_at join_at
    round_if n =
        ⊎_elim (λ q. ap is_along q.1)
        (λ q. absurd (n ((reason_laws (w.count (slot_edge s 0)) (w.count (slot_edge s 1)) (w.count (slot_edge s 2))).along_one j (index w x) i u q)))
        ((reason_laws (w.count (slot_edge s 0)) (w.count (slot_edge s 1)) (w.count (slot_edge s 2))).how j (index w x) i u e)

    at : folded w d ≡ eqb (edge w x) (edge w (step w d / 2))
    at =
        elim (ℕ_discrete j i) [
          | yes q ↦ along_if q ∙ sym (eq-eqb (edge w x) (edge w (step w d / 2)) (same q))
          | no q ↦ round_if q ∙ sym (ne_eqb (edge w x) (edge w (step w d / 2)) (other q))
        ]

  pub folded_ends : folded w d ≡ eqb (edge w (d / 2)) (edge w (step w d / 2))
  folded_ends =
      ⊎_elim (λ q. at q.2) (λ q. absurd (omega (arith, mate_unjoined w s x q, (step_of w d l on).to, on))) (mate_cases w s x (omega arith) S)

-- so normal is as 01 has it
pub normal_ends : (w : Edges) (p : ℕ) → p < crossings w → normal w p ≡ eqb (tally (λ d. eqb (edge w (d / 2)) (edge w (step w d / 2))) (loop_darts w p)) 0
unfolding normal
normal_ends w p l =
    ap (λ n. eqb n 0)
    (tally_darts w p l (folded w)
    ∙ total_ext (λ k. one (folded w (dart w p k))) (λ k. one (eqb (edge w (dart w p k / 2)) (edge w (step w (dart w p k) / 2)))) (loop_size w p) 0
    (λ k _ h. ap one (folded_ends w (dart w p k) (dart_live w p l k (omega arith)) (goes k (omega arith))))
    ∙ sym (tally_darts w p l (λ d. eqb (edge w (d / 2)) (edge w (step w d / 2)))))
  where
    goes : (k : ℕ) → k < loop_size w p → step w (dart w p k) < 2 * crossings w
    goes k h = rw (← dart_after w p l k h) (dart_live w p l (after (loop_size w p) k) (after_lt (loop_size w p) k h))
