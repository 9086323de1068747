use Prim.Native.Nat.{ℕ, ◌<◌, min}
use mathlib.Core.Path.{◌≡◌, refl, sym, ap, ◌∙◌}
use native.Mathlib.Omega.{arith}
use Rattle.grid.proofs.Marks.{marked_le, unmarked_less, walking_end, walking_lt, walking_met, walking_more, walking_start}
use Rattle.slots.specs.Slots.{position}
use Rattle.slots.proofs.Slots.{omitted}
use Rattle.grid.proofs.links.spread.Goals as goal

at_rank : (s : ℕ) {r i : ℕ} → i < 3 → r ≡ position s (min i 2) → r ≡ position s i
at_rank s l e = e ∙ ap (position s) (omega arith)

pub loop-p-init : goal.loop-p-init
loop-p-init c = walking_start c.requires _ refl

pub returns-then-marks-c : goal.returns-then-marks-c
returns-then-marks-c c = walking_met c.requires c.loop-p.invariant (omega arith) c.if-marks-c.true

pub overflow_add-met : goal.overflow_add-met
overflow_add-met c = omega (arith, c.loop-p.invariant.counted, marked_le c.loop-p.marks c.args.mark c.args.n, c.requires.few)

pub rank_of-r-requires : goal.rank_of-r-requires
rank_of-r-requires c = record { i_bound = omega arith; s_bound = c.position-s.ensures.1; i_nonzero = λ e. omitted _ _ (sym c.position-s.ensures.0 ∙ sym e) }

pub loop-p-smaller : goal.loop-p-smaller
loop-p-smaller c = let P = c.requires in
    let w = c.loop-p.invariant in
    let g = walking_lt P w in
    unmarked_less _ _ _ _ (omega arith) (omega (arith, g, w.same, P.room)) c.if-marks-c.false

pub loop-p-preserved : goal.loop-p-preserved
loop-p-preserved c = let s = c.position-s.ensures in
    let t = c.rank_of-r.ensures in
    walking_more c.requires c.loop-p.invariant (omega arith) c.if-marks-c.false _ _ _ s.1 (at_rank _ c.loop-p.invariant.rank_lt s.0) t.upper_bound t.value refl

pub returns : goal.returns
returns c = walking_end c.requires c.loop-p.invariant (omega arith)
