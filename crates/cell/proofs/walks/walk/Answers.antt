use native.Mathlib.Omega.{arith}
use mathlib.Core.Path.{sym, ◌∙◌}
use lib.ListN.{length-set}
use Rattle.cell.proofs.Ready.{onward_on, onward_end}
use Rattle.cell.proofs.Recording.{lent_met, recording_start, recording_point, recording_ready, recording_long, recording_end, recording_lt, recording_home, recording_met, recording_on, met_above}
use Rattle.cell.proofs.walks.walk.Goals as goal

pub met-requires : goal.met-requires
met-requires c = omega (arith, c.requires.inside, c.requires.all, c.requires.marked.long)

pub returns-then-met : goal.returns-then-met
returns-then-met c = lent_met c.requires (sym c.met.ensures ∙ c.if-met.true)

pub start_at-d-requires : goal.start_at-d-requires
start_at-d-requires c = record { routed = c.requires.routed; p_bound = omega (arith, c.requires.inside, c.requires.all) }

pub loop-e-init : goal.loop-e-init
loop-e-init c = recording_start c.requires c.start_at-d.ensures

pub overflow_cast-halves : goal.overflow_cast-halves
overflow_cast-halves c = omega (arith, c.loop-e.invariant.is_dart.half_lt)

pub bounds-halves-k : goal.bounds-halves-k
bounds-halves-k c = (recording_long c.requires c.loop-e.invariant).1

pub overflow_mul-points : goal.overflow_mul-points
overflow_mul-points c = omega (arith, c.loop-e.invariant.is_dart.half_lt)

pub overflow_add-points : goal.overflow_add-points
overflow_add-points c = omega (arith, c.loop-e.invariant.is_dart.half_lt)

pub offset_bounds-routes-h : goal.offset_bounds-routes-h
offset_bounds-routes-h c = omega (arith, c.loop-e.invariant.is_dart.half_lt)

pub bounds-routes-h : goal.bounds-routes-h
bounds-routes-h c = omega (arith, c.loop-e.invariant.is_dart.half_lt)

pub overflow_add-points-in-loop-e : goal.overflow_add-points-in-loop-e
overflow_add-points-in-loop-e c = omega (arith, recording_point c.requires c.loop-e.invariant)

pub overflow_cast-points : goal.overflow_cast-points
overflow_cast-points c = omega (arith, recording_point c.requires c.loop-e.invariant)

pub offset_bounds-points-k : goal.offset_bounds-points-k
offset_bounds-points-k c = omega (arith, (recording_long c.requires c.loop-e.invariant).2)

pub bounds-points-k : goal.bounds-points-k
bounds-points-k c = omega (arith, (recording_long c.requires c.loop-e.invariant).2)

pub overflow_add-k : goal.overflow_add-k
overflow_add-k c = omega (arith, (recording_long c.requires c.loop-e.invariant).2)

pub next-requires : goal.next-requires
next-requires c = recording_ready c.requires c.loop-e.invariant

pub shape_of-marks-in_default : goal.shape_of-marks-in_default
shape_of-marks-in_default c = c.loop-e.invariant.used.marks_kept.long

pub shape_of-halves-in_default : goal.shape_of-halves-in_default
shape_of-halves-in_default c = simp length-set c.loop-e.invariant.used.halves_kept.long

pub shape_of-points-in_default : goal.shape_of-points-in_default
shape_of-points-in_default c = simp length-set c.loop-e.invariant.used.points_kept.long

pub returns-in_default : goal.returns-in_default
returns-in_default c = recording_end c.requires c.loop-e.invariant (onward_end _ _ c.next.ensures c.in_default.is)

pub shape_of-marks-then-x-p : goal.shape_of-marks-then-x-p
shape_of-marks-then-x-p c = c.loop-e.invariant.used.marks_kept.long

pub shape_of-halves-then-x-p : goal.shape_of-halves-then-x-p
shape_of-halves-then-x-p c = simp length-set c.loop-e.invariant.used.halves_kept.long

pub shape_of-points-then-x-p : goal.shape_of-points-then-x-p
shape_of-points-then-x-p c = simp length-set c.loop-e.invariant.used.points_kept.long

pub returns-then-x-p : goal.returns-then-x-p
returns-then-x-p c = recording_home c.requires c.loop-e.invariant (onward_on c.next.ensures c.in-Some.is) c.still-normal.ensures c.if-x-p.true

pub met-requires-in-loop-e : goal.met-requires-in-loop-e
met-requires-in-loop-e c = (recording_lt c.requires c.loop-e.invariant (onward_on c.next.ensures c.in-Some.is)).0

pub shape_of-marks-then-met-2 : goal.shape_of-marks-then-met-2
shape_of-marks-then-met-2 c = c.loop-e.invariant.used.marks_kept.long

pub shape_of-halves-then-met-2 : goal.shape_of-halves-then-met-2
shape_of-halves-then-met-2 c = simp length-set c.loop-e.invariant.used.halves_kept.long

pub shape_of-points-then-met-2 : goal.shape_of-points-then-met-2
shape_of-points-then-met-2 c = simp length-set c.loop-e.invariant.used.points_kept.long

pub returns-then-met-2 : goal.returns-then-met-2
returns-then-met-2 c = recording_met c.requires c.loop-e.invariant (onward_on c.next.ensures c.in-Some.is) (sym c.met-in-loop-e.ensures ∙ c.if-met-2.true)

pub overflow_cast-marks : goal.overflow_cast-marks
overflow_cast-marks c = omega (arith, c.requires.inside, c.requires.all, c.requires.routed.few)

pub offset_bounds-marks-x : goal.offset_bounds-marks-x
offset_bounds-marks-x c = omega (arith, recording_lt c.requires c.loop-e.invariant (onward_on c.next.ensures c.in-Some.is))

pub bounds-marks-x : goal.bounds-marks-x
bounds-marks-x c = omega (arith, recording_lt c.requires c.loop-e.invariant (onward_on c.next.ensures c.in-Some.is))

pub loop-e-smaller : goal.loop-e-smaller
loop-e-smaller c = omega (arith, (recording_long c.requires c.loop-e.invariant).0)

pub loop-e-preserved : goal.loop-e-preserved
loop-e-preserved c = recording_on c.requires c.loop-e.invariant (onward_on c.next.ensures c.in-Some.is) c.still-normal.ensures (omega (arith, met_above _ _ _ (sym c.met-in-loop-e.ensures ∙ c.if-met-2.false), c.if-x-p.false))
