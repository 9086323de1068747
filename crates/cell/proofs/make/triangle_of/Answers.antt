use Prim.Native.Nat.{◌<◌}
use mathlib.Core.Path.{◌∙◌, subst}
use Rattle.manifold.specs.Shape.{many_of}
use Rattle.manifold.proofs.Shapes.{shape_else}
use Rattle.cell.proofs.LoopTriangles.{traced_as, this_single, this_first, this_second, this_fan}
use Rattle.cell.proofs.make.triangle_of.Goals as goal

pub whole_of-requires : goal.whole_of-requires
whole_of-requires c = traced_as c.if-n-eq3.true c.requires.recorded_loop

pub returns-then-n-eq3 : goal.returns-then-n-eq3
returns-then-n-eq3 c = c.whole_of.ensures ∙ this_single c.args.c c.args.halves.now c.args.points.now _ _ _ c.if-n-eq3.true

pub half0_of-requires : goal.half0_of-requires
half0_of-requires c = traced_as (c.requires.n_value c.if-two.true) c.requires.recorded_loop

pub returns-then-k-eq0 : goal.returns-then-k-eq0
returns-then-k-eq0 c = c.half0_of.ensures ∙ this_first c.args.c c.args.halves.now c.args.points.now _ _ _ (c.requires.n_value c.if-two.true) c.if-two.true c.if-k-eq0.true

pub half1_of-requires : goal.half1_of-requires
half1_of-requires c = traced_as (c.requires.n_value c.if-two.true) c.requires.recorded_loop

pub returns-then-two : goal.returns-then-two
returns-then-two c = c.half1_of.ensures ∙ this_second c.args.c c.args.halves.now c.args.points.now _ _ _ (c.requires.n_value c.if-two.true) c.if-two.true c.if-k-eq0.false

pub spoke_of-requires : goal.spoke_of-requires
spoke_of-requires c = record { recorded_loop = c.requires.recorded_loop; k_lt_n = subst (λ sh. c.args.k < many_of sh c.args.n) (shape_else _ _ c.if-n-eq3.false (λ _. c.if-two.false)) c.requires.k_bound }

pub returns : goal.returns
returns c = c.spoke_of.ensures ∙ this_fan c.args.c c.args.halves.now c.args.points.now _ _ _ c.if-n-eq3.false c.if-two.false
