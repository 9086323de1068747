use mathlib.Core.Path.{ap}
use native.Mathlib.Omega.{arith}
use Rattle.manifold.specs.Shape.{many_of}
use Rattle.manifold.proofs.Shapes.{shape_three, shape_four, shape_else}
use Rattle.cell.proofs.LoopTriangles.{traced_as}
use Rattle.cell.proofs.Shaped.{stored_single, stored_double, stored_fan}
use Rattle.cell.proofs.parts.write_shape.Goals as goal

pub whole_of-t-requires : goal.whole_of-t-requires
whole_of-t-requires c = traced_as c.if-n-eq3.true c.requires.recorded_loop

pub put-requires : goal.put-requires
put-requires c = omega (arith, ap (λ s. many_of s c.args.n) (shape_three c.args.n c.args.two c.if-n-eq3.true), c.requires.n_in_bounds)

pub returns-then-n-eq3 : goal.returns-then-n-eq3
returns-then-n-eq3 c = let A = c.args in
    stored_single A.c A.halves.now A.points.now A.n A.two A.area.now A.at c.if-n-eq3.true c.whole_of-t.ensures c.put.ensures

pub half0_of-t-requires : goal.half0_of-t-requires
half0_of-t-requires c = traced_as (c.requires.n_value c.if-two.true) c.requires.recorded_loop

pub put-requires-then-two : goal.put-requires-then-two
put-requires-then-two c = let t = c.if-two.true in
    omega (arith, ap (λ s. many_of s c.args.n) (shape_four c.args.n c.args.two (c.requires.n_value t) t), c.requires.n_in_bounds)

pub half1_of-u-requires : goal.half1_of-u-requires
half1_of-u-requires c = traced_as (c.requires.n_value c.if-two.true) c.requires.recorded_loop

pub overflow_add-at : goal.overflow_add-at
overflow_add-at c = let t = c.if-two.true in
    omega (arith, ap (λ s. many_of s c.args.n) (shape_four c.args.n c.args.two (c.requires.n_value t) t), c.requires.n_in_bounds)

pub put-requires-then-two-2 : goal.put-requires-then-two-2
put-requires-then-two-2 c = let t = c.if-two.true in
    omega (arith, ap (λ s. many_of s c.args.n) (shape_four c.args.n c.args.two (c.requires.n_value t) t), c.requires.n_in_bounds)

pub overflow_add-result-then-two : goal.overflow_add-result-then-two
overflow_add-result-then-two c = let t = c.if-two.true in
    omega (arith, ap (λ s. many_of s c.args.n) (shape_four c.args.n c.args.two (c.requires.n_value t) t), c.requires.n_in_bounds)

pub returns-then-two : goal.returns-then-two
returns-then-two c = let A = c.args in
    let t = c.if-two.true in
    stored_double A.c A.halves.now A.points.now A.n A.two A.area.now A.at (c.requires.n_value t) t c.half0_of-t.ensures c.put-then-two.ensures c.half1_of-u.ensures c.put-then-two-2.ensures

pub write_fan-requires : goal.write_fan-requires
write_fan-requires c = record { recorded_loop = c.requires.recorded_loop; n_in_bounds = omega (arith, ap (λ s. many_of s c.args.n) (shape_else c.args.n c.args.two c.if-n-eq3.false (λ _. c.if-two.false)), c.requires.n_in_bounds) }

pub returns : goal.returns
returns c = let A = c.args in
    let W = c.write_fan.ensures in
    stored_fan A.c A.halves.now A.points.now A.n A.two A.area.now A.at c.if-n-eq3.false c.if-two.false W.0 W.1
