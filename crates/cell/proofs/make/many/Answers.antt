use mathlib.Core.Path.{sym, ap}
use Rattle.manifold.specs.Shape.{many_of}
use Rattle.manifold.proofs.Shapes.{shape_three, shape_four, shape_else}
use Rattle.cell.proofs.make.many.Goals as goal

pub returns-then-n-eq3 : goal.returns-then-n-eq3
returns-then-n-eq3 c = sym (ap (λ sh. many_of sh c.args.n) (shape_three _ _ c.if-n-eq3.true))

pub returns-then-two : goal.returns-then-two
returns-then-two c = sym (ap (λ sh. many_of sh c.args.n) (shape_four _ _ (c.requires c.if-two.true) c.if-two.true))

pub returns-else-two : goal.returns-else-two
returns-else-two c = sym (ap (λ sh. many_of sh c.args.n) (shape_else _ _ c.if-n-eq3.false (λ _. c.if-two.false)))
