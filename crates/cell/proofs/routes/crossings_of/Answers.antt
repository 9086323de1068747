use native.Mathlib.Omega.{arith}
use mathlib.Core.Path.{◌≡◌, ◌∙◌, ap}
use Rattle.counting.specs.Lists.{pre}
use Rattle.cell.specs.Of.{count_of}
use Rattle.cell.proofs.Route.{sum_none, sum_more}
use Rattle.cell.proofs.routes.crossings_of.Goals as goal

pub loop-k-init : goal.loop-k-init
loop-k-init c = sum_none

pub overflow_add-n : goal.overflow_add-n
overflow_add-n c = omega (arith, c.loop-k.invariant.few, c.count_at-n.ensures.1)

pub loop-k-preserved : goal.loop-k-preserved
loop-k-preserved c = sum_more c.loop-k.invariant _ c.count_at-n.ensures

pub returns : goal.returns
returns c = let e : c.loop-k.k ≡ 6 = omega arith in (c.loop-k.invariant.is ∙ ap (pre (count_of c.args.c)) e, omega (arith, c.loop-k.invariant.few))
