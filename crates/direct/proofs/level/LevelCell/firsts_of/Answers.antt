use native.Mathlib.Omega.{arith}
use mathlib.Core.Path.{refl}
use lib.ListN.{length-set}
use Rattle.cell.specs.Cell.{base}
use Rattle.cell.specs.Of.{edges_of}
use Rattle.cell.proofs.Route.{stored}
use Rattle.direct.proofs.level.LevelCell.firsts_of.Goals as goal

pub loop-k-init : goal.loop-k-init
loop-k-init c = (refl, λ i l. absurd (omega arith))

pub laid_before-requires : goal.laid_before-requires
laid_before-requires c = omega arith

pub bounds-f-k : goal.bounds-f-k
bounds-f-k c = omega (arith, c.loop-k.invariant.0)

pub loop-k-preserved : goal.loop-k-preserved
loop-k-preserved c = (simp length-set c.loop-k.invariant.0, stored (base (edges_of c.args.self.now.cell)) c.loop-k.f c.loop-k.k c.laid_before.result (omega (arith, c.loop-k.invariant.0)) c.loop-k.invariant.1 c.laid_before.ensures)

pub returns : goal.returns
returns c = λ k l. c.loop-k.invariant.1 k (omega arith)
