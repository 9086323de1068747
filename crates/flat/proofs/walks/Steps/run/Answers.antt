use mathlib.Core.Path.{refl}
use native.Mathlib.Omega.{arith}
use Rattle.flat.proofs.Walked.{run-end, run_home, run_more, run_short, running_none}
use Rattle.flat.proofs.walks.Steps.run.Goals as goal
use Rattle.flat.proofs.walks.Steps.run.Goals.{then-f-d-via-then-f-d, then-f-d-via-else-f-d+then-next-f}

pub loop-next-init : goal.loop-next-init
loop-next-init c = running_none _ _ _ c.requires

pub overflow_add-k : goal.overflow_add-k
overflow_add-k c = let c-loop = c.loop-next in
    let c-pre = c.requires in
    omega (arith, run_short c.args.self.table c-loop.invariant, c.args.self.table.few)

pub loop-next-smaller : goal.loop-next-smaller
loop-next-smaller c = omega (arith, run_short c.args.self.table c.loop-next.invariant)

pub returns-then-f-d : goal.returns-then-f-d
returns-then-f-d c = elim c.then-f-d.branch [
  | then-f-d-via-then-f-d w ↦ run_home c.args.self.table c.loop-next.invariant _ refl w.if-f-d.true
  | then-f-d-via-else-f-d+then-next-f w ↦ run-end c.args.self.table c.loop-next.invariant _ refl (omega (arith, w.if-next-f.true, c.args.self.table.whole))
]

pub loop-next-preserved : goal.loop-next-preserved
loop-next-preserved c = run_more c.args.self.table c.loop-next.invariant _ refl c.if-f-d.false (omega (arith, c.if-next-f.false, c.args.self.table.whole))
