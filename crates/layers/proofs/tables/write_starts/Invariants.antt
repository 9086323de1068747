use Rattle.std.specs.Prelude.{min}
use Prim.Native.Nat.{◌*◌}
use Rattle.layers.specs.work.Work.{block_size}
use Rattle.layers.proofs.Steps.{SummedTo}
use Rattle.layers.proofs.tables.write_starts.Given as goal

abbrev pub invariant-loop-b : goal.invariant-loop-b
invariant-loop-b l = SummedTo l.counts l.used l.m l.initial.starts (min (block_size * l.b) l.n) l.s l.starts
