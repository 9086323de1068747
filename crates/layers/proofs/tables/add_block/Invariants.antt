use Prim.Native.Nat.{◌+◌, ◌*◌, ◌-◌, ◌≤◌}
use mathlib.Core.Path.{◌≡◌}
use lib.Seq.{sets}
use Rattle.counting.specs.Lists.{values}
use Rattle.layers.specs.work.Work.{marked_start}
use Rattle.layers.proofs.tables.add_block.Given as goal

abbrev pub invariant-loop-e : goal.invariant-loop-e
invariant-loop-e l = (l.sum ≡ marked_start l.counts l.used l.m l.e) × (l.sum ≤ 65535 * l.e) × (l.starts ≡ sets l.initial.starts l.at (values (λ i. marked_start l.counts l.used l.m (l.at + i)) (l.e - l.at)))
