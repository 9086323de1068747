use Prim.Native.Nat.{◌-◌}
use lib.ListN.{length}
use Rattle.bundle.specs.work.Kinds.{section_number}
use Rattle.bundle.proofs.Runs.{Going}
use Rattle.bundle.proofs.reader.run_from.Given as goal

abbrev pub invariant-loop-next : goal.invariant-loop-next
invariant-loop-next l = Going l.bytes l.from (section_number l.section) l.at l.count

abbrev pub decreases-loop-next : goal.decreases-loop-next
decreases-loop-next l = length l.bytes - l.at
