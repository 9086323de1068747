use Prim.Native.Nat.{◌-◌, ◌≤◌}
use mathlib.Core.Path.{◌≡◌}
use Rattle.counting.specs.Stored.{filled}
use Rattle.bundle.specs.Bundle.{edges, count_after}
use Rattle.bundle.proofs.looks.replace.Given as goal

abbrev pub invariant-loop-m : goal.invariant-loop-m
invariant-loop-m l = let s = l.looked.bytes.now in (l.m ≤ l.looked.looks) × (l.counts ≡ filled (count_after s l.m) (edges s) l.initial.counts)

abbrev pub decreases-loop-m : goal.decreases-loop-m
decreases-loop-m l = l.looked.looks - l.m
