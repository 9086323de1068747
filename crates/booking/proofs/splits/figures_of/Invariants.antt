use Prim.Native.Nat.{◌+◌, ◌-◌, ◌≤◌}
use mathlib.Core.Path.{◌≡◌}
use Rattle.booking.specs.work.Sums.{UnderWay}
use Rattle.booking.proofs.splits.figures_of.Given as goal

-- each figure is what was added and what is left
abbrev pub invariant-loop-splits : goal.invariant-loop-splits
invariant-loop-splits l = UnderWay l.d1 l.d2 (l.most - l.splits) l.x l.y l.splits l.inner l.triangles × (l.most ≡ l.d1 + l.d2) × (l.d1 ≤ 65535) × (l.d2 ≤ 65535)
