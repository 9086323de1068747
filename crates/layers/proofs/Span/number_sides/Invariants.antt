use Prim.Native.Nat.{ℕ, ◌*◌}
use mathlib.Core.Path.{◌≡◌}
use lib.ListN.{length}
use Rattle.layers.specs.work.Work.{most_numbers, Leading, CrossingsNumbered}
use Rattle.layers.proofs.Span.number_sides.Given as goal

abbrev pub invariant-loop-j : goal.invariant-loop-j
invariant-loop-j l = (length l.over ≡ most_numbers)
    × ((f : ℕ → ℕ) → Leading f l.counts l.starts l.sides l.self.from (6 * l.self.size) l.own_starts → CrossingsNumbered f l.counts l.sides l.self.from l.j l.own_starts l.over)
