use mathlib.Core.Path.{◌≡◌}
use Rattle.counting.specs.Search.{count}
use Rattle.cell.specs.Middles.{is_fan}
use Rattle.cell.proofs.Going.{Going}
use Rattle.cell.proofs.middles.count.Given as goal

abbrev pub invariant-loop-p : goal.invariant-loop-p
invariant-loop-p l = Going l.c l.n l.routes l.initial.marks l.initial.halves l.initial.points l.marks l.halves l.points l.p × (l.t ≡ count (is_fan l.c) l.p)
