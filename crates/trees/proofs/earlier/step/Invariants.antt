use mathlib.Core.Path.{◌≡◌}
use lib.ListN.{length}
use Rattle.trees.proofs.Planted.{Stepped}
use Rattle.trees.proofs.earlier.step.Given as goal

abbrev pub invariant-loop-j : goal.invariant-loop-j
invariant-loop-j l = (length l.seen ≡ length l.initial.seen) × Stepped l.keys (length l.keys) l.initial.prev l.prev l.seen l.j
