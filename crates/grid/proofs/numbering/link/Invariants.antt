use mathlib.Core.Path.{◌≡◌}
use lib.ListN.{length}
use Rattle.grid.specs.work.Walks.{label_at}
use Rattle.grid.proofs.Passes.{Linking}
use Rattle.grid.proofs.numbering.link.Given as goal

abbrev pub invariant-loop-c : goal.invariant-loop-c
invariant-loop-c g l = (length l.chain.head ≡ length l.initial.chain.head) × (length l.chain.next ≡ length l.initial.chain.next) × Linking (label_at l.labels l.i) l.chain.head l.chain.next l.c
