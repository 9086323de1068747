use mathlib.Core.Path.{◌≡◌}
use lib.ListN.{length}
use Rattle.flat.specs.work.Along.{along, crossings_in}
use Rattle.flat.proofs.Walked.{Writing}
use Rattle.flat.proofs.walks.Steps.put_words.Given as goal

abbrev pub invariant-loop-p : goal.invariant-loop-p
invariant-loop-p l = (length l.marks ≡ 65535) × Writing (crossings_in l.self) (along l.self) l.initial.area l.area l.p l.at l.marks
