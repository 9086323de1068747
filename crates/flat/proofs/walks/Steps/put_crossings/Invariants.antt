use Rattle.flat.specs.work.Along.{along, crossings_in}
use Rattle.flat.proofs.Walked.{Listing, Marking}
use Rattle.flat.proofs.walks.Steps.put_crossings.Given as goal

abbrev pub invariant-loop-i : goal.invariant-loop-i
invariant-loop-i l = Listing (crossings_in l.self) (along l.self) l.d l.m l.at l.initial.area l.e l.i l.area × Marking (crossings_in l.self) (along l.self) l.d l.m l.initial.marks l.e l.i l.marks
