use mathlib.Core.Path.{subst}
use Rattle.cell.specs.work.Centres.{IsNest, recorded_place}
use Rattle.cell.proofs.middles.middle_in.Goals as goal

pub nested_middle-requires : goal.nested_middle-requires
nested_middle-requires c = (subst (IsNest c.args.c) c.in-Some.is c.requires).edge_lt

pub returns-in-Some : goal.returns-in-Some
unfolding recorded_place
returns-in-Some c = rw c.in-Some.is c.nested_middle.ensures

pub returns-in-None : goal.returns-in-None
unfolding recorded_place
returns-in-None c = rw c.in-None.is c.middle_of.ensures
