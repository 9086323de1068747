use Rattle.grid.proofs.Passes.{Passing}
use Rattle.grid.proofs.numbering.pass.Given as goal

abbrev pub invariant-loop-r : goal.invariant-loop-r
invariant-loop-r g l = Passing l.a.head l.a.next l.froma l.toa l.b.head l.b.next l.fromb l.tob l.keys l.many l.initial.at l.initial.out l.r l.ids l.at l.out
