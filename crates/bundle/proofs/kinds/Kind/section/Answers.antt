use Rattle.std.proofs.Common.{rules}
use mathlib.Core.Logic.{inl, inr}
use Rattle.bundle.specs.Bundle.{section_of}
use Rattle.bundle.proofs.kinds.Kind.section.Goals as goal

pub returns-in-Cell : goal.returns-in-Cell
unfolding section_of
returns-in-Cell c = search rules

pub returns-in-Edge : goal.returns-in-Edge
unfolding section_of
returns-in-Edge c = elim c.in-Edge.is [ inl e ↦ rw e | inr e ↦ rw e ]

pub returns-in-Look : goal.returns-in-Look
unfolding section_of
returns-in-Look c = search rules

pub returns-in-End : goal.returns-in-End
unfolding section_of
returns-in-End c = search rules
