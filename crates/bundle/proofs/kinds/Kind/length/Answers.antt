use Rattle.std.proofs.Common.{rules}
use Rattle.bundle.specs.Record.{length_of}
use Rattle.bundle.proofs.kinds.Kind.length.Goals as goal

pub returns-in-Cell : goal.returns-in-Cell
unfolding length_of
returns-in-Cell c = search rules

pub returns-in-Edge : goal.returns-in-Edge
unfolding length_of
returns-in-Edge c = search rules

pub returns-in-End : goal.returns-in-End
unfolding length_of
returns-in-End c = search rules

pub returns-in-Wide : goal.returns-in-Wide
unfolding length_of
returns-in-Wide c = search rules

pub returns-in-Look : goal.returns-in-Look
unfolding length_of
returns-in-Look c = search rules
