use mathlib.Core.Path.{◌≡◌}
use Rattle.counting.specs.Stored.{filled}
use Rattle.layers.specs.work.Work.{name_from}
use Rattle.layers.proofs.tables.write_names.Given as goal

abbrev pub invariant-loop-j : goal.invariant-loop-j
invariant-loop-j l = l.own ≡ filled (name_from l.names l.from) l.j l.initial.own
