use mathlib.Core.Path.{◌≡◌}
use Rattle.grid.specs.Grid.{start}
use Rattle.places.proofs.Fractions.{Fine}
use Rattle.places.proofs.rows.row_17.Given as goal

abbrev pub invariant-loop-n : goal.invariant-loop-n
invariant-loop-n l = record { at : l.g ≡ start l.counts l.n-index; fine : Fine l.counts l.fractions l.g }
