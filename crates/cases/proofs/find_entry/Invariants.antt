use mathlib.Core.Path.{◌≡◌}
use mathlib.Core.Bool.{true}
use Rattle.cell.specs.Level.{by_edge}
use Rattle.cell.specs.Common.{is_common}
use Rattle.cases.specs.claims.Cases.{from_digits}
use Rattle.cases.proofs.find_entry.Given as goal

abbrev pub invariant-loop-count : goal.invariant-loop-count
invariant-loop-count l = (is_common (by_edge l.fn.counts) ≡ true) × (l.n ≡ from_digits (by_edge l.fn.counts) l.count-index)
