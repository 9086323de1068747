use mathlib.Core.Path.{◌∙◌, sym}
use Rattle.grid.proofs.Starts.{numbers_bad, numbers_fine, starts_left}
use Rattle.grid.proofs.edges.row_2.Goals as goal

pub bad_starts-requires : goal.bad_starts-requires
bad_starts-requires c = (numbers_fine _ _ _ (sym c.bad_numbers.ensures ∙ c.if-bad_numbers.false)).1

pub returns-then-bad_numbers : goal.returns-then-bad_numbers
returns-then-bad_numbers c = c.if-bad_numbers.true ∙ numbers_bad _ _ _ (sym c.bad_numbers.ensures ∙ c.if-bad_numbers.true)

pub returns-else-bad_numbers : goal.returns-else-bad_numbers
returns-else-bad_numbers c = c.bad_starts.ensures ∙ starts_left _ _ _ (sym c.bad_numbers.ensures ∙ c.if-bad_numbers.false)
