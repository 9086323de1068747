use mathlib.Core.Path.{◌∙◌, sym}
use Rattle.grid.specs.Lent.{lent}
use Rattle.grid.proofs.Answers.{verdict}
use Rattle.grid.proofs.Starts.{lists_fine}
use Rattle.grid.proofs.check.Goals as goal

pub judge-requires : goal.judge-requires
judge-requires c = λ e. (lists_fine _ _ _ (sym c.row_2.ensures ∙ e)).0

pub returns : goal.returns
returns c = c.judge.ensures ∙ verdict (lent c.args.grid) _ c.row_2.ensures
