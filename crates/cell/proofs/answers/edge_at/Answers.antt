use native.Mathlib.Omega.{arith}
use mathlib.Core.Path.{◌∙◌}
use Rattle.cell.proofs.Half.{edge_past}
use Rattle.cell.proofs.answers.edge_at.Goals as goal

pub returns-then-h-lt12 : goal.returns-then-h-lt12
returns-then-h-lt12 c = c.edge_of.ensures.0

pub returns : goal.returns
returns c = c.edge_of-2.ensures.0 ∙ edge_past _ (omega arith) (omega arith)
