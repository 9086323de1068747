use mathlib.Core.Path.{refl}
use Rattle.cases.specs.claims.Table.{table_rows}
use Rattle.cases.proofs.numbers.table_rows.Goals as goal

pub returns : goal.returns
unfolding table_rows
returns c = refl
