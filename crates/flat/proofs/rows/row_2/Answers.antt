use mathlib.Core.Path.{refl}
use native.Mathlib.Omega.{arith}
use Rattle.flat.specs.Rows.{bad_pairs}
use Rattle.flat.proofs.rows.row_2.Goals as goal

pub returns : goal.returns
unfolding bad_pairs
returns c = record { value = refl; small = λ i. omega (arith, c.type_inv.edges i) }
