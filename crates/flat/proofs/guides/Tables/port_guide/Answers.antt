use native.Mathlib.Omega.{arith}
use mathlib.Core.Path.{refl}
use Rattle.flat.proofs.Guided.{port_none, port_some}
use Rattle.flat.proofs.guides.Tables.port_guide.Goals as goal

pub returns-then-q-eq0 : goal.returns-then-q-eq0
returns-then-q-eq0 c = port_none _ _ _ _ _ c.if-q-eq0.true refl (record { low = record { few = omega arith; near = omega arith; ends = λ z. omega arith }; high = record { few = omega arith; near = omega arith; ends = λ z. omega arith }; few = omega arith; upper = omega arith; near = omega arith })

pub returns : goal.returns
returns c = port_some _ _ _ _ _ c.if-q-eq0.false c.guide_at.ensures
