use Prim.Native.Nat.{◌-◌, ◌/◌}
use native.Mathlib.Omega.{arith}
use Rattle.booking.specs.work.Sums.{of_three}
use Rattle.booking.proofs.Totals.{beside_few}
use Rattle.booking.proofs.of_three.Goals as goal

pub overflow_add-result : goal.overflow_add-result
overflow_add-result c = let A = c.args in
    omega (arith, c.beside_of.ensures, beside_few ((A.most - A.least) / 2) ((A.most - A.mid) / 2))

pub returns : goal.returns
unfolding of_three
returns c = (cc, omega arith)
