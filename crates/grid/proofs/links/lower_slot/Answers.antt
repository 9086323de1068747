use Prim.Native.Nat.{◌<◌, ◌≤◌}
use mathlib.Core.Path.{◌≡◌}
use native.Mathlib.Omega.{arith}
use borrow.Author.Tests.{eq-eqb, le-ltb, lt-ltb, ne_eqb}
use Rattle.slots.proofs.Slots.{second_is}
use Rattle.grid.proofs.links.lower_slot.Goals as goal

pub returns-in-0 : goal.returns-in-0
returns-in-0 c = rw (eq-eqb _ _ c.in-0.is) at (second_is c.args.k (omega arith))

pub returns-in-1 : goal.returns-in-1
returns-in-1 c = let n : c.args.k ≡ 0 → ⊥ = λ e. omega arith in
    let l : c.args.k < 3 = omega arith in
    rw (ne_eqb _ _ n, lt-ltb _ _ l) at (second_is c.args.k (omega arith))

pub returns-in_default : goal.returns-in_default
returns-in_default c = let n : c.args.k ≡ 0 → ⊥ = λ e. omega arith in
    let l : 3 ≤ c.args.k = omega arith in
    rw (ne_eqb _ _ n, le-ltb _ _ l) at (second_is c.args.k (omega arith))
