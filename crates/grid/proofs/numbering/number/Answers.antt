use mathlib.Core.Path.{refl}
use native.Mathlib.Omega.{arith}
use lib.ListN.{get_or}
use Rattle.grid.proofs.Turns.{branch_again, branch_new}
use Rattle.grid.proofs.numbering.number.Goals as goal

pub returns-then-base-q : goal.returns-then-base-q
returns-then-base-q c = let a = c.args in
    let x = branch_again a.keys.now a.at.now a.out.now a.i a.base a.ids (get_or a.keys.now a.i 0) refl (omega (arith, c.if-base-q.true)) in
    record { value = x.0; at_after = x.1; out_after = x.2 }

pub returns : goal.returns
returns c = let a = c.args in
    let x = branch_new a.keys.now a.at.now a.out.now a.i a.base a.ids (get_or a.keys.now a.i 0) refl (omega (arith, c.if-base-q.false)) in
    record { value = x.0; at_after = x.1; out_after = x.2 }
