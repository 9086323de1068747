use mathlib.Core.Path.{◌≡◌}
use native.Mathlib.Omega.{arith}
use Rattle.grid.proofs.Turns.{does_number}
use Rattle.grid.proofs.Passes.{label_end, label_more, label_one}
use Rattle.grid.proofs.numbering.label.Goals as goal

pub number-m-requires : goal.number-m-requires
number-m-requires c = label_one c.requires c.loop-j.invariant (omega arith)

pub loop-j-preserved : goal.loop-j-preserved
loop-j-preserved c = let w = c.loop-j.invariant in
    let e = c.number-m.ensures in
    label_more c.requires w (does_number _ _ _ _ _ _ (label_one c.requires w (omega arith)) _ _ _ e.value e.at_after e.out_after)

pub returns : goal.returns
returns c = let w = c.loop-j.invariant in
    let e : c.loop-j.j ≡ c.args.n = omega arith in
    label_end c.requires (rw e at w)
