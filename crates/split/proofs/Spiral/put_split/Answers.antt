use mathlib.Core.Path.{◌∙◌}
use native.Mathlib.Omega.{arith}
use Rattle.cell.specs.Of.{count_of}
use Rattle.split.proofs.Arms.{arms_none, arms_room, arms_more, arms_all, spokes_told}
use Rattle.split.proofs.Spiral.put_split.Goals as goal

pub loop-m-init : goal.loop-m-init
loop-m-init c = let A = c.args in arms_none (count_of A.self.cell) A.at A.area.now A.i

pub put_arm-k-requires : goal.put_arm-k-requires
put_arm-k-requires c = let A = c.args in
    let L = c.loop-m in
    arms_room (count_of A.self.cell) A.at A.i L.k L.m L.invariant (omega arith) c.requires.at_in_bounds (c.spoke_count.ensures ∙ spokes_told c.args.self.spiraling.numbers L.m)

pub loop-m-preserved : goal.loop-m-preserved
loop-m-preserved c = let A = c.args in
    let L = c.loop-m in
    arms_more (count_of A.self.cell) A.at A.i L.k L.m L.invariant c.new_place-a.ensures c.labelled_at-v.ensures
    (c.spoke_count.ensures ∙ spokes_told c.args.self.spiraling.numbers L.m) c.put_arm-k.ensures

pub returns : goal.returns
returns c = let A = c.args in
    let L = c.loop-m in
    arms_all (count_of A.self.cell) A.at A.i L.invariant (omega arith)
