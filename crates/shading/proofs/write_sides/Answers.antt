use mathlib.Core.Path.{refl}
use native.Mathlib.Omega.{arith}
use Rattle.shading.proofs.Bytes.{writing_none, still_writable, writing_more, writing_all}
use Rattle.shading.proofs.write_sides.Goals as goal

pub loop-x-init : goal.loop-x-init
loop-x-init c = writing_none _ _ c.requires

pub byte_of-requires : goal.byte_of-requires
byte_of-requires c = let l = c.loop-x in
    record { writable = still_writable c.args.links.now c.args.area.now l.x l.area c.requires l.invariant; x_lt_most_nodes = omega arith }

pub loop-x-preserved : goal.loop-x-preserved
loop-x-preserved c = let l = c.loop-x in
    writing_more c.args.links.now c.args.area.now l.x l.area c.requires l.invariant c.byte_of.result c.byte_of.ensures (omega arith) _ refl

pub returns : goal.returns
returns c = let l = c.loop-x in
    writing_all c.args.links.now c.args.area.now l.x l.area c.requires l.invariant (omega arith) (omega arith)
