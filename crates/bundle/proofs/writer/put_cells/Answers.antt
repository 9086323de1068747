use Prim.Native.Nat.{◌/◌}
use mathlib.Core.Path.{◌≡◌}
use native.Mathlib.Omega.{arith}
use lib.ListN.{length}
use Rattle.counting.specs.Lists.{over}
use Rattle.counting.proofs.Fronts.{over_within}
use Rattle.counting.proofs.Stored.{stored_none, stored_more, stored_long}
use Rattle.bundle.specs.Bundle.{cell_nodes}
use Rattle.bundle.specs.Written.{cell_bytes}
use Rattle.bundle.proofs.Writes.{length_cell}
use Rattle.bundle.proofs.writer.put_cells.Goals as goal

pub loop-k-init : goal.loop-k-init
unfolding over
loop-k-init c = (omega arith, stored_none _ _)

pub put_cell-at-requires : goal.put_cell-at-requires
put_cell-at-requires c = let l = c.loop-k in
    let nodes = c.args.nodes.now in
    let p = l.invariant.1 in
    record { all = omega arith; room = omega (arith, over_within (cell_bytes nodes) (length nodes / cell_nodes) l.k (omega arith), length_cell nodes l.k, p.after, stored_long p, c.requires.room) }

pub loop-k-preserved : goal.loop-k-preserved
loop-k-preserved c = let l = c.loop-k in
    (omega arith, stored_more (cell_bytes c.args.nodes.now) l.k l.invariant.1 c.put_cell-at.ensures)

pub shape_of-area : goal.shape_of-area
shape_of-area c = stored_long c.loop-k.invariant.1

pub returns : goal.returns
returns c = let l = c.loop-k in
    let e : l.k ≡ length c.args.nodes.now / cell_nodes = omega arith in
    rw e at l.invariant.1
