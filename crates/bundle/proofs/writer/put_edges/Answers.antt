use mathlib.Core.Path.{◌≡◌}
use native.Mathlib.Omega.{arith}
use lib.ListN.{length}
use Rattle.counting.specs.Lists.{over}
use Rattle.counting.proofs.Fronts.{over_within}
use Rattle.counting.proofs.Stored.{stored_none, stored_more, stored_long}
use Rattle.bundle.specs.Written.{edge_bytes}
use Rattle.bundle.proofs.writer.put_edges.Goals as goal

pub loop-k-init : goal.loop-k-init
unfolding over
loop-k-init c = (omega arith, stored_none _ _)

pub put_edge-at-requires : goal.put_edge-at-requires
put_edge-at-requires c = let l = c.loop-k in
    let ends = c.args.ends.now in
    let counts = c.args.counts.now in
    let p = l.invariant.1 in
    record { pair = omega (arith, c.requires.pairs); all = omega arith; room = omega (arith, over_within (edge_bytes ends counts) (length counts) l.k (omega arith), p.after, stored_long p, c.requires.room) }

pub loop-k-preserved : goal.loop-k-preserved
loop-k-preserved c = let l = c.loop-k in
    let a = c.args in
    (omega arith, stored_more (edge_bytes a.ends.now a.counts.now) l.k l.invariant.1 c.put_edge-at.ensures)

pub shape_of-area : goal.shape_of-area
shape_of-area c = stored_long c.loop-k.invariant.1

pub returns : goal.returns
returns c = let l = c.loop-k in
    let e : l.k ≡ length c.args.counts.now = omega arith in
    rw e at l.invariant.1
