use native.Mathlib.Omega.{arith}
use Rattle.counting.proofs.Stored.{stored_long}
use Rattle.direct.proofs.Numbers.{count_is}
use Rattle.direct.proofs.Laying.{reached_none, reached_more, reached_all, at_start, edge_room, some_on, crossings_are}
use Rattle.direct.proofs.level.LevelCell.put_laid.Goals as goal

pub loop-p-init : goal.loop-p-init
loop-p-init c = reached_none _ _ _ _

pub edge_at-k-requires : goal.edge_at-k-requires
edge_at-k-requires c = let L = c.args.self.now.listed in
    (c.firsts_of-firsts.ensures, at_start _ _ _ _ c.loop-p.invariant (omega (arith, c.loop-p-test, crossings_are L c.crossings_in-n.ensures.0)))

pub put_edge-i-requires : goal.put_edge-i-requires
put_edge-i-requires c = let P = c.requires in
    let T = c.args.self.now in record { plain = P.plain; k_lt = c.edge_at-k.ensures.1; k_in_bounds = edge_room _ _ _ _ c.loop-p.invariant (omega (arith, c.loop-p-test, crossings_are T.listed c.crossings_in-n.ensures.0)) c.edge_at-k.ensures.0 T.level P.plain P.quads_in_bounds }

pub overflow_add-p : goal.overflow_add-p
overflow_add-p c = omega (arith, c.loop-p-test, c.crossings_in-n.ensures.1)

pub loop-p-smaller : goal.loop-p-smaller
loop-p-smaller c = let P = c.requires in
    let T = c.args.self.now in
    let E = c.edge_at-k.ensures in
    omega (arith, c.loop-p-test, count_is T.listed _ E.1, some_on _ _ _ _ c.loop-p.invariant (omega (arith, c.loop-p-test, crossings_are T.listed c.crossings_in-n.ensures.0)) E.0)

pub loop-p-preserved : goal.loop-p-preserved
loop-p-preserved c = let P = c.requires in
    let T = c.args.self.now in
    let E = c.edge_at-k.ensures in
    reached_more _ _ _ _ c.loop-p.invariant (omega (arith, c.loop-p-test, crossings_are T.listed c.crossings_in-n.ensures.0)) E.0 T.level P.plain
    (count_is T.listed _ E.1) c.put_edge-i.ensures

pub shape_of-area : goal.shape_of-area
shape_of-area c = stored_long c.loop-p.invariant.stored

pub returns : goal.returns
returns c = reached_all _ _ _ _ c.loop-p.invariant (omega (arith, c.loop-p-test, crossings_are c.args.self.now.listed c.crossings_in-n.ensures.0))
