use native.Mathlib.Omega.{arith}
use lib.ListN.{length}
use Rattle.counting.proofs.Tables.{table_filled}
use Rattle.counting.proofs.Stored.{filled_more}
use Rattle.grid.specs.Grid.{start}
use Rattle.grid.proofs.Crossings.{start_mono, start_next}
use Rattle.grid.proofs.tables.write_starts.Goals as goal

pub loop-e-init : goal.loop-e-init
loop-e-init c = let p = c.requires in
    (p.own, table_filled _ _ _ (record { room = omega (arith, p.room, p.within); at = p.before }))

pub overflow_add-sum : goal.overflow_add-sum
overflow_add-sum c = let c-pre = c.requires in
    let c-args = c.args in
    let c-loop = c.loop-e in
    omega (arith, c-pre.few, c-loop.invariant.0, c.type_inv.counts c-loop.e, start_mono c-args.counts.now c-loop.e (length c-args.counts.now) (omega arith))

pub loop-e-preserved : goal.loop-e-preserved
loop-e-preserved c = let c-args = c.args in
    let c-loop = c.loop-e in
    (omega (arith, start_next c-args.counts.now c-loop.e, c-loop.invariant.0), filled_more (start c-args.counts.now) _ _ _ _ c-loop.invariant.1 c-loop.invariant.0)
