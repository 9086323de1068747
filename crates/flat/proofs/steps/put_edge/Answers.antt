use Prim.Native.Nat.{ℕ, ◌+◌, ◌*◌}
use mathlib.Core.Path.{◌∙◌, ◌≡◌, ap}
use native.Mathlib.Omega.{arith}
use lib.ListN.{length, length-set}
use lib.Seq.{length-sets, sets}
use Rattle.counting.specs.Lists.{values}
use Rattle.grid.specs.Grid.{count_of, start}
use Rattle.flat.specs.work.Work.{dart_step}
use Rattle.flat.proofs.Tables.{edge_darts, edge_more, edge_none, edge_within, first_at, first_within, second_at, second_within, start_at}
use Rattle.flat.proofs.Guided.{port_led}
use Rattle.flat.proofs.steps.put_edge.Goals as goal

pub port_guide-p-requires : goal.port_guide-p-requires
port_guide-p-requires c = let c-pre = c.requires in record { q_le_n = omega (arith, first_within c.args.tables.tabled _ c-pre.e_in_bounds) }

pub port_guide-q-requires : goal.port_guide-q-requires
port_guide-q-requires c = let c-pre = c.requires in record { q_le_n = omega (arith, second_within c.args.tables.tabled _ c-pre.e_in_bounds) }

pub loop-t-init : goal.loop-t-init
loop-t-init c = edge_none _ _ _ _ _

pub step-requires : goal.step-requires
step-requires c = let c-port-guide = c.port_guide-p in
    let c-pre = c.requires in
    record { guide_fits = c-port-guide.ensures.fits; darts_bound = omega (arith, c-pre.darts_value, c.args.tables.tabled.places.few_crossings) }

pub bounds-next-a : goal.bounds-next-a
bounds-next-a c = let c-loop = c.loop-t in
    let c-args = c.args in
    let c-pre = c.requires in
    omega (arith, edge_within c.args.tables.tabled _ c-pre.e_in_bounds, c-pre.darts_value, c-pre.darts_in_bounds, edge_darts c.args.tables.tabled _ c-pre.e_in_bounds, ap length c-loop.invariant, length-sets c-args.next.now (2 * start c-args.tables.counts.now c-args.e) (values (λ i. dart_step c-args.tables.counts.now c-args.tables.sides.now (length c-args.tables.sides.now) (2 * start c-args.tables.counts.now c-args.e + i)) (2 * c-loop.t)))

pub step-requires-in-loop-t : goal.step-requires-in-loop-t
step-requires-in-loop-t c = let c-port-guide2 = c.port_guide-q in
    let c-pre = c.requires in
    record { guide_fits = c-port-guide2.ensures.fits; darts_bound = omega (arith, c-pre.darts_value, c.args.tables.tabled.places.few_crossings) }

pub bounds-next-a-in-loop-t : goal.bounds-next-a-in-loop-t
bounds-next-a-in-loop-t c = let c-loop = c.loop-t in
    let c-args = c.args in
    let c-pre = c.requires in
    simp length-set (omega (arith, edge_within c.args.tables.tabled _ c-pre.e_in_bounds, c-pre.darts_value, c-pre.darts_in_bounds, edge_darts c.args.tables.tabled _ c-pre.e_in_bounds, ap length c-loop.invariant, length-sets c-args.next.now (2 * start c-args.tables.counts.now c-args.e) (values (λ i. dart_step c-args.tables.counts.now c-args.tables.sides.now (length c-args.tables.sides.now) (2 * start c-args.tables.counts.now c-args.e + i)) (2 * c-loop.t))))

pub loop-t-preserved : goal.loop-t-preserved
loop-t-preserved c = let c-loop = c.loop-t in
    let c-port-guide2 = c.port_guide-q in
    let c-port-guide = c.port_guide-p in
    let c-pre = c.requires in
    edge_more _ _ _ _ _ c-pre.e_in_bounds (omega arith) _ _ _ _ _ c-loop.invariant (omega (arith, start_at c.args.tables.tabled _ c-pre.e_in_bounds)) (port_led _ _ _ _ _ _ _ c-port-guide.ensures (first_at c.args.tables.tabled _ c-pre.e_in_bounds) c-pre.darts_value c.step.ensures.value) (port_led _ _ _ _ _ _ _ c-port-guide2.ensures (second_at c.args.tables.tabled _ c-pre.e_in_bounds) c-pre.darts_value c.step-in-loop-t.ensures.value)

pub returns : goal.returns
returns c = let c-loop = c.loop-t in
    let c-args = c.args in
    let z : 2 * c-loop.t ≡ 2 * count_of c-args.tables.counts.now c-args.e = omega arith in c-loop.invariant ∙ ap (λ (k : ℕ). sets c-args.next.now (2 * start c-args.tables.counts.now c-args.e) (values (λ i. dart_step c-args.tables.counts.now c-args.tables.sides.now (length c-args.tables.sides.now) (2 * start c-args.tables.counts.now c-args.e + i)) k)) z
