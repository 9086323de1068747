use native.Mathlib.Omega.{arith}
use mathlib.Core.Path.{◌≡◌, refl, sym, ap, ◌∙◌}
use lib.ListN.{length}
use lib.Seq.{sets}
use Rattle.counting.specs.Lists.{values}
use Rattle.counting.proofs.Stored.{stored_long}
use Rattle.place.specs.Place.{all_numbers}
use Rattle.grid.specs.Grid.{start}
use Rattle.grid.proofs.Crossings.{start_next, start_zero}
use Rattle.places.specs.Points.{crossing_place}
use Rattle.places.proofs.Fractions.{start_fits}
use Rattle.places.proofs.Crossings.{all_none, all_more}
use Rattle.places.proofs.points.place_crossings.Goals as goal

pub loop-e-init : goal.loop-e-init
loop-e-init c = (sym (start_zero _), all_none c.args.edges.now c.args.counts.now c.args.nodes.now c.args.fractions.now c.args.area.now)

pub overflow_mul-e : goal.overflow_mul-e
overflow_mul-e c = omega (arith, c.requires.pairs)

pub offset_bounds-edges-e : goal.offset_bounds-edges-e
offset_bounds-edges-e c = omega (arith, c.requires.pairs)

pub bounds-edges-e : goal.bounds-edges-e
bounds-edges-e c = omega (arith, c.requires.pairs)

pub overflow_mul-e-in-loop-e : goal.overflow_mul-e-in-loop-e
overflow_mul-e-in-loop-e c = omega (arith, c.requires.pairs)

pub overflow_add-e : goal.overflow_add-e
overflow_add-e c = omega (arith, c.requires.pairs)

pub offset_bounds-edges-e-in-loop-e : goal.offset_bounds-edges-e-in-loop-e
offset_bounds-edges-e-in-loop-e c = omega (arith, c.requires.pairs)

pub bounds-edges-e-in-loop-e : goal.bounds-edges-e-in-loop-e
bounds-edges-e-in-loop-e c = omega (arith, c.requires.pairs)

pub place_edge-requires : goal.place_edge-requires
place_edge-requires c = let f = start_fits c.args.counts.now c.loop-e.e (omega arith) in record { given = omega (arith, c.loop-e.invariant.0, c.requires.given, f); room = omega (arith, c.loop-e.invariant.0, stored_long c.loop-e.invariant.1, c.requires.room, f) }

pub overflow_add-g : goal.overflow_add-g
overflow_add-g c = let a = c.args in let l = c.loop-e in omega (arith, l.invariant.0, c.requires.given, c.well_formed.1.1.1.0.0, start_fits a.counts.now l.e (omega arith))

pub loop-e-preserved : goal.loop-e-preserved
loop-e-preserved c = let l = c.loop-e in (omega (arith, l.invariant.0, start_next c.args.counts.now l.e), all_more c.args.edges.now c.args.counts.now c.args.nodes.now c.args.fractions.now l.e l.g _ l.invariant.1 (omega arith) l.invariant.0 refl c.load-u.ensures c.load-v.ensures c.place_edge.ensures)

pub shape_of-area : goal.shape_of-area
shape_of-area c = stored_long c.loop-e.invariant.1

pub returns : goal.returns
returns c = let l = c.loop-e in let z : l.e ≡ length c.args.counts.now = omega arith in l.invariant.1.area ∙ ap (λ n. sets c.args.area.now 0 (all_numbers (values (crossing_place c.args.edges.now c.args.counts.now c.args.nodes.now c.args.fractions.now) n))) (l.invariant.0 ∙ ap (start c.args.counts.now) z)
