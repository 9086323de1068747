use mathlib.Core.Path.{refl}
use Rattle.grid.specs.Grid.{built}
use Rattle.grid.proofs.Nodes.{numbers_small}
use Rattle.shading.proofs.Calls.{all_unitable, in_19, in_20, in_forest, in_sides}
use Rattle.shading.proofs.shade_accepted.Goals as goal

pub returns-then-area-ne-MOST_NODES : goal.returns-then-area-ne-MOST_NODES
returns-then-area-ne-MOST_NODES c = let g = c.args.grid in
    rw c.at.ensures (in_19 (built g.cells.now g.edges.now g.counts.now) c.args.area.now c.if-area-ne-MOST_NODES.true)

pub make_roots-requires : goal.make_roots-requires
make_roots-requires c = record { fours = c.requires.fours; nodes = numbers_small (built c.args.grid.cells.now c.args.grid.edges.now c.args.grid.counts.now) c.requires; blank = refl }

pub unite_all-requires : goal.unite_all-requires
unite_all-requires c = all_unitable (built c.args.grid.cells.now c.args.grid.edges.now c.args.grid.counts.now) c.requires _ c.make_roots.ensures

pub returns-then-not-unite_all : goal.returns-then-not-unite_all
returns-then-not-unite_all c = rw c.at-then-not-unite_all.ensures (in_20 (built c.args.grid.cells.now c.args.grid.edges.now c.args.grid.counts.now) c.args.area.now c.requires c.if-area-ne-MOST_NODES.false _ c.make_roots.ensures _ _ c.unite_all.ensures c.if-not-unite_all.true)

pub write_sides-requires : goal.write_sides-requires
write_sides-requires c = record {
  forest = in_forest (built c.args.grid.cells.now c.args.grid.edges.now c.args.grid.counts.now) c.args.area.now c.requires c.if-area-ne-MOST_NODES.false _ c.make_roots.ensures _ _ c.unite_all.ensures c.if-not-unite_all.false;
  room = c.if-area-ne-MOST_NODES.false;
}

pub returns : goal.returns
returns c = in_sides (built c.args.grid.cells.now c.args.grid.edges.now c.args.grid.counts.now) c.args.area.now c.requires c.if-area-ne-MOST_NODES.false _ c.make_roots.ensures _ _ c.unite_all.ensures c.if-not-unite_all.false _ c.write_sides.ensures
