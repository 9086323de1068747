use native.Mathlib.Omega.{arith}
use mathlib.Core.Path.{◌≡◌}
use Rattle.counting.proofs.Stored.{stored_long}
use Rattle.places.proofs.Crossings.{edge_none, edge_more}
use Rattle.places.proofs.points.place_edge.Goals as goal

pub loop-i-init : goal.loop-i-init
loop-i-init c = edge_none c.args.u c.args.v c.args.fractions.now c.args.g c.args.area.now

pub overflow_add-q : goal.overflow_add-q
overflow_add-q c = omega (arith, c.requires.given)

pub offset_bounds-fractions-q : goal.offset_bounds-fractions-q
offset_bounds-fractions-q c = omega (arith, c.requires.given)

pub bounds-fractions-q : goal.bounds-fractions-q
bounds-fractions-q c = omega (arith, c.requires.given)

pub interpolate-p-requires : goal.interpolate-p-requires
interpolate-p-requires c = tt

pub store-requires : goal.store-requires
store-requires c = tt

pub loop-i-preserved : goal.loop-i-preserved
loop-i-preserved c = edge_more c.args.u c.args.v c.args.fractions.now c.args.g c.loop-i.i c.loop-i.invariant (omega (arith, c.requires.room, stored_long c.loop-i.invariant)) c.interpolate-p.ensures c.store.ensures

pub shape_of-area : goal.shape_of-area
shape_of-area c = stored_long c.loop-i.invariant

pub returns : goal.returns
returns c = let l = c.loop-i in let e : l.i ≡ c.args.n = omega arith in rw (← e) l.invariant
