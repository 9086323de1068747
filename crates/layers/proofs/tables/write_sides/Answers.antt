use Prim.Native.Nat.{ℕ}
use mathlib.Core.Path.{◌∙◌, ◌≡◌, ap, refl}
use native.Mathlib.Omega.{arith}
use lib.ListN.{length}
use Rattle.counting.specs.Stored.{filled}
use Rattle.counting.proofs.Stored.{filled_more, filled_none, length_filled}
use Rattle.layers.specs.work.Work.{side_from}
use Rattle.layers.proofs.tables.write_sides.Goals as goal

pub loop-j-init : goal.loop-j-init
loop-j-init c = filled_none _ _

pub overflow_mul-own : goal.overflow_mul-own
overflow_mul-own c = omega (arith, c.requires.few)

pub overflow_add-own : goal.overflow_add-own
overflow_add-own c = omega (arith, c.requires.few)

pub offset_bounds-sides-from : goal.offset_bounds-sides-from
offset_bounds-sides-from c = omega (arith, c.requires.few)

pub bounds-sides-from : goal.bounds-sides-from
bounds-sides-from c = omega (arith, c.requires.fits)

pub bounds-own-j : goal.bounds-own-j
bounds-own-j c = omega (arith, c.requires.room, ap length c.loop-j.invariant, length_filled (side_from c.args.sides.now c.args.from) c.loop-j.j c.args.own.now)

pub loop-j-preserved : goal.loop-j-preserved
loop-j-preserved c = filled_more (side_from c.args.sides.now c.args.from) _ _ _ _ c.loop-j.invariant refl

pub shape_of-own : goal.shape_of-own
shape_of-own c = ap length c.loop-j.invariant ∙ length_filled (side_from c.args.sides.now c.args.from) c.loop-j.j c.args.own.now

pub returns : goal.returns
returns c = let e : c.loop-j.j ≡ c.args.n = omega arith in
    c.loop-j.invariant ∙ ap (λ (x : ℕ). filled (side_from c.args.sides.now c.args.from) x c.args.own.now) e
