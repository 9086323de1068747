use Prim.Native.Nat.{ℕ, ◌+◌, ◌*◌}
use mathlib.Core.Path.{◌∙◌, ◌≡◌, ap}
use native.Mathlib.Omega.{arith}
use lib.ListN.{length, get_or}
use Rattle.counting.specs.Stored.{filled}
use Rattle.counting.proofs.Stored.{filled_more, filled_none, length_filled}
use Rattle.layers.specs.work.Work.{name_from}
use Rattle.layers.proofs.Steps.{base_small}
use Rattle.layers.proofs.tables.write_names.Goals as goal

pub loop-j-init : goal.loop-j-init
loop-j-init c = filled_none _ _

pub overflow_mul-from : goal.overflow_mul-from
overflow_mul-from c = omega (arith, c.requires.few)

pub offset_bounds-names-from : goal.offset_bounds-names-from
offset_bounds-names-from c = omega (arith, c.requires.few)

pub bounds-names-from : goal.bounds-names-from
bounds-names-from c = omega (arith, c.requires.fits)

pub overflow_cast-own : goal.overflow_cast-own
overflow_cast-own c = let s = base_small (4 * c.args.from) (get_or c.args.names.now (4 * c.args.from + c.loop-j.j) 0) c.loop-j.j 65536 (omega (arith, c.type_inv.names (4 * c.args.from + c.loop-j.j))) (omega (arith, c.requires.few)) in
    omega (arith, s, c.from_base.ensures)

pub bounds-own-j : goal.bounds-own-j
bounds-own-j c = omega (arith, c.requires.room, ap length c.loop-j.invariant, length_filled (name_from c.args.names.now c.args.from) c.loop-j.j c.args.own.now)

pub loop-j-preserved : goal.loop-j-preserved
loop-j-preserved c = filled_more (name_from c.args.names.now c.args.from) _ _ _ _ c.loop-j.invariant c.from_base.ensures

pub shape_of-own : goal.shape_of-own
shape_of-own c = ap length c.loop-j.invariant ∙ length_filled (name_from c.args.names.now c.args.from) c.loop-j.j c.args.own.now

pub returns : goal.returns
returns c = let e : c.loop-j.j ≡ c.args.n = omega arith in
    c.loop-j.invariant ∙ ap (λ (x : ℕ). filled (name_from c.args.names.now c.args.from) x c.args.own.now) e
