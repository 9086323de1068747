use Prim.Native.Nat.{ℕ, suc, ◌+◌, ◌-◌, ◌/◌, ◌<◌}
use mathlib.Core.Path.{◌≡◌, refl, sym, ◌∙◌}
use native.Mathlib.Omega.{arith}
use lib.ListN.{length, length-set}
use Rattle.trees.specs.work.Trees.{top_for}
use Rattle.trees.specs.work.Keys.{key_in, pair_in}
use Rattle.trees.proofs.Trees.{top_le}
use Rattle.trees.proofs.Planted.{marked_none, marked_skip, marked_more, lacks, lacks_not, lowest_none, lowest_hit, lowest_miss, lowest_all}
use Rattle.trees.proofs.pairs.mark.Goals as goal
use Rattle.trees.proofs.pairs.mark.Goals.{In-Some}

-- the pair before e is the next
up : (e : ℕ) → 0 < e → e ≡ e - 1 + 1
up e h = omega arith

-- the last place with its key
last : (c : In-Some) → suc c.in-Some.p ≡ top_for (key_in c.args.forest.now.keys.now.now) (c.args.forest.now.count) (pair_in c.args.pairs.now (c.loop-e.e - 1))
last c = rw c.pair_at-key.ensures at c.in-Some.ensures

-- is one of the keys
few : (c : In-Some) → c.in-Some.p < c.args.forest.now.count
few c = omega (arith, last c, top_le (key_in c.args.forest.now.keys.now.now) (c.args.forest.now.count) (pair_in c.args.pairs.now (c.loop-e.e - 1)))

pub loop-e-init : goal.loop-e-init
loop-e-init c = (refl, marked_none _ _ _ _ _ _ c.requires.lent.tops_are, lowest_none _ _)

pub loop-e-preserved-in_default : goal.loop-e-preserved-in_default
loop-e-preserved-in_default c =
    let l = c.loop-e in
    let h : l.e - 1 < length c.args.pairs.now / 2 = omega arith in
    let z = sym (rw c.pair_at-key.ensures at c.in_default.ensures) in
    (l.invariant.0, marked_skip _ _ _ _ _ _ h _ _ (rw (up _ c.loop-e-test.true) at l.invariant.1) z, lowest_hit _ _ _ h (lacks _ _ _ _ z))

pub overflow_add-tops : goal.overflow_add-tops
overflow_add-tops c = omega (arith, few (goal.at.overflow_add-tops c).In-Some, c.requires.lent.few)

pub overflow_add-tops-in-loop-e : goal.overflow_add-tops-in-loop-e
overflow_add-tops-in-loop-e c = omega (arith, few (goal.at.overflow_add-tops-in-loop-e c).In-Some, c.requires.lent.few)

pub overflow_cast-tops : goal.overflow_cast-tops
overflow_cast-tops c = omega (arith, few (goal.at.overflow_cast-tops c).In-Some, c.requires.lent.few)

pub offset_bounds-tops-p : goal.offset_bounds-tops-p
offset_bounds-tops-p c = omega (arith, few (goal.at.offset_bounds-tops-p c).In-Some, c.requires.lent.few)

pub bounds-tops-p : goal.bounds-tops-p
bounds-tops-p c = omega (arith, few (goal.at.bounds-tops-p c).In-Some, c.requires.lent.tops_are.room, c.loop-e.invariant.0)

pub offset_bounds-places-p : goal.offset_bounds-places-p
offset_bounds-places-p c = omega (arith, few (goal.at.offset_bounds-places-p c).In-Some, c.requires.lent.few)

pub bounds-places-p : goal.bounds-places-p
bounds-places-p c = omega (arith, few (goal.at.bounds-places-p c).In-Some, c.requires.lent.room, c.loop-e.invariant.1.same)

pub loop-e-preserved : goal.loop-e-preserved
loop-e-preserved c =
    let l = c.loop-e in
    let k = (goal.at.loop-e-preserved c).In-Some in
    let h : l.e - 1 < length c.args.pairs.now / 2 = omega arith in
    let w = rw (up _ c.loop-e-test.true) at l.invariant.1 in
    let low = rw (up _ c.loop-e-test.true) at l.invariant.2 in (
      simp length-set l.invariant.0,
      marked_more _ _ _ _ _ _ h _ _ w c.requires.lent.room _ (last k),
      low ∙ lowest_miss _ _ _ h (lacks_not _ _ _ _ (omega (arith, last k))),
    )

pub returns : goal.returns
returns c =
    let w = c.loop-e.invariant in
    let z : c.loop-e.e ≡ 0 = omega arith in
    record { value = (rw z at w.2) ∙ lowest_all _ _; pairs_marked = rw z at w.1 }
