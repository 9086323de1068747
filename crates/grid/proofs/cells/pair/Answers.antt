use Prim.Native.Nat.{◌<◌}
use mathlib.Core.Path.{◌≡◌, refl}
use native.Mathlib.Omega.{arith}
use lib.ListN.{length, length-set}
use borrow.Author.Count.{below_more, below_none}
use Rattle.counting.proofs.Search.{found_end, found_hit}
use Rattle.counting.proofs.Tables.{top_le}
use Rattle.grid.proofs.Meets.{meets_more, meets_no_place, meets_none, meets_place}
use Rattle.grid.proofs.Mates.{mates_alone, mates_two, third_none, third_not, third_there}
use Rattle.grid.proofs.cells.pair.Goals as goal

pub loop-j-init : goal.loop-j-init
loop-j-init c = let p = c.requires in (below_none _, refl, p.blank, meets_none _ _ p.unseen)

pub loop-j-preserved-in_default : goal.loop-j-preserved-in_default
loop-j-preserved-in_default c = let w = c.loop-j.invariant in
    let kl = c.requires.known c.loop-j.j (omega arith) in
    let r = meets_no_place c.args.keys.now w.3 kl c.in_default.ensures.value in
    (below_more _ _ w.0 (third_none w.2 r), w.1, mates_alone w.2 r, meets_more w.3 _ refl kl _ c.in_default.ensures.seen_after)

pub offset_bounds-near-p : goal.offset_bounds-near-p
offset_bounds-near-p c = let r = meets_place c.args.keys.now c.loop-j.invariant.3 (c.requires.known c.loop-j.j (omega arith)) _ c.in-Some.ensures.value in
    omega (arith, top_le _ _ _ _ r, c.requires.small)

pub bounds-near-p : goal.bounds-near-p
bounds-near-p c = let r = meets_place c.args.keys.now c.loop-j.invariant.3 (c.requires.known c.loop-j.j (omega arith)) _ c.in-Some.ensures.value in
    omega (arith, top_le _ _ _ _ r, c.loop-j.invariant.1, c.requires.room)

pub returns-then-near-p-ne0 : goal.returns-then-near-p-ne0
returns-then-near-p-ne0 c = let w = c.loop-j.invariant in
    let r = meets_place c.args.keys.now w.3 (c.requires.known c.loop-j.j (omega arith)) _ c.in-Some.ensures.value in
    let t = third_there w.2 _ r (omega (arith, c.if-near-p-ne0.true)) in
    record { value = found_hit _ _ _ (omega arith) t w.0; mates = w.2 }

pub overflow_add-near : goal.overflow_add-near
overflow_add-near c = let r = meets_place c.args.keys.now c.loop-j.invariant.3 (c.requires.known c.loop-j.j (omega arith)) _ c.in-Some.ensures.value in
    omega (arith, top_le _ _ _ _ r, c.requires.small)

pub overflow_cast-near : goal.overflow_cast-near
overflow_cast-near c = let r = meets_place c.args.keys.now c.loop-j.invariant.3 (c.requires.known c.loop-j.j (omega arith)) _ c.in-Some.ensures.value in
    omega (arith, top_le _ _ _ _ r, c.requires.small)

pub offset_bounds-near-p-in-loop-j : goal.offset_bounds-near-p-in-loop-j
offset_bounds-near-p-in-loop-j c = let r = meets_place c.args.keys.now c.loop-j.invariant.3 (c.requires.known c.loop-j.j (omega arith)) _ c.in-Some.ensures.value in
    omega (arith, top_le _ _ _ _ r, c.requires.small)

pub bounds-near-p-in-loop-j : goal.bounds-near-p-in-loop-j
bounds-near-p-in-loop-j c = let r = meets_place c.args.keys.now c.loop-j.invariant.3 (c.requires.known c.loop-j.j (omega arith)) _ c.in-Some.ensures.value in
    simp length-set (omega (arith, top_le _ _ _ _ r, c.loop-j.invariant.1, c.requires.room))

pub loop-j-preserved : goal.loop-j-preserved
loop-j-preserved c = let w = c.loop-j.invariant in
    let kl = c.requires.known c.loop-j.j (omega arith) in
    let r = meets_place c.args.keys.now w.3 kl _ c.in-Some.ensures.value in
    let z = c.if-near-p-ne0.false in
    let h : c.loop-j.j < length c.loop-j.near = omega (arith, w.1, c.requires.room) in
    (below_more _ _ w.0 (third_not w.2 _ r z h), simp length-set w.1, mates_two w.2 _ r z h, meets_more w.3 _ refl kl _ c.in-Some.ensures.seen_after)

pub returns : goal.returns
returns c = let w = c.loop-j.invariant in
    let e : c.loop-j.j ≡ c.args.n = omega arith in
    record { value = found_end _ _ (λ i h. w.0 i (omega arith)); mates = rw (← e) w.2 }
