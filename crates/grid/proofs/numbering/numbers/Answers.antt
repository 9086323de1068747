use mathlib.Core.Path.{◌≡◌}
use native.Mathlib.Omega.{arith}
use Rattle.grid.proofs.Turns.{does_number}
use Rattle.grid.proofs.Places.{slot_in, slots_more, slots_ready}
use Rattle.grid.proofs.numbering.numbers.Goals as goal

pub overflow_mul-c : goal.overflow_mul-c
overflow_mul-c c = let p = c.requires in
    let w = c.loop-s.invariant in
    let f = p.ready.fits _ (slot_in c.args.c c.args.from c.args.to c.loop-s.s (omega arith) (omega arith) p.to_bound) in
    omega (arith, f.1, p.ready.small)

pub overflow_add-c : goal.overflow_add-c
overflow_add-c c = let p = c.requires in
    let w = c.loop-s.invariant in
    let f = p.ready.fits _ (slot_in c.args.c c.args.from c.args.to c.loop-s.s (omega arith) (omega arith) p.to_bound) in
    omega (arith, f.1, p.ready.small)

pub number-m-requires : goal.number-m-requires
number-m-requires c = let p = c.requires in
    let w = c.loop-s.invariant in
    slots_ready _ _ _ p.to_bound (omega arith) (omega arith) w p.ready

pub loop-s-preserved : goal.loop-s-preserved
loop-s-preserved c = let p = c.requires in
    let w = c.loop-s.invariant in
    let e = c.number-m.ensures in
    let r = slots_ready _ _ _ p.to_bound (omega arith) (omega arith) w p.ready in
    slots_more _ _ _ p.to_bound (omega arith) (omega arith) w (does_number _ _ _ _ _ _ r _ _ _ e.value e.at_after e.out_after)

pub returns : goal.returns
returns c = let w = c.loop-s.invariant in
    let e : c.loop-s.s ≡ c.args.to = omega arith in
    rw (← e) w
