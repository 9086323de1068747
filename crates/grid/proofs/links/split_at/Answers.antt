use mathlib.Core.Path.{refl, sym}
use native.Mathlib.Omega.{arith}
use Rattle.grid.proofs.Marks.{first_same, lower_on, may_spread, may_spread_first, met_all, met_first_le, met_le, other_apart, split_counted, spread_both, spread_whole, top_within}
use Rattle.grid.proofs.links.split_at.Goals as goal

pub bounds-marks-c : goal.bounds-marks-c
bounds-marks-c c = omega (arith, top_within c.requires, c.requires.found, c.requires.room)

pub other_side-t-requires : goal.other_side-t-requires
other_side-t-requires c = lower_on _ _ (omega arith) c.lower_slot-s.ensures

pub overflow_add-c : goal.overflow_add-c
overflow_add-c c = let on = lower_on _ _ (omega arith) c.lower_slot-s.ensures in
    omega (arith, top_within c.requires, c.requires.paired.few, on.slot_lt)

pub rank_of-requires : goal.rank_of-requires
rank_of-requires c = let on = lower_on _ _ (omega arith) c.lower_slot-s.ensures in
    let o = c.other_side-t.ensures in
    record { i_bound = o.upper_bound; s_bound = on.slot_lt; i_nonzero = other_apart c.requires on _ o.value }

pub spread-a-requires : goal.spread-a-requires
spread-a-requires c = may_spread_first c.requires (lower_on _ _ (omega arith) c.lower_slot-s.ensures) _ c.rank_of.ensures.upper_bound

pub overflow_add-a : goal.overflow_add-a
overflow_add-a c = omega (arith, met_first_le c.requires c.spread-a.ensures, c.requires.paired.few)

pub returns-then-a-degree : goal.returns-then-a-degree
returns-then-a-degree c = record { reached = (spread_whole c.requires (lower_on _ _ (omega arith) c.lower_slot-s.ensures) _ _ c.other_side-t.ensures.value c.rank_of.ensures.value _ _ c.spread-a.ensures c.if-a-degree.true).0; value = (spread_whole c.requires (lower_on _ _ (omega arith) c.lower_slot-s.ensures) _ _ c.other_side-t.ensures.value c.rank_of.ensures.value _ _ c.spread-a.ensures c.if-a-degree.true).1 }

pub rank_of-requires-2 : goal.rank_of-requires-2
rank_of-requires-2 c = let on = lower_on _ _ (omega arith) c.lower_slot-s.ensures in
    let o = c.other_side-t.ensures in
    record { i_bound = on.slot_lt; s_bound = o.upper_bound; i_nonzero = λ e. other_apart c.requires on _ o.value (sym e) }

pub spread-b-requires : goal.spread-b-requires
spread-b-requires c = may_spread c.requires _ _ c.other_side-t.ensures.upper_bound c.rank_of-2.ensures.upper_bound _ (first_same c.requires c.spread-a.ensures)

pub overflow_add-result : goal.overflow_add-result
overflow_add-result c = omega (arith, met_le c.requires c.spread-a.ensures c.spread-b.ensures, c.requires.paired.few)

pub overflow_add-result-2 : goal.overflow_add-result-2
overflow_add-result-2 c = omega (arith, met_le c.requires c.spread-a.ensures c.spread-b.ensures, c.requires.paired.few)

pub returns : goal.returns
returns c = let o = c.other_side-t.ensures in
    let R = spread_both c.requires (lower_on _ _ (omega arith) c.lower_slot-s.ensures) _ _ _ o.value o.upper_bound c.rank_of.ensures.value c.rank_of-2.ensures.value _ _ _ _ c.spread-a.ensures c.spread-b.ensures in
    record { reached = R; value = split_counted c.requires _ (met_all c.requires c.spread-a.ensures c.spread-b.ensures) R _ refl }
