use native.Mathlib.Omega.{arith}
use mathlib.Core.Path.{refl}
use Rattle.face.proofs.Ends.{near}
use Rattle.flat.proofs.Tables.{place_read}
use Rattle.flat.proofs.Guided.{made_down, made_up, other_lt}
use Rattle.flat.proofs.guides.Tables.lane_at.Goals as goal

pub overflow_add-other : goal.overflow_add-other
overflow_add-other c = omega (arith, near c.requires.end)

pub overflow_sub-other : goal.overflow_sub-other
overflow_sub-other c = omega (arith, near c.requires.end)

pub land-requires : goal.land-requires
land-requires c = let P = c.requires in record { j_lt_n = omega (arith, other_lt P.end, P.b_bound); t_bound = omega arith }

pub returns-then-w-lower_end : goal.returns-then-w-lower_end
returns-then-w-lower_end c =
    let P = c.requires in
    made_up c.args.self.tabled _ P.b_bound P.end _ _ P.c_value c.at-size.ensures c.land.ensures.upper_bound refl c.if-w-lower_end.true c.lower_end.ensures.0 c.land.ensures.value

pub count_at-last-requires : goal.count_at-last-requires
count_at-last-requires c =
    let P = c.requires in
    let r = place_read c.args.self.tabled _ (omega (arith, other_lt P.end, P.b_bound)) in
    record { j_in_bounds = r.0; j_in_bounds_2 = r.1 }

pub land-requires-2 : goal.land-requires-2
land-requires-2 c = let P = c.requires in record { j_lt_n = omega (arith, other_lt P.end, P.b_bound); t_bound = omega (arith, c.count_at-last.ensures) }

pub returns : goal.returns
returns c =
    let P = c.requires in
    made_down c.args.self.tabled _ P.b_bound P.end _ _ P.c_value c.at-size.ensures c.land-2.ensures.upper_bound refl c.if-w-lower_end.false c.lower_end.ensures.0
    c.land-2.ensures.value c.count_at-last.ensures
