use Rattle.std.proofs.Common.{◌<◌, rules, ap, ◌∙◌}
use Rattle.answer.specs.Refusal.{refusal_numbers}
use Rattle.place.specs.Place.{coordinates}
use Rattle.nearest.proofs.Least.{distance_is}
use Rattle.nearest.proofs.Calls.{asked_lt, uneven_refused, listed_refused, asked_refused, faultless, none_answered, found_answered}
use Rattle.nearest.proofs.nearest_point.Goals as goal

pub returns-then-n-ne0 : goal.returns-then-n-ne0
returns-then-n-ne0 c = ap refusal_numbers c.at.ensures ∙ uneven_refused _ _ c.if-n-ne0.true

pub returns-in-Some : goal.returns-in-Some
returns-in-Some c = ap refusal_numbers c.at-in-Some.ensures ∙ listed_refused _ _ (search rules) _ c.in-Some.ensures

pub overflow_add-n : goal.overflow_add-n
overflow_add-n c = let h : c.in-Some-first_beyond.t < coordinates = asked_lt c.args.points.now c.args.query _ c.in-Some-first_beyond.ensures in search rules

pub returns-in-Some-first_beyond : goal.returns-in-Some-first_beyond
returns-in-Some-first_beyond c =
    ap refusal_numbers c.at-in-Some-first_beyond.ensures ∙ asked_refused _ _ (search rules) c.in_default.ensures _ c.in-Some-first_beyond.ensures

pub returns-then-n-eq0 : goal.returns-then-n-eq0
returns-then-n-eq0 c = none_answered _ _ (faultless _ _ (search rules) c.in_default.ensures c.in_default-first_beyond.ensures) c.if-n-eq0.true

pub returns : goal.returns
returns c =
    found_answered _ _ (faultless _ _ (search rules) c.in_default.ensures c.in_default-first_beyond.ensures) c.if-n-eq0.false _ _ c.nearest_of-k.ensures
    (distance_is _ _ _ c.load.ensures c.squared_distance-d.ensures)
