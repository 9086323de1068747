use mathlib.Core.Path.{sym, ◌∙◌}
use native.Mathlib.Omega.{arith}
use Rattle.face.specs.declared.Stand.TheVariants.{Low, High, Up, Down, Alone}
use Rattle.face.proofs.Stands.{stands}
use Rattle.face.proofs.Calls.{upper_fits, low_at, low_join, high_at, high_join, up_join, down_join, alone_join, own_within}
use Rattle.face.proofs.Face.join_on.Goals as goal

pub overflow_sub-x : goal.overflow_sub-x
overflow_sub-x c = upper_fits c.requires

pub partner_of-requires : goal.partner_of-requires
partner_of-requires c = low_at c.requires c.lower_end.ensures.0 (stands _ _ _ Low c.stand_of.ensures c.in-Low.is)

pub overflow_sub-x-in-High : goal.overflow_sub-x-in-High
overflow_sub-x-in-High c = omega (arith, c.requires.there)

pub overflow_sub-x-in-High-2 : goal.overflow_sub-x-in-High-2
overflow_sub-x-in-High-2 c = omega (arith, c.requires.there)

pub partner_of-requires-in-High : goal.partner_of-requires-in-High
partner_of-requires-in-High c = high_at c.requires c.upper_end.ensures.0 (stands _ _ _ High c.stand_of.ensures c.in-High.is)

pub overflow_add-result : goal.overflow_add-result
overflow_add-result c = omega (arith, c.requires.there)

pub overflow_sub-result : goal.overflow_sub-result
overflow_sub-result c = omega (arith, (stands _ _ _ Down c.stand_of.ensures c.in-Down.is).2)

pub why_of-requires : goal.why_of-requires
why_of-requires c = own_within c.requires

pub returns-in-Low : goal.returns-in-Low
returns-in-Low c = c.partner_of.ensures ∙ sym (low_join c.requires c.lower_end.ensures.0 (stands _ _ _ Low c.stand_of.ensures c.in-Low.is))

pub returns-in-High : goal.returns-in-High
returns-in-High c = c.partner_of-in-High.ensures ∙ sym (high_join c.requires c.upper_end.ensures.0 (stands _ _ _ High c.stand_of.ensures c.in-High.is))

pub returns-in-Up : goal.returns-in-Up
returns-in-Up c = let (W, z) = (stands _ _ _ Up c.stand_of.ensures c.in-Up.is) in sym (up_join c.requires W z)

pub returns-in-Down : goal.returns-in-Down
returns-in-Down c = let (W, z, h) = (stands _ _ _ Down c.stand_of.ensures c.in-Down.is) in sym (down_join c.requires W z h)

pub returns-in-Alone : goal.returns-in-Alone
returns-in-Alone c = let (W, z, h) = (stands _ _ _ Alone c.stand_of.ensures c.in-Alone.is) in sym (alone_join c.requires W z h c.why_of.ensures)
