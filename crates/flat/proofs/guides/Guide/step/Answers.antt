use native.Mathlib.Omega.{arith}
use mathlib.Core.Path.{◌∙◌}
use Rattle.face.specs.declared.Stand.TheVariants.{Low, High, Up, Down, Alone}
use Rattle.face.proofs.Stands.{stands}
use Rattle.flat.proofs.Guided.{step_alone, step_down, step_high, step_low, step_off, step_up}
use Rattle.flat.proofs.guides.Guide.step.Goals as goal

pub returns-then-self-t : goal.returns-then-self-t
returns-then-self-t c = record { value = step_off _ _ _ c.if-self-t.true; upper_bound = c.requires.darts_bound }

pub step-requires : goal.step-requires
step-requires c = record { lane_fits = c.requires.guide_fits.low; k_lt_size = stands _ _ _ Low c.stand_of.ensures c.in-Low.is }

pub step-requires-in-High : goal.step-requires-in-High
step-requires-in-High c = let c-if1 = c.if-self-t in
    let c-pre = c.requires in
    let h = stands _ _ _ High c.stand_of.ensures c.in-High.is in
    record { lane_fits = c-pre.guide_fits.high; k_lt_size = omega (arith, h, c-if1.false, c-pre.guide_fits.upper) }

pub overflow_sub-result : goal.overflow_sub-result
overflow_sub-result c = omega (arith, (stands _ _ _ Down c.stand_of.ensures c.in-Down.is).2)

pub returns-in-Low : goal.returns-in-Low
returns-in-Low c = let c-if1 = c.if-self-t in
    let h = stands _ _ _ Low c.stand_of.ensures c.in-Low.is in
    record { value = c.step.ensures.value ∙ step_low _ _ _ (omega (arith, c-if1.false)) h; upper_bound = c.step.ensures.upper_bound }

pub returns-in-High : goal.returns-in-High
returns-in-High c = let c-if1 = c.if-self-t in
    let (h, k) = stands _ _ _ High c.stand_of.ensures c.in-High.is in
    record { value = c.step-in-High.ensures.value ∙ step_high _ _ _ (omega (arith, c-if1.false)) h k; upper_bound = c.step-in-High.ensures.upper_bound }

pub returns-in-Up : goal.returns-in-Up
returns-in-Up c = let c-if1 = c.if-self-t in
    let c-pre = c.requires in
    let (W, z) = stands _ _ _ Up c.stand_of.ensures c.in-Up.is in
    record { value = step_up _ _ _ (omega (arith, c-if1.false)) W.low W.high z; upper_bound = omega (arith, c-pre.guide_fits.near, c-pre.guide_fits.few, c-if1.false) }

pub returns-in-Down : goal.returns-in-Down
returns-in-Down c = let c-if1 = c.if-self-t in
    let c-pre = c.requires in
    let (W, z, h) = stands _ _ _ Down c.stand_of.ensures c.in-Down.is in
    record { value = step_down _ _ _ (omega (arith, c-if1.false)) W.low W.high z h; upper_bound = omega (arith, c-pre.guide_fits.near, c-pre.guide_fits.few, c-if1.false) }

pub returns-in-Alone : goal.returns-in-Alone
returns-in-Alone c = let c-if1 = c.if-self-t in
    let c-pre = c.requires in
    let (W, z, h) = stands _ _ _ Alone c.stand_of.ensures c.in-Alone.is in
    record { value = step_alone _ _ _ (omega (arith, c-if1.false)) W.low W.high z h; upper_bound = c-pre.darts_bound }
