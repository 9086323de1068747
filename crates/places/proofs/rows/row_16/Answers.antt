use Rattle.std.proofs.Common.{below_more}
use mathlib.Core.Path.{◌∙◌, sym}
use native.Mathlib.Nat.{not-suc-le-zero}
use native.Mathlib.Omega.{arith}
use Rattle.counting.proofs.Search.{found_hit, found_end}
use Rattle.places.proofs.rows.row_16.Goals as goal

pub loop-i-init : goal.loop-i-init
loop-i-init c = λ k h. absurd (not-suc-le-zero h)

pub bad_number-requires : goal.bad_number-requires
bad_number-requires c = record { coordinates_in_bounds = omega (arith, c.requires.table); i_in_bounds = omega (arith, c.requires.list) }

pub returns-then-bad_number : goal.returns-then-bad_number
returns-then-bad_number c = found_hit _ _ _ (omega arith) (sym c.bad_number.ensures ∙ c.if-bad_number.true) c.loop-i.invariant

pub loop-i-preserved : goal.loop-i-preserved
loop-i-preserved c = below_more _ _ c.loop-i.invariant (sym c.bad_number.ensures ∙ c.if-bad_number.false)

pub returns : goal.returns
returns c = found_end _ _ (λ k h. c.loop-i.invariant k (omega arith))
