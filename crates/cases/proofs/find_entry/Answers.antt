use Prim.Native.Nat.{ℕ, ◌≤◌, ◌<◌}
use mathlib.Core.Path.{◌≡◌, refl, sym, ◌∙◌}
use mathlib.Core.Bool.{true}
use mathlib.Core.List.{List}
use native.Mathlib.Omega.{arith}
use Rattle.cell.specs.Level.{by_edge}
use Rattle.cell.specs.Common.{is_common}
use Rattle.cases.specs.claims.Cases.{entries, from_digits}
use Rattle.cases.proofs.Digits.{digits_none, digits_more, digits_lt, found_in, found_out}
use Rattle.cases.proofs.find_entry.Goals as goal

bound : (l : List ℕ) (n k : ℕ) → k ≤ 6 → (is_common (by_edge l) ≡ true) × (n ≡ from_digits (by_edge l) k) → n < entries
bound l n k h I = omega (arith, I.1, digits_lt (by_edge l) I.0 k h)

pub returns-then-not-is_common-clause-place : goal.returns-then-not-is_common-clause-place
returns-then-not-is_common-clause-place c = found_out (by_edge c.args.counts) (sym c.is_common.ensures ∙ c.if-not-is_common.true)

pub loop-count-init : goal.loop-count-init
loop-count-init c = (sym c.is_common.ensures ∙ c.if-not-is_common.false, digits_none (by_edge c.args.counts))

pub overflow_mul-n : goal.overflow_mul-n
overflow_mul-n c = omega (arith, bound c.args.counts c.loop-count.n c.loop-count.count-index (omega arith) c.loop-count.invariant)

pub overflow_add-n : goal.overflow_add-n
overflow_add-n c = omega (arith, bound c.args.counts c.loop-count.n c.loop-count.count-index (omega arith) c.loop-count.invariant)

pub loop-count-preserved : goal.loop-count-preserved
loop-count-preserved c = let I = c.loop-count.invariant in (I.0, digits_more (by_edge c.args.counts) c.loop-count.count-index c.loop-count.n _ I.1 refl)

pub returns-clause-place : goal.returns-clause-place
returns-clause-place c = let I = c.loop-count.invariant in found_in (by_edge c.args.counts) I.0 c.loop-count.n c.loop-count.count-index I.1 (omega arith)

pub returns-clause-within : goal.returns-clause-within
returns-clause-within c = bound c.args.counts c.loop-count.n c.loop-count.count-index (omega arith) c.loop-count.invariant
