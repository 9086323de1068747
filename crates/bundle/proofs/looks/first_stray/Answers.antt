use Rattle.std.specs.Prelude.{Some, None}
use Prim.Native.Nat.{ℕ, ◌+◌, ◌-◌, ◌≤◌, ◌<◌}
use mathlib.Core.Path.{◌≡◌, sym, ap, ◌∙◌}
use mathlib.Core.Bool.{Bool, false}
use native.Mathlib.Decide.{dec_lt}
use native.Mathlib.Omega.{arith}
use Rattle.counting.specs.work.Search.{found}
use Rattle.counting.proofs.Search.{first_is, first_below, first_none, found_first, found_none, found_hit, found_end}
use Rattle.bundle.specs.Bundle.{is_stray}
use Rattle.bundle.proofs.looks.first_stray.Goals as goal
use Rattle.bundle.proofs.looks.first_stray.Goals.{After-stray_in}

-- none of the first m passes
module _ (t : ℕ → Bool) (m n : ℕ) (none : (i : ℕ) → i < m → t i ≡ false) where
  -- nor of the first j after them
  below : (j : ℕ) → ((i : ℕ) → i < j → t (m + i) ≡ false) → (i : ℕ) → i < m + j → t i ≡ false
  below j h i l =
      elim (dec_lt i m) [
        | yes a ↦ none i a
        | no a ↦ let q : m + (i - m) ≡ i = omega arith in sym (ap t q) ∙ h (i - m) (omega arith)
      ]

  hit : (j all : ℕ) → m + n ≤ all → Some j ≡ found (λ i. t (m + i)) n → Some (m + j) ≡ found t all
  hit j all b e =
      let w = found_first (λ i. t (m + i)) n j e in
      found_hit t all (m + j) (omega (arith, w.1)) (ap (λ x. t (m + x)) w.0 ∙ first_is (λ i. t (m + i)) n (omega (arith, w.0, w.1)))
      (below j (λ i l. first_below (λ i. t (m + i)) n i (omega (arith, w.0))))

  miss : None ≡ found (λ i. t (m + i)) n → (i : ℕ) → i < m + n → t i ≡ false
  miss e = below n (λ i l. first_none (λ i. t (m + i)) n (omega (arith, found_none (λ i. t (m + i)) n e)) i l)

pub loop-m-init : goal.loop-m-init
loop-m-init c = (omega arith, λ i h. absurd (omega (arith, h)))

-- what the block tells, by the place where it starts
block_told : (c : After-stray_in) → c.stray_in.result ≡ found (λ j. is_stray c.args.looked.now.bytes.now (c.loop-m.m + j)) c.block-block.result.count
block_told c = let b = c.block-block.ensures in rw (b.of, b.first) at c.stray_in.ensures

pub overflow_add-result : goal.overflow_add-result
overflow_add-result c =
    let w = found_first _ _ _ c.in-Some.ensures in
    omega (arith, w.1, c.block-block.ensures.count)

pub returns-in-Some : goal.returns-in-Some
returns-in-Some c = hit _ _ _ c.loop-m.invariant.1 _ _ (omega (arith, c.args.looked.now.lent.all, c.block-block.ensures.count)) (rw c.in-Some.is at (block_told (goal.at.returns-in-Some c).After-stray_in))

pub loop-m-preserved : goal.loop-m-preserved
loop-m-preserved c = (omega (arith, c.block-block.ensures.count), miss _ _ _ c.loop-m.invariant.1 (rw c.in_default.is at (block_told (goal.at.loop-m-preserved c).After-stray_in)))

pub returns : goal.returns
returns c = found_end _ _ (λ i h. c.loop-m.invariant.1 i (omega (arith, c.args.looked.now.lent.all, h)))
