-- A search that tells whether it finds: by another test, and in blocks.
use Rattle.std.specs.Prelude.{Some, None}
use Prim.Native.Nat.{ℕ, ◌*◌, ◌/◌, ◌<◌}
use mathlib.Core.Path.{◌∙◌, ◌≡◌, ap, sym}
use mathlib.Core.Bool.{Bool}
use native.Mathlib.Nat.{div-lt_iff_lt-mul, mul-div_cancel_left, mul_comm}
use native.Mathlib.Omega.{arith}
use Rattle.counting.specs.Search.{first}
use Rattle.counting.specs.work.Search.{found}
use Rattle.counting.proofs.Search.{first_found, found_first, found_none, none_found}

module _ (t u : ℕ → Bool) (n : ℕ) where
  pub found_same : first t n ≡ first u n → found t n ≡ found u n
  unfolding found
  found_same e = rw e

-- what is found in blocks of b numbers stands in the first block that has one
module _ (t u : ℕ → Bool) (b n : ℕ) (pos : 0 < b) (e : first t (b * n) / b ≡ first u n) where
  pub block_found : (j : ℕ) → Some j ≡ found t (b * n) → Some (j / b) ≡ found u n
  block_found j h =
      let w = found_first t (b * n) j h in
      let z : j / b ≡ first u n = ap (λ (x : ℕ). x / b) w.0 ∙ e in
      let l : j / b < n = (div-lt_iff_lt-mul pos).1 (omega (arith, w.1, mul_comm b n)) in
      ap Some z ∙ first_found u n (omega arith)

  pub block_none : None ≡ found t (b * n) → None ≡ found u n
  block_none h =
      let q = found_none t (b * n) h in
      let z : first u n ≡ n = sym e ∙ ap (λ (x : ℕ). x / b) q ∙ mul-div_cancel_left n pos in
      none_found u n (omega arith)
