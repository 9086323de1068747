-- What is left of a walk from p that stands at its k-th dart, d.
use Prim.Native.Nat.{ℕ, suc, ◌+◌, ◌*◌, ◌-◌, ◌/◌, ◌≤◌, ◌<◌}
use mathlib.Core.Path.{◌≡◌, refl, ◌∙◌}
use native.Mathlib.Omega.{arith}
use native.Mathlib.Numerals.{add-one}
use borrow.Author.Tests.{lt-ltb, le-ltb}
use Rattle.walk.specs.Walk.{off, status, turn, size}
use Rattle.walk.proofs.Found.{turn_home, turn_off, turn_on, home_place, on_place}

pub end_place : (M p d : ℕ) → M ≤ d → status M p d ≡ off
unfolding status
end_place M p d h = rw (le-ltb d M h)

pub low_place : (M p d : ℕ) → d < M → d / 2 < p → status M p d ≡ off
unfolding status
low_place M p d h l = rw (lt-ltb d M h, lt-ltb (d / 2) p l)

module _ (N : ℕ) (s : ℕ → ℕ) (p : ℕ) where
  unfoldable pub rest : ℕ → ℕ → ℕ
  rest k d = turn s (status (2 * N) p) (N + 1 - k) k d

  pub rest-start : (d : ℕ) → d ≡ s (2 * p) → size N s p ≡ rest 1 d
  unfolding rest size
  rest-start d e = let f : N + 1 - 1 ≡ N = omega arith in rw (e, f)

  module _ (k d : ℕ) (within : k ≤ N) where
    one_more : N + 1 - k ≡ suc (N + 1 - (k + 1))
    one_more = omega arith

    pub rest_end : 2 * N ≤ d → rest k d ≡ 0
    unfolding rest
    rest_end h = rw one_more (turn_off s (status (2 * N) p) (N + 1 - (k + 1)) k d (end_place (2 * N) p d h))

    module _ (live : d < 2 * N) where
      pub rest_low : d / 2 < p → rest k d ≡ 0
      unfolding rest
      rest_low h = rw one_more (turn_off s (status (2 * N) p) (N + 1 - (k + 1)) k d (low_place (2 * N) p d live h))

      pub rest_home : d / 2 ≡ p → rest k d ≡ k
      unfolding rest
      rest_home h = rw one_more (turn_home s (status (2 * N) p) (N + 1 - (k + 1)) k d (home_place (2 * N) p d live h))

      pub rest_on : (e : ℕ) → p < d / 2 → e ≡ s d → rest k d ≡ rest (k + 1) e
      unfolding rest
      rest_on e h f = rw (one_more, f) (turn_on s (status (2 * N) p) (N + 1 - (k + 1)) k d (on_place (2 * N) p d live h) ∙ rw (add-one k) refl)
