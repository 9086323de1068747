-- What n things link to is reached in n links, and no more is.
use Prim.Native.Nat.{ℕ, zero, suc, ◌≤◌, ◌<◌}
use mathlib.Core.Path.{◌≡◌, ap, ◌∙◌}
use mathlib.Core.Logic.{◌⊎◌, inl, inr, ⊎_elim}
use mathlib.Core.Bool.{Bool, true, ◌&&◌, ◌||◌}
use native.Mathlib.Omega.{arith}
use native.Mathlib.Nat.{eq-or-lt_of_le}
use Rattle.counting.specs.Search.{some, count}
use Rattle.counting.specs.Reach.{reach}
use Rattle.counting.proofs.Bools.{and_true, and_left, and_right, or_left, or_right, or_cases}
use Rattle.counting.proofs.Search.{some_ext, some_is, some_found, count_into, count_same, count_full}

module _ (start : ℕ → Bool) (link : ℕ → ℕ → Bool) (C : ℕ) where
  R : ℕ → ℕ → Bool
  R = reach start link C

  more : (n i : ℕ) → R n i ≡ true → R (suc n) i ≡ true
  unfolding R reach
  more n i e = or_left (reach start link C n i) (some (λ d. reach start link C n d && link d i) C) e

  Stable : ℕ → Type 0
  Stable n = (c : ℕ) → c < C → R n c ≡ R (suc n) c

  stays : (n : ℕ) → Stable n → Stable (suc n)
  unfolding R reach Stable
  stays n s c h =
      let e : some (λ d. reach start link C n d && link d c) C ≡ some (λ d. reach start link C (suc n) d && link d c) C =
      some_ext (λ d. reach start link C n d && link d c) (λ d. reach start link C (suc n) d && link d c) C (λ d l. ap (λ (x : Bool). x && link d c) (s d l)) in
      ap (λ (x : Bool). x || some (λ d. reach start link C n d && link d c) C) (s c h) ∙ ap (λ (x : Bool). reach start link C (suc n) c || x) e

  grows : (n : ℕ) → (n ≤ count (R n) C) ⊎ Stable n
  unfolding Stable
  grows zero = inl (omega arith)
  grows (suc n) = ⊎_elim
      (λ (h : n ≤ count (R n) C). ⊎_elim
      (λ (q : count (R n) C ≡ count (R (suc n)) C). inr (stays n (count_same (R n) (R (suc n)) (more n) C q)))
      (λ (g : count (R n) C < count (R (suc n)) C). inl (omega arith))
      (eq-or-lt_of_le (count_into (R n) (R (suc n)) (more n) C)))
      (λ (s : Stable n). inr (stays n s))
      (grows n)

  -- what C steps reach is all that can be reached
  pub reach_closed : (d c : ℕ) → d < C → c < C → reach start link C C d ≡ true → link d c ≡ true → reach start link C C c ≡ true
  unfolding R reach Stable
  reach_closed d c l h r e = ⊎_elim
      (λ (f : C ≤ count (R C) C). count_full (R C) C f c h)
      (λ (s : Stable C). s c h ∙ or_right (reach start link C C c) (some (λ x. reach start link C C x && link x c) C)
      (some_found (λ x. reach start link C C x && link x c) C d l (and_true (reach start link C C d) (link d c) r e)))
      (grows C)

module _ (start : ℕ → Bool) (link : ℕ → ℕ → Bool) (C : ℕ) where
  pub reach_start : (n c : ℕ) → start c ≡ true → reach start link C n c ≡ true
  unfolding reach
  reach_start zero c e = e
  reach_start (suc n) c e = or_left (reach start link C n c) (some (λ d. reach start link C n d && link d c) C) (reach_start n c e)

-- what is closed and has the start has all that is reached
module _ (start : ℕ → Bool) (link : ℕ → ℕ → Bool) (C : ℕ) (P : ℕ → Type 0) (s : (c : ℕ) → start c ≡ true → P c)
    (l : (d c : ℕ) → d < C → c < C → P d → link d c ≡ true → P c) where
  pub reach_holds : (n c : ℕ) → c < C → reach start link C n c ≡ true → P c
  unfolding reach
  reach_holds zero c h e = s c e
  reach_holds (suc n) c h e = ⊎_elim (λ (q : reach start link C n c ≡ true). reach_holds n c h q) (λ (q : some (λ d. reach start link C n d && link d c) C ≡ true).
      (let w = some_is (λ d. reach start link C n d && link d c) C q in
      l w.0 c w.1 h (reach_holds n w.0 w.1 (and_left (reach start link C n w.0) (link w.0 c) w.2))
      (and_right (reach start link C n w.0) (link w.0 c) w.2)))
      (or_cases (reach start link C n c) (some (λ d. reach start link C n d && link d c) C) e)
