-- The lowest of the numbers with the least float: how searches for smaller ones lead to it, and what it has.
use Prim.Native.Nat.{ℕ, zero, suc, ◌+◌, ◌-◌, ◌≤◌, ◌<◌}
use mathlib.Core.Path.{◌≡◌, refl, sym, ap, ◌∙◌, subst}
use mathlib.Core.Logic.{⊎_elim}
use mathlib.Core.Bool.{Bool, true, false}
use mathlib.Core.List.{List}
use native.Mathlib.Decide.{dec_lt}
use native.Mathlib.Nat.{not-suc-le-zero}
use native.Mathlib.Omega.{arith}
use lib.Ieee.{Float, lt, le, eq}
use Rattle.counting.specs.Pick.{pick}
use Rattle.counting.proofs.Below.{trichotomy}
use Rattle.counting.proofs.Search.{below-or}
use Rattle.place.specs.declared.Place.{Place}
use Rattle.place.specs.Place.{place_at}
use Rattle.nearest.specs.Distance.{squared_distance, least_to, distance_of}
use Rattle.nearest.specs.work.Distance.{nearer_than}
use Rattle.nearest.proofs.Order.{Counted, not_greater, not_equal, at_most, not_self, smaller}

-- b is the lowest of the first i numbers with the least of their floats, which is x
pub record LeastSoFar (d : ℕ → Float) (i b : ℕ) (x : Float) : Type 0 where
  pub some : 0 < i
  pub number : b ≡ least_to d (i - 1)
  pub float : x ≡ d b

module _ (d : ℕ → Float) where
  pub reached_one : {x : Float} → x ≡ d 0 → LeastSoFar d 1 0 x
  unfolding least_to
  reached_one e = record { some = omega arith; number = refl; float = e }

  -- one number more
  next : (i : ℕ) → 0 < i → least_to d (i + 1 - 1) ≡ pick (lt (d i) (d (least_to d (i - 1)))) i (least_to d (i - 1))
  unfolding least_to
  next zero h = absurd (omega arith)
  next (suc i) h =
      let a : suc i + 1 - 1 ≡ suc i = omega arith in
      let b : suc i - 1 ≡ i = omega arith in
      rw (a, b)

  -- whose float y is smaller, or not
  pub next_less : {i b : ℕ} {x y : Float} → LeastSoFar d i b x → y ≡ d i → lt y x ≡ true → LeastSoFar d (i + 1) i y
  next_less {i} R e h = record { some = omega arith; number = sym (next i R.some ∙ rw (← R.number, ← R.float, ← e, h)); float = e }

  pub next_not : {i b : ℕ} {x y : Float} → LeastSoFar d i b x → y ≡ d i → lt y x ≡ false → LeastSoFar d (i + 1) b x
  next_not {i} R e h = record { some = omega arith; number = sym (next i R.some ∙ rw (← R.number, ← R.float, ← e, h)); float = R.float }

  -- numbers none of which has a smaller one
  run_not : (j : ℕ) {i b : ℕ} {x : Float} → LeastSoFar d i b x → ((k : ℕ) → i ≤ k → k < i + j → lt (d k) x ≡ false) → LeastSoFar d (i + j) b x
  run_not zero {i} {b} {x} R h = let e : i ≡ i + 0 = omega arith in subst (λ k. LeastSoFar d k b x) e R
  run_not (suc j) {i} {b} {x} R h =
      let e : i + 1 + j ≡ i + suc j = omega arith in
      subst (λ k. LeastSoFar d k b x) e (run_not j (next_not R refl (h i (omega arith) (omega arith))) (λ k l m. h k (omega arith) (omega arith)))

  -- those up to k
  run_to : (k : ℕ) {i b : ℕ} {x : Float} → LeastSoFar d i b x → i ≤ k → ((q : ℕ) → i ≤ q → q < k → lt (d q) x ≡ false) → LeastSoFar d k b x
  run_to k {i} {b} {x} R l h = let e : i + (k - i) ≡ k = omega arith in subst (λ q. LeastSoFar d q b x) e (run_not (k - i) R (λ q a c. h q a (omega arith)))

  -- and then one that has
  pub run_more : {k i b : ℕ} {x y : Float} → LeastSoFar d i b x → i ≤ k → ((q : ℕ) → i ≤ q → q < k → lt (d q) x ≡ false) → lt (d k) x ≡ true → y ≡ d k → LeastSoFar d (k + 1) k y
  run_more {k} R l h s e = next_less (run_to k R l h) e (rw e s)

  -- after the last number
  pub run_end : {n i b : ℕ} {x : Float} → LeastSoFar d i b x → i - 1 ≤ n - 1 → ((q : ℕ) → i ≤ q → q < n → lt (d q) x ≡ false) → b ≡ least_to d (n - 1)
  run_end {n} {i} R l h = elim (dec_lt n i) [
    | yes g ↦ let e : i - 1 ≡ n - 1 = omega arith in R.number ∙ ap (least_to d) e
    | no g ↦ (run_to n R (omega arith) h).number
  ]

-- what a point that is loaded is measured to have
pub distance_is : (points : List Float) (query : Place) (k : ℕ) {p : Place} {x : Float} → p ≡ place_at points k → x ≡ squared_distance p query → x ≡ distance_of points query k
unfolding distance_of
distance_is points query k e h = h ∙ ap (λ (p : Place). squared_distance p query) e

pub nearer_is : (points : List Float) (query : Place) (k : ℕ) (least : Float) (b : Bool) {p : Place} {x : Float} → p ≡ place_at points k → x ≡ squared_distance p query → lt x least ≡ b
    → nearer_than points query least k ≡ b
nearer_is points query k least b e h q = ap (λ y. lt y least) (sym (distance_is points query k e h)) ∙ q

-- what is found: each earlier number has a greater float, and no later one a smaller one
pub record LeastAt (d : ℕ → Float) (n b : ℕ) : Type 0 where
  pub at : b ≤ n
  pub before : (k : ℕ) → k < b → lt (d b) (d k) ≡ true
  pub after : (k : ℕ) → b < k → k ≤ n → lt (d k) (d b) ≡ false

module _ (d : ℕ → Float) (n b : ℕ) (C : (k : ℕ) → k ≤ n → Counted (d k)) (L : LeastAt d n b) where
  here : Counted (d b)
  here = C b L.at

  -- so none of them has a smaller one
  pub none_smaller : (k : ℕ) → k ≤ n → lt (d k) (d b) ≡ false
  none_smaller k h =
      trichotomy k b (λ l. not_greater (d b) (d k) here (C k h) (L.before k l)) (λ l. L.after k l h)
      (λ e. subst (λ i. lt (d i) (d b) ≡ false) (sym e) (not_self (d b) here))

  -- and of those with an equal one it is the lowest
  pub lowest_equal : (k : ℕ) → k ≤ n → eq (d k) (d b) ≡ true → b ≤ k
  lowest_equal k h e = elim (dec_lt k b) [ yes l ↦ absurd (not_equal (d b) (d k) here (C k h) (L.before k l) e) | no l ↦ omega arith ]

  pub not_above : (k : ℕ) → k ≤ n → le (d b) (d k) ≡ true
  not_above k h = at_most (d b) (d k) here (C k h) (none_smaller k h)

-- one number more
next-at : (d : ℕ → Float) (n b : ℕ) → ((k : ℕ) → k ≤ suc n → Counted (d k)) → LeastAt d n b → (t : Bool) → lt (d (suc n)) (d b) ≡ t → LeastAt d (suc n) (pick t (suc n) b)
next-at d n b C L true e = record {
  at = omega arith;
  before = λ k h.
      smaller (d (suc n)) (d k) (d b) (C (suc n) (omega arith)) (C k (omega arith)) (C b (omega (arith, L.at))) e
      (none_smaller d n b (λ i l. C i (omega arith)) L k (omega arith));
  after = λ k h l. absurd (omega arith);
}
next-at d n b C L false e = record {
  at = omega (arith, L.at);
  before = L.before;
  after = λ k h l. ⊎_elim (λ q. subst (λ i. lt (d i) (d b) ≡ false) (sym q) e) (λ q. L.after k h (omega arith)) (below-or k (suc n) (omega arith));
}

pub least-at : (d : ℕ → Float) (n : ℕ) → ((k : ℕ) → k ≤ n → Counted (d k)) → LeastAt d n (least_to d n)
unfolding least_to
least-at d zero C = record { at = omega arith; before = λ k h. absurd (not-suc-le-zero h); after = λ k h l. absurd (omega arith) }
least-at d (suc n) C = next-at d n (least_to d n) C (least-at d n (λ k h. C k (omega arith))) (lt (d (suc n)) (d (least_to d n))) refl
