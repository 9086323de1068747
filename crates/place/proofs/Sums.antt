-- Sums and middles of points.
use Rattle.std.proofs.Common.{◌≡◌, ℕ, zero, suc, ◌+◌, ◌-◌, ◌<◌, ◌≤◌, refl, ap, ◌∙◌, ap₂, arith}
use Rattle.place.specs.declared.Place.{Place}
use Rattle.place.specs.Place.{float_of, added, divided, sum_to, middle}

module _ (p : ℕ → Place) where
  pub sum_one : p 0 ≡ sum_to p (1 - 1)
  unfolding sum_to
  sum_one = refl

  -- one point more
  pub sum_more : (i : ℕ) → 0 < i → {s q : Place} → s ≡ sum_to p (i - 1) → q ≡ p i → added s q ≡ sum_to p (i + 1 - 1)
  unfolding sum_to
  sum_more zero h e f = absurd (omega arith)
  sum_more (suc i) h e f =
      let a : suc i - 1 ≡ i = omega arith in
      let b : suc i ≡ suc i + 1 - 1 = omega arith in
      ap₂ added (e ∙ ap (sum_to p) a) f ∙ ap (sum_to p) b

-- a middle is of its points alone
module _ (p q : ℕ → Place) where
  sum_ext : (n : ℕ) → ((k : ℕ) → k ≤ n → p k ≡ q k) → sum_to p n ≡ sum_to q n
  unfolding sum_to
  sum_ext zero h = h 0 (omega arith)
  sum_ext (suc n) h = ap₂ added (sum_ext n (λ k l. h k (omega arith))) (h (suc n) (omega arith))

  pub middle_ext : (n : ℕ) → 0 < n → ((k : ℕ) → k < n → p k ≡ q k) → middle p n ≡ middle q n
  unfolding middle
  middle_ext n l h = ap (λ (x : Place). divided x (float_of n)) (sum_ext (n - 1) (λ k m. h k (omega arith)))
