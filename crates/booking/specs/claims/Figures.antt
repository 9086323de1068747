-- The laws of splitting again and again, by the two numbers alone.
use Rattle.std.specs.Prelude.{ℕ, ◌+◌, ◌*◌, ◌/◌, ◌≤◌, ◌<◌, ◌≡◌}
use Rattle.counting.specs.Gcd.{gcd}
use Rattle.booking.specs.Figures.{next_larger, next_smaller, figure, splits, inner_crossings, beside_split}

-- the number at the end, where both are equal
abbrev pub end_number : ℕ → ℕ → ℕ
end_number x y = figure (λ n. n) (λ x y. 0) x y

-- Of x and y with x ≥ y > 0.
pub record FigureLaws (x y : ℕ) : Type 0 where
  -- a figure by one split, and at the end
  pub step : (stop : ℕ → ℕ) (add : ℕ → ℕ → ℕ) → y < x → figure stop add x y ≡ add x y + figure stop add (next_larger x y) (next_smaller x y)
  pub stop : (stop : ℕ → ℕ) (add : ℕ → ℕ → ℕ) → figure stop add x x ≡ stop x
  -- what is split again has two positive numbers, the larger first, whose sum is x, and the same greatest common divisor
  pub positive : y < x → 0 < next_smaller x y
  pub order : next_smaller x y ≤ next_larger x y
  pub falls : y < x → next_larger x y + next_smaller x y ≡ x
  pub kept : y < x → gcd (next_larger x y) (next_smaller x y) ≡ gcd x y
  -- it is the number at the end
  pub end : end_number x y ≡ gcd x y
  -- there are at most x / gcd x y − 1 splits (02, W12)
  pub few : splits x y + 1 ≤ x / gcd x y
  -- sizes
  pub splits_fit : splits x y < x
  pub inner_fit : inner_crossings x y ≤ 2 * (x * x)
  pub triangles_fit : beside_split x y ≤ 8 * (x * x)
