-- Splitting again and again, by the two numbers alone (02, W12): x is d1 and y is d2, with x ≥ y > 0. Where they differ there is a split. Of its four
-- sub-cells one can have two numbers that differ again: x − y and y. So the numbers go as in Euclid's algorithm by subtraction, until they are equal.
use Rattle.std.specs.Prelude.{ℕ, zero, suc, ◌+◌, ◌-◌, ◌*◌, min, max, Bool, true, false, ◌&&◌, eqb, ltb}
use Rattle.counting.specs.Gcd.{gcd}

-- the numbers of a spiral, d1 > d2 > 0, and of a cell that is split: with a common divisor above 1
unfoldable pub are_spiral : ℕ → ℕ → Bool
are_spiral x y = ltb 0 y && ltb y x

unfoldable pub are_split : ℕ → ℕ → Bool
are_split x y = are_spiral x y && ltb 1 (gcd x y)

-- the numbers of that sub-cell
abbrev pub next_larger : ℕ → ℕ → ℕ
next_larger x y = max (x - y) y

abbrev pub next_smaller : ℕ → ℕ → ℕ
next_smaller x y = min (x - y) y

-- anything that is summed over the splits: `add x y` for a split, `stop x` at the end, where both numbers are x; n splits at most
unfoldable pub figure_in : (ℕ → ℕ) → (ℕ → ℕ → ℕ) → ℕ → ℕ → ℕ → ℕ
figure_in stop add zero x y = stop x
figure_in stop add (suc n) x y = elim (eqb x y) [ true ↦ stop x | false ↦ add x y + figure_in stop add n (next_larger x y) (next_smaller x y) ]

-- the sum of the two numbers falls, so that it is more than the splits
unfoldable pub figure : (ℕ → ℕ) → (ℕ → ℕ → ℕ) → ℕ → ℕ → ℕ
figure stop add x y = figure_in stop add (x + y) x y

-- how many splits there are
abbrev pub splits : ℕ → ℕ → ℕ
splits x y = figure (λ n. 0) (λ x y. 1) x y

-- how many inner crossings they have
abbrev pub inner_crossings : ℕ → ℕ → ℕ
inner_crossings x y = figure (λ n. 0) (λ x y. 2 * (x + y)) x y

-- how many triangles there are beside the own corner triangles of the cell
abbrev pub beside_split : ℕ → ℕ → ℕ
beside_split x y = figure (λ n. 8 * n) (λ x y. 4 * x + 10 * y) x y
