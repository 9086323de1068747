-- A point of space (01): a struct of three 64-bit floats, and what is done with it. Each operation on floats rounds once.
use Rattle.std.specs.Prelude.{ℕ, zero, suc, ◌+◌, ◌-◌, ◌*◌, Bool, ◌&&◌, List, [], ◌∷◌, pos, neg_ℤ, slice_index_or, Float}
use Rattle.std.specs.Float.{nan, binary64}
use Rattle.std.specs.Float.Ieee.{add, sub, mul, div, le, of_int}
use Rattle.counting.specs.Lists.{gather}
use Rattle.place.specs.declared.Place.{Place}

-- the whole number n as a float
abbrev pub float_of : ℕ → Float
float_of n = of_int binary64 (pos n)

-- the farthest that a number of a point may be from 0
abbrev pub farthest : ℕ
farthest = 1000000

-- not farther, to either side: false of a NaN and of the infinities
unfoldable pub within : Float → Bool
within x = le (of_int binary64 (neg_ℤ (pos farthest))) x && le x (float_of farthest)

-- u + s × (v − u)
abbrev pub interpolated : Float → Float → Float → Float
interpolated u v s = add binary64 u (mul binary64 s (sub binary64 v u))

-- the point with fraction s between two points
abbrev pub between : Place → Place → Float → Place
between u v s = record { x = interpolated u.x v.x s; y = interpolated u.y v.y s; z = interpolated u.z v.z s }

abbrev pub added : Place → Place → Place
added p q = record { x = add binary64 p.x q.x; y = add binary64 p.y q.y; z = add binary64 p.z q.z }

abbrev pub divided : Place → Float → Place
divided p n = record { x = div binary64 p.x n; y = div binary64 p.y n; z = div binary64 p.z n }

-- (i + 1) / (m + 1)
abbrev pub part_of : (i m : ℕ) → Float
part_of i m = div binary64 (float_of (i + 1)) (float_of (m + 1))

-- the first of the points p, then those up to the k-th added in their order
unfoldable pub sum_to : (ℕ → Place) → ℕ → Place
sum_to p zero = p 0
sum_to p (suc k) = added (sum_to p k) (p (suc k))

-- the middle (01) of the first n points
unfoldable pub middle : (ℕ → Place) → ℕ → Place
middle p n = divided (sum_to p (n - 1)) (float_of n)

-- a point in a list: three numbers to a point
abbrev pub coordinates : ℕ
coordinates = 3

abbrev pub place_at : List Float → ℕ → Place
place_at l k = record {
  x = slice_index_or l (coordinates * k) nan;
  y = slice_index_or l (coordinates * k + 1) nan;
  z = slice_index_or l (coordinates * k + 2) nan;
}

abbrev pub numbers : Place → List Float
numbers p = p.x ∷ p.y ∷ p.z ∷ []

abbrev pub all_numbers : List Place → List Float
all_numbers l = gather numbers l
