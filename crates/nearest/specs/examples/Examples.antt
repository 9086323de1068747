-- Examples of the nearest call: a list of numbers, the query's three, and the answer in numbers.
use Rattle.std.specs.Prelude.{ℕ, ◌≡◌, true, false, List, [], ◌∷◌, ◌++◌, map, replicate, Float}
use Rattle.std.specs.Float.{nan, inf, binary64}
use Rattle.std.specs.Float.Ieee.{div, neg, of_bits}
use Rattle.answer.specs.Answer.{result_of, refusal}
use Rattle.place.specs.declared.Place.{Place}
use Rattle.place.specs.Place.{float_of, farthest}
use Rattle.nearest.specs.Answer.{nearest_answer}

pub record Example : Type 0 where
  pub points : List Float
  pub query : Place
  pub answer : List ℕ

-- some numbers
abbrev zero : Float
zero = float_of 0

abbrev minus_zero : Float
minus_zero = neg zero

abbrev one : Float
one = float_of 1

abbrev minus_one : Float
minus_one = neg one

-- a place by its three numbers, and the origin
abbrev at : Float → Float → Float → Place
at x y z = record { x = x; y = y; z = z }

abbrev origin : Place
origin = at zero zero zero

abbrev bits : ℕ → Float
bits n = of_bits binary64 n

-- the floats nearest to tenths
abbrev tenths : ℕ → Float
tenths a = div binary64 (float_of a) (float_of 10)

-- the farthest that a number may be, and the float after it
abbrev million : Float
million = float_of farthest

abbrev over_million : Float
over_million = bits 0x412e848000000001

abbrev asks : (points : List Float) (query : Place) (answer : List ℕ) → Example
asks l q a = record { points = l; query = q; answer = a }

-- a point: its number, and its squared distance by its bits
abbrev point : ℕ → ℕ → List ℕ
point n d = result_of (n ∷ d ∷ [])

unfoldable pub examples : List Example
examples =
    -- one point: the square, 169, and not its root, 13
    asks (float_of 3 ∷ float_of 4 ∷ float_of 12 ∷ []) origin (point 0 0x4065200000000000)
    -- of equals the lowest number, also where the first of the list is farther
    ∷ asks (one ∷ zero ∷ zero ∷ zero ∷ minus_one ∷ zero ∷ zero ∷ zero ∷ one ∷ []) origin (point 0 0x3ff0000000000000)
    ∷ asks (float_of 2 ∷ zero ∷ zero ∷ zero ∷ minus_one ∷ zero ∷ one ∷ zero ∷ zero ∷ []) origin (point 1 0x3ff0000000000000)
    -- the last of the list, nearer by one bit, which a root would not show
    ∷ asks (one ∷ bits 0x3e50000000000000 ∷ zero ∷ one ∷ zero ∷ zero ∷ []) origin (point 1 0x3ff0000000000000)
    -- each other order of the sum, and each sum with a product that is not rounded, gives another last bit
    ∷ asks (tenths 10 ∷ tenths 21 ∷ tenths 10 ∷ []) (at (tenths 1) (tenths 3) (tenths 2)) (point 0 0x4012c28f5c28f5c4)
    -- equal but for the rounding of the sums: in another order the first of them would be given
    ∷ asks (tenths 9 ∷ tenths 18 ∷ tenths 8 ∷ tenths 9 ∷ tenths 8 ∷ tenths 18 ∷ []) origin (point 1 0x4012c28f5c28f5c3)
    -- squares too small for a float are 0, and then equal
    ∷ asks (bits 0x1000000000000000 ∷ zero ∷ zero ∷ zero ∷ zero ∷ zero ∷ []) origin (point 0 0)
    -- −0 is 0, within the limit, and no distance is −0
    ∷ asks (zero ∷ minus_zero ∷ zero ∷ minus_zero ∷ zero ∷ minus_zero ∷ []) (at minus_zero zero minus_zero) (point 0 0)
    -- the ends are within: the greatest distance
    ∷ asks (million ∷ million ∷ neg million ∷ []) (at (neg million) (neg million) million) (point 0 0x42a5d3ef79800000)
    -- no point
    ∷ asks [] origin (result_of []) ∷ asks [] (at (neg million) million minus_zero) (result_of [])
    -- 23 comes before it: the query's numbers follow the list's
    ∷ asks [] (at zero nan zero) (refusal 23 1) ∷ asks (replicate 6 zero) (at zero zero nan) (refusal 23 8) ∷ asks (replicate 3 one) (at over_million zero nan) (refusal 23 3)
    -- a list that is not three numbers to a point, whatever else is wrong
    ∷ asks (replicate 4 zero) origin (refusal 23 0) ∷ asks (zero ∷ nan ∷ []) (at nan nan nan) (refusal 23 0)
    -- beyond the ends, no number and the infinities; the lowest of them
    ∷ asks (zero ∷ million ∷ over_million ∷ []) origin (refusal 23 2) ∷ asks (neg over_million ∷ zero ∷ zero ∷ []) origin (refusal 23 0)
    ∷ asks (replicate 4 zero ++ (nan ∷ zero ∷ [])) (at nan zero zero) (refusal 23 4)
    ∷ asks (replicate 5 zero ++ (inf false ∷ [])) origin (refusal 23 5) ∷ asks (replicate 3 zero) (at zero (inf true) (inf false)) (refusal 23 4)
    ∷ []

abbrev pub ExamplesHold : Type 0
ExamplesHold = map (λ x. nearest_answer x.points x.query) examples ≡ map (λ x. x.answer) examples
