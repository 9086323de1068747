-- The answer of the nearest call (02).
use Rattle.std.specs.Prelude.{ℕ, ◌-◌, ◌%◌, Bool, not, ◌&&◌, ◌||◌, List, [], ◌∷◌, ◌++◌, eqb, length, get_or, Float, Result, Ok, Err}
use Rattle.std.specs.Float.{nan, binary64}
use Rattle.std.specs.Float.Ieee.{fits, is_nan, to_bits}
use Rattle.answer.specs.declared.Refusal.{Refusal}
use Rattle.answer.specs.Answer.{result_of}
use Rattle.answer.specs.Refusal.{refusal_numbers}
use Rattle.answer.specs.Rows.{Row, each, answer_of}
use Rattle.counting.specs.Pick.{pick}
use Rattle.place.specs.declared.Place.{Place}
use Rattle.place.specs.Place.{within, coordinates, numbers}
use Rattle.nearest.specs.declared.Nearest.{Nearest}
use Rattle.nearest.specs.declared.Nearest.TheVariants.{NoPoint, At}
use Rattle.nearest.specs.Distance.{least_to, point_count, distance_of}

-- a float of the format that is no NaN: its bits are its own
abbrev pub has_bits : Float → Bool
has_bits x = fits binary64 x && not (is_nan x)

-- What the call answers: no point, the nearest point, or a refusal.
abbrev pub Measured : Type 0
Measured = Result Nearest Refusal

-- The call's answer as numbers: no point is a result without values; a point has its number and the bits of its squared distance, by which no two
-- floats are alike. What has no bits of its own is given no reading.
abbrev pub nearest_numbers : Nearest → List ℕ
nearest_numbers NoPoint = result_of []
nearest_numbers (At n d) = pick (has_bits d) (result_of (n ∷ to_bits binary64 d ∷ [])) []

abbrev pub measured_numbers : Measured → List ℕ
measured_numbers (Ok n) = nearest_numbers n
measured_numbers (Err r) = refusal_numbers r

-- number i of a list is not within the limit
abbrev pub beyond : List Float → ℕ → Bool
beyond l i = not (within (get_or l i nan))

module _ (points : List Float) (query : Place) where
  -- the numbers that are judged: those of the list, and the query's three after them
  abbrev pub judged : List Float
  judged = points ++ numbers query

  -- 23: at 0 a list that is not three numbers to a point; at its index a number that is not within the limit
  unfoldable pub bad_points : ℕ → Bool
  bad_points i = (eqb i 0 && not (eqb (length points % coordinates) 0)) || beyond judged i

  unfoldable pub nearest_rows : List Row
  nearest_rows = each 23 (length judged) bad_points ∷ []

  -- the number of the nearest point of a list that has one
  unfoldable pub nearest_number : ℕ
  nearest_number = least_to (distance_of points query) (point_count points - 1)

  -- the values of the result: none for an empty list
  unfoldable pub nearest_values : List ℕ
  nearest_values = pick (eqb (length points) 0) [] (nearest_number ∷ to_bits binary64 (distance_of points query nearest_number) ∷ [])

  -- row 23, or else the nearest point
  unfoldable pub nearest_answer : List ℕ
  nearest_answer = answer_of nearest_rows (result_of nearest_values)
