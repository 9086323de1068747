-- What is proved of the nearest call, besides its contract, in the words of 02.
use Rattle.std.specs.Prelude.{ℕ, ◌*◌, ◌≤◌, ◌<◌, ◌≡◌, true, false, List, [], Float, Ok, Err}
use Rattle.std.specs.Float.Ieee.{lt, le, eq}
use Rattle.place.specs.declared.Place.{Place}
use Rattle.place.specs.Place.{float_of, farthest}
use Rattle.nearest.specs.declared.Nearest.TheVariants.{NoPoint, At}
use Rattle.nearest.specs.Distance.{point_count, distance_of}
use Rattle.answer.specs.declared.Refusal.{Refusal}
use Rattle.answer.specs.declared.Row.TheVariants.{Points}
use Rattle.nearest.specs.Answer.{Measured, measured_numbers, nearest_answer}
use Rattle.nearest.specs.claims.Fault.{Fault, Faultless, LowestAt}

-- no squared distance is greater: three squares of twice the farthest
abbrev pub greatest_distance : ℕ
greatest_distance = 12 * (farthest * farthest)

-- point n is the nearest one, at the squared distance d
pub record IsNearest (points : List Float) (query : Place) (n : ℕ) (d : Float) : Type 0 where
  pub listed : n < point_count points
  pub measured : d ≡ distance_of points query n
  -- no other point has a smaller squared distance
  pub least : (k : ℕ) → k < point_count points → lt (distance_of points query k) d ≡ false
  -- of equals the lowest number is given
  pub lowest : (k : ℕ) → k < point_count points → eq (distance_of points query k) d ≡ true → n ≤ k
  -- every squared distance is a number from 0 to the greatest, and so can be compared with this one
  pub compared : (k : ℕ) → k < point_count points → le d (distance_of points query k) ≡ true
  pub bounded : (k : ℕ) → k < point_count points
      → (le (float_of 0) (distance_of points query k) ≡ true) × (le (distance_of points query k) (float_of greatest_distance) ≡ true)

-- what the call's answer says
pub record Says (points : List Float) (query : Place) (answer : Measured) : Type 0 where
  -- it refuses with 23 alone, and at the lowest fault
  pub refuses : (r : Refusal) → answer ≡ Err r → (r.row ≡ Points) × LowestAt points query r.place
  -- wherever there is one
  pub refused : (q : ℕ) → Fault points query q → (place : ℕ) × (answer ≡ Err (record { row = Points; place = place }))
  -- no point is answered exactly for an empty list, where nothing is refused
  pub none : answer ≡ Ok NoPoint → (points ≡ []) × Faultless points query
  pub empty : points ≡ [] → Faultless points query → answer ≡ Ok NoPoint
  -- a point that is answered is the nearest one
  pub nearest : (n : ℕ) (d : Float) → answer ≡ Ok (At n d) → IsNearest points query n d × Faultless points query
  -- and one is answered for every other list
  pub found : (points ≡ [] → ⊥) → Faultless points query → (n : ℕ) × (d : Float) × (answer ≡ Ok (At n d))

-- of every answer whose reading is that of the contract
abbrev pub CallSays : Type 0
CallSays = (points : List Float) (query : Place) (answer : Measured) → measured_numbers answer ≡ nearest_answer points query → Says points query answer

-- the numbers tell the answer: no two values of the enum are read as the same answer of the call
abbrev pub MeasuredTold : Type 0
MeasuredTold = (points : List Float) (query : Place) (r s : Measured)
    → measured_numbers r ≡ nearest_answer points query → measured_numbers s ≡ nearest_answer points query → r ≡ s
