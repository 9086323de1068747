-- The faults of row 23 (02), each with its place.
use Rattle.std.specs.Prelude.{ℕ, ◌+◌, ◌%◌, ◌≤◌, ◌<◌, ◌≡◌, false, List, length, get_or, Float}
use Rattle.std.specs.Float.{nan}
use Rattle.place.specs.declared.Place.{Place}
use Rattle.place.specs.Place.{within, coordinates, numbers}

pub data Fault (points : List Float) (query : Place) (place : ℕ) : Type 0 where
  -- the list is not three numbers to a point
  uneven : place ≡ 0 → (length points % coordinates ≡ 0 → ⊥) → Fault points query place
  -- a number of the list is not within the limit
  listed : place < length points → within (get_or points place nan) ≡ false → Fault points query place
  -- one of the query's three, which stand after the list
  asked : (t : ℕ) → t < coordinates → place ≡ length points + t → within (get_or (numbers query) t nan) ≡ false → Fault points query place

-- no fault at all
abbrev pub Faultless : (points : List Float) (query : Place) → Type 0
Faultless points query = (place : ℕ) → Fault points query place → ⊥

-- a fault, and none at a lower place
pub record LowestAt (points : List Float) (query : Place) (place : ℕ) : Type 0 where
  pub fault : Fault points query place
  pub lowest : (q : ℕ) → Fault points query q → place ≤ q
