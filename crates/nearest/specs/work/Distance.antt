-- One search for a nearer point.
use Rattle.std.specs.Prelude.{ℕ, ◌≤◌, ◌<◌, ◌≡◌, Bool, true, false, List, Option, Some, None, Float}
use Rattle.std.specs.Float.Ieee.{lt}
use Rattle.place.specs.declared.Place.{Place}
use Rattle.nearest.specs.Distance.{point_count, distance_of}

-- point k has a smaller squared distance than x
abbrev pub nearer_than : (points : List Float) (query : Place) → Float → ℕ → Bool
nearer_than points query x k = lt (distance_of points query k) x

module _ (points : List Float) (query : Place) (x : Float) (i : ℕ) where
  -- none of the points from i up to k has
  abbrev pub NoneNearer : ℕ → Type 0
  NoneNearer k = (q : ℕ) → i ≤ q → q < k → nearer_than points query x q ≡ false

  -- the lowest from i on that has, or none
  abbrev pub FindsNearer : Option ℕ → Type 0
  FindsNearer (Some k) = (i ≤ k) × (k < point_count points) × (nearer_than points query x k ≡ true) × NoneNearer k
  FindsNearer None = NoneNearer (point_count points)
