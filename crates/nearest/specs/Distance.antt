-- The squared distance of a point from the query (02), and the number of the nearest point. Each operation on floats rounds once.
use Rattle.std.specs.Prelude.{ℕ, zero, suc, ◌/◌, List, length, Float}
use Rattle.std.specs.Float.{binary64}
use Rattle.std.specs.Float.Ieee.{add, sub, mul, lt}
use Rattle.counting.specs.Pick.{pick}
use Rattle.place.specs.declared.Place.{Place}
use Rattle.place.specs.Place.{coordinates, place_at}

-- dx × dx, where dx is a number of the point less that of the query
unfoldable pub square : Float → Float → Float
square p q = mul binary64 (sub binary64 p q) (sub binary64 p q)

-- (dx × dx + dy × dy) + dz × dz
unfoldable pub squared_distance : Place → Place → Float
squared_distance p q = add binary64 (add binary64 (square p.x q.x) (square p.y q.y)) (square p.z q.z)

-- of the numbers from 0 to n the lowest whose float is least: in turn from 0 on, each whose float is smaller than that of the one found so far
unfoldable pub least_to : (ℕ → Float) → ℕ → ℕ
least_to d zero = 0
least_to d (suc n) = pick (lt (d (suc n)) (d (least_to d n))) (suc n) (least_to d n)

-- how many points a list of numbers has, three to a point
abbrev pub point_count : List Float → ℕ
point_count points = length points / coordinates

-- the squared distance of point k
unfoldable pub distance_of : (points : List Float) (query : Place) → ℕ → Float
distance_of points query k = squared_distance (place_at points k) query
