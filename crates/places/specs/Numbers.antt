-- The fractions that the places call takes (01).
use Rattle.std.specs.Prelude.{Bool, ◌&&◌, Float}
use Rattle.std.specs.Float.Ieee.{lt}
use Rattle.place.specs.Place.{float_of}

-- above 0 and below 1: false of a NaN
unfoldable pub proper_fraction : Float → Bool
proper_fraction s = lt (float_of 0) s && lt s (float_of 1)
