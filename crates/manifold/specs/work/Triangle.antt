-- The next corner of a triangle, and a test for equal corners.
use Rattle.std.specs.Prelude.{ℕ, ◌+◌, ◌%◌, Bool, false, ◌&&◌, eqb}
use Rattle.manifold.specs.Triangle.{Corner, cross, middle}

-- the next of three positions, and the one before: corner j is an end of side j and of side prev j
abbrev pub next : ℕ → ℕ
next j = (j + 1) % 3

-- two corners, or two sides, are one
abbrev pub alike : Corner → Corner → Bool
alike (cross g) (cross h) = eqb g h
alike (cross g) (middle c p) = false
alike (middle c p) (cross h) = false
alike (middle c p) (middle d q) = eqb c d && eqb p q
