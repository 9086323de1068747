-- Corners and sides of triangles, identified as document 01 says.
use Rattle.std.specs.Prelude.{ℕ, ◌+◌, ◌%◌, Bool, false, ◌&&◌, eqb}

-- a crossing, by its number; the middle of a loop, by its cell and its p0
pub data Corner : Type 0 where
  cross : ℕ → Corner
  middle : ℕ → ℕ → Corner

-- a segment, by the name of its face and its lower crossing; an inner side, by its loop's cell and p0 and its number
pub data Side : Type 0 where
  seg : ℕ → ℕ → Side
  inner : ℕ → ℕ → ℕ → Side

abbrev pub prev : ℕ → ℕ
prev j = (j + 2) % 3

abbrev pub same : Side → Side → Bool
same (seg f a) (seg g b) = eqb f g && eqb a b
same (seg f a) (inner c p k) = false
same (inner c p k) (seg g b) = false
same (inner c p k) (inner d q l) = eqb c d && eqb p q && eqb k l
