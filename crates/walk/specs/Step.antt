-- The step of a cell of N crossings. Each crossing lies on two faces, its first and its second, and on each it has at most one mate.
use Rattle.std.specs.Prelude.{ℕ, ◌+◌, ◌*◌, ◌/◌, ◌%◌, eqb, ltb}
use Rattle.counting.specs.Pick.{pick}

-- `fa` and `fb` are a crossing's faces; `mate f x` is what x is joined to on face f, N or more for nothing
module _ (N : ℕ) (fa fb : ℕ → ℕ) (mate : ℕ → ℕ → ℕ) where
  -- the face by which a dart leaves: the first by the dart 2 * x, the second by 2 * x + 1
  unfoldable pub face : ℕ → ℕ
  face d = pick (eqb (d % 2) 0) (fa (d / 2)) (fb (d / 2))

  -- the dart that goes on from the crossing x, come to by the face f: by its other face
  unfoldable pub land : ℕ → ℕ → ℕ
  land f x = pick (ltb x N) (pick (eqb (fa x) f) (2 * x + 1) (2 * x)) (2 * N)

  -- the dart after d: over the segment to the mate, and on by its other face; 2 * N where the curve ends
  unfoldable pub step : ℕ → ℕ
  unfolding face land
  step d = land (face d) (mate (face d) (d / 2))
