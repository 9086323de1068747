-- Where a crossing stands on its edge, by where the corners at the edge's two ends stop: what the face call and the
-- walks of a cell decide by.
use Rattle.std.specs.Prelude.{ℕ, ◌+◌, ◌-◌, ◌%◌, eqb, ltb, leb}
use Rattle.counting.specs.Pick.{pick}
use Rattle.face.specs.declared.Stand.{Stand}
use Rattle.face.specs.declared.Stand.TheVariants.{Low, High, Up, Down, Alone}
use Rattle.face.specs.Face.{left, skipped}

abbrev pub stand_number : Stand → ℕ
stand_number Low = 0
stand_number High = 1
stand_number Up = 2
stand_number Down = 3
stand_number Alone = 4

-- crossing t of an edge of which those below p are at the lower corner and those from `end` on at the upper: at one of them; or between them, up where an
-- even number is left from t to the upper corner, else down, but alone at the first
unfoldable pub stand_on : (p end t : ℕ) → ℕ
stand_on p end t =
    pick (ltb t p) (stand_number Low)
    (pick (leb end t) (stand_number High)
    (pick (eqb ((end - t) % 2) 0) (stand_number Up)
    (pick (eqb t p) (stand_number Alone) (stand_number Down))))

-- why a crossing is unjoined on an edge of x crossings
unfoldable pub why_on : ℕ → ℕ → ℕ → ℕ → ℕ
why_on ab ac bc x = pick (ltb (ab + ac + bc - x) x) skipped left
