-- The answer in numbers of the part that counts the triangles of a cell's loops, all as they are.
use Rattle.std.specs.Prelude.{ℕ, Option, Some, None, List, [], ◌∷◌}
use Rattle.counting.specs.Pick.{pick}
use Rattle.answer.specs.Answer.{result_of}
use Rattle.cell.specs.Level.{is_level_cell}
use Rattle.booking.specs.declared.Fans.{Fans}
use Rattle.booking.specs.Booking.{corner_triangles, larger, smaller}
use Rattle.booking.specs.claims.Booking.{booked}

-- the corner triangles, d1, d2 and the triangles; or nothing, for "walk it"
abbrev pub fans_numbers : Option Fans → List ℕ
fans_numbers (Some f) = result_of (f.corners ∷ f.d1 ∷ f.d2 ∷ f.triangles ∷ [])
fans_numbers None = result_of []

-- what is answered for the counts w k of a cell's edges k
unfoldable pub fans_answer : (ℕ → ℕ) → List ℕ
fans_answer w = pick (is_level_cell w) (result_of (corner_triangles w ∷ larger w ∷ smaller w ∷ booked w ∷ [])) (result_of [])
