-- The answer of the booking in numbers. The reading is one to one.
use Rattle.std.specs.Prelude.{ℕ, Option, Some, None, List, [], ◌∷◌}
use Rattle.counting.specs.Pick.{pick}
use Rattle.answer.specs.Answer.{result_of}
use Rattle.cell.specs.Level.{is_level_cell}
use Rattle.booking.specs.declared.Booking.{Booking}
use Rattle.booking.specs.Booking.{corner_triangles, larger, smaller, booked_split}

-- the corner triangles, d1, d2 and the triangles, with the split result (02, W12); or nothing, for "walk it"
abbrev pub booking_numbers : Option Booking → List ℕ
booking_numbers (Some b) = result_of (b.corners ∷ b.d1 ∷ b.d2 ∷ b.triangles ∷ [])
booking_numbers None = result_of []

-- what is answered for the counts w k of a cell's edges k
unfoldable pub booking_answer : (ℕ → ℕ) → List ℕ
booking_answer w = pick (is_level_cell w) (result_of (corner_triangles w ∷ larger w ∷ smaller w ∷ booked_split w ∷ [])) (result_of [])
