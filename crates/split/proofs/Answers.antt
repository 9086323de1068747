-- What the booking answers is the number of the triangles drawn.
use Prim.Native.Nat.{ℕ}
use mathlib.Core.Path.{◌≡◌, refl, ◌∙◌}
use mathlib.Core.Bool.{Bool, true, false}
use mathlib.Core.List.{[], ◌∷◌}
use Rattle.std.proofs.Common.{Some}
use Rattle.counting.specs.Pick.{pick}
use Rattle.answer.specs.Answer.{result_of}
use Rattle.answer.proofs.Answer.{no_nil}
use Rattle.cell.specs.Of.{count_of}
use Rattle.cell.specs.Level.{is_level_cell}
use Rattle.booking.specs.declared.Booking.{Booking}
use Rattle.booking.specs.Booking.{corner_triangles, larger, smaller, booked_split}
use Rattle.booking.specs.Answer.{booking_numbers, booking_answer}
use Rattle.split.specs.claims.Claims.{AnswerByParts, BookingRight}
use Rattle.split.proofs.Lengths.{drawn_booked}
use Rattle.split.proofs.Counted.{booked_by_parts}

-- an answer with numbers is of a cell that is booked, and its last number is what is booked
answer_is : (w : ℕ → ℕ) (a : Booking) → booking_numbers (Some a) ≡ booking_answer w → (is_level_cell w ≡ true) × (booked_split w ≡ a.triangles)
unfolding booking_answer
answer_is w a e = go (is_level_cell w) refl e
  where
    go : (b : Bool) → is_level_cell w ≡ b → booking_numbers (Some a) ≡ pick b (result_of (corner_triangles w ∷ larger w ∷ smaller w ∷ booked_split w ∷ [])) (result_of [])
        → (is_level_cell w ≡ true) × (booked_split w ≡ a.triangles)
    go true k f = (k, cc)
    go false k f = absurd (no_nil {a = a.corners} {l = a.d1 ∷ a.d2 ∷ a.triangles ∷ []} (cc))

pub answer_by_parts : AnswerByParts
answer_by_parts w b e = let (k, q) = answer_is w b e in booked_by_parts w k ∙ q

pub booking_right : BookingRight
booking_right c b e = let (k, q) = answer_is (count_of c) b e in drawn_booked c k ∙ q
