-- The numbers of a result, after its 0.
use Rattle.std.specs.Prelude.{ℕ, Option, Some, None, List, [], ◌∷◌}
use Rattle.counting.specs.Lists.{one}
use Rattle.cell.specs.declared.Loop.{Loop}
use Rattle.cell.specs.Answer.{type_numbers}
use Rattle.cases.specs.declared.Case.{Case}
use Rattle.booking.specs.declared.Booking.{Booking}

-- nothing has none
abbrev pub option_values : {A : Type 0} → (A → List ℕ) → Option A → List ℕ
option_values values (Some x) = values x
option_values values None = []

abbrev pub case_values : Case → List ℕ
case_values c = c.loops ∷ c.triangles ∷ []

abbrev pub booking_values : Booking → List ℕ
booking_values b = b.corners ∷ b.d1 ∷ b.d2 ∷ b.triangles ∷ []

abbrev pub loop_values : Loop → List ℕ
loop_values l = l.p0 ∷ l.len ∷ one l.normal ∷ type_numbers l.kind
