-- Laws of what a call answers.
use Rattle.std.specs.Prelude.{Option, Some, None, Result, Ok, Err}
use Prim.Native.Nat.{ℕ}
use mathlib.Core.Path.{◌≡◌, refl, subst}
use mathlib.Core.List.{List, []}
use Rattle.answer.specs.Answer.{result_of}
use Rattle.answer.specs.Refusal.{answer_numbers}
use Rattle.answer.specs.declared.Refusal.{Refusal}
use Rattle.grid.specs.Grid.{Grid}
use Rattle.grid.specs.Opening.{opened, open_answer}
use Rattle.grid.proofs.Claims.{never_empty}
use Rattle.booking.specs.declared.Booking.{Booking}
use Rattle.booking.specs.Answer.{booking_numbers}
use Rattle.cases.specs.declared.Case.{Case}
use Rattle.cases.specs.Answer.{case_numbers}
use Rattle.cell.specs.declared.Loop.{Loop}
use Rattle.mesh.specs.Numbers.{loops_numbers}
use Rattle.capi.specs.work.Values.{option_values, case_values, booking_values, loop_values}
use Rattle.capi.specs.Written.{Answers}

-- a call that puts the numbers of its answer answers them
pub answers_are : {put numbers was is : List ℕ} {returned : ℕ} → put ≡ numbers → Answers put was is returned → Answers numbers was is returned
answers_are {was = w} {is = i} {returned = r} e = subst (λ l. Answers l w i r) e

-- what the calls answer that may find nothing
pub case_read : (o : Option Case) → result_of (option_values case_values o) ≡ case_numbers o
case_read (Some c) = refl
case_read None = refl

pub booking_read : (o : Option Booking) → result_of (option_values booking_values o) ≡ booking_numbers o
booking_read (Some b) = refl
booking_read None = refl

pub loops_read : (r : Result (Option Loop) Refusal) → answer_numbers (option_values loop_values) r ≡ loops_numbers r
loops_read (Ok (Some l)) = refl
loops_read (Ok None) = refl
loops_read (Err r) = refl

-- the opening call always answers
pub open_some : (G : Grid) → [] ≡ open_answer G → ⊥
unfolding open_answer
open_some G = never_empty (opened G)
