-- The count of fans by its answer in numbers: there is one where the cell is level, with the cell's numbers.
use Prim.Native.Nat.{ℕ}
use mathlib.Core.Path.{◌≡◌, refl}
use mathlib.Core.Bool.{Bool, true, false}
use mathlib.Core.List.{List, [], ◌∷◌}
use Rattle.std.specs.Prelude.{Some, None}
use Rattle.counting.specs.Pick.{pick}
use Rattle.answer.specs.Answer.{result_of}
use Rattle.answer.proofs.Answer.{no_nil}
use Rattle.cell.specs.Level.{is_level_cell}
use Rattle.booking.specs.declared.Fans.{Fans}
use Rattle.booking.specs.Booking.{corner_triangles, larger, smaller}
use Rattle.booking.specs.claims.Booking.{booked}
use Rattle.booking.specs.work.Fans.{fans_numbers, fans_answer}

module _ (w : ℕ → ℕ) where
  pub record Counted (f : Fans) : Type 0 where
    pub level : is_level_cell w ≡ true
    pub corners : f.corners ≡ corner_triangles w
    pub d1 : f.d1 ≡ larger w
    pub d2 : f.d2 ≡ smaller w
    pub triangles : f.triangles ≡ booked w

  abbrev answer : Bool → List ℕ
  answer b = pick b (result_of (corner_triangles w ∷ larger w ∷ smaller w ∷ booked w ∷ [])) (result_of [])

  pub counted : {f : Fans} → fans_numbers (Some f) ≡ fans_answer w → Counted f
  unfolding fans_answer
  counted {f} told = go (is_level_cell w) refl told
    where
      go : (b : Bool) → is_level_cell w ≡ b → fans_numbers (Some f) ≡ answer b → Counted f
      go true K e = record { level = K; corners = cc; d1 = cc; d2 = cc; triangles = cc }
      go false K e = absurd (no_nil {a = f.corners} {l = f.d1 ∷ f.d2 ∷ f.triangles ∷ []} (cc))

  pub uncounted : fans_numbers None ≡ fans_answer w → is_level_cell w ≡ false
  unfolding fans_answer
  uncounted told = go (is_level_cell w) refl told
    where
      go : (b : Bool) → is_level_cell w ≡ b → fans_numbers None ≡ answer b → is_level_cell w ≡ false
      go true K e = absurd (no_nil {a = corner_triangles w} {l = larger w ∷ smaller w ∷ booked w ∷ []} (cc))
      go false K e = K
