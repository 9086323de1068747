-- What is claimed of the shading call.
use Rattle.std.specs.Prelude.{Ok, Err}
use Prim.Native.Nat.{ℕ}
use mathlib.Core.Path.{◌≡◌, refl, sym, ap, ◌∙◌, subst}
use mathlib.Core.Logic.{⊎_elim, ◌≢◌}
use mathlib.Core.Bool.{true, false}
use mathlib.Core.List.{List, [], ◌∷◌}
use native.Mathlib.Decide.{ℕ_discrete}
use native.Mathlib.Omega.{arith}
use lib.Dec.{ltb}
use lib.ListN.{length, get_or}
use borrow.Author.Tests.{ltb-true}
use Rattle.answer.specs.Answer.{result_of, refusal, is_result}
use Rattle.answer.specs.Rows.{answer_of}
use Rattle.answer.specs.claims.Faults.{row_at}
use Rattle.answer.specs.Refusal.{refusal_numbers}
use Rattle.answer.specs.declared.Refusal.{Refusal}
use Rattle.answer.specs.declared.Row.{Row}
use Rattle.answer.specs.declared.Row.TheVariants.{ShadingArea, NoShading as Lacking}
use Rattle.answer.proofs.Answer.{pick_some}
use Rattle.answer.proofs.Numbers.{refusal_not, answer_tells}
use Rattle.answer.proofs.Rows.{answer_some}
use Rattle.counting.specs.Pick.{pick}
use Rattle.counting.specs.Search.{every}
use Rattle.counting.proofs.Bools.{holds_or, clash}
use Rattle.counting.proofs.Search.{every_is}
use Rattle.grid.specs.Grid.{Grid, crossings}
use Rattle.grid.specs.Rows.{rows, grid_answer, accepts}
use Rattle.grid.specs.claims.Accepted.{Accepted, Sound}
use Rattle.grid.proofs.Claims.{never_empty, accepted_is, fault_refused}
use Rattle.grid.proofs.Accepts.{acceptance_yields, accepted_answer}
use Rattle.grid.proofs.Filled.{refused_keeps}
use Rattle.shading.specs.Marks.{most_nodes, unshaded, side_bytes}
use Rattle.shading.specs.claims.Shading.{IsShading, NoShading, IsShadingArea}
use Rattle.shading.specs.Answer.{Shaded, shading_numbers, shading_rows, shading_answer}
use Rattle.shading.specs.Done.{Done}
use Rattle.shading.specs.claims.Claims.{Says, CallSays, ShadingTold}
use Rattle.shading.proofs.Shadings.{shading_agrees, labels_shade, lacking, sides_shade, sides_are, only_sides}
use Rattle.shading.proofs.Calls.{answers_19, answers_20, answers_result, kept_answer, rows-answer, area_by}

-- there is always an answer
module _ (G : Grid) (room : ℕ) where
  pub shading_some : [] ≡ shading_answer G room → ⊥
  unfolding shading_answer
  shading_some = pick_some (accepts G) (answer_of (shading_rows G room) (result_of [])) (grid_answer G) (answer_some (shading_rows G room) []) (never_empty G)

pub shading_told : ShadingTold
shading_told G room r s a b = answer_tells (λ _. []) (λ x y _. refl) r s (a ∙ sym b)

-- the values of the answer
abbrev written : Shaded
written = Ok tt

abbrev fault : Row → Shaded
fault row = Err (record { row = row; place = 0 })

written_or_refused : (f : Refusal) → written ≡ Err f → ⊥
written_or_refused f e = cc

other_row : (p : ℕ) → ◌≡◌ {A = Shaded} (Err (record { row = Lacking; place = p })) (fault ShadingArea) → ⊥
other_row p e = let n : ◌≡◌ {A = ℕ} 20 19 = ap (λ a. get_or (shading_numbers a) 0 0) e in omega arith

-- no row of the grid has the number 20
low_numbers : (G : Grid) → every (λ i. ltb (row_at (rows G) i).number 20) (length (rows G)) ≡ true
unfolding rows every
low_numbers G = refl

never_20 : (G : Grid) (p : ℕ) → grid_answer G ≡ refusal 20 p → ⊥
never_20 G p e =
    let R = fault_refused G 20 p (λ z. omega arith) e in
    omega (arith, R.number_is, ltb-true (row_at (rows G) R.at).number 20 (every_is (λ i. ltb (row_at (rows G) i).number 20) (length (rows G)) (low_numbers G) R.at R.row_lt))

-- what decides the answer
data Outcome (G : Grid) (before : List ℕ) : Type 0 where
  by_grid : accepts G ≡ false → Outcome G before
  by_length : length before ≢ most_nodes → shading_numbers (fault ShadingArea) ≡ shading_answer G (length before) → Outcome G before
  by_none : length before ≡ most_nodes → NoShading G → shading_numbers (fault Lacking) ≡ shading_answer G (length before) → Outcome G before
  by_shading : Sound G → length before ≡ most_nodes → unshaded G ≡ false → shading_numbers written ≡ shading_answer G (length before) → Outcome G before

outcome : (G : Grid) (before : List ℕ) → Outcome G before
outcome G before = ⊎_elim accepted by_grid (holds_or (accepts G))
  where
    by_rows : Sound G → accepts G ≡ true → Outcome G before
    by_rows S k = elim (ℕ_discrete (length before) most_nodes) [
      | yes e ↦ ⊎_elim (λ u. by_none e (lacking G S u) (answers_20 G (length before) e u ∙ rows-answer G before k))
          (λ u. by_shading S e u (answers_result G (length before) e u ∙ rows-answer G before k)) (holds_or (unshaded G))
      | no n ↦ by_length n (answers_19 G (length before) n ∙ rows-answer G before k)
    ]

    accepted : accepts G ≡ true → Outcome G before
    accepted k = by_rows (acceptance_yields G (crossings G.counts ∷ []) (accepted_is G k)).sound k

module _ (G : Grid) (before after : List ℕ) (r : Shaded) (D : Done G before after (shading_numbers r)) where
  is : (s : Shaded) → shading_numbers s ≡ shading_answer G (length before) → r ≡ s
  is s e = shading_told G (length before) r s D.answered e

  unsound : (f : Refusal) → refusal_numbers f ≡ grid_answer G → r ≡ Err f
  unsound f e = is (Err f) (e ∙ kept_answer G before (refused_keeps G f e))

  accepting : Accepted G → accepts G ≡ true
  accepting A = rw (accepted_answer G A)

  other-length : Accepted G → length before ≢ most_nodes → r ≡ fault ShadingArea
  other-length A n = is (fault ShadingArea) (answers_19 G (length before) n ∙ rows-answer G before (accepting A))

  lacks : Accepted G → length before ≡ most_nodes → NoShading G → r ≡ fault Lacking
  lacks A h N =
      ⊎_elim (λ u. is (fault Lacking) (answers_20 G (length before) h u ∙ rows-answer G before (accepting A)))
      (λ u. absurd (N (λ x. get_or (side_bytes G) x 0) (sides_shade G A.sound u))) (holds_or (unshaded G))

  has : Accepted G → length before ≡ most_nodes → (side : ℕ → ℕ) → IsShading G side → r ≡ written
  has A h side I =
      is written (answers_result G (length before) h (labels_shade G A.sound side (shading_agrees G A.sound side I)) ∙ rows-answer G before (accepting A))

  none : (place : ℕ) → r ≡ Err (record { row = Lacking; place = place }) → NoShading G
  none place e = go (outcome G before)
    where
      told : refusal 20 place ≡ shading_answer G (length before)
      told = ap shading_numbers (sym e) ∙ D.answered

      go : Outcome G before → NoShading G
      go (by_grid k) = absurd (never_20 G place (kept_answer G before k ∙ sym told))
      go (by_length n a) = absurd (other_row place (sym e ∙ is (fault ShadingArea) a))
      go (by_none h N a) = N
      go (by_shading S h u a) = absurd (written_or_refused _ (sym (is written a) ∙ e))

  -- what is known where the area is written
  record Shades : Type 0 where
    sound : Sound G
    shaded : unshaded G ≡ false
    area : after ≡ side_bytes G

  shades : r ≡ written → Shades
  shades e = go (outcome G before)
    where
      told : result_of [] ≡ shading_answer G (length before)
      told = ap shading_numbers (sym e) ∙ D.answered

      go : Outcome G before → Shades
      go (by_grid k) = clash (sym (ap is_result (told ∙ sym (kept_answer G before k)))) k
      go (by_length n a) = absurd (written_or_refused _ (sym e ∙ is (fault ShadingArea) a))
      go (by_none h N a) = absurd (written_or_refused _ (sym e ∙ is (fault Lacking) a))
      go (by_shading S h u a) = record { sound = S; shaded = u; area = D.area ∙ sym (area_by G before (result_of []) told) }

  kept : (f : Refusal) → r ≡ Err f → after ≡ before
  kept f e =
      let told : refusal_numbers f ≡ shading_answer G (length before) = ap shading_numbers (sym e) ∙ D.answered in
      let k : is_result (shading_answer G (length before)) ≡ false = rw (← told) (refusal_not f) in
      D.area ∙ sym (area_by G before (shading_answer G (length before)) refl) ∙ ap (λ b. pick b (side_bytes G) before) k

  pub says : Says G before after r
  says = record {
    unsound = unsound;
    other-length = other-length;
    refused = lacks;
    none = none;
    shaded = has;
    written = λ e. (let s = shades e in subst (IsShadingArea G) (sym s.area) (sides_are G s.sound s.shaded));
    only = λ e area I. (let s = shades e in only_sides G s.sound area I ∙ sym s.area);
    kept = kept;
  }

pub call_says : CallSays
call_says = says
