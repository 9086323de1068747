-- Laws of the tables of an accepted grid.
use Rattle.std.specs.Prelude.{Result, Ok, Err}
use Prim.Native.Nat.{ℕ, suc, ◌%◌, ◌*◌, ◌+◌, ◌-◌, ◌/◌, ◌<◌, ◌≤◌}
use mathlib.Core.Path.{◌∙◌, ◌≡◌, ap, refl, subst, sym}
use mathlib.Core.Logic.{◌≢◌, ◌⊎◌, inl, inr, ⊎_elim}
use mathlib.Core.Bool.{Bool, false, true}
use mathlib.Core.List.{List, [], ◌∷◌}
use native.Mathlib.Nat.{eq-zero-or-pos}
use native.Mathlib.Decide.{dec_lt, ℕ_discrete}
use native.Mathlib.Omega.{arith}
use lib.ListN.{get_or, length}
use borrow.Author.Tests.{eq-eqb, le-ltb, lt-ltb, ne_eqb}
use Rattle.counting.specs.Search.{first}
use Rattle.counting.specs.Stored.{filled}
use Rattle.counting.proofs.Bools.{not_clash}
use Rattle.counting.proofs.Search.{first_at}
use Rattle.counting.proofs.Stored.{filled_ext}
use Rattle.answer.specs.Answer.{result_of}
use Rattle.answer.proofs.Numbers.{refusal_not}
use Rattle.grid.specs.claims.Accepted.{EdgeNumbers, Sound}
use Rattle.grid.specs.Check.{check_numbers}
use Rattle.grid.specs.Grid.{Grid, built, cell_count, edge_number, face_name, is_edge, same_face}
use Rattle.slots.specs.work.Limits.{most_edges}
use Rattle.slots.specs.Limits.{most_slots}
use Rattle.grid.specs.Rows.{grid_answer, accepts}
use Rattle.grid.specs.work.Tables.{Laid, name_at, side_at}
use Rattle.grid.specs.work.Work.{Copying, Lowering, Neighbours, RisingCells, WhereAccepted, Worked, listed_at, lower_place}
use Rattle.answer.specs.declared.Refusal.{Refusal}
use Rattle.grid.proofs.Accepts.{acceptance_yields, ordered}
use Rattle.grid.proofs.Sound.{edge_numbers}
use Rattle.grid.proofs.Packed.{one_slot, true_same}
use Rattle.grid.proofs.Starts.{built_is}

-- the lower of two places
pub lower_none : (j x : ℕ) → x ≡ 0 → j ≡ lower_place j x
lower_none j x e = rw (eq-eqb x 0 e)

pub lower_other : (j x : ℕ) → (x ≡ 0 → ⊥) → x - 1 < j → x - 1 ≡ lower_place j x
lower_other j x n l = rw (ne_eqb x 0 n, lt-ltb (x - 1) j l)

pub lower_own : (j x : ℕ) → (x ≡ 0 → ⊥) → j ≤ x - 1 → j ≡ lower_place j x
lower_own j x n l = rw (ne_eqb x 0 n, le-ltb (x - 1) j l)

module _ (cells near : List ℕ) (good : RisingCells cells) (N : Neighbours cells near) (j : ℕ) (h : j < 4 * cell_count cells) where
  whole : 4 * (j / 4) + j % 4 ≡ j
  whole = omega arith

  -- whatever is the same face is the slot itself or the one across
  only : (m : ℕ) → m < 4 * cell_count cells → same_face cells (m / 4) (m % 4) (j / 4) (j % 4) ≡ true → (m ≡ j) ⊎ ((m / 4 ≢ j / 4) × (get_or near j 0 ≡ m + 1))
  only m l e = elim (ℕ_discrete (m / 4) (j / 4)) [
    | yes f ↦ let g = one_slot cells good (j / 4) (m % 4) (j % 4) (omega arith) (omega arith) (omega arith) (rw f at e) in inl (omega arith)
    | no f ↦
        let k : 4 * (m / 4) + m % 4 ≡ m = omega arith in
        inr (f, rw (whole, k) at (N.all (m / 4) (m % 4) (j / 4) (j % 4) (omega arith) (omega arith) (omega arith) (omega arith) f e))
  ]

  passes : ℕ → Bool
  passes m = same_face cells (m / 4) (m % 4) (j / 4) (j % 4)

  itself : passes j ≡ true
  unfolding passes
  itself = true_same cells (j / 4) (j % 4) (j / 4) (j % 4) (λ i l. refl)

  pub name_is_lower : lower_place j (get_or near j 0) ≡ face_name cells (j / 4) (j % 4)
  unfolding face_name passes
  name_is_lower =
      ⊎_elim
      (λ (z : get_or near j 0 ≡ 0). sym (lower_none j (get_or near j 0) z) ∙ sym (first_at passes (4 * cell_count cells) j h itself
      (λ m l. not_clash (passes m) (λ e. below m l (inl z) e))))
      (λ (p : 0 < get_or near j 0).
      let g = N.pair j h p in
      let x = get_or near j 0 - 1 in
      elim (dec_lt x j) [
        | yes l ↦ sym (lower_other j (get_or near j 0) (λ q. omega arith) l) ∙ sym (first_at passes (4 * cell_count cells) x (omega (arith, g.lt)) g.same
            (λ m k. not_clash (passes m) (λ e. below m (omega arith) (inr (omega arith)) e)))
        | no l ↦ sym (lower_own j (get_or near j 0) (λ q. omega arith) (omega arith)) ∙ sym (first_at passes (4 * cell_count cells) j h itself
            (λ m k. not_clash (passes m) (λ e. below m k (inr (omega arith)) e)))
      ])
      (eq-zero-or-pos (get_or near j 0))
    where
      -- no lower place has the face
      below : (m : ℕ) → m < j → (get_or near j 0 ≡ 0) ⊎ (m + 1 < get_or near j 0) → passes m ≡ true → ⊥
      below m l k e =
          ⊎_elim (λ (q : m ≡ j). omega arith)
          (λ (q : (m / 4 ≢ j / 4) × (get_or near j 0 ≡ m + 1)). ⊎_elim (λ (z : get_or near j 0 ≡ 0). omega (arith, q.1)) (λ (z : m + 1 < get_or near j 0). omega (arith, q.1)) k)
          (only m (omega arith) e)

-- the place of a listed edge
pub listed_side : (G : Grid) → EdgeNumbers G → (j : ℕ) → j < 6 * cell_count G.cells
    → listed_at G j ≡ suc (side_at G j)
unfolding listed_at edge_number
listed_side G E j h =
    rw (lt-ltb (first (is_edge G (j / 6) (j % 6)) (length G.counts)) (length G.counts) (E.listed (j / 6) (j % 6) (omega arith) (omega arith)))

module _ (G : Grid) where
  -- a refusal's number is not 0
  pub refused_keeps : (refusal : Refusal) → check_numbers (Err refusal) ≡ grid_answer G → accepts G ≡ false
  refused_keeps refusal e = rw (← e) (refusal_not refusal)

  pub crossings_accept : (n : ℕ) → check_numbers (Ok n) ≡ grid_answer G → accepts G ≡ true
  crossings_accept n e = rw (← e)

  pub laid_kept : accepts G ≡ false → (names sides : List ℕ) → Laid G names sides names sides
  laid_kept e names sides = record { names_are = rw e; sides_are = rw e }

  -- an answer that is known to be a result
  module _ (r : Result ℕ Refusal) (n : ℕ) (e : r ≡ Ok n) (h : check_numbers r ≡ grid_answer G) where
    is-result : grid_answer G ≡ result_of (n ∷ [])
    is-result = sym h ∙ ap check_numbers e

    pub told_sound : Sound G
    told_sound = (acceptance_yields G (n ∷ []) is-result).sound

    pub told_accepts : accepts G ≡ true
    told_accepts = crossings_accept n (sym is-result)

    -- its starts are those of its counts
    pub told_built : G ≡ built G.cells G.edges G.counts
    told_built = built_is G told_sound.starts_long told_sound.starts_are

    pub sound_built : Sound (built G.cells G.edges G.counts)
    sound_built = subst Sound told_built told_sound

    -- what the check then leaves is what the writers take
    module _ (across listed : List ℕ) (w : WhereAccepted r (Worked (built G.cells G.edges G.counts) across listed)) where
      E : EdgeNumbers G
      E = edge_numbers G told_sound

      W : Worked G across listed
      W = subst (λ H. Worked H across listed) (sym told_built) (subst (λ r. WhereAccepted r (Worked (built G.cells G.edges G.counts) across listed)) e w)

      pub copying : (table : List ℕ) → most_slots ≤ length table → Copying (4 * cell_count G.cells) across table
      copying table room = record { few = omega (arith, told_sound.few_cells); across_room = W.near_is.room; room = omega (arith, told_sound.few_cells) }

      pub lowering : (table : List ℕ) → most_edges ≤ length table → Lowering (6 * cell_count G.cells) listed table
      lowering table room =
          record {
            few = omega (arith, told_sound.few_cells);
            listed_room = W.sided.room;
            room = omega (arith, told_sound.few_cells);
            entries = λ j h. (
                let e = W.sided.at j h ∙ listed_side G E j h in
                omega (arith, e));
          }

      pub laid_filled : (names₀ sides₀ names sides : List ℕ)
          → names ≡ filled (λ j. lower_place j (get_or across j 0)) (4 * cell_count G.cells) names₀
          → sides ≡ filled (λ j. get_or listed j 0 - 1) (6 * cell_count G.cells) sides₀
          → Laid G names₀ sides₀ names sides
      laid_filled names₀ sides₀ names sides p r =
          record {
            names_are = rw told_accepts (p ∙ filled_ext (λ j. lower_place j (get_or across j 0)) (name_at G.cells) (4 * cell_count G.cells) names₀
                (λ j h. name_is_lower G.cells across (ordered G told_sound) W.near_is j h));
            sides_are = rw told_accepts (r ∙ filled_ext (λ j. get_or listed j 0 - 1) (side_at G) (6 * cell_count G.cells) sides₀
                (λ j h. omega (arith, W.sided.at j h ∙ listed_side G E j h)));
          }
