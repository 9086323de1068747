-- The rows in turn: a row with a fault refuses, and one without passes on.
use Rattle.std.specs.Prelude.{Some, None}
use Prim.Native.Nat.{ℕ, zero, suc, ◌<◌, ◌≤◌}
use mathlib.Core.Path.{◌≡◌, refl, sym, ◌∙◌}
use mathlib.Core.Logic.{◌⊎◌, inl, inr, ⊎_elim}
use mathlib.Core.Bool.{Bool, true, false, not}
use mathlib.Core.List.{List, [], ◌∷◌}
use native.Mathlib.Nat.{not-suc-le-zero}
use native.Mathlib.Omega.{arith}
use lib.Dec.{eqb}
use lib.ListN.{length}
use borrow.Author.Tests.{eqb-true, eqb-false, le-ltb, lt-ltb, not-true}
use Rattle.counting.specs.Pick.{pick}
use Rattle.counting.specs.Search.{first, some}
use Rattle.counting.specs.work.Search.{found}
use Rattle.counting.specs.Lists.{seek}
use Rattle.counting.proofs.Bools.{and_left, and_right}
use Rattle.counting.proofs.Search.{first_at, first_below, first_is, none_first, some_first, some_none, found_first, found_none}
use Rattle.answer.specs.Answer.{refusal, result_of, is_result}
use Rattle.answer.specs.Rows.{Row, or_refuse, answer_of, Clear}
use Rattle.answer.specs.work.Faults.{since, numbered}
use Rattle.answer.specs.claims.Faults.{row_at, AllClear, Refusal}
use Rattle.answer.proofs.Answer.{no_nil}

module _ (row : Row) (more : List Row) (rest : List ℕ) (p : ℕ) (e : p ≡ first row.fault row.places) where
  pub row_passes : row.places ≤ p → answer_of more rest ≡ answer_of (row ∷ more) rest
  unfolding answer_of or_refuse
  row_passes l = sym (rw (← e, le-ltb p row.places l))

  pub row_refuses : p < row.places → refusal row.number p ≡ answer_of (row ∷ more) rest
  unfolding answer_of or_refuse
  row_refuses l = sym (rw (← e, lt-ltb p row.places l))

-- a row whose lowest fault is sought
module _ (row : Row) (more : List Row) (rest : List ℕ) where
  pub row_found : (p : ℕ) → Some p ≡ found row.fault row.places → refusal row.number p ≡ answer_of (row ∷ more) rest
  row_found p e = let w = found_first row.fault row.places p e in row_refuses row more rest p w.0 w.1

  pub row_clear : None ≡ found row.fault row.places → answer_of more rest ≡ answer_of (row ∷ more) rest
  row_clear e = let q = found_none row.fault row.places e in row_passes row more rest (first row.fault row.places) refl (omega arith)

-- after the last row
pub rows_end : (rest : List ℕ) → rest ≡ answer_of [] rest
unfolding answer_of
rows_end rest = refl

-- a fault of the whole
pub whole_fault : (b : Bool) → b ≡ true → 0 ≡ first (λ p. b) 1
unfolding first seek
whole_fault b e = rw e

pub whole_fine : (b : Bool) → b ≡ false → 1 ≡ first (λ p. b) 1
unfolding first seek
whole_fine b e = rw e

-- lists of rows, from the first on
earlier_cons : (row : Row) (more : List Row) (n : ℕ) → Clear row → ((i : ℕ) → i < n → Clear (row_at more i)) → (i : ℕ) → i < suc n → Clear (row_at (row ∷ more) i)
earlier_cons row more n h k zero l = h
earlier_cons row more n h k (suc i) l = k i (omega arith)

pub clear_or_refusal : (rows : List Row) → AllClear rows ⊎ ((n : ℕ) × (p : ℕ) × Refusal rows n p)
clear_or_refusal [] = inl (λ i l. absurd (not-suc-le-zero l))
clear_or_refusal (row ∷ more) = go (some row.fault row.places) refl (clear_or_refusal more)
  where
    go : (b : Bool) → some row.fault row.places ≡ b → AllClear more ⊎ ((n : ℕ) × (p : ℕ) × Refusal more n p)
        → AllClear (row ∷ more) ⊎ ((n : ℕ) × (p : ℕ) × Refusal (row ∷ more) n p)
    go true e d =
        let l = some_first row.fault row.places e in
        inr (
          row.number,
          first row.fault row.places,
          record {
            at = 0;
            row_lt = omega arith;
            number_is = refl;
            place_lt = l;
            fault = first_is row.fault row.places l;
            lowest = first_below row.fault row.places;
            earlier = λ i h. absurd (not-suc-le-zero h);
          },
        )
    go false e (inl h) = inl (earlier_cons row more (length more) (some_none row.fault row.places e) h)
    go false e (inr (n, p, r)) =
        inr (
          n,
          p,
          record {
            at = suc r.at;
            row_lt = omega (arith, r.row_lt);
            number_is = r.number_is;
            place_lt = r.place_lt;
            fault = r.fault;
            lowest = r.lowest;
            earlier = earlier_cons row more r.at (some_none row.fault row.places e) r.earlier;
          },
        )

-- what is refused
pub refusal_answer : (rows : List Row) (rest : List ℕ) (n p : ℕ) → Refusal rows n p → answer_of rows rest ≡ refusal n p
refusal_answer rows rest n p r = go rows r.at r.row_lt r.number_is r.place_lt r.fault r.lowest r.earlier
  where
    go : (rows : List Row) (at : ℕ) → at < length rows → (row_at rows at).number ≡ n → p < (row_at rows at).places → (row_at rows at).fault p ≡ true
        → ((q : ℕ) → q < p → (row_at rows at).fault q ≡ false) → ((i : ℕ) → i < at → Clear (row_at rows i)) → answer_of rows rest ≡ refusal n p
    go [] at l e h f low k = absurd (not-suc-le-zero l)
    go (row ∷ more) zero l e h f low k =
        sym (row_refuses row more rest p (sym (first_at row.fault row.places p h f low)) h) ∙ rw e
    go (row ∷ more) (suc at) l e h f low k =
        sym (row_passes row more rest (first row.fault row.places) refl (omega (arith, none_first row.fault row.places (k 0 (omega arith)))))
        ∙ go more at (omega arith) e h f low (λ i j. k (suc i) (omega arith))

-- what is not
pub clear_answer : (rows : List Row) (rest : List ℕ) → AllClear rows → answer_of rows rest ≡ rest
unfolding answer_of
clear_answer [] rest h = refl
clear_answer (row ∷ more) rest h =
    sym (row_passes row more rest (first row.fault row.places) refl (omega (arith, none_first row.fault row.places (h 0 (omega arith)))))
    ∙ clear_answer more rest (λ i l. h (suc i) (omega arith))

-- a row found by its number has no fault where no row has one
pub clear_since : (rows : List Row) (n : ℕ) → AllClear rows → Clear (row_at (since n rows) 0)
unfolding since
clear_since [] n h = λ p l. refl
clear_since (row ∷ more) n h = go (eqb row.number n) (clear_since more n (λ i l. h (suc i) (omega arith)))
  where
    go : (b : Bool) → Clear (row_at (since n more) 0) → Clear (row_at (pick b (row ∷ more) (since n more)) 0)
    go true k = h 0 (omega arith)
    go false k = k

number_not : (rows : List Row) → numbered rows ≡ true → (i : ℕ) → i < length rows → (row_at rows i).number ≡ 0 → ⊥
unfolding numbered
number_not [] e i l = absurd (not-suc-le-zero l)
number_not (row ∷ more) e zero l = eqb-false row.number 0 (not-true (eqb row.number 0) (and_left (not (eqb row.number 0)) (numbered more) e))
number_not (row ∷ more) e (suc i) l = number_not more (and_right (not (eqb row.number 0)) (numbered more) e) i (omega arith)

-- the rows before a result
module _ (rows : List Row) (values : List ℕ) where
  -- there is always an answer
  pub answer_some : [] ≡ answer_of rows (result_of values) → ⊥
  answer_some q =
      ⊎_elim (λ (h : AllClear rows). no_nil (q ∙ clear_answer rows (result_of values) h))
      (λ (w : (n : ℕ) × (p : ℕ) × Refusal rows n p). no_nil (q ∙ refusal_answer rows (result_of values) w.0 w.1 w.2)) (clear_or_refusal rows)

  -- a refusal of a number that is not 0 is of a row
  pub refused_by : (n p : ℕ) → (n ≡ 0 → ⊥) → answer_of rows (result_of values) ≡ refusal n p → Refusal rows n p
  refused_by n p z e =
      ⊎_elim (λ (h : AllClear rows). (let f = clear_answer rows (result_of values) h in let x : n ≡ 0 = cc in absurd (z x)))
      (λ (w : (m : ℕ) × (q : ℕ) × Refusal rows m q).
      let f = refusal_answer rows (result_of values) w.0 w.1 w.2 in
      let x : w.0 ≡ n = cc in
      let y : w.1 ≡ p = cc in rw (← x, ← y) w.2) (clear_or_refusal rows)

  module _ (e : numbered rows ≡ true) where
    -- an answer that starts with 0 has come through all rows
    pub result_clear : is_result (answer_of rows (result_of values)) ≡ true → AllClear rows
    result_clear h =
        ⊎_elim (λ k. k)
        (λ (w : (n : ℕ) × (p : ℕ) × Refusal rows n p).
        absurd (number_not rows e w.2.at w.2.row_lt
        (w.2.number_is ∙ eqb-true w.0 0 (rw (refusal_answer rows (result_of values) w.0 w.1 w.2) at h)))) (clear_or_refusal rows)

    pub result_is : is_result (answer_of rows (result_of values)) ≡ true → answer_of rows (result_of values) ≡ result_of values
    result_is h = clear_answer rows (result_of values) (result_clear h)
