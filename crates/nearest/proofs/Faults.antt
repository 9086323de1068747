-- The faults of row 23, by the row's test; and the answer by them.
use Prim.Native.Nat.{ℕ, ◌+◌, ◌-◌, ◌%◌, ◌<◌}
use mathlib.Core.Path.{◌≡◌, refl, sym, ap, ◌∙◌}
use mathlib.Core.Logic.{◌⊎◌, inl, inr, ⊎_elim}
use mathlib.Core.Bool.{Bool, true, false, not, ◌&&◌}
use mathlib.Core.List.{List, []}
use native.Mathlib.Decide.{dec_lt}
use native.Mathlib.Omega.{arith}
use lib.Dec.{eqb}
use lib.ListN.{length, get_or, length-append, get_or-append}
use lib.Seq.{get_or-append-add}
use lib.Ieee.{Float, nan}
use borrow.Author.Tests.{eqb-true, eqb-false, eq-eqb, ne_eqb, not-true}
use Rattle.answer.specs.Answer.{result_of, refusal}
use Rattle.answer.specs.Rows.{each}
use Rattle.answer.proofs.Rows.{row_refuses, row_passes, rows_end}
use Rattle.counting.specs.Search.{first}
use Rattle.counting.proofs.Bools.{and_left, and_right, and_true, or_left, or_right, or_cases, clash, not_clash}
use Rattle.counting.proofs.Search.{first_at, none_first, least}
use Rattle.place.specs.declared.Place.{Place}
use Rattle.place.specs.Place.{within, coordinates, numbers}
use Rattle.nearest.specs.Answer.{beyond, judged, bad_points, nearest_rows, nearest_values, nearest_answer}
use Rattle.nearest.specs.claims.Fault.{Fault, uneven, listed, asked, Faultless, LowestAt}

module _ (points : List Float) (query : Place) where
  long : length (judged points query) ≡ length points + coordinates
  long = length-append points (numbers query)

  -- the first part of the row's test
  apart : ℕ → Bool
  apart i = eqb i 0 && not (eqb (length points % coordinates) 0)

  at_listed : (i : ℕ) → i < length points → get_or (judged points query) i nan ≡ get_or points i nan
  at_listed i h = get_or-append points (numbers query) nan i h

  at_asked : (t : ℕ) → get_or (judged points query) (length points + t) nan ≡ get_or (numbers query) t nan
  at_asked t = get_or-append-add points (numbers query) t nan

  -- the row's test holds exactly at the faults
  fault_bad : (i : ℕ) → Fault points query i → (i < length (judged points query)) × (bad_points points query i ≡ true)
  unfolding bad_points apart
  fault_bad i (uneven z u) = (
    omega (arith, long),
    or_left (apart i) (beyond (judged points query) i)
        (and_true (eqb i 0) (not (eqb (length points % coordinates) 0)) (eq-eqb i 0 z) (ap not (ne_eqb (length points % coordinates) 0 u))),
  )
  fault_bad i (listed l w) = (
    omega (arith, long),
    or_right (apart i) (beyond (judged points query) i) (ap not (ap within (at_listed i l) ∙ w)),
  )
  fault_bad i (asked t l e w) = (
    omega (arith, long),
    or_right (apart i) (beyond (judged points query) i)
        (ap not (ap (λ k. within (get_or (judged points query) k nan)) e ∙ ap within (at_asked t) ∙ w)),
  )

  beyond_fault : (i : ℕ) → i < length (judged points query) → within (get_or (judged points query) i nan) ≡ false → Fault points query i
  beyond_fault i l w = elim (dec_lt i (length points)) [
    | yes h ↦ listed h (ap within (sym (at_listed i h)) ∙ w)
    | no h ↦
        let e : i ≡ length points + (i - length points) = omega arith in
        asked (i - length points) (omega (arith, long)) e (sym (ap (λ k. within (get_or (judged points query) k nan)) e ∙ ap within (at_asked (i - length points))) ∙ w)
  ]

  bad_fault : (i : ℕ) → i < length (judged points query) → bad_points points query i ≡ true → Fault points query i
  unfolding bad_points apart
  bad_fault i l b =
      ⊎_elim
      (λ p. uneven (eqb-true i 0 (and_left (eqb i 0) (not (eqb (length points % coordinates) 0)) p))
      (eqb-false (length points % coordinates) 0 (not-true (eqb (length points % coordinates) 0) (and_right (eqb i 0) (not (eqb (length points % coordinates) 0)) p))))
      (λ p. beyond_fault i l (not-true (within (get_or (judged points query) i nan)) p))
      (or_cases (apart i) (beyond (judged points query) i) b)

  lowest_place : (p : ℕ) → LowestAt points query p → p ≡ first (bad_points points query) (length (judged points query))
  lowest_place p L =
      let (l, b) = fault_bad p L.fault in
      sym (first_at (bad_points points query) (length (judged points query)) p l b (λ q h. not_clash (bad_points points query q) (λ e. (let x = L.lowest q (bad_fault q (omega arith) e) in omega arith))))

  -- the call refuses at the lowest fault
  pub lowest_refused : (p : ℕ) → LowestAt points query p → refusal 23 p ≡ nearest_answer points query
  unfolding nearest_answer nearest_rows
  lowest_refused p L =
      row_refuses (each 23 (length (judged points query)) (bad_points points query)) [] (result_of (nearest_values points query)) p (lowest_place p L) (fault_bad p L.fault).0

  -- and else answers the nearest point
  pub faultless_answered : Faultless points query → result_of (nearest_values points query) ≡ nearest_answer points query
  unfolding nearest_answer nearest_rows
  faultless_answered F =
      let n = length (judged points query) in
      let e = none_first (bad_points points query) n (λ i l. not_clash (bad_points points query i) (λ b. F i (bad_fault i l b))) in
      rows_end (result_of (nearest_values points query))
      ∙ row_passes (each 23 n (bad_points points query)) [] (result_of (nearest_values points query)) (first (bad_points points query) n) refl (omega (arith, e))

  -- it is one or the other
  pub faults : ((p : ℕ) × LowestAt points query p) ⊎ Faultless points query
  faults =
      ⊎_elim (λ (w : (p : ℕ) × (p < n) × (bad_points points query p ≡ true) × ((i : ℕ) → i < p → bad_points points query i ≡ false)). inl (w.0, lowest w.0 w.1 w.2 w.3))
      (λ (h : (i : ℕ) → i < n → bad_points points query i ≡ false). inr (λ q f. clash (fault_bad q f).1 (h q (fault_bad q f).0)))
      (least (bad_points points query) n)
    where
      n : ℕ
      n = length (judged points query)

      lowest : (p : ℕ) → p < n → bad_points points query p ≡ true → ((i : ℕ) → i < p → bad_points points query i ≡ false) → LowestAt points query p
      lowest p l b h = record {
        fault = bad_fault p l b;
        lowest = λ q f. elim (dec_lt q p) [ yes k ↦ clash (fault_bad q f).1 (h q k) | no k ↦ omega arith ];
      }
