-- What each way through the call answers.
use Rattle.std.specs.Prelude.{Option, Some, None, position, not}
use Prim.Native.Nat.{ℕ, ◌+◌, ◌-◌, ◌%◌, ◌≤◌, ◌<◌}
use mathlib.Core.Path.{◌≡◌, refl, sym, ap, ◌∙◌, subst}
use mathlib.Core.Logic.{⊎_elim}
use mathlib.Core.Bool.{false}
use mathlib.Core.List.{List}
use native.Mathlib.Decide.{dec_lt}
use native.Mathlib.Omega.{arith}
use lib.Dec.{eqb}
use lib.ListN.{length, get_or}
use lib.Ieee.{Float, nan}
use borrow.Author.Tests.{eqb-true, eqb-false, eq-eqb, ne_eqb, not-true, not-false}
use Rattle.answer.specs.Answer.{result_of, refusal}
use Rattle.counting.specs.Search.{first}
use Rattle.counting.specs.work.Search.{found}
use Rattle.counting.proofs.Positions.{position_found}
use Rattle.counting.proofs.Bools.{clash, holds_or}
use Rattle.counting.proofs.Search.{first_is, first_below, found_first, found_none}
use Rattle.place.specs.declared.Place.{Place}
use Rattle.place.specs.Place.{within, coordinates, numbers}
use Rattle.nearest.specs.declared.Nearest.TheVariants.{NoPoint, At}
use Rattle.nearest.specs.Distance.{point_count, distance_of}
use Rattle.nearest.specs.Answer.{nearest_numbers, beyond, nearest_number, nearest_values, nearest_answer}
use Rattle.nearest.specs.claims.Fault.{Fault, uneven, listed, asked, Faultless}
use Rattle.nearest.proofs.Faults.{lowest_refused, faultless_answered}
use Rattle.nearest.proofs.Order.{Counted}
use Rattle.nearest.proofs.Least.{LeastAt, least-at}
use Rattle.nearest.proofs.Distances.{counted, has-bits}

-- what a search for one tells
module _ (l : List Float) (n i : ℕ) (I : i ≡ first (beyond l) n) where
  found_beyond : i < n → within (get_or l i nan) ≡ false
  found_beyond h = not-true (within (get_or l i nan)) (ap (beyond l) I ∙ first_is (beyond l) n (subst (λ k. k < n) I h))

  beyond_from : (q : ℕ) → within (get_or l q nan) ≡ false → i ≤ q
  beyond_from q w = elim (dec_lt q i) [
    | yes h ↦ clash (not-false (within (get_or l q nan)) (first_below (beyond l) n q (subst (λ k. q < k) I h))) w
    | no h ↦ omega arith
  ]

-- the place of the first of these numbers that is not within the limit
abbrev pub first_out : List Float → Option ℕ
first_out l = position (λ x. not (within x)) l

out_found : (l : List Float) {o : Option ℕ} → o ≡ first_out l → o ≡ found (beyond l) (length l)
out_found l e = e ∙ position_found (λ x. not (within x)) l nan

module _ (points : List Float) (query : Place) where
  pub uneven_refused : (length points % coordinates ≡ 0 → ⊥) → refusal 23 0 ≡ nearest_answer points query
  uneven_refused u = lowest_refused points query 0 (record { fault = uneven refl u; lowest = λ q f. omega arith })

  module _ (even : length points % coordinates ≡ 0) where
    from_list : (i : ℕ) → i ≡ first (beyond points) (length points) → i < length points → (q : ℕ) → Fault points query q → i ≤ q
    from_list i I h q (uneven z u) = absurd (u even)
    from_list i I h q (listed l w) = beyond_from points (length points) i I q w
    from_list i I h q (asked t l e w) = omega arith

    pub listed_refused : (i : ℕ) → Some i ≡ first_out points → refusal 23 i ≡ nearest_answer points query
    listed_refused i e =
        let (I, h) = found_first _ _ i (out_found points e) in
        lowest_refused points query i (record { fault = listed h (found_beyond points (length points) i I h); lowest = from_list i I h })

    module _ (none : None ≡ first_out points) where
      -- there is no fault before the query's
      from_query : (t : ℕ) → t ≡ first (beyond (numbers query)) coordinates → (q : ℕ) → Fault points query q → (length points + t ≤ q) × (t < coordinates)
      from_query t Q q (uneven z u) = absurd (u even)
      from_query t Q q (listed l w) = absurd (omega (arith, found_none _ _ (out_found points none), beyond_from points (length points) _ refl q w))
      from_query t Q q (asked s l e w) = let h = beyond_from (numbers query) coordinates t Q s w in (omega arith, omega arith)

      pub asked_refused : (t : ℕ) → Some t ≡ first_out (numbers query) → refusal 23 (length points + t) ≡ nearest_answer points query
      asked_refused t e =
          let (Q, h) = found_first _ _ t (out_found (numbers query) e) in
          lowest_refused points query (length points + t)
          (record { fault = asked t h refl (found_beyond (numbers query) coordinates t Q h); lowest = λ q f. (from_query t Q q f).0 })

      pub faultless : None ≡ first_out (numbers query) → Faultless points query
      faultless e q f = omega (arith, found_none _ _ (out_found (numbers query) e), (from_query _ refl q f).1)

  -- a place of the query's is one of three
  pub asked_lt : (t : ℕ) → Some t ≡ first_out (numbers query) → t < coordinates
  asked_lt t e = (found_first _ _ t (out_found (numbers query) e)).1

  module _ (F : Faultless points query) where
    pub none_answered : length points ≡ 0 → nearest_numbers NoPoint ≡ nearest_answer points query
    unfolding nearest_values
    none_answered e = ap result_of (sym (rw (eq-eqb (length points) 0 e))) ∙ faultless_answered points query F

    even_list : length points % coordinates ≡ 0
    even_list = ⊎_elim (λ e. eqb-true (length points % coordinates) 0 e) (λ e. absurd (F 0 (uneven refl (eqb-false (length points % coordinates) 0 e)))) (holds_or (eqb (length points % coordinates) 0))

    module _ (some : length points ≡ 0 → ⊥) where
      abbrev d : ℕ → Float
      d = distance_of points query

      some_point : 0 < point_count points
      some_point = let e = even_list in omega (arith, some)

      pub all_counted : (k : ℕ) → k ≤ point_count points - 1 → Counted (d k)
      all_counted k h = let p = some_point in counted points query F k (omega arith)

      pub least_found : LeastAt d (point_count points - 1) (nearest_number points query)
      unfolding nearest_number
      least_found = least-at d (point_count points - 1) all_counted

      pub number_listed : nearest_number points query < point_count points
      number_listed = omega (arith, least_found.at, some_point)

      -- the answer for a point that is found
      pub found_answered : (k : ℕ) (x : Float) → k ≡ nearest_number points query → x ≡ d k → nearest_numbers (At k x) ≡ nearest_answer points query
      unfolding nearest_values
      found_answered k x e q =
          let n = nearest_number points query in
          let r : x ≡ d n = q ∙ ap d e in
          rw (r, e, has-bits points query F n number_listed)
          (ap result_of (sym (rw (ne_eqb (length points) 0 some))) ∙ faultless_answered points query F)
