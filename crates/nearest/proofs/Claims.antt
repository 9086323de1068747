-- What is claimed of the nearest call.
use Rattle.std.specs.Prelude.{Ok, Err}
use Prim.Native.Nat.{ℕ, ◌-◌}
use mathlib.Core.Path.{◌≡◌, refl, sym, ap, ◌∙◌, subst}
use mathlib.Core.Logic.{⊎_elim}
use mathlib.Core.Bool.{Bool, true, false, not}
use mathlib.Core.List.{List, [], ◌∷◌}
use native.Mathlib.Omega.{arith}
use lib.Dec.{T, eqb}
use lib.ListN.{length}
use lib.Ieee.{Float, binary64, fits, is_nan, to_bits, of_bits}
use lib.Ieee.Bits.{of_bits-to_bits}
use borrow.Author.Tests.{eqb-true, eqb-false}
use Rattle.answer.specs.Answer.{result_of}
use Rattle.answer.specs.Refusal.{refusal_numbers}
use Rattle.answer.specs.declared.Refusal.{Refusal}
use Rattle.answer.specs.declared.Row.TheVariants.{Points}
use Rattle.answer.proofs.Numbers.{row_not, refusal_tells}
use Rattle.answer.proofs.Rows.{answer_some}
use Rattle.counting.specs.Pick.{pick}
use Rattle.counting.proofs.Bools.{and_left, and_right, holds_or}
use Rattle.place.specs.declared.Place.{Place}
use Rattle.nearest.specs.declared.Nearest.{Nearest}
use Rattle.nearest.specs.declared.Nearest.TheVariants.{NoPoint, At}
use Rattle.nearest.specs.Distance.{point_count, distance_of}
use Rattle.nearest.specs.Answer.{Measured, has_bits, nearest_numbers, measured_numbers, nearest_rows, nearest_number, nearest_values, nearest_answer}
use Rattle.nearest.specs.claims.Fault.{Faultless, LowestAt}
use Rattle.nearest.specs.claims.Claims.{IsNearest, Says, CallSays, MeasuredTold}
use Rattle.nearest.proofs.Faults.{lowest_refused, faults}
use Rattle.nearest.proofs.Least.{none_smaller, lowest_equal, not_above}
use Rattle.nearest.proofs.Distances.{distance_between}
use Rattle.nearest.proofs.Calls.{none_answered, all_counted, least_found, number_listed, found_answered}

empty_is : (points : List Float) → length points ≡ 0 → points ≡ []
empty_is [] e = refl
empty_is (x ∷ l) e = absurd (omega arith)

-- bits tell the float
bits_back : (d : Float) → has_bits d ≡ true → of_bits binary64 (to_bits binary64 d) ≡ d
bits_back d h = of_bits-to_bits binary64 d (subst T (sym (and_left (fits binary64 d) (not (is_nan d)) h)) tt)

-- there is always an answer
pub nearest_some : (points : List Float) (query : Place) → [] ≡ nearest_answer points query → ⊥
unfolding nearest_answer
nearest_some points query = answer_some (nearest_rows points query) (nearest_values points query)

-- a point that is answered has its bits, which are those of the answer
module _ (points : List Float) (query : Place) where
  at_reads : (n : ℕ) (d : Float) → nearest_numbers (At n d) ≡ nearest_answer points query
      → (has_bits d ≡ true) × (result_of (n ∷ to_bits binary64 d ∷ []) ≡ nearest_answer points query)
  at_reads n d = go (has_bits d) refl
    where
      go : (b : Bool) → has_bits d ≡ b → pick b (result_of (n ∷ to_bits binary64 d ∷ [])) [] ≡ nearest_answer points query
          → (has_bits d ≡ true) × (result_of (n ∷ to_bits binary64 d ∷ []) ≡ nearest_answer points query)
      go true h e = (h, e)
      go false h e = absurd (nearest_some points query e)

  pub point_reads : (n : ℕ) (d : Float) → nearest_numbers (At n d) ≡ nearest_answer points query
      → T (not (is_nan d)) × (result_of (n ∷ to_bits binary64 d ∷ []) ≡ nearest_answer points query)
  point_reads n d e = let (h, q) = at_reads n d e in (subst T (sym (and_right (fits binary64 d) (not (is_nan d)) h)) tt, q)

  -- two values with one reading that is the answer
  nearest_tells : (x y : Nearest) → nearest_numbers x ≡ nearest_answer points query → nearest_numbers y ≡ nearest_answer points query → x ≡ y
  nearest_tells NoPoint NoPoint a b = refl
  nearest_tells NoPoint (At n d) a b = absurd (let q = a ∙ sym (at_reads n d b).1 in cc)
  nearest_tells (At n d) NoPoint a b = absurd (let q = b ∙ sym (at_reads n d a).1 in cc)
  nearest_tells (At n d) (At m e) a b =
      let (g, u) = at_reads n d a in
      let (h, v) = at_reads m e b in
      let x : n ≡ m = cc in
      let y : to_bits binary64 d ≡ to_bits binary64 e = cc in
      let z : d ≡ e = sym (bits_back d g) ∙ ap (of_bits binary64) y ∙ bits_back e h in
      rw (x, z)

  -- a result is no refusal
  result_not : (x : Nearest) (r : Refusal) → nearest_numbers x ≡ nearest_answer points query → refusal_numbers r ≡ nearest_answer points query → ⊥
  result_not NoPoint r a b = let q = b ∙ sym a in row_not r.row cc
  result_not (At n d) r a b = let q = b ∙ sym (at_reads n d a).1 in row_not r.row cc

  tells : (r s : Measured) → measured_numbers r ≡ nearest_answer points query → measured_numbers s ≡ nearest_answer points query → r ≡ s
  tells (Ok x) (Ok y) a b = ap Ok (nearest_tells x y a b)
  tells (Ok x) (Err r) a b = absurd (result_not x r a b)
  tells (Err r) (Ok x) a b = absurd (result_not x r b a)
  tells (Err r) (Err s) a b = ap Err (refusal_tells r s (a ∙ sym b))

pub measured_told : MeasuredTold
measured_told = tells

-- a refusal of row 23, and a point
abbrev fault_at : ℕ → Measured
fault_at p = Err (record { row = Points; place = p })

abbrev point_at : ℕ → Float → Measured
point_at n d = Ok (At n d)

module _ (points : List Float) (query : Place) (r : Measured) (e : measured_numbers r ≡ nearest_answer points query) where
  -- the answer is one of three
  refused_is : (p : ℕ) → LowestAt points query p → r ≡ fault_at p
  refused_is p L = measured_told points query r (fault_at p) e (lowest_refused points query p L)

  module _ (F : Faultless points query) where
    none_is : length points ≡ 0 → r ≡ Ok NoPoint
    none_is z = measured_told points query r (Ok NoPoint) e (none_answered points query F z)

    found_is : (length points ≡ 0 → ⊥) → r ≡ point_at (nearest_number points query) (distance_of points query (nearest_number points query))
    found_is s =
        let n = nearest_number points query in
        measured_told points query r (point_at n (distance_of points query n)) e (found_answered points query F s n (distance_of points query n) refl refl)

    -- the point that is found
    is_nearest : (length points ≡ 0 → ⊥) → IsNearest points query (nearest_number points query) (distance_of points query (nearest_number points query))
    is_nearest s =
        let n = nearest_number points query in
        let d = distance_of points query in
        let m = point_count points - 1 in
        let C = all_counted points query F s in
        let L = least_found points query F s in
        let l = number_listed points query F s in
        record {
          listed = l;
          measured = refl;
          least = λ k h. none_smaller d m n C L k (omega arith);
          lowest = λ k h. lowest_equal d m n C L k (omega arith);
          compared = λ k h. not_above d m n C L k (omega arith);
          bounded = λ k h. distance_between points query F k h;
        }

  says_refused : (p : ℕ) → LowestAt points query p → Says points query r
  says_refused p L =
      let q = refused_is p L in
      record {
        refuses = λ t h.
            let x : t.row ≡ Points = cc in
            let y : p ≡ t.place = cc in
            (x, subst (LowestAt points query) y L);
        refused = λ i f. (p, q);
        none = λ h. absurd cc;
        empty = λ h F. absurd (F p L.fault);
        nearest = λ n d h. absurd cc;
        found = λ h F. absurd (F p L.fault);
      }

  says_none : Faultless points query → length points ≡ 0 → Says points query r
  says_none F z =
      let q = none_is F z in
      record {
        refuses = λ t h. absurd cc;
        refused = λ i f. absurd (F i f);
        none = λ h. (empty_is points z, F);
        empty = λ h G. q;
        nearest = λ n d h. absurd cc;
        found = λ h G. absurd (h (empty_is points z));
      }

  says_found : Faultless points query → (length points ≡ 0 → ⊥) → Says points query r
  says_found F s =
      let q = found_is F s in
      record {
        refuses = λ t h. absurd cc;
        refused = λ i f. absurd (F i f);
        none = λ h. absurd cc;
        empty = λ h G. absurd (s (ap length h));
        nearest = λ n d h.
            let x : n ≡ nearest_number points query = cc in
            let y : d ≡ distance_of points query (nearest_number points query) = cc in
            (rw (x, y) (is_nearest F s), F);
        found = λ h G. (nearest_number points query, distance_of points query (nearest_number points query), q);
      }

  says : Says points query r
  says =
      ⊎_elim (λ (w : (p : ℕ) × LowestAt points query p). says_refused w.0 w.1)
      (λ F. ⊎_elim (λ z. says_none F (eqb-true (length points) 0 z)) (λ z. says_found F (eqb-false (length points) 0 z)) (holds_or (eqb (length points) 0)))
      (faults points query)

pub call_says : CallSays
call_says = says
