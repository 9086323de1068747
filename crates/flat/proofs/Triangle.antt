-- The laws of a triangle of a flat grid, together.
use Prim.Native.Nat.{ℕ, ◌+◌, ◌%◌, ◌<◌, ◌≤◌}
use mathlib.Core.Path.{◌≡◌, refl, sym, ◌∙◌, ap}
use mathlib.Core.Logic.{◌⊎◌, inl, inr}
use mathlib.Core.Bool.{Bool, true, false}
use native.Mathlib.Omega.{arith}
use native.Mathlib.Decide.{dec_lt, ℕ_discrete}
use Rattle.face.specs.Face.{round, left, joined_by, unjoined_by, no_crossing, bare, other, count_on, others, kth, corner_count_at, partner, face_answer, face_join}
use Rattle.face.specs.claims.Claims.{unjoined}
use Rattle.slots.specs.Slots.{lower, upper}
use Rattle.face.specs.claims.Ends.{Edge, on_ab, on_ac, on_bc, End}
use Rattle.counting.proofs.Bools.{clash}
use Rattle.face.proofs.Corner.{first, second, third, level, rule}
use Rattle.face.proofs.Ends.{edge_with, no_edge, all_three}
use Rattle.face.proofs.Gaps.{gap, gap_excess, gap_short, gap_even}
use Rattle.face.proofs.Answers.{joined_unjoined, joined_none, unjoined_none}
use Rattle.face.proofs.Links.{alone_unjoined}
use Rattle.face.proofs.Laws.{unjoined_alone, there_unjoined}
use Rattle.face.proofs.Claims.{face_laws}
use Rattle.face.proofs.Reasons.{reason_laws}
use Rattle.flat.specs.Join.{rule_two, largest_edge, flat_corner_at, triangle_answer, flat_join}
use Rattle.flat.specs.claims.JoinClaims.{FlatSegment, FlatLaws, FlatReasons}
use Rattle.flat.proofs.Rule.{Two, two_is, is_two, corner_none, less}
use Rattle.flat.proofs.Left.{flat_is, flat_off, told_corner, at_corner, told_gap, at_gap, there_joined, left_back, left_another, left_cases, left_only}

module _ (ab ac bc : ℕ) where
  abbrev n : ℕ → ℕ
  n e = count_on ab ac bc e

  pub told_before : rule_two ab ac bc ≡ false → (e t : ℕ) → triangle_answer ab ac bc e t ≡ face_answer ab ac bc e t
  unfolding triangle_answer face_answer
  told_before h e t = rw (corner_none ab ac bc h (lower e) e, corner_none ab ac bc h (upper e) e)

  as_before : rule_two ab ac bc ≡ false → (e t : ℕ) → flat_join ab ac bc e t ≡ face_join ab ac bc e t
  unfolding face_join
  as_before h e t = flat_is ab ac bc e t (told_before h e t)

  -- only a crossing of the triangle is unjoined
  unjoined_there : (e t : ℕ) → flat_join ab ac bc e t ≡ unjoined → t < n e
  unjoined_there e t u =
      elim (dec_lt t (n e)) [
        | yes h ↦ h
        | no h ↦ absurd (unjoined_none u (flat_off ab ac bc e t (omega arith)))
      ]

  -- RULES 1 AND 3

  -- an edge that has more than the other two is the only such
  only_long : {e d : ℕ} → Edge e → Edge d → others ab ac bc e < n e → others ab ac bc d < n d → e ≡ d
  unfolding others count_on lower upper other
  only_long on_ab on_ab h k = refl
  only_long on_ab on_ac h k = absurd (omega arith)
  only_long on_ab on_bc h k = absurd (omega arith)
  only_long on_ac on_ab h k = absurd (omega arith)
  only_long on_ac on_ac h k = refl
  only_long on_ac on_bc h k = absurd (omega arith)
  only_long on_bc on_ab h k = absurd (omega arith)
  only_long on_bc on_ac h k = absurd (omega arith)
  only_long on_bc on_bc h k = refl

  -- a triangle of rule 2, from an odd sum and no edge above the other two
  two_of : (ab + ac + bc) % 2 ≡ 1 → ((e : ℕ) → Edge e → n e ≤ others ab ac bc e) → rule_two ab ac bc ≡ true
  unfolding others count_on lower upper other
  two_of o h = is_two ab ac bc (record { odd = o; first = h 0 on_ab; second = h 1 on_ac; third = h 2 on_bc })

  two_level : {e : ℕ} → Edge e → n e ≤ n (other (lower e) e) + n (other (upper e) e) → n (other (lower e) e) ≤ n e + n (other (upper e) e)
      → n (other (upper e) e) ≤ n e + n (other (lower e) e) → (ab + ac + bc) % 2 ≡ 1 → Two ab ac bc
  unfolding count_on lower upper other
  two_level on_ab h k l o = record { odd = o; first = h; second = k; third = l }
  two_level on_ac h k l o = record { odd = o; first = k; second = h; third = omega arith }
  two_level on_bc h k l o = record { odd = o; first = omega arith; second = omega arith; third = h }

  module _ (none : rule_two ab ac bc ≡ false) where
    -- an odd number between the corners of an edge: it has more than the other two
    long_of : {e : ℕ} → Edge e → gap ab ac bc e % 2 ≡ 1 → others ab ac bc e < n e
    unfolding others
    long_of {e} d g =
        elim (rule (n e) (n (other (lower e) e)) (n (other (upper e) e))) [
          | first h ↦ h
          | second h ↦ absurd (omega (arith, gap_short ab ac bc d (inl h)))
          | third h ↦ absurd (omega (arith, gap_short ab ac bc d (inr h)))
          | level h k l ↦ elim (ℕ_discrete ((ab + ac + bc) % 2) 0) [
            | yes q ↦ absurd (omega (arith, gap_even ab ac bc d h k l q))
            | no q ↦ clash (is_two ab ac bc (two_level d h k l (omega arith))) none
          ]
        ]

    -- an odd sum: one edge has
    some_long : (ab + ac + bc) % 2 ≡ 1 → (e : ℕ) × Edge e × (others ab ac bc e < n e)
    some_long o =
        elim (dec_lt (others ab ac bc 0) (n 0)) [
          | yes h ↦ (0, on_ab, h)
          | no h ↦ elim (dec_lt (others ab ac bc 1) (n 1)) [
            | yes k ↦ (1, on_ac, k)
            | no k ↦ elim (dec_lt (others ab ac bc 2) (n 2)) [
              | yes l ↦ (2, on_bc, l)
              | no l ↦ clash (two_of o (λ e. each h k l)) none
            ]
          ]
        ]
      where
        each : (others ab ac bc 0 < n 0 → ⊥) → (others ab ac bc 1 < n 1 → ⊥) → (others ab ac bc 2 < n 2 → ⊥) → {e : ℕ} → Edge e → n e ≤ others ab ac bc e
        each h k l on_ab = omega arith
        each h k l on_ac = omega arith
        each h k l on_bc = omega arith

    long_single : (e t e' t' : ℕ) → face_join ab ac bc e t ≡ unjoined → face_join ab ac bc e' t' ≡ unjoined → (e ≡ e') × (t ≡ t')
    long_single e t e' t' u v =
        let a = unjoined_alone ab ac bc e t u in
        let b = unjoined_alone ab ac bc e' t' v in
        let d = edge_with ab ac bc e t (there_unjoined ab ac bc e t u) in
        let c = edge_with ab ac bc e' t' (there_unjoined ab ac bc e' t' v) in
        let q = only_long d c (long_of d a.odd) (long_of c b.odd) in
        (q, a.first ∙ ap (λ (e : ℕ). corner_count_at ab ac bc (lower e) e) q ∙ sym b.first)

    long_odd : (ab + ac + bc) % 2 ≡ 1 → (e : ℕ) × (t : ℕ) × (face_join ab ac bc e t ≡ unjoined)
    long_odd o =
        let (e, d, h) = some_long o in
        (e, corner_count_at ab ac bc (lower e) e, alone_unjoined ab ac bc d (omega (arith, gap_excess ab ac bc d h, all_three ab ac bc d)))

  -- BOTH

  module _ (e t : ℕ) where
    cases_of : (b : Bool) → rule_two ab ac bc ≡ b → t < n e → ((e' : ℕ) × (t' : ℕ) × FlatSegment ab ac bc e t e' t') ⊎ (flat_join ab ac bc e t ≡ unjoined)
    cases_of true q h = left_cases ab ac bc q e t h
    cases_of false q h = rw (as_before q e t) ((face_laws ab ac bc).cases e t h)

    even_of : (b : Bool) → rule_two ab ac bc ≡ b → (ab + ac + bc) % 2 ≡ 0 → flat_join ab ac bc e t ≡ unjoined → ⊥
    even_of true q z u = omega (arith, (two_is ab ac bc q).odd)
    even_of false q z u = (face_laws ab ac bc).even z e t (rw (as_before q e t) at u)

    back_of : (b : Bool) → rule_two ab ac bc ≡ b → (e' t' : ℕ) → FlatSegment ab ac bc e t e' t' → FlatSegment ab ac bc e' t' e t
    back_of true q e' t' j = left_back ab ac bc q e t e' t' j
    back_of false q e' t' j = as_before q e' t' ∙ (face_laws ab ac bc).back e t e' t' (sym (as_before q e t) ∙ j)

    another_of : (b : Bool) → rule_two ab ac bc ≡ b → (e' t' : ℕ) → FlatSegment ab ac bc e t e' t' → (e ≡ e') × (t ≡ t') → ⊥
    another_of true q e' t' j = left_another ab ac bc q e t e' t' j
    another_of false q e' t' j = (face_laws ab ac bc).another e t e' t' (sym (as_before q e t) ∙ j)

    single_of : (b : Bool) → rule_two ab ac bc ≡ b → (e' t' : ℕ) → flat_join ab ac bc e t ≡ unjoined → flat_join ab ac bc e' t' ≡ unjoined → (e ≡ e') × (t ≡ t')
    single_of true q e' t' u v =
        let a = left_only ab ac bc q e t (unjoined_there e t u) u in
        let b = left_only ab ac bc q e' t' (unjoined_there e' t' v) v in
        let r = a.0 ∙ sym b.0 in
        (r, a.1 ∙ ap (λ (e : ℕ). flat_corner_at ab ac bc (lower e) e) r ∙ sym b.1)
    single_of false q e' t' u v = long_single q e t e' t' (sym (as_before q e t) ∙ u) (sym (as_before q e' t') ∙ v)

    only_of : (b : Bool) → rule_two ab ac bc ≡ b → flat_join ab ac bc e t ≡ no_crossing → (2 < e) ⊎ (n e ≤ t)
    only_of b q u =
        elim (dec_lt t (n e)) [
          | yes h ↦ absurd (elim (cases_of b q h) [ inl j ↦ joined_none j.2 u | inr v ↦ unjoined_none v u ])
          | no h ↦ inr (omega arith)
        ]

  odd_of : (b : Bool) → rule_two ab ac bc ≡ b → (ab + ac + bc) % 2 ≡ 1 → (e : ℕ) × (t : ℕ) × (flat_join ab ac bc e t ≡ unjoined)
  odd_of true q o = (largest_edge ab ac bc, flat_corner_at ab ac bc (lower (largest_edge ab ac bc)) (largest_edge ab ac bc), at_gap ab ac bc q (less ab ac bc q).edge refl)
  odd_of false q o = let (e, t, u) = long_odd q o in (e, t, as_before q e t ∙ u)

  off_of : (e t : ℕ) → (2 < e) ⊎ (n e ≤ t) → flat_join ab ac bc e t ≡ no_crossing
  off_of e t (inl h) = flat_off ab ac bc e t (omega (arith, no_edge ab ac bc e h))
  off_of e t (inr h) = flat_off ab ac bc e t h

  pub flat_laws : FlatLaws ab ac bc
  flat_laws = record {
    as_before = as_before;
    corner = λ w e k d h. at_corner ab ac bc k d h;
    left = λ q. at_gap ab ac bc q (less ab ac bc q).edge refl;
    there = λ e t e' t' j. (there_joined ab ac bc e t j, there_joined ab ac bc e' t' (back_of e t (rule_two ab ac bc) refl e' t' j));
    another = λ e t. another_of e t (rule_two ab ac bc) refl;
    back = λ e t. back_of e t (rule_two ab ac bc) refl;
    off = off_of;
    only_off = λ e t. only_of e t (rule_two ab ac bc) refl;
    cases = λ e t. cases_of e t (rule_two ab ac bc) refl;
    not_both = λ e t e' t' j u. joined_unjoined j u;
    single = λ e t. single_of e t (rule_two ab ac bc) refl;
    even = λ z e t. even_of e t (rule_two ab ac bc) refl z;
    odd = odd_of (rule_two ab ac bc) refl;
  }

  without : (e t : ℕ) → flat_join ab ac bc e t ≡ bare (triangle_answer ab ac bc e t)
  without e t = flat_is ab ac bc e t refl

  corner_told : (w e k : ℕ) → End w e → k < flat_corner_at ab ac bc w e
      → triangle_answer ab ac bc e (kth ab ac bc w e k) ≡ joined_by (other w e) (kth ab ac bc w (other w e) k) (round w)
  unfolding partner
  corner_told w e k d h = told_corner ab ac bc k d h

  left_rule : (e t : ℕ) → triangle_answer ab ac bc e t ≡ unjoined_by left → rule_two ab ac bc ≡ true
  left_rule e t u = go (rule_two ab ac bc) refl
    where
      go : (b : Bool) → rule_two ab ac bc ≡ b → rule_two ab ac bc ≡ true
      go true q = q
      go false q =
          let r = (reason_laws ab ac bc).left_rule e t (sym (told_before q e t) ∙ u) in
          two_of r.0 (λ e d. r.1 e)

  rule_left : rule_two ab ac bc ≡ true → (e t : ℕ) → flat_join ab ac bc e t ≡ unjoined → triangle_answer ab ac bc e t ≡ unjoined_by left
  rule_left q e t u =
      let a = left_only ab ac bc q e t (unjoined_there e t u) u in
      let g = told_gap ab ac bc q (less ab ac bc q).edge refl in
      rw (a.1, a.0) g

  pub flat_reasons : FlatReasons ab ac bc
  flat_reasons = record { without = without; as_before = told_before; corner = corner_told; left_rule = left_rule; rule_left = rule_left }
