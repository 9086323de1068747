-- The corner counts at the two ends of an edge, and what they leave of it between them.
use Prim.Native.Nat.{ℕ, ◌+◌, ◌-◌, ◌%◌, ◌<◌, ◌≤◌}
use mathlib.Core.Path.{◌≡◌, refl, ◌∙◌}
use mathlib.Core.List.{List}
use mathlib.Core.Logic.{◌⊎◌, inl, inr}
use native.Mathlib.Omega.{arith}
use native.Mathlib.Decide.{dec_lt, ℕ_discrete}
use lib.ListN.{get_or}
use borrow.Author.Tests.{eq-eqb, ne_eqb}
use Rattle.slots.specs.Slots.{lower, upper}
use Rattle.face.specs.Face.{other, opposite, corner_count, count_on, others, kth, corner_count_at}
use Rattle.face.specs.work.Corners.{corners}
use Rattle.face.specs.claims.Ends.{Edge, on_ab, on_ac, on_bc, End, low, high}
use Rattle.face.proofs.Corner.{first, second, third, level, rule, corner_swap, corner_le, left_long, left_short, left_even, left_odd}
use Rattle.face.proofs.Ends.{ends_differ, opposite_lower, opposite_upper, other_other, all_three}

module _ (ab ac bc : ℕ) where
  abbrev n : ℕ → ℕ
  n e = count_on ab ac bc e

  abbrev below : ℕ → ℕ
  below e = n (other (lower e) e)

  abbrev above : ℕ → ℕ
  above e = n (other (upper e) e)

  -- how many crossings the corners of an edge leave between them
  abbrev pub gap : ℕ → ℕ
  gap e = count_on ab ac bc e - corner_count_at ab ac bc (lower e) e - corner_count_at ab ac bc (upper e) e

  -- the k-th crossing from either end
  pub kth_lower : (e k : ℕ) → kth ab ac bc (lower e) e k ≡ k
  unfolding kth
  kth_lower e k = simp (eq-eqb (lower e) (lower e) refl)

  pub kth_upper : {e : ℕ} (k : ℕ) → Edge e → kth ab ac bc (upper e) e k ≡ n e - 1 - k
  unfolding kth
  kth_upper {e} k d = simp (ne_eqb (upper e) (lower e) (ends_differ d))

  -- the corner counts at the ends of an edge, from its own count and those of the other edges at its lower and its upper end
  pub corner_lower : {e : ℕ} → Edge e → corner_count_at ab ac bc (lower e) e ≡ corner_count (n e) (below e) (above e)
  unfolding corner_count_at
  corner_lower d = rw (opposite_lower d)

  pub corner_upper : {e : ℕ} → Edge e → corner_count_at ab ac bc (upper e) e ≡ corner_count (n e) (above e) (below e)
  unfolding corner_count_at
  corner_upper d = rw (opposite_upper d)

  -- the corner count at a node, on either edge there
  pub corner_node : {w e : ℕ} → End w e → corner_count_at ab ac bc w e ≡ get_or (corners ab ac bc) w 0
  unfolding corner_count_at lower upper other opposite count_on
  corner_node (low on_ab) = refl
  corner_node (low on_ac) = corner_swap ac ab bc
  corner_node (low on_bc) = corner_swap bc ab ac
  corner_node (high on_ab) = refl
  corner_node (high on_ac) = refl
  corner_node (high on_bc) = corner_swap bc ac ab

  pub corner_read : {w e v p : ℕ} {l : List ℕ} → End w e → l ≡ corners ab ac bc → v ≡ w → p ≡ get_or l v 0 → p ≡ corner_count_at ab ac bc w e
  corner_read d f g h = rw (corner_node d) (h ∙ rw (f, g))

  pub corner_other : {w e : ℕ} → End w e → corner_count_at ab ac bc w (other w e) ≡ corner_count_at ab ac bc w e
  unfolding corner_count_at
  corner_other {w} {e} d = rw (other_other d) (corner_swap (n (other w e)) (n e) (n (opposite w)))

  pub corner_fits : (w e : ℕ) → (corner_count_at ab ac bc w e ≤ n e) × (corner_count_at ab ac bc w e ≤ n (other w e))
  unfolding corner_count_at
  corner_fits w e = corner_le (n e) (n (other w e)) (n (opposite w))

  -- what the corners of an edge leave: what it has above the other two; else one crossing for an odd sum with no count above, else none
  pub gap_long : {e : ℕ} → Edge e → others ab ac bc e < n e →
      (corner_count_at ab ac bc (lower e) e ≡ below e) × (corner_count_at ab ac bc (upper e) e ≡ above e)
  unfolding others
  gap_long {e} d h = rw (corner_lower d, corner_upper d) (left_long (n e) (below e) (above e) h)

  pub gap_excess : {e : ℕ} → Edge e → others ab ac bc e < n e → gap e ≡ n e - others ab ac bc e
  unfolding others
  gap_excess d h = omega (arith, gap_long d h)

  pub gap_short : {e : ℕ} → Edge e → (n e + above e < below e) ⊎ (n e + below e < above e) →
      corner_count_at ab ac bc (lower e) e + corner_count_at ab ac bc (upper e) e ≡ n e
  gap_short {e} d h = rw (corner_lower d, corner_upper d) (left_short (n e) (below e) (above e) h)

  module _ {e : ℕ} (d : Edge e) (h : n e ≤ below e + above e) (k : below e ≤ n e + above e) (l : above e ≤ n e + below e) where
    pub gap_even : (ab + ac + bc) % 2 ≡ 0 → corner_count_at ab ac bc (lower e) e + corner_count_at ab ac bc (upper e) e ≡ n e
    unfolding others
    gap_even q = rw (corner_lower d, corner_upper d) (left_even (n e) (below e) (above e) h k l (omega (arith, all_three ab ac bc d)))

    pub gap_odd : (ab + ac + bc) % 2 ≡ 1 → corner_count_at ab ac bc (lower e) e + corner_count_at ab ac bc (upper e) e + 1 ≡ n e
    unfolding others
    gap_odd q = rw (corner_lower d, corner_upper d) (left_odd (n e) (below e) (above e) h k l (omega (arith, all_three ab ac bc d)))

  -- an edge not above the other two: what its corners leave
  pub gap_level : {e : ℕ} → Edge e → n e ≤ others ab ac bc e →
      (corner_count_at ab ac bc (lower e) e + corner_count_at ab ac bc (upper e) e ≡ n e)
      ⊎ (((ab + ac + bc) % 2 ≡ 1) × (corner_count_at ab ac bc (lower e) e + corner_count_at ab ac bc (upper e) e + 1 ≡ n e))
  unfolding others
  gap_level {e} d m =
      elim (rule (n e) (below e) (above e)) [
        | first h ↦ absurd (omega arith)
        | second h ↦ inl (gap_short d (inl h))
        | third h ↦ inl (gap_short d (inr h))
        | level h k l ↦ elim (ℕ_discrete ((ab + ac + bc) % 2) 0) [
          | yes q ↦ inl (gap_even d h k l q)
          | no q ↦ inr (omega arith, gap_odd d h k l (omega arith))
        ]
      ]

  -- the two corners of an edge have room on it
  pub corner_room : {e : ℕ} → Edge e → corner_count_at ab ac bc (lower e) e + corner_count_at ab ac bc (upper e) e ≤ n e
  unfolding others
  corner_room {e} d =
      elim (dec_lt (others ab ac bc e) (n e)) [
        | yes h ↦ omega (arith, gap_long d h)
        | no h ↦ elim (gap_level d (omega arith)) [
          | inl q ↦ omega arith
          | inr q ↦ omega arith
        ]
      ]
