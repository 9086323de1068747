-- The answer of a triangle by where the crossing stands; in rule 2 each crossing is joined round a corner, but for the one that is left.
use Prim.Native.Nat.{ℕ, ◌+◌, ◌-◌, ◌<◌, ◌≤◌}
use mathlib.Core.Path.{◌≡◌, refl, sym, ◌∙◌, ap}
use mathlib.Core.Logic.{◌⊎◌, inl, inr, ⊎_elim}
use mathlib.Core.Bool.{Bool, true, false}
use mathlib.Core.List.{List}
use native.Mathlib.Omega.{arith}
use native.Mathlib.Decide.{dec_lt, ℕ_discrete}
use borrow.Author.Tests.{lt-ltb, le-ltb, le-leb, lt-leb}
use Rattle.face.specs.Face.{left, unjoined_by, no_crossing, bare, other, count_on, others, kth, partner, residual}
use Rattle.face.specs.claims.Claims.{unjoined}
use Rattle.slots.specs.Slots.{lower, upper}
use Rattle.face.specs.claims.Ends.{Edge, on_ab, on_ac, on_bc, End, low, high}
use Rattle.face.proofs.Ends.{edge_with, end_other, other_other, other_differs}
use Rattle.face.proofs.Gaps.{kth_lower, kth_upper, corner_other, corner_room, gap_excess, gap_level}
use Rattle.face.proofs.Answers.{joined_unjoined, joined_none}
use Rattle.flat.specs.Join.{rule_two, largest_edge, lessened, flat_corner_at, triangle_answer, flat_join}
use Rattle.flat.specs.claims.JoinClaims.{FlatSegment}
use Rattle.flat.proofs.Rule.{two_is, apart, corner_none, less, less_full}

-- THE ANSWER, by where the crossing stands

pub told_off : (ab ac bc e t : ℕ) → count_on ab ac bc e ≤ t → triangle_answer ab ac bc e t ≡ no_crossing
unfolding triangle_answer
told_off ab ac bc e t h = simp (le-leb (count_on ab ac bc e) t h)

module _ (ab ac bc e t : ℕ) (h : t < count_on ab ac bc e) where
  pub below_corner : t < flat_corner_at ab ac bc (lower e) e → triangle_answer ab ac bc e t ≡ partner ab ac bc (lower e) e t
  unfolding triangle_answer
  below_corner a = simp (lt-leb (count_on ab ac bc e) t h, lt-ltb t (flat_corner_at ab ac bc (lower e) e) a)

  module _ (a : flat_corner_at ab ac bc (lower e) e ≤ t) where
    pub above_corner : count_on ab ac bc e - 1 - t < flat_corner_at ab ac bc (upper e) e
        → triangle_answer ab ac bc e t ≡ partner ab ac bc (upper e) e (count_on ab ac bc e - 1 - t)
    unfolding triangle_answer
    above_corner b =
        simp (
          lt-leb (count_on ab ac bc e) t h,
          le-ltb t (flat_corner_at ab ac bc (lower e) e) a,
          lt-ltb (count_on ab ac bc e - 1 - t) (flat_corner_at ab ac bc (upper e) e) b,
        )

    module _ (b : flat_corner_at ab ac bc (upper e) e ≤ count_on ab ac bc e - 1 - t) where
      pub between_long : others ab ac bc e < count_on ab ac bc e
          → triangle_answer ab ac bc e t ≡ residual e (count_on ab ac bc e - others ab ac bc e) (t - flat_corner_at ab ac bc (lower e) e) t
      unfolding triangle_answer
      between_long o =
          simp (
            lt-leb (count_on ab ac bc e) t h,
            le-ltb t (flat_corner_at ab ac bc (lower e) e) a,
            le-ltb (count_on ab ac bc e - 1 - t) (flat_corner_at ab ac bc (upper e) e) b,
            lt-ltb (others ab ac bc e) (count_on ab ac bc e) o,
          )

      pub between_short : count_on ab ac bc e ≤ others ab ac bc e → triangle_answer ab ac bc e t ≡ unjoined_by left
      unfolding triangle_answer
      between_short o =
          simp (
            lt-leb (count_on ab ac bc e) t h,
            le-ltb t (flat_corner_at ab ac bc (lower e) e) a,
            le-ltb (count_on ab ac bc e - 1 - t) (flat_corner_at ab ac bc (upper e) e) b,
            le-ltb (others ab ac bc e) (count_on ab ac bc e) o,
          )

-- without how and why
pub flat_is : (ab ac bc e t : ℕ) {a : List ℕ} → triangle_answer ab ac bc e t ≡ a → flat_join ab ac bc e t ≡ bare a
unfolding flat_join
flat_is ab ac bc e t q = ap bare q

pub flat_off : (ab ac bc e t : ℕ) → count_on ab ac bc e ≤ t → flat_join ab ac bc e t ≡ no_crossing
flat_off ab ac bc e t h = flat_is ab ac bc e t (told_off ab ac bc e t h)

-- only a crossing of the triangle is joined
pub there_joined : (ab ac bc e t : ℕ) {e' t' : ℕ} → FlatSegment ab ac bc e t e' t' → t < count_on ab ac bc e
there_joined ab ac bc e t j =
    elim (dec_lt t (count_on ab ac bc e)) [
      | yes h ↦ h
      | no h ↦ absurd (joined_none j (flat_off ab ac bc e t (omega arith)))
    ]

module _ (ab ac bc : ℕ) where
  pub told_corner : {w e : ℕ} (k : ℕ) → End w e → k < flat_corner_at ab ac bc w e → triangle_answer ab ac bc e (kth ab ac bc w e k) ≡ partner ab ac bc w e k
  told_corner {e = e} k (low d) h = let r = apart ab ac bc d in rw (kth_lower ab ac bc e k) (below_corner ab ac bc e k (omega arith) h)
  told_corner {e = e} k (high d) h =
      let r = apart ab ac bc d in
      let b : count_on ab ac bc e - 1 - (count_on ab ac bc e - 1 - k) ≡ k = omega arith in
      rw (kth_upper ab ac bc k d) (rw b at (above_corner ab ac bc e (count_on ab ac bc e - 1 - k) (omega arith) (omega arith) (omega arith)))

  pub at_corner : {w e : ℕ} (k : ℕ) → End w e → k < flat_corner_at ab ac bc w e → FlatSegment ab ac bc e (kth ab ac bc w e k) (other w e) (kth ab ac bc w (other w e) k)
  unfolding partner
  at_corner {w} {e} k d h = flat_is ab ac bc e (kth ab ac bc w e k) (told_corner k d h)

module _ (ab ac bc : ℕ) (two : rule_two ab ac bc ≡ true) where
  abbrev n : ℕ → ℕ
  n e = count_on ab ac bc e

  abbrev m : ℕ
  m = largest_edge ab ac bc

  abbrev lo : ℕ → ℕ
  lo e = flat_corner_at ab ac bc (lower e) e

  abbrev hi : ℕ → ℕ
  hi e = flat_corner_at ab ac bc (upper e) e

  -- the corners leave nothing of an edge, but for one crossing of the largest
  pub full_else : {e : ℕ} → Edge e → (e ≡ m → ⊥) → lo e + hi e ≡ n e
  full_else {e} d h = less_full ab ac bc (less ab ac bc two) d ∙ (less ab ac bc two).else e h

  pub full_at : {e : ℕ} → Edge e → e ≡ m → lo e + hi e + 1 ≡ n e
  full_at d q = rw q (ap (λ (k : ℕ). k + 1) (less_full ab ac bc (less ab ac bc two) (less ab ac bc two).edge) ∙ (less ab ac bc two).at)

  short : {e : ℕ} → Edge e → n e ≤ others ab ac bc e
  unfolding others count_on lower upper other
  short on_ab = (two_is ab ac bc two).first
  short on_ac = (two_is ab ac bc two).second
  short on_bc = (two_is ab ac bc two).third

  pub told_gap : {e : ℕ} → Edge e → e ≡ m → triangle_answer ab ac bc e (lo e) ≡ unjoined_by left
  told_gap {e} d q = let r = full_at d q in between_short ab ac bc e (lo e) (omega arith) (omega arith) (omega arith) (short d)

  pub at_gap : {e : ℕ} → Edge e → e ≡ m → flat_join ab ac bc e (lo e) ≡ unjoined
  at_gap {e} d q = flat_is ab ac bc e (lo e) (told_gap d q)

  -- where a crossing stands
  pub data Case (e t : ℕ) : Type 0 where
    around : {w : ℕ} (k : ℕ) → End w e → k < flat_corner_at ab ac bc w e → t ≡ kth ab ac bc w e k → Case e t
    alone : e ≡ m → t ≡ lo e → Case e t

  pub case_of : (e t : ℕ) → t < n e → Case e t
  case_of e t h =
      let d = edge_with ab ac bc e t h in
      elim (dec_lt t (lo e)) [
        | yes k ↦ around t (low d) k (sym (kth_lower ab ac bc e t))
        | no k ↦ elim (dec_lt (t + hi e) (n e)) [
          | yes l ↦ elim (ℕ_discrete e m) [
            | yes q ↦ alone q (omega (arith, full_at d q))
            | no q ↦ absurd (omega (arith, full_else d q))
          ]
          | no l ↦ around (n e - 1 - t) (high d) (omega (arith, apart ab ac bc d)) (sym (kth_upper ab ac bc (n e - 1 - t) d ∙ omega arith))
        ]
      ]

  corner_same : {w e : ℕ} → End w e → flat_corner_at ab ac bc w (other w e) ≡ flat_corner_at ab ac bc w e
  unfolding flat_corner_at
  corner_same d = corner_other (lessened ab ac bc 0) (lessened ab ac bc 1) (lessened ab ac bc 2) d

  -- a segment, by the corner that it goes round
  pub data Link (e t e' t' : ℕ) : Type 0 where
    about : {w : ℕ} (k : ℕ) → End w e → k < flat_corner_at ab ac bc w e → t ≡ kth ab ac bc w e k → e' ≡ other w e → t' ≡ kth ab ac bc w e' k → Link e t e' t'

  pub link : {e t e' t' : ℕ} → FlatSegment ab ac bc e t e' t' → Link e t e' t'
  link {e} {t} {e'} {t'} j = go (case_of e t (there_joined ab ac bc e t j))
    where
      go : Case e t → Link e t e' t'
      go (around k d h p) = let a = at_corner ab ac bc k d h in about k d h p (cc) (cc)
      go (alone q p) = absurd (joined_unjoined j (rw p (at_gap (edge_with ab ac bc e t (there_joined ab ac bc e t j)) q)))

  joins : {e t e' t' : ℕ} → Link e t e' t' → FlatSegment ab ac bc e t e' t'
  joins (about k d h p q r) = cc (at_corner ab ac bc k d h)

  flip : {e t e' t' : ℕ} → Link e t e' t' → Link e' t' e t
  flip (about {w = w} k d h p q r) = about {w = w} k (rw q (end_other d)) (rw q (rw (corner_same d) h)) r (rw q (sym (other_other d))) p

  pub left_back : (e t e' t' : ℕ) → FlatSegment ab ac bc e t e' t' → FlatSegment ab ac bc e' t' e t
  left_back e t e' t' j = joins (flip (link j))

  pub left_another : (e t e' t' : ℕ) → FlatSegment ab ac bc e t e' t' → (e ≡ e') × (t ≡ t') → ⊥
  left_another e t e' t' j q = go (link j)
    where
      go : Link e t e' t' → ⊥
      go (about k d h p f r) = other_differs d (sym (q.0 ∙ f))

  pub left_cases : (e t : ℕ) → t < n e → ((e' : ℕ) × (t' : ℕ) × FlatSegment ab ac bc e t e' t') ⊎ (flat_join ab ac bc e t ≡ unjoined)
  left_cases e t h = go (case_of e t h)
    where
      go : Case e t → ((e' : ℕ) × (t' : ℕ) × FlatSegment ab ac bc e t e' t') ⊎ (flat_join ab ac bc e t ≡ unjoined)
      go (around {w = w} k d l p) = inl (other w e, kth ab ac bc w (other w e) k, rw p (at_corner ab ac bc k d l))
      go (alone q p) = inr (rw p (at_gap (edge_with ab ac bc e t h) q))

  -- what is unjoined is the crossing that is left
  pub left_only : (e t : ℕ) → t < n e → flat_join ab ac bc e t ≡ unjoined → (e ≡ m) × (t ≡ lo e)
  left_only e t h u = go (case_of e t h)
    where
      go : Case e t → (e ≡ m) × (t ≡ lo e)
      go (around k d l p) = absurd (joined_unjoined (at_corner ab ac bc k d l) (rw p at u))
      go (alone q p) = (q, p)

-- WHAT THE CORNERS OF AN EDGE LEAVE, in every rule
module _ (ab ac bc : ℕ) {e : ℕ} (d : Edge e) where
  -- of an edge not above the other two, one crossing at most
  pub corners_most : count_on ab ac bc e ≤ others ab ac bc e → count_on ab ac bc e ≤ flat_corner_at ab ac bc (lower e) e + flat_corner_at ab ac bc (upper e) e + 1
  corners_most o = go (rule_two ab ac bc) refl
    where
      go : (b : Bool) → rule_two ab ac bc ≡ b → count_on ab ac bc e ≤ flat_corner_at ab ac bc (lower e) e + flat_corner_at ab ac bc (upper e) e + 1
      go true q = elim (ℕ_discrete e (largest_edge ab ac bc)) [
        | yes z ↦ omega (arith, full_at ab ac bc q d z)
        | no z ↦ omega (arith, full_else ab ac bc q d z)
      ]
      go false q =
          rw (corner_none ab ac bc q (lower e) e, corner_none ab ac bc q (upper e) e)
          (⊎_elim (λ z. omega arith) (λ z. omega arith) (gap_level ab ac bc d o))

  -- of one above them, as many as it is above them
  pub corners_others : others ab ac bc e < count_on ab ac bc e → flat_corner_at ab ac bc (lower e) e + flat_corner_at ab ac bc (upper e) e ≡ others ab ac bc e
  corners_others o = go (rule_two ab ac bc) refl
    where
      go : (b : Bool) → rule_two ab ac bc ≡ b → flat_corner_at ab ac bc (lower e) e + flat_corner_at ab ac bc (upper e) e ≡ others ab ac bc e
      go true q = absurd (omega (arith, short ab ac bc q d))
      go false q =
          rw (corner_none ab ac bc q (lower e) e, corner_none ab ac bc q (upper e) e)
          (omega (arith, gap_excess ab ac bc d o, corner_room ab ac bc d))
