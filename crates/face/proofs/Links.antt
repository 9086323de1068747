-- Where a crossing of a face stands: at a corner, in a residual pair, or alone; and a segment, by where its ends stand.
use Prim.Native.Nat.{ℕ, ◌+◌, ◌-◌, ◌%◌, ◌<◌, ◌≤◌}
use mathlib.Core.Path.{◌≡◌, refl, sym, ◌∙◌, ap}
use mathlib.Core.Logic.{◌⊎◌, inl, inr}
use native.Mathlib.Omega.{arith}
use native.Mathlib.Decide.{dec_lt, ℕ_discrete}
use Rattle.face.specs.Face.{joined, other, count_on, kth, corner_count_at, face_join}
use Rattle.face.specs.claims.Claims.{unjoined}
use Rattle.slots.specs.Slots.{lower, upper}
use Rattle.face.specs.claims.Ends.{Edge, End, low, high}
use Rattle.face.specs.Rim.{Segment}
use Rattle.face.proofs.Ends.{edge_with, end_other, other_other}
use Rattle.face.proofs.Gaps.{gap, kth_lower, kth_upper, corner_other, corner_fits, corner_room}
use Rattle.face.proofs.Branches.{face_off, corners-of, face_low, face_high, face_up, face_down, face_skip}
use Rattle.face.proofs.Answers.{joined_unjoined, joined_none}

module _ (ab ac bc : ℕ) where
  abbrev n : ℕ → ℕ
  n e = count_on ab ac bc e

  abbrev lo : ℕ → ℕ
  lo e = corner_count_at ab ac bc (lower e) e

  abbrev hi : ℕ → ℕ
  hi e = corner_count_at ab ac bc (upper e) e

  -- the k-th crossings from a corner are joined
  pub at_corner : {w e : ℕ} (k : ℕ) → End w e → k < corner_count_at ab ac bc w e →
      Segment ab ac bc e (kth ab ac bc w e k) (other w e) (kth ab ac bc w (other w e) k)
  at_corner {e = e} k (low d) h = rw (kth_lower ab ac bc e k) (face_low (corners-of ab ac bc d) k h)
  at_corner {e = e} k (high d) h =
      let f = corner_fits ab ac bc (upper e) e in
      let b : n e - 1 - (n e - 1 - k) ≡ k = omega arith in
      rw (kth_upper ab ac bc k d) (rw b at (face_high (corners-of ab ac bc d) (n e - 1 - k) (omega arith) (omega arith)))

  -- t and t + 1 on the edge e are a residual pair
  pub record Pair (e t : ℕ) : Type 0 where
    pub edge : Edge e
    pub start : lo e ≤ t
    pub stop : t + 1 + hi e < n e
    pub even : (n e - hi e - t) % 2 ≡ 0

  pub pair_lower : {e t : ℕ} → Pair e t → Segment ab ac bc e t e (t + 1)
  pair_lower {e} {t} p = face_up (corners-of ab ac bc p.edge) t p.start (omega (arith, p.stop)) p.even

  pub pair_upper : {e t : ℕ} → Pair e t → Segment ab ac bc e (t + 1) e t
  pair_upper {e} {t} p =
      let b : t + 1 - 1 ≡ t = omega arith in
      let r = p.stop in
      let s = p.start in
      let h = p.even in
      face_down (corners-of ab ac bc p.edge) (t + 1) (omega arith) r (omega arith) (omega arith) ∙ ap (joined e) b

  -- where a crossing stands
  pub data Case (e t : ℕ) : Type 0 where
    around : {w : ℕ} (k : ℕ) → End w e → k < corner_count_at ab ac bc w e → t ≡ kth ab ac bc w e k → Case e t
    lower-of : Pair e t → Case e t
    upper_of : (s : ℕ) → Pair e s → t ≡ s + 1 → Case e t
    alone : t ≡ lo e → gap ab ac bc e % 2 ≡ 1 → Case e t

  between : {e : ℕ} (t : ℕ) → Edge e → lo e ≤ t → t + hi e < n e → Case e t
  between {e} t d h k =
      elim (ℕ_discrete ((n e - hi e - t) % 2) 0) [
        | yes z ↦ lower-of (record { edge = d; start = h; stop = omega arith; even = z })
        | no z ↦ elim (ℕ_discrete t (lo e)) [
          | yes s ↦ alone s (omega arith)
          | no s ↦ upper_of (t - 1) (record { edge = d; start = omega arith; stop = omega arith; even = omega arith }) (omega arith)
        ]
      ]

  pub case_of : (e t : ℕ) → t < n e → Case e t
  case_of e t h =
      let d = edge_with ab ac bc e t h in
      elim (dec_lt t (lo e)) [
        | yes k ↦ around t (low d) k (sym (kth_lower ab ac bc e t))
        | no k ↦ elim (dec_lt (t + hi e) (n e)) [
          | yes l ↦ between t d (omega arith) l
          | no l ↦ around (n e - 1 - t) (high d) (omega (arith, corner_room ab ac bc d)) (sym (kth_upper ab ac bc (n e - 1 - t) d ∙ omega arith))
        ]
      ]

  -- the one crossing that an odd number between the corners leaves
  pub alone_unjoined : {e : ℕ} → Edge e → gap ab ac bc e % 2 ≡ 1 → face_join ab ac bc e (lo e) ≡ unjoined
  alone_unjoined {e} d g = face_skip (corners-of ab ac bc d) (lo e) (omega arith) (omega arith) (omega arith) refl

  -- a crossing of the face is joined, or it is that one
  pub record Alone (e t : ℕ) : Type 0 where
    pub is : face_join ab ac bc e t ≡ unjoined
    pub first : t ≡ lo e
    pub odd : gap ab ac bc e % 2 ≡ 1

  pub answer : (e t : ℕ) → t < n e → ((e' : ℕ) × (t' : ℕ) × Segment ab ac bc e t e' t') ⊎ Alone e t
  answer e t h = go (case_of e t h)
    where
      go : Case e t → ((e' : ℕ) × (t' : ℕ) × Segment ab ac bc e t e' t') ⊎ Alone e t
      go (around {w = w} k d l p) = inl (other w e, kth ab ac bc w (other w e) k, rw p (at_corner k d l))
      go (lower-of p) = inl (e, t + 1, pair_lower p)
      go (upper_of s p q) = inl (e, s, rw q (pair_upper p))
      go (alone q g) = inr (record { is = rw q (alone_unjoined (edge_with ab ac bc e t h) g); first = q; odd = g })

  -- a segment, by where its ends stand
  pub data Link (e t e' t' : ℕ) : Type 0 where
    about : {w : ℕ} (k : ℕ) → End w e → k < corner_count_at ab ac bc w e → t ≡ kth ab ac bc w e k → e' ≡ other w e → t' ≡ kth ab ac bc w e' k → Link e t e' t'
    up : Pair e t → e' ≡ e → t' ≡ t + 1 → Link e t e' t'
    down : Pair e t' → e' ≡ e → t ≡ t' + 1 → Link e t e' t'

  pub joins : {e t e' t' : ℕ} → Link e t e' t' → Segment ab ac bc e t e' t'
  joins (about k d h p q r) = cc (at_corner k d h)
  joins (up d p q) = cc (pair_lower d)
  joins (down d p q) = cc (pair_upper d)

  pub flip : {e t e' t' : ℕ} → Link e t e' t' → Link e' t' e t
  flip (about {w = w} k d h p q r) =
      about {w = w} k (rw q (end_other d)) (rw q (rw (corner_other ab ac bc d) h)) r (rw q (sym (other_other d))) p
  flip (up d p q) = down (rw p d) (sym p) q
  flip (down d p q) = up (rw p d) (sym p) q

  pub link : {e t e' t' : ℕ} → Segment ab ac bc e t e' t' → Link e t e' t'
  link {e} {t} {e'} {t'} j =
      elim (dec_lt t (n e)) [
        | yes h ↦ go (case_of e t h)
        | no h ↦ absurd (joined_none j (face_off ab ac bc e t (omega arith)))
      ]
    where
      go : Case e t → Link e t e' t'
      go (around k d h p) = let a = at_corner k d h in about k d h p (cc) (cc)
      go (lower-of p) = let a = pair_lower p in up p (cc) (cc)
      go (upper_of s p q) =
          let a = pair_upper p in
          let r : s ≡ t' = cc in
          down (rw r at p) (cc) (q ∙ ap (λ (m : ℕ). m + 1) r)
      go (alone q g) = absurd (joined_unjoined j (rw q (alone_unjoined (edge_with ab ac bc e t (omega arith)) g)))
