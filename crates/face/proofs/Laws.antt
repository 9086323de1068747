-- The laws of a face, for all counts.
use Prim.Native.Nat.{ℕ, ◌+◌, ◌%◌, ◌<◌, ◌≤◌}
use mathlib.Core.Path.{◌≡◌, sym, ◌∙◌}
use mathlib.Core.Logic.{◌⊎◌, inl, inr}
use native.Mathlib.Omega.{arith}
use native.Mathlib.Decide.{dec_lt}
use Rattle.face.specs.claims.Claims.{unjoined}
use Rattle.face.specs.Face.{no_crossing, count_on, others, face_join}
use Rattle.face.specs.claims.Ends.{Edge}
use Rattle.face.specs.Rim.{Segment}
use Rattle.face.proofs.Ends.{edge_with, no_edge, other_differs, all_three}
use Rattle.face.proofs.Gaps.{gap, gap_long, gap_level}
use Rattle.face.proofs.Branches.{face_off}
use Rattle.face.proofs.Answers.{joined_unjoined, joined_none, unjoined_none}
use Rattle.face.proofs.Links.{Alone, answer, Link, about, up, down, joins, flip, link}

module _ (ab ac bc : ℕ) where
  -- only a crossing of the face is joined or unjoined
  pub there_joined : (e t e' t' : ℕ) → Segment ab ac bc e t e' t' → t < count_on ab ac bc e
  there_joined e t e' t' j =
      elim (dec_lt t (count_on ab ac bc e)) [
        | yes h ↦ h
        | no h ↦ absurd (joined_none j (face_off ab ac bc e t (omega arith)))
      ]

  pub there_unjoined : (e t : ℕ) → face_join ab ac bc e t ≡ unjoined → t < count_on ab ac bc e
  there_unjoined e t u =
      elim (dec_lt t (count_on ab ac bc e)) [
        | yes h ↦ h
        | no h ↦ absurd (unjoined_none u (face_off ab ac bc e t (omega arith)))
      ]

  pub symmetric : (e t e' t' : ℕ) → Segment ab ac bc e t e' t' → Segment ab ac bc e' t' e t
  symmetric e t e' t' j = joins ab ac bc (flip ab ac bc (link ab ac bc j))

  pub partner_there : (e t e' t' : ℕ) → Segment ab ac bc e t e' t' → t' < count_on ab ac bc e'
  partner_there e t e' t' j = there_joined e' t' e t (symmetric e t e' t' j)

  apart : {e t e' t' : ℕ} → Link ab ac bc e t e' t' → e ≡ e' → t ≡ t' → ⊥
  apart (about k d h p q r) f g = other_differs d (sym (f ∙ q))
  apart (up d p q) f g = omega arith
  apart (down d p q) f g = omega arith

  pub partner_differs : (e t e' t' : ℕ) → Segment ab ac bc e t e' t' → (e ≡ e') × (t ≡ t') → ⊥
  partner_differs e t e' t' j q = apart (link ab ac bc j) q.0 q.1

  -- a crossing of the face is joined or unjoined
  pub joined_or : (e t : ℕ) → t < count_on ab ac bc e → ((e' : ℕ) × (t' : ℕ) × Segment ab ac bc e t e' t') ⊎ (face_join ab ac bc e t ≡ unjoined)
  joined_or e t h =
      elim (answer ab ac bc e t h) [
        | inl j ↦ inl j
        | inr a ↦ inr a.is
      ]

  pub a_crossing : (e t : ℕ) → t < count_on ab ac bc e → face_join ab ac bc e t ≡ no_crossing → ⊥
  a_crossing e t h u =
      elim (joined_or e t h) [
        | inl j ↦ joined_none j.2 u
        | inr a ↦ unjoined_none a u
      ]

  -- an unjoined one is the first between the corners of its edge, which leave an odd number
  pub unjoined_alone : (e t : ℕ) → face_join ab ac bc e t ≡ unjoined → Alone ab ac bc e t
  unjoined_alone e t u =
      elim (answer ab ac bc e t (there_unjoined e t u)) [
        | inl j ↦ absurd (joined_unjoined j.2 u)
        | inr a ↦ a
      ]

  pub is_off : (e t : ℕ) → (2 < e) ⊎ (count_on ab ac bc e ≤ t) → face_join ab ac bc e t ≡ no_crossing
  is_off e t (inl h) = face_off ab ac bc e t (omega (arith, no_edge ab ac bc e h))
  is_off e t (inr h) = face_off ab ac bc e t h

  pub off_only : (e t : ℕ) → face_join ab ac bc e t ≡ no_crossing → (2 < e) ⊎ (count_on ab ac bc e ≤ t)
  off_only e t u =
      elim (dec_lt t (count_on ab ac bc e)) [
        | yes h ↦ absurd (a_crossing e t h u)
        | no h ↦ inr (omega arith)
      ]

  -- an even sum leaves an even number of crossings between the corners of an edge, and so none unjoined
  pub even_gap : (ab + ac + bc) % 2 ≡ 0 → {e : ℕ} → Edge e → gap ab ac bc e % 2 ≡ 0
  unfolding others
  even_gap z {e} d =
      elim (dec_lt (others ab ac bc e) (count_on ab ac bc e)) [
        | yes h ↦ omega (arith, gap_long ab ac bc d h, all_three ab ac bc d)
        | no h ↦ elim (gap_level ab ac bc d (omega arith)) [
          | inl q ↦ omega arith
          | inr q ↦ absurd (omega arith)
        ]
      ]

  pub even_joined : (ab + ac + bc) % 2 ≡ 0 → (e t : ℕ) → face_join ab ac bc e t ≡ unjoined → ⊥
  even_joined z e t u =
      omega (arith, (unjoined_alone e t u).odd, even_gap z (edge_with ab ac bc e t (there_unjoined e t u)))
