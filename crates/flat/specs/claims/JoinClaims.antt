-- What is proved of the segments of a triangle of a flat grid, for all counts.
use Rattle.std.specs.Prelude.{ℕ, ◌+◌, ◌%◌, ◌<◌, ◌≤◌, ◌≡◌, ◌⊎◌, true, false}
use Rattle.face.specs.Face.{joined, round, left, joined_by, unjoined_by, no_crossing, bare, other, count_on, kth, face_answer, face_join}
use Rattle.flat.specs.Join.{flat_join, rule_two, largest_edge, flat_corner_at, triangle_answer}
use Rattle.face.specs.claims.Claims.{unjoined}
use Rattle.slots.specs.Slots.{lower}
use Rattle.face.specs.claims.Ends.{End}

module _ (ab ac bc : ℕ) where
  -- crossing t of edge e is joined to crossing t' of edge e'
  abbrev pub FlatSegment : ℕ → ℕ → ℕ → ℕ → Type 0
  FlatSegment e t e' t' = flat_join ab ac bc e t ≡ joined e' t'

pub record FlatLaws (ab ac bc : ℕ) : Type 0 where
  -- where rule 2 has no part, the segments are those of 01
  pub as_before : rule_two ab ac bc ≡ false → (e t : ℕ) → flat_join ab ac bc e t ≡ face_join ab ac bc e t
  -- at a corner, the k-th crossings from it on its two edges are joined, for each k below the corner count
  pub corner : (w e k : ℕ) → End w e → k < flat_corner_at ab ac bc w e → FlatSegment ab ac bc e (kth ab ac bc w e k) (other w e) (kth ab ac bc w (other w e) k)
  -- rule 2 leaves a crossing of the edge with the largest count: the one after those of its lower corner
  pub left : rule_two ab ac bc ≡ true → flat_join ab ac bc (largest_edge ab ac bc) (flat_corner_at ab ac bc (lower (largest_edge ab ac bc)) (largest_edge ab ac bc)) ≡ unjoined
  -- the ends of a segment are crossings of the triangle, and two of them
  pub there : (e t e' t' : ℕ) → FlatSegment ab ac bc e t e' t' → (t < count_on ab ac bc e) × (t' < count_on ab ac bc e')
  pub another : (e t e' t' : ℕ) → FlatSegment ab ac bc e t e' t' → (e ≡ e') × (t ≡ t') → ⊥
  -- the partner has the first as its partner: so no two segments share a crossing
  pub back : (e t e' t' : ℕ) → FlatSegment ab ac bc e t e' t' → FlatSegment ab ac bc e' t' e t
  -- no crossing: an edge over 2, or an index not below the count of its edge, and these only
  pub off : (e t : ℕ) → (2 < e) ⊎ (count_on ab ac bc e ≤ t) → flat_join ab ac bc e t ≡ no_crossing
  pub only_off : (e t : ℕ) → flat_join ab ac bc e t ≡ no_crossing → (2 < e) ⊎ (count_on ab ac bc e ≤ t)
  -- a crossing of the triangle is joined or unjoined, and not both
  pub cases : (e t : ℕ) → t < count_on ab ac bc e → ((e' : ℕ) × (t' : ℕ) × FlatSegment ab ac bc e t e' t') ⊎ (flat_join ab ac bc e t ≡ unjoined)
  pub not_both : (e t e' t' : ℕ) → FlatSegment ab ac bc e t e' t' → flat_join ab ac bc e t ≡ unjoined → ⊥
  -- no more than one crossing is left unjoined; none for an even sum, and one for an odd
  pub single : (e t e' t' : ℕ) → flat_join ab ac bc e t ≡ unjoined → flat_join ab ac bc e' t' ≡ unjoined → (e ≡ e') × (t ≡ t')
  pub even : (ab + ac + bc) % 2 ≡ 0 → (e t : ℕ) → flat_join ab ac bc e t ≡ unjoined → ⊥
  pub odd : (ab + ac + bc) % 2 ≡ 1 → (e : ℕ) × (t : ℕ) × (flat_join ab ac bc e t ≡ unjoined)

-- how and why (02, W10)
pub record FlatReasons (ab ac bc : ℕ) : Type 0 where
  -- what a crossing is joined to is the answer without how and why
  pub without : (e t : ℕ) → flat_join ab ac bc e t ≡ bare (triangle_answer ab ac bc e t)
  -- where rule 2 has no part, the answers are those of the face call
  pub as_before : rule_two ab ac bc ≡ false → (e t : ℕ) → triangle_answer ab ac bc e t ≡ face_answer ab ac bc e t
  -- at a corner a crossing tells the corner, in every rule
  pub corner : (w e k : ℕ) → End w e → k < flat_corner_at ab ac bc w e
      → triangle_answer ab ac bc e (kth ab ac bc w e k) ≡ joined_by (other w e) (kth ab ac bc w (other w e) k) (round w)
  -- left: exactly in rule 2, and there the crossing that is unjoined
  pub left_rule : (e t : ℕ) → triangle_answer ab ac bc e t ≡ unjoined_by left → rule_two ab ac bc ≡ true
  pub rule_left : rule_two ab ac bc ≡ true → (e t : ℕ) → flat_join ab ac bc e t ≡ unjoined → triangle_answer ab ac bc e t ≡ unjoined_by left
