-- What is proved of the face call, for all counts.
use Rattle.std.specs.Prelude.{ℕ, ◌+◌, ◌-◌, ◌*◌, ◌%◌, ◌<◌, ◌≤◌, List, [], ◌∷◌, ◌≡◌, ◌⊎◌}
use Rattle.face.specs.declared.Join.{Join}
use Rattle.face.specs.Face.{round, along, left, skipped, joined_by, unjoined_by, no_crossing, bare, other, count_on, others, kth, corner_count_at, face_answer, face_join}
use Rattle.slots.specs.Slots.{lower}
use Rattle.face.specs.Join.{join_numbers}
use Rattle.face.specs.claims.Ends.{End}
use Rattle.face.specs.Rim.{rim, Segment, Alternate}
use Rattle.face.specs.claims.Tally.{segments, unjoined_count}

-- the answer of 01 for an unjoined crossing, without why
abbrev pub unjoined : List ℕ
unjoined = 1 ∷ []

-- the reading of the answer in numbers is one to one, so that the numbers determine the enum
abbrev pub OneToOne : Type 0
OneToOne = (j k : Join) → join_numbers j ≡ join_numbers k → j ≡ k

pub record FaceLaws (ab ac bc : ℕ) : Type 0 where
  -- at a corner, the k-th crossings from it on its two edges are joined, for each k below the corner count
  pub corner : (w e k : ℕ) → End w e → k < corner_count_at ab ac bc w e →
      Segment ab ac bc e (kth ab ac bc w e k) (other w e) (kth ab ac bc w (other w e) k)
  -- the ends of a segment are crossings of the face
  pub there : (e t e' t' : ℕ) → Segment ab ac bc e t e' t' → (t < count_on ab ac bc e) × (t' < count_on ab ac bc e')
  -- the partner of a crossing is another crossing
  pub another : (e t e' t' : ℕ) → Segment ab ac bc e t e' t' → (e ≡ e') × (t ≡ t') → ⊥
  -- the partner has the first as its partner
  pub back : (e t e' t' : ℕ) → Segment ab ac bc e t e' t' → Segment ab ac bc e' t' e t
  -- no crossing: an edge over 2, or an index not below the count of its edge, and these only
  pub off : (e t : ℕ) → (2 < e) ⊎ (count_on ab ac bc e ≤ t) → face_join ab ac bc e t ≡ no_crossing
  pub only_off : (e t : ℕ) → face_join ab ac bc e t ≡ no_crossing → (2 < e) ⊎ (count_on ab ac bc e ≤ t)
  -- a crossing of the face is joined or unjoined, and not both
  pub cases : (e t : ℕ) → t < count_on ab ac bc e →
      ((e' : ℕ) × (t' : ℕ) × Segment ab ac bc e t e' t') ⊎ (face_join ab ac bc e t ≡ unjoined)
  pub not_both : (e t e' t' : ℕ) → Segment ab ac bc e t e' t' → face_join ab ac bc e t ≡ unjoined → ⊥
  -- an even sum leaves no crossing unjoined
  pub even : (ab + ac + bc) % 2 ≡ 0 → (e t : ℕ) → face_join ab ac bc e t ≡ unjoined → ⊥
  -- the crossings are the two ends of each segment and those that are unjoined
  pub sum : ab + ac + bc ≡ 2 * segments ab ac bc + unjoined_count ab ac bc
  -- the unjoined crossings: none for an even sum, three in rule 2, and in rule 3 one if r is odd, else none
  pub unjoined_even : (ab + ac + bc) % 2 ≡ 0 → unjoined_count ab ac bc ≡ 0
  pub unjoined_odd : (ab + ac + bc) % 2 ≡ 1 → ((e : ℕ) → count_on ab ac bc e ≤ others ab ac bc e) → unjoined_count ab ac bc ≡ 3
  pub unjoined_long : (e : ℕ) → others ab ac bc e < count_on ab ac bc e → unjoined_count ab ac bc ≡ (count_on ab ac bc e - others ab ac bc e) % 2
  -- a walk round the rim meets each crossing of the face at a place of its own
  pub rim_within : (e t : ℕ) → t < count_on ab ac bc e → rim ab ac bc e t < ab + ac + bc
  pub rim_once : (e t e' t' : ℕ) → t < count_on ab ac bc e → t' < count_on ab ac bc e' → rim ab ac bc e t ≡ rim ab ac bc e' t' → (e ≡ e') × (t ≡ t')
  -- no two segments alternate
  pub no_alternation : (e t e' t' u i u' i' : ℕ) → Segment ab ac bc e t e' t' → Segment ab ac bc u i u' i' → Alternate ab ac bc e t e' t' u i u' i' → ⊥

-- how and why (02, W10)
pub record ReasonLaws (ab ac bc : ℕ) : Type 0 where
  -- what a crossing is joined to is the face call's answer without how and why
  pub without : (e t : ℕ) → face_join ab ac bc e t ≡ bare (face_answer ab ac bc e t)
  -- a joined crossing tells how, an unjoined one why
  pub how : (e t e' t' : ℕ) → Segment ab ac bc e t e' t' →
      ((w : ℕ) × (face_answer ab ac bc e t ≡ joined_by e' t' (round w))) ⊎ (face_answer ab ac bc e t ≡ joined_by e' t' along)
  pub why : (e t : ℕ) → face_join ab ac bc e t ≡ unjoined → (face_answer ab ac bc e t ≡ unjoined_by left) ⊎ (face_answer ab ac bc e t ≡ unjoined_by skipped)
  -- round a corner: both ends tell the same node, which is an end of both edges, and from which both are the k-th, k below its corner count
  pub round_back : (e t e' t' w : ℕ) → face_answer ab ac bc e t ≡ joined_by e' t' (round w) → face_answer ab ac bc e' t' ≡ joined_by e t (round w)
  pub round_ends : (e t e' t' w : ℕ) → face_answer ab ac bc e t ≡ joined_by e' t' (round w) → End w e × End w e'
  pub round_rank : (e t e' t' w : ℕ) → face_answer ab ac bc e t ≡ joined_by e' t' (round w) →
      (k : ℕ) × (k < corner_count_at ab ac bc w e) × (t ≡ kth ab ac bc w e k) × (t' ≡ kth ab ac bc w e' k)
  -- along an edge: exactly where both ends are on one
  pub along_one : (e t e' t' : ℕ) → face_answer ab ac bc e t ≡ joined_by e' t' along → e ≡ e'
  pub one_along : (e t e' t' : ℕ) → Segment ab ac bc e t e' t' → e ≡ e' → face_answer ab ac bc e t ≡ joined_by e' t' along
  -- skipped: exactly the first residual in rule 3 where these are odd in number
  pub skipped_odd : (e t : ℕ) → face_answer ab ac bc e t ≡ unjoined_by skipped →
      (others ab ac bc e < count_on ab ac bc e) × ((count_on ab ac bc e - others ab ac bc e) % 2 ≡ 1) × (t ≡ count_on ab ac bc (other (lower e) e))
  pub odd_skipped : (e : ℕ) → others ab ac bc e < count_on ab ac bc e → (count_on ab ac bc e - others ab ac bc e) % 2 ≡ 1 →
      face_answer ab ac bc e (count_on ab ac bc (other (lower e) e)) ≡ unjoined_by skipped
  -- left: exactly in rule 2, on each edge the one crossing between its corners
  pub left_rule : (e t : ℕ) → face_answer ab ac bc e t ≡ unjoined_by left →
      ((ab + ac + bc) % 2 ≡ 1) × ((u : ℕ) → count_on ab ac bc u ≤ others ab ac bc u) × (t ≡ corner_count_at ab ac bc (lower e) e)
  pub rule_left : (ab + ac + bc) % 2 ≡ 1 → ((u : ℕ) → count_on ab ac bc u ≤ others ab ac bc u) → (e : ℕ) → e < 3 →
      face_answer ab ac bc e (corner_count_at ab ac bc (lower e) e) ≡ unjoined_by left
