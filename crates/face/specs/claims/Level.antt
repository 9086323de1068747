-- Rule 1 (01) alone: what follows for a face with an even sum of counts and none above the other two, also with corner segments taken off. Stated
-- for cells whose four faces are such (02, W9 and W12).
use Rattle.std.specs.Prelude.{ℕ, ◌+◌, ◌-◌, ◌%◌, ◌<◌, ◌≤◌, ◌≡◌, ◌≢◌}
use Rattle.slots.specs.Slots.{lower, upper}
use Rattle.face.specs.Face.{other, count_on, kth, corner_count_at}
use Rattle.face.specs.claims.Ends.{Edge, End}
use Rattle.face.specs.Rim.{Segment}

-- three counts, in any order: an even sum, and none above the other two
pub record Level (p q o : ℕ) : Type 0 where
  pub even : (p + q + o) % 2 ≡ 0
  pub first : p ≤ q + o
  pub second : q ≤ p + o
  pub third : o ≤ p + q

pub record LevelLaws (ab ac bc : ℕ) : Type 0 where
  -- the corners of an edge leave nothing between them
  pub full : (e : ℕ) → Edge e → corner_count_at ab ac bc (lower e) e + corner_count_at ab ac bc (upper e) e ≡ count_on ab ac bc e
  -- every crossing is joined, and round a corner
  pub joined : (e t : ℕ) → t < count_on ab ac bc e → (e' : ℕ) × (t' : ℕ) × Segment ab ac bc e t e' t'
  pub turns : (e t e' t' : ℕ) → Segment ab ac bc e t e' t' → e ≢ e'

-- Corner segments taken off such a face, `off w` of them at the node w. Of each edge a range of its crossings remains.
module _ (ab ac bc : ℕ) (off : ℕ → ℕ) where
  -- the remaining count of edge e
  unfoldable pub less : ℕ → ℕ
  less e = count_on ab ac bc e - off (lower e) - off (upper e)

  -- crossing t of edge e remains
  pub record Remains (e t : ℕ) : Type 0 where
    pub low : off (lower e) ≤ t
    pub high : t + off (upper e) < count_on ab ac bc e

  pub record ShiftLaws : Type 0 where
    -- rule 1 again; each corner count is less by what was taken off there
    pub level : Level (less 0) (less 1) (less 2)
    pub corner : (w e : ℕ) → End w e → corner_count_at (less 0) (less 1) (less 2) w e + off w ≡ corner_count_at ab ac bc w e
    -- what is joined over the remaining counts is joined over all
    pub kept : (e t e' t' : ℕ) → Segment (less 0) (less 1) (less 2) e t e' t' → Segment ab ac bc e (off (lower e) + t) e' (off (lower e') + t')
    -- a crossing that remains is joined to one that remains, and over the remaining counts too
    pub back : (e t e' t' : ℕ) → Remains e t → Segment ab ac bc e t e' t'
        → Remains e' t' × Segment (less 0) (less 1) (less 2) e (t - off (lower e)) e' (t' - off (lower e'))
    -- those that are taken off are joined to each other: the k-th from a node w, for k below `off w`
    pub gone : (w e k : ℕ) → End w e → k < off w → Segment ab ac bc e (kth ab ac bc w e k) (other w e) (kth ab ac bc w (other w e) k)
