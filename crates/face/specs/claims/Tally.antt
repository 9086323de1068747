-- How many segments and how many unjoined crossings a face has.
-- Its crossings are numbered from 0, by edge and then by index.
use Rattle.std.specs.Prelude.{ℕ, ◌+◌, Bool, List, eqb, get_or}
use Rattle.counting.specs.Search.{count as passing}
use Rattle.counting.specs.claims.Lists.{rise}
use Rattle.counting.specs.Lists.{pre}
use Rattle.counting.specs.Pack.{row, col}
use Rattle.face.specs.Face.{count_on, face_join}

abbrev pub face_edges : ℕ
face_edges = 3

module _ (ab ac bc : ℕ) where
  -- the answer of the face call for the crossing x, without how and why
  unfoldable pub join_of : ℕ → List ℕ
  join_of x = face_join ab ac bc (row (count_on ab ac bc) face_edges x) (col (count_on ab ac bc) face_edges x)

  -- by the first number of the answer
  abbrev pub is_joined : ℕ → Bool
  is_joined x = eqb (get_or (join_of x) 0 0) 0

  abbrev pub is_unjoined : ℕ → Bool
  is_unjoined x = eqb (get_or (join_of x) 0 0) 1

  -- the number of the partner of a joined crossing
  abbrev pub partner_of : ℕ → ℕ
  partner_of x = pre (count_on ab ac bc) (get_or (join_of x) 1 0) + get_or (join_of x) 2 0

  -- the segments, each counted at its lower end
  unfoldable pub segments : ℕ
  segments = passing (rise is_joined partner_of) (ab + ac + bc)

  unfoldable pub unjoined_count : ℕ
  unjoined_count = passing is_unjoined (ab + ac + bc)
