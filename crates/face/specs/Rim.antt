-- The segments of a face round its rim, and which alternate (01).
use Rattle.std.specs.Prelude.{ℕ, ◌+◌, ◌-◌, ◌<◌, ◌≡◌, ◌⊎◌, eqb}
use Rattle.counting.specs.Pick.{pick}
use Rattle.face.specs.Face.{joined, face_join}

-- a walk meets ends of two segments in turn, at the places p < q < r < s: p and r are ends of the first, q and s of the second;
-- a segment is given by the places of its ends
pub record InTurn (first second : ℕ → Type 0) : Type 0 where
  pub p : ℕ
  pub q : ℕ
  pub r : ℕ
  pub s : ℕ
  pub of_first : first p
  pub of_second : second q
  pub of_first_again : first r
  pub of_second_again : second s
  pub p_q : p < q
  pub q_r : q < r
  pub r_s : r < s

module _ (ab ac bc : ℕ) where
  -- the place of the crossing t of the edge e on a walk once round the rim a, b, c, a: up ab, up bc, down ac
  unfoldable pub rim : ℕ → ℕ → ℕ
  rim e t = pick (eqb e 0) t (pick (eqb e 2) (ab + t) (ab + bc + (ac - 1 - t)))

  -- the crossing t of the edge e is joined to the crossing t' of the edge e'
  abbrev pub Segment : ℕ → ℕ → ℕ → ℕ → Type 0
  Segment e t e' t' = face_join ab ac bc e t ≡ joined e' t'

  -- x is the place of an end of the segment from t on e to t' on e'
  abbrev pub EndAt : ℕ → ℕ → ℕ → ℕ → ℕ → Type 0
  EndAt e t e' t' x = (x ≡ rim e t) ⊎ (x ≡ rim e' t')

  -- the segment from t on e to t' on e' and that from i on u to i' on u' alternate, whichever is called first
  abbrev pub Alternate : ℕ → ℕ → ℕ → ℕ → ℕ → ℕ → ℕ → ℕ → Type 0
  Alternate e t e' t' u i u' i' =
      InTurn (EndAt e t e' t') (EndAt u i u' i') ⊎ InTurn (EndAt u i u' i') (EndAt e t e' t')
