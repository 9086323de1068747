-- A complex whose pieces share whole faces: a second way to meet the premises of `Complex`.
use Rattle.std.specs.Prelude.{ℕ, ◌*◌, ◌<◌, ◌≡◌, ◌≢◌}
use Rattle.walk.specs.Darts.{half}
use Rattle.manifold.specs.claims.Piece.{Local, Piece, slot_of, mate_of}
use Rattle.manifold.specs.claims.Complex.{Complex, Has}

-- the dart of B in its slot s that is at the crossing of the dart d of A, and is joined where d is, to the same crossing
pub record Match (A B : Local) (s d : ℕ) : Type 0 where
  pub e : ℕ
  pub lt : e < 2 * B.N
  pub slot : slot_of B e ≡ s
  pub point : B.number (half e) ≡ A.number (half d)
  pub mate : mate_of A d < A.N → (mate_of B e < B.N) × (B.number (mate_of B e) ≡ A.number (mate_of A d))

-- a face is in at most two pieces, and these agree on it
pub record Faced (K : Complex) : Type 0 where
  pub piece : (c : ℕ) → c < K.pieces → Piece (K.at c)
  pub tags : (a b : ℕ) → a < K.pieces → b < K.pieces → K.tag a ≡ K.tag b → a ≡ b
  pub few : (a b c r s t : ℕ) → a < K.pieces → b < K.pieces → c < K.pieces → r < (K.at a).slots → s < (K.at b).slots → t < (K.at c).slots
      → (K.at a).name r ≡ (K.at b).name s → (K.at a).name r ≡ (K.at c).name t → a ≢ b → a ≢ c → b ≢ c → ⊥
  pub agree : (a b s d : ℕ) → a < K.pieces → b < K.pieces → s < (K.at b).slots → d < 2 * (K.at a).N
      → (K.at a).name (slot_of (K.at a) d) ≡ (K.at b).name s → Match (K.at a) (K.at b) s d

-- each crossing is joined on both of its faces, and each face with a crossing is in a second piece
pub record FacesShut (K : Complex) : Type 0 where
  pub full : (c d : ℕ) → c < K.pieces → d < 2 * (K.at c).N → mate_of (K.at c) d < (K.at c).N
  pub paired : (c d : ℕ) → c < K.pieces → d < 2 * (K.at c).N
      → (b : ℕ) × (b < K.pieces) × (b ≢ c) × (s : ℕ) × (s < (K.at b).slots) × ((K.at c).name (slot_of (K.at c) d) ≡ (K.at b).name s)

-- the pieces a and b share a face on which g lies
pub record SharesFace (K : Complex) (g a b : ℕ) : Type 0 where
  pub a_lt : a < K.pieces
  pub b_lt : b < K.pieces
  pub d : ℕ
  pub d_lt : d < 2 * (K.at a).N
  pub at_d : (K.at a).number (half d) ≡ g
  pub s : ℕ
  pub s_lt : s < (K.at b).slots
  pub face : (K.at a).name (slot_of (K.at a) d) ≡ (K.at b).name s

-- the pieces with g are all linked through faces on which it lies
abbrev pub FacesLinked : Complex → ℕ → Type 1
FacesLinked K g = (Q : ℕ → Type 0) → ((a b : ℕ) → SharesFace K g a b → Q a → Q b) → (a b : ℕ) → Has K g a → Has K g b → Q a → Q b
