-- A complex of pieces that share segments, and its mesh.
use Rattle.std.specs.Prelude.{ℕ, ◌*◌, ◌<◌, ◌≡◌, ◌⊎◌, ◌≢◌, Bool, List}
use Rattle.counting.specs.Lists.{over}
use Rattle.walk.specs.Darts.{half, rev, Loop}
use Rattle.manifold.specs.claims.Plain.{Tri}
use Rattle.manifold.specs.claims.Polygon.{Polygon, triangles}
use Rattle.manifold.specs.claims.Piece.{Local, Piece, slot_of, mate_of, lower_of, segment_of, onward, dart, size_of}

-- its pieces are numbered
pub record Complex : Type 0 where
  pub pieces : ℕ
  pub at : ℕ → Local
  -- what the middles and the inner sides of a piece go by
  pub tag : ℕ → ℕ
  -- whether the loop of a piece from p is normal
  pub normal : ℕ → ℕ → Bool

module _ (K : Complex) where
  -- the loop of piece c from its crossing p
  abbrev pub loop_of : ℕ → ℕ → Polygon
  loop_of c p = record {
    cell = K.tag c;
    p0 = (K.at c).number p;
    n = size_of (K.at c) p;
    point = λ k. (K.at c).number (half (dart (K.at c) p k));
    face = λ k. (K.at c).name (slot_of (K.at c) (dart (K.at c) p k));
    lower = λ k. lower_of (K.at c) (dart (K.at c) p k);
    normal = K.normal c p;
  }

  -- all triangles, by piece and then by loop; a p that starts no loop has size 0 and gives none
  unfoldable pub mesh : List Tri
  mesh = over (λ c. over (λ p. triangles (loop_of c p)) (K.at c).N 0) K.pieces 0

-- the dart d of the piece A is joined: it has a segment
pub record Joins (A : Local) (d : ℕ) : Type 0 where
  pub lt : d < 2 * A.N
  pub joined : mate_of A d < A.N

-- the segments of two darts have the same ends
abbrev pub SameEnds : Local → ℕ → Local → ℕ → Type 0
SameEnds A d B e =
    ((A.number (half d) ≡ B.number (half e)) × (A.number (mate_of A d) ≡ B.number (mate_of B e)))
    ⊎ ((A.number (half d) ≡ B.number (mate_of B e)) × (A.number (mate_of A d) ≡ B.number (half e)))

-- what is asked of every complex
pub record Lawful (K : Complex) : Type 0 where
  pub piece : (c : ℕ) → c < K.pieces → Piece (K.at c)
  pub tags : (a b : ℕ) → a < K.pieces → b < K.pieces → K.tag a ≡ K.tag b → a ≡ b
  -- a segment is in at most two pieces
  pub few : (a b c d e f : ℕ) → a < K.pieces → b < K.pieces → c < K.pieces → Joins (K.at a) d → Joins (K.at b) e → Joins (K.at c) f
      → segment_of (K.at a) d ≡ segment_of (K.at b) e → segment_of (K.at a) d ≡ segment_of (K.at c) f → a ≢ b → a ≢ c → b ≢ c → ⊥
  -- and its name tells its ends
  pub ends : (a b d e : ℕ) → a < K.pieces → b < K.pieces → Joins (K.at a) d → Joins (K.at b) e
      → segment_of (K.at a) d ≡ segment_of (K.at b) e → SameEnds (K.at a) d (K.at b) e

-- the curve of the dart d closes in the piece A: from d the walk comes back to d
abbrev pub Closes : Local → ℕ → Type 0
Closes A d = (k : ℕ) × Loop (2 * A.N) (onward A) d k

-- no curve ends in the piece A: a crossing is joined on both of its faces, or on neither
abbrev pub Whole : Local → Type 0
Whole A = (d : ℕ) → Joins A (rev d) → d < 2 * A.N → mate_of A d < A.N

-- nothing is left open: no curve ends in a piece, and each segment is in a second piece
pub record Shut (K : Complex) : Type 0 where
  pub full : (c : ℕ) → c < K.pieces → Whole (K.at c)
  pub paired : (c d : ℕ) → c < K.pieces → Joins (K.at c) d
      → (b : ℕ) × (b < K.pieces) × (b ≢ c) × (e : ℕ) × Joins (K.at b) e × (segment_of (K.at b) e ≡ segment_of (K.at c) d)

-- the piece c has a segment that ends at the crossing g
pub record Has (K : Complex) (g c : ℕ) : Type 0 where
  pub lt : c < K.pieces
  pub d : ℕ
  pub on : Joins (K.at c) d
  pub is : (K.at c).number (half d) ≡ g

-- the pieces A and B share a segment that ends at g
pub record Shares (A B : Local) (g : ℕ) : Type 0 where
  pub d : ℕ
  pub e : ℕ
  pub d_on : Joins A d
  pub e_on : Joins B e
  pub at_d : A.number (half d) ≡ g
  pub at_e : B.number (half e) ≡ g
  pub same : segment_of A d ≡ segment_of B e

-- the pieces with g are all linked through segments that end there: what holds of one of them and passes over these segments holds of all
abbrev pub LinkedAt : Complex → ℕ → Type 1
LinkedAt K g =
    (Q : ℕ → Type 0) → ((a b : ℕ) → a < K.pieces → b < K.pieces → Shares (K.at a) (K.at b) g → Q a → Q b) → (a b : ℕ) → Has K g a → Has K g b → Q a → Q b
