-- Pieces that share segments, and their refinement: each piece replaced by parts. The pieces are those of `manifold`.
use Rattle.std.specs.Prelude.{ℕ, ◌<◌, ◌≡◌, ◌⊎◌, ◌≢◌}
use Rattle.walk.specs.Darts.{half}
use Rattle.manifold.specs.Triangle.{Side}
use Rattle.manifold.specs.claims.Piece.{Local, Piece, slot_of, segment_of}
use Rattle.manifold.specs.claims.Complex.{Joins, SameEnds, Whole, Shares}

pub record Family : Type 0 where
  pub size : ℕ
  pub at : ℕ → Local

-- the piece A has the segment σ; it has a segment that ends at the crossing g
pub record HasSegment (A : Local) (σ : Side) : Type 0 where
  pub d : ℕ
  pub on : Joins A d
  pub is : segment_of A d ≡ σ

pub record Meets (A : Local) (g : ℕ) : Type 0 where
  pub d : ℕ
  pub on : Joins A d
  pub is : A.number (half d) ≡ g

module _ (F : Family) where
  -- the pieces at g are all linked through segments that end there
  abbrev pub PiecesLinked : ℕ → Type 1
  PiecesLinked g = (Q : ℕ → Type 0) → ((a b : ℕ) → a < F.size → b < F.size → Shares (F.at a) (F.at b) g → Q a → Q b)
      → (a b : ℕ) → a < F.size → b < F.size → Meets (F.at a) g → Meets (F.at b) g → Q a → Q b

-- the segment of the dart e of B is one of A's, with the same ends
pub record Outer (A B : Local) (e : ℕ) : Type 0 where
  pub d : ℕ
  pub on : Joins A d
  pub is : segment_of B e ≡ segment_of A d
  pub ends : SameEnds B e A d

-- a part with the segment of the dart d of A, at the same crossing
pub record Covered (A : Local) (m : ℕ) (B : ℕ → Local) (d : ℕ) : Type 0 where
  pub j : ℕ
  pub j_lt : j < m
  pub e : ℕ
  pub on : Joins (B j) e
  pub is : segment_of (B j) e ≡ segment_of A d
  pub point : (B j).number (half e) ≡ A.number (half d)

-- the piece A in m parts. Some faces are inner ones, by their names, and some crossings are inner ones, by their numbers
pub record Refines (A : Local) (m : ℕ) (B : ℕ → Local) (Face Point : ℕ → Type 0) : Type 1 where
  pub piece : (j : ℕ) → j < m → Piece (B j)
  pub whole : Whole A → (j : ℕ) → j < m → Whole (B j)
  -- each segment of A is in exactly one part
  pub cover : (d : ℕ) → Joins A d → Covered A m B d
  pub once : (j k d : ℕ) → j < m → k < m → j ≢ k → Joins A d → HasSegment (B j) (segment_of A d) → HasSegment (B k) (segment_of A d) → ⊥
  -- every other segment is on an inner face, and in exactly two parts
  pub kind : (j e : ℕ) → j < m → Joins (B j) e → Outer A (B j) e ⊎ Face ((B j).name (slot_of (B j) e))
  pub inner_few : (j k l e : ℕ) → j < m → k < m → l < m → Joins (B j) e → Face ((B j).name (slot_of (B j) e)) → HasSegment (B k) (segment_of (B j) e) → HasSegment (B l) (segment_of (B j) e)
      → j ≢ k → j ≢ l → k ≢ l → ⊥
  pub inner_ends : (j k d e : ℕ) → j < m → k < m → Joins (B j) d → Joins (B k) e → Face ((B j).name (slot_of (B j) d)) → segment_of (B j) d ≡ segment_of (B k) e
      → SameEnds (B j) d (B k) e
  pub inner_paired : (j e : ℕ) → j < m → Joins (B j) e → Face ((B j).name (slot_of (B j) e)) → (k : ℕ) × (k < m) × (k ≢ j) × HasSegment (B k) (segment_of (B j) e)
  -- a crossing of a part is one of A's or an inner one; the parts at a crossing are linked
  pub points : (j g : ℕ) → j < m → Meets (B j) g → Meets A g ⊎ Point g
  pub linked : (g : ℕ) → PiecesLinked (record { size = m; at = B }) g

module _ (F : Family) (m : ℕ → ℕ) (B : ℕ → ℕ → Local) where
  -- every piece in parts; inner faces and inner crossings belong to their piece
  pub record Refined (Face Point : ℕ → ℕ → Type 0) : Type 1 where
    pub parts : (c : ℕ) → c < F.size → Refines (F.at c) (m c) (B c) (Face c) (Point c)
    pub faces : (c b f : ℕ) → c < F.size → b < F.size → Face c f → Face b f → c ≡ b
    pub inner : (c b s : ℕ) → c < F.size → b < F.size → s < (F.at b).slots → Face c ((F.at b).name s) → ⊥
    pub points : (c b g : ℕ) → c < F.size → b < F.size → Point c g → Point b g → c ≡ b
    pub apart : (c b g : ℕ) → c < F.size → b < F.size → Point c g → Meets (F.at b) g → ⊥
