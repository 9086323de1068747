-- Families of pieces that are sound and closed.
use Rattle.std.specs.Prelude.{ℕ, ◌<◌, ◌≡◌, ◌≢◌}
use Rattle.counting.specs.Lists.{pre}
use Rattle.counting.specs.Pack.{row, col}
use Rattle.manifold.specs.Triangle.{Side}
use Rattle.manifold.specs.claims.Piece.{Local, Piece, segment_of}
use Rattle.manifold.specs.claims.Complex.{Joins, SameEnds, Whole}
use Rattle.split.specs.claims.Family.{Family, HasSegment}

module _ (F : Family) where
  -- a segment is in at most two pieces, and its name tells its ends
  pub record PiecesSound : Type 0 where
    pub piece : (a : ℕ) → a < F.size → Piece (F.at a)
    pub few : (σ : Side) (a b c : ℕ) → a < F.size → b < F.size → c < F.size → HasSegment (F.at a) σ → HasSegment (F.at b) σ → HasSegment (F.at c) σ
        → a ≢ b → a ≢ c → b ≢ c → ⊥
    pub ends : (a b d e : ℕ) → a < F.size → b < F.size → Joins (F.at a) d → Joins (F.at b) e → segment_of (F.at a) d ≡ segment_of (F.at b) e
        → SameEnds (F.at a) d (F.at b) e

  -- no curve ends, and each segment is in a second piece
  pub record Closed : Type 0 where
    pub whole : (a : ℕ) → a < F.size → Whole (F.at a)
    pub paired : (a : ℕ) → a < F.size → (σ : Side) → HasSegment (F.at a) σ → (b : ℕ) × (b < F.size) × (b ≢ a) × HasSegment (F.at b) σ

module _ (F : Family) (m : ℕ → ℕ) (B : ℕ → ℕ → Local) where
  -- the parts of all pieces, in order
  unfoldable pub fine : Family
  fine = record { size = pre m F.size; at = λ x. B (row m F.size x) (col m F.size x) }
