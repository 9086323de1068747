-- What holds of the triangles of a loop, and of the mesh of a complex.
use Rattle.std.specs.Prelude.{ℕ, ◌≤◌, ◌<◌, ◌≡◌, ◌⊎◌, ◌≢◌, length}
use Rattle.counting.specs.Lists.{over, tally}
use Rattle.counting.specs.claims.Lists.{before}
use Rattle.manifold.specs.Triangle.{Side, cross, inner}
use Rattle.manifold.specs.claims.Plain.{side_of, has_side, nth, Chain, OneRing}
use Rattle.manifold.specs.claims.Polygon.{Polygon, shape, corner, centre, segment, inner_side, inners, triangles}
use Rattle.manifold.specs.Shape.{fan}
use Rattle.manifold.specs.claims.Piece.{segment_of, size_of}
use Rattle.manifold.specs.claims.Complex.{Complex, Joins, Closes, Shut, Has, LinkedAt, loop_of, mesh}

-- the triangles at point k: a chain of one or two from segment k − 1 to segment k through inner sides
pub record AtPoint (G : Polygon) (k : ℕ) : Type 0 where
  pub chain : Chain (triangles G) (corner G k)
  pub some : 1 ≤ chain.n
  pub few : chain.n ≤ 2
  pub start : chain.side 0 ≡ segment G (before G.n k)
  pub end : chain.side chain.n ≡ segment G k
  pub through : (i : ℕ) → 1 ≤ i → i < chain.n → (m : ℕ) × (m < inners G (shape G)) × (chain.side i ≡ inner_side G m)

pub record PolygonLaws (G : Polygon) : Type 0 where
  -- a side of a triangle is a segment of the loop or one of its inner sides
  pub sides : (t i : ℕ) → t < length (triangles G) → i < 3
      → ((k : ℕ) × (k < G.n) × (side_of (nth (triangles G) t) i ≡ segment G k))
      ⊎ ((k : ℕ) × (k < inners G (shape G)) × (side_of (nth (triangles G) t) i ≡ inner_side G k))
  -- each segment is a side of exactly one triangle, and each inner side of exactly two
  pub one : (k : ℕ) → k < G.n → tally (has_side (segment G k)) (triangles G) ≡ 1
  pub two : (k : ℕ) → k < inners G (shape G) → tally (has_side (inner_side G k)) (triangles G) ≡ 2
  -- the triangles at a point are a chain
  pub point : (k : ℕ) → k < G.n → AtPoint G k
  -- a fan is a ring round its middle
  pub ring : shape G ≡ fan → OneRing (triangles G) (centre G)
  -- a loop of n points gives at most n triangles
  pub few : length (triangles G) ≤ G.n

pub record Manifold (K : Complex) : Type 1 where
  -- a piece gives at most as many triangles as it has crossings
  pub few : (c : ℕ) → c < K.pieces → length (over (λ p. triangles (loop_of K c p)) (K.at c).N 0) ≤ (K.at c).N
  -- no side is in more than two triangles
  pub most : (σ : Side) → tally (has_side σ) (mesh K) ≤ 2
  -- a side of a triangle is the segment of a dart of a piece, or an inner side, which is in exactly two
  pub sides : (t i : ℕ) → t < length (mesh K) → i < 3
      → ((c : ℕ) × (d : ℕ) × (c < K.pieces) × Joins (K.at c) d × (side_of (nth (mesh K) t) i ≡ segment_of (K.at c) d))
      ⊎ ((a : ℕ) × (p : ℕ) × (k : ℕ) × (side_of (nth (mesh K) t) i ≡ inner a p k) × (tally (has_side (side_of (nth (mesh K) t) i)) (mesh K) ≡ 2))
  -- a segment that one piece alone has is in exactly one if its curve closes there, and in none if it does not, whatever other curves do
  pub alone : (c d : ℕ) → c < K.pieces → Closes (K.at c) d
      → ((b e : ℕ) → b < K.pieces → b ≢ c → Joins (K.at b) e → segment_of (K.at b) e ≢ segment_of (K.at c) d)
      → tally (has_side (segment_of (K.at c) d)) (mesh K) ≡ 1
  pub unclosed : (c d : ℕ) → c < K.pieces → Joins (K.at c) d → (Closes (K.at c) d → ⊥)
      → ((b e : ℕ) → b < K.pieces → b ≢ c → Joins (K.at b) e → segment_of (K.at b) e ≢ segment_of (K.at c) d)
      → tally (has_side (segment_of (K.at c) d)) (mesh K) ≡ 0
  -- one whose curve closes in two pieces is in exactly two
  pub shared : (c d b e : ℕ) → c < K.pieces → b < K.pieces → b ≢ c → Closes (K.at c) d → Closes (K.at b) e
      → segment_of (K.at b) e ≡ segment_of (K.at c) d → tally (has_side (segment_of (K.at c) d)) (mesh K) ≡ 2
  -- where nothing is left open, each side is in exactly two
  pub two : Shut K → (t i : ℕ) → t < length (mesh K) → i < 3 → tally (has_side (side_of (nth (mesh K) t) i)) (mesh K) ≡ 2
  -- and the triangles at a crossing whose pieces are linked form one ring
  pub ring : Shut K → (g c : ℕ) → Has K g c → LinkedAt K g → OneRing (mesh K) (cross g)
  -- and so do those at the middle of every fan
  pub round : Shut K → (c p : ℕ) → c < K.pieces → p < (K.at c).N → 0 < size_of (K.at c) p → shape (loop_of K c p) ≡ fan
      → OneRing (mesh K) (centre (loop_of K c p))
