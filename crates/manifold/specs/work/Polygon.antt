-- The triangles of a loop by their numbers; a loop that has no point and no segment twice.
use Rattle.std.specs.Prelude.{ℕ, ◌<◌, ◌≡◌}
use Rattle.manifold.specs.claims.Plain.{Tri, tri}
use Rattle.manifold.specs.Shape.{Shape, many_of, triangle_of}
use Rattle.manifold.specs.claims.Polygon.{Polygon, corner, centre, segment, inner_side}

module _ (G : Polygon) where
  -- triangle k of each shape, and how many there are
  abbrev pub triangle_at : Shape → ℕ → Tri
  triangle_at sh k = triangle_of tri (corner G) (centre G) (segment G) (inner_side G) G.n sh k

  abbrev pub many : Shape → ℕ
  many sh = many_of sh G.n

-- no point twice, and no segment twice
pub record Simple (G : Polygon) : Type 0 where
  pub points : (i j : ℕ) → i < G.n → j < G.n → G.point i ≡ G.point j → i ≡ j
  pub segments : (i j : ℕ) → i < G.n → j < G.n → segment G i ≡ segment G j → i ≡ j
