-- The triangles of one loop (01, "Triangles").
use Rattle.std.specs.Prelude.{ℕ, Bool, List}
use Rattle.manifold.specs.Shape.{Shape, single, double, fan, shape_of, triangles_of}
use Rattle.manifold.specs.Triangle.{Corner, cross, middle, Side, seg, inner}
use Rattle.manifold.specs.claims.Plain.{Tri, tri}

abbrev pub inners_of : Shape → ℕ → ℕ
inners_of single n = 0
inners_of double n = 1
inners_of fan n = n

-- a loop by its numbers
pub record Polygon : Type 0 where
  -- the cell and the p0 that its middle and its inner sides go by
  pub cell : ℕ
  pub p0 : ℕ
  -- how many points; the crossing number of point k
  pub n : ℕ
  pub point : ℕ → ℕ
  -- segment k runs from point k to the next, the last back to point 0: its face's name and its lower crossing
  pub face : ℕ → ℕ
  pub lower : ℕ → ℕ
  pub normal : Bool

unfoldable pub shape : Polygon → Shape
shape G = shape_of G.n G.normal

module _ (G : Polygon) where
  abbrev pub corner : ℕ → Corner
  corner k = cross (G.point k)

  abbrev pub centre : Corner
  centre = middle G.cell G.p0

  abbrev pub segment : ℕ → Side
  segment k = seg (G.face k) (G.lower k)

  abbrev pub inner_side : ℕ → Side
  inner_side k = inner G.cell G.p0 k

  abbrev pub inners : Shape → ℕ
  inners sh = inners_of sh G.n

  unfoldable pub triangles : List Tri
  triangles = triangles_of tri corner centre segment inner_side G.n (shape G)
