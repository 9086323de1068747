-- A loop as it is recorded: place k of one list has the half-edge by which its dart k leaves, place k of another the crossing number of its
-- point k. A half-edge is 3 * slot + edge of the slot. No call outside the crate depends on it.
use Rattle.std.specs.Prelude.{ℕ, ◌/◌, ◌<◌, min, ◌≡◌, Bool, List, length, get_or}
use Rattle.counting.specs.Lists.{after}
use Rattle.manifold.specs.Shape.{Shape, shape_of, triangle_of, triangles_of}
use Rattle.cell.specs.declared.Cell.{Cell}
use Rattle.cell.specs.work.Half.{half_edges}
use Rattle.cell.specs.claims.Table.{short_limit}
use Rattle.cell.specs.declared.Corner.{Corner}
use Rattle.cell.specs.declared.Corner.TheVariants.{Crossing, Middle}
use Rattle.cell.specs.declared.Side.{Side}
use Rattle.cell.specs.declared.Side.TheVariants.{Segment, Inner}
use Rattle.cell.specs.declared.Triangle.{Triangle}
use Rattle.cell.specs.Triangles.{triangle}

-- a loop of n is recorded
pub record RecordedLoop (halves points : List ℕ) (n : ℕ) : Type 0 where
  pub few : n < short_limit
  pub halves_long : length halves ≡ n
  pub points_long : length points ≡ n
  pub halves_are : (k : ℕ) → k < n → get_or halves k 0 < half_edges

abbrev pub point_at : List ℕ → ℕ → Corner
point_at points k = Crossing (get_or points k 0)

-- from point k to the next, on the face in the half-edge's slot, whose name is given
unfoldable pub segment_at : (names halves points : List ℕ) (n k : ℕ) → Side
segment_at names halves points n k = Segment (get_or names (get_or halves k 0 / 3) 0) (min (get_or points k 0) (get_or points (after n k) 0))

module _ (c : Cell) (halves points : List ℕ) (n : ℕ) where
  -- its triangle k in a shape, and all its triangles; `two` says that n is 4 and the loop normal
  unfoldable pub traced_triangle : Shape → ℕ → Triangle
  traced_triangle sh k = triangle_of (triangle c.index (get_or points 0 0)) (point_at points) Middle (segment_at c.names halves points n) Inner n sh k

  unfoldable pub traced_triangles : Bool → List Triangle
  traced_triangles two = triangles_of (triangle c.index (get_or points 0 0)) (point_at points) Middle (segment_at c.names halves points n) Inner n (shape_of n two)
