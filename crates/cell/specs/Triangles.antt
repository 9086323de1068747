-- The triangles of a loop (01) and of a cell.
use Rattle.std.specs.Prelude.{ℕ, ◌/◌, min, ◌||◌, List, [], eqb, length, get_or}
use Rattle.counting.specs.Pick.{pick}
use Rattle.counting.specs.Lists.{total, over}
use Rattle.manifold.specs.Shape.{shape_of, many_of, triangles_of}
use Rattle.cell.specs.declared.Cell.{Cell}
use Rattle.cell.specs.Cell.{Edges, crossings, mate, slot}
use Rattle.cell.specs.Of.{edges_of}
use Rattle.cell.specs.Loop.{loop_size, dart, normal, in_grid, leasts}
use Rattle.cell.specs.declared.Corner.{Corner}
use Rattle.cell.specs.declared.Corner.TheVariants.{Crossing, Middle}
use Rattle.cell.specs.declared.Side.{Side}
use Rattle.cell.specs.declared.Side.TheVariants.{Segment, Inner}
use Rattle.cell.specs.declared.Triangle.{Triangle}

-- how many loops a cell has and how many triangles: both go by its edges alone
module _ (w : Edges) where
  unfoldable pub loop_count : ℕ
  loop_count = length (leasts w)

  -- the triangles of the loop from p
  unfoldable pub many_from : ℕ → ℕ
  many_from p = many_of (shape_of (loop_size w p) (normal w p)) (loop_size w p)

  unfoldable pub triangle_count : ℕ
  triangle_count = total many_from (crossings w) 0

-- a triangle of the loop of the cell with the number `cell` from the crossing number p0, by its corners and sides
unfoldable pub triangle : (cell p0 : ℕ) (x y z : Corner) (r s t : Side) → Triangle
triangle cell p0 x y z r s t = record {
  cell = cell;
  p0 = p0;
  corner0 = x;
  corner1 = y;
  corner2 = z;
  side0 = r;
  side1 = s;
  side2 = t;
}

module _ (c : Cell) where
  -- the crossing number of the cell's crossing x
  unfoldable pub number_of : ℕ → ℕ
  number_of x = in_grid (edges_of c) x

  -- the segment along a dart, from its crossing to its mate: named by its face's name and its lower crossing number
  unfoldable pub segment_of : ℕ → Side
  segment_of d = Segment (get_or c.names (slot (edges_of c) d) 0) (min (number_of (d / 2)) (number_of (mate (edges_of c) (slot (edges_of c) d) (d / 2))))

  -- the loop from the crossing p: its point k, and its segment g(k), from point k to the next
  module _ (p : ℕ) where
    unfoldable pub point : ℕ → Corner
    point k = Crossing (number_of (dart (edges_of c) p k / 2))

    unfoldable pub segment : ℕ → Side
    segment k = segment_of (dart (edges_of c) p k)

    -- the triangles of the loop: none where there is no loop from p
    unfoldable pub loop_triangles : List Triangle
    loop_triangles =
        triangles_of (triangle c.index (number_of p)) point Middle segment Inner (loop_size (edges_of c) p)
        (shape_of (loop_size (edges_of c) p) (normal (edges_of c) p))

  -- the triangles of the cell, loop by loop
  unfoldable pub cell_triangles : List Triangle
  cell_triangles = over loop_triangles (crossings (edges_of c)) 0

  -- the triangles of its loops of length `only`, or of all where that is 0: of the loop from p, and of all these loops
  unfoldable pub asked_triangles : (only p : ℕ) → List Triangle
  asked_triangles only p = pick (eqb only 0 || eqb (loop_size (edges_of c) p) only) (loop_triangles p) []

  unfoldable pub triangles_with : ℕ → List Triangle
  triangles_with only = over (asked_triangles only) (crossings (edges_of c)) 0
