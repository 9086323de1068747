-- A cell as a piece of a complex, its loops as polygons, and its triangles by the names of their corners and sides.
use Rattle.std.specs.Prelude.{ℕ, ◌/◌, ◌<◌, ◌≡◌, get_or}
use Rattle.cell.specs.declared.Cell.{Cell}
use Rattle.cell.specs.Cell.{crossings, first_slot_at, second_slot_at, mate}
use Rattle.cell.specs.Loop.{normal}
use Rattle.manifold.specs.claims.Plain.{Tri, tri}
use Rattle.manifold.specs.claims.Polygon.{Polygon}
use Rattle.manifold.specs.claims.Piece.{Local, slot_of, lower_of, dart, size_of}
use Rattle.cell.specs.declared.Triangle.{Triangle}
use Rattle.cell.specs.Names.{corner_name_at, side_name_at}
use Rattle.cell.specs.Of.{edges_of}
use Rattle.cell.specs.Triangles.{number_of}

abbrev pub slot_count : ℕ
slot_count = 4

abbrev pub local_of : Cell → Local
local_of c = record {
  N = crossings (edges_of c);
  fa = first_slot_at (edges_of c);
  fb = second_slot_at (edges_of c);
  mate = mate (edges_of c);
  number = number_of c;
  slots = slot_count;
  name = λ s. get_or c.names s 0;
}

-- its loop from the crossing p
abbrev pub polygon_of : Cell → ℕ → Polygon
polygon_of c p = record {
  cell = c.index;
  p0 = number_of c p;
  n = size_of (local_of c) p;
  point = λ k. number_of c (dart (local_of c) p k / 2);
  face = λ k. get_or c.names (slot_of (local_of c) (dart (local_of c) p k)) 0;
  lower = λ k. lower_of (local_of c) (dart (local_of c) p k);
  normal = normal (edges_of c) p;
}

-- a triangle by the names of its corners and sides alone
abbrev pub named : Triangle → Tri
named t = tri (corner_name_at t 0) (corner_name_at t 1) (corner_name_at t 2) (side_name_at t 0) (side_name_at t 1) (side_name_at t 2)

-- crossing numbers tell the cell's crossings apart, and names its faces
pub record Apart (c : Cell) : Type 0 where
  pub numbers : (x y : ℕ) → x < crossings (edges_of c) → y < crossings (edges_of c) → number_of c x ≡ number_of c y → x ≡ y
  pub names : (s t : ℕ) → s < slot_count → t < slot_count → get_or c.names s 0 ≡ get_or c.names t 0 → s ≡ t
