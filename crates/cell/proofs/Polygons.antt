-- The loops of a cell are polygons, and their triangles are those of the polygons.
use Prim.Native.Nat.{ℕ, ◌≤◌, ◌<◌}
use mathlib.Core.Path.{◌≡◌, refl, ◌∙◌}
use mathlib.Core.Logic.{◌≢◌}
use mathlib.Core.List.{map}
use native.Mathlib.Omega.{arith}
use native.Mathlib.Decide.{dec_lt}
use Rattle.counting.specs.Lists.{over}
use Rattle.counting.proofs.Range.{over_ext}
use Rattle.counting.proofs.Lists.{map_over}
use Rattle.walk.specs.Darts.{half}
use Rattle.cell.specs.declared.Cell.{Cell}
use Rattle.cell.specs.Cell.{crossings, slot, step}
use Rattle.cell.specs.Loop.{loop_size, dart, normal}
use Rattle.cell.proofs.Mates.{slot_has, ports}
use Rattle.manifold.specs.Shape.{shape_of}
use Rattle.manifold.specs.claims.Plain.{tri}
use Rattle.manifold.specs.claims.Polygon as manifold
use Rattle.manifold.specs.work.Polygon.{Simple}
use Rattle.manifold.specs.claims.Piece.{Piece, dart as dart_of, size_of}
use Rattle.manifold.specs.claims.Claims.{PolygonLaws}
use Rattle.manifold.proofs.Shapes.{map_triangles}
use Rattle.manifold.proofs.Piece.{Listed, dart_once, dart_lt, segment_once, size_ne}
use Rattle.manifold.proofs.Claims.{polygon_laws}
use Rattle.cell.specs.declared.Corner.TheVariants.{Middle}
use Rattle.cell.specs.declared.Side.TheVariants.{Inner}
use Rattle.cell.specs.Names.{corner_name, side_name}
use Rattle.cell.specs.Of.{edges_of}
use Rattle.cell.specs.Triangles.{number_of, segment_of, point, segment, triangle, loop_triangles, cell_triangles}
pub use Rattle.cell.specs.claims.Polygons.{local_of, polygon_of, named}
use Rattle.cell.specs.claims.Polygons.{Apart}

pub loop_named : (c : Cell) (p : ℕ) → map named (loop_triangles c p) ≡ manifold.triangles (polygon_of c p)
unfolding loop_triangles triangle point segment segment_of slot step dart loop_size manifold.triangles manifold.shape
loop_named c p =
    map_triangles (triangle c.index (number_of c p)) (point c p) Middle (segment c p) Inner (loop_size (edges_of c) p)
    named (corner_name c.index (number_of c p)) (side_name c.index (number_of c p)) tri (λ x y z r s t. refl) (shape_of (loop_size (edges_of c) p) (normal (edges_of c) p))

-- the triangles of a cell are those of the polygons of its loops
pub cell_named : (c : Cell) → map named (cell_triangles c) ≡ over (λ p. manifold.triangles (polygon_of c p)) (crossings (edges_of c)) 0
unfolding cell_triangles
cell_named c =
    map_over named (loop_triangles c) (crossings (edges_of c)) 0
    ∙ over_ext (λ p. map named (loop_triangles c p)) (λ p. manifold.triangles (polygon_of c p)) (crossings (edges_of c)) 0 (λ p a b. loop_named c p)

-- where names tell crossings and faces apart, a cell is a piece, and its loops are simple
module _ (c : Cell) (A : Apart c) where
  pub piece : Piece (local_of c)
  unfolding slot
  piece = record { ports = ports (edges_of c); numbers = A.numbers; slot = λ d l. (slot_has (edges_of c) d l).lt; names = A.names }

  module _ (p : ℕ) (l : p < crossings (edges_of c)) where
    on : (i : ℕ) → i < size_of (local_of c) p → Listed (local_of c) p i
    on i h = record { start = l; lt = h }

    pub simple : Simple (polygon_of c p)
    simple = record {
      points = λ i j a b e. (dart_once (local_of c) piece (on i a) (on j b)
          (A.numbers (half (dart_of (local_of c) p i)) (half (dart_of (local_of c) p j))
          (omega (arith, dart_lt (local_of c) piece (on i a))) (omega (arith, dart_lt (local_of c) piece (on j b))) e)).1;
      segments = λ i j a b e. (segment_once (local_of c) piece (on i a) (on j b) e).1;
    }

    pub polygon-laws : 0 < loop_size (edges_of c) p → PolygonLaws (polygon_of c p)
    unfolding loop_size step
    polygon-laws h = polygon_laws (polygon_of c p) (two h (size_ne (local_of c) piece p l)) simple
      where
        two : {n : ℕ} → 0 < n → n ≢ 1 → 2 ≤ n
        two {n} a b = elim (dec_lt 1 n) [ yes h ↦ h | no h ↦ absurd (b (omega arith)) ]
