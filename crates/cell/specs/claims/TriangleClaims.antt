-- What is proved of the triangles of every cell.
use Rattle.std.specs.Prelude.{ℕ, ◌*◌, ◌≤◌, ◌<◌, ◌≡◌, map, length}
use Rattle.counting.specs.Lists.{total}
use Rattle.cell.specs.declared.Cell.{Cell}
use Rattle.cell.specs.Cell.{crossings}
use Rattle.cell.specs.Loop.{loop_size, normal}
use Rattle.manifold.specs.Shape.{shape_of, many_of}
use Rattle.manifold.specs.claims.Polygon.{triangles}
use Rattle.manifold.specs.claims.Claims.{PolygonLaws}
use Rattle.cell.specs.Words.{word_count, all_words}
use Rattle.cell.specs.Triangles.{triangle_count, loop_triangles, cell_triangles}
use Rattle.cell.specs.Of.{edges_of}
use Rattle.cell.specs.claims.Polygons.{polygon_of, named, Apart}

pub record TriangleLaws (c : Cell) : Type 0 where
  -- a loop gives 1, 2 or n triangles, and at most n
  pub many : (p : ℕ) → length (loop_triangles c p) ≡ many_of (shape_of (loop_size (edges_of c) p) (normal (edges_of c) p)) (loop_size (edges_of c) p)
  pub loop_few : (p : ℕ) → length (loop_triangles c p) ≤ loop_size (edges_of c) p
  -- a cell gives those of its loops together, so many by its edges alone, and at most as many as it has crossings
  pub sum : length (cell_triangles c) ≡ total (λ p. length (loop_triangles c p)) (crossings (edges_of c)) 0
  pub counted : length (cell_triangles c) ≡ triangle_count (edges_of c)
  pub few : length (cell_triangles c) ≤ crossings (edges_of c)
  -- each triangle is eleven words
  pub words : length (all_words (cell_triangles c)) ≡ word_count * length (cell_triangles c)
  -- where the names tell crossings and faces apart, each loop's triangles are those of a polygon, with all its laws
  pub named : (p : ℕ) → map named (loop_triangles c p) ≡ triangles (polygon_of c p)
  pub polygon : Apart c → (p : ℕ) → p < crossings (edges_of c) → 0 < loop_size (edges_of c) p → PolygonLaws (polygon_of c p)
