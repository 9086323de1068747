-- The mesh of a grid (01; with splits, 02, W12): the triangles that are drawn of all its cells, with the face names and crossing numbers of the whole grid.
use Rattle.std.specs.Prelude.{ℕ, List}
use Rattle.counting.specs.Lists.{total, over, values}
use Rattle.grid.specs.Grid.{Grid, cell_count, node, face_name, edge_number, count_of, start}
use Rattle.cell.specs.declared.Cell.{Cell}
use Rattle.cell.specs.declared.Triangle.{Triangle}
use Rattle.cell.specs.Words.{all_words}
use Rattle.split.specs.Parts.{drawn_triangles, splits_of}

module _ (G : Grid) where
  -- cell c with all that belongs to it: the counts and starts of its six edges, the names of its four faces, its nodes
  unfoldable pub grid_cell : ℕ → Cell
  grid_cell c = record {
    counts = values (λ k. count_of G.counts (edge_number G c k)) 6;
    starts = values (λ k. start G.counts (edge_number G c k)) 6;
    names = values (face_name G.cells c) 4;
    nodes = values (node G.cells c) 4;
    index = c;
  }

  -- all triangles, by cell, then part, then loop, then in the order of the loop
  unfoldable pub mesh_triangles : List Triangle
  mesh_triangles = over (λ c. drawn_triangles (grid_cell c)) (cell_count G.cells) 0

  -- the splits that are made
  unfoldable pub mesh_splits : ℕ
  mesh_splits = total (λ c. splits_of (grid_cell c)) (cell_count G.cells) 0

  -- the words of all triangles
  unfoldable pub mesh_words : List ℕ
  mesh_words = all_words mesh_triangles
