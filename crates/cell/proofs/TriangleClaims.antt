-- The laws of a cell's triangles, together.
use Rattle.cell.specs.declared.Cell.{Cell}
use Rattle.cell.specs.Triangles.{cell_triangles}
use Rattle.cell.specs.claims.TriangleClaims.{TriangleLaws}
use Rattle.cell.proofs.Storing.{length_all}
use Rattle.cell.proofs.Taken.{length_loop, loop_few, length_cell, cell-count, cell_few}
use Rattle.cell.proofs.Polygons.{loop_named, polygon-laws}

pub triangle_laws : (c : Cell) → TriangleLaws c
triangle_laws c = record {
  many = length_loop c;
  loop_few = loop_few c;
  sum = length_cell c;
  counted = cell-count c;
  few = cell_few c;
  words = length_all (cell_triangles c);
  named = loop_named c;
  polygon = polygon-laws c;
}
