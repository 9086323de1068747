-- The parts of all cells of a grid as one complex, which refines that of the cells (02, W12): its laws, and that their premises can be met.
use Rattle.std.specs.Prelude.{ℕ, ◌+◌, ◌%◌, ◌≤◌, ◌<◌, ◌≡◌, true, map, length, get_or}
use Rattle.counting.specs.Lists.{over, tally, pre}
use Rattle.counting.specs.claims.Lists.{All}
use Rattle.counting.specs.Pack.{row, col}
use Rattle.manifold.specs.claims.Plain.{Tri, tri, has_side}
use Rattle.manifold.specs.claims.Piece.{Local, slot_of, segment_of}
use Rattle.manifold.specs.claims.Complex.{Complex, Joins, Closes, Lawful, Shut, Has, LinkedAt, mesh}
use Rattle.slots.specs.Limits.{most_cells}
use Rattle.cell.specs.declared.Cell.{Cell}
use Rattle.cell.specs.Of.{count_of, start_of, edges_of}
use Rattle.cell.specs.Loop.{normal}
use Rattle.cell.specs.claims.Claims.{Separate, OrderLaws}
use Rattle.cell.specs.claims.Polygons.{local_of, named}
use Rattle.booking.specs.Booking.{larger, smaller, is_split}
use Rattle.split.specs.Limits.{first_inner_crossing, first_inner_face}
use Rattle.booking.specs.Figures.{inner_crossings}
use Rattle.split.specs.Parts.{Part, drawn_triangles, no_part, part_cell, drawn_parts}
use Rattle.split.specs.claims.Family.{Family, Refined}
use Rattle.split.specs.claims.Five.{name_of}
use Rattle.split.specs.claims.Claims.{part_local, CurveSides}
use Rattle.split.specs.Owned.{owned, owned_corner, owned_side}

abbrev pub owned_tri : ℕ → Tri → Tri
owned_tri cell (tri a b c r s t) = tri (owned_corner cell a) (owned_corner cell b) (owned_corner cell c) (owned_side cell r) (owned_side cell s) (owned_side cell t)

-- a piece with other numbers and names
abbrev pub renamed_piece : (number name : ℕ → ℕ) → Local → Local
renamed_piece number name A = record {
  N = A.N;
  fa = A.fa;
  fb = A.fb;
  mate = A.mate;
  number = λ x. number (A.number x);
  slots = A.slots;
  name = λ s. name (A.name s);
}

-- a part of a cell as a piece of the complex of all cells
abbrev pub of_cell : ℕ → Local → Local
of_cell cell A = renamed_piece (owned first_inner_crossing cell) (owned first_inner_face cell) A

-- what is asked of a cell of a grid: numbers and names tell its crossings and faces apart, and are below those of inner ones
pub record Fit (c : Cell) : Type 0 where
  pub separate : Separate (edges_of c)
  pub names : (s r : ℕ) → s < 4 → r < 4 → name_of c s ≡ name_of c r → s ≡ r
  pub below : (k t : ℕ) → k < 6 → t < count_of c k → start_of c k + t < first_inner_crossing
  pub under : (s : ℕ) → s < 4 → name_of c s < first_inner_face

-- The cells of a grid as a family and as a complex, and their drawn parts as that which refines it
module _ (size : ℕ) (cells : ℕ → Cell) where
  abbrev pub cell_family : Family
  cell_family = record { size = size; at = λ k. local_of (cells k) }

  abbrev pub cell_complex : Complex
  cell_complex = record { pieces = size; at = λ k. local_of (cells k); tag = λ k. k; normal = λ k p. normal (edges_of (cells k)) p }

  abbrev pub part_count : ℕ → ℕ
  part_count k = length (drawn_parts (cells k))

  abbrev pub owned_part : ℕ → ℕ → Local
  owned_part k j = of_cell k (part_local (get_or (drawn_parts (cells k)) j no_part))

  -- inner faces and crossings of cell k, with their cell
  abbrev pub InnerFaces : ℕ → ℕ → Type 0
  InnerFaces k f = (x : ℕ) × (first_inner_face ≤ x) × (f ≡ owned first_inner_face k x)

  abbrev pub InnerCrossings : ℕ → ℕ → Type 0
  InnerCrossings k g = (x : ℕ) × (first_inner_crossing ≤ x) × (g ≡ owned first_inner_crossing k x)

  -- all drawn parts as the pieces of one complex, whose middles and inner sides go by word 0
  abbrev pub part_at : ℕ → Part
  part_at x = get_or (drawn_parts (cells (row part_count size x))) (col part_count size x) no_part

  abbrev pub grid_complex : Complex
  grid_complex = record {
    pieces = pre part_count size;
    at = λ x. owned_part (row part_count size x) (col part_count size x);
    tag = λ x. (part_cell (part_at x)).index;
    normal = λ x p. normal (edges_of (part_cell (part_at x))) p;
  }

-- each cell of a grid is refined by its parts, and inner faces and crossings belong to their cell
abbrev pub CellsRefined : Type 1
CellsRefined = (size : ℕ) (cells : ℕ → Cell) → size ≤ most_cells → ((k : ℕ) → k < size → Fit (cells k))
    → Refined (cell_family size cells) (part_count size cells) (owned_part size cells) (InnerFaces size cells) (InnerCrossings size cells)

-- So the complex of all drawn parts is lawful, shut and linked at a crossing where that of the cells as they are is; it is always linked at an inner
-- crossing, and has each inner crossing of each split cell
pub record GridLaws (size : ℕ) (cells : ℕ → Cell) : Type 1 where
  pub lawful : Lawful (cell_complex size cells) → Lawful (grid_complex size cells)
  pub shut : Lawful (cell_complex size cells) → Shut (cell_complex size cells) → Shut (grid_complex size cells)
  pub linked : Lawful (cell_complex size cells) → (g : ℕ) → LinkedAt (cell_complex size cells) g → LinkedAt (grid_complex size cells) g
  pub inner_linked : Lawful (cell_complex size cells) → (g : ℕ) → first_inner_crossing ≤ g → LinkedAt (grid_complex size cells) g
  pub inner_has : (k g : ℕ) → k < size → is_split (count_of (cells k)) ≡ true → first_inner_crossing ≤ g
      → g < first_inner_crossing + inner_crossings (larger (count_of (cells k))) (smaller (count_of (cells k))) → (x : ℕ) × Has (grid_complex size cells) (owned first_inner_crossing k g) x
  -- a crossing of a cell that is joined there is one of the complex
  pub outer_has : (g k : ℕ) → Has (cell_complex size cells) g k → (x : ℕ) × Has (grid_complex size cells) g x
  -- a segment of an inner face is in exactly two triangles, whether the complex is shut or not
  pub inner_two : Lawful (cell_complex size cells) → (x d : ℕ) → x < (grid_complex size cells).pieces → Joins ((grid_complex size cells).at x) d
      → first_inner_face ≤ ((grid_complex size cells).at x).name (slot_of ((grid_complex size cells).at x) d)
      → tally (has_side (segment_of ((grid_complex size cells).at x) d)) (mesh (grid_complex size cells)) ≡ 2

abbrev pub GridSplit : Type 1
GridSplit = (size : ℕ) (cells : ℕ → Cell) → size ≤ most_cells → ((k : ℕ) → k < size → Fit (cells k)) → ((k : ℕ) → k < size → (cells k).index ≡ k) → GridLaws size cells

-- and its mesh is the triangles drawn of all cells
abbrev pub GridMeshed : Type 0
GridMeshed = (size : ℕ) (cells : ℕ → Cell) → over (λ k. map (owned_tri k) (map named (drawn_triangles (cells k)))) size 0 ≡ mesh (grid_complex size cells)

-- what is drawn of a cell of a grid has the segments of its closed curves, each in one triangle, and no others of its four faces
abbrev pub CurvesCounted : Type 0
CurvesCounted = (c : Cell) → Fit c → CurveSides c

-- word 0 of each triangle that is drawn of a cell tells the cell
abbrev pub DrawnOwned : Type 0
DrawnOwned = (c : Cell) → c.index < most_cells → All (λ t. t.cell % most_cells ≡ c.index) (drawn_triangles c)

-- in each part that is drawn of a cell of a grid, sub-cells among them, p0 is the least crossing number of its loop, and the loops are ordered by p0
abbrev pub DrawnOrdered : Type 0
DrawnOrdered = (c : Cell) → Fit c → (x : ℕ) → x < length (drawn_parts c) → OrderLaws (edges_of (part_cell (get_or (drawn_parts c) x no_part)))

-- there are such cells that are split
abbrev pub SplitHappens : Type 0
SplitHappens = (c : Cell) × Fit c × (is_split (count_of c) ≡ true)

-- and such in which one curve closes and another does not
abbrev pub CurvesMix : Type 0
CurvesMix = (c : Cell) × Fit c × ((d : ℕ) × Closes (local_of c) d) × ((e : ℕ) × Joins (local_of c) e × (Closes (local_of c) e → ⊥))
