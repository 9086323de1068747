-- What holds of the calls and of the cells of an accepted grid.
use Rattle.std.specs.Prelude.{◌≤◌, ℕ, ◌+◌, ◌*◌, ◌<◌, ◌≡◌, ◌⊎◌, true, Option, Result, List, [], ◌∷◌, eqb, length, get_or}
use Rattle.manifold.specs.Triangle.{Side, seg, inner, Corner, cross, middle}
use Rattle.split.specs.Limits.{first_inner_face, first_inner_crossing}
use Rattle.answer.specs.Answer.{result_of}
use Rattle.answer.specs.declared.Refusal.{Refusal}
use Rattle.counting.specs.Pick.{pick}
use Rattle.counting.specs.Lists.{total, tally}
use Rattle.counting.specs.Search.{count}
use Rattle.face.specs.Rim.{Alternate}
use Rattle.manifold.specs.claims.Piece.{Local, slot_of, segment_of}
use Rattle.manifold.specs.claims.Complex.{Joins}
use Rattle.cell.specs.Of.{count_of, edges_of}
use Rattle.cell.specs.claims.Claims.{OrderLaws}
use Rattle.cell.specs.declared.Cell.{Cell}
use Rattle.cell.specs.declared.Loop.{Loop}
use Rattle.cell.specs.declared.Triangle.{Triangle}
use Rattle.cell.specs.Level.{is_level_cell}
use Rattle.cell.specs.Common.{is_common}
use Rattle.cell.specs.Triangles.{triangle_count}
use Rattle.cell.specs.Names.{corner_name_at, side_name_at}
use Rattle.grid.specs.Grid.{Grid, built, cell_count}
use Rattle.grid.specs.Rows.{grid_answer}
use Rattle.cases.specs.claims.Cases.{entries}
use Rattle.cases.specs.claims.Tally.{find_entry, triangles_at}
use Rattle.booking.specs.Booking.{is_split, booked_split}
use Rattle.split.specs.Parts.{no_part, part_cell}
use Rattle.split.specs.claims.Claims.{most_splits, SplitSides, CurveSides, part_local}
use Rattle.split.specs.claims.Owned.{of_cell}
use Rattle.mesh.specs.declared.sizes.Mesh.{Mesh}
use Rattle.mesh.specs.Numbers.{mesh_numbers, loops_numbers}
use Rattle.mesh.specs.Mesh.{grid_cell, mesh_triangles, mesh_splits}
use Rattle.mesh.specs.Names.{cell_of, mesh_corner, mesh_side, has_mesh_side}
use Rattle.mesh.specs.Demand.{none, RingPremises, parts_of}
use Rattle.mesh.specs.examples.Examples.{three_cells, three_edges, three_counts, five_cells, five_counts}
use Rattle.mesh.specs.Answer.{mesh_answer, loops_answer}

-- a side within its cell: a segment of an inner face, or an inner side
abbrev pub IsInner : Side → Type 0
IsInner (seg f g) = first_inner_face ≤ f
IsInner (inner w p k) = Unit {0}

-- the numbers tell the answer: no two answers of a call are read as the same numbers
abbrev pub MeshTold : Type 0
MeshTold = (G : Grid) (room : ℕ) (r s : Result Mesh Refusal)
    → mesh_numbers r ≡ mesh_answer G room → mesh_numbers s ≡ mesh_answer G room → r ≡ s

abbrev pub LoopsTold : Type 0
LoopsTold = (G : Grid) (c k : ℕ) (r s : Result (Option Loop) Refusal)
    → loops_numbers r ≡ loops_answer G c k → loops_numbers s ≡ loops_answer G c k → r ≡ s

-- Alternation can be met, so that it says something that no two segments alternate (01, demand 3): on a face with the counts 2, 0, 2, segments that joined
-- crossing 0 of ab to 0 of bc and 1 of ab to 1 of bc would alternate
abbrev pub CanAlternate : Type 0
CanAlternate = Alternate 2 0 2 0 0 2 0 0 1 2 1

-- the splits are at most the sum of d1 / gcd(d1, d2) − 1 over the cells that are split (02, W12)
abbrev pub FewSplits : Type 0
FewSplits = (G : Grid) → mesh_splits G ≤ total (λ c. most_splits (count_of (grid_cell G c))) (cell_count G.cells) 0

-- in each cell of an accepted grid p0 is the least crossing number of its loop (01), and the loops are ordered by p0
abbrev pub LoopsOrdered : Type 0
LoopsOrdered = (G : Grid) (total : ℕ) → grid_answer G ≡ result_of (total ∷ []) → (c : ℕ) → c < cell_count G.cells
    → OrderLaws (edges_of (grid_cell G c))

-- and so it is in each part that is drawn of the cell: where it is split, in its own corner triangles and in each of its sub-cells
abbrev pub PartsOrdered : Type 0
PartsOrdered = (G : Grid) (total : ℕ) → grid_answer G ≡ result_of (total ∷ []) → (c x : ℕ) → c < cell_count G.cells → x < length (parts_of G c)
    → OrderLaws (edges_of (part_cell (get_or (parts_of G c) x no_part)))

-- what a cell outside the table of common cells comes to: what is booked for it, with the split result, or what its walk finds
abbrev pub outside_triangles : Cell → ℕ
outside_triangles c = pick (is_common (count_of c)) 0 (pick (is_level_cell (count_of c)) (booked_split (count_of c)) (triangle_count (edges_of c)))

-- the triangles of the mesh by the table's entries (02, W6): the number of cells of an entry times its triangles, summed, and what the cells outside come to
abbrev pub MeshByEntry : Type 0
MeshByEntry = (G : Grid) → length (mesh_triangles G)
    ≡ total (λ e. count (λ c. eqb (find_entry (count_of (grid_cell G c))) e) (cell_count G.cells) * triangles_at e) entries 0
    + total (λ c. outside_triangles (grid_cell G c)) (cell_count G.cells) 0

-- part x of what is drawn of cell c, as a piece whose crossings and faces have their names in the mesh
abbrev pub piece_of : Grid → (c x : ℕ) → Local
piece_of G c x = of_cell c (part_local (get_or (parts_of G c) x no_part))

-- Of the mesh of an accepted grid, without the premises of the rings (02, W12). Each segment of the four faces of a cell, split or not, is in exactly one of
-- the cell's triangles if its curve closes there, and else in none; the walk along it tells which. In a split cell all curves close. A side of a triangle
-- that lies within its cell is in exactly two triangles of the mesh; and no segment of an inner face is left out: wherever a crossing is joined on one, two
-- triangles have the segment
pub record InsideLaws (G : Grid) : Type 0 where
  pub curves : (c : ℕ) → c < cell_count G.cells → CurveSides (grid_cell G c)
  pub one : (c : ℕ) → c < cell_count G.cells → is_split (count_of (grid_cell G c)) ≡ true → SplitSides (grid_cell G c)
  pub two : (t i : ℕ) → t < length (mesh_triangles G) → i < 3 → IsInner (side_name_at (get_or (mesh_triangles G) t none) i)
      → tally (has_mesh_side (mesh_side (get_or (mesh_triangles G) t none) i)) (mesh_triangles G) ≡ 2
  pub each : (c x d : ℕ) → c < cell_count G.cells → x < length (parts_of G c) → Joins (piece_of G c x) d → first_inner_face ≤ (piece_of G c x).name (slot_of (piece_of G c x) d)
      → tally (has_mesh_side (segment_of (piece_of G c x) d)) (mesh_triangles G) ≡ 2

abbrev pub SidesInside : Type 0
SidesInside = (G : Grid) (total : ℕ) → grid_answer G ≡ result_of (total ∷ []) → InsideLaws G

-- Corners of the triangles s and t, by their names in their cells, that are one (02, W12): the same crossing, of one cell if it is inner; the same middle, by
-- words 0 and 1. And sides: the same segment, of one cell if it is inner; the same inner side, by words 0 and 1 and its number
abbrev pub OneCorner : (s t : Triangle) → Corner → Corner → Type 0
OneCorner s t (cross g) (cross h) = (g ≡ h) × (first_inner_crossing ≤ g → cell_of s ≡ cell_of t)
OneCorner s t (cross g) (middle v q) = ⊥
OneCorner s t (middle w p) (cross h) = ⊥
OneCorner s t (middle w p) (middle v q) = (w ≡ v) × (p ≡ q)

abbrev pub OneSide : (s t : Triangle) → Side → Side → Type 0
OneSide s t (seg e g) (seg f h) = (e ≡ f) × (g ≡ h) × ((first_inner_face ≤ e) ⊎ (first_inner_crossing ≤ g) → cell_of s ≡ cell_of t)
OneSide s t (seg e g) (inner v q l) = ⊥
OneSide s t (inner w p k) (seg f h) = ⊥
OneSide s t (inner w p k) (inner v q l) = (w ≡ v) × (p ≡ q) × (k ≡ l)

-- the names in the mesh tell them apart in this way
pub record NamesTold : Type 0 where
  pub corner : (s t : Triangle) (i j : ℕ) → mesh_corner s i ≡ mesh_corner t j → OneCorner s t (corner_name_at s i) (corner_name_at t j)
  pub same_corner : (s t : Triangle) (i j : ℕ) → OneCorner s t (corner_name_at s i) (corner_name_at t j) → mesh_corner s i ≡ mesh_corner t j
  pub side : (s t : Triangle) (i j : ℕ) → mesh_side s i ≡ mesh_side t j → OneSide s t (side_name_at s i) (side_name_at t j)
  pub same_side : (s t : Triangle) (i j : ℕ) → OneSide s t (side_name_at s i) (side_name_at t j) → mesh_side s i ≡ mesh_side t j

-- the grid of these lists is accepted and meets both premises of the rings; it has so many crossings, triangles and splits
pub record Ringed (cells edges counts : List ℕ) (crossings triangles splits : ℕ) : Type 0 where
  pub accepted : grid_answer (built cells edges counts) ≡ result_of (crossings ∷ [])
  pub premises : RingPremises (built cells edges counts)
  pub drawn : length (mesh_triangles (built cells edges counts)) ≡ triangles
  pub split : mesh_splits (built cells edges counts) ≡ splits

-- demand 3 is not empty: so it is of three cells round an edge (01), and of five cells without an outer edge of which one is split
pub record RingsHappen : Type 0 where
  pub three : Ringed three_cells three_edges three_counts 2 6 0
  pub five : Ringed five_cells three_edges five_counts 24 100 1
