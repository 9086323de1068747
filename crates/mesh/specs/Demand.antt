-- Demand 3: its statement, for split cells too (02, W12).
use Rattle.std.specs.Prelude.{ℕ, ◌+◌, ◌%◌, ◌≤◌, ◌<◌, ◌≡◌, true, List, [], ◌∷◌, length, get_or}
use Rattle.answer.specs.Answer.{result_of}
use Rattle.counting.specs.Lists.{tally}
use Rattle.slots.specs.Slots.{slot_edge}
use Rattle.face.specs.Rim.{Segment, Alternate}
use Rattle.manifold.specs.Triangle.{Corner, Side, cross, middle}
use Rattle.manifold.specs.Ring.{RingIn}
use Rattle.manifold.specs.Shape.{fan, shape_of}
use Rattle.cell.specs.declared.Corner.TheVariants.{Middle}
use Rattle.cell.specs.declared.Side.TheVariants.{Inner}
use Rattle.cell.specs.declared.Cell.{Cell}
use Rattle.cell.specs.declared.Triangle.{Triangle}
use Rattle.cell.specs.Of as cell
use Rattle.cell.specs.Of.{edges_of}
use Rattle.cell.specs.Cell as edges
use Rattle.cell.specs.Loop.{loop_size, normal}
use Rattle.cell.specs.Triangles.{number_of}
use Rattle.grid.specs.Grid.{Grid, cell_count, edge_number, count_of, outer}
use Rattle.grid.specs.Rows.{grid_answer}
use Rattle.booking.specs.Booking.{larger, smaller, is_split}
use Rattle.booking.specs.Figures.{inner_crossings}
use Rattle.split.specs.Limits.{first_inner_crossing}
use Rattle.split.specs.Parts.{Part, whole, no_part, part_cell, drawn_parts}
use Rattle.split.specs.Owned.{owned_corner}
use Rattle.mesh.specs.Mesh.{grid_cell, mesh_triangles}
use Rattle.mesh.specs.Names.{mesh_corner, mesh_side, has_mesh_side}

-- what stands past the end of a list of triangles
abbrev pub none : Triangle
none = record { cell = 0; p0 = 0; corner0 = Middle; corner1 = Middle; corner2 = Middle; side0 = Inner 0; side1 = Inner 0; side2 = Inner 0 }

-- on a face, with its segments as the face call answers them from its three counts, no two segments alternate round the rim
abbrev pub NoneAlternate : (ab ac bc : ℕ) → Type 0
NoneAlternate ab ac bc = (e t e' t' u i u' i' : ℕ) → Segment ab ac bc e t e' t' → Segment ab ac bc u i u' i' → Alternate ab ac bc e t e' t' u i u' i' → ⊥

module _ (G : Grid) where
  -- the count of edge j, ab ac bc, of the face at slot s of cell c
  abbrev pub face_count : ℕ → ℕ → ℕ → ℕ
  face_count c s j = count_of G.counts (edge_number G c (slot_edge s j))

  -- the premises of the rings: every outer edge has count zero, and the three counts of every face have an even sum
  pub record RingPremises : Type 0 where
    pub outer_zero : (e : ℕ) → e < length G.counts → outer G e ≡ true → count_of G.counts e ≡ 0
    pub even : (c s : ℕ) → c < cell_count G.cells → s < 4 → (face_count c s 0 + face_count c s 1 + face_count c s 2) % 2 ≡ 0

  -- one ring (01) of the mesh's triangles at a point
  abbrev pub OneRing : Corner → Type 0
  OneRing = RingIn none mesh_corner mesh_side (mesh_triangles G)

  -- What is drawn of cell c: itself, or its sub-cells and own corner triangles where it is split. The count of edge j of the face at slot s of the cell
  -- or sub-cell of its part x
  abbrev pub parts_of : ℕ → List Part
  parts_of c = drawn_parts (grid_cell G c)

  abbrev pub inner_count : ℕ → ℕ → ℕ → ℕ → ℕ
  inner_count c x s j = cell.count_of (part_cell (get_or (parts_of c) x no_part)) (slot_edge s j)

  -- cell c is split, and g is the number of one of its inner crossings
  pub record InnerCrossing (c g : ℕ) : Type 0 where
    pub cell_lt : c < cell_count G.cells
    pub is-split : is_split (cell.count_of (grid_cell G c)) ≡ true
    pub from : first_inner_crossing ≤ g
    pub below : g < first_inner_crossing + inner_crossings (larger (cell.count_of (grid_cell G c))) (smaller (cell.count_of (grid_cell G c)))

  -- part x of cell c is the cell or sub-cell b, whole, and the loop of b from its crossing p is drawn as a fan
  pub record Fan (c x : ℕ) (b : Cell) (p : ℕ) : Type 0 where
    pub cell_lt : c < cell_count G.cells
    pub part_lt : x < length (parts_of c)
    pub part_is : get_or (parts_of c) x no_part ≡ whole b
    pub start_lt : p < edges.crossings (edges_of b)
    pub some : 0 < loop_size (edges_of b) p
    pub is : shape_of (loop_size (edges_of b) p) (normal (edges_of b) p) ≡ fan

  -- what demand 3 says of a grid with so many crossings
  pub record MeshLaws (total : ℕ) : Type 0 where
    -- (a) on each face of the grid no two segments alternate, and on none of what is drawn of a cell, so on no inner face of a split cell
    pub no_alternation : (c s : ℕ) → c < cell_count G.cells → s < 4 → NoneAlternate (face_count c s 0) (face_count c s 1) (face_count c s 2)
    pub none_inside : (c x s : ℕ) → c < cell_count G.cells → x < length (parts_of c) → s < 4
        → NoneAlternate (inner_count c x s 0) (inner_count c x s 1) (inner_count c x s 2)
    -- (b) no side is in more than two triangles
    pub at_most_two : (σ : Side) → tally (has_mesh_side σ) (mesh_triangles G) ≤ 2
    -- (c) under the premises each side of each triangle is in exactly two triangles
    pub exactly_two : RingPremises → (t i : ℕ) → t < length (mesh_triangles G) → i < 3
        → tally (has_mesh_side (mesh_side (get_or (mesh_triangles G) t none) i)) (mesh_triangles G) ≡ 2
    -- and there is one ring at each crossing of the grid
    pub ring_at_crossing : RingPremises → (g : ℕ) → g < total → OneRing (cross g)
    -- and at each inner crossing of each split cell
    pub ring_inside : RingPremises → (c g : ℕ) → InnerCrossing c g → OneRing (owned_corner c (cross g))
    -- and at the middle of every fan
    pub ring_at_middle : RingPremises → (c x : ℕ) (b : Cell) (p : ℕ) → Fan c x b p → OneRing (owned_corner c (middle b.index (number_of b p)))

-- the whole of it: for every four lists that the grid check accepts, answering the number of crossings
abbrev pub Demand3 : Type 0
Demand3 = (G : Grid) (total : ℕ) → grid_answer G ≡ result_of (total ∷ []) → MeshLaws G total
