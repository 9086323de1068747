-- Names that tell the corners and the sides of a mesh's triangles apart. What lies on the faces of the grid has its name of 01. What is inside a split cell
-- (02, W12) has the cell in its name too; a middle and an inner side have word 0 there, from which the cell is known.
use Rattle.std.specs.Prelude.{ℕ, ◌%◌, Bool, ◌||◌}
use Rattle.manifold.specs.Triangle.{Corner, Side, same}
use Rattle.cell.specs.declared.Triangle.{Triangle}
use Rattle.cell.specs.Names.{corner_name_at, side_name_at}
use Rattle.split.specs.Limits.{word_step}
use Rattle.split.specs.Owned.{owned_corner, owned_side}

-- the cell of a triangle: word 0 is its number and 2,048 times that of the sub-cell
abbrev pub cell_of : Triangle → ℕ
cell_of t = t.cell % word_step

-- corner i of a triangle by its name, and side i, which runs from corner i to the next
abbrev pub mesh_corner : Triangle → ℕ → Corner
mesh_corner t i = owned_corner (cell_of t) (corner_name_at t i)

abbrev pub mesh_side : Triangle → ℕ → Side
mesh_side t i = owned_side (cell_of t) (side_name_at t i)

-- the triangle has the side with this name
unfoldable pub has_mesh_side : Side → Triangle → Bool
has_mesh_side σ t = same σ (mesh_side t 0) || (same σ (mesh_side t 1) || same σ (mesh_side t 2))
