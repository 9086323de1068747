-- When two corners, or two sides, of triangles are one (01): a crossing goes by its number and a middle by cell and p0; a segment goes by its
-- face's name and its lower crossing, and an inner side by cell, p0 and its number.
use Rattle.std.specs.Prelude.{ℕ, zero, suc}
use Rattle.manifold.specs.Triangle as manifold
use Rattle.manifold.specs.Triangle.{cross, middle, seg, inner}
use Rattle.cell.specs.declared.Corner.{Corner}
use Rattle.cell.specs.declared.Corner.TheVariants.{Crossing, Middle}
use Rattle.cell.specs.declared.Side.{Side}
use Rattle.cell.specs.declared.Side.TheVariants.{Segment, Inner}
use Rattle.cell.specs.declared.Triangle.{Triangle}

-- the name of a corner and of a side of a triangle of the loop of the cell from p0
abbrev pub corner_name : (cell p0 : ℕ) → Corner → manifold.Corner
corner_name cell p0 (Crossing g) = cross g
corner_name cell p0 Middle = middle cell p0

abbrev pub side_name : (cell p0 : ℕ) → Side → manifold.Side
side_name cell p0 (Segment f g) = seg f g
side_name cell p0 (Inner k) = inner cell p0 k

-- corner i of a triangle by its name, and side i, which runs from corner i to the next
abbrev pub corner_name_at : Triangle → ℕ → manifold.Corner
corner_name_at t zero = corner_name t.cell t.p0 t.corner0
corner_name_at t (suc zero) = corner_name t.cell t.p0 t.corner1
corner_name_at t (suc (suc i)) = corner_name t.cell t.p0 t.corner2

abbrev pub side_name_at : Triangle → ℕ → manifold.Side
side_name_at t zero = side_name t.cell t.p0 t.side0
side_name_at t (suc zero) = side_name t.cell t.p0 t.side1
side_name_at t (suc (suc i)) = side_name t.cell t.p0 t.side2
