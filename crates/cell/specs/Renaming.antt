-- Other names for a cell, its crossings and its faces. The middle of a loop and its inner sides go by these names, and keep their own numbers.
use Rattle.std.specs.Prelude.{ℕ}
use Rattle.cell.specs.declared.Corner.{Corner}
use Rattle.cell.specs.declared.Corner.TheVariants.{Crossing, Middle}
use Rattle.cell.specs.declared.Side.{Side}
use Rattle.cell.specs.declared.Side.TheVariants.{Segment, Inner}
use Rattle.cell.specs.declared.Triangle.{Triangle}

-- what becomes of a cell's number, a crossing number and a face's name
pub record Renaming : Type 0 where
  pub cell : ℕ → ℕ
  pub crossing : ℕ → ℕ
  pub face : ℕ → ℕ

module _ (r : Renaming) where
  abbrev pub renamed_corner : Corner → Corner
  renamed_corner (Crossing g) = Crossing (r.crossing g)
  renamed_corner Middle = Middle

  abbrev pub renamed_side : Side → Side
  renamed_side (Segment f g) = Segment (r.face f) (r.crossing g)
  renamed_side (Inner k) = Inner k

  abbrev pub renamed : Triangle → Triangle
  renamed t = record {
    cell = r.cell t.cell;
    p0 = r.crossing t.p0;
    corner0 = renamed_corner t.corner0;
    corner1 = renamed_corner t.corner1;
    corner2 = renamed_corner t.corner2;
    side0 = renamed_side t.side0;
    side1 = renamed_side t.side1;
    side2 = renamed_side t.side2;
  }
