-- What a walk records of a loop of a cell.
use Rattle.std.specs.Prelude.{ℕ, ◌/◌, List, map}
use Rattle.cell.specs.declared.Cell.{Cell}
use Rattle.cell.specs.Loop.{loop_darts, in_grid}
use Rattle.cell.specs.Of.{edges_of}
use Rattle.cell.specs.work.Half.{half_edge}

-- the mark of a crossing that no walk has come to
abbrev pub unmarked : ℕ
unmarked = 65535

module _ (c : Cell) where
  -- of the loop from crossing p, dart by dart: the half-edge that a dart leaves by, and the number in the grid of its crossing
  unfoldable pub halves_from : ℕ → List ℕ
  halves_from p = map (half_edge (edges_of c)) (loop_darts (edges_of c) p)

  unfoldable pub points_from : ℕ → List ℕ
  points_from p = map (λ d. in_grid (edges_of c) (d / 2)) (loop_darts (edges_of c) p)
