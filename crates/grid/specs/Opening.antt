-- Opening a grid (02, W5): the check of a grid whose starts are not known, which fills them in.
use Rattle.std.specs.Prelude.{ℕ, List, length}
use Rattle.counting.specs.Pick.{pick}
use Rattle.counting.specs.Stored.{filled}
use Rattle.grid.specs.Grid.{Grid, grid_of, start}
use Rattle.grid.specs.Rows.{grid_answer, accepts}

module _ (G : Grid) where
  -- the grid with its starts filled in. There are as many of them as were lent, so that row 2 minds their number alone.
  unfoldable pub opened : Grid
  opened = grid_of G.cells G.edges G.counts (filled (start G.counts) (length G.counts) G.starts)

  -- the opening call: rows 1 to 10 and 18; else the number of crossings
  unfoldable pub open_answer : List ℕ
  open_answer = grid_answer opened

  -- the lent starts afterwards: filled in, or all as they were where the call refuses
  unfoldable pub open_starts : List ℕ
  open_starts = pick (accepts opened) opened.starts G.starts
