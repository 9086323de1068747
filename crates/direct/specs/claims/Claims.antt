-- What is proved of the triangles that are found without a walk.
use Rattle.std.specs.Prelude.{ℕ, ◌<◌, ◌≡◌, true, List, Float}
use Rattle.counting.specs.Lists.{over, pre}
use Rattle.cell.specs.declared.Cell.{Cell}
use Rattle.cell.specs.Cell.{Edges, ahead, base}
use Rattle.cell.specs.Of.{count_of, edges_of}
use Rattle.cell.specs.claims.Claims.{Rising}
use Rattle.cell.specs.Triangles.{cell_triangles}
use Rattle.cell.specs.claims.Middles.{fan_count, points_then, next_point}
use Rattle.direct.specs.claims.Direct.{Plain, direct_triangles, on_edge}

-- the edges are laid in the order `order 0`, `order 1`, .., `order 5`
pub record LaidBy (w : Edges) (order : ℕ → ℕ) : Type 0 where
  pub lt : (i : ℕ) → i < 6 → order i < 6
  pub bases : (i : ℕ) → i < 6 → base w (order i) ≡ pre (λ j. w.count (order j)) i
  pub all : pre (λ j. w.count (order j)) 6 ≡ pre w.count 6

-- each of six edges is laid before those after it: by first number, of two with the same by edge
pub record Sorted (w : Edges) (order : ℕ → ℕ) : Type 0 where
  pub lt : (i : ℕ) → i < 6 → order i < 6
  pub before : (i j : ℕ) → i < j → j < 6 → ahead w (order j) (order i) ≡ true

abbrev pub SortedLaid : Type 0
SortedLaid = (w : Edges) (order : ℕ → ℕ) → Sorted w order → LaidBy w order

-- the cell's triangles, edge by edge as they are laid
abbrev pub EdgeByEdge : Type 0
EdgeByEdge = (C : Cell) (order : ℕ → ℕ) → Plain (count_of C) → LaidBy (edges_of C) order
    → cell_triangles C ≡ over (λ i. on_edge C (ahead (edges_of C)) (order i)) 6 0

-- and in a cell whose first numbers rise, as in every cell of an accepted grid
abbrev pub Direct : Type 0
Direct = (C : Cell) → Plain (count_of C) → Rising (edges_of C) → cell_triangles C ≡ direct_triangles C

-- such a cell has no fan, in whatever order its edges are laid
abbrev pub NoFans : Type 0
NoFans = (C : Cell) → Plain (count_of C) → fan_count C ≡ 0

-- and of a cell without fans nothing is written among the points
pub record NothingWritten (nodes : List Float) (C : Cell) (area : List Float) (at : ℕ) : Type 0 where
  pub same_area : points_then nodes C area at ≡ area
  pub same_point : next_point nodes C area at ≡ at

abbrev pub NoMiddles : Type 0
NoMiddles = (nodes : List Float) (C : Cell) (area : List Float) (at : ℕ) → fan_count C ≡ 0 → NothingWritten nodes C area at
