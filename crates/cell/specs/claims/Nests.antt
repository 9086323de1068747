-- Nested loops of length 8 (02, W3) by counts, as the code goes. `places` has the same in the words of 02, and shows that the two agree for every cell.
-- The nest is of m > 1 loops; E, whose pair of opposite edges keeps 2 * m crossings beside the corner triangles, is one of the edges 0, 1, 2, at the
-- cell's lowest node.
use Rattle.std.specs.Prelude.{ℕ, zero, suc, ◌+◌, ◌-◌, ◌/◌, max, Bool, ◌&&◌, eqb, ltb}
use Rattle.counting.specs.Pick.{pick}
use Rattle.place.specs.declared.Place.{Place}
use Rattle.place.specs.Place.{between, part_of}
use Rattle.cell.specs.declared.Cell.{Cell}
use Rattle.cell.specs.Cell.{edge}
use Rattle.cell.specs.Of.{count_of, start_of, edges_of}
use Rattle.cell.specs.Loop.{loop_size, dart, in_grid}
use Rattle.cell.specs.Level.{is_level_cell}
use Rattle.cell.specs.Middles.{half_sum}

-- the greatest of the first n values of f, and not less than 0
unfoldable pub greatest_of : (ℕ → ℕ) → ℕ → ℕ
greatest_of f zero = 0
greatest_of f (suc n) = max (greatest_of f n) (f n)

-- x is above y and z, which are the same, by 2 * m with m > 1, where it is above by an even number
unfoldable pub exceeds : ℕ → ℕ → ℕ → Bool
exceeds x y z = eqb y z && ltb (y + 2) x

-- which of three is so; 3 where none is
unfoldable pub exceeding : ℕ → ℕ → ℕ → ℕ
exceeding x y z = pick (exceeds x y z) 0 (pick (exceeds y z x) 1 (pick (exceeds z x y) 2 3))

-- From the counts of the edges, n k for edge k
module _ (n : ℕ → ℕ) where
  -- the sum of the counts of edge k and of its opposite
  abbrev pub pair_at : ℕ → ℕ
  pair_at k = n k + n (5 - k)

  -- E; 3 where there is no nest
  unfoldable pub nest_edge : ℕ
  nest_edge = pick (is_level_cell n) (exceeding (pair_at 0) (pair_at 1) (pair_at 2)) 3

  -- m: half of what its pair has above another
  unfoldable pub nest_count : ℕ
  nest_count = (pair_at nest_edge - pair_at (pick (eqb nest_edge 0) 1 0)) / 2

  -- the corner triangles at the lowest node
  unfoldable pub nest_corner : ℕ
  nest_corner = (n 0 + n 1 + n 2 - pair_at nest_edge) / 2

module _ (c : Cell) where
  -- the crossing number of the crossing m of E, of those that are left, from its lower node
  unfoldable pub nest_low : ℕ
  nest_low = start_of c (nest_edge (count_of c)) + nest_corner (count_of c) + nest_count (count_of c)

  -- i of the loop from p: its greatest crossing number on E, from there on
  unfoldable pub nest_rank : ℕ → ℕ
  nest_rank p =
      greatest_of (λ k. pick (eqb (edge (edges_of c) (dart (edges_of c) p k / 2)) (nest_edge (count_of c))) (in_grid (edges_of c) (dart (edges_of c) p k / 2)) 0) (loop_size (edges_of c) p)
      - nest_low

-- so far from half way along edge e to half way along its opposite
unfoldable pub on_axis : (corner : ℕ → Place) (e i m : ℕ) → Place
on_axis corner e i m = between (half_sum corner e) (half_sum corner (5 - e)) (part_of i m)

-- the middle of the loop from p of a nest
unfoldable pub nest_middle : (corner : ℕ → Place) (c : Cell) → ℕ → Place
nest_middle corner c p = on_axis corner (nest_edge (count_of c)) (nest_rank c p) (nest_count (count_of c))
