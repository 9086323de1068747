-- Examples of cells beside those of mesh's table: every loop's answer and points, the routes of some half-edges, and what is counted of a
-- recorded loop.
use Rattle.std.specs.Prelude.{ℕ, suc, ◌+◌, ◌/◌, ◌≡◌, List, [], ◌∷◌, ◌++◌, length, get_or}
use Rattle.counting.specs.Lists.{over}
use Rattle.answer.specs.Answer.{result_of}
use Rattle.cell.specs.Cell.{Edges, crossings}
use Rattle.cell.specs.Of.{edges_of}
use Rattle.cell.specs.Loop.{loop_size, dart, in_grid, leasts, loop_answer}
use Rattle.cell.specs.work.Route.{front, links}
use Rattle.cell.specs.work.Round.{crosses_in}

-- a cell by its counts, its edges' first crossing numbers and its nodes; how many crossings it has, the answers for loop 0 and on to the first
-- that is none, and the points of each loop
pub record Example : Type 0 where
  pub counts : List ℕ
  pub starts : List ℕ
  pub nodes : List ℕ
  pub crossings : ℕ
  pub loops : List (List ℕ)
  pub points : List (List ℕ)

abbrev pub edges : (counts starts : List ℕ) → Edges
edges counts starts = edges_of (record { counts = counts; starts = starts; names = []; nodes = []; index = 0 })

-- the only cell of a grid, 0 1 2 3
unfoldable pub alone : (a b c d e f : ℕ) (loops points : List (List ℕ)) → Example
alone a b c d e f loops points = record {
  counts = a ∷ b ∷ c ∷ d ∷ e ∷ f ∷ [];
  starts = 0 ∷ a ∷ (a + b) ∷ (a + b + c) ∷ (a + b + c + d) ∷ (a + b + c + d + e) ∷ [];
  nodes = 0 ∷ 1 ∷ 2 ∷ 3 ∷ [];
  crossings = a + b + c + d + e + f;
  loops = loops;
  points = points;
}

-- a cell of some grid
unfoldable pub among : (counts starts : List ℕ) (crossings : ℕ) (loops points : List (List ℕ)) → Example
among counts starts n loops points = record {
  counts = counts;
  starts = starts;
  nodes = 4 ∷ 7 ∷ 9 ∷ 11 ∷ [];
  crossings = n;
  loops = loops;
  points = points;
}

abbrev rising : List ℕ
rising = 10 ∷ 20 ∷ 30 ∷ 40 ∷ 50 ∷ 60 ∷ []

abbrev no : List ℕ
no = result_of []

unfoldable pub examples : List Example
unfolding alone among
examples =
    -- an open curve and a loop: the first crossing is unjoined, the others are a loop
    alone 3 0 0 0 0 0 (result_of (1 ∷ 2 ∷ 0 ∷ 0 ∷ []) ∷ no ∷ []) ((1 ∷ 2 ∷ []) ∷ [])
    -- two loops, each typed by its own crossings: both are corners, though the cell's counts are even
    ∷ alone 2 2 2 0 0 0 (result_of (0 ∷ 3 ∷ 1 ∷ 3 ∷ 0 ∷ []) ∷ result_of (1 ∷ 3 ∷ 1 ∷ 3 ∷ 0 ∷ []) ∷ no ∷ []) ((0 ∷ 2 ∷ 4 ∷ []) ∷ (1 ∷ 3 ∷ 5 ∷ []) ∷ [])
    -- corners at the other nodes
    ∷ alone 1 0 0 1 1 0 (result_of (0 ∷ 3 ∷ 1 ∷ 1 ∷ 1 ∷ []) ∷ no ∷ []) ((0 ∷ 1 ∷ 2 ∷ []) ∷ [])
    ∷ alone 0 1 0 1 0 1 (result_of (0 ∷ 3 ∷ 1 ∷ 1 ∷ 2 ∷ []) ∷ no ∷ []) ((0 ∷ 1 ∷ 2 ∷ []) ∷ [])
    ∷ alone 0 0 1 0 1 1 (result_of (0 ∷ 3 ∷ 1 ∷ 1 ∷ 3 ∷ []) ∷ no ∷ []) ((0 ∷ 1 ∷ 2 ∷ []) ∷ [])
    -- diagonal, the lowest node with 2 and with 3
    ∷ alone 1 0 1 1 0 1 (result_of (0 ∷ 4 ∷ 1 ∷ 2 ∷ 2 ∷ []) ∷ no ∷ []) ((0 ∷ 2 ∷ 3 ∷ 1 ∷ []) ∷ [])
    ∷ alone 1 1 0 0 1 1 (result_of (0 ∷ 4 ∷ 1 ∷ 2 ∷ 3 ∷ []) ∷ no ∷ []) ((0 ∷ 1 ∷ 3 ∷ 2 ∷ []) ∷ [])
    -- only the closing segment goes along its edge
    ∷ alone 2 1 0 1 0 1 (result_of (0 ∷ 5 ∷ 0 ∷ 1 ∷ 2 ∷ []) ∷ no ∷ []) ((0 ∷ 2 ∷ 4 ∷ 3 ∷ 1 ∷ []) ∷ [])
    -- the numbers of crossings and nodes are those of the grid
    ∷ among (0 ∷ 1 ∷ 1 ∷ 1 ∷ 1 ∷ 0 ∷ []) rising 4 (result_of (20 ∷ 4 ∷ 1 ∷ 2 ∷ 7 ∷ []) ∷ no ∷ []) ((20 ∷ 40 ∷ 50 ∷ 30 ∷ []) ∷ [])
    ∷ among (1 ∷ 1 ∷ 1 ∷ 0 ∷ 0 ∷ 0 ∷ []) rising 3 (result_of (10 ∷ 3 ∷ 1 ∷ 3 ∷ 4 ∷ []) ∷ no ∷ []) ((10 ∷ 20 ∷ 30 ∷ []) ∷ [])
    -- first numbers that do not rise: p0 is the least number, and the loops are ordered by it
    ∷ among (2 ∷ 2 ∷ 2 ∷ 0 ∷ 0 ∷ 0 ∷ []) (20 ∷ 30 ∷ 10 ∷ 40 ∷ 40 ∷ 40 ∷ []) 6
    (result_of (10 ∷ 3 ∷ 1 ∷ 3 ∷ 4 ∷ []) ∷ result_of (11 ∷ 3 ∷ 1 ∷ 3 ∷ 4 ∷ []) ∷ no ∷ []) ((10 ∷ 20 ∷ 30 ∷ []) ∷ (11 ∷ 21 ∷ 31 ∷ []) ∷ [])
    ∷ []

-- what the definitions say of a cell, and what stands in the table
module _ (w : Edges) (v : List ℕ) where
  unfoldable pub loops_of : List (List ℕ)
  loops_of = over (λ k. loop_answer w v k ∷ []) (suc (length (leasts w))) 0

  unfoldable pub points_of : ℕ → List ℕ
  points_of p = over (λ k. in_grid w (dart w p k / 2) ∷ []) (loop_size w p) 0

  unfoldable pub all_points : List (List ℕ)
  all_points = over (λ k. points_of (get_or (leasts w) k 0) ∷ []) (length (leasts w)) 0

unfoldable pub computed : List Example → List (List ℕ)
computed [] = []
computed (x ∷ l) =
    (crossings (edges x.counts x.starts) ∷ [])
    ∷ (loops_of (edges x.counts x.starts) x.nodes ++ (all_points (edges x.counts x.starts) x.nodes ++ computed l))

unfoldable pub listed : List Example → List (List ℕ)
listed [] = []
listed (x ∷ l) = (x.crossings ∷ []) ∷ (x.loops ++ (x.points ++ listed l))

-- Counts 5 1 0 1 0 0 with starts of their own: the routes of half-edges 9, 10, 11 in slot 3, a face 5 1 1, and of 6 in slot 2, a face 5 0 0.
-- Counts 4095 4096 300 65535 0 0, of which the second and the fourth are taken as 4,095: crossings, and the routes of 9, 10, 11, 6.
-- A recorded loop of edges 01, 02, 02, 01, and one of 01, 01, and of none: crossings on edge 01.
unfoldable pub parts_computed : List (List ℕ)
parts_computed =
    front w 9 ∷ front w 10 ∷ front w 11 ∷ front w 6 ∷ links 9 ∷ links 10 ∷ links 6
    ∷ (crossings v ∷ []) ∷ front v 9 ∷ front v 10 ∷ front v 11 ∷ front v 6
    ∷ (crosses_in round 0 ∷ crosses_in pair 0 ∷ crosses_in [] 0 ∷ [])
    ∷ []
  where
    w : Edges
    w = edges (5 ∷ 1 ∷ 0 ∷ 1 ∷ 0 ∷ 0 ∷ []) rising

    v : Edges
    v = edges (4095 ∷ 4096 ∷ 300 ∷ 65535 ∷ 0 ∷ 0 ∷ []) rising

    round : List ℕ
    round = 9 ∷ 3 ∷ 10 ∷ 6 ∷ []

    pair : List ℕ
    pair = 9 ∷ 6 ∷ []

unfoldable pub parts_listed : List (List ℕ)
parts_listed =
    (1 ∷ 1 ∷ 5 ∷ 0 ∷ 10 ∷ []) ∷ (1 ∷ 0 ∷ 1 ∷ 5 ∷ 20 ∷ []) ∷ (1 ∷ 0 ∷ 1 ∷ 6 ∷ 40 ∷ []) ∷ (0 ∷ 0 ∷ 5 ∷ 0 ∷ 10 ∷ [])
    ∷ (3 ∷ 0 ∷ 6 ∷ 0 ∷ []) ∷ (6 ∷ 0 ∷ 3 ∷ 1 ∷ []) ∷ (4 ∷ 1 ∷ 9 ∷ 0 ∷ [])
    ∷ (12585 ∷ []) ∷ (2047 ∷ 2047 ∷ 4095 ∷ 0 ∷ 10 ∷ []) ∷ (2047 ∷ 2047 ∷ 4095 ∷ 4095 ∷ 20 ∷ []) ∷ (2047 ∷ 2047 ∷ 4095 ∷ 8490 ∷ 40 ∷ []) ∷ (300 ∷ 0 ∷ 4095 ∷ 0 ∷ 10 ∷ [])
    ∷ (2 ∷ 2 ∷ 0 ∷ [])
    ∷ []

abbrev pub ExamplesHold : Type 0
ExamplesHold = computed examples ++ parts_computed ≡ listed examples ++ parts_listed
