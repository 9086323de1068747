-- Grids and their answers: the examples of 01's table for rows 1 to 9, limits, row 18, wrong starts, and grids with several faults; openings and
-- settings.
use Rattle.std.specs.Prelude.{ℕ, List, [], ◌∷◌}
use Rattle.answer.specs.Answer.{result_of, refusal}
use Rattle.counting.specs.Lists.{one, over}
use Rattle.grid.specs.Grid.{Grid, grid_of, outer, start, built}
use Rattle.grid.specs.work.Tables.{name_at, side_at}
use Rattle.grid.specs.Opening.{open_answer, open_starts}
use Rattle.grid.specs.claims.Setting.{Setting, set_all}
use Rattle.grid.specs.Setting.{set_answer, set_counts, set_starts}

pub record Example : Type 0 where
  pub grid : Grid
  pub answer : List ℕ

-- a grid with the starts that it should have, and one with others
abbrev example : List ℕ → List ℕ → List ℕ → List ℕ → Example
example cells edges counts answer = record { grid = built cells edges counts; answer = answer }

abbrev started : List ℕ → List ℕ → List ℕ → List ℕ → List ℕ → Example
started cells edges counts starts answer = record { grid = grid_of cells edges counts starts; answer = answer }

-- a list of each example
unfoldable pub of : (Example → List ℕ) → List Example → List (List ℕ)
of f [] = []
of f (x ∷ l) = f x ∷ of f l

-- one cell, its six edges, and counts for them
abbrev cell : List ℕ
cell = 0 ∷ 1 ∷ 2 ∷ 3 ∷ []

abbrev six : List ℕ
six = 0 ∷ 1 ∷ 0 ∷ 2 ∷ 0 ∷ 3 ∷ 1 ∷ 2 ∷ 1 ∷ 3 ∷ 2 ∷ 3 ∷ []

abbrev zeros : List ℕ
zeros = 0 ∷ 0 ∷ 0 ∷ 0 ∷ 0 ∷ 0 ∷ []

-- cells 0123 and 0145, which share the edge 01 alone
abbrev apart : List ℕ
apart = 0 ∷ 1 ∷ 2 ∷ 3 ∷ 0 ∷ 1 ∷ 4 ∷ 5 ∷ []

abbrev apart_edges : List ℕ
apart_edges = 0 ∷ 1 ∷ 0 ∷ 2 ∷ 0 ∷ 3 ∷ 0 ∷ 4 ∷ 0 ∷ 5 ∷ 1 ∷ 2 ∷ 1 ∷ 3 ∷ 1 ∷ 4 ∷ 1 ∷ 5 ∷ 2 ∷ 3 ∷ 4 ∷ 5 ∷ []

abbrev eleven : List ℕ
eleven = 0 ∷ 0 ∷ 0 ∷ 0 ∷ 0 ∷ 0 ∷ 0 ∷ 0 ∷ 0 ∷ 0 ∷ 0 ∷ []

-- cells 0123, 0134, 0145: the first and the last share the edge 01 and no face, and are linked through the one between
abbrev chain : List ℕ
chain = 0 ∷ 1 ∷ 2 ∷ 3 ∷ 0 ∷ 1 ∷ 3 ∷ 4 ∷ 0 ∷ 1 ∷ 4 ∷ 5 ∷ []

abbrev chain_edges : List ℕ
chain_edges = 0 ∷ 1 ∷ 0 ∷ 2 ∷ 0 ∷ 3 ∷ 0 ∷ 4 ∷ 0 ∷ 5 ∷ 1 ∷ 2 ∷ 1 ∷ 3 ∷ 1 ∷ 4 ∷ 1 ∷ 5 ∷ 2 ∷ 3 ∷ 3 ∷ 4 ∷ 4 ∷ 5 ∷ []

abbrev twelve : List ℕ
twelve = 0 ∷ 0 ∷ 0 ∷ 0 ∷ 0 ∷ 0 ∷ 0 ∷ 0 ∷ 0 ∷ 0 ∷ 0 ∷ 0 ∷ []

-- three cells that share no node
abbrev loose : List ℕ
loose = 0 ∷ 1 ∷ 2 ∷ 3 ∷ 4 ∷ 5 ∷ 6 ∷ 7 ∷ 8 ∷ 9 ∷ 10 ∷ 11 ∷ []

abbrev loose_edges : List ℕ
loose_edges = 0 ∷ 1 ∷ 0 ∷ 2 ∷ 0 ∷ 3 ∷ 1 ∷ 2 ∷ 1 ∷ 3 ∷ 2 ∷ 3 ∷ 4 ∷ 5 ∷ 4 ∷ 6 ∷ 4 ∷ 7 ∷ 5 ∷ 6 ∷ 5 ∷ 7 ∷ 6 ∷ 7 ∷ 8 ∷ 9 ∷ 8 ∷ 10 ∷ 8 ∷ 11 ∷ 9 ∷ 10 ∷ 9 ∷ 11 ∷ 10 ∷ 11 ∷ []

-- cells 0123 and 0145 as above, and 6789; with so many edges each count can be within its limit and the crossings too many
abbrev many : List ℕ
many = 0 ∷ 1 ∷ 2 ∷ 3 ∷ 0 ∷ 1 ∷ 4 ∷ 5 ∷ 6 ∷ 7 ∷ 8 ∷ 9 ∷ []

abbrev many_edges : List ℕ
many_edges = 0 ∷ 1 ∷ 0 ∷ 2 ∷ 0 ∷ 3 ∷ 0 ∷ 4 ∷ 0 ∷ 5 ∷ 1 ∷ 2 ∷ 1 ∷ 3 ∷ 1 ∷ 4 ∷ 1 ∷ 5 ∷ 2 ∷ 3 ∷ 4 ∷ 5 ∷ 6 ∷ 7 ∷ 6 ∷ 8 ∷ 6 ∷ 9 ∷ 7 ∷ 8 ∷ 7 ∷ 9 ∷ 8 ∷ 9 ∷ []

-- the greatest count, sixteen times, before others
abbrev sixteen : List ℕ → List ℕ
sixteen more = 4095 ∷ 4095 ∷ 4095 ∷ 4095 ∷ 4095 ∷ 4095 ∷ 4095 ∷ 4095 ∷ 4095 ∷ 4095 ∷ 4095 ∷ 4095 ∷ 4095 ∷ 4095 ∷ 4095 ∷ 4095 ∷ more

unfoldable pub examples : List Example
examples =
    -- accepted: no crossing, one, and one count for each edge
    example cell six zeros (result_of (0 ∷ []))
    ∷ example cell six (1 ∷ 0 ∷ 0 ∷ 0 ∷ 0 ∷ 0 ∷ []) (result_of (1 ∷ []))
    ∷ example cell six (1 ∷ 2 ∷ 3 ∷ 4 ∷ 5 ∷ 6 ∷ []) (result_of (21 ∷ []))
    -- 1: five numbers, six, none
    ∷ example (0 ∷ 1 ∷ 2 ∷ 3 ∷ 4 ∷ []) six zeros (refusal 1 0)
    ∷ example (0 ∷ 1 ∷ 2 ∷ 3 ∷ 4 ∷ 5 ∷ []) six zeros (refusal 1 0)
    ∷ example [] [] [] (refusal 1 0)
    -- 2: three numbers and one count, one count too few, one too many, none
    ∷ example cell (0 ∷ 1 ∷ 0 ∷ []) (0 ∷ []) (refusal 2 0)
    ∷ example cell six (0 ∷ 0 ∷ 0 ∷ 0 ∷ 0 ∷ []) (refusal 2 0)
    ∷ example cell six (0 ∷ 0 ∷ 0 ∷ 0 ∷ 0 ∷ 0 ∷ 0 ∷ []) (refusal 2 0)
    ∷ example cell six [] (refusal 2 0)
    -- the starts 0 1 3 6 10 15; 2: one start too few, one too many, none; the last start wrong, the first; starts that count their own edge
    ∷ started cell six (1 ∷ 2 ∷ 3 ∷ 4 ∷ 5 ∷ 6 ∷ []) (0 ∷ 1 ∷ 3 ∷ 6 ∷ 10 ∷ 15 ∷ []) (result_of (21 ∷ []))
    ∷ started cell six (1 ∷ 2 ∷ 3 ∷ 4 ∷ 5 ∷ 6 ∷ []) (0 ∷ 1 ∷ 3 ∷ 6 ∷ 10 ∷ []) (refusal 2 0)
    ∷ started cell six (1 ∷ 2 ∷ 3 ∷ 4 ∷ 5 ∷ 6 ∷ []) (0 ∷ 1 ∷ 3 ∷ 6 ∷ 10 ∷ 15 ∷ 21 ∷ []) (refusal 2 0)
    ∷ started cell six zeros [] (refusal 2 0)
    ∷ started cell six (1 ∷ 2 ∷ 3 ∷ 4 ∷ 5 ∷ 6 ∷ []) (0 ∷ 1 ∷ 3 ∷ 6 ∷ 10 ∷ 14 ∷ []) (refusal 2 0)
    ∷ started cell six zeros (1 ∷ 0 ∷ 0 ∷ 0 ∷ 0 ∷ 0 ∷ []) (refusal 2 0)
    ∷ started cell six (1 ∷ 2 ∷ 3 ∷ 4 ∷ 5 ∷ 6 ∷ []) (1 ∷ 3 ∷ 6 ∷ 10 ∷ 15 ∷ 21 ∷ []) (refusal 2 0)
    -- 3: 0 2 1 3, a node twice, the node 4,096, the highest 16-bit node in the second cell
    ∷ example (0 ∷ 2 ∷ 1 ∷ 3 ∷ []) six zeros (refusal 3 0)
    ∷ example (0 ∷ 1 ∷ 1 ∷ 3 ∷ []) six zeros (refusal 3 0)
    ∷ example (0 ∷ 1 ∷ 2 ∷ 4096 ∷ []) six zeros (refusal 3 0)
    ∷ example (0 ∷ 1 ∷ 2 ∷ 3 ∷ 0 ∷ 1 ∷ 2 ∷ 65535 ∷ []) six zeros (refusal 3 1)
    -- the node 4,095 is no fault, and then its edges are not listed
    ∷ example (0 ∷ 1 ∷ 2 ∷ 4095 ∷ []) six zeros (refusal 7 0)
    -- 4: 0 1 2 3 twice, and a third time after another cell
    ∷ example (0 ∷ 1 ∷ 2 ∷ 3 ∷ 0 ∷ 1 ∷ 2 ∷ 3 ∷ []) six zeros (refusal 4 1)
    ∷ example (0 ∷ 1 ∷ 2 ∷ 3 ∷ 0 ∷ 1 ∷ 2 ∷ 4 ∷ 0 ∷ 1 ∷ 2 ∷ 4 ∷ []) six zeros (refusal 4 2)
    -- 5: the face 0 1 2 with 3, 4, 5; the fourth cell of it is no lower fault
    ∷ example (0 ∷ 1 ∷ 2 ∷ 3 ∷ 0 ∷ 1 ∷ 2 ∷ 4 ∷ 0 ∷ 1 ∷ 2 ∷ 5 ∷ []) six zeros (refusal 5 2)
    ∷ example (0 ∷ 1 ∷ 2 ∷ 3 ∷ 0 ∷ 1 ∷ 2 ∷ 4 ∷ 0 ∷ 1 ∷ 2 ∷ 5 ∷ 0 ∷ 1 ∷ 2 ∷ 6 ∷ []) six zeros (refusal 5 2)
    -- 4 at its lowest place, whatever cells are met again, and before 5 wherever they stand; of two faces in three cells the one whose third comes first
    ∷ example (0 ∷ 1 ∷ 2 ∷ 3 ∷ 0 ∷ 1 ∷ 4 ∷ 5 ∷ 0 ∷ 1 ∷ 4 ∷ 5 ∷ 0 ∷ 1 ∷ 2 ∷ 3 ∷ []) six zeros (refusal 4 2)
    ∷ example (0 ∷ 1 ∷ 2 ∷ 3 ∷ 0 ∷ 1 ∷ 2 ∷ 4 ∷ 0 ∷ 1 ∷ 2 ∷ 5 ∷ 0 ∷ 1 ∷ 2 ∷ 4 ∷ []) six zeros (refusal 4 3)
    ∷ example (0 ∷ 1 ∷ 2 ∷ 3 ∷ 0 ∷ 1 ∷ 2 ∷ 4 ∷ 0 ∷ 1 ∷ 3 ∷ 5 ∷ 0 ∷ 1 ∷ 2 ∷ 6 ∷ 0 ∷ 1 ∷ 3 ∷ 7 ∷ []) six zeros (refusal 5 3)
    ∷ example (0 ∷ 1 ∷ 2 ∷ 3 ∷ 0 ∷ 1 ∷ 2 ∷ 4 ∷ 0 ∷ 1 ∷ 3 ∷ 5 ∷ 0 ∷ 1 ∷ 3 ∷ 7 ∷ 0 ∷ 1 ∷ 2 ∷ 6 ∷ []) six zeros (refusal 5 3)
    -- 6: 1 1, an edge twice, two edges in the wrong order by the lower end and by the higher
    ∷ example cell (1 ∷ 1 ∷ 0 ∷ 2 ∷ 0 ∷ 3 ∷ 1 ∷ 2 ∷ 1 ∷ 3 ∷ 2 ∷ 3 ∷ []) zeros (refusal 6 0)
    ∷ example cell (0 ∷ 1 ∷ 0 ∷ 1 ∷ 0 ∷ 3 ∷ 1 ∷ 2 ∷ 1 ∷ 3 ∷ 2 ∷ 3 ∷ []) zeros (refusal 6 1)
    ∷ example cell (0 ∷ 1 ∷ 0 ∷ 2 ∷ 0 ∷ 3 ∷ 1 ∷ 2 ∷ 2 ∷ 3 ∷ 1 ∷ 3 ∷ []) zeros (refusal 6 5)
    ∷ example cell (0 ∷ 1 ∷ 0 ∷ 3 ∷ 0 ∷ 2 ∷ 1 ∷ 2 ∷ 1 ∷ 3 ∷ 2 ∷ 3 ∷ []) zeros (refusal 6 2)
    -- 18: 4,095 is allowed, one more is not; the lowest of two, and the highest 16-bit count
    ∷ example cell six (0 ∷ 0 ∷ 4095 ∷ 0 ∷ 0 ∷ 0 ∷ []) (result_of (4095 ∷ []))
    ∷ example cell six (0 ∷ 0 ∷ 4096 ∷ 0 ∷ 0 ∷ 0 ∷ []) (refusal 18 2)
    ∷ example cell six (0 ∷ 4096 ∷ 0 ∷ 0 ∷ 65535 ∷ 0 ∷ []) (refusal 18 1)
    ∷ example cell six (0 ∷ 0 ∷ 0 ∷ 0 ∷ 0 ∷ 65535 ∷ []) (refusal 18 5)
    -- 7: without 2 3, and without any
    ∷ example cell (0 ∷ 1 ∷ 0 ∷ 2 ∷ 0 ∷ 3 ∷ 1 ∷ 2 ∷ 1 ∷ 3 ∷ []) (0 ∷ 0 ∷ 0 ∷ 0 ∷ 0 ∷ []) (refusal 7 0)
    ∷ example cell [] [] (refusal 7 0)
    ∷ example apart (0 ∷ 1 ∷ 0 ∷ 2 ∷ 0 ∷ 3 ∷ 1 ∷ 2 ∷ 1 ∷ 3 ∷ 2 ∷ 3 ∷ []) zeros (refusal 7 1)
    -- 0 3 is not listed, though 0 4099 is
    ∷ example cell (0 ∷ 1 ∷ 0 ∷ 2 ∷ 0 ∷ 4099 ∷ 1 ∷ 2 ∷ 1 ∷ 3 ∷ 2 ∷ 3 ∷ []) zeros (refusal 7 0)
    -- 8: 7 8 added, 0 4 among the others and 7 8, and the highest 16-bit nodes
    ∷ example cell (0 ∷ 1 ∷ 0 ∷ 2 ∷ 0 ∷ 3 ∷ 1 ∷ 2 ∷ 1 ∷ 3 ∷ 2 ∷ 3 ∷ 7 ∷ 8 ∷ []) (0 ∷ 0 ∷ 0 ∷ 0 ∷ 0 ∷ 0 ∷ 0 ∷ []) (refusal 8 6)
    ∷ example cell (0 ∷ 1 ∷ 0 ∷ 2 ∷ 0 ∷ 3 ∷ 0 ∷ 4 ∷ 1 ∷ 2 ∷ 1 ∷ 3 ∷ 2 ∷ 3 ∷ 7 ∷ 8 ∷ []) (0 ∷ 0 ∷ 0 ∷ 0 ∷ 0 ∷ 0 ∷ 0 ∷ 0 ∷ []) (refusal 8 3)
    ∷ example cell (0 ∷ 1 ∷ 0 ∷ 2 ∷ 0 ∷ 3 ∷ 1 ∷ 2 ∷ 1 ∷ 3 ∷ 2 ∷ 3 ∷ 65534 ∷ 65535 ∷ []) (0 ∷ 0 ∷ 0 ∷ 0 ∷ 0 ∷ 0 ∷ 0 ∷ []) (refusal 8 6)
    -- six edges that no cell has, before the six of the cell
    ∷ example (6 ∷ 7 ∷ 8 ∷ 9 ∷ []) (0 ∷ 1 ∷ 0 ∷ 2 ∷ 0 ∷ 3 ∷ 1 ∷ 2 ∷ 1 ∷ 3 ∷ 2 ∷ 3 ∷ 6 ∷ 7 ∷ 6 ∷ 8 ∷ 6 ∷ 9 ∷ 7 ∷ 8 ∷ 7 ∷ 9 ∷ 8 ∷ 9 ∷ []) twelve (refusal 8 0)
    -- 9: 0123 and 0145 share an edge and no face; a chain of three cells about an edge is linked
    ∷ example apart apart_edges eleven (refusal 9 0)
    ∷ example chain chain_edges twelve (result_of (0 ∷ []))
    -- the faces 0 2 3 and 1 2 3 have two nodes in common and are two
    ∷ example (0 ∷ 2 ∷ 3 ∷ 4 ∷ 1 ∷ 2 ∷ 3 ∷ 5 ∷ []) (0 ∷ 2 ∷ 0 ∷ 3 ∷ 0 ∷ 4 ∷ 1 ∷ 2 ∷ 1 ∷ 3 ∷ 1 ∷ 5 ∷ 2 ∷ 3 ∷ 2 ∷ 4 ∷ 2 ∷ 5 ∷ 3 ∷ 4 ∷ 3 ∷ 5 ∷ []) eleven (refusal 9 6)
    -- 10: 65,535 crossings are allowed, one more is not
    ∷ example loose loose_edges (sixteen (15 ∷ 0 ∷ [])) (result_of (65535 ∷ []))
    ∷ example loose loose_edges (sixteen (15 ∷ 1 ∷ [])) (refusal 10 0)
    ∷ example loose loose_edges (sixteen (4095 ∷ 4095 ∷ [])) (refusal 10 0)
    -- several faults: the first row, and in it the lowest place
    ∷ started (0 ∷ 2 ∷ 1 ∷ 3 ∷ 9 ∷ []) six zeros (1 ∷ []) (refusal 1 0)
    ∷ started (0 ∷ 2 ∷ 1 ∷ 3 ∷ []) six zeros (1 ∷ 0 ∷ 0 ∷ 0 ∷ 0 ∷ 0 ∷ []) (refusal 2 0)
    ∷ example (0 ∷ 2 ∷ 1 ∷ 3 ∷ 9 ∷ []) (1 ∷ 1 ∷ 1 ∷ []) (65535 ∷ 1 ∷ []) (refusal 1 0)
    ∷ example (0 ∷ 2 ∷ 1 ∷ 3 ∷ []) (1 ∷ 1 ∷ 1 ∷ []) (65535 ∷ 1 ∷ []) (refusal 2 0)
    ∷ example (0 ∷ 1 ∷ 2 ∷ 3 ∷ 0 ∷ 1 ∷ 2 ∷ 3 ∷ 0 ∷ 1 ∷ 2 ∷ 3 ∷ 3 ∷ 2 ∷ 1 ∷ 0 ∷ []) (1 ∷ 1 ∷ 1 ∷ 1 ∷ []) (65535 ∷ 1 ∷ []) (refusal 3 3)
    ∷ example (0 ∷ 1 ∷ 2 ∷ 3 ∷ 0 ∷ 1 ∷ 2 ∷ 3 ∷ 0 ∷ 1 ∷ 2 ∷ 3 ∷ []) (1 ∷ 1 ∷ 1 ∷ 1 ∷ []) (65535 ∷ 1 ∷ []) (refusal 4 1)
    ∷ example (0 ∷ 1 ∷ 2 ∷ 3 ∷ 0 ∷ 1 ∷ 2 ∷ 4 ∷ 0 ∷ 1 ∷ 2 ∷ 5 ∷ []) (1 ∷ 1 ∷ 1 ∷ 1 ∷ []) (65535 ∷ 1 ∷ []) (refusal 5 2)
    ∷ example apart (0 ∷ 1 ∷ 7 ∷ 8 ∷ 1 ∷ 1 ∷ 2 ∷ 2 ∷ []) (65535 ∷ 1 ∷ 0 ∷ 0 ∷ []) (refusal 6 2)
    ∷ example apart (0 ∷ 1 ∷ 7 ∷ 8 ∷ 8 ∷ 9 ∷ []) (1 ∷ 4096 ∷ 65535 ∷ []) (refusal 18 1)
    ∷ example many
    (0 ∷ 1 ∷ 0 ∷ 2 ∷ 0 ∷ 3 ∷ 0 ∷ 4 ∷ 0 ∷ 5 ∷ 1 ∷ 2 ∷ 1 ∷ 3 ∷ 1 ∷ 4 ∷ 1 ∷ 5 ∷ 2 ∷ 3 ∷ 2 ∷ 4 ∷ 6 ∷ 7 ∷ 6 ∷ 8 ∷ 7 ∷ 8 ∷ 7 ∷ 9 ∷ 8 ∷ 9 ∷ 8 ∷ 10 ∷ [])
    (sixteen (4095 ∷ [])) (refusal 7 1)
    ∷ example many
    (0 ∷ 1 ∷ 0 ∷ 2 ∷ 0 ∷ 3 ∷ 0 ∷ 4 ∷ 0 ∷ 5 ∷ 1 ∷ 2 ∷ 1 ∷ 3 ∷ 1 ∷ 4 ∷ 1 ∷ 5 ∷ 2 ∷ 3 ∷ 2 ∷ 4 ∷ 4 ∷ 5 ∷ 6 ∷ 7 ∷ 6 ∷ 8 ∷ 6 ∷ 9 ∷ 7 ∷ 8 ∷ 7 ∷ 9 ∷ 8 ∷ 9 ∷ 8 ∷ 10 ∷ [])
    (sixteen (4095 ∷ 0 ∷ 0 ∷ [])) (refusal 8 10)
    ∷ example many many_edges (sixteen (4095 ∷ [])) (refusal 9 0)
    ∷ []

-- the values of f below n
abbrev values : ℕ → (ℕ → ℕ) → List ℕ
values n f = over (λ i. f i ∷ []) n 0

-- three cells round the edge 01, which is therefore not outer
abbrev round : List ℕ
round = 0 ∷ 1 ∷ 2 ∷ 3 ∷ 0 ∷ 1 ∷ 2 ∷ 4 ∷ 0 ∷ 1 ∷ 3 ∷ 4 ∷ []

abbrev round_edges : List ℕ
round_edges = 0 ∷ 1 ∷ 0 ∷ 2 ∷ 0 ∷ 3 ∷ 0 ∷ 4 ∷ 1 ∷ 2 ∷ 1 ∷ 3 ∷ 1 ∷ 4 ∷ 2 ∷ 3 ∷ 2 ∷ 4 ∷ 3 ∷ 4 ∷ []

-- of the chain: names, edge numbers; of the three round an edge: outer edges; starts and the number of crossings
unfoldable pub found : List (List ℕ)
found =
    values 12 (name_at chain)
    ∷ values 18 (side_at (built chain chain_edges twelve))
    ∷ values 10 (λ e. one (outer (built round round_edges []) e))
    ∷ values 7 (start (1 ∷ 2 ∷ 3 ∷ 4 ∷ 5 ∷ 6 ∷ []))
    ∷ []

unfoldable pub expected : List (List ℕ)
expected =
    (0 ∷ 1 ∷ 2 ∷ 3 ∷ 4 ∷ 5 ∷ 6 ∷ 2 ∷ 8 ∷ 9 ∷ 10 ∷ 6 ∷ [])
    ∷ (0 ∷ 1 ∷ 2 ∷ 5 ∷ 6 ∷ 9 ∷ 0 ∷ 2 ∷ 3 ∷ 6 ∷ 7 ∷ 10 ∷ 0 ∷ 3 ∷ 4 ∷ 7 ∷ 8 ∷ 11 ∷ [])
    ∷ (0 ∷ 1 ∷ 1 ∷ 1 ∷ 1 ∷ 1 ∷ 1 ∷ 1 ∷ 1 ∷ 1 ∷ [])
    ∷ (0 ∷ 1 ∷ 3 ∷ 6 ∷ 10 ∷ 15 ∷ 21 ∷ [])
    ∷ []

-- OPENINGS AND SETTINGS of the cell with the counts 1 to 6: what is answered, and the lists afterwards

abbrev up_to_six : List ℕ
up_to_six = 1 ∷ 2 ∷ 3 ∷ 4 ∷ 5 ∷ 6 ∷ []

abbrev sums : List ℕ
sums = 0 ∷ 1 ∷ 3 ∷ 6 ∷ 10 ∷ 15 ∷ []

-- the answer and the starts after an opening that is lent these
abbrev opening : List ℕ → List ℕ → List (List ℕ)
opening counts starts = open_answer (grid_of cell six counts starts) ∷ open_starts (grid_of cell six counts starts) ∷ []

-- the answer, the counts and the starts after a setting of a grid with these starts
abbrev setting_of : List ℕ → ℕ → ℕ → List (List ℕ)
setting_of starts edge count =
    set_answer (grid_of cell six up_to_six starts) edge count
    ∷ set_counts (grid_of cell six up_to_six starts) edge count
    ∷ set_starts (grid_of cell six up_to_six starts) edge count
    ∷ []

abbrev setting : ℕ → ℕ → Setting
setting edge count = record { edge = edge; count = count }

-- settings in turn, two of them refused
abbrev in_turn : Grid
in_turn = set_all (setting 2 7 ∷ setting 6 1 ∷ setting 2 4096 ∷ setting 0 0 ∷ []) (built cell six up_to_six)

-- the greatest number of crossings
abbrev full : Grid
full = built loose loose_edges (sixteen (15 ∷ 0 ∷ []))

unfoldable pub tried : List (List (List ℕ))
tried =
    -- whatever the starts are, but not whatever their number is; a refusal keeps them
    opening up_to_six (9 ∷ 9 ∷ 9 ∷ 9 ∷ 9 ∷ 9 ∷ [])
    ∷ opening up_to_six (9 ∷ 9 ∷ 9 ∷ 9 ∷ 9 ∷ [])
    ∷ opening up_to_six (9 ∷ 9 ∷ 9 ∷ 9 ∷ 9 ∷ 9 ∷ 9 ∷ [])
    ∷ opening (1 ∷ 2 ∷ 4096 ∷ 4 ∷ 5 ∷ 6 ∷ []) (9 ∷ 9 ∷ 9 ∷ 9 ∷ 9 ∷ 9 ∷ [])
    -- all later starts change, none before; the first edge, the last
    ∷ setting_of sums 2 7
    ∷ setting_of sums 0 0
    ∷ setting_of sums 5 4095
    -- 21 before 18; the starts as they are lent before 21
    ∷ setting_of sums 6 0
    ∷ setting_of sums 6 4096
    ∷ setting_of sums 2 4096
    ∷ setting_of (0 ∷ 1 ∷ 3 ∷ 6 ∷ 10 ∷ 16 ∷ []) 6 0
    ∷ (in_turn.counts ∷ in_turn.starts ∷ [])
    -- 18 before 10; the total without the count that is replaced; the crossings as they are lent before 21
    ∷ (set_answer full 17 4096 ∷ set_answer full 17 1 ∷ set_answer full 0 4095 ∷ set_answer full 16 14 ∷ set_answer (built loose loose_edges (sixteen (15 ∷ 1 ∷ []))) 18 0 ∷ [])
    ∷ []

unfoldable pub tried_expected : List (List (List ℕ))
tried_expected =
    (result_of (21 ∷ []) ∷ sums ∷ [])
    ∷ (refusal 2 0 ∷ (9 ∷ 9 ∷ 9 ∷ 9 ∷ 9 ∷ []) ∷ [])
    ∷ (refusal 2 0 ∷ (9 ∷ 9 ∷ 9 ∷ 9 ∷ 9 ∷ 9 ∷ 9 ∷ []) ∷ [])
    ∷ (refusal 18 2 ∷ (9 ∷ 9 ∷ 9 ∷ 9 ∷ 9 ∷ 9 ∷ []) ∷ [])
    ∷ (result_of (25 ∷ []) ∷ (1 ∷ 2 ∷ 7 ∷ 4 ∷ 5 ∷ 6 ∷ []) ∷ (0 ∷ 1 ∷ 3 ∷ 10 ∷ 14 ∷ 19 ∷ []) ∷ [])
    ∷ (result_of (20 ∷ []) ∷ (0 ∷ 2 ∷ 3 ∷ 4 ∷ 5 ∷ 6 ∷ []) ∷ (0 ∷ 0 ∷ 2 ∷ 5 ∷ 9 ∷ 14 ∷ []) ∷ [])
    ∷ (result_of (4110 ∷ []) ∷ (1 ∷ 2 ∷ 3 ∷ 4 ∷ 5 ∷ 4095 ∷ []) ∷ sums ∷ [])
    ∷ (refusal 21 6 ∷ up_to_six ∷ sums ∷ [])
    ∷ (refusal 21 6 ∷ up_to_six ∷ sums ∷ [])
    ∷ (refusal 18 2 ∷ up_to_six ∷ sums ∷ [])
    ∷ (refusal 2 0 ∷ up_to_six ∷ (0 ∷ 1 ∷ 3 ∷ 6 ∷ 10 ∷ 16 ∷ []) ∷ [])
    ∷ ((0 ∷ 2 ∷ 7 ∷ 4 ∷ 5 ∷ 6 ∷ []) ∷ (0 ∷ 0 ∷ 2 ∷ 9 ∷ 13 ∷ 18 ∷ []) ∷ [])
    ∷ (refusal 18 17 ∷ refusal 10 0 ∷ result_of (65535 ∷ []) ∷ result_of (65534 ∷ []) ∷ refusal 10 0 ∷ [])
    ∷ []
