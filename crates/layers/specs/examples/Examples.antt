-- Examples of cuts and runs, as one table, and a split cell at a cut.
use Rattle.std.specs.Prelude.{ℕ, ◌≡◌, List, [], ◌∷◌, map, length, replicate}
use Rattle.answer.specs.Answer.{result_of, refusal}
use Rattle.cell.specs.Words.{no_name}
use Rattle.grid.specs.Grid.{Grid, built}
use Rattle.split.specs.examples.Examples.{one_split}
use Rattle.mesh.specs.examples.Examples.{three_cells, three_edges, three_counts}
use Rattle.layers.specs.Answer.{run_answer, run_area, joined_answer, joined_area}

-- the lists, the cuts, the run asked for, the lent area; the answer, and the area afterwards
pub data Example : Type 0 where
  run : (cells edges counts cuts : List ℕ) (r : ℕ) (area answer after : List ℕ) → Example
  joined : (cells edges counts cuts area answer after : List ℕ) → Example

-- the same with what the definitions say
unfoldable pub computed : Example → Example
computed (run cells edges counts cuts r area answer after) =
    run cells edges counts cuts r area (run_answer (built cells edges counts) cuts r (length area)) (run_area (built cells edges counts) cuts r area)
computed (joined cells edges counts cuts area answer after) =
    joined cells edges counts cuts area (joined_answer (built cells edges counts) cuts (length area)) (joined_area (built cells edges counts) cuts area)

-- the cells 0123, 0145, 0134: the first two share the edge 01 and no face, and the third links them
abbrev chain_cells : List ℕ
chain_cells = 0 ∷ 1 ∷ 2 ∷ 3 ∷ 0 ∷ 1 ∷ 4 ∷ 5 ∷ 0 ∷ 1 ∷ 3 ∷ 4 ∷ []

abbrev chain_edges : List ℕ
chain_edges = 0 ∷ 1 ∷ 0 ∷ 2 ∷ 0 ∷ 3 ∷ 0 ∷ 4 ∷ 0 ∷ 5 ∷ 1 ∷ 2 ∷ 1 ∷ 3 ∷ 1 ∷ 4 ∷ 1 ∷ 5 ∷ 2 ∷ 3 ∷ 3 ∷ 4 ∷ 4 ∷ 5 ∷ []

abbrev chain_counts : List ℕ
chain_counts = 1 ∷ 0 ∷ 0 ∷ 0 ∷ 0 ∷ 1 ∷ 1 ∷ 1 ∷ 1 ∷ 0 ∷ 0 ∷ 2 ∷ []

-- the first two alone
abbrev apart_cells : List ℕ
apart_cells = 0 ∷ 1 ∷ 2 ∷ 3 ∷ 0 ∷ 1 ∷ 4 ∷ 5 ∷ []

abbrev apart_edges : List ℕ
apart_edges = 0 ∷ 1 ∷ 0 ∷ 2 ∷ 0 ∷ 3 ∷ 0 ∷ 4 ∷ 0 ∷ 5 ∷ 1 ∷ 2 ∷ 1 ∷ 3 ∷ 1 ∷ 4 ∷ 1 ∷ 5 ∷ 2 ∷ 3 ∷ 4 ∷ 5 ∷ []

unfoldable pub examples : List Example
examples =
    -- one run of two, in its own names; a face is shared only by cells of the run
    run three_cells three_edges three_counts (1 ∷ []) 0 (replicate 70 7) (result_of (2 ∷ 0 ∷ []))
    (0 ∷ 0 ∷ 0 ∷ 1 ∷ no_name ∷ 3 ∷ 0 ∷ no_name ∷ 1 ∷ no_name ∷ 0 ∷ 0 ∷ 0 ∷ 1 ∷ 0 ∷ no_name ∷ 2 ∷ 0 ∷ no_name ∷ 0 ∷ no_name ∷ 1 ∷ replicate 48 7)
    ∷ run three_cells three_edges three_counts (1 ∷ []) 1 (replicate 70 7) (result_of (4 ∷ 0 ∷ []))
    (0 ∷ 0 ∷ 0 ∷ 1 ∷ no_name ∷ 3 ∷ 0 ∷ no_name ∷ 1 ∷ no_name ∷ 0 ∷ 0 ∷ 0 ∷ 1 ∷ 0 ∷ no_name ∷ 2 ∷ 0 ∷ no_name ∷ 0 ∷ no_name ∷ 1 ∷ 1 ∷ 0 ∷ 0 ∷ 1 ∷ no_name ∷ 7 ∷ 0 ∷ no_name ∷ 1 ∷ no_name ∷ 0 ∷
    1 ∷ 0 ∷ 1 ∷ 0 ∷ no_name ∷ 2 ∷ 0 ∷ no_name ∷ 0 ∷ no_name ∷ 1 ∷ replicate 26 7)
    -- the last of three runs, in an area with one word more than it needs
    ∷ run three_cells three_edges three_counts (1 ∷ 2 ∷ []) 2 (replicate 23 7) (result_of (2 ∷ 0 ∷ []))
    (0 ∷ 0 ∷ 0 ∷ 1 ∷ no_name ∷ 3 ∷ 0 ∷ no_name ∷ 1 ∷ no_name ∷ 0 ∷ 0 ∷ 0 ∷ 1 ∷ 0 ∷ no_name ∷ 2 ∷ 0 ∷ no_name ∷ 0 ∷ no_name ∷ 1 ∷ replicate 1 7)
    -- joined, the names are those of the whole
    ∷ joined three_cells three_edges three_counts (1 ∷ 2 ∷ []) (replicate 70 7) (result_of (6 ∷ 0 ∷ []))
    (0 ∷ 0 ∷ 0 ∷ 1 ∷ no_name ∷ 3 ∷ 0 ∷ no_name ∷ 1 ∷ no_name ∷ 0 ∷ 0 ∷ 0 ∷ 1 ∷ 0 ∷ no_name ∷ 2 ∷ 0 ∷ no_name ∷ 0 ∷ no_name ∷ 1 ∷ 1 ∷ 0 ∷ 0 ∷ 1 ∷ no_name ∷ 3 ∷ 0 ∷ no_name ∷ 1 ∷ no_name ∷ 0 ∷
    1 ∷ 0 ∷ 1 ∷ 0 ∷ no_name ∷ 6 ∷ 0 ∷ no_name ∷ 0 ∷ no_name ∷ 1 ∷ 2 ∷ 0 ∷ 0 ∷ 1 ∷ no_name ∷ 2 ∷ 0 ∷ no_name ∷ 1 ∷ no_name ∷ 0 ∷ 2 ∷ 0 ∷ 1 ∷ 0 ∷ no_name ∷ 6 ∷ 0 ∷ no_name ∷ 0 ∷ no_name ∷ 1 ∷
    replicate 4 7)
    ∷ joined three_cells three_edges three_counts (2 ∷ []) (replicate 65 7) (refusal 12 6) (replicate 65 7)
    -- a run that row 9 would refuse, and the rest of that grid
    ∷ run chain_cells chain_edges chain_counts (2 ∷ []) 0 (replicate 70 7) (result_of (6 ∷ 0 ∷ []))
    (0 ∷ 0 ∷ 0 ∷ 1 ∷ 2 ∷ 3 ∷ 0 ∷ 0 ∷ 1 ∷ 2 ∷ 0 ∷ 1 ∷ 0 ∷ 0 ∷ 3 ∷ no_name ∷ 7 ∷ 0 ∷ no_name ∷ 1 ∷ no_name ∷ 0 ∷ 1 ∷ 0 ∷ 3 ∷ 5 ∷ no_name ∷ 4 ∷ 3 ∷ no_name ∷ 2 ∷ no_name ∷ 1 ∷
    1 ∷ 0 ∷ 5 ∷ 6 ∷ no_name ∷ 5 ∷ 5 ∷ no_name ∷ 3 ∷ no_name ∷ 2 ∷ 1 ∷ 0 ∷ 6 ∷ 4 ∷ no_name ∷ 4 ∷ 4 ∷ no_name ∷ 4 ∷ no_name ∷ 3 ∷ 1 ∷ 0 ∷ 4 ∷ 0 ∷ no_name ∷ 6 ∷ 0 ∷ no_name ∷ 0 ∷ no_name ∷ 4 ∷
    replicate 4 7)
    ∷ run chain_cells chain_edges chain_counts (2 ∷ []) 1 (replicate 70 7) (result_of (1 ∷ 0 ∷ [])) (0 ∷ 0 ∷ 0 ∷ 1 ∷ 2 ∷ 3 ∷ 0 ∷ 0 ∷ 1 ∷ 2 ∷ 0 ∷ replicate 59 7)
    ∷ joined chain_cells chain_edges chain_counts (2 ∷ []) (replicate 90 7) (result_of (7 ∷ 0 ∷ []))
    (0 ∷ 0 ∷ 0 ∷ 1 ∷ 2 ∷ 3 ∷ 0 ∷ 0 ∷ 1 ∷ 2 ∷ 0 ∷ 1 ∷ 0 ∷ 0 ∷ 3 ∷ no_name ∷ 7 ∷ 0 ∷ no_name ∷ 1 ∷ no_name ∷ 0 ∷ 1 ∷ 0 ∷ 3 ∷ 5 ∷ no_name ∷ 4 ∷ 3 ∷ no_name ∷ 2 ∷ no_name ∷ 1 ∷
    1 ∷ 0 ∷ 5 ∷ 6 ∷ no_name ∷ 5 ∷ 5 ∷ no_name ∷ 3 ∷ no_name ∷ 2 ∷ 1 ∷ 0 ∷ 6 ∷ 4 ∷ no_name ∷ 4 ∷ 4 ∷ no_name ∷ 4 ∷ no_name ∷ 3 ∷ 1 ∷ 0 ∷ 4 ∷ 0 ∷ no_name ∷ 6 ∷ 0 ∷ no_name ∷ 0 ∷ no_name ∷ 4 ∷
    2 ∷ 0 ∷ 0 ∷ 2 ∷ 3 ∷ 2 ∷ 0 ∷ 8 ∷ 2 ∷ 7 ∷ 0 ∷ replicate 13 7)
    -- no cut: one run, the whole
    ∷ run three_cells three_edges three_counts [] 0 (replicate 70 7) (result_of (6 ∷ 0 ∷ []))
    (0 ∷ 0 ∷ 0 ∷ 1 ∷ no_name ∷ 3 ∷ 0 ∷ no_name ∷ 1 ∷ no_name ∷ 0 ∷ 0 ∷ 0 ∷ 1 ∷ 0 ∷ no_name ∷ 2 ∷ 0 ∷ no_name ∷ 0 ∷ no_name ∷ 1 ∷ 1 ∷ 0 ∷ 0 ∷ 1 ∷ no_name ∷ 3 ∷ 0 ∷ no_name ∷ 1 ∷ no_name ∷ 0 ∷
    1 ∷ 0 ∷ 1 ∷ 0 ∷ no_name ∷ 6 ∷ 0 ∷ no_name ∷ 0 ∷ no_name ∷ 1 ∷ 2 ∷ 0 ∷ 0 ∷ 1 ∷ no_name ∷ 2 ∷ 0 ∷ no_name ∷ 1 ∷ no_name ∷ 0 ∷ 2 ∷ 0 ∷ 1 ∷ 0 ∷ no_name ∷ 6 ∷ 0 ∷ no_name ∷ 0 ∷ no_name ∷ 1 ∷
    replicate 4 7)
    -- 26; 25: at 0, at the number of cells, falling, twice, the lowest such cut and before 26; 12 for the run alone
    ∷ run three_cells three_edges three_counts (1 ∷ []) 2 (replicate 70 7) (refusal 26 2) (replicate 70 7)
    ∷ run three_cells three_edges three_counts (0 ∷ []) 0 (replicate 3 7) (refusal 25 0) (replicate 3 7)
    ∷ joined three_cells three_edges three_counts (3 ∷ []) (replicate 3 7) (refusal 25 0) (replicate 3 7)
    ∷ joined three_cells three_edges three_counts (2 ∷ 1 ∷ []) (replicate 3 7) (refusal 25 1) (replicate 3 7)
    ∷ run three_cells three_edges three_counts (1 ∷ 1 ∷ []) 5 (replicate 3 7) (refusal 25 1) (replicate 3 7)
    ∷ run three_cells three_edges three_counts (1 ∷ []) 1 (replicate 5 7) (refusal 12 4) (replicate 5 7)
    -- the whole's rows come first, and there 9 counts
    ∷ run apart_cells apart_edges (replicate 11 0) (0 ∷ []) 0 (replicate 3 7) (refusal 9 0) (replicate 3 7)
    ∷ []

-- every example is as the definitions say
abbrev pub ExamplesHold : Type 0
ExamplesHold = map computed examples ≡ examples

-- the cells 0123 and 1234, of which the second is split; alone it is the cell `one_split`
abbrev pub split_second : Grid
split_second =
    built (0 ∷ 1 ∷ 2 ∷ 3 ∷ 1 ∷ 2 ∷ 3 ∷ 4 ∷ []) (0 ∷ 1 ∷ 0 ∷ 2 ∷ 0 ∷ 3 ∷ 1 ∷ 2 ∷ 1 ∷ 3 ∷ 1 ∷ 4 ∷ 2 ∷ 3 ∷ 2 ∷ 4 ∷ 3 ∷ 4 ∷ [])
    (0 ∷ 1 ∷ 0 ∷ 4 ∷ 2 ∷ 6 ∷ 6 ∷ 2 ∷ 4 ∷ [])

-- run 1 is that cell with its own numbers and names, whatever run 0 is
pub record SplitRun : Type 0 where
  pub answer : run_answer split_second (1 ∷ []) 1 572 ≡ result_of (52 ∷ 1 ∷ [])
  pub area : run_area split_second (1 ∷ []) 1 (replicate 572 7) ≡ one_split.words
