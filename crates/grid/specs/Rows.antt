-- What the grid check refuses: rows 1 to 10 of the table of 01, row 2 with the starts (02, W5), and row 18 (02, W1). Each row is a test of its places; its fault is the lowest place that passes.
use Rattle.std.specs.Prelude.{ℕ, ◌+◌, ◌*◌, ◌-◌, ◌%◌, Bool, not, ◌&&◌, ◌||◌, List, [], ◌∷◌, length, get_or, eqb, leb, ltb}
use Rattle.answer.specs.Answer.{result_of, is_result}
use Rattle.answer.specs.Rows.{Row, whole, each, answer_of}
use Rattle.counting.specs.Pick.{pick}
use Rattle.counting.specs.Search.{first, some, every, count}
use Rattle.counting.specs.Reach.{reach}
use Rattle.slots.specs.Limits.{most_count, highest_node, most_cells, most_crossings}
use Rattle.slots.specs.Slots.{contains}
use Rattle.grid.specs.Grid.{Grid, cell_count, node, has_face, low, high, is_edge, has_edge, count_of, start, crossings}

-- 1: the list of nodes is not one of whole cells, or has no cell or more than 2,048
unfoldable pub bad_length : List ℕ → Bool
bad_length cells = not (eqb (length cells % 4) 0) || (eqb (length cells) 0 || ltb most_cells (cell_count cells))

-- 2: the list of ends does not have two for each count, or the list of starts one
unfoldable pub bad_numbers : (edges counts starts : List ℕ) → Bool
bad_numbers edges counts starts = not (eqb (length edges) (2 * length counts)) || not (eqb (length starts) (length counts))

-- 2: a start is not the sum of the counts before its edge
unfoldable pub bad_start : (counts starts : List ℕ) → ℕ → Bool
bad_start counts starts e = not (eqb (get_or starts e 0) (start counts e))

unfoldable pub bad_lists : (edges counts starts : List ℕ) → Bool
bad_lists edges counts starts = bad_numbers edges counts starts || some (bad_start counts starts) (length counts)

module _ (cells : List ℕ) where
  -- 3: a node of the cell is above 4,095, or its nodes do not rise
  unfoldable pub bad_cell : ℕ → Bool
  bad_cell c = some (λ i. ltb highest_node (node cells c i)) 4 || some (λ i. leb (node cells c (i + 1)) (node cells c i)) 3

  -- 4: an earlier cell is the same
  unfoldable pub same_cell : ℕ → ℕ → Bool
  same_cell d c = every (λ i. eqb (node cells d i) (node cells c i)) 4

  unfoldable pub repeats : ℕ → Bool
  repeats c = some (λ d. same_cell d c) c

  -- 5: two earlier cells have a face of the cell
  unfoldable pub crowded : ℕ → Bool
  crowded c = some (λ s. ltb 1 (count (has_face cells c s) c)) 4

module _ (edges : List ℕ) where
  -- edge e is after edge d, by the lower end and then the higher
  unfoldable pub is_after : ℕ → ℕ → Bool
  is_after d e = pick (eqb (low edges d) (low edges e)) (ltb (high edges d) (high edges e)) (ltb (low edges d) (low edges e))

  -- 6: the ends of the edge do not rise, or it is not after its predecessor
  unfoldable pub bad_edge : ℕ → Bool
  bad_edge e = not (ltb (low edges e) (high edges e)) || (ltb 0 e && not (is_after (e - 1) e))

-- 18: the count of the edge is above 4,095
unfoldable pub bad_count : List ℕ → ℕ → Bool
bad_count counts e = ltb most_count (count_of counts e)

module _ (G : Grid) where
  -- 7: an edge of the cell is not listed
  unfoldable pub unlisted : ℕ → Bool
  unlisted c = some (λ k. not (some (is_edge G c k) (length G.counts))) 6

  -- 8: no cell has the edge
  unfoldable pub unused : ℕ → Bool
  unused e = not (some (has_edge G e) (cell_count G.cells))

  -- 9: faces that contain the edge do not link all of its cells
  -- cell d has a face of cell c that contains edge e
  unfoldable pub linked : ℕ → ℕ → ℕ → Bool
  linked e c d = some (λ k. is_edge G c k e && some (λ s. contains k s && has_face G.cells c s d) 4) 6

  -- links lead to cell c from the first cell of edge e
  unfoldable pub reached : ℕ → ℕ → Bool
  reached e = reach (eqb (first (has_edge G e) (cell_count G.cells))) (linked e) (cell_count G.cells) (cell_count G.cells)

  unfoldable pub split : ℕ → Bool
  split e = some (λ c. has_edge G e c && not (reached e c)) (cell_count G.cells)

-- 10: there are more than 65,535 crossings
unfoldable pub too_many : List ℕ → Bool
too_many counts = ltb most_crossings (crossings counts)

module _ (G : Grid) where
  -- the rows in order: 18 directly after 6
  unfoldable pub rows : List Row
  rows =
      whole 1 (bad_length G.cells)
      ∷ whole 2 (bad_lists G.edges G.counts G.starts)
      ∷ each 3 (cell_count G.cells) (bad_cell G.cells)
      ∷ each 4 (cell_count G.cells) (repeats G.cells)
      ∷ each 5 (cell_count G.cells) (crowded G.cells)
      ∷ each 6 (length G.counts) (bad_edge G.edges)
      ∷ each 18 (length G.counts) (bad_count G.counts)
      ∷ each 7 (cell_count G.cells) (unlisted G)
      ∷ each 8 (length G.counts) (unused G)
      ∷ each 9 (length G.counts) (split G)
      ∷ whole 10 (too_many G.counts)
      ∷ []

  -- the grid check's answer: the first row with a fault and its lowest place, or the number of crossings
  unfoldable pub grid_answer : List ℕ
  grid_answer = answer_of rows (result_of (crossings G.counts ∷ []))

-- the check's answer is a result
abbrev pub accepts : Grid → Bool
accepts G = is_result (grid_answer G)
