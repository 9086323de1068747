-- What the check of a flat grid refuses (02, W11): rows 1 to 6, 18, 7, 8 and 10 of the table of 01, with three numbers to a triangle and edges in place of
-- faces. Rows 6, 18 and 10 speak of edges and counts alone, and are those of a grid.
use Rattle.std.specs.Prelude.{ℕ, ◌+◌, ◌*◌, ◌%◌, Bool, not, ◌||◌, List, [], ◌∷◌, length, eqb, leb, ltb}
use Rattle.answer.specs.Answer.{result_of, is_result}
use Rattle.answer.specs.Rows.{Row, whole, each, answer_of}
use Rattle.counting.specs.Search.{some, every, count}
use Rattle.slots.specs.Limits.{highest_node}
use Rattle.grid.specs.Grid.{crossings}
use Rattle.grid.specs.Rows.{bad_edge, bad_count, too_many}
use Rattle.flat.specs.FlatGrid.{FlatGrid, most_flat_triangles, triangles_in, node, shares, is_edge, has_edge}

-- 2: the list of ends does not have two for each count
unfoldable pub bad_pairs : List ℕ → List ℕ → Bool
bad_pairs edges counts = not (eqb (length edges) (2 * length counts))

module _ (triangles : List ℕ) where
  -- 1: the list of nodes is not one of whole triangles, or has no triangle or more than 2,048
  unfoldable pub bad_length : Bool
  bad_length = not (eqb (length triangles % 3) 0) || (eqb (length triangles) 0 || ltb most_flat_triangles (triangles_in triangles))

  -- 3: a node of the triangle is above 4,095, or its nodes do not rise
  unfoldable pub bad_triangle : ℕ → Bool
  bad_triangle f = some (λ i. ltb highest_node (node triangles f i)) 3 || some (λ i. leb (node triangles f (i + 1)) (node triangles f i)) 2

  -- 4: an earlier triangle is the same
  unfoldable pub same_triangle : ℕ → ℕ → Bool
  same_triangle g f = every (λ i. eqb (node triangles g i) (node triangles f i)) 3

  unfoldable pub repeats : ℕ → Bool
  repeats f = some (λ g. same_triangle g f) f

  -- 5: two earlier triangles have an edge of the triangle
  unfoldable pub crowded : ℕ → Bool
  crowded f = some (λ k. ltb 1 (count (shares triangles f k) f)) 3

module _ (G : FlatGrid) where
  -- 7: an edge of the triangle is not listed
  unfoldable pub unlisted : ℕ → Bool
  unlisted f = some (λ k. not (some (is_edge G f k) (length G.counts))) 3

  -- 8: no triangle has the edge
  unfoldable pub unused : ℕ → Bool
  unused e = not (some (has_edge G e) (triangles_in G.triangles))

module _ (G : FlatGrid) where
  -- the rows in order: 18 directly after 6
  unfoldable pub rows : List Row
  rows =
      whole 1 (bad_length G.triangles)
      ∷ whole 2 (bad_pairs G.edges G.counts)
      ∷ each 3 (triangles_in G.triangles) (bad_triangle G.triangles)
      ∷ each 4 (triangles_in G.triangles) (repeats G.triangles)
      ∷ each 5 (triangles_in G.triangles) (crowded G.triangles)
      ∷ each 6 (length G.counts) (bad_edge G.edges)
      ∷ each 18 (length G.counts) (bad_count G.counts)
      ∷ each 7 (triangles_in G.triangles) (unlisted G)
      ∷ each 8 (length G.counts) (unused G)
      ∷ whole 10 (too_many G.counts)
      ∷ []

  -- the check's answer: the first row with a fault and its lowest place, or the number of crossings
  unfoldable pub flat_answer : List ℕ
  flat_answer = answer_of rows (result_of (crossings G.counts ∷ []))

  -- it is a result
  abbrev pub accepts : Bool
  accepts = is_result flat_answer
