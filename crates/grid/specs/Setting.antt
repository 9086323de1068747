-- Setting the count of one edge (02, W5).
use Rattle.std.specs.Prelude.{ℕ, List, [], ◌∷◌, length, set, leb, ltb}
use Rattle.answer.specs.Answer.{result_of, refusal, is_result}
use Rattle.counting.specs.Pick.{pick}
use Rattle.slots.specs.Limits.{most_count}
use Rattle.grid.specs.Grid.{Grid, crossings, starts_of}
use Rattle.grid.specs.Rows.{too_many, grid_answer, accepts}

-- for an accepted grid: 21, no such edge, with the edge given; 18, the count is above 4,095, with the edge; 10, with the new count there are more than
-- 65,535 crossings; else the number of crossings with it
unfoldable pub change_answer : (counts : List ℕ) (edge count : ℕ) → List ℕ
change_answer counts edge count =
    pick (leb (length counts) edge) (refusal 21 edge)
    (pick (ltb most_count count) (refusal 18 edge)
    (pick (too_many (set counts edge count)) (refusal 10 0)
    (result_of (crossings (set counts edge count) ∷ []))))

module _ (G : Grid) (edge count : ℕ) where
  -- the setting call: rows 1 to 10 and 18 of the grid as it is lent; then those above
  unfoldable pub set_answer : List ℕ
  set_answer = pick (accepts G) (change_answer G.counts edge count) (grid_answer G)

  -- the lent counts afterwards: with the new one, or all as they were where the call refuses
  unfoldable pub set_counts : List ℕ
  set_counts = pick (is_result set_answer) (set G.counts edge count) G.counts

  -- the lent starts afterwards: those of the counts with the new one, or all as they were
  unfoldable pub set_starts : List ℕ
  set_starts = pick (is_result set_answer) (starts_of (set G.counts edge count)) G.starts
