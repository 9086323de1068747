-- The chains of a flat grid (02, W11): its crossings, the triangles on either side of each, what each is joined to there, and the step from dart to dart.
use Rattle.std.specs.Prelude.{ℕ, ◌&&◌, List, eqb, ltb, length, get_or}
use Rattle.counting.specs.Pick.{pick}
use Rattle.counting.specs.Search.{first}
use Rattle.counting.specs.Pack.{row, col}
use Rattle.grid.specs.Grid.{count_of, crossing, crossings}
use Rattle.walk.specs.Step as walk
use Rattle.flat.specs.FlatGrid.{FlatGrid, triangles_in, has_edge, edge_number, edge_rank}
use Rattle.flat.specs.Join.{flat_join}
use Rattle.flat.specs.Chain as chain

module _ (G : FlatGrid) where
  -- the edge and the index of crossing x
  unfoldable pub crossing_edge : ℕ → ℕ
  crossing_edge x = row (count_of G.counts) (length G.counts) x

  unfoldable pub crossing_index : ℕ → ℕ
  crossing_index x = col (count_of G.counts) (length G.counts) x

  -- the count of edge k of triangle f
  unfoldable pub count_of_side : ℕ → ℕ → ℕ
  count_of_side f k = count_of G.counts (edge_number G f k)

  -- what crossing x is joined to in triangle f, by edge and index
  unfoldable pub join_at : ℕ → ℕ → List ℕ
  join_at f x = flat_join (count_of_side f 0) (count_of_side f 1) (count_of_side f 2) (edge_rank G f (crossing_edge x)) (crossing_index x)

  -- the crossing that such an answer in triangle f leads to; the number of crossings where it is not joined
  unfoldable pub joined_to : ℕ → List ℕ → ℕ
  joined_to f a = pick (eqb (get_or a 0 0) 0) (crossing G.counts (edge_number G f (get_or a 1 0)) (get_or a 2 0)) (crossings G.counts)

  -- the mate of crossing x in triangle f: the other end of its segment there
  unfoldable pub mate : ℕ → ℕ → ℕ
  mate f x = joined_to f (join_at f x)

  -- the triangles with the edge of crossing x, in the order of the list; the number of triangles where there is no second
  unfoldable pub first_triangle : ℕ → ℕ
  first_triangle x = first (has_edge G (crossing_edge x)) (triangles_in G.triangles)

  unfoldable pub second_triangle : ℕ → ℕ
  second_triangle x = first (λ f. ltb (first_triangle x) f && has_edge G (crossing_edge x) f) (triangles_in G.triangles)

  -- the dart after d: over the segment in the triangle by which d leaves, and on by the other triangle; no dart where the curve ends
  unfoldable pub step : ℕ → ℕ
  step = walk.step (crossings G.counts) first_triangle second_triangle mate

  -- the words of all chains
  unfoldable pub chains_words : List ℕ
  chains_words = chain.all_chain_words (crossings G.counts) step
