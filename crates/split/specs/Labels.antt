-- The labels of the nodes of a cell that is split (02, W12), and its new edges, from the counts of the six edges, w k for edge k. d1 and d2 are
-- `larger w` and `smaller w` of the booking; what remains of a count once the corner triangles go is its `left_between`.
use Rattle.std.specs.Prelude.{ℕ, ◌+◌, ◌-◌, ◌*◌, [], ◌∷◌, eqb, get_or}
use Rattle.counting.specs.Pick.{pick}
use Rattle.counting.specs.Lists.{seek}
use Rattle.counting.specs.Search.{first}
use Rattle.booking.specs.Booking.{left_between, larger, smaller}

module _ (w : ℕ → ℕ) where
  -- The labels i, j, k, l are 0, 1, 2, 3. What remains between i and j, k, l: d1, d2, d1 + d2
  unfoldable pub remains_to : ℕ → ℕ
  remains_to n = get_or (0 ∷ larger w ∷ smaller w ∷ (larger w + smaller w) ∷ []) n 0

  -- the position of the node with the label n. In the first labelling in node order i is the lowest node: d1, d2 and d1 + d2 differ, and remain at
  -- every node
  unfoldable pub labelled : ℕ → ℕ
  labelled n = pick (eqb n 0) 0 (seek (λ p. eqb (left_between w 0 p) (remains_to n)) 3 1)

  -- the label of the node at position p
  unfoldable pub label : ℕ → ℕ
  label p = first (λ n. eqb (labelled n) p) 4

  -- the count of the edge from the new node a to the node with the label n: ai, aj, ak, al
  unfoldable pub spoke : ℕ → ℕ
  spoke n = get_or ((2 * smaller w) ∷ larger w ∷ smaller w ∷ (larger w - smaller w) ∷ []) n 0
