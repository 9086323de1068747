-- The edges of a cell, their counts and the corners between them by the positions of its nodes, in any order.
use Rattle.std.specs.Prelude.{ℕ, ltb}
use Rattle.counting.specs.Pick.{pick}
use Rattle.slots.specs.Slots.{edge_between}
use Rattle.face.specs.Face.{corner_count}

-- the edge that joins the positions a and b
unfoldable pub joining : ℕ → ℕ → ℕ
joining a b = pick (ltb a b) (edge_between a b) (edge_between b a)

-- From the counts of the edges, n k for edge k
module _ (n : ℕ → ℕ) where
  -- its count
  abbrev pub count_between : ℕ → ℕ → ℕ
  count_between a b = n (joining a b)

  -- the corner count (01) at position a of the face abc
  unfoldable pub corner_from : ℕ → ℕ → ℕ → ℕ
  corner_from a b c = corner_count (count_between a b) (count_between a c) (count_between b c)
