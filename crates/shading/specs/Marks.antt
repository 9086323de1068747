-- Sides of the nodes of a grid (02), by uniting parts edge by edge. A node's mark is the number 2 · part + side: its part is the lowest node with which
-- the edges so far connect it, and its side, 0 or 1, is 0 where it is on that node's side.
use Rattle.std.specs.Prelude.{ℕ, zero, suc, ◌+◌, ◌*◌, ◌/◌, ◌%◌, min, max, Bool, not, List, map, eqb, length, get_or}
use Rattle.counting.specs.Pick.{pick}
use Rattle.counting.specs.Lists.{values}
use Rattle.counting.specs.Search.{every}
use Rattle.grid.specs.Grid.{Grid, has_node, low, high, count_of}
use Rattle.slots.specs.Limits.{highest_node}

-- so many nodes there may be, and so many bytes the area has
abbrev pub most_nodes : ℕ
most_nodes = suc highest_node

-- what the area has for a node that no cell has
abbrev pub unused_byte : ℕ
unused_byte = 255

-- A mark m after an edge with this count between nodes with the marks a and b of two parts: the nodes of the higher part come to the lower one, and
-- change sides where the ends of the edge would else agree with an odd count, or differ with an even one.
unfoldable pub moved : (a b count m : ℕ) → ℕ
moved a b count m = pick (eqb (m / 2) (max (a / 2) (b / 2))) (2 * min (a / 2) (b / 2) + (m + a + b + count) % 2) m

-- all marks after it: the same where the parts are one
unfoldable pub united : (a b count : ℕ) → List ℕ → List ℕ
united a b count marks = pick (eqb (a / 2) (b / 2)) marks (map (moved a b count) marks)

module _ (edges counts : List ℕ) where
  -- the marks after the first n edges; at first each node is a part of its own
  unfoldable pub marks_after : ℕ → List ℕ
  marks_after zero = values (λ x. 2 * x) most_nodes
  marks_after (suc e) = united (get_or (marks_after e) (low edges e) 0) (get_or (marks_after e) (high edges e) 0) (count_of counts e) (marks_after e)

  -- the marks after all edges
  unfoldable pub final_marks : List ℕ
  final_marks = marks_after (length counts)

-- by these marks the ends of edge e are on different sides exactly where its count is odd
unfoldable pub agrees : (edges counts marks : List ℕ) → ℕ → Bool
agrees edges counts marks e = eqb ((get_or marks (low edges e) 0 + get_or marks (high edges e) 0) % 2) (count_of counts e % 2)

-- what the area has for node x, by its mark
abbrev pub byte_of : (cells marks : List ℕ) → ℕ → ℕ
byte_of cells marks x = pick (has_node cells x) (get_or marks x 0 % 2) unused_byte

module _ (G : Grid) where
  -- some edge does not agree with the marks: then there is no shading at all (`Claims`)
  unfoldable pub unshaded : Bool
  unshaded = not (every (agrees G.edges G.counts (final_marks G.edges G.counts)) (length G.counts))

  -- the bytes of the shading
  unfoldable pub side_bytes : List ℕ
  side_bytes = values (byte_of G.cells (final_marks G.edges G.counts)) most_nodes
