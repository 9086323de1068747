-- The triangles of a level cell with d2 = 0 (02, W9), straight from its counts and without a walk. Such a cell has two kinds of loops only: corner
-- triangles, which go round one node, and quads, which part two nodes from the other two.
use Rattle.std.specs.Prelude.{ℕ, ◌+◌, ◌-◌, min, ◌≡◌, Bool, true, List, [], ◌∷◌, ◌++◌, eqb, get_or, length}
use Rattle.counting.specs.Pick.{pick}
use Rattle.counting.specs.Lists.{over}
use Rattle.counting.specs.Search.{some}
use Rattle.slots.specs.Slots.{lo, hi, first_slot}
use Rattle.slots.specs.claims.Slots.{third_position}
use Rattle.cell.specs.declared.Cell.{Cell}
use Rattle.cell.specs.declared.Corner.TheVariants.{Crossing}
use Rattle.cell.specs.declared.Side.{Side}
use Rattle.cell.specs.declared.Side.TheVariants.{Segment, Inner}
use Rattle.cell.specs.declared.Triangle.{Triangle}
use Rattle.cell.specs.Of.{count_of, start_of}
use Rattle.cell.specs.Nodes.{joining}
use Rattle.cell.specs.claims.Nodes.{kth_from}
use Rattle.cell.specs.Level.{is_level_cell}
use Rattle.cell.specs.Triangles.{triangle}
use Rattle.booking.specs.Booking.{least_corner, left_between, smaller}

-- a level cell with d2 = 0
pub record Plain (w : ℕ → ℕ) : Type 0 where
  pub level : is_level_cell w ≡ true
  pub none : smaller w ≡ 0

-- one of the edges l is laid before edge k; `before k j` tells whether edge j is
unfoldable pub passed : (ℕ → ℕ → Bool) → ℕ → List ℕ → Bool
passed before k l = some (λ i. before k (get_or l i 0)) (length l)

-- the segment on slot s between the crossings with the numbers g and h, by the names of the cell's faces
abbrev pub side : List ℕ → ℕ → ℕ → ℕ → Side
side names s g h = Segment (get_or names s 0) (min g h)

module _ (C : Cell) where
  -- the crossing number of the k-th crossing from the position a on its edge to b; and of the r-th of those that the corner triangles leave
  unfoldable pub number_at : ℕ → ℕ → ℕ → ℕ
  number_at a b k = start_of C (joining a b) + kth_from (count_of C) a b k

  abbrev pub left_at : ℕ → ℕ → ℕ → ℕ
  left_at a b r = number_at a b (least_corner (count_of C) a + r)

  -- a loop through three points, or four, by their numbers g and the slots s between them: its triangles
  unfoldable pub whole : (g0 g1 g2 s0 s1 s2 : ℕ) → Triangle
  whole g0 g1 g2 s0 s1 s2 =
      triangle C.index g0 (Crossing g0) (Crossing g1) (Crossing g2) (side C.names s0 g0 g1) (side C.names s1 g1 g2) (side C.names s2 g2 g0)

  unfoldable pub half0 : (g0 g1 g2 s0 s1 : ℕ) → Triangle
  half0 g0 g1 g2 s0 s1 = triangle C.index g0 (Crossing g0) (Crossing g1) (Crossing g2) (side C.names s0 g0 g1) (side C.names s1 g1 g2) (Inner 0)

  unfoldable pub half1 : (g0 g2 g3 s2 s3 : ℕ) → Triangle
  half1 g0 g2 g3 s2 s3 = triangle C.index g0 (Crossing g0) (Crossing g2) (Crossing g3) (Inner 0) (side C.names s2 g2 g3) (side C.names s3 g3 g0)

  abbrev pub three : (g0 g1 g2 s0 s1 s2 : ℕ) → List Triangle
  three g0 g1 g2 s0 s1 s2 = whole g0 g1 g2 s0 s1 s2 ∷ []

  abbrev pub four : (g0 g1 g2 g3 s0 s1 s2 s3 : ℕ) → List Triangle
  four g0 g1 g2 g3 s0 s1 s2 s3 = half0 g0 g1 g2 s0 s1 ∷ half1 g0 g2 g3 s2 s3 ∷ []

  -- the k-th loop round the node a: from its edge to b over the face abc to c, and on to d
  unfoldable pub corner : (a b c d k : ℕ) → List Triangle
  corner a b c d k = three (number_at a b k) (number_at a c k) (number_at a d k) d b c

  -- the r-th loop that parts a and m from u and v: from the edge au over the face aum, which leads to mu; or over the face auv, which leads to av
  unfoldable pub across : (a m u v r : ℕ) → List Triangle
  across a m u v r = four (left_at a u r) (left_at m u r) (left_at m v r) (left_at a v r) v a u m

  unfoldable pub round : (a m u v r : ℕ) → List Triangle
  round a m u v r = four (left_at a u r) (left_at a v r) (left_at m v r) (left_at m u r) m u a v

  -- all loops round a that start on its edge to b, outwards from a, and inwards
  unfoldable pub outwards : (a b c d : ℕ) → List Triangle
  outwards a b c d = over (corner a b c d) (least_corner (count_of C) a) 0

  unfoldable pub inwards : (a b c d : ℕ) → List Triangle
  inwards a b c d = over (λ i. corner a b c d (least_corner (count_of C) a - 1 - i)) (least_corner (count_of C) a) 0

  -- the quads that start on the edge au, outwards from a, in either way
  unfoldable pub acrosses : (a m u v : ℕ) → List Triangle
  acrosses a m u v = over (across a m u v) (left_between (count_of C) a u) 0

  unfoldable pub rounds : (a m u v : ℕ) → List Triangle
  rounds a m u v = over (round a m u v) (left_between (count_of C) a u) 0

  -- The triangles of a cell whose edges are laid in the order 01, 02, 03, 12, 13, 23 (`Rising`). Every loop has its least crossing on an edge of the
  -- lowest node: on 01 stand the loops round 0, the quads that part 0 from 1, with 2 on the side of 0 or with 3, and the loops round 1
  unfoldable pub quads_on_first : List Triangle
  quads_on_first = pick (eqb (left_between (count_of C) 0 2) 0) (acrosses 0 2 1 3) (rounds 0 3 1 2)

  unfoldable pub on_first : List Triangle
  on_first = outwards 0 1 2 3 ++ (quads_on_first ++ inwards 1 0 2 3)

  -- on 02 the quads that leave 0 with 1, and the loops round 2
  unfoldable pub on_second : List Triangle
  on_second = pick (eqb (left_between (count_of C) 0 1) 0) (acrosses 0 1 2 3) [] ++ inwards 2 0 1 3

  -- and on 03 the loops round 3
  unfoldable pub direct_triangles : List Triangle
  direct_triangles = on_first ++ (on_second ++ inwards 3 0 1 2)

  -- The same with the edges laid in any order; `before k j` tells whether edge j is laid before edge k. These are the triangles of the loops whose least
  -- crossing is on edge k, with the ends a and b and the first face abc: where no other edge that they cross is laid before k.
  module _ (before : ℕ → ℕ → Bool) where
    unfoldable pub edge_triangles : (k a b c d : ℕ) → List Triangle
    edge_triangles k a b c d =
        pick (passed before k (joining a c ∷ joining a d ∷ [])) [] (outwards a b c d)
        ++ (pick (eqb (left_between (count_of C) a c) 0)
        (pick (passed before k (joining c b ∷ joining c d ∷ joining a d ∷ [])) [] (acrosses a c b d))
        (pick (passed before k (joining a c ∷ joining d c ∷ joining d b ∷ [])) [] (rounds a d b c))
        ++ pick (passed before k (joining b c ∷ joining b d ∷ [])) [] (inwards b a c d))

    abbrev pub on_edge : ℕ → List Triangle
    on_edge k = edge_triangles k (lo k) (hi k) (third_position k (first_slot k)) (first_slot k)
