-- Examples of nests: of each cell whether it is one, how many loops have length 8 and how many are no triangles; and of a nest the edge E, and i of each
-- loop that is no triangle, by least crossing.
use Rattle.std.specs.Prelude.{ℕ, ◌≡◌, List, [], ◌∷◌, map, eqb}
use Rattle.counting.specs.Pick.{pick}
use Rattle.counting.specs.Lists.{one, gather}
use Rattle.cell.specs.declared.Cell.{Cell}
use Rattle.cell.specs.Of.{edges_of}
use Rattle.cell.specs.Loop.{loop_size, leasts}
use Rattle.places.specs.Nested.{octagons, other_loops, is_nested, axis_edge, nest_number}

pub record Example : Type 0 where
  pub counts : List ℕ
  pub starts : List ℕ
  pub told : List ℕ

abbrev with : (counts starts told : List ℕ) → Example
with c s t = record { counts = c; starts = s; told = t }

-- counts of the edges 01, 02, 03, 12, 13, 23; the edges' first numbers; what is told
unfoldable pub examples : List Example
examples =
    -- two loops, with E 01, 02 and 03
    with (4 ∷ 2 ∷ 2 ∷ 2 ∷ 2 ∷ 4 ∷ []) (0 ∷ 4 ∷ 6 ∷ 8 ∷ 10 ∷ 12 ∷ []) (1 ∷ 2 ∷ 2 ∷ 0 ∷ 1 ∷ 0 ∷ [])
    ∷ with (2 ∷ 4 ∷ 2 ∷ 2 ∷ 4 ∷ 2 ∷ []) (0 ∷ 2 ∷ 6 ∷ 8 ∷ 10 ∷ 14 ∷ []) (1 ∷ 2 ∷ 2 ∷ 1 ∷ 1 ∷ 0 ∷ [])
    ∷ with (2 ∷ 2 ∷ 4 ∷ 4 ∷ 2 ∷ 2 ∷ []) (0 ∷ 2 ∷ 4 ∷ 8 ∷ 12 ∷ 14 ∷ []) (1 ∷ 2 ∷ 2 ∷ 2 ∷ 1 ∷ 0 ∷ [])
    -- three
    ∷ with (3 ∷ 6 ∷ 3 ∷ 3 ∷ 6 ∷ 3 ∷ []) (0 ∷ 3 ∷ 9 ∷ 12 ∷ 15 ∷ 21 ∷ []) (1 ∷ 3 ∷ 3 ∷ 1 ∷ 2 ∷ 1 ∷ 0 ∷ [])
    -- uneven corner triangles: one at 0 and two at 2; one at 1 and two at 3; two at 0 and one at 2
    ∷ with (5 ∷ 5 ∷ 3 ∷ 4 ∷ 2 ∷ 6 ∷ []) (0 ∷ 5 ∷ 10 ∷ 13 ∷ 17 ∷ 19 ∷ []) (1 ∷ 2 ∷ 2 ∷ 0 ∷ 1 ∷ 0 ∷ [])
    ∷ with (3 ∷ 4 ∷ 4 ∷ 3 ∷ 7 ∷ 4 ∷ []) (0 ∷ 3 ∷ 7 ∷ 11 ∷ 14 ∷ 21 ∷ []) (1 ∷ 2 ∷ 2 ∷ 1 ∷ 1 ∷ 0 ∷ [])
    ∷ with (4 ∷ 5 ∷ 6 ∷ 5 ∷ 2 ∷ 3 ∷ []) (0 ∷ 4 ∷ 9 ∷ 15 ∷ 20 ∷ 22 ∷ []) (1 ∷ 2 ∷ 2 ∷ 2 ∷ 1 ∷ 0 ∷ [])
    -- edges laid in another order than they stand in: the least loop can be the nearest to E
    ∷ with (4 ∷ 2 ∷ 2 ∷ 2 ∷ 2 ∷ 4 ∷ []) (100 ∷ 20 ∷ 10 ∷ 8 ∷ 6 ∷ 0 ∷ []) (1 ∷ 2 ∷ 2 ∷ 0 ∷ 0 ∷ 1 ∷ [])
    ∷ with (3 ∷ 6 ∷ 3 ∷ 3 ∷ 6 ∷ 3 ∷ []) (300 ∷ 100 ∷ 50 ∷ 0 ∷ 200 ∷ 400 ∷ []) (1 ∷ 3 ∷ 3 ∷ 1 ∷ 0 ∷ 1 ∷ 2 ∷ [])
    -- no nest: one loop of length 8, without and with corner triangles; quads; a face with an odd sum
    ∷ with (2 ∷ 1 ∷ 1 ∷ 1 ∷ 1 ∷ 2 ∷ []) (0 ∷ 2 ∷ 3 ∷ 4 ∷ 5 ∷ 6 ∷ []) (0 ∷ 1 ∷ 1 ∷ [])
    ∷ with (4 ∷ 3 ∷ 3 ∷ 3 ∷ 3 ∷ 4 ∷ []) (0 ∷ 4 ∷ 7 ∷ 10 ∷ 13 ∷ 16 ∷ []) (0 ∷ 1 ∷ 1 ∷ [])
    ∷ with (4 ∷ 4 ∷ 1 ∷ 0 ∷ 3 ∷ 3 ∷ []) (0 ∷ 4 ∷ 8 ∷ 9 ∷ 9 ∷ 12 ∷ []) (0 ∷ 0 ∷ 3 ∷ [])
    ∷ with (5 ∷ 2 ∷ 2 ∷ 2 ∷ 2 ∷ 4 ∷ []) (0 ∷ 5 ∷ 7 ∷ 9 ∷ 11 ∷ 13 ∷ []) (0 ∷ 2 ∷ 2 ∷ [])
    ∷ []

-- names and nodes play no part
abbrev cell_of : Example → Cell
cell_of x = record { counts = x.counts; starts = x.starts; names = 0 ∷ 0 ∷ 0 ∷ 0 ∷ []; nodes = 0 ∷ 0 ∷ 0 ∷ 0 ∷ []; index = 0 }

abbrev numbers_of : Cell → List ℕ
numbers_of c = gather (λ p. pick (eqb (loop_size (edges_of c) p) 3) [] (nest_number c p ∷ [])) (leasts (edges_of c))

abbrev tell : Cell → List ℕ
tell c = one (is_nested c) ∷ octagons c ∷ other_loops c ∷ pick (is_nested c) (axis_edge c ∷ numbers_of c) []

abbrev pub NestsHold : Type 0
NestsHold = map (λ x. tell (cell_of x)) examples ≡ map (λ x. x.told) examples
