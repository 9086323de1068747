-- One table of examples: those that document 01 marks P, and others that tell wrong answers from right ones. Faces have the answer for each of
-- their crossings; grids have the grid check's answer, each loop's answer, its points, and the words of the mesh; and there are single calls.
use Rattle.std.specs.Prelude.{ℕ, suc, ◌+◌, ◌/◌, ◌≡◌, Bool, true, false, not, List, [], ◌∷◌, map, eqb, length, get_or, replicate}
use Rattle.answer.specs.Answer.{result_of, refusal}
use Rattle.counting.specs.Pick.{pick}
use Rattle.counting.specs.Lists.{one, over, values, tally}
use Rattle.face.specs.Face.{round, along, left, skipped, joined_by, unjoined_by, no_crossing, count_on, face_answer}
use Rattle.face.specs.claims.Tally.{segments, unjoined_count}
use Rattle.cell.specs.Loop.{loop_size, dart, leasts}
use Rattle.grid.specs.Grid.{Grid, built, cell_count}
use Rattle.grid.specs.Rows.{grid_answer}
use Rattle.cell.specs.Of.{edges_of}
use Rattle.cell.specs.Triangles.{number_of, cell_triangles}
use Rattle.cell.specs.work.Nth.{nth_answer}
use Rattle.cell.specs.declared.Triangle.{Triangle}
use Rattle.cell.specs.Words.{no_name}
use Rattle.manifold.specs.Triangle.{Side, seg, inner, same}
use Rattle.split.specs.examples.Examples.{one_split}
use Rattle.mesh.specs.Mesh.{grid_cell, mesh_triangles, mesh_words}
use Rattle.mesh.specs.Names.{mesh_side}
use Rattle.mesh.specs.Asked.{cell_loop}
use Rattle.mesh.specs.Answer.{mesh_answer, mesh_area, loops_answer}

pub data Example : Type 0 where
  -- counts; the answers for the crossings of ab, of ac and of bc; how many segments there are, and how many unjoined crossings
  face : (ab ac bc : ℕ) (answers : List (List ℕ)) (segments unjoined : ℕ) → Example
  -- the lists; the grid check's answer; cell by cell the answers for loop 0 and on, to the first that is none; the points of each loop; the words
  -- of the mesh; and how many triangles, segments and inner sides these are
  grid : (cells edges counts answer : List ℕ) (loops points : List (List ℕ)) (words tallies : List ℕ) → Example
  -- the face call: counts, edge, index; the answer
  join : (ab ac bc e t : ℕ) (answer : List ℕ) → Example
  -- triangle t of cell c; the answer
  nth : (cells edges counts : List ℕ) (c t : ℕ) (answer : List ℕ) → Example
  -- the mesh call: the lists and the lent area; the answer, and the area afterwards
  mesh : (cells edges counts area answer after : List ℕ) → Example
  -- the mesh call, where only its answer is told: the lists and so many words of room; the answer
  sizes : (cells edges counts : List ℕ) (room : ℕ) (answer : List ℕ) → Example
  -- the loops call: the lists, cell c, k; the answer
  loop : (cells edges counts : List ℕ) (c k : ℕ) (answer : List ℕ) → Example

-- the face call's answers: joined round a corner, along the edge; unjoined
abbrev round_to : (w e t : ℕ) → List ℕ
round_to w e t = joined_by e t (round w)

abbrev along_to : (e t : ℕ) → List ℕ
along_to e t = joined_by e t along

abbrev left_by2 : List ℕ
left_by2 = unjoined_by left

abbrev skipped_by3 : List ℕ
skipped_by3 = unjoined_by skipped

-- the answers for all crossings of a face
unfoldable pub face_answers : ℕ → ℕ → ℕ → List (List ℕ)
face_answers ab ac bc = over (λ e. over (λ t. face_answer ab ac bc e t ∷ []) (count_on ab ac bc e) 0) 3 0

module _ (G : Grid) where
  -- the least crossings of the loops of cell c
  unfoldable pub leasts_of : ℕ → List ℕ
  unfolding grid_cell leasts
  leasts_of c = leasts (edges_of (grid_cell G c))

  unfoldable pub grid_loops : List (List ℕ)
  unfolding leasts_of
  grid_loops = over (λ c. over (λ k. cell_loop (grid_cell G c) k ∷ []) (suc (length (leasts_of c))) 0) (cell_count G.cells) 0

  -- the crossing numbers of a loop's points, in order
  unfoldable pub loop_points : ℕ → ℕ → List ℕ
  unfolding number_of dart loop_size
  loop_points c p = values (λ k. number_of (grid_cell G c) (dart (edges_of (grid_cell G c)) p k / 2)) (loop_size (edges_of (grid_cell G c)) p)

  unfoldable pub grid_points : List (List ℕ)
  unfolding leasts_of loop_points
  grid_points = over (λ c. over (λ k. loop_points c (get_or (leasts_of c) k 0) ∷ []) (length (leasts_of c)) 0) (cell_count G.cells) 0

-- the sides of triangles, with a test which of them to take
unfoldable pub sides_of : (Side → Bool) → List Triangle → List Side
sides_of t [] = []
sides_of t (v ∷ l) = taken (mesh_side v 0) (taken (mesh_side v 1) (taken (mesh_side v 2) (sides_of t l)))
  where
    taken : Side → List Side → List Side
    taken σ m = pick (t σ) (σ ∷ m) m

-- how many different sides are in a list
unfoldable pub different : List Side → ℕ
different [] = 0
different (σ ∷ l) = one (eqb (tally (same σ) l) 0) + different l

abbrev pub is_segment : Side → Bool
is_segment (seg f g) = true
is_segment (inner c p k) = false

unfoldable pub tallies : List Triangle → List ℕ
unfolding different sides_of
tallies l = length l ∷ different (sides_of is_segment l) ∷ different (sides_of (λ σ. not (is_segment σ)) l) ∷ []

-- the example with what the definitions say in place of what stands in the table
unfoldable pub computed : Example → Example
computed (face ab ac bc answers sides free) = face ab ac bc (face_answers ab ac bc) (segments ab ac bc) (unjoined_count ab ac bc)
computed (grid cells edges counts answer loops points words sides) =
    grid cells edges counts (grid_answer (built cells edges counts)) (grid_loops (built cells edges counts)) (grid_points (built cells edges counts)) (mesh_words (built cells edges counts))
    (tallies (mesh_triangles (built cells edges counts)))
computed (join ab ac bc e t answer) = join ab ac bc e t (face_answer ab ac bc e t)
computed (nth cells edges counts c t answer) = nth cells edges counts c t (nth_answer (cell_triangles (grid_cell (built cells edges counts) c)) t)
computed (mesh cells edges counts area answer after) = mesh cells edges counts area (mesh_answer (built cells edges counts) (length area)) (mesh_area (built cells edges counts) area)
computed (sizes cells edges counts room answer) = sizes cells edges counts room (mesh_answer (built cells edges counts) room)
computed (loop cells edges counts c k answer) = loop cells edges counts c k (loops_answer (built cells edges counts) c k)

-- one cell 0 1 2 3; no loop
abbrev cell : List ℕ
cell = 0 ∷ 1 ∷ 2 ∷ 3 ∷ []

abbrev six : List ℕ
six = 0 ∷ 1 ∷ 0 ∷ 2 ∷ 0 ∷ 3 ∷ 1 ∷ 2 ∷ 1 ∷ 3 ∷ 2 ∷ 3 ∷ []

abbrev no : List ℕ
no = result_of []

-- the cells 0123, 0124, 0134 round the edge 01, their edges, and two crossings on 01
abbrev pub three_cells : List ℕ
three_cells = 0 ∷ 1 ∷ 2 ∷ 3 ∷ 0 ∷ 1 ∷ 2 ∷ 4 ∷ 0 ∷ 1 ∷ 3 ∷ 4 ∷ []

abbrev pub three_edges : List ℕ
three_edges = 0 ∷ 1 ∷ 0 ∷ 2 ∷ 0 ∷ 3 ∷ 0 ∷ 4 ∷ 1 ∷ 2 ∷ 1 ∷ 3 ∷ 1 ∷ 4 ∷ 2 ∷ 3 ∷ 2 ∷ 4 ∷ 3 ∷ 4 ∷ []

abbrev pub three_counts : List ℕ
three_counts = 2 ∷ 0 ∷ 0 ∷ 0 ∷ 0 ∷ 0 ∷ 0 ∷ 0 ∷ 0 ∷ 0 ∷ []

-- the cells 0123, 1234 with the face 123 in common, their edges; two crossings on 01, and one on each edge of node 4
abbrev two_cells : List ℕ
two_cells = 0 ∷ 1 ∷ 2 ∷ 3 ∷ 1 ∷ 2 ∷ 3 ∷ 4 ∷ []

abbrev two_edges : List ℕ
two_edges = 0 ∷ 1 ∷ 0 ∷ 2 ∷ 0 ∷ 3 ∷ 1 ∷ 2 ∷ 1 ∷ 3 ∷ 1 ∷ 4 ∷ 2 ∷ 3 ∷ 2 ∷ 4 ∷ 3 ∷ 4 ∷ []

abbrev two_counts : List ℕ
two_counts = 2 ∷ 0 ∷ 0 ∷ 0 ∷ 0 ∷ 1 ∷ 0 ∷ 1 ∷ 1 ∷ []

-- the five cells with four of the nodes 0 to 4: each face is in two, and no edge is outer. No crossings at node 0, and in the last cell, 1234, d1 is 4 and
-- d2 is 2
abbrev pub five_cells : List ℕ
five_cells = 0 ∷ 1 ∷ 2 ∷ 3 ∷ 0 ∷ 1 ∷ 2 ∷ 4 ∷ 0 ∷ 1 ∷ 3 ∷ 4 ∷ 0 ∷ 2 ∷ 3 ∷ 4 ∷ 1 ∷ 2 ∷ 3 ∷ 4 ∷ []

abbrev pub five_counts : List ℕ
five_counts = 0 ∷ 0 ∷ 0 ∷ 0 ∷ 4 ∷ 2 ∷ 6 ∷ 6 ∷ 2 ∷ 4 ∷ []

-- counts of one cell
abbrev corner_counts : List ℕ
corner_counts = 1 ∷ 1 ∷ 1 ∷ 0 ∷ 0 ∷ 0 ∷ []

abbrev two_loop_counts : List ℕ
two_loop_counts = 3 ∷ 1 ∷ 1 ∷ 0 ∷ 0 ∷ 0 ∷ []

abbrev split_counts : List ℕ
split_counts = 4 ∷ 2 ∷ 6 ∷ 6 ∷ 2 ∷ 4 ∷ []

unfoldable pub examples : List Example
examples =
    -- P: nothing, one crossing, six: open curves give no loop
    grid cell six (0 ∷ 0 ∷ 0 ∷ 0 ∷ 0 ∷ 0 ∷ []) (result_of (0 ∷ [])) (no ∷ []) [] [] (0 ∷ 0 ∷ 0 ∷ [])
    ∷ grid cell six (1 ∷ 0 ∷ 0 ∷ 0 ∷ 0 ∷ 0 ∷ []) (result_of (1 ∷ [])) (no ∷ []) [] [] (0 ∷ 0 ∷ 0 ∷ [])
    ∷ grid cell six (1 ∷ 1 ∷ 1 ∷ 1 ∷ 1 ∷ 1 ∷ []) (result_of (6 ∷ [])) (no ∷ []) [] [] (0 ∷ 0 ∷ 0 ∷ [])
    -- P: corner at 0, one triangle
    ∷ grid cell six corner_counts (result_of (3 ∷ [])) (result_of (0 ∷ 3 ∷ 1 ∷ 3 ∷ 0 ∷ []) ∷ no ∷ []) ((0 ∷ 1 ∷ 2 ∷ []) ∷ [])
    (0 ∷ 0 ∷ 0 ∷ 1 ∷ 2 ∷ 3 ∷ 0 ∷ 1 ∷ 1 ∷ 2 ∷ 0 ∷ []) (1 ∷ 3 ∷ 0 ∷ [])
    -- P: diagonal, 0 with 1; two triangles
    ∷ grid cell six (0 ∷ 1 ∷ 1 ∷ 1 ∷ 1 ∷ 0 ∷ []) (result_of (4 ∷ [])) (result_of (0 ∷ 4 ∷ 1 ∷ 2 ∷ 1 ∷ []) ∷ no ∷ []) ((0 ∷ 2 ∷ 3 ∷ 1 ∷ []) ∷ [])
    (0 ∷ 0 ∷ 0 ∷ 2 ∷ 3 ∷ 3 ∷ 0 ∷ 0 ∷ 2 ∷ no_name ∷ 0 ∷
    0 ∷ 0 ∷ 0 ∷ 3 ∷ 1 ∷ no_name ∷ 0 ∷ 2 ∷ 1 ∷ 1 ∷ 0 ∷ []) (2 ∷ 4 ∷ 1 ∷ [])
    -- P: one loop of length 8, eight triangles
    ∷ grid cell six (2 ∷ 1 ∷ 1 ∷ 1 ∷ 1 ∷ 2 ∷ []) (result_of (8 ∷ [])) (result_of (0 ∷ 8 ∷ 1 ∷ 2 ∷ 1 ∷ []) ∷ no ∷ [])
    ((0 ∷ 2 ∷ 6 ∷ 4 ∷ 1 ∷ 5 ∷ 7 ∷ 3 ∷ []) ∷ [])
    (0 ∷ 0 ∷ 0 ∷ 2 ∷ no_name ∷ 3 ∷ 0 ∷ no_name ∷ 1 ∷ no_name ∷ 0 ∷
    0 ∷ 0 ∷ 2 ∷ 6 ∷ no_name ∷ 1 ∷ 2 ∷ no_name ∷ 2 ∷ no_name ∷ 1 ∷
    0 ∷ 0 ∷ 6 ∷ 4 ∷ no_name ∷ 0 ∷ 4 ∷ no_name ∷ 3 ∷ no_name ∷ 2 ∷
    0 ∷ 0 ∷ 4 ∷ 1 ∷ no_name ∷ 3 ∷ 1 ∷ no_name ∷ 4 ∷ no_name ∷ 3 ∷
    0 ∷ 0 ∷ 1 ∷ 5 ∷ no_name ∷ 2 ∷ 1 ∷ no_name ∷ 5 ∷ no_name ∷ 4 ∷
    0 ∷ 0 ∷ 5 ∷ 7 ∷ no_name ∷ 0 ∷ 5 ∷ no_name ∷ 6 ∷ no_name ∷ 5 ∷
    0 ∷ 0 ∷ 7 ∷ 3 ∷ no_name ∷ 1 ∷ 3 ∷ no_name ∷ 7 ∷ no_name ∷ 6 ∷
    0 ∷ 0 ∷ 3 ∷ 0 ∷ no_name ∷ 2 ∷ 0 ∷ no_name ∷ 0 ∷ no_name ∷ 7 ∷ []) (8 ∷ 8 ∷ 8 ∷ [])
    -- P: a face 3 3 3: three segments, each index 1 unjoined, so that three crossings are
    ∷ face 3 3 3 (round_to 0 1 0 ∷ left_by2 ∷ round_to 1 2 0 ∷ round_to 0 0 0 ∷ left_by2 ∷ round_to 2 2 2 ∷ round_to 1 0 2 ∷ left_by2 ∷ round_to 2 1 2 ∷ []) 3 3
    -- P: a face 5 1 1: index 1 unjoined, 2 joined to 3
    ∷ face 5 1 1 (round_to 0 1 0 ∷ skipped_by3 ∷ along_to 0 3 ∷ along_to 0 2 ∷ round_to 1 2 0 ∷ round_to 0 0 0 ∷ round_to 1 0 4 ∷ []) 3 1
    -- P: three cells round an edge with two crossings: a loop of length 2 in each, six triangles, three segments (faces 2, 3, 6), six inner sides
    ∷ grid three_cells three_edges three_counts (result_of (2 ∷ []))
    (result_of (0 ∷ 2 ∷ 0 ∷ 0 ∷ []) ∷ no ∷ result_of (0 ∷ 2 ∷ 0 ∷ 0 ∷ []) ∷ no ∷ result_of (0 ∷ 2 ∷ 0 ∷ 0 ∷ []) ∷ no ∷ [])
    ((0 ∷ 1 ∷ []) ∷ (0 ∷ 1 ∷ []) ∷ (0 ∷ 1 ∷ []) ∷ [])
    (0 ∷ 0 ∷ 0 ∷ 1 ∷ no_name ∷ 3 ∷ 0 ∷ no_name ∷ 1 ∷ no_name ∷ 0 ∷
    0 ∷ 0 ∷ 1 ∷ 0 ∷ no_name ∷ 2 ∷ 0 ∷ no_name ∷ 0 ∷ no_name ∷ 1 ∷
    1 ∷ 0 ∷ 0 ∷ 1 ∷ no_name ∷ 3 ∷ 0 ∷ no_name ∷ 1 ∷ no_name ∷ 0 ∷
    1 ∷ 0 ∷ 1 ∷ 0 ∷ no_name ∷ 6 ∷ 0 ∷ no_name ∷ 0 ∷ no_name ∷ 1 ∷
    2 ∷ 0 ∷ 0 ∷ 1 ∷ no_name ∷ 2 ∷ 0 ∷ no_name ∷ 1 ∷ no_name ∷ 0 ∷
    2 ∷ 0 ∷ 1 ∷ 0 ∷ no_name ∷ 6 ∷ 0 ∷ no_name ∷ 0 ∷ no_name ∷ 1 ∷ []) (6 ∷ 3 ∷ 6 ∷ [])
    -- a loop of length 2: two segments with equal ends on two faces are two sides
    ∷ grid cell six (2 ∷ 0 ∷ 0 ∷ 0 ∷ 0 ∷ 0 ∷ []) (result_of (2 ∷ [])) (result_of (0 ∷ 2 ∷ 0 ∷ 0 ∷ []) ∷ no ∷ []) ((0 ∷ 1 ∷ []) ∷ [])
    (0 ∷ 0 ∷ 0 ∷ 1 ∷ no_name ∷ 3 ∷ 0 ∷ no_name ∷ 1 ∷ no_name ∷ 0 ∷
    0 ∷ 0 ∷ 1 ∷ 0 ∷ no_name ∷ 2 ∷ 0 ∷ no_name ∷ 0 ∷ no_name ∷ 1 ∷ []) (2 ∷ 2 ∷ 2 ∷ [])
    -- length 4 and not normal: a fan
    ∷ grid cell six (2 ∷ 2 ∷ 0 ∷ 0 ∷ 0 ∷ 0 ∷ []) (result_of (4 ∷ [])) (result_of (0 ∷ 4 ∷ 0 ∷ 0 ∷ []) ∷ no ∷ []) ((0 ∷ 2 ∷ 3 ∷ 1 ∷ []) ∷ [])
    (0 ∷ 0 ∷ 0 ∷ 2 ∷ no_name ∷ 3 ∷ 0 ∷ no_name ∷ 1 ∷ no_name ∷ 0 ∷
    0 ∷ 0 ∷ 2 ∷ 3 ∷ no_name ∷ 1 ∷ 2 ∷ no_name ∷ 2 ∷ no_name ∷ 1 ∷
    0 ∷ 0 ∷ 3 ∷ 1 ∷ no_name ∷ 3 ∷ 1 ∷ no_name ∷ 3 ∷ no_name ∷ 2 ∷
    0 ∷ 0 ∷ 1 ∷ 0 ∷ no_name ∷ 2 ∷ 0 ∷ no_name ∷ 0 ∷ no_name ∷ 3 ∷ []) (4 ∷ 4 ∷ 4 ∷ [])
    -- two loops, by p0; the second is contractible, though the cell's counts 3 1 1 are odd
    ∷ grid cell six two_loop_counts (result_of (5 ∷ [])) (result_of (0 ∷ 3 ∷ 1 ∷ 3 ∷ 0 ∷ []) ∷ result_of (1 ∷ 2 ∷ 0 ∷ 0 ∷ []) ∷ no ∷ [])
    ((0 ∷ 3 ∷ 4 ∷ []) ∷ (1 ∷ 2 ∷ []) ∷ [])
    (0 ∷ 0 ∷ 0 ∷ 3 ∷ 4 ∷ 3 ∷ 0 ∷ 1 ∷ 3 ∷ 2 ∷ 0 ∷
    0 ∷ 1 ∷ 1 ∷ 2 ∷ no_name ∷ 3 ∷ 1 ∷ no_name ∷ 1 ∷ no_name ∷ 0 ∷
    0 ∷ 1 ∷ 2 ∷ 1 ∷ no_name ∷ 2 ∷ 1 ∷ no_name ∷ 0 ∷ no_name ∷ 1 ∷ []) (3 ∷ 5 ∷ 2 ∷ [])
    -- a later cell has the crossing numbers of the whole grid, and its type the number of a node, not its position
    ∷ grid two_cells two_edges two_counts (result_of (5 ∷ [])) (result_of (0 ∷ 2 ∷ 0 ∷ 0 ∷ []) ∷ no ∷ result_of (2 ∷ 3 ∷ 1 ∷ 1 ∷ 4 ∷ []) ∷ no ∷ [])
    ((0 ∷ 1 ∷ []) ∷ (2 ∷ 3 ∷ 4 ∷ []) ∷ [])
    (0 ∷ 0 ∷ 0 ∷ 1 ∷ no_name ∷ 3 ∷ 0 ∷ no_name ∷ 1 ∷ no_name ∷ 0 ∷
    0 ∷ 0 ∷ 1 ∷ 0 ∷ no_name ∷ 2 ∷ 0 ∷ no_name ∷ 0 ∷ no_name ∷ 1 ∷
    1 ∷ 2 ∷ 2 ∷ 3 ∷ 4 ∷ 6 ∷ 2 ∷ 4 ∷ 3 ∷ 5 ∷ 2 ∷ []) (3 ∷ 5 ∷ 2 ∷ [])
    -- d1 4, d2 2: two loops of length 12, and the triangles of the split cell, with 24 segments on its faces, 30 on its inner faces and 36 inner sides
    ∷ grid cell six split_counts (result_of (24 ∷ [])) (result_of (0 ∷ 12 ∷ 1 ∷ 2 ∷ 1 ∷ []) ∷ result_of (1 ∷ 12 ∷ 1 ∷ 2 ∷ 1 ∷ []) ∷ no ∷ [])
    ((0 ∷ 15 ∷ 22 ∷ 10 ∷ 18 ∷ 12 ∷ 3 ∷ 9 ∷ 21 ∷ 16 ∷ 4 ∷ 6 ∷ []) ∷ (1 ∷ 14 ∷ 23 ∷ 11 ∷ 19 ∷ 13 ∷ 2 ∷ 8 ∷ 20 ∷ 17 ∷ 5 ∷ 7 ∷ []) ∷ [])
    one_split.words (52 ∷ 54 ∷ 36 ∷ [])
    -- faces: rule 3 on the other edges, with an even and an odd number of residuals; three corner counts that differ; a count that is the sum of
    -- the other two
    ∷ face 1 4 1 (round_to 0 1 0 ∷ round_to 0 0 0 ∷ along_to 1 2 ∷ along_to 1 1 ∷ round_to 2 2 0 ∷ round_to 2 1 3 ∷ []) 3 0
    ∷ face 0 1 4 (round_to 2 2 3 ∷ skipped_by3 ∷ along_to 2 2 ∷ along_to 2 1 ∷ round_to 2 1 0 ∷ []) 2 1
    ∷ face 3 4 5 (round_to 0 1 0 ∷ round_to 1 2 1 ∷ round_to 1 2 0 ∷ round_to 0 0 0 ∷ round_to 2 2 2 ∷ round_to 2 2 3 ∷ round_to 2 2 4 ∷ round_to 1 0 2 ∷ round_to 1 0 1 ∷ round_to 2 1 1 ∷ round_to 2 1 2 ∷ round_to 2 1 3 ∷ []) 6 0
    ∷ face 2 1 1 (round_to 0 1 0 ∷ round_to 1 2 0 ∷ round_to 0 0 0 ∷ round_to 1 0 1 ∷ []) 2 0
    -- no such crossing, and the largest counts of a byte and of 16 bits
    ∷ join 0 0 0 0 0 no_crossing ∷ join 5 1 1 0 5 no_crossing ∷ join 3 3 3 3 0 no_crossing ∷ join 3 3 3 4294967295 4294967295 no_crossing
    ∷ join 255 255 255 0 126 (round_to 0 1 126) ∷ join 255 255 255 0 127 left_by2 ∷ join 255 255 255 0 128 (round_to 1 2 126)
    ∷ join 255 0 0 0 0 skipped_by3 ∷ join 255 0 0 0 254 (along_to 0 253) ∷ join 255 255 0 0 254 (round_to 0 1 254) ∷ join 0 255 255 2 0 (round_to 2 1 0)
    ∷ join 65535 65535 65535 0 32767 left_by2 ∷ join 65535 65535 65535 0 32768 (round_to 1 2 32766) ∷ join 0 65535 65535 2 65535 no_crossing
    -- a triangle of a cell: the second, and one too many
    ∷ nth cell six two_loop_counts 0 1 (result_of (0 ∷ 1 ∷ 1 ∷ 2 ∷ no_name ∷ 3 ∷ 1 ∷ no_name ∷ 1 ∷ no_name ∷ 0 ∷ []))
    ∷ nth cell six two_loop_counts 0 3 no ∷ nth cell six corner_counts 0 18446744073709551615 no
    -- the mesh call: words beyond the mesh keep their values; 10 words for 1 triangle are left as they were, and so are 65 words for 6 triangles,
    -- where five fit; a refused grid comes first
    ∷ mesh cell six corner_counts (replicate 13 9) (result_of (1 ∷ 0 ∷ [])) (0 ∷ 0 ∷ 0 ∷ 1 ∷ 2 ∷ 3 ∷ 0 ∷ 1 ∷ 1 ∷ 2 ∷ 0 ∷ 9 ∷ 9 ∷ [])
    ∷ mesh cell six corner_counts (replicate 10 9) (refusal 12 1) (replicate 10 9)
    ∷ mesh three_cells three_edges three_counts (replicate 65 9) (refusal 12 6) (replicate 65 9)
    ∷ mesh cell [] corner_counts [] (refusal 2 0) [] ∷ mesh cell six (0 ∷ 4096 ∷ 0 ∷ 0 ∷ 0 ∷ 0 ∷ []) (9 ∷ []) (refusal 18 1) (9 ∷ [])
    -- cells that are split: d1 4, d2 2, with 24 crossings, one split and 52 triangles, which take 572 words; d1 6, d2 2, with two splits. Of 4 and 1 the
    -- greatest common divisor is 1: the fans are drawn
    ∷ sizes cell six split_counts 572 (result_of (52 ∷ 1 ∷ [])) ∷ sizes cell six split_counts 571 (refusal 12 52)
    ∷ sizes cell six (6 ∷ 2 ∷ 8 ∷ 8 ∷ 2 ∷ 6 ∷ []) 1056 (result_of (96 ∷ 2 ∷ [])) ∷ sizes cell six (4 ∷ 1 ∷ 5 ∷ 5 ∷ 1 ∷ 4 ∷ []) 220 (result_of (20 ∷ 0 ∷ []))
    -- the loops call: loop after loop, none after the last; a count above 255; a later cell; cell 1 of 1; a refused grid comes first
    ∷ loop cell six two_loop_counts 0 0 (result_of (0 ∷ 3 ∷ 1 ∷ 3 ∷ 0 ∷ [])) ∷ loop cell six two_loop_counts 0 1 (result_of (1 ∷ 2 ∷ 0 ∷ 0 ∷ []))
    ∷ loop cell six two_loop_counts 0 2 no ∷ loop cell six two_loop_counts 0 18446744073709551615 no
    ∷ loop cell six (300 ∷ 0 ∷ 0 ∷ 0 ∷ 0 ∷ 0 ∷ []) 0 149 (result_of (298 ∷ 2 ∷ 0 ∷ 0 ∷ [])) ∷ loop cell six (300 ∷ 0 ∷ 0 ∷ 0 ∷ 0 ∷ 0 ∷ []) 0 150 no
    ∷ loop two_cells two_edges two_counts 1 0 (result_of (2 ∷ 3 ∷ 1 ∷ 1 ∷ 4 ∷ [])) ∷ loop two_cells two_edges two_counts 1 1 no
    ∷ loop two_cells two_edges two_counts 18446744073709551615 0 (refusal 11 18446744073709551615)
    ∷ loop cell six corner_counts 1 0 (refusal 11 1)
    ∷ loop cell [] corner_counts 1 0 (refusal 2 0) ∷ loop cell six (0 ∷ 0 ∷ 0 ∷ 0 ∷ 0 ∷ 4096 ∷ []) 1 0 (refusal 18 5)
    ∷ []

-- every example is as the definitions say, part by part
abbrev pub ExamplesHold : Type 0
ExamplesHold = map computed examples ≡ examples
