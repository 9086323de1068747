-- Examples of the shading call: a grid, an area's length, the answer, and the area afterwards. The area holds 7s before.
use Rattle.std.specs.Prelude.{ℕ, ◌≡◌, List, [], ◌∷◌, ◌++◌, map, replicate}
use Rattle.answer.specs.Answer.{result_of, refusal}
use Rattle.grid.specs.Grid.{Grid, built}
use Rattle.shading.specs.Answer.{shading_answer, shading_area}

pub record Example : Type 0 where
  pub grid : Grid
  pub room : ℕ
  pub answer : List ℕ
  pub after : List ℕ

-- an area before the call
abbrev pub sevens : ℕ → List ℕ
sevens n = replicate n 7

-- nodes of no cell
abbrev free : ℕ → List ℕ
free n = replicate n 255

-- a shading that is written
abbrev shades : Grid → List ℕ → Example
shades G after = record { grid = G; room = 4096; answer = result_of []; after = after }

-- a refusal, with an area of so many bytes
abbrev refuses : Grid → (room number place : ℕ) → Example
refuses G room number place = record { grid = G; room = room; answer = refusal number place; after = sevens room }

-- one cell 0 1 2 3 with the counts of 01, 02, 03, 12, 13, 23
abbrev cell : List ℕ → Grid
cell counts = built (0 ∷ 1 ∷ 2 ∷ 3 ∷ []) (0 ∷ 1 ∷ 0 ∷ 2 ∷ 0 ∷ 3 ∷ 1 ∷ 2 ∷ 1 ∷ 3 ∷ 2 ∷ 3 ∷ []) counts

-- one cell 0 2 5 4095
abbrev ends : List ℕ → Grid
ends counts = built (0 ∷ 2 ∷ 5 ∷ 4095 ∷ []) (0 ∷ 2 ∷ 0 ∷ 5 ∷ 0 ∷ 4095 ∷ 2 ∷ 5 ∷ 2 ∷ 4095 ∷ 5 ∷ 4095 ∷ []) counts

-- one cell 1 2 3 4
abbrev high : List ℕ → Grid
high counts = built (1 ∷ 2 ∷ 3 ∷ 4 ∷ []) (1 ∷ 2 ∷ 1 ∷ 3 ∷ 1 ∷ 4 ∷ 2 ∷ 3 ∷ 2 ∷ 4 ∷ 3 ∷ 4 ∷ []) counts

-- two cells that share no node, listed with the higher nodes first: 1 4 6 8 and 0 2 5 7
abbrev apart : List ℕ → Grid
apart counts =
    built (1 ∷ 4 ∷ 6 ∷ 8 ∷ 0 ∷ 2 ∷ 5 ∷ 7 ∷ [])
    (0 ∷ 2 ∷ 0 ∷ 5 ∷ 0 ∷ 7 ∷ 1 ∷ 4 ∷ 1 ∷ 6 ∷ 1 ∷ 8 ∷ 2 ∷ 5 ∷ 2 ∷ 7 ∷ 4 ∷ 6 ∷ 4 ∷ 8 ∷ 5 ∷ 7 ∷ 6 ∷ 8 ∷ []) counts

-- three triangles of nodes, 0 1 2, 3 4 5 and 6 7 8, and three cells between each two of them: a ring
abbrev pub ring : List ℕ → Grid
ring counts =
    built
    (0 ∷ 1 ∷ 2 ∷ 5 ∷ 0 ∷ 1 ∷ 4 ∷ 5 ∷ 0 ∷ 3 ∷ 4 ∷ 5
    ∷ 3 ∷ 4 ∷ 5 ∷ 8 ∷ 3 ∷ 4 ∷ 7 ∷ 8 ∷ 3 ∷ 6 ∷ 7 ∷ 8
    ∷ 2 ∷ 6 ∷ 7 ∷ 8 ∷ 1 ∷ 2 ∷ 6 ∷ 7 ∷ 0 ∷ 1 ∷ 2 ∷ 6 ∷ [])
    (0 ∷ 1 ∷ 0 ∷ 2 ∷ 0 ∷ 3 ∷ 0 ∷ 4 ∷ 0 ∷ 5 ∷ 0 ∷ 6
    ∷ 1 ∷ 2 ∷ 1 ∷ 4 ∷ 1 ∷ 5 ∷ 1 ∷ 6 ∷ 1 ∷ 7
    ∷ 2 ∷ 5 ∷ 2 ∷ 6 ∷ 2 ∷ 7 ∷ 2 ∷ 8
    ∷ 3 ∷ 4 ∷ 3 ∷ 5 ∷ 3 ∷ 6 ∷ 3 ∷ 7 ∷ 3 ∷ 8
    ∷ 4 ∷ 5 ∷ 4 ∷ 7 ∷ 4 ∷ 8
    ∷ 5 ∷ 8
    ∷ 6 ∷ 7 ∷ 6 ∷ 8
    ∷ 7 ∷ 8 ∷ []) counts

-- one crossing on each edge between the last triangle and the first
abbrev pub ring_counts : List ℕ
ring_counts =
    0 ∷ 0 ∷ 0 ∷ 0 ∷ 0 ∷ 1
    ∷ 0 ∷ 0 ∷ 0 ∷ 1 ∷ 1
    ∷ 0 ∷ 1 ∷ 1 ∷ 1
    ∷ 0 ∷ 0 ∷ 0 ∷ 0 ∷ 0
    ∷ 0 ∷ 0 ∷ 0
    ∷ 0
    ∷ 0 ∷ 0
    ∷ 0 ∷ []

-- and also on each edge between the first triangle and the second
abbrev ring_shaded : List ℕ
ring_shaded =
    0 ∷ 0 ∷ 1 ∷ 1 ∷ 1 ∷ 1
    ∷ 0 ∷ 1 ∷ 1 ∷ 1 ∷ 1
    ∷ 1 ∷ 1 ∷ 1 ∷ 1
    ∷ 0 ∷ 0 ∷ 0 ∷ 0 ∷ 0
    ∷ 0 ∷ 0 ∷ 0
    ∷ 0
    ∷ 0 ∷ 0
    ∷ 0 ∷ []

unfoldable pub examples : List Example
examples =
    -- no crossing: one side. A corner, a quad and eight triangles of 01: the sides that they part. An even count parts nothing.
    shades (cell (0 ∷ 0 ∷ 0 ∷ 0 ∷ 0 ∷ 0 ∷ [])) (0 ∷ 0 ∷ 0 ∷ 0 ∷ free 4092)
    ∷ shades (cell (1 ∷ 1 ∷ 1 ∷ 0 ∷ 0 ∷ 0 ∷ [])) (0 ∷ 1 ∷ 1 ∷ 1 ∷ free 4092)
    ∷ shades (cell (0 ∷ 1 ∷ 1 ∷ 1 ∷ 1 ∷ 0 ∷ [])) (0 ∷ 0 ∷ 1 ∷ 1 ∷ free 4092)
    ∷ shades (cell (2 ∷ 1 ∷ 1 ∷ 1 ∷ 1 ∷ 2 ∷ [])) (0 ∷ 0 ∷ 1 ∷ 1 ∷ free 4092)
    ∷ shades (cell (4 ∷ 255 ∷ 4094 ∷ 4095 ∷ 2 ∷ 3 ∷ [])) (0 ∷ 0 ∷ 1 ∷ 0 ∷ free 4092)
    -- nodes 0 and 4,095, with nodes of no cell between
    ∷ shades (ends (0 ∷ 1 ∷ 1 ∷ 1 ∷ 1 ∷ 0 ∷ [])) (0 ∷ 255 ∷ 0 ∷ 255 ∷ 255 ∷ 1 ∷ (free 4089 ++ (1 ∷ [])))
    -- node 0 in no cell: the lowest node of the grid is 1
    ∷ shades (high (1 ∷ 0 ∷ 1 ∷ 1 ∷ 0 ∷ 1 ∷ [])) (255 ∷ 0 ∷ 1 ∷ 0 ∷ 1 ∷ free 4091)
    -- two parts: 0 at the lowest node of each, which is not the first node listed
    ∷ shades (apart (1 ∷ 1 ∷ 1 ∷ 1 ∷ 1 ∷ 0 ∷ 0 ∷ 0 ∷ 0 ∷ 1 ∷ 0 ∷ 1 ∷ [])) (0 ∷ 0 ∷ 1 ∷ 255 ∷ 1 ∷ 1 ∷ 1 ∷ 1 ∷ 0 ∷ free 4087)
    -- the ring, with a shading
    ∷ shades (ring ring_shaded) (0 ∷ 0 ∷ 0 ∷ 1 ∷ 1 ∷ 1 ∷ 1 ∷ 1 ∷ 1 ∷ free 4087)
    -- 20: a face with an odd sum, in the first part or in the last
    ∷ refuses (cell (1 ∷ 0 ∷ 0 ∷ 0 ∷ 0 ∷ 0 ∷ [])) 4096 20 0
    ∷ refuses (cell (1 ∷ 1 ∷ 1 ∷ 1 ∷ 1 ∷ 1 ∷ [])) 4096 20 0
    ∷ refuses (apart (0 ∷ 0 ∷ 0 ∷ 0 ∷ 0 ∷ 0 ∷ 0 ∷ 0 ∷ 0 ∷ 0 ∷ 0 ∷ 1 ∷ [])) 4096 20 0
    -- 20: the ring with even faces
    ∷ refuses (ring ring_counts) 4096 20 0
    -- 19: a byte too few, one too many, none; also where there is no shading
    ∷ refuses (cell (0 ∷ 0 ∷ 0 ∷ 0 ∷ 0 ∷ 0 ∷ [])) 4095 19 0
    ∷ refuses (cell (0 ∷ 0 ∷ 0 ∷ 0 ∷ 0 ∷ 0 ∷ [])) 4097 19 0
    ∷ refuses (cell (0 ∷ 0 ∷ 0 ∷ 0 ∷ 0 ∷ 0 ∷ [])) 0 19 0
    ∷ refuses (cell (1 ∷ 0 ∷ 0 ∷ 0 ∷ 0 ∷ 0 ∷ [])) 4 19 0
    -- the grid's rows come first
    ∷ refuses (cell (1 ∷ 0 ∷ 4096 ∷ 0 ∷ 0 ∷ 0 ∷ [])) 4095 18 2
    ∷ refuses (cell (1 ∷ 0 ∷ 0 ∷ 0 ∷ 0 ∷ [])) 4096 2 0
    ∷ []

abbrev pub ExamplesHold : Type 0
ExamplesHold =
    map (λ x. shading_answer x.grid x.room ∷ shading_area x.grid (sevens x.room) ∷ []) examples
    ≡ map (λ x. x.answer ∷ x.after ∷ []) examples
