-- A flat grid (02, W11): a list of triangles, three nodes each; a list of edges, two nodes each; a count for each edge. Edges, counts and crossing
-- numbers are those of a grid (01). A triangle is a face as 01 has it: its nodes a, b, c are 0, 1, 2, and its edges ab, ac, bc are 0, 1, 2.
use Rattle.std.specs.Prelude.{ℕ, ◌+◌, ◌*◌, ◌/◌, Bool, ◌&&◌, List, length, get_or, eqb}
use Rattle.counting.specs.Search.{first, some}
use Rattle.slots.specs.Slots.{lower, upper}
use Rattle.grid.specs.Grid.{joins}

-- the three lists, three numbers to a triangle, two to an edge, one to a count
pub record FlatGrid : Type 0 where
  pub triangles : List ℕ
  pub edges : List ℕ
  pub counts : List ℕ

abbrev pub flat_of : List ℕ → List ℕ → List ℕ → FlatGrid
flat_of triangles edges counts = record { triangles = triangles; edges = edges; counts = counts }

-- the most triangles that a flat grid may have, and so many edges they have at most. The other limits are those of a grid.
abbrev pub most_flat_triangles : ℕ
most_flat_triangles = 2048

module _ (triangles : List ℕ) where
  abbrev pub triangles_in : ℕ
  triangles_in = length triangles / 3

  -- node i of triangle f
  abbrev pub node : ℕ → ℕ → ℕ
  node f i = get_or triangles (3 * f + i) 0

  -- edge j of triangle g and edge k of triangle f have the same ends
  unfoldable pub same_edge : ℕ → ℕ → ℕ → ℕ → Bool
  same_edge g j f k = eqb (node g (lower j)) (node f (lower k)) && eqb (node g (upper j)) (node f (upper k))

  -- triangle g has edge k of triangle f
  unfoldable pub shares : ℕ → ℕ → ℕ → Bool
  shares f k g = some (λ j. same_edge g j f k) 3

module _ (G : FlatGrid) where
  -- edge e of the list is edge k of triangle f
  unfoldable pub is_edge : ℕ → ℕ → ℕ → Bool
  is_edge f k e = joins G.edges (node G.triangles f (lower k)) (node G.triangles f (upper k)) e

  -- triangle f has edge e of the list
  unfoldable pub has_edge : ℕ → ℕ → Bool
  has_edge e f = some (λ k. is_edge f k e) 3

  -- the place in the list of edge k of triangle f
  unfoldable pub edge_number : ℕ → ℕ → ℕ
  edge_number f k = first (is_edge f k) (length G.counts)

  -- which edge, ab ac bc, of triangle f the edge e of the list is; 3 where it is none
  unfoldable pub edge_rank : ℕ → ℕ → ℕ
  edge_rank f e = first (λ k. is_edge f k e) 3
