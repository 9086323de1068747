-- The loops of a cell (01), each known by its least crossing p.
use Rattle.std.specs.Prelude.{ℕ, ◌+◌, ◌*◌, ◌/◌, ◌%◌, Bool, List, [], ◌∷◌, eqb, ltb, get_or, drop}
use Rattle.counting.specs.Pick.{pick}
use Rattle.counting.specs.Lists.{one, kept, tally, it}
use Rattle.face.specs.Face.{is_along}
use Rattle.walk.specs.Walk as walk
use Rattle.answer.specs.Answer.{result_of}
use Rattle.cell.specs.Cell.{Edges, crossings, edge, index, answer_at, slot, step}

module _ (w : Edges) where
  -- the length (01) of the loop from p: its number of segments; 0 where there is no loop whose least crossing is p
  unfoldable pub loop_size : ℕ → ℕ
  loop_size p = walk.size (crossings w) (step w) p

  -- its dart k, and all its darts
  unfoldable pub dart : ℕ → ℕ → ℕ
  dart p k = it (step w) k (2 * p)

  unfoldable pub loop_darts : ℕ → List ℕ
  loop_darts p = walk.loop_at (crossings w) (step w) p

  -- the segment that dart d follows goes along its edge (02, W10), by the face call's answer
  unfoldable pub folded : ℕ → Bool
  folded d = is_along (answer_at w (slot w d) (d / 2))

  -- normal (02, W10): no segment goes along its edge. This is 01's definition, that none has both ends on one edge (CellLaws, normal-ends)
  unfoldable pub normal : ℕ → Bool
  normal p = eqb (tally folded (loop_darts p)) 0

  -- the number of the loop's own crossings on edge k, mod 2
  unfoldable pub parity : ℕ → ℕ → ℕ
  parity p k = tally (λ d. eqb (edge w (d / 2)) k) (loop_darts p) % 2

-- The type (01) in numbers, from the parities a, b, c on the edges from the cell's lowest node to its nodes at positions 1, 2, 3: their sum, and
-- the node's number in the grid. v are the cell's nodes.
module _ (v : List ℕ) (a b c : ℕ) where
  -- the node at position 1, 2 or 3 whose parity is q
  unfoldable pub node_with : ℕ → ℕ
  node_with q = pick (eqb a q) (get_or v 1 0) (pick (eqb b q) (get_or v 2 0) (get_or v 3 0))

  -- 0 contractible; 2 diagonal, the lowest node paired with the node of parity 0; 3 corner at the lowest node; 1 corner at the node of parity 1
  unfoldable pub type_by : List ℕ
  type_by =
      pick (eqb (a + b + c) 0) (0 ∷ [])
      (pick (eqb (a + b + c) 2) (2 ∷ node_with 0 ∷ [])
      (pick (eqb (a + b + c) 3) (3 ∷ get_or v 0 0 ∷ [])
      (1 ∷ node_with 1 ∷ [])))

-- The loops of a cell in a grid; v are its nodes.
module _ (w : Edges) where
  -- the crossing number (01) of crossing x
  unfoldable pub in_grid : ℕ → ℕ
  in_grid x = w.start (edge w x) + index w x

  -- the least crossings of the loops, in order
  unfoldable pub leasts : List ℕ
  leasts = kept (λ p. ltb 0 (loop_size w p)) (crossings w) 0

  module _ (v : List ℕ) where
    unfoldable pub type_of : ℕ → List ℕ
    type_of p = type_by v (parity w p 0) (parity w p 1) (parity w p 2)

    -- what is answered of the loop from p: p0, n, normal or not, and its type; and of no loop
    unfoldable pub loop_told : List ℕ → List ℕ
    loop_told [] = result_of []
    loop_told (p ∷ l) = result_of (in_grid p ∷ loop_size w p ∷ one (normal w p) ∷ type_of p)

    -- loop k of the cell (01); none if there are k or fewer
    unfoldable pub loop_answer : ℕ → List ℕ
    loop_answer k = loop_told (drop k leasts)
