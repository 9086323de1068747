-- The type of a loop (01) does not depend on the node that it is counted from.
use Rattle.std.specs.Prelude.{ℕ, ◌+◌, ◌/◌, ◌%◌, ◌<◌, ◌≡◌, Bool, false, ◌||◌, List, [], ◌∷◌, eqb, get_or}
use Rattle.counting.specs.Pick.{pick}
use Rattle.counting.specs.Lists.{one, tally}
use Rattle.slots.specs.Slots.{lo, hi, position, slot_edge}
use Rattle.cell.specs.Cell.{Edges, crossings, edge}
use Rattle.cell.specs.Loop.{loop_darts, parity, type_by, type_of}
use Rattle.cell.specs.Nodes.{joining}

-- From the parities of a loop, q k on edge k, for the cell's nodes by position
module _ (q : ℕ → ℕ) where
  -- the type by the rule of 01, with the node at position u in place of the lowest: from the parities on the three edges from it to the others
  unfoldable pub type_from : ℕ → List ℕ
  type_from u =
      type_by (u ∷ position u 0 ∷ position u 1 ∷ position u 2 ∷ [])
      (q (joining u (position u 0))) (q (joining u (position u 1))) (q (joining u (position u 2)))

  -- whether this type sets the node at position i apart: no node if contractible, the corner, or one of the diagonal's pair
  unfoldable pub apart : ℕ → ℕ → Bool
  apart u i =
      pick (eqb (get_or (type_from u) 0 0) 0) false
      (pick (eqb (get_or (type_from u) 0 0) 2) (eqb i u || eqb i (get_or (type_from u) 1 0)) (eqb i (get_or (type_from u) 1 0)))

-- how many crossings the loop from p has on edge k
abbrev pub crossings_on : Edges → ℕ → ℕ → ℕ
crossings_on w p k = tally (λ d. eqb (edge w (d / 2)) k) (loop_darts w p)

-- Of the loop from p. On each face it has an even number of crossings. So its parities part the nodes in two: from whichever node its type is read, the
-- type sets one end of an edge apart and not the other exactly where the loop's parity on the edge is 1. And 01 reads it from the lowest node.
pub record TypeLaws (w : Edges) (p : ℕ) : Type 0 where
  pub even : (s : ℕ) → s < 4 → (crossings_on w p (slot_edge s 0) + crossings_on w p (slot_edge s 1) + crossings_on w p (slot_edge s 2)) % 2 ≡ 0
  pub sides : (u k : ℕ) → u < 4 → k < 6 → (one (apart (parity w p) u (lo k)) + one (apart (parity w p) u (hi k))) % 2 ≡ parity w p k
  pub lowest : type_from (parity w p) 0 ≡ type_of w (0 ∷ 1 ∷ 2 ∷ 3 ∷ []) p

-- of every loop of every cell
abbrev pub TypesTold : Type 0
TypesTold = (w : Edges) (p : ℕ) → p < crossings w → TypeLaws w p

-- the types of a loop with these parities, read from each of the four nodes: a corner at 0; a diagonal of 0 with 1, and so of 2 with 3; a corner at 2; none
abbrev pub from_each : List ℕ → List (List ℕ)
from_each l = type_from (λ k. get_or l k 0) 0 ∷ type_from (λ k. get_or l k 0) 1 ∷ type_from (λ k. get_or l k 0) 2 ∷ type_from (λ k. get_or l k 0) 3 ∷ []

pub record TypeExamples : Type 0 where
  pub corner : from_each (1 ∷ 1 ∷ 1 ∷ 0 ∷ 0 ∷ 0 ∷ []) ≡ (3 ∷ 0 ∷ []) ∷ (1 ∷ 0 ∷ []) ∷ (1 ∷ 0 ∷ []) ∷ (1 ∷ 0 ∷ []) ∷ []
  pub diagonal : from_each (0 ∷ 1 ∷ 1 ∷ 1 ∷ 1 ∷ 0 ∷ []) ≡ (2 ∷ 1 ∷ []) ∷ (2 ∷ 0 ∷ []) ∷ (2 ∷ 3 ∷ []) ∷ (2 ∷ 2 ∷ []) ∷ []
  pub upper_corner : from_each (0 ∷ 1 ∷ 0 ∷ 1 ∷ 0 ∷ 1 ∷ []) ≡ (1 ∷ 2 ∷ []) ∷ (1 ∷ 2 ∷ []) ∷ (3 ∷ 2 ∷ []) ∷ (1 ∷ 2 ∷ []) ∷ []
  pub contractible : from_each (0 ∷ 0 ∷ 0 ∷ 0 ∷ 0 ∷ 0 ∷ []) ≡ (0 ∷ []) ∷ (0 ∷ []) ∷ (0 ∷ []) ∷ (0 ∷ []) ∷ []
