-- What is counted of a recorded loop: a list of half-edges, taken as a round.
use Rattle.std.specs.Prelude.{ℕ, ◌%◌, Bool, List, ◌∷◌, eqb, get_or, length}
use Rattle.counting.specs.Lists.{one, total}
use Rattle.answer.specs.Answer.{result_of}
use Rattle.cell.specs.claims.Half.{edge_of}
use Rattle.cell.specs.Loop.{type_by}

-- how many have edge e
unfoldable pub crosses_in : List ℕ → ℕ → ℕ
unfolding total edge_of
crosses_in l e = total (λ k. one (eqb (edge_of (get_or l k 0)) e)) (length l) 0

-- what is answered of a loop from its record, and whether it is normal; v are the cell's nodes
unfoldable pub round_answer : (v halves points : List ℕ) → Bool → List ℕ
round_answer v halves points normal =
    result_of (get_or points 0 0 ∷ length halves ∷ one normal ∷ type_by v (crosses_in halves 0 % 2) (crosses_in halves 1 % 2) (crosses_in halves 2 % 2))
