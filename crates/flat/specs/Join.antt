-- The segments of a triangle of a flat grid (02, W11), told as the face call tells them (02, W10). Rules 1 and 3 are those of 01; in rule 2 the corner counts come from counts of which the largest
-- alone is less by 1. Crossings are counted over the whole counts in every rule.
use Rattle.std.specs.Prelude.{ℕ, ◌+◌, ◌-◌, ◌%◌, Bool, ◌&&◌, List, eqb, ltb, leb}
use Rattle.counting.specs.Pick.{pick}
use Rattle.counting.specs.Lists.{one}
use Rattle.counting.specs.Search.{first, every}
use Rattle.slots.specs.Slots.{lower, upper}
use Rattle.face.specs.Face.{left, unjoined_by, no_crossing, bare, count_on, others, corner_count_at, partner, residual}

module _ (ab ac bc : ℕ) where
  -- rule 2: the sum is odd, and no count is above the other two
  unfoldable pub rule_two : Bool
  rule_two = eqb ((ab + ac + bc) % 2) 1 && every (λ e. leb (count_on ab ac bc e) (others ab ac bc e)) 3

  -- the edge with the largest count, the first of ab, ac, bc on a tie
  unfoldable pub largest_edge : ℕ
  largest_edge = first (λ e. every (λ d. leb (count_on ab ac bc d) (count_on ab ac bc e)) 3) 3

  -- the count of edge e as the corner counts take it
  unfoldable pub lessened : ℕ → ℕ
  lessened e = count_on ab ac bc e - one (rule_two && eqb e largest_edge)

  -- the corner count at the end w of edge e
  unfoldable pub flat_corner_at : ℕ → ℕ → ℕ
  flat_corner_at w e = corner_count_at (lessened 0) (lessened 1) (lessened 2) w e

  -- what the crossing t of edge e is joined to and how, or why it is not
  unfoldable pub triangle_answer : ℕ → ℕ → List ℕ
  triangle_answer e t =
      pick (leb (count_on ab ac bc e) t) no_crossing
      (pick (ltb t (flat_corner_at (lower e) e)) (partner ab ac bc (lower e) e t)
      (pick (ltb (count_on ab ac bc e - 1 - t) (flat_corner_at (upper e) e)) (partner ab ac bc (upper e) e (count_on ab ac bc e - 1 - t))
      (pick (ltb (others ab ac bc e) (count_on ab ac bc e))
      (residual e (count_on ab ac bc e - others ab ac bc e) (t - flat_corner_at (lower e) e) t)
      (unjoined_by left))))

  -- what it is joined to: the answer without how and why
  unfoldable pub flat_join : ℕ → ℕ → List ℕ
  flat_join e t = bare (triangle_answer e t)
