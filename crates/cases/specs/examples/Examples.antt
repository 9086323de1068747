-- Examples of entries: of each cell the place of its entry and the answer.
use Rattle.std.specs.Prelude.{ℕ, ◌≡◌, List, [], ◌∷◌, map}
use Rattle.answer.specs.Answer.{result_of}
use Rattle.cell.specs.Level.{by_edge}
use Rattle.cases.specs.Answer.{case_answer}
use Rattle.cases.specs.claims.Tally.{find_entry}

pub record Example : Type 0 where
  pub counts : List ℕ
  pub place : ℕ
  pub answer : List ℕ

unfoldable pub of : (e01 e02 e03 e12 e13 e23 place : ℕ) (answer : List ℕ) → Example
of e01 e02 e03 e12 e13 e23 place answer = record { counts = e01 ∷ e02 ∷ e03 ∷ e12 ∷ e13 ∷ e23 ∷ []; place = place; answer = answer }

-- so many loops and triangles; or no entry
abbrev pub has : (loops triangles : ℕ) → List ℕ
has l t = result_of (l ∷ t ∷ [])

abbrev pub outside : List ℕ
outside = result_of []

unfoldable pub examples : List Example
examples =
    -- nothing; curves that do not close
    of 0 0 0 0 0 0 0 (has 0 0)
    ∷ of 1 0 0 0 0 0 243 (has 0 0)
    ∷ of 1 1 1 1 1 1 364 (has 0 0)
    -- a corner at node 0; the three edges of a face, which are the opposite ones
    ∷ of 1 1 1 0 0 0 351 (has 1 1)
    ∷ of 0 0 0 1 1 1 13 (has 0 0)
    -- a corner at node 3
    ∷ of 0 0 1 0 1 1 31 (has 1 1)
    -- a normal loop of 4, an octagon, a loop along one edge, a corner at each node
    ∷ of 0 1 1 1 1 0 120 (has 1 2)
    ∷ of 2 1 1 1 1 2 608 (has 1 8)
    ∷ of 2 0 0 0 0 0 486 (has 1 2)
    ∷ of 2 2 2 2 2 2 728 (has 4 4)
    -- a loop beside a curve that does not close
    ∷ of 2 0 0 0 0 1 487 (has 1 2)
    -- a count above 2 at the first edge, at the last, at all
    ∷ of 3 0 0 0 0 0 729 outside
    ∷ of 0 0 0 0 0 3 729 outside
    ∷ of 65535 65535 65535 65535 65535 65535 729 outside
    ∷ []

abbrev pub ExamplesHold : Type 0
ExamplesHold =
    map (λ x. (find_entry (by_edge x.counts) ∷ []) ∷ case_answer (by_edge x.counts) ∷ []) examples
    ≡ map (λ x. (x.place ∷ []) ∷ x.answer ∷ []) examples
