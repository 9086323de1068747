-- What is proved of the check of a flat grid, besides the contracts.
use Rattle.std.specs.Prelude.{Result, ℕ, ◌<◌, ◌≡◌, ◌⊎◌, ◌≢◌, List, [], ◌∷◌, length}
use Rattle.flat.specs.FlatGrid.{FlatGrid, triangles_in, edge_number}
use Rattle.flat.specs.Accepted.{EdgeIs, Accepted}
use Rattle.answer.specs.Answer.{result_of, refusal}
use Rattle.answer.specs.claims.Faults.{Refusal}
use Rattle.grid.specs.Grid.{crossings}
use Rattle.grid.specs.Check.{check_numbers}
use Rattle.answer.specs.declared.Refusal.{Refusal as Reason}
use Rattle.flat.specs.Rows.{rows, flat_answer}
use Rattle.flat.specs.Answer.{chains_answer}
use Rattle.flat.specs.Numbers.{traced_numbers}

module _ (G : FlatGrid) where
  -- the numbers of the triangles' edges in an accepted flat grid
  pub record EdgeNumbers : Type 0 where
    -- each triangle's edge has one, and no two edges have the same ends
    pub listed : (f k : ℕ) → f < triangles_in G.triangles → k < 3 → edge_number G f k < length G.counts
    pub is : (f k : ℕ) → f < triangles_in G.triangles → k < 3 → EdgeIs G f k (edge_number G f k)
    pub only : (f k e : ℕ) → f < triangles_in G.triangles → k < 3 → e < length G.counts → EdgeIs G f k e → edge_number G f k ≡ e
    pub used : (e : ℕ) → e < length G.counts → (f : ℕ) × (k : ℕ) × (f < triangles_in G.triangles) × (k < 3) × (edge_number G f k ≡ e)
    -- in a triangle an earlier edge has the lower number
    pub rising : (f k l : ℕ) → f < triangles_in G.triangles → k < l → l < 3 → edge_number G f k < edge_number G f l

-- a flat grid is accepted exactly where it is as 02 asks, said without the tests of the rows, and then the answer is the number of crossings
abbrev pub AcceptanceYields : Type 0
AcceptanceYields = (G : FlatGrid) (values : List ℕ) → flat_answer G ≡ result_of values → Accepted G

abbrev pub AcceptedAnswer : Type 0
AcceptedAnswer = (G : FlatGrid) → Accepted G → flat_answer G ≡ result_of (crossings G.counts ∷ [])

-- what is refused, and only that
abbrev pub RefusesFault : Type 0
RefusesFault = (G : FlatGrid) (n p : ℕ) → Refusal (rows G) n p → flat_answer G ≡ refusal n p

abbrev pub FaultRefused : Type 0
FaultRefused = (G : FlatGrid) (n p : ℕ) → n ≢ 0 → flat_answer G ≡ refusal n p → Refusal (rows G) n p

-- there is no other answer
abbrev pub AcceptsOrRefuses : Type 0
AcceptsOrRefuses = (G : FlatGrid) → (flat_answer G ≡ result_of (crossings G.counts ∷ [])) ⊎ ((n : ℕ) × (p : ℕ) × Refusal (rows G) n p)

-- the numbers tell the answer: no two answers are read alike
abbrev pub AnswerTold : Type 0
AnswerTold = (G : FlatGrid) (r s : Result ℕ Reason) → check_numbers r ≡ flat_answer G → check_numbers s ≡ flat_answer G → r ≡ s

abbrev pub ChainsTold : Type 0
ChainsTold = (G : FlatGrid) (room : ℕ) (r s : Result ℕ Reason) → traced_numbers r ≡ chains_answer G room → traced_numbers s ≡ chains_answer G room → r ≡ s

-- what the rows give the edges' numbers
abbrev pub NumbersOfAccepted : Type 0
NumbersOfAccepted = (G : FlatGrid) → Accepted G → EdgeNumbers G
