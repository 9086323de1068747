-- An example for each of the project's own words for numbers and lists.
use Rattle.std.specs.Prelude.{ℕ, ◌+◌, ◌*◌, ◌%◌, ◌≡◌, List, [], ◌∷◌, eqb, ltb}
use Rattle.counting.specs.Lists.{one, seek, total, over, values, kept, after, pre, tally, gather, it}

-- what the words give
abbrev pub found : List (List ℕ)
found =
    -- 3 is below 5, and 5 is not below 3
    (one (ltb 3 5) ∷ one (ltb 5 3) ∷ [])
    -- the least of 1 to 5 whose square is above 6; of 1 and 2 none
    ∷ (seek (λ i. ltb 6 (i * i)) 5 1 ∷ seek (λ i. ltb 6 (i * i)) 2 1 ∷ [])
    -- 1 and 4 and 9
    ∷ (total (λ i. i * i) 3 1 ∷ [])
    -- 5 and 6, each twice
    ∷ over (λ i. i ∷ i ∷ []) 2 5
    -- the squares of the numbers below 4
    ∷ values (λ i. i * i) 4
    -- of 1 to 5 the even ones
    ∷ kept (λ i. eqb (i % 2) 0) 5 1
    -- after 2 in a round of four, and after its last
    ∷ (after 4 2 ∷ after 4 3 ∷ [])
    -- rows of 2, 3 and 4 places before row 3
    ∷ (pre (λ r. r + 2) 3 ∷ [])
    -- two entries are above 1
    ∷ (tally (λ x. ltb 1 x) (0 ∷ 2 ∷ 3 ∷ []) ∷ [])
    -- 4 with its double, then 7 with its double
    ∷ gather (λ x. x ∷ 2 * x ∷ []) (4 ∷ 7 ∷ [])
    -- 5 doubled three times
    ∷ (it (λ d. 2 * d) 3 5 ∷ [])
    ∷ []

-- what they should
abbrev pub asked : List (List ℕ)
asked =
    (1 ∷ 0 ∷ [])
    ∷ (3 ∷ 3 ∷ [])
    ∷ (14 ∷ [])
    ∷ (5 ∷ 5 ∷ 6 ∷ 6 ∷ [])
    ∷ (0 ∷ 1 ∷ 4 ∷ 9 ∷ [])
    ∷ (2 ∷ 4 ∷ [])
    ∷ (3 ∷ 0 ∷ [])
    ∷ (9 ∷ [])
    ∷ (2 ∷ [])
    ∷ (4 ∷ 8 ∷ 7 ∷ 14 ∷ [])
    ∷ (40 ∷ [])
    ∷ []

abbrev pub ExamplesHold : Type 0
ExamplesHold = found ≡ asked
