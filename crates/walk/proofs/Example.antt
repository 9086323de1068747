-- Twelve crossings on three faces: two loops of four, one of two (joined on both of its faces), and an open curve.
use Prim.Native.Nat.{ℕ, ◌/◌}
use mathlib.Core.Path.{◌≡◌, refl}
use mathlib.Core.List.{List, [], ◌∷◌, map}
use lib.ListN.{get_or}
use Rattle.walk.specs.work.Walk.{loops}
use Rattle.walk.specs.Step.{step}

firsts : List ℕ
firsts = 0 ∷ 0 ∷ 0 ∷ 0 ∷ 1 ∷ 0 ∷ 1 ∷ 0 ∷ 1 ∷ 1 ∷ 0 ∷ 1 ∷ []

seconds : List ℕ
seconds = 1 ∷ 1 ∷ 2 ∷ 1 ∷ 2 ∷ 1 ∷ 2 ∷ 2 ∷ 2 ∷ 2 ∷ 2 ∷ 2 ∷ []

-- the mate of each crossing on each face; 12 for none
mates : List (List ℕ)
mates =
    (3 ∷ 5 ∷ 7 ∷ 0 ∷ 12 ∷ 1 ∷ 12 ∷ 2 ∷ 12 ∷ 12 ∷ 12 ∷ 12 ∷ []) ∷
    (1 ∷ 0 ∷ 12 ∷ 5 ∷ 6 ∷ 3 ∷ 4 ∷ 12 ∷ 9 ∷ 8 ∷ 12 ∷ 12 ∷ []) ∷
    (12 ∷ 12 ∷ 7 ∷ 12 ∷ 9 ∷ 12 ∷ 8 ∷ 2 ∷ 6 ∷ 4 ∷ 11 ∷ 10 ∷ []) ∷ []

crossings : List (List ℕ) → List (List ℕ)
crossings [] = []
crossings (l ∷ ls) = map (λ d. d / 2) l ∷ crossings ls

twelve : crossings (loops 12 (step 12 (λ c. get_or firsts c 0) (λ c. get_or seconds c 0) (λ f c. get_or (get_or mates f []) c 12)))
    ≡ (0 ∷ 3 ∷ 5 ∷ 1 ∷ []) ∷ (2 ∷ 7 ∷ []) ∷ (4 ∷ 6 ∷ 8 ∷ 9 ∷ []) ∷ []
unfolding firsts seconds mates crossings loops step
twelve = refl
