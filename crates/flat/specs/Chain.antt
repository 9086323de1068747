-- Chains of N crossings under a step on their darts (crate walk). A chain is closed or open, and is found at its least crossing.
use Rattle.std.specs.Prelude.{ℕ, zero, suc, ◌+◌, ◌*◌, Bool, true, false, ◌&&◌, List, [], ◌∷◌, eqb, ltb, leb}
use Rattle.counting.specs.Pick.{pick}
use Rattle.counting.specs.Lists.{one, over, values, it}
use Rattle.counting.specs.Search.{every}
use Rattle.walk.specs.Walk.{orbit, size}
use Rattle.walk.specs.Darts.{half, rev}

module _ (N : ℕ) (s : ℕ → ℕ) where
  -- how many of n steps can be taken from dart d on before the curve ends
  unfoldable pub taken : ℕ → ℕ → ℕ
  taken zero d = 0
  taken (suc n) d = elim (ltb (s d) (2 * N)) [ true ↦ suc (taken n (s d)) | false ↦ 0 ]

  -- the steps from dart d to the end of its curve, where it has one. An open curve has no more than N crossings, and so fewer than N steps
  unfoldable pub steps : ℕ → ℕ
  steps d = taken N d

  -- the curve through crossing p has no end
  unfoldable pub closes : ℕ → Bool
  closes p = eqb (steps (2 * p)) N

  -- the dart at the end to which dart d leads
  unfoldable pub last_dart : ℕ → ℕ
  last_dart d = it s (steps d) d

  -- the open curve through crossing p: how many segments it has, and the dart at its end with the lower number
  unfoldable pub path_steps : ℕ → ℕ
  path_steps p = steps (2 * p + 1) + steps (2 * p)

  unfoldable pub path_start : ℕ → ℕ
  path_start p = pick (ltb (half (last_dart (2 * p))) (half (last_dart (2 * p + 1)))) (rev (last_dart (2 * p))) (rev (last_dart (2 * p + 1)))

  -- it has a segment, and p is its least crossing
  unfoldable pub is_path : ℕ → Bool
  is_path p = ltb 0 (path_steps p) && every (λ i. leb p (half (it s i (path_start p)))) (path_steps p + 1)

  -- the chain whose least crossing is p: its number of crossings, 0 where there is none, and its first dart. A closed one leaves p by its first dart
  unfoldable pub chain_size : ℕ → ℕ
  chain_size p = pick (closes p) (size N s p) (pick (is_path p) (path_steps p + 1) 0)

  unfoldable pub chain_start : ℕ → ℕ
  chain_start p = pick (closes p) (2 * p) (path_start p)

  -- its darts in turn
  unfoldable pub darts_at : ℕ → List ℕ
  darts_at p = orbit s (chain_size p) (chain_start p)

  -- the darts of all chains, by least crossing
  unfoldable pub chain_darts : List ℕ
  chain_darts = over darts_at N 0

  -- the words of a chain (02): 1 for a closed one or 0 for an open one, its number of crossings, and these in turn
  unfoldable pub chain_words : ℕ → List ℕ
  chain_words p = pick (eqb (chain_size p) 0) [] (one (closes p) ∷ chain_size p ∷ values (λ i. half (it s i (chain_start p))) (chain_size p))

  unfoldable pub all_chain_words : List ℕ
  all_chain_words = over chain_words N 0
