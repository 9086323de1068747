-- The loops of N crossings under a step on their darts, each found from its least crossing by a walk that leaves it by its first dart.
use Rattle.std.specs.Prelude.{ℕ, zero, suc, ◌*◌, ◌/◌, List, [], ◌∷◌, Bool, true, false, eqb, ltb}

module _ (s : ℕ → ℕ) where
  -- d and what follows it, k in all
  unfoldable pub orbit : ℕ → ℕ → List ℕ
  orbit zero d = []
  orbit (suc k) d = d ∷ orbit k (s d)

-- where a walk from the crossing p stands: back at p; at an end, or below p; neither
pub data Status : Type 0 where
  home off on : Status

-- by three tests: the walk has not ended, it is below p, it is at p
abbrev pub judge : Bool → Bool → Bool → Status
judge false low same = off
judge true true same = off
judge true false true = home
judge true false false = on

-- how the walk stands at the dart d, of those below M
unfoldable pub status : ℕ → ℕ → ℕ → Status
status M p d = judge (ltb d M) (ltb (d / 2) p) (eqb (d / 2) p)

-- k and the steps from d to home; 0 where the walk goes off first, or n steps are not enough
unfoldable pub turn : (ℕ → ℕ) → (ℕ → Status) → ℕ → ℕ → ℕ → ℕ
turn s at zero k d = 0
turn s at (suc n) k d = elim (at d) [ home ↦ k | off ↦ 0 | on ↦ turn s at n (suc k) (s d) ]

module _ (N : ℕ) (s : ℕ → ℕ) where
  -- how many crossings the loop has whose least is p; 0 where there is none
  unfoldable pub size : ℕ → ℕ
  unfolding status turn
  size p = turn s (status (2 * N) p) N 1 (s (2 * p))

  -- that loop, as its darts in order
  unfoldable pub loop_at : ℕ → List ℕ
  unfolding size orbit
  loop_at p = orbit s (size p) (2 * p)
