-- What holds of the loops of N crossings, for every step that is undone by turning round.
use Rattle.std.specs.Prelude.{ℕ, ◌≤◌, ◌<◌, ◌*◌, List, ◌≡◌, ◌⊎◌, ◌≢◌}
use Rattle.counting.specs.Lists.{over, tally, it}
use Rattle.walk.specs.Walk.{loop_at, size}
use Rattle.walk.specs.Darts.{On, half, Live, Loop, of_crossing}

module _ (N : ℕ) (s : ℕ → ℕ) where
  -- the darts of all loops, by least crossing
  unfoldable pub flat : List ℕ
  unfolding loop_at over
  flat = over (loop_at N s) N 0

-- What is asked of a step `s` on the darts below M, with `rv` the other dart of a dart's crossing and `cr` the crossing, one of N:
-- a step is undone by turning round, and no step ends at the crossing that it left.
pub record Darts (M N : ℕ) (s rv cr : ℕ → ℕ) : Type 0 where
  pub rv_lt : (d : ℕ) → d < M → rv d < M
  pub rv_rv : (d : ℕ) → d < M → rv (rv d) ≡ d
  pub rv_ne : (d : ℕ) → d < M → rv d ≢ d
  pub back : (d : ℕ) → d < M → s d < M → s (rv (s d)) ≡ rv d
  pub s_ne : (d : ℕ) → d < M → s d ≢ rv d
  pub cr_lt : (d : ℕ) → d < M → cr d < N
  pub cr_rv : (d : ℕ) → d < M → cr (rv d) ≡ cr d
  pub same : (d e : ℕ) → d < M → e < M → cr d ≡ cr e → (d ≡ e) ⊎ (d ≡ rv e)

-- the start is the least of those crossings
abbrev pub Lowest : (s cr : ℕ → ℕ) → ℕ → ℕ → Type 0
Lowest s cr p k = (x : ℕ) → On s cr p k x → cr p ≤ x

pub record WalkLaws (N : ℕ) (s : ℕ → ℕ) : Type 0 where
  -- a walk that does not end closes within as many steps as there are crossings
  pub closes : (d : ℕ) → Live (2 * N) s d N → (k : ℕ) × (k ≤ N) × Loop (2 * N) s d k
  -- the crossings of a loop are distinct
  pub distinct : (d k : ℕ) → Loop (2 * N) s d k → (i j : ℕ) → i < k → j < k → half (it s i d) ≡ half (it s j d) → i ≡ j
  -- what is listed is a loop that starts at its least crossing, and each such loop is listed
  pub found : (p : ℕ) → p < N → 0 < size N s p → Loop (2 * N) s (2 * p) (size N s p) × Lowest s half (2 * p) (size N s p)
  pub finds : (p k : ℕ) → p < N → Loop (2 * N) s (2 * p) k → Lowest s half (2 * p) k → size N s p ≡ k
  -- a loop has one length, from each of its darts
  pub one_length : (d k l i : ℕ) → Loop (2 * N) s d k → Loop (2 * N) s (it s i d) l → k ≡ l
  -- each crossing is on at most one listed loop, once
  pub most : (x : ℕ) → tally (of_crossing x) (flat N s) ≤ 1
  -- each crossing of a closed curve is on exactly one, whatever other curves do; each crossing, where no curve ends
  pub closed : (d k : ℕ) → Loop (2 * N) s d k → (i : ℕ) → tally (of_crossing (half (it s i d))) (flat N s) ≡ 1
  pub exactly : ((d : ℕ) → d < 2 * N → s d < 2 * N) → (x : ℕ) → x < N → tally (of_crossing x) (flat N s) ≡ 1
  -- a loop of as many crossings as there are has all of them
  pub all : (d : ℕ) → Loop (2 * N) s d N → (x : ℕ) → x < N → On s half d N x
