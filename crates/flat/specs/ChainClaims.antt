-- What is proved of chains, for every step that is undone by turning round.
use Rattle.std.specs.Prelude.{ℕ, suc, ◌*◌, ◌≤◌, ◌<◌, ◌≡◌, Bool, true, false, ◌||◌, eqb}
use Rattle.counting.specs.Lists.{tally, it}
use Rattle.walk.specs.Darts.{half, rev, Loop, On, of_crossing}
use Rattle.flat.specs.Chain.{closes, chain_size, chain_start, chain_darts}

module _ (N : ℕ) (s : ℕ → ℕ) where
  -- from dart d on l steps lead from one end of an open curve to the other: no step leads on at its last dart, and none back at its first
  pub record Path (d l : ℕ) : Type 0 where
    pub live : (i : ℕ) → i ≤ l → it s i d < 2 * N
    pub first : 2 * N ≤ s (rev d)
    pub last : 2 * N ≤ s (it s l d)

  -- dart e leads over the segment of dart d: it is d, or leads the other way
  unfoldable pub of_segment : ℕ → ℕ → Bool
  of_segment d e = eqb e d || eqb e (rev (s d))

  pub record ChainLaws : Type 0 where
    -- a closed chain starts at its least crossing, by that crossing's first dart, and is back there after as many steps as it has crossings
    pub closed : (p : ℕ) → p < N → 0 < chain_size N s p → closes N s p ≡ true → (chain_start N s p ≡ 2 * p) × Loop (2 * N) s (2 * p) (chain_size N s p)
    -- an open one has a segment, and leads from one end to the other, which has the higher number
    pub ends : (p : ℕ) → p < N → 0 < chain_size N s p → closes N s p ≡ false
        → (l : ℕ) × (0 < l) × (chain_size N s p ≡ suc l) × Path (chain_start N s p) l × (half (chain_start N s p) < half (it s l (chain_start N s p)))
    -- the crossings of a chain are distinct; p is one of them, and the least
    pub distinct : (p i j : ℕ) → p < N → i < chain_size N s p → j < chain_size N s p → half (it s i (chain_start N s p)) ≡ half (it s j (chain_start N s p)) → i ≡ j
    pub has : (p : ℕ) → p < N → 0 < chain_size N s p → On s half (chain_start N s p) (chain_size N s p) p
    pub least : (p x : ℕ) → p < N → On s half (chain_start N s p) (chain_size N s p) x → p ≤ x
    -- each crossing is in at most one chain, once; in one if it has a segment, and else in none
    pub most : (x : ℕ) → x < N → tally (of_crossing x) (chain_darts N s) ≤ 1
    pub joined : (d : ℕ) → d < 2 * N → s d < 2 * N → tally (of_crossing (half d)) (chain_darts N s) ≡ 1
    pub single : (x : ℕ) → x < N → 2 * N ≤ s (2 * x) → 2 * N ≤ s (rev (2 * x)) → tally (of_crossing x) (chain_darts N s) ≡ 0
    -- each segment is in exactly one chain, once
    pub once : (d : ℕ) → d < 2 * N → s d < 2 * N → tally (of_segment d) (chain_darts N s) ≡ 1
