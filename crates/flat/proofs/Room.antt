-- Twice as many words as crossings suffice: a chain has two crossings or more, and each crossing is in one chain at most.
use Prim.Native.Nat.{ℕ, zero, suc, ◌+◌, ◌*◌, ◌≤◌, ◌<◌}
use mathlib.Core.Path.{◌≡◌, refl, sym, ap, ◌∙◌}
use mathlib.Core.Logic.{◌≢◌}
use mathlib.Core.Bool.{Bool, true, false}
use mathlib.Core.List.{List}
use native.Mathlib.Decide.{ℕ_discrete}
use native.Mathlib.Omega.{arith}
use lib.ListN.{length, length-append}
use borrow.Author.Tests.{eq-eqb, ne_eqb}
use Rattle.counting.specs.claims.Lists.{All}
use Rattle.counting.specs.Lists.{over, it}
use Rattle.counting.proofs.Lists.{all_over, length_singles, room}
use Rattle.walk.specs.Darts.{half, rev}
use Rattle.walk.specs.claims.Claims.{Darts}
use Rattle.walk.proofs.Iterate.{all_orbit, length_orbit}
use Rattle.flat.specs.Chain.{closes, chain_size, chain_start, darts_at, chain_darts, chain_words, all_chain_words}
use Rattle.flat.proofs.Once.{chain_laws, most}
use Rattle.flat.proofs.Walked.{chain_runs}

over_twice : (f g : ℕ → List ℕ) (n p : ℕ) → ((q : ℕ) → q < p + n → length (f q) ≤ 2 * length (g q)) → length (over f n p) ≤ 2 * length (over g n p)
unfolding over
over_twice f g zero p h = omega arith
over_twice f g (suc n) p h =
    omega (
      arith,
      length-append (f p) (over f n (suc p)),
      length-append (g p) (over g n (suc p)),
      h p (omega arith),
      over_twice f g n (suc p) (λ q l. h q (omega arith)),
    )

module _ (N : ℕ) (s : ℕ → ℕ) (D : Darts (2 * N) N s rev half) (moves : (d : ℕ) → d < 2 * N → s d ≢ d) where
  not_one : (p : ℕ) → p < N → chain_size N s p ≢ 1
  unfolding it
  not_one p h q = go (closes N s p) refl
    where
      go : (b : Bool) → closes N s p ≡ b → ⊥
      go true c = let (e, L) = (chain_laws N s D).closed p h (omega arith) c in moves (2 * p) (omega arith) (ap (λ (k : ℕ). it s k (2 * p)) (sym q) ∙ L.home)
      go false c = let (l, k, e, r, t) = (chain_laws N s D).ends p h (omega arith) c in omega arith

  words_twice : (p : ℕ) → p < N → length (chain_words N s p) ≤ 2 * length (darts_at N s p)
  unfolding chain_words darts_at
  words_twice p h = elim (ℕ_discrete (chain_size N s p) 0) [
    | yes z ↦ rw (eq-eqb (chain_size N s p) 0 z) (omega arith)
    | no z ↦ rw (ne_eqb (chain_size N s p) 0 z)
        (let n = not_one p h in
        let a = length_orbit s (chain_size N s p) (chain_start N s p) in
        let b = length_singles (λ i. half (it s i (chain_start N s p))) (chain_size N s p) 0 in
        elim (ℕ_discrete (chain_size N s p) 1) [
          | yes y ↦ absurd (n y)
          | no y ↦ omega arith
        ])
  ]

  chain_within : (p : ℕ) → p < N → All (λ d. half d < N) (darts_at N s p)
  unfolding darts_at
  chain_within p h =
      all_orbit (λ d. half d < N) s (chain_size N s p) (chain_start N s p)
      (λ i l. D.cr_lt (it s i (chain_start N s p))
      (chain_runs N s D p h i l))

  pub words_room : length (all_chain_words N s) ≤ 2 * N
  unfolding all_chain_words chain_darts
  words_room =
      omega (
        arith,
        over_twice (chain_words N s) (darts_at N s) N 0 (λ q l. words_twice q (omega arith)),
        room half N (over (darts_at N s) N 0) (all_over (λ d. half d < N) (darts_at N s) N 0 (λ q a l. chain_within q (omega arith))) (most N s D),
      )
