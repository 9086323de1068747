-- Each crossing is in at most one of the loops that are listed, once; where no curve ends, in exactly one.
use Prim.Native.Nat.{ℕ, zero, suc, ◌*◌, ◌≤◌, ◌<◌}
use mathlib.Core.Path.{◌≡◌, refl, sym, ap, ◌∙◌, subst}
use mathlib.Core.Logic.{◌⊎◌, inl, inr}
use mathlib.Core.Bool.{Bool, true, false}
use native.Mathlib.Nat.{not-suc-le-zero, eq-zero-or-pos, le_of_eq, mul-one}
use native.Mathlib.Omega.{arith}
use lib.ListN.{length}
use borrow.Author.Tests.{eq-eqb, ne_eqb, eqb-true}
use Rattle.counting.specs.Lists.{one, total, tally, it}
use Rattle.counting.specs.work.Stored.{weigh}
use Rattle.counting.specs.claims.Lists.{All}
use Rattle.counting.proofs.Range.{total_ext, total_zero, total_one, total_pos}
use Rattle.counting.proofs.Lists.{weigh_over, weigh_numbers, tally_over, all_over, room}
use Rattle.walk.specs.Darts.{half, Loop, On, of_crossing}
use Rattle.walk.specs.claims.Claims.{Darts, Lowest, flat}
use Rattle.walk.specs.Walk.{size, loop_at}
use Rattle.walk.proofs.Iterate.{weigh_orbit, tally_orbit, all_orbit}
use Rattle.walk.proofs.Curve.{loop_distinct, loop_later, one_loop, covered, all_close}
use Rattle.walk.proofs.Found.{found, finds, size_live}

module _ (N : ℕ) (s rv : ℕ → ℕ) (D : Darts (2 * N) N s rv half) where
  -- x is a crossing of the listed loop from p
  abbrev pub In : ℕ → ℕ → Type 0
  In p x = On s half (2 * p) (size N s p) x

  pub listed : (p : ℕ) → p < N → 0 < size N s p → Loop (2 * N) s (2 * p) (size N s p) × Lowest s half (2 * p) (size N s p)
  listed p l = go (size N s p) refl
    where
      go : (k : ℕ) → size N s p ≡ k → 0 < k → Loop (2 * N) s (2 * p) k × Lowest s half (2 * p) k
      go zero e h = absurd (not-suc-le-zero h)
      go (suc r) e h = found N s rv D p r l e

  pub same_start : (p q x : ℕ) → p < N → q < N → In p x → In q x → p ≡ q
  same_start p q x lp lq o u =
      let (L, low) = listed p lp (omega (arith, o.at_lt)) in
      let (K, kow) = listed q lq (omega (arith, u.at_lt)) in
      omega (arith, one_loop (2 * N) N s rv half D L K low kow x o u)

  pub tally_in : (p x : ℕ) → p < N → In p x → tally (of_crossing x) (loop_at N s p) ≡ 1
  unfolding loop_at
  tally_in p x l o =
      tally_orbit (of_crossing x) s (size N s p) (2 * p)
      ∙ total_one (λ i. one (of_crossing x (it s i (2 * p)))) (size N s p) 0 o.at (omega arith) (omega (arith, o.at_lt))
      (ap one (eq-eqb _ _ o.is))
      (λ i u v w. ap one (ne_eqb (half (it s i (2 * p))) x (λ e. w (loop_distinct (2 * N) N s rv half D (listed p l (omega (arith, o.at_lt))).0
      i o.at (omega arith) o.at_lt (e ∙ sym o.is)))))

  tally_out : (p x : ℕ) → (In p x → ⊥) → tally (of_crossing x) (loop_at N s p) ≡ 0
  unfolding loop_at
  tally_out p x out =
      tally_orbit (of_crossing x) s (size N s p) (2 * p)
      ∙ total_zero (λ i. one (of_crossing x (it s i (2 * p)))) (size N s p) 0
      (λ i u v. ap one (ne_eqb _ _ (λ e. out (record { at = i; at_lt = omega arith; is = e }))))

  -- a crossing of a listed loop stands once in the list
  once : (p x : ℕ) → p < N → In p x → tally (of_crossing x) (flat N s) ≡ 1
  unfolding flat
  once p x l o =
      tally_over (of_crossing x) (loop_at N s) N 0
      ∙ total_one (λ q. tally (of_crossing x) (loop_at N s q)) N 0 p (omega arith) (omega arith) (tally_in p x l o)
      (λ q u v w. tally_out q x (λ o'. w (same_start q p x (omega arith) l o' o)))

  pub closed_in : (e k : ℕ) → Loop (2 * N) s e k → (p : ℕ) × (p < N) × In p (half e)
  closed_in e k K =
      let w = covered (2 * N) N s rv half D (λ y. 2 * y) (λ y h. omega arith) (λ y h. omega arith) K in
      (w.0, w.1, rw (finds N s rv D w.0 w.2 w.3 w.1 w.4 w.5) w.6)

  -- each crossing of a closed curve does, whatever other curves do
  pub closed_once : (e k : ℕ) → Loop (2 * N) s e k → (i : ℕ) → tally (of_crossing (half (it s i e))) (flat N s) ≡ 1
  closed_once e k K i =
      let (p, l, o) = closed_in (it s i e) k (loop_later (2 * N) N s rv half D K i) in
      once p (half (it s i e)) l o

  -- so where no curve ends, each crossing
  pub each-once : ((d : ℕ) → d < 2 * N → s d < 2 * N) → (x : ℕ) → x < N → tally (of_crossing x) (flat N s) ≡ 1
  unfolding it
  each-once closed x l =
      let K = all_close (2 * N) N s rv half D closed (2 * x) (omega arith) in
      let same : half (2 * x) ≡ x = omega arith in
      subst (λ y. tally (of_crossing y) (flat N s) ≡ 1) same (closed_once (2 * x) K.0 K.2 0)

  -- and every crossing at most once
  pub counted_in : (p x : ℕ) → 0 < tally (of_crossing x) (loop_at N s p) → In p x
  unfolding loop_at
  counted_in p x h =
      let w = total_pos (λ i. one (of_crossing x (it s i (2 * p)))) (size N s p) 0 (rw (tally_orbit (of_crossing x) s (size N s p) (2 * p)) at h) in
      record { at = w.0; at_lt = omega (arith, w.2); is = is w.0 (of_crossing x (it s w.0 (2 * p))) refl w.3 }
    where
      is : (i : ℕ) (b : Bool) → of_crossing x (it s i (2 * p)) ≡ b → 0 < one b → half (it s i (2 * p)) ≡ x
      is i true e l = eqb-true (half (it s i (2 * p))) x e
      is i false e l = absurd (not-suc-le-zero l)

  pub at_most_once : (x : ℕ) → tally (of_crossing x) (flat N s) ≤ 1
  unfolding flat
  at_most_once x = go (eq-zero-or-pos (tally (of_crossing x) (flat N s)))
    where
      go : (tally (of_crossing x) (flat N s) ≡ 0) ⊎ (0 < tally (of_crossing x) (flat N s)) → tally (of_crossing x) (flat N s) ≤ 1
      go (inl e) = omega arith
      go (inr h) =
          let w = total_pos (λ q. tally (of_crossing x) (loop_at N s q)) N 0 (rw (tally_over (of_crossing x) (loop_at N s) N 0) at h) in
          le_of_eq (once w.0 x (omega (arith, w.2)) (counted_in w.0 x w.3))

  -- so N darts have room for all
  flat_low : All (λ d. half d < N) (flat N s)
  unfolding flat loop_at
  flat_low = all_over (λ d. half d < N) (loop_at N s) N 0
      (λ p a b. all_orbit (λ d. half d < N) s (size N s p) (2 * p) (λ i l. omega (arith, size_live N s p i (omega arith) l)))

  pub flat_room : length (flat N s) ≤ N
  flat_room = room half N (flat N s) flat_low at_most_once

  -- where no curve ends, a sum over the crossings is that over the loops, and over the crossings of each
  pub sum_loops : ((d : ℕ) → d < 2 * N → s d < 2 * N) → (f : ℕ → ℕ) → total f N 0 ≡ total (λ p. total (λ i. f (half (it s i (2 * p)))) (size N s p) 0) N 0
  unfolding flat loop_at
  sum_loops goes f =
      total_ext f (λ v. f v * tally (of_crossing v) (flat N s)) N 0 (λ q a b. sym (ap (λ m. f q * m) (each-once goes q (omega arith)) ∙ mul-one (f q)))
      ∙ weigh_numbers half N f (flat N s) flat_low
      ∙ weigh_over (λ d. f (half d)) (loop_at N s) N 0
      ∙ total_ext (λ p. weigh (λ d. f (half d)) (loop_at N s p)) (λ p. total (λ i. f (half (it s i (2 * p)))) (size N s p) 0) N 0
      (λ p _ _. weigh_orbit (λ d. f (half d)) s (size N s p) (2 * p))
