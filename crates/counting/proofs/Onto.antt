-- A one-to-one map of the numbers below n to themselves meets each of them, once; so a sum over them is the sum over what it maps them to.
use Prim.Native.Nat.{ℕ, ◌+◌, ◌*◌, ◌≤◌, ◌<◌}
use mathlib.Core.Path.{◌≡◌, refl, sym, ap, ◌∙◌}
use mathlib.Core.Logic.{inl, inr, ◌≢◌}
use mathlib.Core.Bool.{Bool, true, false}
use mathlib.Core.List.{[], ◌∷◌}
use native.Mathlib.Nat.{add-zero, mul-one}
use native.Mathlib.Omega.{arith}
use lib.Dec.{eqb, ltb}
use borrow.Author.Tests.{eqb-true, eqb-false, ltb-true, ltb-false, eq-eqb, ne_eqb}
use Rattle.counting.specs.Pick.{pick}
use Rattle.counting.specs.Lists.{one, total, values, tally}
use Rattle.counting.specs.work.Stored.{weigh}
use Rattle.counting.specs.claims.Lists.{All}
use Rattle.counting.proofs.Below.{trichotomy}
use Rattle.counting.proofs.Range.{total_ext, total_one}
use Rattle.counting.proofs.Lists.{weigh_over, tally_over, all_over, weigh_numbers}
use Rattle.counting.proofs.Pigeon.{pigeonhole}
use Rattle.counting.proofs.Search.{Least, least}

pub onto : (n : ℕ) (f : ℕ → ℕ) → ((i : ℕ) → i < n → f i < n) → ((i j : ℕ) → i < j → j < n → f i ≢ f j)
    → (x : ℕ) → x < n → (i : ℕ) × (i < n) × (f i ≡ x)
onto n f bound apart x l = go (least (λ i. eqb (f i) x) n)
  where
    g : ℕ → ℕ
    g i = pick (ltb i n) (f i) x

    go : Least (λ i. eqb (f i) x) n → (i : ℕ) × (i < n) × (f i ≡ x)
    go (inl w) = (w.0, w.1, eqb-true (f w.0) x w.2)
    go (inr none) = absurd (pigeonhole n g (λ i h. g_bound i (ltb i n) refl) (λ i j a h. g_apart i j a h (ltb i n) (ltb j n) refl refl))
      where
        g_bound : (i : ℕ) (b : Bool) → ltb i n ≡ b → pick b (f i) x < n
        g_bound i true e = bound i (ltb-true i n e)
        g_bound i false e = l

        g_apart : (i j : ℕ) → i < j → j ≤ n → (b c : Bool) → ltb i n ≡ b → ltb j n ≡ c → pick b (f i) x ≢ pick c (f j) x
        g_apart i j a h true true p q = apart i j a (ltb-true j n q)
        g_apart i j a h true false p q = eqb-false (f i) x (none i (ltb-true i n p))
        g_apart i j a h false c p q = absurd (omega (arith, ltb-false i n p))

pub total_onto : (n : ℕ) (f : ℕ → ℕ) → ((i : ℕ) → i < n → f i < n) → ((i j : ℕ) → i < j → j < n → f i ≢ f j)
    → (h : ℕ → ℕ) → total (λ i. h (f i)) n 0 ≡ total h n 0
unfolding weigh tally All
total_onto n f bound apart h =
    sym (weigh_over (λ i. h (f i)) (λ i. i ∷ []) n 0 ∙ total_ext (λ i. h (f i) + 0) (λ i. h (f i)) n 0 (λ i a b. add-zero (h (f i))))
    ∙ sym (weigh_numbers f n h (values (λ i. i) n) (all_over (λ i. f i < n) (λ i. i ∷ []) n 0 (λ i a b. (bound i (omega arith), tt))))
    ∙ total_ext (λ v. h v * tally (λ i. eqb (f i) v) (values (λ i. i) n)) h n 0 (λ v a b. ap (λ m. h v * m) (once v (omega arith)) ∙ mul-one (h v))
  where
    same : (i j : ℕ) → i < n → j < n → f i ≡ f j → i ≡ j
    same i j li lj e = trichotomy i j (λ l. absurd (apart i j l lj e)) (λ l. absurd (apart j i l li (sym e))) (λ q. q)

    once : (v : ℕ) → v < n → tally (λ i. eqb (f i) v) (values (λ i. i) n) ≡ 1
    once v l =
        let (k, lk, e) = onto n f bound apart v l in
        tally_over (λ i. eqb (f i) v) (λ i. i ∷ []) n 0
        ∙ total_one (λ i. one (eqb (f i) v) + 0) n 0 k (omega arith) (omega arith) (rw (eq-eqb (f k) v e))
        (λ q a b m. rw (ne_eqb (f q) v (λ g. m (same q k (omega arith) lk (g ∙ sym e)))))
