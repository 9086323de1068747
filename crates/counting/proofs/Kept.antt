-- Laws of the numbers of a range that pass a test.
use Prim.Native.Nat.{ℕ, zero, suc, ◌+◌, ◌-◌, ◌≤◌, ◌<◌}
use mathlib.Core.Path.{◌≡◌, refl, sym, ap, ◌∙◌}
use mathlib.Core.Logic.{⊎_elim}
use mathlib.Core.Bool.{Bool, true, false}
use mathlib.Core.List.{[], ◌∷◌, ◌++◌}
use native.Mathlib.Nat.{not-suc-le-zero, eq-or-lt_of_le}
use native.Mathlib.Omega.{arith}
use lib.ListN.{length, get_or}
use Rattle.counting.specs.Pick.{pick}
use Rattle.counting.specs.Lists.{one, total, over, kept, tally}
use Rattle.counting.proofs.Bools.{clash}
use Rattle.counting.proofs.Lists.{tally_over}
use Rattle.counting.proofs.Range.{total_ext, total_shift}

module _ (t : ℕ → Bool) where
  -- q is one of the n numbers from p on, and passes
  pub record Passing (n p q : ℕ) : Type 0 where
    pub low : p ≤ q
    pub high : q < p + n
    pub passes : t q ≡ true

  later : {n p q : ℕ} → Passing n (suc p) q → Passing (suc n) p q
  later K = record { low = omega (arith, K.low); high = omega (arith, K.high); passes = K.passes }

  -- each of them is one, in rising order, and every one is there
  pub kept_is : (n p i : ℕ) → i < length (kept t n p) → Passing n p (get_or (kept t n p) i 0)
  unfolding over kept
  kept_is zero p i h = absurd (not-suc-le-zero h)
  kept_is (suc n) p i h = go (kept_is n (suc p)) (t p) refl i h
    where
      go : ((i : ℕ) → i < length (kept t n (suc p)) → Passing n (suc p) (get_or (kept t n (suc p)) i 0)) → (b : Bool) → t p ≡ b → (i : ℕ)
          → i < length (pick b (p ∷ []) [] ++ kept t n (suc p)) → Passing (suc n) p (get_or (pick b (p ∷ []) [] ++ kept t n (suc p)) i 0)
      go ih false e i l = later (ih i l)
      go ih true e zero l = record { low = omega arith; high = omega arith; passes = e }
      go ih true e (suc i) l = later (ih i (omega arith))

  pub kept_rise : (n p i j : ℕ) → i < j → j < length (kept t n p) → get_or (kept t n p) i 0 < get_or (kept t n p) j 0
  unfolding over kept
  kept_rise zero p i j h l = absurd (not-suc-le-zero l)
  kept_rise (suc n) p i j h l = go (kept_rise n (suc p)) (t p) i j h l
    where
      go : ((i j : ℕ) → i < j → j < length (kept t n (suc p)) → get_or (kept t n (suc p)) i 0 < get_or (kept t n (suc p)) j 0) → (b : Bool) (i j : ℕ) → i < j
          → j < length (pick b (p ∷ []) [] ++ kept t n (suc p)) → get_or (pick b (p ∷ []) [] ++ kept t n (suc p)) i 0 < get_or (pick b (p ∷ []) [] ++ kept t n (suc p)) j 0
      go ih false i j h l = ih i j h l
      go ih true i zero h l = absurd (not-suc-le-zero h)
      go ih true zero (suc j) h l = (kept_is n (suc p) j (omega arith)).low
      go ih true (suc i) (suc j) h l = ih i j (omega arith) (omega arith)

  pub kept_all : (n p q : ℕ) → p ≤ q → q < p + n → t q ≡ true → (i : ℕ) × (i < length (kept t n p)) × (get_or (kept t n p) i 0 ≡ q)
  unfolding over kept
  kept_all zero p q a b e = absurd (omega arith)
  kept_all (suc n) p q a b e =
      ⊎_elim (λ (s : p ≡ q). here (t p) s (ap t s ∙ e)) (λ (l : p < q). go (t p) (kept_all n (suc p) q l (omega arith) e)) (eq-or-lt_of_le a)
    where
      here : (b : Bool) → p ≡ q → b ≡ true → (i : ℕ) × (i < length (pick b (p ∷ []) [] ++ kept t n (suc p))) × (get_or (pick b (p ∷ []) [] ++ kept t n (suc p)) i 0 ≡ q)
      here false s f = clash f refl
      here true s f = (0, omega arith, s)

      go : (b : Bool) → (i : ℕ) × (i < length (kept t n (suc p))) × (get_or (kept t n (suc p)) i 0 ≡ q)
          → (i : ℕ) × (i < length (pick b (p ∷ []) [] ++ kept t n (suc p))) × (get_or (pick b (p ∷ []) [] ++ kept t n (suc p)) i 0 ≡ q)
      go false w = w
      go true w = (suc w.0, omega (arith, w.1), w.2)

  -- a sum over the first j of them is one over the numbers before the next
  module _ (g : ℕ → ℕ) where
    abbrev passing : ℕ → ℕ
    passing q = pick (t q) (g q) 0

    pub kept_total : (n p j : ℕ) → j < length (kept t n p) → total (λ i. g (get_or (kept t n p) i 0)) j 0 ≡ total passing (get_or (kept t n p) j 0 - p) p
    unfolding over kept total
    kept_total zero p j h = absurd (not-suc-le-zero h)
    kept_total (suc n) p j h = go (kept_total n (suc p)) (t p) refl j h
      where
        -- one number more in front
        front : (k : ℕ) → suc p ≤ k → total passing (k - p) p ≡ passing p + total passing (k - suc p) (suc p)
        front k l = let e : k - p ≡ suc (k - suc p) = omega arith in ap (λ m. total passing m p) e

        go : ((j : ℕ) → j < length (kept t n (suc p)) → total (λ i. g (get_or (kept t n (suc p)) i 0)) j 0 ≡ total passing (get_or (kept t n (suc p)) j 0 - suc p) (suc p))
            → (b : Bool) → t p ≡ b → (j : ℕ) → j < length (pick b (p ∷ []) [] ++ kept t n (suc p))
            → total (λ i. g (get_or (pick b (p ∷ []) [] ++ kept t n (suc p)) i 0)) j 0 ≡ total passing (get_or (pick b (p ∷ []) [] ++ kept t n (suc p)) j 0 - p) p
        go ih false e j l =
            let z : passing p ≡ 0 = ap (λ b. pick b (g p) 0) e in
            omega (arith, ih j l, front (get_or (kept t n (suc p)) j 0) (kept_is n (suc p) j l).low)
        go ih true e zero l = let z : p - p ≡ 0 = omega arith in ap (λ m. total passing m p) (sym z)
        go ih true e (suc j) l =
            let z : passing p ≡ g p = ap (λ b. pick b (g p) 0) e in
            let k : j < length (kept t n (suc p)) = omega arith in
            omega (arith, ih j k, front (get_or (kept t n (suc p)) j 0) (kept_is n (suc p) j k).low, total_shift (λ i. g (get_or (p ∷ kept t n (suc p)) i 0)) j 0)

-- how many of them pass another test
pub tally_kept : (s t : ℕ → Bool) (n p : ℕ) → tally t (kept s n p) ≡ total (λ q. pick (s q) (one (t q)) 0) n p
unfolding kept tally
tally_kept s t n p =
    tally_over t (λ q. pick (s q) (q ∷ []) []) n p
    ∙ total_ext (λ q. tally t (pick (s q) (q ∷ []) [])) (λ q. pick (s q) (one (t q)) 0) n p (λ q _ _. go q (s q))
  where
    go : (q : ℕ) (b : Bool) → tally t (pick b (q ∷ []) []) ≡ pick b (one (t q)) 0
    go q true = omega arith
    go q false = refl
