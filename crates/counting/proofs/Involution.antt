-- An injection between numbers that pass tests, and a partner for each number that passes one: they pair up.
use Prim.Native.Nat.{ℕ, zero, suc, ◌+◌, ◌*◌, ◌<◌, ◌≤◌}
use mathlib.Core.Path.{◌≡◌, refl, sym, ◌∙◌, ap}
use mathlib.Core.Bool.{Bool, true, false}
use native.Mathlib.Omega.{arith}
use native.Mathlib.Decide.{dec_lt, ℕ_discrete}
use lib.Dec.{eqb, ltb}
use borrow.Author.Tests.{eq-eqb, ne_eqb, lt-ltb, le-ltb}
use Rattle.counting.specs.Pick.{pick}
use Rattle.counting.specs.Lists.{one}
use Rattle.counting.specs.Search.{count}
use Rattle.counting.specs.claims.Lists.{rise}
use Rattle.counting.proofs.Bools.{clash}
use Rattle.counting.proofs.Search.{count_sum}

-- the test without the number a
unfoldable pub less : (ℕ → Bool) → ℕ → ℕ → Bool
less f a i = pick (eqb i a) false (f i)

less_other : (f : ℕ → Bool) (a i : ℕ) → (i ≡ a → ⊥) → less f a i ≡ f i
unfolding less
less_other f a i h = simp (ne_eqb i a h)

less_same : (f : ℕ → Bool) (a : ℕ) → less f a a ≡ false
unfolding less
less_same f a = simp (eq-eqb a a refl)

count_less_out : (f : ℕ → Bool) (a n : ℕ) → n ≤ a → count (less f a) n ≡ count f n
unfolding count
count_less_out f a zero h = refl
count_less_out f a (suc n) h = rw (count_less_out f a n (omega arith), less_other f a n (omega arith))

pub count_less : (f : ℕ → Bool) (a n : ℕ) → a < n → f a ≡ true → count (less f a) n + 1 ≡ count f n
unfolding count
count_less f a zero h q = absurd (omega arith)
count_less f a (suc n) h q =
    elim (ℕ_discrete n a) [
      | yes e ↦ rw e (rw (count_less_out f a a (omega arith), less_same f a, q) (omega arith))
      | no e ↦ rw (less_other f a n e) (omega (arith, count_less f a n (omega arith) q))
    ]

-- an injection from what passes f below n to what passes g below m
pub record Injects (f g : ℕ → Bool) (n m : ℕ) (h : ℕ → ℕ) : Type 0 where
  pub lands : (i : ℕ) → i < n → f i ≡ true → h i < m
  pub passes : (i : ℕ) → i < n → f i ≡ true → g (h i) ≡ true
  pub apart : (i j : ℕ) → i < n → j < n → f i ≡ true → f j ≡ true → h i ≡ h j → i ≡ j

shorter : {f g : ℕ → Bool} {n m : ℕ} {h : ℕ → ℕ} → Injects f g (suc n) m h → Injects f g n m h
shorter r = record {
  lands = λ i a. r.lands i (omega arith);
  passes = λ i a. r.passes i (omega arith);
  apart = λ i j a b. r.apart i j (omega arith) (omega arith);
}

without : {f g : ℕ → Bool} {n m : ℕ} {h : ℕ → ℕ} → f n ≡ true → Injects f g (suc n) m h → Injects f (less g (h n)) n m h
without {f} {g} {n} {m} {h} t r = record {
  lands = λ i a. r.lands i (omega arith);
  passes = λ i a p. less_other g (h n) (h i) (λ e. (let q : i ≡ n = r.apart i n (omega arith) (omega arith) p t e in omega arith)) ∙ r.passes i (omega arith) p;
  apart = λ i j a b. r.apart i j (omega arith) (omega arith);
}

pub injection : (f g : ℕ → Bool) (n m : ℕ) (h : ℕ → ℕ) → Injects f g n m h → count f n ≤ count g m
unfolding count
injection f g zero m h r = omega arith
injection f g (suc n) m h r = go (f n) refl (injection f g n m h (shorter r)) (λ t. injection f (less g (h n)) n m h (without t r))
  where
    go : (b : Bool) → f n ≡ b → count f n ≤ count g m → (f n ≡ true → count f n ≤ count (less g (h n)) m) → count f n + one (f n) ≤ count g m
    go true q a b = rw q (omega (arith, b q, count_less g (h n) m (r.lands n (omega arith) q) (r.passes n (omega arith) q)))
    go false q a b = rw q (omega arith)

-- i passes j, and is so to its partner p i as r says
way : (ℕ → ℕ → Bool) → (ℕ → Bool) → (ℕ → ℕ) → ℕ → Bool
way r j p i = pick (j i) (r i (p i)) false

fall : (ℕ → Bool) → (ℕ → ℕ) → ℕ → Bool
unfolding way
fall = way (λ a b. ltb b a)

ways : (r : ℕ → ℕ → Bool) (j : ℕ → Bool) (p : ℕ → ℕ) (i : ℕ) → way r j p i ≡ true → (j i ≡ true) × (r i (p i) ≡ true)
unfolding way
ways r j p i = go (j i)
  where
    go : (b : Bool) → pick b (r i (p i)) false ≡ true → (b ≡ true) × (r i (p i) ≡ true)
    go true e = (refl, e)
    go false e = clash e refl

-- a partner p for each number that passes j: as many are below their partner as above it
module _ (j : ℕ → Bool) (p : ℕ → ℕ) (n : ℕ)
    (inside : (i : ℕ) → i < n → j i ≡ true → p i < n)
    (joined : (i : ℕ) → i < n → j i ≡ true → j (p i) ≡ true)
    (back : (i : ℕ) → i < n → j i ≡ true → p (p i) ≡ i)
    (moved : (i : ℕ) → i < n → j i ≡ true → p i ≡ i → ⊥) where
  same : (i k : ℕ) → i < n → k < n → j i ≡ true → j k ≡ true → p i ≡ p k → i ≡ k
  same i k a b q r e = sym (back i a q) ∙ ap p e ∙ back k b r

  -- the partners of those on one way are on the other
  turned : (r : ℕ → ℕ → Bool) → count (way r j p) n ≤ count (way (λ a b. r b a) j p) n
  unfolding way
  turned r = injection (way r j p) (way (λ a b. r b a) j p) n n p record {
    lands = λ i a e. inside i a (ways r j p i e).0;
    passes = λ i a e. let w = ways r j p i e in rw (joined i a w.0, back i a w.0) w.1;
    apart = λ i k a b e f. same i k a b (ways r j p i e).0 (ways r j p k f).0;
  }

  up_down : count (rise j p) n ≤ count (fall j p) n
  unfolding rise fall way
  up_down = turned ltb

  down_up : count (fall j p) n ≤ count (rise j p) n
  unfolding rise fall way
  down_up = turned (λ a b. ltb b a)

  split : (i : ℕ) → i < n → one (j i) ≡ one (rise j p i) + one (fall j p i)
  unfolding rise fall way
  split i a = go (j i) refl
    where
      go : (b : Bool) → j i ≡ b → one (j i) ≡ one (rise j p i) + one (fall j p i)
      go true q =
          elim (dec_lt i (p i)) [
            | yes h ↦ simp (q, lt-ltb i (p i) h, le-ltb (p i) i (omega arith))
            | no h ↦ let m : p i ≡ i → ⊥ = moved i a q in simp (q, le-ltb i (p i) (omega arith), lt-ltb (p i) i (omega arith))
          ]
      go false q = simp q

  pub paired : count j n ≡ 2 * count (rise j p) n
  paired = omega (arith, count_sum j (rise j p) (fall j p) n split, up_down, down_up)
