-- The project's own words for numbers and lists. `examples` has a proved example of each.
use Rattle.std.specs.Prelude.{ℕ, zero, suc, ◌+◌, Bool, true, false, List, [], ◌∷◌, ◌++◌, eqb}
use Rattle.counting.specs.Pick.{pick}

-- 1 where the test holds, else 0
abbrev pub one : Bool → ℕ
one true = 1
one false = 0

module _ (t : ℕ → Bool) where
  -- the least of the n numbers from k on that passes; k + n where none does
  unfoldable pub seek : ℕ → ℕ → ℕ
  seek zero k = k
  seek (suc n) k = pick (t k) k (seek n (suc k))

-- the sum of n values of g, from the number p on
unfoldable pub total : (ℕ → ℕ) → ℕ → ℕ → ℕ
total g zero p = 0
total g (suc n) p = g p + total g n (suc p)

-- n lists of f, from the number p on, joined
unfoldable pub over : {A : Type 0} → (ℕ → List A) → ℕ → ℕ → List A
over f zero p = []
over f (suc n) p = f p ++ over f n (suc p)

-- the values of f at the numbers below n
abbrev pub values : {A : Type 0} → (ℕ → A) → ℕ → List A
values f n = over (λ i. f i ∷ []) n 0

-- the numbers that pass a test, of n from the number p on, in order
unfoldable pub kept : (ℕ → Bool) → ℕ → ℕ → List ℕ
kept t n p = over (λ q. pick (t q) (q ∷ []) []) n p

-- the place after k in a round of n
abbrev pub after : ℕ → ℕ → ℕ
after n k = pick (eqb (suc k) n) 0 (suc k)

module _ (w : ℕ → ℕ) where
  -- the numbers before row r
  unfoldable pub pre : ℕ → ℕ
  pre r = total w r 0

module _ {A : Type 0} where
  -- how many entries pass the test
  unfoldable pub tally : (A → Bool) → List A → ℕ
  tally t [] = 0
  tally t (x ∷ l) = one (t x) + tally t l

-- the lists of f for the entries, joined
unfoldable pub gather : {A B : Type 0} → (A → List B) → List A → List B
gather f [] = []
gather f (x ∷ l) = f x ++ gather f l

module _ (s : ℕ → ℕ) where
  -- where k steps lead from d
  unfoldable pub it : ℕ → ℕ → ℕ
  it zero d = d
  it (suc k) d = it k (s d)
