-- Laws of searches and of counts.
use Rattle.std.specs.Prelude.{Some, None}
use Prim.Native.Nat.{ℕ, zero, suc, ◌+◌, ◌*◌, ◌-◌, ◌/◌, ◌%◌, ◌≤◌, ◌<◌}
use mathlib.Core.Path.{◌≡◌, refl, sym, ap, ◌∙◌}
use mathlib.Core.Logic.{◌⊎◌, inl, inr, ⊎_elim}
use mathlib.Core.Bool.{Bool, true, false, ◌&&◌}
use native.Mathlib.Omega.{arith}
use native.Mathlib.Numerals.{add-one}
use native.Mathlib.Nat.{add-zero, mul-zero, mul-suc, mul_comm, mul-le-mul_left, mod-lt, div-add-mod, mul-div_cancel_left, div-lt_iff_lt-mul, not-suc-le-zero, eq-or-lt_of_le, le_of_suc-le-suc}
use lib.Dec.{eqb, ltb}
use borrow.Author.Tests.{lt-ltb, le-ltb, ltb-true, ltb-false}
use Rattle.counting.specs.Pick.{pick}
use Rattle.counting.specs.Lists.{one, total, seek}
use Rattle.counting.specs.Search.{first, last, some, every, count}
use Rattle.counting.specs.work.Search.{found}
use Rattle.counting.proofs.Below.{trichotomy}
use Rattle.counting.proofs.Bools.{not_clash, clash, and_true, and_left, and_right, holds_or, one_le}
use Rattle.counting.proofs.Range.{total_ext, total_le, total_mono, total_snoc, total_swap, total_times, total_at}

-- below n, or at the last of suc n numbers
pub below-or : (i n : ℕ) → i < suc n → (i ≡ n) ⊎ (i < n)
below-or i n h = eq-or-lt_of_le (le_of_suc-le-suc h)

-- a least number below n that passes, or that none does
abbrev pub Least : (ℕ → Bool) → ℕ → Type 0
Least t n = ((k : ℕ) × (k < n) × (t k ≡ true) × ((i : ℕ) → i < k → t i ≡ false)) ⊎ ((i : ℕ) → i < n → t i ≡ false)

module _ (t : ℕ → Bool) where
  -- the turns of a loop that seeks upward from k to n
  module _ (n k : ℕ) where
    one_more : k < n → n - k ≡ suc (n - (k + 1))
    one_more h = omega arith

    pub seek_hit : k < n → t k ≡ true → seek t (n - k) k ≡ k
    unfolding seek
    seek_hit h e = rw (one_more h, e)

    pub seek_miss : k < n → t k ≡ false → seek t (n - k) k ≡ seek t (n - (k + 1)) (k + 1)
    unfolding seek
    seek_miss h e = rw (one_more h, e, add-one)

    pub seek_end : n ≤ k → seek t (n - k) k ≡ k
    unfolding seek
    seek_end h = let e : n - k ≡ 0 = omega arith in rw e

  pub seek_start : (n : ℕ) → first t n ≡ seek t (n - 0) 0
  unfolding first
  seek_start n = let e : n - 0 ≡ n = omega arith in rw e

  -- none below k passes, of n numbers: the search goes on at k
  pub record Seeking (n k : ℕ) : Type 0 where
    pub within : k ≤ n
    pub is : first t n ≡ seek t (n - k) k

  pub seeking_none : (n : ℕ) → Seeking n 0
  seeking_none n = record { within = omega arith; is = seek_start n }

  module _ {n k : ℕ} (S : Seeking n k) where
    pub seeking_hit : k < n → t k ≡ true → k ≡ first t n
    seeking_hit h e = sym (S.is ∙ seek_hit n k h e)

    pub seeking_more : k < n → t k ≡ false → Seeking n (k + 1)
    seeking_more h e = record { within = omega arith; is = S.is ∙ seek_miss n k h e }

    pub seeking_all : n ≤ k → n ≡ first t n
    seeking_all h = let e : k ≡ n = omega (arith, S.within) in sym (S.is ∙ seek_end n k h ∙ e)

  -- what a search from k over n numbers finds
  pub record Sought (n k r : ℕ) : Type 0 where
    pub low : k ≤ r
    pub high : r ≤ k + n
    pub is : r < k + n → t r ≡ true
    pub none : (i : ℕ) → k ≤ i → i < r → t i ≡ false

  pub sought : (n k : ℕ) → Sought n k (seek t n k)
  unfolding seek
  sought zero k = record { low = omega arith; high = omega arith; is = λ h. absurd (omega arith); none = λ i a b. absurd (omega arith) }
  sought (suc n) k = go (t k) refl (sought n (suc k))
    where
      go : (b : Bool) → t k ≡ b → Sought n (suc k) (seek t n (suc k)) → Sought (suc n) k (pick b k (seek t n (suc k)))
      go true e s = record { low = omega arith; high = omega arith; is = λ h. e; none = λ i a b. absurd (omega arith) }
      go false e s = record {
        low = omega (arith, s.low);
        high = omega (arith, s.high);
        is = λ h. s.is (omega arith);
        none = λ i a b. ⊎_elim (λ (q : k ≡ i). rw (← q) e) (λ (l : k < i). s.none i l b) (eq-or-lt_of_le a);
      }

  -- the least number below n that passes
  pub first_le : (n : ℕ) → first t n ≤ n
  unfolding first
  first_le n = omega (arith, (sought n 0).high)

  pub first_is : (n : ℕ) → first t n < n → t (first t n) ≡ true
  unfolding first
  first_is n h = (sought n 0).is (omega arith)

  pub first_below : (n i : ℕ) → i < first t n → t i ≡ false
  unfolding first
  first_below n i h = (sought n 0).none i (omega arith) h

  -- where the search finds none, none passes
  pub first_none : (n : ℕ) → n ≤ first t n → (i : ℕ) → i < n → t i ≡ false
  first_none n h i l = first_below n i (omega arith)

  pub none_first : (n : ℕ) → ((i : ℕ) → i < n → t i ≡ false) → first t n ≡ n
  none_first n h =
      ⊎_elim (λ (e : first t n ≡ n). e) (λ (l : first t n < n). clash (first_is n l) (h (first t n) l)) (eq-or-lt_of_le (first_le n))

  pub first_at : (n i : ℕ) → i < n → t i ≡ true → ((j : ℕ) → j < i → t j ≡ false) → first t n ≡ i
  first_at n i l e h =
      trichotomy (first t n) i (λ a. clash (first_is n (omega arith)) (h (first t n) a)) (λ a. clash e (first_below n i a)) (λ q. q)

  pub least : (n : ℕ) → Least t n
  least n =
      ⊎_elim (λ (e : first t n ≡ n). inr (λ i h. first_below n i (omega arith)))
      (λ (l : first t n < n). inl (first t n, l, first_is n l, λ i h. first_below n i h)) (eq-or-lt_of_le (first_le n))

module _ (t : ℕ → Bool) where
  -- some number below n passes
  pub some_zero : some t 0 ≡ false
  unfolding some
  some_zero = refl

  pub some_hit : (n : ℕ) → t n ≡ true → some t (n + 1) ≡ true
  unfolding some
  some_hit n e = rw (add-one, e)

  pub some_miss : (n : ℕ) → t n ≡ false → some t (n + 1) ≡ some t n
  unfolding some
  some_miss n e = rw (add-one, e)

  -- the turns of a loop that goes down from n
  module _ (n : ℕ) (pos : 0 < n) where
    up : n - 1 + 1 ≡ n
    up = omega arith

    pub down_hit : t (n - 1) ≡ true → some t n ≡ true
    down_hit e = rw up at (some_hit (n - 1) e)

    pub down_miss : t (n - 1) ≡ false → some t n ≡ some t (n - 1)
    down_miss e = rw up at (some_miss (n - 1) e)

  pub some_none : (n : ℕ) → some t n ≡ false → (i : ℕ) → i < n → t i ≡ false
  unfolding some
  some_none zero e i h = absurd (not-suc-le-zero h)
  some_none (suc n) e i h = go (some_none n) (t n) refl e
    where
      go : (some t n ≡ false → (i : ℕ) → i < n → t i ≡ false) → (b : Bool) → t n ≡ b → pick b true (some t n) ≡ false → t i ≡ false
      go ih true q f = clash refl f
      go ih false q f = ⊎_elim (λ (g : i ≡ n). rw g q) (λ (g : i < n). ih f i g) (below-or i n h)

  pub some_is : (n : ℕ) → some t n ≡ true → (i : ℕ) × (i < n) × (t i ≡ true)
  unfolding some
  some_is zero e = clash e refl
  some_is (suc n) e = go (some_is n) (t n) refl e
    where
      go : (some t n ≡ true → (i : ℕ) × (i < n) × (t i ≡ true)) → (b : Bool) → t n ≡ b → pick b true (some t n) ≡ true → (i : ℕ) × (i < suc n) × (t i ≡ true)
      go ih true q f = (n, omega arith, q)
      go ih false q f = let w = ih f in (w.0, omega (arith, w.1), w.2)

  pub some_found : (n i : ℕ) → i < n → t i ≡ true → some t n ≡ true
  some_found n i l e = ⊎_elim (λ q. q) (λ (q : some t n ≡ false). clash e (some_none n q i l)) (holds_or (some t n))

  pub none_some : (n : ℕ) → ((i : ℕ) → i < n → t i ≡ false) → some t n ≡ false
  none_some n h = ⊎_elim (λ (q : some t n ≡ true). (let w = some_is n q in clash w.2 (h w.0 w.1))) (λ q. q) (holds_or (some t n))

  -- every number below n passes
  pub every_is : (n : ℕ) → every t n ≡ true → (i : ℕ) → i < n → t i ≡ true
  unfolding every
  every_is zero e i h = absurd (not-suc-le-zero h)
  every_is (suc n) e i h =
      ⊎_elim (λ (q : i ≡ n). rw q (and_right (every t n) (t n) e)) (λ (l : i < n). every_is n (and_left (every t n) (t n) e) i l) (below-or i n h)

  pub is_every : (n : ℕ) → ((i : ℕ) → i < n → t i ≡ true) → every t n ≡ true
  unfolding every
  is_every zero h = refl
  is_every (suc n) h = and_true (every t n) (t n) (is_every n (λ i l. h i (omega arith))) (h n (omega arith))

  pub every_not : (n i : ℕ) → i < n → t i ≡ false → every t n ≡ false
  every_not n i h e = not_clash (every t n) (λ q. clash (every_is n q i h) e)

  -- the last number below n that passes
  pub last_none : last t 0 ≡ 0
  unfolding last
  last_none = refl

  pub last_hit : (n : ℕ) → t n ≡ true → last t (n + 1) ≡ n + 1
  unfolding last
  last_hit n e = rw (add-one, e)

  pub last_miss : (n : ℕ) → t n ≡ false → last t (n + 1) ≡ last t n
  unfolding last
  last_miss n e = rw (add-one, e)

  pub last_le : (n : ℕ) → last t n ≤ n
  unfolding last
  last_le zero = omega arith
  last_le (suc n) = go (t n) (last_le n)
    where
      go : (b : Bool) → last t n ≤ n → pick b (suc n) (last t n) ≤ suc n
      go true h = omega arith
      go false h = omega arith

  -- what is found passes, and nothing above it does
  pub last_is : (n : ℕ) → 0 < last t n → t (last t n - 1) ≡ true
  unfolding last
  last_is zero h = absurd (not-suc-le-zero h)
  last_is (suc n) h = go (last_is n) (t n) refl h
    where
      go : (0 < last t n → t (last t n - 1) ≡ true) → (b : Bool) → t n ≡ b → 0 < pick b (suc n) (last t n) → t (pick b (suc n) (last t n) - 1) ≡ true
      go ih true e h = let f : suc n - 1 ≡ n = omega arith in rw f e
      go ih false e h = ih h

  pub last_above : (n i : ℕ) → last t n ≤ i → i < n → t i ≡ false
  unfolding last
  last_above zero i l h = absurd (not-suc-le-zero h)
  last_above (suc n) i l h = go (last_above n i) (t n) refl l h
    where
      go : (last t n ≤ i → i < n → t i ≡ false) → (b : Bool) → t n ≡ b → pick b (suc n) (last t n) ≤ i → i < suc n → t i ≡ false
      go ih true e l h = absurd (omega arith)
      go ih false e l h = ⊎_elim (λ (q : i ≡ n). rw q e) (λ (g : i < n). ih l g) (below-or i n h)

  pub last_at : (n m : ℕ) → m < n → t m ≡ true → ((i : ℕ) → m < i → i < n → t i ≡ false) → last t n ≡ m + 1
  unfolding last
  last_at zero m l e h = absurd (not-suc-le-zero l)
  last_at (suc n) m l e h =
      ⊎_elim
      (λ (q : m ≡ n). rw (← q, e) (sym (add-one m)))
      (λ (g : m < n). rw (h n g (omega arith)) (last_at n m g e (λ i a b. h i a (omega arith))))
      (below-or m n l)

  -- some number passes exactly if a last one is found
  pub some_last : (n : ℕ) → some t n ≡ ltb 0 (last t n)
  unfolding some last
  some_last zero = refl
  some_last (suc n) = go (some_last n) (t n)
    where
      go : some t n ≡ ltb 0 (last t n) → (b : Bool) → pick b true (some t n) ≡ ltb 0 (pick b (suc n) (last t n))
      go ih true = sym (lt-ltb 0 (suc n) (omega arith))
      go ih false = ih

  -- through a wider test
  module _ (u : ℕ → Bool) (wide : (x : ℕ) → u x ≡ false → t x ≡ false) where
    pub last_through : (n : ℕ) → last t n ≡ last t (last u n)
    unfolding last
    last_through zero = refl
    last_through (suc n) = go (last_through n) (u n) refl
      where
        go : last t n ≡ last t (last u n) → (b : Bool) → u n ≡ b → last t (suc n) ≡ last t (pick b (suc n) (last u n))
        go ih true e = refl
        go ih false e = rw (wide n e) ih

pub some_through : (t u : ℕ → Bool) → ((x : ℕ) → u x ≡ false → t x ≡ false) → (n : ℕ) → some t n ≡ some t (last u n)
some_through t u wide n = some_last t n ∙ ap (λ (x : ℕ). ltb 0 x) (last_through t u wide n) ∙ sym (some_last t (last u n))

-- the last of m + k numbers: among the k after the first m, or else among these
pub last_plus : (t : ℕ → Bool) (m k : ℕ) → last t (m + k) ≡ pick (ltb 0 (last (λ i. t (m + i)) k)) (m + last (λ i. t (m + i)) k) (last t m)
unfolding last
last_plus t m zero = ap (last t) (add-zero m)
last_plus t m (suc k) = let e : m + suc k ≡ suc (m + k) = omega arith in ap (last t) e ∙ go (last_plus t m k) (t (m + k))
  where
    go : last t (m + k) ≡ pick (ltb 0 (last (λ i. t (m + i)) k)) (m + last (λ i. t (m + i)) k) (last t m)
        → (b : Bool) → pick b (suc (m + k)) (last t (m + k)) ≡ pick (ltb 0 (pick b (suc k) (last (λ i. t (m + i)) k))) (m + pick b (suc k) (last (λ i. t (m + i)) k)) (last t m)
    go ih true = let e : suc (m + k) ≡ m + suc k = omega arith in e ∙ simp (lt-ltb 0 (suc k) (omega arith))
    go ih false = ih

-- tests that agree
module _ (t u : ℕ → Bool) where
  pub some_ext : (n : ℕ) → ((i : ℕ) → i < n → t i ≡ u i) → some t n ≡ some u n
  unfolding some
  some_ext zero h = refl
  some_ext (suc n) h = rw (h n (omega arith), some_ext n (λ i l. h i (omega arith)))

  pub count_ext : (n : ℕ) → ((i : ℕ) → i < n → t i ≡ u i) → count t n ≡ count u n
  unfolding count
  count_ext zero h = refl
  count_ext (suc n) h = rw (h n (omega arith), count_ext n (λ i l. h i (omega arith)))

  pub last_ext : (n : ℕ) → ((i : ℕ) → i < n → t i ≡ u i) → last t n ≡ last u n
  unfolding last
  last_ext zero h = refl
  last_ext (suc n) h = rw (h n (omega arith), last_ext n (λ i l. h i (omega arith)))

  seek_ext : (n k : ℕ) → ((i : ℕ) → k ≤ i → i < k + n → t i ≡ u i) → seek t n k ≡ seek u n k
  unfolding seek
  seek_ext zero k h = refl
  seek_ext (suc n) k h = rw (h k (omega arith) (omega arith), seek_ext n (suc k) (λ i l m. h i (omega arith) (omega arith)))

  pub first_ext : (n : ℕ) → ((i : ℕ) → i < n → t i ≡ u i) → first t n ≡ first u n
  unfolding first
  first_ext n h = seek_ext n 0 (λ i l m. h i (omega arith))

  pub found_ext : (n : ℕ) → ((i : ℕ) → i < n → t i ≡ u i) → found t n ≡ found u n
  unfolding found
  found_ext n h = rw (first_ext n h)

-- a test together with one that does not depend on the number
pub some_and : (t : ℕ → Bool) (b : Bool) (n : ℕ) → some (λ i. t i && b) n ≡ (some t n && b)
unfolding some
some_and t b zero = refl
some_and t b (suc n) = go (t n) b (some_and t b n)
  where
    never : (x : Bool) → (x && false) ≡ false
    never true = refl
    never false = refl

    go : (x y : Bool) → some (λ i. t i && y) n ≡ (some t n && y) → pick (x && y) true (some (λ i. t i && y) n) ≡ (pick x true (some t n) && y)
    go true true e = refl
    go true false e = e ∙ never (some t n)
    go false y e = e

-- in blocks of b numbers
pub some_plus : (t : ℕ → Bool) (m k : ℕ) → some t (m + k) ≡ pick (some (λ i. t (m + i)) k) true (some t m)
unfolding some
some_plus t m zero = let e : m + 0 ≡ m = omega arith in rw e
some_plus t m (suc k) = let e : m + suc k ≡ suc (m + k) = omega arith in rw e (go (some_plus t m k) (t (m + k)))
  where
    go : some t (m + k) ≡ pick (some (λ i. t (m + i)) k) true (some t m)
        → (b : Bool) → pick b true (some t (m + k)) ≡ pick (pick b true (some (λ i. t (m + i)) k)) true (some t m)
    go ih true = refl
    go ih false = ih

pub some_blocks : (t : ℕ → Bool) (b n : ℕ) → some t (b * n) ≡ some (λ d. some (λ i. t (b * d + i)) b) n
unfolding some
some_blocks t b zero = let e : b * 0 ≡ 0 = simp mul-zero in rw e
some_blocks t b (suc n) = let e : b * suc n ≡ b * n + b = mul-suc b n in rw (e, some_plus t (b * n) b, some_blocks t b n)

module _ (t : ℕ → Bool) where
  -- how many numbers below n pass, as a sum
  pub count_total : (n : ℕ) → count t n ≡ total (λ i. one (t i)) n 0
  unfolding count total
  count_total zero = refl
  count_total (suc n) =
      let e : 0 + n ≡ n = omega arith in
      ap (λ k. k + one (t n)) (count_total n) ∙ sym (total_snoc (λ i. one (t i)) n 0 ∙ ap (λ k. total (λ i. one (t i)) n 0 + one (t k)) e)

  pub count_le : (n : ℕ) → count t n ≤ n
  count_le n = rw (count_total n) (total_le (λ i. one (t i)) n 0 (λ i. one_le (t i)))

  pub count_none : (n : ℕ) → ((i : ℕ) → i < n → t i ≡ false) → count t n ≡ 0
  unfolding count
  count_none zero h = refl
  count_none (suc n) h = rw (h n (omega arith), count_none n (λ i l. h i (omega arith)))

  pub count_all : (n : ℕ) → ((i : ℕ) → i < n → t i ≡ true) → count t n ≡ n
  unfolding count
  count_all zero h = refl
  count_all (suc n) h = rw (h n (omega arith), count_all n (λ i l. h i (omega arith))) (omega arith)

  pub count_full : (n : ℕ) → n ≤ count t n → (i : ℕ) → i < n → t i ≡ true
  unfolding count
  count_full zero h i l = absurd (not-suc-le-zero l)
  count_full (suc n) h i l = go (count_full n) (count_le n) (t n) refl h
    where
      go : (n ≤ count t n → (i : ℕ) → i < n → t i ≡ true) → count t n ≤ n → (b : Bool) → t n ≡ b → suc n ≤ count t n + one b → t i ≡ true
      go ih m true e g = ⊎_elim (λ (q : i ≡ n). rw q e) (λ (k : i < n). ih (omega arith) i k) (below-or i n l)
      go ih m false e g = absurd (omega arith)

  pub count_pos : (n i : ℕ) → i < n → t i ≡ true → 1 ≤ count t n
  unfolding count
  count_pos zero i l e = absurd (not-suc-le-zero l)
  count_pos (suc n) i l e =
      ⊎_elim (λ (q : i ≡ n). rw (ap t (sym q) ∙ e) (omega arith)) (λ (k : i < n). omega (arith, count_pos n i k e)) (below-or i n l)

  pub count_two_of : (n i j : ℕ) → i < j → j < n → t i ≡ true → t j ≡ true → 2 ≤ count t n
  unfolding count
  count_two_of zero i j l m e f = absurd (not-suc-le-zero m)
  count_two_of (suc n) i j l m e f =
      ⊎_elim (λ (q : j ≡ n). rw (ap t (sym q) ∙ f) (omega (arith, count_pos n i (omega arith) e)))
      (λ (k : j < n). omega (arith, count_two_of n i j l k e f)) (below-or j n m)

  pub count_plus : (m k : ℕ) → count t (m + k) ≡ count (λ i. t (m + i)) k + count t m
  unfolding count
  count_plus m zero = let e : m + 0 ≡ m = omega arith in rw e (omega arith)
  count_plus m (suc k) = let e : m + suc k ≡ suc (m + k) = omega arith in rw e (omega (arith, count_plus m k))

  -- up to the last that passes
  pub count_last : (n : ℕ) → count t n ≡ pick (ltb 0 (last t n)) (suc (count t (last t n - 1))) 0
  unfolding count last
  count_last zero = refl
  count_last (suc n) = go (count_last n) (t n)
    where
      go : count t n ≡ pick (ltb 0 (last t n)) (suc (count t (last t n - 1))) 0
          → (b : Bool) → count t n + one b ≡ pick (ltb 0 (pick b (suc n) (last t n))) (suc (count t (pick b (suc n) (last t n) - 1))) 0
      go ih true = let f : suc n - 1 ≡ n = omega arith in rw (lt-ltb 0 (suc n) (omega arith), f) (omega arith)
      go ih false = let f : count t n + 0 ≡ count t n = omega arith in rw f ih

  -- no two numbers below n pass
  abbrev pub AtMostOne : ℕ → Type 0
  AtMostOne n = (i j : ℕ) → i < j → j < n → t i ≡ true → t j ≡ true → ⊥

  count_most : (n : ℕ) → AtMostOne n → count t n ≤ 1
  unfolding count
  count_most zero h = omega arith
  count_most (suc n) h = go (t n) refl (count_most n (λ i j a b. h i j a (omega arith)))
    where
      before : t n ≡ true → (i : ℕ) → i < n → t i ≡ false
      before e i k = ⊎_elim (λ (q : t i ≡ true). absurd (h i n k (omega arith) q e)) (λ q. q) (holds_or (t i))

      go : (b : Bool) → t n ≡ b → count t n ≤ 1 → count t n + one b ≤ 1
      go true e ih = omega (arith, count_none n (before e))
      go false e ih = omega arith

  pub count_one : (n : ℕ) → AtMostOne n → count t n ≡ one (some t n)
  count_one n h = ⊎_elim there (λ (e : some t n ≡ false). rw e (count_none n (λ i l. some_none t n e i l))) (holds_or (some t n))
    where
      there : some t n ≡ true → count t n ≡ one (some t n)
      there e = let w = some_is t n e in rw e (omega (arith, count_most n h, count_pos n w.0 w.1 w.2))

-- two or more: there is a last but one
pub count_two : (t : ℕ → Bool) (n : ℕ) → 0 < last t n → ltb 1 (count t n) ≡ ltb 0 (last t (last t n - 1))
count_two t n h = rw (count_last t n, lt-ltb 0 (last t n) h, count_last t (last t n - 1)) (go (last t (last t n - 1)))
  where
    go : (m : ℕ) → ltb 1 (suc (pick (ltb 0 m) (suc (count t (m - 1))) 0)) ≡ ltb 0 m
    go zero = refl
    go (suc m) = rw (lt-ltb 0 (suc m) (omega arith)) (lt-ltb 1 (suc (suc (count t (suc m - 1)))) (omega arith))

pub count_zero : (t : ℕ → Bool) (n : ℕ) → last t n ≡ 0 → ltb 1 (count t n) ≡ false
count_zero t n h = rw (count_last t n, h)

pub two_counted : (t : ℕ → Bool) (n : ℕ) → ltb 1 (count t n) ≡ true → (i : ℕ) × (j : ℕ) × (i < j) × (j < n) × (t i ≡ true) × (t j ≡ true)
two_counted t n h = go (last t n) refl
  where
    go : (m : ℕ) → last t n ≡ m → (i : ℕ) × (j : ℕ) × (i < j) × (j < n) × (t i ≡ true) × (t j ≡ true)
    go zero e = absurd (clash h (count_zero t n e))
    go (suc m) e =
        let p : 0 < last t n = omega arith in
        let q = ltb-true 0 (last t (last t n - 1)) (sym (count_two t n p) ∙ h) in
        (last t (last t n - 1) - 1, last t n - 1, omega (arith, last_le t (last t n - 1)), omega (arith, last_le t n), last_is t (last t n - 1) q, last_is t n p)

-- in blocks of b numbers, of which at most one passes
pub count_blocks : (t : ℕ → Bool) (b n : ℕ) → ((d : ℕ) → d < n → AtMostOne (λ i. t (b * d + i)) b)
    → count t (b * n) ≡ count (λ d. some (λ i. t (b * d + i)) b) n
unfolding count
count_blocks t b zero h = let e : b * 0 ≡ 0 = simp mul-zero in rw e
count_blocks t b (suc n) h =
    let e : b * suc n ≡ b * n + b = mul-suc b n in
    rw e (omega (arith, count_plus t (b * n) b, count_one (λ i. t (b * n + i)) b (h n (omega arith)), count_blocks t b n (λ d l. h d (omega arith))))

-- a test that is the sum of two
pub count_sum : (f g h : ℕ → Bool) (n : ℕ) → ((i : ℕ) → i < n → one (f i) ≡ one (g i) + one (h i)) → count f n ≡ count g n + count h n
unfolding count
count_sum f g h zero e = refl
count_sum f g h (suc n) e = omega (arith, count_sum f g h n (λ i a. e i (omega arith)), e n (omega arith))

-- what the numbers below n add, which goes by f: how many there are of each value below N, times what each adds
pub count_sorted : (f h : ℕ → ℕ) (N n : ℕ) → total (λ v. count (λ c. eqb (f c) v) n * h v) N 0 ≡ total (λ c. pick (ltb (f c) N) (h (f c)) 0) n 0
count_sorted f h N n =
    total_ext (λ v. count (λ c. eqb (f c) v) n * h v) (λ v. total (λ c. h v * one (eqb (f c) v)) n 0) N 0
    (λ v _ _. mul_comm (count (λ c. eqb (f c) v) n) (h v) ∙ ap (λ m. h v * m) (count_total (λ c. eqb (f c) v) n) ∙ sym (total_times (h v) (λ c. one (eqb (f c) v)) n 0))
    ∙ total_swap (λ v c. h v * one (eqb (f c) v)) N n 0 0
    ∙ total_ext (λ c. total (λ v. h v * one (eqb (f c) v)) N 0) (λ c. pick (ltb (f c) N) (h (f c)) 0) n 0 (λ c _ _. total_at h N (f c))

-- a test that implies another
module _ (t u : ℕ → Bool) (into : (i : ℕ) → t i ≡ true → u i ≡ true) where
  pub count_into : (n : ℕ) → count t n ≤ count u n
  count_into n = rw (count_total t n, count_total u n) (total_mono (λ i. one (t i)) (λ i. one (u i)) n 0 (λ i a b. go (t i) (u i) (into i)))
    where
      go : (x y : Bool) → (x ≡ true → y ≡ true) → one x ≤ one y
      go true y h = rw (h refl) (omega arith)
      go false y h = omega arith

  pub count_same : (n : ℕ) → count t n ≡ count u n → (i : ℕ) → i < n → t i ≡ u i
  unfolding count
  count_same zero q i l = absurd (not-suc-le-zero l)
  count_same (suc n) q i l = go (count_same n) (count_into n) (t n) (u n) refl refl q
    where
      at_last : (count t n ≡ count u n → (i : ℕ) → i < n → t i ≡ u i) → count t n ≡ count u n → t n ≡ u n → t i ≡ u i
      at_last ih a e = ⊎_elim (λ (g : i ≡ n). rw g e) (λ (k : i < n). ih a i k) (below-or i n l)

      go : (count t n ≡ count u n → (i : ℕ) → i < n → t i ≡ u i) → count t n ≤ count u n → (x y : Bool) → t n ≡ x → u n ≡ y
          → count t n + one x ≡ count u n + one y → t i ≡ u i
      go ih m true true e f a = at_last ih (omega arith) (e ∙ sym f)
      go ih m true false e f a = clash (into n e) f
      go ih m false true e f a = absurd (omega arith)
      go ih m false false e f a = at_last ih (omega arith) (e ∙ sym f)

-- in blocks of b numbers: the first that passes stands in the first block that has one
pub first_blocks : (t : ℕ → Bool) (b n : ℕ) → 0 < b → first t (b * n) / b ≡ first (λ d. some (λ i. t (b * d + i)) b) n
first_blocks t b n pos =
    ⊎_elim
    (λ (e : first t (b * n) ≡ b * n).
    rw e (mul-div_cancel_left n pos ∙ sym (none_first block n (λ d l. none_some (λ i. t (b * d + i)) b (λ i h. first_none t (b * n) (omega arith) (b * d + i) (inside d n i l h))))))
    (λ (l : first t (b * n) < b * n).
    let q = first t (b * n) / b in
    let whole : b * q + first t (b * n) % b ≡ first t (b * n) = div-add-mod (first t (b * n)) b in
    let below : q < n = (div-lt_iff_lt-mul pos).1 (omega (arith, mul_comm b n)) in
    sym (first_at block n q below (some_found (λ i. t (b * q + i)) b (first t (b * n) % b) (mod-lt (first t (b * n)) pos) (rw whole (first_is t (b * n) l)))
    (λ d k. none_some (λ i. t (b * d + i)) b (λ i h. first_below t (b * n) (b * d + i) (omega (arith, inside d q i k h))))))
    (eq-or-lt_of_le (first_le t (b * n)))
  where
    block : ℕ → Bool
    block d = some (λ i. t (b * d + i)) b

    inside : (d m i : ℕ) → d < m → i < b → b * d + i < b * m
    inside d m i l h = omega (arith, mul-suc b d, mul-le-mul_left b l)

-- where some number passes, the search finds one
pub some_first : (t : ℕ → Bool) (n : ℕ) → some t n ≡ true → first t n < n
some_first t n e =
    ⊎_elim (λ (q : first t n ≡ n). (let w = some_is t n e in clash w.2 (first_none t n (omega arith) w.0 w.1))) (λ q. q) (eq-or-lt_of_le (first_le t n))

-- a search that tells whether it finds
module _ (t : ℕ → Bool) (n : ℕ) where
  pub first_found : first t n < n → Some (first t n) ≡ found t n
  unfolding found
  first_found h = sym (rw (lt-ltb _ _ h))

  pub none_found : n ≤ first t n → None ≡ found t n
  unfolding found
  none_found h = sym (rw (le-ltb _ _ h))

  -- what is found is the first, and where nothing is found none passes
  pub found_first : (i : ℕ) → Some i ≡ found t n → (i ≡ first t n) × (i < n)
  unfolding found
  found_first i e = go (ltb (first t n) n) refl e
    where
      go : (b : Bool) → ltb (first t n) n ≡ b → Some i ≡ pick b (Some (first t n)) None → (i ≡ first t n) × (i < n)
      go true q f = let z : i ≡ first t n = cc in (z, omega (arith, ltb-true _ _ q))
      go false q f = absurd cc

  pub found_none : None ≡ found t n → first t n ≡ n
  unfolding found
  found_none e = go (ltb (first t n) n) refl e
    where
      go : (b : Bool) → ltb (first t n) n ≡ b → None ≡ pick b (Some (first t n)) None → first t n ≡ n
      go true q f = absurd cc
      go false q f = omega (arith, first_le t n, ltb-false _ _ q)

  -- in the turns of a loop that seeks upward: the first that passes is found, and after the last turn none is
  module _ (k : ℕ) where
    pub found_hit : k < n → t k ≡ true → ((i : ℕ) → i < k → t i ≡ false) → Some k ≡ found t n
    found_hit l e h = let q = first_at t n k l e h in ap Some (sym q) ∙ first_found (omega arith)

  pub found_end : ((i : ℕ) → i < n → t i ≡ false) → None ≡ found t n
  found_end h = none_found (omega (arith, none_first t n h))
