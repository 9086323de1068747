-- Laws of sums and of joined lists over a range.
use Prim.Native.Nat.{ℕ, zero, suc, ◌+◌, ◌*◌, ◌-◌, ◌≤◌, ◌<◌}
use mathlib.Core.Path.{◌≡◌, refl, sym, ap, ap₂, ◌∙◌}
use mathlib.Core.Logic.{◌⊎◌, inl, inr, ◌≢◌, ⊎_elim}
use mathlib.Core.Bool.{Bool, true, false}
use mathlib.Core.List.{List, [], ◌++◌, append_assoc, append-nil}
use native.Mathlib.Nat.{not-suc-le-zero, zero-add, add-zero, mul-zero, mul-one, mul-add, zero-mul, suc-mul, eq-or-lt_of_le, eq-zero-or-pos}
use native.Mathlib.Numerals.{add-one}
use native.Mathlib.Omega.{arith}
use native.Mathlib.Decide.{dec_lt}
use lib.Dec.{eqb, ltb}
use lib.ListN.{length, length-append}
use borrow.Author.Tests.{eq-eqb, ne_eqb, eqb-true, eqb-false, lt-ltb, le-ltb}
use Rattle.counting.specs.Pick.{pick}
use Rattle.counting.specs.Lists.{one, total, over, after}
use Rattle.counting.specs.claims.Lists.{before}

-- values that agree place by place, or are compared so
pub total_ext : (g h : ℕ → ℕ) (n p : ℕ) → ((q : ℕ) → p ≤ q → q < p + n → g q ≡ h q) → total g n p ≡ total h n p
unfolding total
total_ext g h zero p e = refl
total_ext g h (suc n) p e =
    ap₂ (λ a b. a + b) (e p (omega arith) (omega arith)) (total_ext g h n (suc p) (λ q a b. e q (omega arith) (omega arith)))

pub total_mono : (g h : ℕ → ℕ) (n p : ℕ) → ((q : ℕ) → p ≤ q → q < p + n → g q ≤ h q) → total g n p ≤ total h n p
unfolding total
total_mono g h zero p e = omega arith
total_mono g h (suc n) p e =
    omega (arith, e p (omega arith) (omega arith), total_mono g h n (suc p) (λ q a b. e q (omega arith) (omega arith)))

pub total_add : (g h : ℕ → ℕ) (n p : ℕ) → total (λ q. g q + h q) n p ≡ total g n p + total h n p
unfolding total
total_add g h zero p = refl
total_add g h (suc n) p = let ih = total_add g h n (suc p) in omega arith

pub total_zero : (g : ℕ → ℕ) (n p : ℕ) → ((q : ℕ) → p ≤ q → q < p + n → g q ≡ 0) → total g n p ≡ 0
unfolding total
total_zero g zero p h = refl
total_zero g (suc n) p h = rw (h p (omega arith) (omega arith), total_zero g n (suc p) (λ q a b. h q (omega arith) (omega arith)))

-- sums of one value, and of a multiple
pub total_same : (g : ℕ → ℕ) (c n p : ℕ) → ((q : ℕ) → p ≤ q → q < p + n → g q ≡ c) → total g n p ≡ n * c
unfolding total
total_same g c zero p h = sym (zero-mul c)
total_same g c (suc n) p h = omega (arith, h p (omega arith) (omega arith), total_same g c n (suc p) (λ q a b. h q (omega arith) (omega arith)), suc-mul n c)

pub total_times : (k : ℕ) (f : ℕ → ℕ) (n p : ℕ) → total (λ q. k * f q) n p ≡ k * total f n p
unfolding total
total_times k f zero p = sym (mul-zero k)
total_times k f (suc n) p = ap (λ m. k * f p + m) (total_times k f n (suc p)) ∙ sym (mul-add k (f p) (total f n (suc p)))

-- sums of sums in either order
pub total_swap : (a : ℕ → ℕ → ℕ) (m n p q : ℕ) → total (λ i. total (a i) n q) m p ≡ total (λ j. total (λ i. a i j) m p) n q
unfolding total
total_swap a zero n p q = sym (total_zero (λ j. 0) n q (λ j _ _. refl))
total_swap a (suc m) n p q = ap (λ k. total (a p) n q + k) (total_swap a m n (suc p) q) ∙ sym (total_add (a p) (λ j. total (λ i. a i j) m (suc p)) n q)

-- a value at one place only
pub total_single : (g : ℕ → ℕ) (n p a : ℕ) → p ≤ a → a < p + n → ((q : ℕ) → p ≤ q → q < p + n → q ≢ a → g q ≡ 0) → total g n p ≡ g a
unfolding total
total_single g zero p a u v z = absurd (omega arith)
total_single g (suc n) p a u v z =
    ⊎_elim
    (λ (e : p ≡ a). rw (e, total_zero g n (suc a) (λ q b c. z q (omega arith) (omega arith) (λ w. omega arith))) (add-zero (g a)))
    (λ (h : p < a). rw (z p (omega arith) (omega arith) (λ w. omega arith), total_single g n (suc p) a h (omega arith) (λ q b c. z q (omega arith) (omega arith)))
    (zero-add (g a)))
    (eq-or-lt_of_le u)

-- the same where that value is 1
pub total_one : (g : ℕ → ℕ) (n p a : ℕ) → p ≤ a → a < p + n → g a ≡ 1 → ((q : ℕ) → p ≤ q → q < p + n → q ≢ a → g q ≡ 0) → total g n p ≡ 1
total_one g n p a l h e z = total_single g n p a l h z ∙ e

pub total_shift : (g : ℕ → ℕ) (n p : ℕ) → total g n (suc p) ≡ total (λ q. g (suc q)) n p
unfolding total
total_shift g zero p = refl
total_shift g (suc n) p = rw (total_shift g n (suc p))

pub total_snoc : (g : ℕ → ℕ) (n p : ℕ) → total g (suc n) p ≡ total g n p + g (p + n)
unfolding total
total_snoc g zero p = rw (add-zero, add-zero, zero-add)
total_snoc g (suc n) p =
    let ih = total_snoc g n (suc p) in
    let e : suc p + n ≡ p + suc n = omega arith in
    omega (arith, ih, ap g e)

-- one value more at the end of a sum from 0
pub total_next : (g : ℕ → ℕ) (n : ℕ) → total g (n + 1) 0 ≡ total g n 0 + g n
total_next g n = rw add-one (total_snoc g n 0 ∙ ap (λ k. total g n 0 + g k) (zero-add n))

-- a sum in two parts
pub total_split : (g : ℕ → ℕ) (m n p : ℕ) → total g (m + n) p ≡ total g m p + total g n (p + m)
unfolding total
total_split g zero n p = let e : p + 0 ≡ p = omega arith in let f : 0 + n ≡ n = omega arith in rw (e, f) (sym (zero-add (total g n p)))
total_split g (suc m) n p =
    let e : suc m + n ≡ suc (m + n) = omega arith in
    let f : suc p + m ≡ p + suc m = omega arith in
    rw e (omega (arith, total_split g m n (suc p), ap (λ k. total g n k) f))

-- from another start on
pub total_from : (g : ℕ → ℕ) (a n p : ℕ) → total (λ c. g (a + c)) n p ≡ total g n (a + p)
unfolding total
total_from g a zero p = refl
total_from g a (suc n) p = let e : a + suc p ≡ suc (a + p) = omega arith in ap (λ m. g (a + p) + m) (total_from g a n (suc p) ∙ ap (total g n) e)

-- a range in parts: part r is the places from s r up to s (r + 1)
pub total_parts : (g : ℕ → ℕ) (s : ℕ → ℕ) (n : ℕ) → s 0 ≡ 0 → ((r : ℕ) → r < n → s r ≤ s (suc r)) → total (λ r. total g (s (suc r) - s r) (s r)) n 0 ≡ total g (s n) 0
unfolding total
total_parts g s zero z h = ap (λ k. total g k 0) (sym z)
total_parts g s (suc n) z h =
    let e : s n + (s (suc n) - s n) ≡ s (suc n) = omega (arith, h n (omega arith)) in
    total_snoc (λ r. total g (s (suc r) - s r) (s r)) n 0
    ∙ ap₂ (λ t k. t + total g (s (suc k) - s k) (s k)) (total_parts g s n z (λ r l. h r (omega arith))) (zero-add n)
    ∙ ap (λ k. total g (s n) 0 + total g (s (suc n) - s n) k) (sym (zero-add (s n)))
    ∙ sym (total_split g (s n) (s (suc n) - s n) 0)
    ∙ ap (λ k. total g k 0) e

pub total_le : (g : ℕ → ℕ) (n p : ℕ) → ((q : ℕ) → g q ≤ 1) → total g n p ≤ n
unfolding total
total_le g zero p h = omega arith
total_le g (suc n) p h = omega (arith, total_le g n (suc p) h, h p)

-- a sum that is not 0 has a value that is not
pub total_pos : (g : ℕ → ℕ) (n p : ℕ) → 0 < total g n p → (q : ℕ) × (p ≤ q) × (q < p + n) × (0 < g q)
unfolding total
total_pos g zero p h = absurd (not-suc-le-zero h)
total_pos g (suc n) p h = go (total_pos g n (suc p)) (eq-zero-or-pos (g p))
  where
    go : (0 < total g n (suc p) → (q : ℕ) × (suc p ≤ q) × (q < suc p + n) × (0 < g q)) → (g p ≡ 0) ⊎ (0 < g p)
        → (q : ℕ) × (p ≤ q) × (q < p + suc n) × (0 < g q)
    go rest (inl e) = let w = rest (omega arith) in (w.0, omega (arith, w.1), omega (arith, w.2), w.3)
    go rest (inr l) = (p, omega arith, omega arith, l)

-- no value is above the sum
pub total_has : (g : ℕ → ℕ) (n p q : ℕ) → p ≤ q → q < p + n → g q ≤ total g n p
unfolding total
total_has g zero p q l h = absurd (omega arith)
total_has g (suc n) p q l h =
    ⊎_elim (λ (e : p ≡ q). rw e (omega arith))
    (λ (k : p < q). omega (arith, total_has g n (suc p) q k (omega arith))) (eq-or-lt_of_le l)

pub after_last : (n k : ℕ) → suc k ≡ n → after n k ≡ 0
after_last n k e = rw (eq-eqb (suc k) n e)

pub after_on : (n k : ℕ) → suc k < n → after n k ≡ suc k
after_on n k h = rw (ne_eqb (suc k) n (λ e. omega arith))

pub after_lt : (n k : ℕ) → k < n → after n k < n
after_lt n k h = ⊎_elim (λ (e : suc k ≡ n). rw (after_last n k e) (omega arith)) (λ (l : suc k < n). rw (after_on n k l) l) (eq-or-lt_of_le h)

-- a round's sum does not depend on where it starts
pub total_round : (g : ℕ → ℕ) (n : ℕ) → total (λ k. g (after n k)) n 0 ≡ total g n 0
unfolding total
total_round g zero = refl
total_round g (suc n) =
    total_snoc (λ k. g (after (suc n) k)) n 0
    ∙ ap₂ (λ a b. a + b)
    (total_ext (λ k. g (after (suc n) k)) (λ k. g (suc k)) n 0 (λ q a b. ap g (after_on (suc n) q (omega arith))) ∙ sym (total_shift g n 0))
    (ap g (after_last (suc n) (0 + n) (omega arith)))
    ∙ omega arith

-- 1 at the place a
abbrev pub mark : ℕ → ℕ → ℕ
mark a q = one (eqb q a)

pub mark_at : (a q : ℕ) → q ≡ a → mark a q ≡ 1
mark_at a q e = ap one (eq-eqb q a e)

pub mark_off : (a q : ℕ) → q ≢ a → mark a q ≡ 0
mark_off a q e = ap one (ne_eqb q a e)

-- the value at the place a, where it is below n
pub total_at : (h : ℕ → ℕ) (n a : ℕ) → total (λ q. h q * one (eqb a q)) n 0 ≡ pick (ltb a n) (h a) 0
total_at h n a =
    elim (dec_lt a n) [
      | yes l ↦ rw (lt-ltb a n l)
          (total_single (λ q. h q * one (eqb a q)) n 0 a (omega arith) (omega arith) (λ q _ _ w. other q (λ e. w (sym e)))
          ∙ ap (λ m. h a * m) (ap one (eq-eqb a a refl)) ∙ mul-one (h a))
      | no l ↦ rw (le-ltb a n (omega arith)) (total_zero (λ q. h q * one (eqb a q)) n 0 (λ q _ w. other q (λ e. omega arith)))
    ]
  where
    other : (q : ℕ) → a ≢ q → h q * one (eqb a q) ≡ 0
    other q w = ap (λ m. h q * m) (ap one (ne_eqb a q w)) ∙ mul-zero (h q)

pub total_mark : (a n : ℕ) → a < n → total (mark a) n 0 ≡ 1
total_mark a n l = total_one (mark a) n 0 a (omega arith) (omega arith) (mark_at a a refl) (λ q u v w. mark_off a q w)

-- 1 at two places, 0 elsewhere
pub total_two : (g : ℕ → ℕ) (n a b : ℕ) → a < n → b < n → a ≢ b → g a ≡ 1 → g b ≡ 1 → ((q : ℕ) → q < n → q ≢ a → q ≢ b → g q ≡ 0) → total g n 0 ≡ 2
total_two g n a b la lb ne ea eb z =
    total_ext g (λ q. mark a q + mark b q) n 0 (λ q u v. at q (omega arith) (eqb q a) (eqb q b) refl refl)
    ∙ total_add (mark a) (mark b) n 0 ∙ rw (total_mark a n la, total_mark b n lb)
  where
    at : (q : ℕ) → q < n → (x y : Bool) → eqb q a ≡ x → eqb q b ≡ y → g q ≡ one x + one y
    at q l true true u v = absurd (ne (sym (eqb-true q a u) ∙ eqb-true q b v))
    at q l true false u v = ap g (eqb-true q a u) ∙ ea
    at q l false true u v = ap g (eqb-true q b v) ∙ eb
    at q l false false u v = z q l (eqb-false q a u) (eqb-false q b v)

-- a sum of at most 2 has no three places that are not 0
pub no_third : (g : ℕ → ℕ) (n a b c : ℕ) → total g n 0 ≤ 2 → a < n → b < n → c < n → a ≢ b → a ≢ c → b ≢ c → 0 < g a → 0 < g b → 0 < g c → ⊥
no_third g n a b c t la lb lc ab ac bc ga gb gc =
    omega (
      arith,
      total_mono (λ q. mark a q + mark b q + mark c q) g n 0 (λ q u v. at q (eqb q a) (eqb q b) (eqb q c) refl refl refl),
      total_add (λ q. mark a q + mark b q) (mark c) n 0,
      total_add (mark a) (mark b) n 0,
      total_mark a n la,
      total_mark b n lb,
      total_mark c n lc,
    )
  where
    at : (q : ℕ) (x y z : Bool) → eqb q a ≡ x → eqb q b ≡ y → eqb q c ≡ z → one x + one y + one z ≤ g q
    at q true true z u v w = absurd (ab (sym (eqb-true q a u) ∙ eqb-true q b v))
    at q true false true u v w = absurd (ac (sym (eqb-true q a u) ∙ eqb-true q c w))
    at q true false false u v w = rw (eqb-true q a u) ga
    at q false true true u v w = absurd (bc (sym (eqb-true q b v) ∙ eqb-true q c w))
    at q false true false u v w = rw (eqb-true q b v) gb
    at q false false true u v w = rw (eqb-true q c w) gc
    at q false false false u v w = omega arith

-- values at most 1, and of three places that are not 0 two are the same
pub total_le_two : (g : ℕ → ℕ) (n : ℕ) → ((q : ℕ) → q < n → g q ≤ 1)
    → ((a b c : ℕ) → a < n → b < n → c < n → a ≢ b → a ≢ c → b ≢ c → 0 < g a → 0 < g b → 0 < g c → ⊥) → total g n 0 ≤ 2
total_le_two g n le few = go (eq-zero-or-pos (total g n 0))
  where
    rest : ℕ → ℕ → ℕ
    rest a q = g q - mark a q

    split : (a : ℕ) → a < n → 0 < g a → total g n 0 ≡ 1 + total (rest a) n 0
    split a l h =
        total_ext g (λ q. mark a q + rest a q) n 0 (λ q u v. at q (eqb q a) refl) ∙ total_add (mark a) (rest a) n 0 ∙ rw (total_mark a n l)
      where
        at : (q : ℕ) (x : Bool) → eqb q a ≡ x → g q ≡ one x + (g q - one x)
        at q true e = let k : g q ≡ g a = ap g (eqb-true q a e) in omega arith
        at q false e = omega arith

    two : (a b : ℕ) → a < n → b < n → a ≢ b → 0 < g a → 0 < g b → total g n 0 ≤ 2
    two a b la lb ne ga gb =
        omega (
          arith,
          total_mono g (λ q. mark a q + mark b q) n 0 (λ q u v. at q (omega arith) (eqb q a) (eqb q b) refl refl),
          total_add (mark a) (mark b) n 0,
          total_mark a n la,
          total_mark b n lb,
        )
      where
        at : (q : ℕ) → q < n → (x y : Bool) → eqb q a ≡ x → eqb q b ≡ y → g q ≤ one x + one y
        at q l true y u v = omega (arith, le q l)
        at q l false true u v = omega (arith, le q l)
        at q l false false u v = ⊎_elim (λ (e : g q ≡ 0). omega arith)
            (λ (h : 0 < g q). absurd (few a b q la lb l ne (λ w. eqb-false q a u (sym w)) (λ w. eqb-false q b v (sym w)) ga gb h)) (eq-zero-or-pos (g q))

    second : (a : ℕ) → a < n → 0 < g a → (total (rest a) n 0 ≡ 0) ⊎ (0 < total (rest a) n 0) → total g n 0 ≤ 2
    second a l h (inl e) = omega (arith, split a l h)
    second a l h (inr k) =
        let w = total_pos (rest a) n 0 k in
        let ne : a ≢ w.0 = (λ e. omega (arith, mark_at a w.0 (sym e), le w.0 (omega (arith, w.2)), w.3)) in
        two a w.0 l (omega (arith, w.2)) ne h (omega (arith, w.3))

    go : (total g n 0 ≡ 0) ⊎ (0 < total g n 0) → total g n 0 ≤ 2
    go (inl e) = omega arith
    go (inr h) = let w = total_pos g n 0 h in second w.0 (omega (arith, w.2)) w.3 (eq-zero-or-pos (total (rest w.0) n 0))

-- three to a group
pub total_three : (f : ℕ → ℕ) (n p : ℕ) → total f (3 * n) (3 * p) ≡ total (λ t. f (3 * t) + f (3 * t + 1) + f (3 * t + 2)) n p
unfolding total
total_three f zero p = refl
total_three f (suc n) p =
    let e : 3 * suc n ≡ suc (suc (suc (3 * n))) = omega arith in
    let s : suc (suc (suc (3 * p))) ≡ 3 * suc p = omega arith in
    let a : suc (3 * p) ≡ 3 * p + 1 = omega arith in
    let b : suc (suc (3 * p)) ≡ 3 * p + 2 = omega arith in
    ap (λ m. total f m (3 * p)) e
    ∙ omega (arith, ap f a, ap f b, ap (λ m. total f (3 * n) m) s, total_three f n (suc p))

module _ {A : Type 0} (f : ℕ → List A) where
  -- one list more at the end
  pub over_snoc : (n p : ℕ) → over f (suc n) p ≡ over f n p ++ f (p + n)
  unfolding over
  over_snoc zero p = rw (add-zero p) (append-nil (f p))
  over_snoc (suc n) p =
      let e : suc p + n ≡ p + suc n = omega arith in
      ap (λ l. f p ++ l) (over_snoc n (suc p) ∙ ap (λ k. over f n (suc p) ++ f k) e) ∙ sym (append_assoc (f p) (over f n (suc p)) (f (p + suc n)))

  pub length_over : (n p : ℕ) → length (over f n p) ≡ total (λ q. length (f q)) n p
  unfolding over total
  length_over zero p = refl
  length_over (suc n) p = length-append (f p) (over f n (suc p)) ∙ ap (λ k. length (f p) + k) (length_over n (suc p))

pub over_ext : {A : Type 0} (f g : ℕ → List A) (n p : ℕ) → ((q : ℕ) → p ≤ q → q < p + n → f q ≡ g q) → over f n p ≡ over g n p
unfolding over
over_ext f g zero p e = refl
over_ext f g (suc n) p e =
    ap₂ (λ a b. a ++ b) (e p (omega arith) (omega arith)) (over_ext f g n (suc p) (λ q a b. e q (omega arith) (omega arith)))

-- lists that are all empty
pub over_none : {A : Type 0} (f : ℕ → List A) (n p : ℕ) → ((q : ℕ) → p ≤ q → q < p + n → f q ≡ []) → over f n p ≡ []
unfolding over
over_none f zero p h = refl
over_none f (suc n) p h = rw (h p (omega arith) (omega arith)) (over_none f n (suc p) (λ q a b. h q (omega arith) (omega arith)))

-- the round: another place comes after each of two or more, no two places have one after them, and before goes back
pub after_ne : (n k : ℕ) → k < n → n ≢ 1 → after n k ≢ k
after_ne n k l h = go (eqb (suc k) n) refl
  where
    go : (b : Bool) → eqb (suc k) n ≡ b → pick b 0 (suc k) ≢ k
    go true e = λ q. omega (arith, eqb-true (suc k) n e)
    go false e = λ q. omega arith

pub after_once : (n k l : ℕ) → k < n → l < n → after n k ≡ after n l → k ≡ l
after_once n k l a b = go (eqb (suc k) n) (eqb (suc l) n) refl refl
  where
    go : (x y : Bool) → eqb (suc k) n ≡ x → eqb (suc l) n ≡ y → pick x 0 (suc k) ≡ pick y 0 (suc l) → k ≡ l
    go true true u v e = omega (arith, eqb-true (suc k) n u, eqb-true (suc l) n v)
    go true false u v e = omega (arith, e)
    go false true u v e = omega (arith, e)
    go false false u v e = omega (arith, e)

pub before_lt : (n k : ℕ) → k < n → before n k < n
before_lt n zero l = omega arith
before_lt n (suc k) l = omega arith

pub after_before : (n k : ℕ) → k < n → after n (before n k) ≡ k
after_before n zero l = after_last n (n - 1) (omega arith)
after_before n (suc k) l = after_on n k l

pub before_after : (n k : ℕ) → k < n → before n (after n k) ≡ k
before_after n k l =
    let a = after_lt n k l in
    after_once n (before n (after n k)) k (before_lt n (after n k) a) l (after_before n (after n k) a)
