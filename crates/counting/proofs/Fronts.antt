-- Lists of equal length joined over a range, and their entries stored in another list one after the other.
use Prim.Native.Nat.{ℕ, zero, suc, ◌+◌, ◌-◌, ◌*◌, ◌≤◌, ◌<◌}
use mathlib.Core.Path.{◌≡◌, refl, sym, ap, ap₂, ◌∙◌}
use mathlib.Core.Logic.{◌⊎◌, inl, inr}
use mathlib.Core.List.{List, [], ◌∷◌, ◌++◌, append_assoc}
use native.Mathlib.Nat.{zero-add, add-zero, mul-suc, mul-zero, mul-le-mul_left}
use native.Mathlib.Omega.{arith}
use lib.ListN.{length, get_or, take, drop, set, length-append, length-drop, get_or-append}
use lib.Seq.{take-suc, take-add, take_all, get_or-drop, sets, sets-eq, get_or-append-add}
use Rattle.counting.specs.Lists.{over}
use Rattle.counting.proofs.Search.{below-or}
use Rattle.counting.proofs.Range.{over_snoc}

-- stores of two lists, one after the other
pub sets_append : {A : Type 0} (l : List A) (i : ℕ) (v r : List A) → sets l i (v ++ r) ≡ sets (sets l i v) (i + length v) r
sets_append l i [] r = ap (λ k. sets l k r) (sym (add-zero i))
sets_append l i (a ∷ v) r = let e : suc i + length v ≡ i + suc (length v) = omega arith in sets_append (set l i a) (suc i) v r ∙ ap (λ k. sets (sets (set l i a) (suc i) v) k r) e

-- stores from the front on are a list written over it
pub sets_front : {A : Type 0} (v l : List A) → length v ≤ length l → sets l 0 v ≡ v ++ drop (length v) l
sets_front v l h = sets-eq v l 0 (omega arith) ∙ ap (λ k. v ++ drop k l) (zero-add (length v))

module _ {A : Type 0} (f : ℕ → List A) where
  pub over_more : (n : ℕ) → over f (n + 1) 0 ≡ over f n 0 ++ f n
  over_more n =
      let e : n + 1 ≡ suc n = omega arith in
      ap (λ k. over f k 0) e ∙ over_snoc f n 0 ∙ ap (λ k. over f n 0 ++ f k) (zero-add n)

  -- n lists of w entries each
  module _ (w : ℕ) where
    pub length_blocks : (n : ℕ) → ((k : ℕ) → k < n → length (f k) ≡ w) → length (over f n 0) ≡ w * n
    unfolding over
    length_blocks zero h = sym (mul-zero w)
    length_blocks (suc n) h =
        over_snoc' n
        ∙ ap (λ k. k + length (f n)) (length_blocks n (λ k l. h k (omega arith)))
        ∙ ap (λ k. w * n + k) (h n (omega arith))
        ∙ sym (mul-suc w n)
      where
        over_snoc' : (n : ℕ) → length (over f (suc n) 0) ≡ length (over f n 0) + length (f n)
        over_snoc' n = ap length (over_snoc f n 0 ∙ ap (λ k. over f n 0 ++ f k) (zero-add n)) ∙ length-append (over f n 0) (f n)

    -- entry i of list k
    pub get_or_blocks : (n : ℕ) → ((k : ℕ) → k < n → length (f k) ≡ w) → (k i : ℕ) (d : A) → k < n → i < w → get_or (over f n 0) (w * k + i) d ≡ get_or (f k) i d
    get_or_blocks zero h k i d l b = absurd (omega (arith, l))
    get_or_blocks (suc n) h k i d l b = go (below-or k n l) (λ q. get_or_blocks n (λ j m. h j (omega arith)) k i d q b)
      where
        e : over f (suc n) 0 ≡ over f n 0 ++ f n
        e = over_snoc f n 0 ∙ ap (λ j. over f n 0 ++ f j) (zero-add n)

        front : length (over f n 0) ≡ w * n
        front = length_blocks n (λ j m. h j (omega arith))

        below : k < n → w * k + i < length (over f n 0)
        below q =
            let m : w * suc k ≤ w * n = mul-le-mul_left w q in
            omega (arith, m, mul-suc w k, front)

        go : (k ≡ n) ⊎ (k < n) → (k < n → get_or (over f n 0) (w * k + i) d ≡ get_or (f k) i d) → get_or (over f (suc n) 0) (w * k + i) d ≡ get_or (f k) i d
        go (inl q) r =
            let m : w * k + i ≡ length (over f n 0) + i = ap (λ j. w * j + i) q ∙ ap (λ j. j + i) (sym front) in
            ap (λ (x : List A). get_or x (w * k + i) d) e ∙ ap (λ j. get_or (over f n 0 ++ f n) j d) m ∙ get_or-append-add (over f n 0) (f n) i d ∙ ap (λ j. get_or (f j) i d) (sym q)
        go (inr q) r =
            ap (λ (x : List A). get_or x (w * k + i) d) e
            ∙ get_or-append (over f n 0) (f n) d (w * k + i) (below q)
            ∙ r q

-- the first parts of w entries of a list, joined; and a list of n times w entries is its parts
pub first_parts : {A : Type 0} (w n : ℕ) (l : List A) → over (λ k. take w (drop (w * k) l)) n 0 ≡ take (w * n) l
unfolding over
first_parts {A} w zero l = sym (ap (λ k. take k l) (mul-zero w))
first_parts {A} w (suc n) l =
    let f : ℕ → List A = λ k. take w (drop (w * k) l) in
    over_snoc f n 0
    ∙ ap (λ k. over f n 0 ++ f k) (zero-add n)
    ∙ ap (λ (x : List A). x ++ f n) (first_parts w n l)
    ∙ sym (take-add (w * n) w l)
    ∙ ap (λ k. take k l) (sym (mul-suc w n))

pub in_parts : {A : Type 0} (w n : ℕ) (l : List A) → length l ≡ w * n → over (λ k. take w (drop (w * k) l)) n 0 ≡ l
in_parts w n l h = first_parts w n l ∙ take_all (w * n) l (omega (arith, h))

-- stores one after the other, as code writes them
module _ {A : Type 0} (l : List A) (n : ℕ) where
  pub sets_two : (a b : A) → set (set l n a) (n + 1) b ≡ sets l n (a ∷ b ∷ [])
  sets_two a b = let e : n + 1 ≡ suc n = omega arith in ap (λ k. set (set l n a) k b) e

-- m lists and then n
pub over_split : {A : Type 0} (f : ℕ → List A) (m n p : ℕ) → over f (m + n) p ≡ over f m p ++ over f n (p + m)
unfolding over
over_split f zero n p = ap (λ k. over f k p) (zero-add n) ∙ ap (over f n) (sym (add-zero p))
over_split f (suc m) n p =
    let e : suc m + n ≡ suc (m + n) = omega arith in
    let q : suc p + m ≡ p + suc m = omega arith in
    ap (λ k. over f k p) e
    ∙ ap (λ l. f p ++ l) (over_split f m n (suc p) ∙ ap (λ k. over f m (suc p) ++ over f n k) q)
    ∙ sym (append_assoc (f p) (over f m (suc p)) (over f n (p + suc m)))

-- lists from another start on
module _ {A : Type 0} (f : ℕ → List A) where
  pub over_shift : (m n p : ℕ) → over (λ q. f (m + q)) n p ≡ over f n (m + p)
  unfolding over
  over_shift m zero p = refl
  over_shift m (suc n) p =
      let e : m + suc p ≡ suc (m + p) = omega arith in
      ap (λ l. f (m + p) ++ l) (over_shift m n (suc p) ∙ ap (over f n) e)

-- a range in parts: part r is the places from s r up to s (r + 1)
pub over_parts : {A : Type 0} (f : ℕ → List A) (s : ℕ → ℕ) (n : ℕ) → s 0 ≡ 0 → ((r : ℕ) → r < n → s r ≤ s (suc r)) → over (λ r. over f (s (suc r) - s r) (s r)) n 0 ≡ over f (s n) 0
unfolding over
over_parts f s zero z h = ap (λ k. over f k 0) (sym z)
over_parts f s (suc n) z h =
    let e : s n + (s (suc n) - s n) ≡ s (suc n) = omega (arith, h n (omega arith)) in
    over_snoc (λ r. over f (s (suc r) - s r) (s r)) n 0
    ∙ ap₂ (λ l k. l ++ over f (s (suc k) - s k) (s k)) (over_parts f s n z (λ r l. h r (omega arith))) (zero-add n)
    ∙ ap (λ k. over f (s n) 0 ++ over f (s (suc n) - s n) k) (sym (zero-add (s n)))
    ∙ sym (over_split f (s n) (s (suc n) - s n) 0)
    ∙ ap (λ k. over f k 0) e

-- list k and what stands before and after it
pub over_at : {A : Type 0} (f : ℕ → List A) (n k : ℕ) → k < n → over f n 0 ≡ over f k 0 ++ (f k ++ over f (n - suc k) (suc k))
unfolding over
over_at f n k h =
    let e : n ≡ k + suc (n - suc k) = omega arith in
    ap (λ m. over f m 0) e ∙ over_split f k (suc (n - suc k)) 0 ∙ ap (λ m. over f k 0 ++ over f (suc (n - suc k)) m) (zero-add k)

pub over_within : {A : Type 0} (f : ℕ → List A) (n k : ℕ) → k < n → length (over f k 0) + length (f k) ≤ length (over f n 0)
over_within f n k h =
    let r = over f (n - suc k) (suc k) in
    omega (arith, ap length (over_at f n k h), length-append (over f k 0) (f k ++ r), length-append (f k) r)

-- n entries of a list from a place on, one by one
pub singles : {A : Type 0} (l : List A) (d : A) (a n : ℕ) → a + n ≤ length l → over (λ i. get_or l (a + i) d ∷ []) n 0 ≡ take n (drop a l)
unfolding over
singles l d a zero h = refl
singles {A} l d a (suc n) h =
    let f : ℕ → List A = λ i. get_or l (a + i) d ∷ [] in
    over_snoc f n 0
    ∙ ap (λ k. over f n 0 ++ f k) (zero-add n)
    ∙ ap (λ (x : List A). x ++ f n) (singles l d a n (omega arith))
    ∙ ap (λ (x : A). take n (drop a l) ++ (x ∷ [])) (sym (get_or-drop a l n d))
    ∙ sym (take-suc (drop a l) n d (simp length-drop (omega arith)))
