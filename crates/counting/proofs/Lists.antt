-- Laws of sums, tests, properties and joined lists over a list.
use Prim.Native.Nat.{ℕ, zero, suc, ◌+◌, ◌*◌, ◌≤◌, ◌<◌}
use mathlib.Core.Path.{◌≡◌, refl, sym, ap, ap₂, ◌∙◌, subst}
use mathlib.Core.Logic.{⊎_elim}
use mathlib.Core.Bool.{Bool, true, false}
use mathlib.Core.List.{List, [], ◌∷◌, ◌++◌, map, map-append, append_assoc}
use native.Mathlib.Nat.{zero-add, add_comm, add_assoc, mul-zero, mul-suc, mul-add, not-suc-le-zero, eq-or-lt_of_le}
use native.Mathlib.Omega.{arith}
use lib.Dec.{eqb}
use lib.ListN.{length, get_or, length-append, get_or-append}
use lib.Seq.{get_or-append-add}
use borrow.Author.Tests.{lt-ltb}
use Rattle.counting.specs.Pick.{pick}
use Rattle.counting.specs.Lists.{one, total, over, values, tally, gather}
use Rattle.counting.specs.work.Stored.{weigh}
use Rattle.counting.specs.claims.Lists.{All}
use Rattle.counting.proofs.Range.{total_zero, total_at, total_add, total_le, total_shift, total_ext, over_ext}
use Rattle.counting.proofs.Fronts.{over_shift}

module _ {A : Type 0} (h : A → ℕ) where
  pub weigh_append : (l m : List A) → weigh h (l ++ m) ≡ weigh h l + weigh h m
  unfolding weigh
  weigh_append [] m = sym (zero-add (weigh h m))
  weigh_append (x ∷ l) m = omega (arith, weigh_append l m)

  pub weigh_over : (f : ℕ → List A) (n p : ℕ) → weigh h (over f n p) ≡ total (λ q. weigh h (f q)) n p
  unfolding weigh over total
  weigh_over f zero p = refl
  weigh_over f (suc n) p = omega (arith, weigh_append (f p) (over f n (suc p)), weigh_over f n (suc p))

  pub weigh_get_d : (d : A) (l : List A) → weigh h l ≡ total (λ t. h (get_or l t d)) (length l) 0
  unfolding weigh total
  weigh_get_d d [] = refl
  weigh_get_d d (x ∷ l) = omega (arith, weigh_get_d d l, total_shift (λ t. h (get_or (x ∷ l) t d)) (length l) 0)

module _ {A : Type 0} (t : A → Bool) where
  -- a tally is a sum of ones
  pub tally_weigh : (l : List A) → weigh (λ x. one (t x)) l ≡ tally t l
  unfolding weigh tally
  tally_weigh [] = refl
  tally_weigh (x ∷ l) = ap (λ n. one (t x) + n) (tally_weigh l)

  pub tally_append : (l m : List A) → tally t (l ++ m) ≡ tally t l + tally t m
  unfolding tally
  tally_append [] m = sym (zero-add (tally t m))
  tally_append (x ∷ l) m = ap (λ n. one (t x) + n) (tally_append l m) ∙ sym (add_assoc (one (t x)) (tally t l) (tally t m))

  pub tally_over : (f : ℕ → List A) (n p : ℕ) → tally t (over f n p) ≡ total (λ q. tally t (f q)) n p
  unfolding tally over total
  tally_over f zero p = refl
  tally_over f (suc n) p = tally_append (f p) (over f n (suc p)) ∙ ap (λ m. tally t (f p) + m) (tally_over f n (suc p))

module _ {A : Type 0} (P : A → Type 0) where
  pub all_append : (l m : List A) → All P l → All P m → All P (l ++ m)
  unfolding All
  all_append [] m h k = k
  all_append (x ∷ l) m h k = (h.0, all_append l m h.1 k)

  pub all_over : (f : ℕ → List A) (n p : ℕ) → ((q : ℕ) → p ≤ q → q < p + n → All P (f q)) → All P (over f n p)
  unfolding All over
  all_over f zero p h = tt
  all_over f (suc n) p h =
      all_append (f p) (over f n (suc p)) (h p (omega arith) (omega arith)) (all_over f n (suc p) (λ q a b. h q (omega arith) (omega arith)))

  pub all_at : (d : A) (l : List A) → All P l → (i : ℕ) → i < length l → P (get_or l i d)
  unfolding All
  all_at d [] h i l = absurd (not-suc-le-zero l)
  all_at d (x ∷ xs) h zero l = h.0
  all_at d (x ∷ xs) h (suc i) l = all_at d xs h.1 i (omega arith)

pub weigh_one : {A : Type 0} (l : List A) → weigh (λ x. 1) l ≡ length l
unfolding weigh
weigh_one [] = refl
weigh_one (x ∷ l) = omega (arith, weigh_one l)

module _ {A : Type 0} (f : A → ℕ) (N : ℕ) where
  -- a sum over a list of what goes by its entries' numbers, number by number
  pub weigh_numbers : (h : ℕ → ℕ) (l : List A) → All (λ x. f x < N) l → total (λ v. h v * tally (λ x. eqb (f x) v) l) N 0 ≡ weigh (λ x. h (f x)) l
  unfolding All tally weigh
  weigh_numbers h [] a = total_zero (λ v. h v * 0) N 0 (λ q _ _. mul-zero (h q))
  weigh_numbers h (x ∷ l) a =
      total_ext (λ v. h v * (one (eqb (f x) v) + tally (λ y. eqb (f y) v) l)) (λ v. h v * one (eqb (f x) v) + h v * tally (λ y. eqb (f y) v) l) N 0
      (λ q _ _. mul-add (h q) (one (eqb (f x) q)) (tally (λ y. eqb (f y) q) l))
      ∙ total_add (λ v. h v * one (eqb (f x) v)) (λ v. h v * tally (λ y. eqb (f y) v) l) N 0
      ∙ ap₂ (λ m n. m + n)
      (total_at h N (f x) ∙ rw (lt-ltb (f x) N a.0) refl)
      (weigh_numbers h l a.1)

  -- how often each number below N is met makes up the length
  pub total_tally : (l : List A) → All (λ x. f x < N) l → total (λ v. tally (λ x. eqb (f x) v) l) N 0 ≡ length l
  total_tally l a =
      total_ext (λ v. tally (λ x. eqb (f x) v) l) (λ v. 1 * tally (λ x. eqb (f x) v) l) N 0 (λ q _ _. omega arith)
      ∙ weigh_numbers (λ v. 1) l a ∙ weigh_one l

  -- a list whose entries' numbers are below N, with each number at most once, has at most N entries
  pub room : (l : List A) → All (λ x. f x < N) l → ((v : ℕ) → tally (λ x. eqb (f x) v) l ≤ 1) → length l ≤ N
  room l h once = omega (arith, total_tally l h, total_le (λ v. tally (λ x. eqb (f x) v) l) N 0 once)

module _ {A : Type 0} (f : ℕ → A) where
  -- one entry for each number
  pub length_singles : (n p : ℕ) → length (over (λ k. f k ∷ []) n p) ≡ n
  unfolding over
  length_singles zero p = refl
  length_singles (suc n) p = ap suc (length_singles n (suc p))

  pub get_or_singles : (d : A) (n p k : ℕ) → k < n → get_or (over (λ q. f q ∷ []) n p) k d ≡ f (p + k)
  unfolding over
  get_or_singles d zero p k l = absurd (not-suc-le-zero l)
  get_or_singles d (suc n) p zero l = let e : p ≡ p + 0 = omega arith in ap f e
  get_or_singles d (suc n) p (suc k) l = let e : suc p + k ≡ p + suc k = omega arith in get_or_singles d n (suc p) k (omega arith) ∙ ap f e

  pub values_at : (n k : ℕ) (d : A) → k < n → get_or (values f n) k d ≡ f k
  values_at n k d l = get_or_singles d n 0 k l ∙ ap f (zero-add k)

pub values_ext : {A : Type 0} (f g : ℕ → A) (n : ℕ) → ((i : ℕ) → i < n → f i ≡ g i) → values f n ≡ values g n
values_ext {A} f g n h = over_ext (λ i. f i ∷ []) (λ i. g i ∷ []) n 0 (λ i a b. ap (λ (x : A). x ∷ []) (h i (omega arith)))

module _ {A : Type 0} (d : A) where
  -- v stands in the list
  pub record Stands (l : List A) (v : A) : Type 0 where
    pub at : ℕ
    pub lt : at < length l
    pub is : get_or l at d ≡ v

  stands_left : (l m : List A) (v : A) → Stands l v → Stands (l ++ m) v
  stands_left l m v w = record { at = w.at; lt = omega (arith, w.lt, length-append l m); is = get_or-append l m d w.at w.lt ∙ w.is }

  stands_right : (l m : List A) (v : A) → Stands m v → Stands (l ++ m) v
  stands_right l m v w = record { at = length l + w.at; lt = omega (arith, w.lt, length-append l m); is = get_or-append-add l m w.at d ∙ w.is }

  pub stands_over : (f : ℕ → List A) (n p q : ℕ) (v : A) → p ≤ q → q < p + n → Stands (f q) v → Stands (over f n p) v
  unfolding over
  stands_over f zero p q v a b w = absurd (omega arith)
  stands_over f (suc n) p q v a b w =
      ⊎_elim (λ (e : p ≡ q). stands_left (f p) (over f n (suc p)) v (subst (λ x. Stands (f x) v) (sym e) w))
      (λ (h : p < q). stands_right (f p) (over f n (suc p)) v (stands_over f n (suc p) q v h (omega arith) w))
      (eq-or-lt_of_le a)

-- what is compared entry by entry
pub weigh_mono : {A : Type 0} (g h : A → ℕ) (l : List A) → ((x : A) → g x ≤ h x) → weigh g l ≤ weigh h l
unfolding weigh
weigh_mono g h [] e = omega arith
weigh_mono g h (x ∷ l) e = omega (arith, e x, weigh_mono g h l e)

pub weigh_ext : {A : Type 0} (d : A) (g h : A → ℕ) (l : List A) → ((t : ℕ) → t < length l → g (get_or l t d) ≡ h (get_or l t d)) → weigh g l ≡ weigh h l
weigh_ext d g h l e =
    weigh_get_d g d l ∙ total_ext (λ t. g (get_or l t d)) (λ t. h (get_or l t d)) (length l) 0 (λ t a b. e t (omega arith)) ∙ sym (weigh_get_d h d l)

-- what holds at each place holds of each entry
pub at_all : {A : Type 0} (P : A → Type 0) (d : A) (l : List A) → ((i : ℕ) → i < length l → P (get_or l i d)) → All P l
unfolding All
at_all P d [] h = tt
at_all P d (x ∷ l) h = (h 0 (omega arith), at_all P d l (λ i k. h (suc i) (omega arith)))

-- a map of joined lists
pub map_over : {A B : Type 0} (h : A → B) (f : ℕ → List A) (n p : ℕ) → map h (over f n p) ≡ over (λ q. map h (f q)) n p
unfolding over
map_over h f zero p = refl
map_over h f (suc n) p = map-append h (f p) (over f n (suc p)) ∙ ap (λ l. map h (f p) ++ l) (map_over h f n (suc p))

-- a list mapped entry by entry
module _ {A B : Type 0} (f : A → B) where
  pub get_or_map : (a : A) (b : B) (l : List A) (t : ℕ) → t < length l → get_or (map f l) t b ≡ f (get_or l t a)
  get_or_map a b [] t h = absurd (not-suc-le-zero h)
  get_or_map a b (x ∷ l) zero h = refl
  get_or_map a b (x ∷ l) (suc t) h = get_or_map a b l t (omega arith)

  pub tally_map : (p : B → Bool) (l : List A) → tally p (map f l) ≡ tally (λ x. p (f x)) l
  unfolding tally
  tally_map p [] = refl
  tally_map p (x ∷ l) = ap (λ n. one (p (f x)) + n) (tally_map p l)

module _ {A B : Type 0} (f : A → List B) where
  pub gather_append : (l m : List A) → gather f (l ++ m) ≡ gather f l ++ gather f m
  unfolding gather
  gather_append [] m = refl
  gather_append (x ∷ l) m = ap (λ w. f x ++ w) (gather_append l m) ∙ sym (append_assoc (f x) (gather f l) (gather f m))

  -- list by list
  pub gather_over : (g : ℕ → List A) (n p : ℕ) → gather f (over g n p) ≡ over (λ k. gather f (g k)) n p
  unfolding over gather
  gather_over g zero p = refl
  gather_over g (suc n) p = gather_append (g p) (over g n (suc p)) ∙ ap (λ w. gather f (g p) ++ w) (gather_over g n (suc p))

  pub length_gather : {k : ℕ} → ((x : A) → length (f x) ≡ k) → (l : List A) → length (gather f l) ≡ k * length l
  unfolding gather
  length_gather e [] = omega arith
  length_gather {k} e (x ∷ l) = length-append (f x) (gather f l) ∙ ap₂ ◌+◌ (e x) (length_gather e l) ∙ add_comm k (k * length l) ∙ sym (mul-suc k (length l))

-- the lists for the entries, joined, by place
pub gather_places : {A B : Type 0} (d : A) (f : A → List B) (l : List A) → gather f l ≡ over (λ x. f (get_or l x d)) (length l) 0
unfolding gather over
gather_places d f [] = refl
gather_places d f (y ∷ l) =
    ap (λ r. f y ++ r)
    (gather_places d f l
    ∙ over_ext (λ x. f (get_or l x d)) (λ x. f (get_or (y ∷ l) (1 + x) d)) (length l) 0 (λ q a b. ap f (next q))
    ∙ over_shift (λ x. f (get_or (y ∷ l) x d)) 1 (length l) 0)
  where
    next : (q : ℕ) → get_or l q d ≡ get_or (y ∷ l) (1 + q) d
    next q = let e : suc q ≡ 1 + q = omega arith in ap (λ n. get_or (y ∷ l) n d) e

-- a list of one entry, or of none
module _ {A : Type 0} where
  pub one_long : (b : Bool) (x : A) → length (pick b (x ∷ []) []) ≡ one b
  one_long true x = refl
  one_long false x = refl

  pub one_ext : (b : Bool) (x y : A) → (b ≡ true → x ≡ y) → pick b (x ∷ []) [] ≡ pick b (y ∷ []) []
  one_ext true x y h = ap (λ (z : A). z ∷ []) (h refl)
  one_ext false x y h = refl
