-- Counts and joined lists over rows laid end to end; counts of a test that one number passes, and of one that the first and the last pass.
use Prim.Native.Nat.{ℕ, zero, suc, ◌+◌, ◌-◌, ◌<◌, ◌≤◌}
use mathlib.Core.Path.{◌≡◌, refl, sym, ap, ap₂, ◌∙◌}
use mathlib.Core.Bool.{Bool, true, ◌||◌}
use mathlib.Core.List.{List, ◌++◌}
use native.Mathlib.Omega.{arith}
use native.Mathlib.Nat.{zero-add}
use lib.Dec.{ltb, leb}
use borrow.Author.Tests.{lt-ltb, le-ltb, le-leb, lt-leb}
use Rattle.counting.specs.Lists.{one, total, over, pre}
use Rattle.counting.specs.Search.{count}
use Rattle.counting.specs.Pack.{row, col}
use Rattle.counting.proofs.Bools.{or_left, or_right, or_false}
use Rattle.counting.proofs.Range.{total_snoc, over_snoc, over_ext}
use Rattle.counting.proofs.Search.{some_found, count_none, count_all, count_one, count_plus}
use Rattle.counting.proofs.Pack.{pre_next, row_pack, col_pack}
use Rattle.counting.proofs.Fronts.{over_split, over_shift}

-- row by row
pub count_rows : (w : ℕ → ℕ) (t : ℕ → Bool) (m : ℕ) → count t (pre w m) ≡ total (λ r. count (λ i. t (pre w r + i)) (w r)) m 0
unfolding count pre total
count_rows w t zero = refl
count_rows w t (suc m) =
    let s = total_snoc (λ r. count (λ i. t (pre w r + i)) (w r)) m 0 in
    let z : 0 + m ≡ m = zero-add m in
    ap (count t) (pre_next w m m) ∙ count_plus t (pre w m) (w m)
    ∙ omega (arith, count_rows w t m, s, ap (λ r. count (λ i. t (pre w r + i)) (w r)) z)

pub over_rows : {A : Type 0} (w : ℕ → ℕ) (n : ℕ) (F : ℕ → ℕ → List A) (r : ℕ) → r ≤ n
    → over (λ x. F (row w n x) (col w n x)) (pre w r) 0 ≡ over (λ k. over (F k) (w k) 0) r 0
unfolding pre total over
over_rows w n F zero h = refl
over_rows w n F (suc r) h =
    ap (λ m. over (λ x. F (row w n x) (col w n x)) m 0) (pre_next w n r)
    ∙ over_split (λ x. F (row w n x) (col w n x)) (pre w r) (w r) 0
    ∙ ap₂ ◌++◌ (over_rows w n F r (omega arith)) last
    ∙ sym (over_snoc (λ k. over (F k) (w k) 0) r 0)
  where
    place : (q : ℕ) → q < w r → F (row w n (pre w r + q)) (col w n (pre w r + q)) ≡ F r q
    place q l = ap₂ F (row_pack w n r q (omega arith) l) (col_pack w n r q (omega arith) l)

    last : over (λ x. F (row w n x) (col w n x)) (w r) (0 + pre w r) ≡ over (F (0 + r)) (w (0 + r)) 0
    last =
        let e : 0 + pre w r ≡ pre w r + 0 = omega arith in
        let z : 0 + r ≡ r = omega arith in
        ap (over (λ x. F (row w n x) (col w n x)) (w r)) e
        ∙ sym (over_shift (λ x. F (row w n x) (col w n x)) (pre w r) (w r) 0)
        ∙ over_ext (λ q. F (row w n (pre w r + q)) (col w n (pre w r + q))) (F r) (w r) 0 (λ q a b. place q (omega arith))
        ∙ sym (ap (λ k. over (F k) (w k) 0) z)

-- the only number below n that passes
pub count_only : (t : ℕ → Bool) (n a : ℕ) → a < n → t a ≡ true → ((i : ℕ) → i < n → t i ≡ true → i ≡ a) → count t n ≡ 1
count_only t n a h e only =
    count_one t n (λ i j l k p q. (let x = only i (omega arith) p in let y = only j k q in omega arith)) ∙ ap one (some_found t n a h e)

-- of n places, the first a and the last b
pub count_ends : (n a b : ℕ) → a + b ≤ n → count (λ i. ltb i a || leb n (i + b)) n ≡ a + b
count_ends n a b h =
    let e : n ≡ a + (n - a - b + b) = omega arith in
    ap (count t) e ∙ count_plus t a (n - a - b + b)
    ∙ omega (
      arith,
      count_plus (λ i. t (a + i)) (n - a - b) b,
      count_all t a (λ i l. or_left (ltb i a) (leb n (i + b)) (lt-ltb i a l)),
      count_none (λ i. t (a + i)) (n - a - b) (λ i l. or_false (ltb (a + i) a) (leb n (a + i + b)) (le-ltb (a + i) a (omega arith)) (lt-leb n (a + i + b) (omega arith))),
      count_all (λ i. t (a + (n - a - b + i))) b (λ i l. or_right (ltb (a + (n - a - b + i)) a) (leb n (a + (n - a - b + i) + b)) (le-leb n (a + (n - a - b + i) + b) (omega arith))),
    )
  where
    t : ℕ → Bool
    t i = ltb i a || leb n (i + b)
