-- Laws of rows laid end to end.
use Prim.Native.Nat.{ℕ, zero, suc, ◌+◌, ◌*◌, ◌≤◌, ◌<◌}
use mathlib.Core.Path.{◌≡◌, ap, ◌∙◌}
use mathlib.Core.Logic.{◌≢◌, ⊎_elim}
use mathlib.Core.Bool.{Bool, false}
use native.Mathlib.Decide.{dec_lt}
use native.Mathlib.Nat.{not-suc-le-zero, zero-add, mul-zero, mul-suc, eq-or-lt_of_le}
use native.Mathlib.Omega.{arith}
use lib.Dec.{ltb}
use borrow.Author.Tests.{ltb-true, ltb-false, lt-ltb, le-ltb}
use Rattle.counting.specs.Lists.{total, pre}
use Rattle.counting.specs.Pack.{row, col}
use Rattle.counting.proofs.Bools.{clash}
use Rattle.counting.proofs.Range.{total_snoc}
use Rattle.counting.proofs.Search.{first_is, first_below, first_none, first_at}

module _ (w : ℕ → ℕ) where
  pre_zero : pre w 0 ≡ 0
  unfolding pre total
  pre_zero = omega arith

  -- row r ends after x
  after : ℕ → ℕ → Bool
  after x r = ltb x (pre w (suc r))

  module _ (m : ℕ) where
    pub pre_next : (r : ℕ) → pre w (suc r) ≡ pre w r + w r
    unfolding pre
    pre_next r = total_snoc w r 0 ∙ ap (λ y. total w r 0 + w y) (zero-add r)

    -- where no row has more than m places
    pub pre_most : ((r : ℕ) → w r ≤ m) → (n : ℕ) → pre w n ≤ m * n
    pre_most h zero = omega (arith, pre_zero, mul-zero m)
    pre_most h (suc n) = omega (arith, pre_next n, pre_most h n, h n, mul-suc m n)

    pub pre_le : (r s : ℕ) → r < s → pre w r + w r ≤ pre w s
    pre_le r zero h = absurd (not-suc-le-zero h)
    pre_le r (suc s) h =
        ⊎_elim (λ (e : r ≡ s). rw (← e) (omega (arith, pre_next r)))
        (λ (l : r < s). omega (arith, pre_next s, pre_le r s l)) (eq-or-lt_of_le (omega arith))

    pub pack_lt : (r i : ℕ) → r < m → i < w r → pre w r + i < pre w m
    pack_lt r i h l = omega (arith, pre_le r m h)

    pub row_lt : (x : ℕ) → x < pre w m → row w m x < m
    unfolding row after
    row_lt x h = elim (dec_lt (row w m x) m) [
      | yes l ↦ l
      | no l ↦ absurd (none (first_none (after x) m (omega arith)) m (omega arith) h)
    ]
      where
        none : ((i : ℕ) → i < m → after x i ≡ false) → (n : ℕ) → n ≤ m → x < pre w n → ⊥
        none b zero k l = omega (arith, pre_zero)
        none b (suc n) k l = clash (lt-ltb x (pre w (suc n)) l) (b n (omega arith))

    -- the row starts at x or before it, and ends after it
    row_from : (x : ℕ) → pre w (row w m x) ≤ x
    unfolding row after
    row_from x = go (row w m x) (λ i l. first_below (after x) m i l)
      where
        go : (r : ℕ) → ((i : ℕ) → i < r → after x i ≡ false) → pre w r ≤ x
        go zero b = omega (arith, pre_zero)
        go (suc r) b = ltb-false x (pre w (suc r)) (b r (omega arith))

    pub col_lt : (x : ℕ) → x < pre w m → col w m x < w (row w m x)
    unfolding row col after
    col_lt x h = omega (arith, ltb-true x (pre w (suc (row w m x))) (first_is (after x) m (row_lt x h)), pre_next (row w m x), row_from x)

    pub unpack : (x : ℕ) → x < pre w m → pre w (row w m x) + col w m x ≡ x
    unfolding col
    unpack x h = omega (arith, row_from x)

    pub row_pack : (r i : ℕ) → r < m → i < w r → row w m (pre w r + i) ≡ r
    unfolding row after
    row_pack r i h l =
        first_at (after (pre w r + i)) m r h (lt-ltb (pre w r + i) (pre w (suc r)) (omega (arith, pre_next r)))
        (λ j k. le-ltb (pre w r + i) (pre w (suc j)) (omega (arith, pre_next j, pre_le j r k)))

    pub col_pack : (r i : ℕ) → r < m → i < w r → col w m (pre w r + i) ≡ i
    unfolding col
    col_pack r i h l = omega (arith, ap (pre w) (row_pack r i h l))

-- widths that differ at row i alone
module _ (v w : ℕ → ℕ) (i : ℕ) (same : (r : ℕ) → r ≢ i → v r ≡ w r) where
  pub pre_kept : (r : ℕ) → r ≤ i → pre v r ≡ pre w r
  pre_kept zero h = omega (arith, pre_zero v, pre_zero w)
  pre_kept (suc r) h = omega (arith, pre_next v 0 r, pre_next w 0 r, pre_kept r (omega arith), same r (λ e. omega arith))

  pub pre_changed : (r : ℕ) → i < r → pre v r + w i ≡ pre w r + v i
  pre_changed zero h = absurd (not-suc-le-zero h)
  pre_changed (suc r) h =
      ⊎_elim (λ (e : i ≡ r). rw (← e) (omega (arith, pre_next v 0 i, pre_next w 0 i, pre_kept i (omega arith))))
      (λ (l : i < r). omega (arith, pre_next v 0 r, pre_next w 0 r, pre_changed r l, same r (λ e. omega arith))) (eq-or-lt_of_le (omega arith))
