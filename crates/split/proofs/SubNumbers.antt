-- The numbers of the sub_cells of a split: their corner triangles, d1 and d2, from the sums of opposite edges.
use Prim.Native.Nat.{ℕ, suc, ◌+◌, ◌-◌, ◌*◌, ◌<◌, min, max}
use mathlib.Core.Path.{◌≡◌, refl, sym, ap, ap₂, ◌∙◌}
use mathlib.Core.Logic.{◌⊎◌, inl, inr, ◌≢◌}
use mathlib.Core.Bool.{true, false}
use native.Mathlib.Omega.{arith}
use lib.Dec.{ltb}
use borrow.Author.Tests.{le-ltb}
use Rattle.counting.proofs.Bools.{and_false_left, and_false_right}
use Rattle.counting.proofs.Below.{below_four}
use Rattle.slots.specs.Slots.{lo, hi}
use Rattle.slots.specs.claims.Slots.{rank_in}
use Rattle.cell.specs.declared.Cell.{Cell}
use Rattle.cell.specs.Of.{count_of}
use Rattle.cell.specs.claims.Nodes.{Arranged}
use Rattle.cell.specs.Nodes.{count_between}
use Rattle.cell.specs.Level.{is_level_cell}
use Rattle.cell.proofs.Nodes.{acbd, bacd, cabd, dacb}
use Rattle.booking.specs.Booking.{least_corner, corner_triangles, left_between, larger, smaller, is_spiral}
use Rattle.booking.specs.Figures.{are_spiral}
use Rattle.booking.specs.claims.Left.{largest_pair, Longest}
use Rattle.booking.proofs.Counts.{twice_least, twice_left, numbers, ways}
use Rattle.split.specs.Labels.{labelled, spoke}
use Rattle.split.specs.claims.Counted.{sub_counts}
use Rattle.split.specs.SubCell.{sub}
use Rattle.split.specs.claims.Claims.{NumbersAre, SubCells, SubCountsNumbered, SubCellsNumbered}
use Rattle.split.proofs.Orders.{corners_any, longest}
use Rattle.split.proofs.Labels.{spiral_is, left_ways, labelled_lt, labelled_once, label_at, between}
use Rattle.split.proofs.SubCells.{Omits, seats, seat_new, seat_old, sub_level, counts_omit, sub_omits}

-- a cell by the counts at its lowest node and between the others: its numbers, where the last pair has the largest sum
pub record Around (v : ℕ → ℕ) (s1 s2 s3 r23 r13 r12 : ℕ) : Type 0 where
  pub q1 : ℕ
  pub q2 : ℕ
  pub q3 : ℕ
  pub all : Arranged 0 q1 q2 q3
  pub to_1 : count_between v 0 q1 ≡ s1
  pub to_2 : count_between v 0 q2 ≡ s2
  pub to_3 : count_between v 0 q3 ≡ s3
  pub between_23 : count_between v q2 q3 ≡ r23
  pub between_13 : count_between v q1 q3 ≡ r13
  pub between_12 : count_between v q1 q2 ≡ r12

all_corners : (s1 s2 s3 r23 r13 r12 t t0 t1 t2 t3 M T : ℕ) → t0 + t1 + t2 + t3 ≡ T → 2 * t0 + M ≡ s1 + s2 + s3 → 2 * t1 + M ≡ s1 + r12 + r13
    → 2 * t2 + M ≡ s2 + r12 + r23 → 2 * t3 + M ≡ s3 + r23 + r13 → M ≡ s3 + r12 → t + (s3 + r12) ≡ s1 + r23 + (s2 + r13) → T ≡ t
all_corners s1 s2 s3 r23 r13 r12 t t0 t1 t2 t3 M T e f g h k m n = omega arith

module _ (v : ℕ → ℕ) (K : is_level_cell v ≡ true) {s1 s2 s3 r23 r13 r12 : ℕ} (R : Around v s1 s2 s3 r23 r13 r12) (t a b : ℕ)
    (first : s3 + r12 ≡ s2 + r13 + 2 * a) (second : s3 + r12 ≡ s1 + r23 + 2 * b) (rest : t + (s3 + r12) ≡ s1 + r23 + (s2 + r13)) where
  abbrev A : Arranged 0 R.q1 R.q2 R.q3
  A = R.all

  L : Longest v 0 R.q1 R.q2 R.q3
  L = longest A v (omega (arith, R.to_1, R.between_23, R.to_3, R.between_12, second)) (omega (arith, R.to_2, R.between_13, R.to_3, R.between_12, first))

  top : largest_pair v ≡ s3 + r12
  top = omega (arith, L.sum, R.to_3, R.between_12)

  left_1 : left_between v 0 R.q1 ≡ a
  left_1 = omega (arith, twice_left v K A, top, R.to_2, R.between_13, R.to_3, R.between_12, first)

  left_2 : left_between v 0 R.q2 ≡ b
  left_2 = omega (arith, twice_left v K (acbd A), top, ways v A, R.to_1, R.between_23, R.to_3, R.between_12, second)

  corners_are : corner_triangles v ≡ t
  corners_are =
      let W = ways v A in
      all_corners s1 s2 s3 r23 r13 r12 t (least_corner v 0) (least_corner v R.q1) (least_corner v R.q2) (least_corner v R.q3) (largest_pair v) (corner_triangles v) (corners_any A v)
      (twice_least v K A ∙ ap₂ ◌+◌ (ap₂ ◌+◌ R.to_1 R.to_2) R.to_3)
      (twice_least v K (bacd A) ∙ ap₂ ◌+◌ (ap₂ ◌+◌ (sym W.ab ∙ R.to_1) R.between_12) R.between_13)
      (twice_least v K (cabd A) ∙ ap₂ ◌+◌ (ap₂ ◌+◌ (sym W.ac ∙ R.to_2) (sym W.bc ∙ R.between_12)) R.between_23)
      (twice_least v K (dacb A) ∙ ap₂ ◌+◌ (ap₂ ◌+◌ (sym W.ad ∙ R.to_3) (sym W.cd ∙ R.between_23)) (sym W.bd ∙ R.between_13))
      top rest

  pub numbered : NumbersAre v t (max a b) (min a b)
  numbered =
      let N = numbers v K L in
      record { level = K; corners = corners_are; first = sym N.most ∙ ap₂ max left_1 left_2; second = sym N.least ∙ ap₂ min left_1 left_2 }

-- which numbers are no spiral
no_spiral : (v : ℕ → ℕ) → (smaller v ≡ 0) ⊎ (larger v ≡ smaller v) → is_spiral v ≡ false
unfolding is_spiral are_spiral
no_spiral v (inl e) = and_false_left (ltb 0 (smaller v)) (ltb (smaller v) (larger v)) (le-ltb 0 (smaller v) (omega arith))
no_spiral v (inr e) = and_false_right (ltb 0 (smaller v)) (ltb (smaller v) (larger v)) (le-ltb (smaller v) (larger v) (omega arith))

-- The sub_cells by their labels.
module _ (z : ℕ → ℕ) (K : is_level_cell z ≡ true) (some : 0 < smaller z) (more : smaller z < larger z) (v : ℕ → ℕ → ℕ)
    (O : (m : ℕ) → m < 4 → Omits z (labelled z m) (v m)) where
  around : (m n1 n2 n3 : ℕ) → Arranged m n1 n2 n3
      → Around (v m) (spoke z n1) (spoke z n2) (spoke z n3) (left_between z (labelled z n2) (labelled z n3)) (left_between z (labelled z n1) (labelled z n3)) (left_between z (labelled z n1) (labelled z n2))
  around m n1 n2 n3 B = record {
    q1 = suc (rank_in (labelled z m) (labelled z n1));
    q2 = suc (rank_in (labelled z m) (labelled z n2));
    q3 = suc (rank_in (labelled z m) (labelled z n3));
    all = seats l_m P;
    to_1 = arm n1 B.b_lt B.ab;
    to_2 = arm n2 B.c_lt B.ac;
    to_3 = arm n3 B.d_lt B.ad;
    between_23 = old P.c_lt P.d_lt P.ac P.ad P.cd;
    between_13 = old P.b_lt P.d_lt P.ab P.ad P.bd;
    between_12 = old P.b_lt P.c_lt P.ab P.ac P.bc;
  }
    where
      l_m : labelled z m < 4
      l_m = labelled_lt z K some more m B.a_lt

      apart : {n k : ℕ} → n < 4 → k < 4 → n ≢ k → labelled z n ≢ labelled z k
      apart {n} {k} ln lk ne e = ne (labelled_once z K some more n k ln lk e)

      P : Arranged (labelled z m) (labelled z n1) (labelled z n2) (labelled z n3)
      P = record {
        a_lt = l_m;
        b_lt = labelled_lt z K some more n1 B.b_lt;
        c_lt = labelled_lt z K some more n2 B.c_lt;
        d_lt = labelled_lt z K some more n3 B.d_lt;
        ab = apart B.a_lt B.b_lt B.ab;
        ac = apart B.a_lt B.c_lt B.ac;
        ad = apart B.a_lt B.d_lt B.ad;
        bc = apart B.b_lt B.c_lt B.bc;
        bd = apart B.b_lt B.d_lt B.bd;
        cd = apart B.c_lt B.d_lt B.cd;
      }

      arm : (n : ℕ) → n < 4 → m ≢ n → count_between (v m) 0 (suc (rank_in (labelled z m) (labelled z n))) ≡ spoke z n
      arm n ln ne =
          seat_new l_m (O m B.a_lt) (labelled z n) (labelled_lt z K some more n ln) (λ e. apart B.a_lt ln ne (sym e))
          ∙ ap (spoke z) (label_at z K some more n ln)

      old : {p q : ℕ} → p < 4 → q < 4 → labelled z m ≢ p → labelled z m ≢ q → p ≢ q
          → count_between (v m) (suc (rank_in (labelled z m) p)) (suc (rank_in (labelled z m) q)) ≡ left_between z p q
      old {p} {q} lp lq np nq ne = seat_old l_m (O m B.a_lt) p q lp lq (λ e. np (sym e)) (λ e. nq (sym e)) ne

  level_of : (m : ℕ) → m < 4 → is_level_cell (v m) ≡ true
  level_of m lm = sub_level z K some more (labelled_lt z K some more m lm) (O m lm)

  -- what remains between two labels, in both orders
  abbrev keeps : ℕ → ℕ → ℕ → Type 0
  keeps m n k = (left_between z (labelled z m) (labelled z n) ≡ k) × (left_between z (labelled z n) (labelled z m) ≡ k)

  keep : (m n k : ℕ) → m < 4 → n < 4 → m ≢ n → left_between z (labelled z m) (labelled z n) ≡ k → keeps m n k
  keep m n k lm ln ne e = (e, left_ways z (labelled z n) (labelled z m) (λ q. ne (sym (labelled_once z K some more n m ln lm q))) ∙ e)

  remain : keeps 0 1 (larger z) × keeps 0 2 (smaller z) × keeps 0 3 (larger z + smaller z) × keeps 1 2 (larger z + smaller z) × keeps 1 3 (smaller z) × keeps 2 3 (larger z)
  unfolding lo hi
  remain = (
    keep 0 1 (larger z) (omega arith) (omega arith) (λ q. omega arith) (between z K some more 0 (omega arith)),
    keep 0 2 (smaller z) (omega arith) (omega arith) (λ q. omega arith) (between z K some more 1 (omega arith)),
    keep 0 3 (larger z + smaller z) (omega arith) (omega arith) (λ q. omega arith) (between z K some more 2 (omega arith)),
    keep 1 2 (larger z + smaller z) (omega arith) (omega arith) (λ q. omega arith) (between z K some more 3 (omega arith)),
    keep 1 3 (smaller z) (omega arith) (omega arith) (λ q. omega arith) (between z K some more 4 (omega arith)),
    keep 2 3 (larger z) (omega arith) (omega arith) (λ q. omega arith) (between z K some more 5 (omega arith)),
  )

  read : {u : ℕ → ℕ} {t x y x' y' : ℕ} → NumbersAre u t x y → x ≡ x' → y ≡ y' → NumbersAre u t x' y'
  read N p q = record { level = N.level; corners = N.corners; first = N.first ∙ p; second = N.second ∙ q }

  by : (m n1 n2 n3 t a b' : ℕ) → Arranged m n1 n2 n3
      → spoke z n3 + left_between z (labelled z n1) (labelled z n2) ≡ spoke z n2 + left_between z (labelled z n1) (labelled z n3) + 2 * a
      → spoke z n3 + left_between z (labelled z n1) (labelled z n2) ≡ spoke z n1 + left_between z (labelled z n2) (labelled z n3) + 2 * b'
      → t + (spoke z n3 + left_between z (labelled z n1) (labelled z n2)) ≡ spoke z n1 + left_between z (labelled z n2) (labelled z n3) + (spoke z n2 + left_between z (labelled z n1) (labelled z n3))
      → NumbersAre (v m) t (max a b') (min a b')
  by m n1 n2 n3 t a b' B = numbered (v m) (level_of m B.a_lt) (around m n1 n2 n3 B) t a b'

  pub sub-cells : SubCells z v
  unfolding spoke
  sub-cells =
      let (ij, ik, il, jk, jl, kl) = remain in
      let omits-l : NumbersAre (v 3) (larger z - smaller z) (smaller z) (smaller z) = read (by 3 1 2 0 (larger z - smaller z) (smaller z) (smaller z) (omega arith) (omega (arith, ij, jk)) (omega (arith, ik, jk)) (omega (arith, ij, ik, jk, more))) (omega arith) (omega arith) in
      let omits-j : NumbersAre (v 1) (larger z) (smaller z) 0 = read (by 1 2 3 0 (larger z) (smaller z) 0 (omega arith) (omega (arith, kl, ik, more)) (omega (arith, kl, il)) (omega (arith, ik, il, kl, more))) (omega arith) (omega arith) in
      let omits-i : NumbersAre (v 0) (2 * smaller z) (larger z - smaller z) 0 = read (by 0 3 2 1 (2 * smaller z) (larger z - smaller z) 0 (omega arith) (omega (arith, kl, jl, more)) (omega (arith, kl, jk, more)) (omega (arith, jk, jl, kl, more))) (omega arith) (omega arith) in
      record {
        omits-l = omits-l;
        omits_k = by 2 3 0 1 (smaller z) (larger z - smaller z) (smaller z) (omega arith) (omega (arith, il, jl, more)) (omega (arith, il, ij, more)) (omega (arith, ij, il, jl, more));
        omits-j = omits-j;
        omits-i = omits-i;
        others = λ m h ne. below_four (λ m. m ≢ 2 → is_spiral (v m) ≡ false)
            (λ _. no_spiral (v 0) (inl omits-i.second)) (λ _. no_spiral (v 1) (inl omits-j.second))
            (λ n. absurd (n refl)) (λ _. no_spiral (v 3) (inr (omits-l.first ∙ sym omits-l.second))) m h ne;
      }

-- of counts, and of a cell by value
pub sub_counted : (w : ℕ → ℕ) → is_level_cell w ≡ true → 0 < smaller w → smaller w < larger w → SubCells w (sub_counts w)
sub_counted w K some more = sub-cells w K some more (sub_counts w) (λ m lm. counts_omit w m)

pub sub_cells : (c : Cell) → is_level_cell (count_of c) ≡ true → 0 < smaller (count_of c) → smaller (count_of c) < larger (count_of c) → (b f word : ℕ)
    → SubCells (count_of c) (λ m. count_of (sub c b f word m))
unfolding sub
sub_cells c K some more b f word =
    sub-cells (count_of c) K some more (λ m. count_of (sub c b f word m))
    (λ m lm. sub_omits c K some more b f word (labelled (count_of c) m) (labelled_lt (count_of c) K some more m lm))

pub sub_counts_numbered : SubCountsNumbered
sub_counts_numbered w K S = let (some, more) = spiral_is w S in sub_counted w K some more

pub sub_cells_numbered : SubCellsNumbered
sub_cells_numbered c K S b f word = let (some, more) = spiral_is (count_of c) S in sub_cells c K some more b f word
