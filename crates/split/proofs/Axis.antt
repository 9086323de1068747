-- A cell with d1 = d2 = m: by counts, what its edges keep, and the edge E.
use Prim.Native.Nat.{ℕ, zero, suc, ◌+◌, ◌*◌, ◌-◌, ◌/◌, ◌<◌}
use mathlib.Core.Path.{◌≡◌, refl, sym, ◌∙◌}
use mathlib.Core.Logic.{◌⊎◌, inl, inr, ⊎_elim}
use mathlib.Core.Bool.{Bool, true, false}
use native.Mathlib.Omega.{arith}
use native.Mathlib.Decide.{dec_lt}
use lib.Dec.{eqb, ltb}
use borrow.Author.Tests.{eqb-true, eq-eqb, ne_eqb, ltb-true, lt-ltb}
use Rattle.counting.specs.Pick.{pick}
use Rattle.counting.specs.Search.{first}
use Rattle.counting.proofs.Bools.{clash, and_true, and_left, and_right}
use Rattle.counting.proofs.Search.{first_at}
use Rattle.slots.specs.Slots.{lo, hi, edge_between}
use Rattle.cell.specs.claims.Nodes.{Arranged}
use Rattle.cell.specs.Nodes.{joining}
use Rattle.cell.specs.Level.{is_level_cell}
use Rattle.cell.specs.claims.Nests.{exceeds, exceeding, pair_at, nest_edge, nest_count, nest_corner}
use Rattle.cell.proofs.Nodes.{abdc, acbd, acdb, adbc, sum_six}
use Rattle.booking.specs.Booking.{least_corner, left_between, larger, smaller}
use Rattle.booking.specs.claims.Left.{pair_sum, largest_pair, Longest}
use Rattle.booking.proofs.Counts.{ways, top_cases, twice_least, twice_left, left_opposite, left_sum, numbers}

-- edge e from the lowest node to position e + 1, and the other two positions; its ends
pub data Axis : ℕ → ℕ → ℕ → Type 0 where
  on_01 : Axis 0 2 3
  on_02 : Axis 1 1 3
  on_03 : Axis 2 1 2

pub record Ends (e b c : ℕ) : Type 0 where
  pub joins : joining 0 (suc e) ≡ e
  pub lower : lo e ≡ 0
  pub upper : hi e ≡ suc e
  pub lt : e < 3
  pub low_opposite : lo (5 - e) ≡ b
  pub high_opposite : hi (5 - e) ≡ c

ends : {e b c : ℕ} → Axis e b c → Ends e b c
unfolding joining edge_between lo hi
ends on_01 = record { joins = refl; lower = refl; upper = refl; lt = omega arith; low_opposite = refl; high_opposite = refl }
ends on_02 = record { joins = refl; lower = refl; upper = refl; lt = omega arith; low_opposite = refl; high_opposite = refl }
ends on_03 = record { joins = refl; lower = refl; upper = refl; lt = omega arith; low_opposite = refl; high_opposite = refl }

-- the other two positions, either way round
pub others-of : {e b c s t : ℕ} → Axis e b c → Arranged 0 (suc e) t s → ((s ≡ b) × (t ≡ c)) ⊎ ((s ≡ c) × (t ≡ b))
others-of {s = s} on_01 B = elim (dec_lt s 3) [
  | yes h ↦ inl (omega (arith, sum_six B, B.c_lt), omega (arith, sum_six B, B.c_lt))
  | no h ↦ inr (omega (arith, sum_six B, B.d_lt), omega (arith, sum_six B, B.d_lt))
]
others-of {s = s} on_02 B = elim (dec_lt s 2) [
  | yes h ↦ inl (omega (arith, sum_six B, B.ad), omega (arith, sum_six B, B.ad))
  | no h ↦ inr (omega (arith, sum_six B, B.bd, B.d_lt), omega (arith, sum_six B, B.bd, B.d_lt))
]
others-of {s = s} on_03 B = elim (dec_lt s 2) [
  | yes h ↦ inl (omega (arith, sum_six B, B.ad), omega (arith, sum_six B, B.ad))
  | no h ↦ inr (omega (arith, sum_six B, B.ac), omega (arith, sum_six B, B.ac))
]

-- a cell with d1 = d2 = m > 1, in which the pair of edge e has the largest sum
pub record NestAxis (n : ℕ → ℕ) (m e b c : ℕ) : Type 0 where
  pub axis : Axis e b c
  pub level : is_level_cell n ≡ true
  pub longest : Longest n 0 b c (suc e)
  pub many : 1 < m
  pub left_b : left_between n 0 b ≡ m
  pub left_c : left_between n 0 c ≡ m

-- which of three numbers exceeds the others
data Exceeding (x y z : ℕ) : ℕ → Type 0 where
  by_x : y ≡ z → y + 2 < x → Exceeding x y z 0
  by_y : z ≡ x → z + 2 < y → Exceeding x y z 1
  by_z : x ≡ y → x + 2 < z → Exceeding x y z 2
  by_none : Exceeding x y z 3

exceeds_is : (x y z : ℕ) → exceeds x y z ≡ true → (y ≡ z) × (y + 2 < x)
unfolding exceeds
exceeds_is x y z h = (eqb-true y z (and_left (eqb y z) (ltb (y + 2) x) h), ltb-true (y + 2) x (and_right (eqb y z) (ltb (y + 2) x) h))

is_exceeds : (x y z : ℕ) → y ≡ z → y + 2 < x → exceeds x y z ≡ true
unfolding exceeds
is_exceeds x y z e l = and_true (eqb y z) (ltb (y + 2) x) (eq-eqb y z e) (lt-ltb (y + 2) x l)

exceeding_is : (x y z : ℕ) → Exceeding x y z (exceeding x y z)
unfolding exceeding
exceeding_is x y z = go (exceeds x y z) (exceeds y z x) (exceeds z x y) (exceeds_is x y z) (exceeds_is y z x) (exceeds_is z x y)
  where
    go : (a b c : Bool) → (a ≡ true → (y ≡ z) × (y + 2 < x)) → (b ≡ true → (z ≡ x) × (z + 2 < y)) → (c ≡ true → (x ≡ y) × (x + 2 < z))
        → Exceeding x y z (pick a 0 (pick b 1 (pick c 2 3)))
    go true b c f g h = by_x (f refl).0 (f refl).1
    go false true c f g h = by_y (g refl).0 (g refl).1
    go false false true f g h = by_z (h refl).0 (h refl).1
    go false false false f g h = by_none

some_exceeding : (x y z : ℕ) → (exceeds x y z ≡ true) ⊎ ((exceeds y z x ≡ true) ⊎ (exceeds z x y ≡ true)) → exceeding x y z < 3
unfolding exceeding
some_exceeding x y z s = go (exceeds x y z) (exceeds y z x) (exceeds z x y) s
  where
    go : (a b c : Bool) → (a ≡ true) ⊎ ((b ≡ true) ⊎ (c ≡ true)) → pick a 0 (pick b 1 (pick c 2 3)) < 3
    go true b c h = omega arith
    go false true c h = omega arith
    go false false true h = omega arith
    go false false false h = ⊎_elim (λ e. clash e refl) (⊎_elim (λ e. clash e refl) (λ e. clash e refl)) h

module _ (n : ℕ → ℕ) (K : is_level_cell n ≡ true) where
  abbrev A : Arranged 0 1 2 3
  A = omega arith

  -- what the edges beside the pair with the largest sum keep
  keeps : {b c d : ℕ} → Longest n 0 b c d → (2 * left_between n 0 b + pair_sum n 0 c b d ≡ largest_pair n) × (2 * left_between n 0 c + pair_sum n 0 b c d ≡ largest_pair n)
  keeps L =
      let B = L.all in
      (omega (arith, L.sum, twice_left n K B), omega (arith, L.sum, twice_left n K (acbd B), ways n B))

  -- by counts
  nest_by : {e : ℕ} → Exceeding (pair_at n 0) (pair_at n 1) (pair_at n 2) e → e < 3 → (b : ℕ) × (c : ℕ) × NestAxis n ((pair_at n e - pair_at n (pick (eqb e 0) 1 0)) / 2) e b c
  unfolding largest_pair joining edge_between
  nest_by (by_x p q) l =
      let L : Longest n 0 2 3 1 = record { all = acdb A; sum = omega arith } in
      let k = keeps L in
      (2, 3, record { axis = on_01; level = K; longest = L; many = omega (arith, k); left_b = omega (arith, k); left_c = omega (arith, k) })
  nest_by (by_y p q) l =
      let L : Longest n 0 1 3 2 = record { all = abdc A; sum = omega arith } in
      let k = keeps L in
      (1, 3, record { axis = on_02; level = K; longest = L; many = omega (arith, k); left_b = omega (arith, k); left_c = omega (arith, k) })
  nest_by (by_z p q) l =
      let L : Longest n 0 1 2 3 = record { all = A; sum = omega arith } in
      let k = keeps L in
      (1, 2, record { axis = on_03; level = K; longest = L; many = omega (arith, k); left_b = omega (arith, k); left_c = omega (arith, k) })
  nest_by by_none l = absurd (omega arith)

  -- and back
  by_nest : {m : ℕ} → larger n ≡ m → smaller n ≡ m → 1 < m → exceeding (pair_at n 0) (pair_at n 1) (pair_at n 2) < 3
  unfolding joining edge_between
  by_nest {m} e f h =
      some_exceeding (pair_at n 0) (pair_at n 1) (pair_at n 2)
      (⊎_elim
      (λ (t : pair_sum n 0 1 2 3 ≡ largest_pair n).
      (let L : Longest n 0 2 3 1 = record { all = acdb A; sum = t } in
      let k = keeps L in
      let N = numbers n K L in
      inl (is_exceeds (pair_at n 0) (pair_at n 1) (pair_at n 2) (omega (arith, k, N, e, f, t)) (omega (arith, k, N, e, f, t)))))
      (⊎_elim
      (λ (t : pair_sum n 0 2 1 3 ≡ largest_pair n).
      (let L : Longest n 0 1 3 2 = record { all = abdc A; sum = t } in
      let k = keeps L in
      let N = numbers n K L in
      inr (inl (is_exceeds (pair_at n 1) (pair_at n 2) (pair_at n 0) (omega (arith, k, N, e, f, t)) (omega (arith, k, N, e, f, t))))))
      (λ (t : pair_sum n 0 3 1 2 ≡ largest_pair n).
      (let L : Longest n 0 1 2 3 = record { all = A; sum = t } in
      let k = keeps L in
      let N = numbers n K L in
      inr (inr (is_exceeds (pair_at n 2) (pair_at n 0) (pair_at n 1) (omega (arith, k, N, e, f, t)) (omega (arith, k, N, e, f, t)))))))
      (top_cases n A))

-- what is read of a nest
module _ {n : ℕ → ℕ} {m e b c : ℕ} (N : NestAxis n m e b c) where
  pub nest_larger : larger n ≡ m
  nest_larger = omega (arith, numbers n N.level N.longest, N.left_b, N.left_c)

  pub nest_smaller : smaller n ≡ m
  nest_smaller = omega (arith, numbers n N.level N.longest, N.left_b, N.left_c)

  -- E keeps 2 * m, and its ends
  pub nest_left : left_between n 0 (suc e) ≡ 2 * m
  nest_left = omega (arith, left_sum n N.level N.longest, N.left_b, N.left_c)

  pub nest_opposite : left_between n b c ≡ 2 * m
  nest_opposite = sym (left_opposite n N.level (adbc N.longest.all)) ∙ nest_left

  pub nest_ends : Ends e b c
  nest_ends = ends N.axis

  -- the first edge that keeps so many
  pub nest_first : first (λ k. eqb (left_between n (lo k) (hi k)) (2 * m)) 6 ≡ e
  unfolding lo hi
  nest_first = go N.axis nest_left N.left_b N.left_c
    where
      t : ℕ → Bool
      t k = eqb (left_between n (lo k) (hi k)) (2 * m)

      not_double : {k : ℕ} → k ≡ m → eqb k (2 * m) ≡ false
      not_double {k} q = ne_eqb k (2 * m) (omega (arith, N.many))

      go : {e b c : ℕ} → Axis e b c → left_between n 0 (suc e) ≡ 2 * m → left_between n 0 b ≡ m → left_between n 0 c ≡ m → first t 6 ≡ e
      go on_01 d p q = first_at t 6 0 (omega arith) (eq-eqb (left_between n 0 1) (2 * m) d) (λ j h. absurd (omega arith))
      go on_02 d p q = first_at t 6 1 (omega arith) (eq-eqb (left_between n 0 2) (2 * m) d) below
        where
          below : (j : ℕ) → j < 1 → t j ≡ false
          below zero h = not_double p
          below (suc j) h = absurd (omega arith)
      go on_03 d p q = first_at t 6 2 (omega arith) (eq-eqb (left_between n 0 3) (2 * m) d) below
        where
          below : (j : ℕ) → j < 2 → t j ≡ false
          below zero h = not_double p
          below (suc zero) h = not_double q
          below (suc (suc j)) h = absurd (omega arith)

  -- the corner triangles at the lowest node
  pub nest_own : (n 0 + n 1 + n 2 - pair_at n e) / 2 ≡ least_corner n 0
  unfolding joining edge_between
  nest_own = go N.axis N.longest
    where
      go : {e b c : ℕ} → Axis e b c → Longest n 0 b c (suc e) → (n 0 + n 1 + n 2 - pair_at n e) / 2 ≡ least_corner n 0
      go on_01 L = omega (arith, L.sum, twice_least n N.level L.all)
      go on_02 L = omega (arith, L.sum, twice_least n N.level L.all)
      go on_03 L = omega (arith, L.sum, twice_least n N.level L.all)

-- the test by counts
module _ (n : ℕ → ℕ) where
  pub counts_nest : nest_edge n < 3 → (b : ℕ) × (c : ℕ) × NestAxis n (nest_count n) (nest_edge n) b c
  unfolding nest_edge nest_count
  counts_nest l = go (is_level_cell n) refl (nest_edge n) refl l
    where
      go : (k : Bool) → is_level_cell n ≡ k → (e : ℕ) → e ≡ pick k (exceeding (pair_at n 0) (pair_at n 1) (pair_at n 2)) 3 → e < 3
          → (b : ℕ) × (c : ℕ) × NestAxis n ((pair_at n e - pair_at n (pick (eqb e 0) 1 0)) / 2) e b c
      go true q e r h = nest_by n q (rw r (exceeding_is (pair_at n 0) (pair_at n 1) (pair_at n 2))) h
      go false q e r h = absurd (omega arith)

  pub nest_counts : is_level_cell n ≡ true → {m : ℕ} → larger n ≡ m → smaller n ≡ m → 1 < m → nest_edge n < 3
  unfolding nest_edge
  nest_counts K e f h = rw K (by_nest n K e f h)

  pub nest-corner : {m b c : ℕ} → NestAxis n m (nest_edge n) b c → nest_corner n ≡ least_corner n 0
  unfolding nest_corner
  nest-corner N = nest_own N
