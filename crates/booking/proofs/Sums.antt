-- The booking from the sums of the counts of opposite edges: with M the largest, t + 2 M is their sum, and d1 and d2 are half of what M has above the
-- least and above the one between.
use Prim.Native.Nat.{ℕ, ◌+◌, ◌*◌, ◌-◌, ◌/◌, ◌≤◌, min, max}
use mathlib.Core.Path.{◌≡◌, sym, ap, ◌∙◌}
use mathlib.Core.Logic.{⊎_elim}
use mathlib.Core.Bool.{true, false}
use mathlib.Core.List.{List, []}
use native.Mathlib.Omega.{arith}
use Rattle.counting.specs.Lists.{total}
use Rattle.slots.specs.Slots.{edge_between}
use Rattle.answer.specs.Answer.{result_of}
use Rattle.cell.specs.work.Limits.{most_sum}
use Rattle.cell.specs.claims.Nodes.{Arranged}
use Rattle.cell.specs.Nodes.{joining}
use Rattle.cell.specs.Level.{by_edge, is_level_cell}
use Rattle.cell.proofs.Nodes.{abdc, acbd, acdb, badc, cdab, dcba}
use Rattle.booking.specs.Booking.{smallest, median, corner_triangles, left_between, larger, smaller}
use Rattle.booking.specs.claims.Booking.{booked}
use Rattle.booking.specs.claims.Left.{pair_sum, largest_pair, Longest}
use Rattle.booking.specs.work.Fans.{fans_answer}
use Rattle.booking.specs.work.Sums.{Three, of_three, largest, Sums}
use Rattle.booking.proofs.Counts.{ways, Pairs, pairs, top_cases, twice_least, twice_left, numbers}

-- what the largest and the least of three numbers leave of their sum is the one between
abbrev remains : (x y z : ℕ) → ℕ
remains x y z = x + y + z - largest x y z - smallest x y z

pub remains_median : (x y z : ℕ) → remains x y z ≡ median x y z
unfolding median
remains_median x y z = left (largest x y z) (smallest x y z) (median x y z) (x + y + z) (all x y z)
  where
    all : (x y z : ℕ) → largest x y z + smallest x y z + median x y z ≡ x + y + z
    all x y z = omega arith

    left : (h l m s : ℕ) → h + l + m ≡ s → s - h - l ≡ m
    left h l m s e = omega arith

-- three sums in order
pub in_order : {x y z : ℕ} → Sums x y z → Three (largest x y z) (remains x y z) (smallest x y z)
in_order {x} {y} {z} S = record { low = low x y z; high = high x y z; fit = omega (arith, S.fit, low x y z); few = S.few }
  where
    low : (x y z : ℕ) → smallest x y z ≤ remains x y z
    low x y z = omega arith

    high : (x y z : ℕ) → remains x y z ≤ largest x y z
    high x y z = omega arith

-- p and q are half of what m has above v and above u
halves : (u v m p q : ℕ) → 2 * p + v ≡ m → 2 * q + u ≡ m → (max p q ≡ (m - min u v) / 2) × (min p q ≡ (m - max u v) / 2)
halves u v m p q e f = (omega arith, omega arith)

-- the other two of three sums, of which m is the largest
abbrev Others : (u v m x y z : ℕ) → Type 0
Others u v m x y z = (smallest x y z ≡ min u v) × (x + y + z ≡ m + (min u v + max u v))

others_first : (u v m : ℕ) → u ≤ m → v ≤ m → Others u v m m u v
others_first u v m a b = (omega arith, omega arith)

others_second : (u v m : ℕ) → u ≤ m → v ≤ m → Others u v m u m v
others_second u v m a b = (omega arith, omega arith)

others_third : (u v m : ℕ) → u ≤ m → v ≤ m → Others u v m u v m
others_third u v m a b = (omega arith, omega arith)

module _ (w : ℕ → ℕ) (K : is_level_cell w ≡ true) where
  abbrev A : Arranged 0 1 2 3
  A = omega arith

  abbrev x : ℕ
  x = pair_sum w 0 1 2 3

  abbrev y : ℕ
  y = pair_sum w 0 2 1 3

  abbrev z : ℕ
  z = pair_sum w 0 3 1 2

  -- at each node twice its corner triangles and the largest sum are its counts
  corners_sum : corner_triangles w + 2 * largest_pair w ≡ x + y + z
  unfolding corner_triangles total
  corners_sum = omega (arith, ways w A, twice_least w K A, twice_least w K (badc A), twice_least w K (cdab A), twice_least w K (dcba A))

  -- d1 and d2, with the pair ad, bc the largest
  abbrev Found : Type 0
  Found = (larger w ≡ (largest_pair w - smallest x y z) / 2) × (smaller w ≡ (largest_pair w - (x + y + z - largest_pair w - smallest x y z)) / 2)

  by : {a b c d : ℕ} → Longest w a b c d → Others (pair_sum w a b c d) (pair_sum w a c b d) (largest_pair w) x y z → Found
  by {a} {b} {c} {d} L (e, f) =
      let B = L.all in
      let N = numbers w K L in
      let u = pair_sum w a b c d in
      let v = pair_sum w a c b d in
      let H = halves u v (largest_pair w) (left_between w a b) (left_between w a c)
      (omega (arith, L.sum, twice_left w K B)) (omega (arith, L.sum, twice_left w K (acbd B), ways w B)) in
      (sym N.most ∙ rw e H.0, sym N.least ∙ H.1 ∙ ap (λ n. (largest_pair w - n) / 2) (rest (largest_pair w) (x + y + z) (smallest x y z) (min u v) (max u v) e f))
    where
      rest : (m s l p q : ℕ) → l ≡ p → s ≡ m + (p + q) → q ≡ s - m - l
      rest m s l p q g h = omega arith

  numbers_by : Found
  numbers_by =
      ⊎_elim
      (λ (t : x ≡ largest_pair w).
      (let e : pair_sum w 0 2 3 1 ≡ y = omega (arith, ways w A) in
      let f : pair_sum w 0 3 2 1 ≡ z = omega (arith, ways w A) in
      by (record { all = acdb A; sum = t }) (rw (e, f, ← t) (others_first y z x (omega (arith, P, t)) (omega (arith, P, t))))))
      (⊎_elim
      (λ (t : y ≡ largest_pair w).
      (let e : pair_sum w 0 1 3 2 ≡ x = omega (arith, ways w A) in
      by (record { all = abdc A; sum = t }) (rw (e, ← t) (others_second x z y (omega (arith, P, t)) (omega (arith, P, t))))))
      (λ (t : z ≡ largest_pair w). by (record { all = A; sum = t }) (rw (← t) (others_third x y z (omega (arith, P, t)) (omega (arith, P, t))))))
      (top_cases w A)
    where
      P : Pairs w 0 1 2 3
      P = pairs w A

  pub sums_fit : 2 * largest x y z ≤ x + y + z
  unfolding largest_pair
  sums_fit = omega (arith, corners_sum)

  -- the answer
  pub sums_answer : of_three (largest x y z) (median x y z) (smallest x y z) ≡ fans_answer w
  unfolding of_three fans_answer booked largest_pair
  sums_answer =
      let t : smallest x y z + remains x y z - largest x y z ≡ corner_triangles w = three (largest x y z) (x + y + z) (smallest x y z) (corner_triangles w) (in_order_low x y z) corners_sum in
      let (p, q) = numbers_by in
      rw (← remains_median x y z, K, t, ← p, ← q)
    where
      in_order_low : (x y z : ℕ) → smallest x y z + largest x y z ≤ x + y + z
      in_order_low x y z = omega arith

      three : (m s l t : ℕ) → l + m ≤ s → t + 2 * m ≡ s → l + (s - m - l) - m ≡ t
      three m s l t h e = omega arith

-- for listed counts
module _ (l : List ℕ) where
  abbrev w : ℕ → ℕ
  w = by_edge l

  pub walk-it : is_level_cell w ≡ false → result_of [] ≡ fans_answer w
  unfolding fans_answer
  walk-it e = rw e

  pub book_sums : is_level_cell w ≡ true → (x y z : ℕ) → x ≡ w 0 + w 5 → y ≡ w 1 + w 4 → z ≡ w 2 + w 3 → (x ≤ most_sum) → (y ≤ most_sum) → (z ≤ most_sum) → Sums x y z
  unfolding joining edge_between
  book_sums K x y z e f g a b c = record { fit = rw (e, f, g) (sums_fit w K); few = omega arith }

  pub book_it : is_level_cell w ≡ true → (x y z : ℕ) → x ≡ w 0 + w 5 → y ≡ w 1 + w 4 → z ≡ w 2 + w 3 → of_three (largest x y z) (median x y z) (smallest x y z) ≡ fans_answer w
  unfolding joining edge_between
  book_it K x y z e f g = rw (e, f, g) (sums_answer w K)
