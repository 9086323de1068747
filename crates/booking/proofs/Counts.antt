-- Corner counts and what is left, in closed form: with S(a) the sum of the counts at a, and M the largest sum of a pair of opposite edges, twice the
-- corner triangles at a are S(a) - M; opposite edges keep the same; of the three numbers left at a node the largest is the sum of the others.
use Prim.Native.Nat.{ℕ, zero, suc, ◌+◌, ◌*◌, ◌-◌, ◌≤◌, ◌<◌, max}
use mathlib.Core.Path.{◌≡◌, refl, sym, ◌∙◌}
use mathlib.Core.Logic.{◌⊎◌, inl, inr, ◌≢◌, ⊎_elim}
use mathlib.Core.Bool.{Bool, true, false}
use native.Mathlib.Omega.{arith}
use native.Mathlib.Decide.{dec_lt}
use lib.Dec.{ltb}
use Rattle.counting.specs.Pick.{pick}
use Rattle.slots.specs.Slots.{edge_between, edge_rank, lower, upper}
use Rattle.face.specs.Face.{other, opposite}
use Rattle.face.specs.claims.Ends.{End, low, high, on_ab, on_ac, on_bc}
use Rattle.face.specs.claims.Level.{Level}
use Rattle.face.proofs.Level.{level_corner, level_end}
use Rattle.cell.specs.Cell.{Edges}
use Rattle.cell.specs.claims.Nodes.{Arranged}
use Rattle.cell.specs.Nodes.{joining, count_between, corner_from}
use Rattle.cell.specs.Level.{is_level_cell}
use Rattle.cell.proofs.Levels.{slot_level}
use Rattle.cell.proofs.Nodes.{sum_six, lowest_of, dcba, abdc, acbd, acdb, adbc, bacd, badc, bcad, bcda, bdac, cdab, other_is, opposite_is, lower_is, upper_is}
use Rattle.cell.proofs.Turn.{flip_count, corner_flip, count_is, ends}
use Rattle.booking.specs.Booking.{smallest, median, corner_on, least_corner, left_between, larger, smaller}
use Rattle.booking.specs.claims.Left.{pair_sum, largest_pair, Longest, Numbers}

-- the three faces at a node from any of them
smallest_end : (f : ℕ → ℕ) {v e : ℕ} → End v e → smallest (f 0) (f 1) (f 2) ≡ smallest (f e) (f (other v e)) (f (opposite v))
unfolding lower upper other opposite
smallest_end f (low on_ab) = omega arith
smallest_end f (low on_ac) = omega arith
smallest_end f (low on_bc) = omega arith
smallest_end f (high on_ab) = omega arith
smallest_end f (high on_ac) = omega arith
smallest_end f (high on_bc) = omega arith

-- the positions but the lowest, in any order
data Orders : ℕ → ℕ → ℕ → Type 0 where
  o123 : Orders 1 2 3
  o132 : Orders 1 3 2
  o213 : Orders 2 1 3
  o231 : Orders 2 3 1
  o312 : Orders 3 1 2
  o321 : Orders 3 2 1

data Upper : ℕ → Type 0 where
  u1 : Upper 1
  u2 : Upper 2
  u3 : Upper 3

upper_of : (b : ℕ) → b < 4 → 0 ≢ b → Upper b
upper_of zero l z = absurd (z refl)
upper_of (suc zero) l z = u1
upper_of (suc (suc zero)) l z = u2
upper_of (suc (suc (suc zero))) l z = u3
upper_of (suc (suc (suc (suc b)))) l z = absurd (omega arith)

by_two : {b c : ℕ} → Upper b → Upper c → b ≢ c → Orders b c (6 - b - c)
by_two u1 u1 n = absurd (n refl)
by_two u1 u2 n = o123
by_two u1 u3 n = o132
by_two u2 u1 n = o213
by_two u2 u2 n = absurd (n refl)
by_two u2 u3 n = o231
by_two u3 u1 n = o312
by_two u3 u2 n = o321
by_two u3 u3 n = absurd (n refl)

orders : {b c d : ℕ} → Arranged 0 b c d → Orders b c d
orders {b} {c} {d} A =
    let e : 6 - b - c ≡ d = last b c d (sum_six A) in
    rw e at (by_two (upper_of b A.b_lt A.ab) (upper_of c A.c_lt A.ac) A.bc)
  where
    last : (b c d : ℕ) → 0 + b + c + d ≡ 6 → 6 - b - c ≡ d
    last b c d e = omega arith

module _ (w : ℕ → ℕ) where
  -- the cell's edges, laid as they stand
  abbrev pub plain : Edges
  plain = record { count = w; start = λ k. 0 }

  -- the corner triangles at a, from the three faces there in any order
  corner-on : {a b c d : ℕ} → Arranged a b c d → corner_on w a (edge_rank a (joining b c)) ≡ corner_from w a b c
  unfolding corner_on
  corner-on {a} {b} {c} A =
      let B = bcda A in
      rw (lower_is B, upper_is B) (go (ltb b c))
    where
      go : (t : Bool) → corner_from w a (pick t b c) (pick t c b) ≡ corner_from w a b c
      go true = refl
      go false = sym (corner_flip w A)

  pub least_is : {a b c d : ℕ} → Arranged a b c d → least_corner w a ≡ smallest (corner_from w a b c) (corner_from w a b d) (corner_from w a c d)
  unfolding least_corner
  least_is {a} A =
      let B = bcda A in
      smallest_end (corner_on w a) (ends plain B)
      ∙ rw (other_is B, opposite_is B, corner-on A, corner-on (abdc A), corner-on (acdb A))

-- the counts of the six edges both ways
pub record Ways (w : ℕ → ℕ) (a b c d : ℕ) : Type 0 where
  pub ab : count_between w a b ≡ count_between w b a
  pub ac : count_between w a c ≡ count_between w c a
  pub ad : count_between w a d ≡ count_between w d a
  pub bc : count_between w b c ≡ count_between w c b
  pub bd : count_between w b d ≡ count_between w d b
  pub cd : count_between w c d ≡ count_between w d c

-- the sums of the pairs of opposite edges
pub record Pairs (w : ℕ → ℕ) (a b c d : ℕ) : Type 0 where
  pub ab_cd : pair_sum w a b c d ≤ largest_pair w
  pub ac_bd : pair_sum w a c b d ≤ largest_pair w
  pub ad_bc : pair_sum w a d b c ≤ largest_pair w

-- the largest of them, from any order
abbrev most : (ℕ → ℕ) → ℕ → ℕ → ℕ → ℕ → ℕ
most w a b c d = max (max (pair_sum w a b c d) (pair_sum w a c b d)) (pair_sum w a d b c)

module _ (w : ℕ → ℕ) where
  top_lowest : {b c d : ℕ} → Orders b c d → largest_pair w ≡ most w 0 b c d
  unfolding largest_pair joining edge_between
  top_lowest o123 = omega arith
  top_lowest o132 = omega arith
  top_lowest o213 = omega arith
  top_lowest o231 = omega arith
  top_lowest o312 = omega arith
  top_lowest o321 = omega arith

  top_first : {a b c d : ℕ} → Arranged a b c d → a ≡ 0 → largest_pair w ≡ most w a b c d
  top_first A e = rw e (top_lowest (orders (rw e at A)))

module _ (w : ℕ → ℕ) {a b c d : ℕ} (A : Arranged a b c d) where
  pub ways : Ways w a b c d
  ways = record {
    ab = flip_count w A;
    ac = flip_count w (acbd A);
    ad = flip_count w (adbc A);
    bc = flip_count w (bcad A);
    bd = flip_count w (bdac A);
    cd = flip_count w (cdab A);
  }

  top_is : largest_pair w ≡ most w a b c d
  top_is =
      ⊎_elim (λ (e : a ≡ 0). top_first w A e)
      (⊎_elim (λ (e : b ≡ 0). top_first w (badc A) e ∙ omega (arith, ways))
      (⊎_elim (λ (e : c ≡ 0). top_first w (cdab A) e ∙ omega (arith, ways)) (λ (e : d ≡ 0). top_first w (dcba A) e ∙ omega (arith, ways))))
      (lowest_of A)

  pub pairs : Pairs w a b c d
  pairs = omega (arith, top_is)

  pub top_cases : (pair_sum w a b c d ≡ largest_pair w) ⊎ ((pair_sum w a c b d ≡ largest_pair w) ⊎ (pair_sum w a d b c ≡ largest_pair w))
  top_cases =
      let t = top_is in
      elim (dec_lt (pair_sum w a b c d) (pair_sum w a c b d)) [
        | yes h ↦ elim (dec_lt (pair_sum w a c b d) (pair_sum w a d b c)) [
          | yes k ↦ inr (inr (omega arith))
          | no k ↦ inr (inl (omega arith))
        ]
        | no h ↦ elim (dec_lt (pair_sum w a b c d) (pair_sum w a d b c)) [
          | yes k ↦ inr (inr (omega arith))
          | no k ↦ inl (omega arith)
        ]
      ]

module _ (w : ℕ → ℕ) (K : is_level_cell w ≡ true) where
  -- on each face rule 1 is met
  pub face_level : {a b c d : ℕ} → Arranged a b c d → Level (count_between w a b) (count_between w a c) (count_between w b c)
  face_level {a} {b} {c} {d} A =
      rw (other_is A, opposite_is A, count_is (plain w) A, count_is (plain w) (acbd A), count_is (plain w) (bcad A)) at (level_end (slot_level w K d A.d_lt) (ends (plain w) A))

  -- twice the corner count at a of the face abc
  pub twice_corner : {a b c d : ℕ} → Arranged a b c d → 2 * corner_from w a b c + count_between w b c ≡ count_between w a b + count_between w a c
  unfolding corner_from
  twice_corner A = omega (arith, level_corner (face_level A))

  -- the two corner counts of an edge make up its count
  pub two_corners : {a b c d : ℕ} → Arranged a b c d → corner_from w a b c + corner_from w b a c ≡ count_between w a b
  two_corners A = omega (arith, twice_corner A, twice_corner (bacd A), flip_count w A)

  pub twice_least : {a b c d : ℕ} → Arranged a b c d → 2 * least_corner w a + largest_pair w ≡ count_between w a b + count_between w a c + count_between w a d
  twice_least A = omega (arith, top_is w A, least_is w A, twice_corner A, twice_corner (abdc A), twice_corner (acdb A))

module _ (w : ℕ → ℕ) (K : is_level_cell w ≡ true) {a b c d : ℕ} (A : Arranged a b c d) where
  -- the edge ab: both its ends' corner triangles fit, and twice what they leave
  pub fits : least_corner w a + least_corner w b ≤ count_between w a b
  fits = omega (arith, twice_least w K A, twice_least w K (badc A), ways w A, pairs w A)

  pub twice_left : 2 * left_between w a b + (pair_sum w a c b d + pair_sum w a d b c) ≡ 2 * largest_pair w
  unfolding left_between
  twice_left = omega (arith, twice_least w K A, twice_least w K (badc A), ways w A, pairs w A)

  -- the corner count at a of the face abc, beyond the corner triangles
  pub corner_beyond : 2 * corner_from w a b c + pair_sum w a d b c ≡ 2 * least_corner w a + largest_pair w
  corner_beyond = omega (arith, twice_corner w K A, twice_least w K A)

module _ (w : ℕ → ℕ) (K : is_level_cell w ≡ true) {a b c d : ℕ} (A : Arranged a b c d) where
  -- opposite edges keep the same, either way round
  pub left_opposite : left_between w a b ≡ left_between w c d
  left_opposite = omega (arith, twice_left w K A, twice_left w K (cdab A), ways w A)

  pub left_flip : left_between w a b ≡ left_between w b a
  left_flip = omega (arith, twice_left w K A, twice_left w K (badc A), ways w A)

-- what is left, with the pair of the largest sum
module _ (w : ℕ → ℕ) (K : is_level_cell w ≡ true) where
  pub longest_second : {a b c d : ℕ} → Longest w a b c d → Longest w b a d c
  longest_second L = record { all = badc L.all; sum = omega (arith, L.sum) }

  pub longest_swap : {a b c d : ℕ} → Longest w a b c d → Longest w a c b d
  longest_swap L = record { all = acbd L.all; sum = omega (arith, L.sum, ways w L.all) }

  pub left_sum : {a b c d : ℕ} → Longest w a b c d → left_between w a d ≡ left_between w a b + left_between w a c
  left_sum L = let A = L.all in omega (arith, L.sum, twice_left w K A, twice_left w K (acbd A), twice_left w K (adbc A), ways w A)

-- d1 and d2, of which the first is no smaller; they are the same at every node
module _ (w : ℕ → ℕ) where
  pub own : Numbers w (larger w) (smaller w)
  unfolding larger smaller median
  own = omega arith

  at_lowest : {b c d : ℕ} → Orders b c d → left_between w 0 d ≡ left_between w 0 b + left_between w 0 c → Numbers w (left_between w 0 b) (left_between w 0 c)
  unfolding larger smaller median
  at_lowest o123 h = omega arith
  at_lowest o132 h = omega arith
  at_lowest o213 h = omega arith
  at_lowest o231 h = omega arith
  at_lowest o312 h = omega arith
  at_lowest o321 h = omega arith

  module _ (K : is_level_cell w ≡ true) where
    first : {a b c d : ℕ} → Longest w a b c d → a ≡ 0 → Numbers w (left_between w a b) (left_between w a c)
    first L e = rw e (at_lowest (orders (rw e at L.all)) (rw e at (left_sum w K L)))

    pub numbers : {a b c d : ℕ} → Longest w a b c d → Numbers w (left_between w a b) (left_between w a c)
    numbers {a} {b} {c} {d} L =
        let A = L.all in
        ⊎_elim (λ (e : a ≡ 0). first L e)
        (⊎_elim (λ (e : b ≡ 0). rw (left_flip w K A, left_opposite w K (acbd A)) (first (longest_second w K L) e))
        (⊎_elim (λ (e : c ≡ 0). rw (left_opposite w K A, left_flip w K (acbd A)) (first (third L) e))
        (λ (e : d ≡ 0). rw (left_opposite w K A, left_flip w K (cdab A), left_opposite w K (acbd A), left_flip w K (bdac A)) (first (third (longest_second w K L)) e))))
        (lowest_of A)
      where
        third : {a b c d : ℕ} → Longest w a b c d → Longest w c d a b
        third L = longest_swap w K (longest_second w K (longest_swap w K L))
