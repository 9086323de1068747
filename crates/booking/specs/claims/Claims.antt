-- What is proved of the cells that are booked, for all counts and all first numbers.
use Rattle.std.specs.Prelude.{ℕ, ◌+◌, ◌*◌, ◌/◌, ◌≤◌, ◌<◌, ◌≡◌, ◌≢◌, true, not, Option, eqb, length}
use Rattle.counting.specs.Lists.{tally}
use Rattle.counting.specs.Gcd.{gcd}
use Rattle.walk.specs.Darts.{Loop, of_crossing}
use Rattle.walk.specs.claims.Claims.{flat}
use Rattle.cell.specs.declared.Cell.{Cell}
use Rattle.cell.specs.Cell.{Edges, crossings, step}
use Rattle.cell.specs.Of.{count_of}
use Rattle.cell.specs.Loop.{loop_size, dart, normal, leasts}
use Rattle.cell.specs.Triangles.{triangle_count, cell_triangles}
use Rattle.cell.specs.claims.Nodes.{Arranged, crossing_at, dart_at}
use Rattle.cell.specs.Nodes.{count_between, corner_from}
use Rattle.cell.specs.Level.{is_level_cell}
use Rattle.booking.specs.declared.Booking.{Booking}
use Rattle.booking.specs.Booking.{least_corner, corner_triangles, left_between, larger, smaller}
use Rattle.booking.specs.claims.Booking.{other_length, booked}
use Rattle.booking.specs.claims.Left.{largest_pair, pair_sum, Longest, Numbers, round_size, TwoSteps}
use Rattle.booking.specs.Answer.{booking_numbers}

-- the reading of the answer in numbers is one to one, so that the numbers determine the answer
abbrev pub OneToOne : Type 0
OneToOne = (j k : Option Booking) → booking_numbers j ≡ booking_numbers k → j ≡ k

module _ (w : Edges) where
  -- crossing x is on the loop from crossing p
  pub record OnLoop (x p : ℕ) : Type 0 where
    pub start : p < crossings w
    pub at : ℕ
    pub at_lt : at < loop_size w p
    pub is : dart w p at / 2 ≡ x

  -- crossing x is the k-th from the node at position a on its edge to b, with k below the least corner count at a
  pub record InCorner (x : ℕ) : Type 0 where
    pub a : ℕ
    pub b : ℕ
    pub c : ℕ
    pub d : ℕ
    pub all : Arranged a b c d
    pub k : ℕ
    pub below : k < least_corner w.count a
    pub is : crossing_at w a b k ≡ x

  -- a loop of another length than 3, from p
  pub record Other (p : ℕ) : Type 0 where
    pub start : p < crossings w
    pub some : 0 < loop_size w p
    pub no_three : loop_size w p ≢ 3

  -- The loops of a cell that is booked.
  pub record LoopLaws : Type 0 where
    -- every crossing is on a loop, and on one only; the loop has length 3 exactly where the crossing is in a corner triangle
    pub on : (x : ℕ) → x < crossings w → (p : ℕ) × OnLoop x p
    pub once : (x : ℕ) → x < crossings w → tally (of_crossing x) (flat (crossings w) (step w)) ≡ 1
    pub in_three : (x p : ℕ) → OnLoop x p → InCorner x → loop_size w p ≡ 3
    pub three_in : (x p : ℕ) → OnLoop x p → loop_size w p ≡ 3 → InCorner x
    -- t loops have length 3, all are normal
    pub threes : tally (λ p. eqb (loop_size w p) 3) (leasts w) ≡ corner_triangles w.count
    pub all_normal : (p : ℕ) → p < crossings w → normal w p ≡ true
    -- gcd d1 d2 others, each of length 4 * (d1 + d2) / gcd d1 d2
    pub others : tally (λ p. not (eqb (loop_size w p) 3)) (leasts w) ≡ gcd (larger w.count) (smaller w.count)
    pub other-length : (p : ℕ) → Other p → loop_size w p ≡ 4 * (larger w.count + smaller w.count) / gcd (larger w.count) (smaller w.count)
    -- with d2 = 0 these are d1 of length 4, else their length is 8 or more
    pub quads : smaller w.count ≡ 0 → tally (λ p. not (eqb (loop_size w p) 3)) (leasts w) ≡ larger w.count
    pub quad : smaller w.count ≡ 0 → (p : ℕ) → Other p → loop_size w p ≡ 4
    pub longer : 0 < smaller w.count → (p : ℕ) → Other p → 8 ≤ loop_size w p
    -- their triangles together are those booked
    pub triangles : triangle_count w ≡ booked w.count

-- Corner counts and what is left, in closed form, for any order a b c d of the positions.
pub record CountLaws (w : ℕ → ℕ) (a b c d : ℕ) : Type 0 where
  -- the corner count is half of what the counts at a have above the pair ad, bc; the least is half of what they have above the largest pair
  pub corner : 2 * corner_from w a b c + pair_sum w a d b c ≡ count_between w a b + count_between w a c + count_between w a d
  pub least_is : 2 * least_corner w a + largest_pair w ≡ count_between w a b + count_between w a c + count_between w a d
  -- the corner triangles at both ends of an edge fit, and opposite edges keep the same
  pub fit : least_corner w a + least_corner w b ≤ count_between w a b
  pub opposite : left_between w a b ≡ left_between w c d
  -- the pair with the largest sum keeps x + y, the others x and y, which are d1 and d2
  pub sum : Longest w a b c d → left_between w a d ≡ left_between w a b + left_between w a c
  pub numbers : Longest w a b c d → Numbers w (left_between w a b) (left_between w a c)

-- The steps, for any order a b c d of the positions.
pub record StepLaws (w : Edges) (a b c d : ℕ) : Type 0 where
  -- a step round a corner: from the k-th crossing from a on ab, by the face abc, to the k-th on ac
  pub turn : (k : ℕ) → k < corner_from w.count a b c → step w (dart_at w a b d k) ≡ dart_at w a c b k
  -- the k-th crossings from a, below the least corner count, close up by threes
  pub three : (k : ℕ) → k < least_corner w.count a → Loop (2 * crossings w) (step w) (dart_at w a b d k) 3
  -- what is left: two steps are x places on from round to round, and every loop has the one length
  pub two : Longest w.count a b c d → (q : ℕ) → q < round_size w a b c → TwoSteps w a b c d q
  pub other : (k : ℕ) → least_corner w.count a ≤ k → k + least_corner w.count b < count_between w.count a b
      → Loop (2 * crossings w) (step w) (dart_at w a b d k) (other_length w.count)

-- all laws of a cell that is booked
pub record BookingLaws (w : Edges) : Type 0 where
  pub counts : (a b c d : ℕ) → Arranged a b c d → CountLaws w.count a b c d
  pub steps : (a b c d : ℕ) → Arranged a b c d → StepLaws w a b c d
  pub goes : (d : ℕ) → d < 2 * crossings w → step w d < 2 * crossings w
  pub loops : LoopLaws w

abbrev pub Books : Type 0
Books = (w : Edges) → is_level_cell w.count ≡ true → BookingLaws w

-- the triangles of such a cell are those booked
abbrev pub TrianglesBooked : Type 0
TrianglesBooked = (c : Cell) → is_level_cell (count_of c) ≡ true → length (cell_triangles c) ≡ booked (count_of c)
