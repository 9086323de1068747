-- The booking from the sums of the counts of opposite edges.
use Rattle.std.specs.Prelude.{ℕ, ◌+◌, ◌*◌, ◌-◌, ◌/◌, ◌≤◌, max, ◌≡◌, List, [], ◌∷◌}
use Rattle.answer.specs.Answer.{result_of}
use Rattle.cell.specs.work.Limits.{most_sum}
use Rattle.booking.specs.declared.SplitSums.{SplitSums}
use Rattle.booking.specs.declared.Gain.{Gain}
use Rattle.booking.specs.declared.Fans.{Fans}
use Rattle.booking.specs.Figures.{figure_in, figure, splits, inner_crossings, beside_split}
use Rattle.booking.specs.claims.Figures.{end_number}
use Rattle.booking.specs.Booking.{beside}
use Rattle.booking.specs.claims.Booking.{splits_by, more_by, splits_in, more_in}

-- r has the figures of x and y
pub record AreFigures (x y : ℕ) (r : SplitSums) : Type 0 where
  pub splits_are : r.splits ≡ splits x y
  pub inner_are : r.inner ≡ inner_crossings x y
  pub triangles_are : r.triangles ≡ beside_split x y
  pub end_is : r.end ≡ end_number x y

-- d1 and d2 are at most so much where the counts have 16 bits, and a split adds at most so much to the triangles
abbrev pub most_number : ℕ
most_number = 65535

abbrev pub most_added : ℕ
most_added = 14 * most_number

-- a split cell has at most so many triangles beside its corner triangles
abbrev pub most_beside : ℕ
most_beside = 8 * (most_number * most_number)

-- how large the numbers of a count of fans are
abbrev pub FewFans : Fans → Type 0
FewFans f = (f.corners ≤ most_sum) × (f.d2 ≤ f.d1) × (f.d1 ≤ most_number)

-- r are the splits and what they add
pub record GainBy (x y : ℕ) (r : Gain) : Type 0 where
  pub splits_are : r.splits ≡ splits_by x y
  pub more_is : r.more ≡ more_by x y

pub record GainIn (w : ℕ → ℕ) (r : Gain) : Type 0 where
  pub splits_are : r.splits ≡ splits_in w
  pub more_is : r.more ≡ more_in w

-- r has these sums, with what is added at the end, where both numbers are x
pub record EndsAt (splits inner triangles x : ℕ) (r : SplitSums) : Type 0 where
  pub splits_are : r.splits ≡ splits
  pub inner_are : r.inner ≡ inner
  pub triangles_are : r.triangles ≡ triangles + 8 * x
  pub end_is : r.end ≡ x

-- The figures under way: x and y are what is left of p and q, with at most n splits, and what was added so far. Each figure of p and q is what was added
-- and that of x and y
pub record UnderWay (p q n x y splits inner triangles : ℕ) : Type 0 where
  pub splits_so : figure (λ n. 0) (λ x y. 1) p q ≡ splits + figure_in (λ n. 0) (λ x y. 1) n x y
  pub inner_so : figure (λ n. 0) (λ x y. 2 * (x + y)) p q ≡ inner + figure_in (λ n. 0) (λ x y. 2 * (x + y)) n x y
  pub triangles_so : figure (λ n. 8 * n) (λ x y. 4 * x + 10 * y) p q ≡ triangles + figure_in (λ n. 8 * n) (λ x y. 4 * x + 10 * y) n x y
  pub end_so : figure (λ n. n) (λ x y. 0) p q ≡ figure_in (λ n. n) (λ x y. 0) n x y
  pub x_few : x ≤ most_number
  pub y_few : y ≤ most_number
  pub steps : splits + n ≡ p + q
  pub inner_few : inner ≤ most_added * splits
  pub triangles_few : triangles ≤ most_added * splits

-- t, d1, d2 and the triangles, from the largest of the three sums, the one between and the least: t is what the others have above the largest, d1 and d2
-- are half of what it has above each
module _ (most mid least : ℕ) where
  unfoldable pub of_three : List ℕ
  of_three =
      result_of ((least + mid - most) ∷ ((most - least) / 2) ∷ ((most - mid) / 2) ∷ (least + mid - most + beside ((most - least) / 2) ((most - mid) / 2)) ∷ [])

  -- in this order, and the largest not above the other two
  pub record Three : Type 0 where
    pub low : least ≤ mid
    pub high : mid ≤ most
    pub fit : most ≤ least + mid
    pub few : most ≤ most_sum

module _ (x y z : ℕ) where
  abbrev pub largest : ℕ
  largest = max (max x y) z

  pub record Sums : Type 0 where
    pub fit : 2 * largest ≤ x + y + z
    pub few : largest ≤ most_sum
