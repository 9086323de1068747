-- Examples of bookings: of each cell its answer, and the number of its loops that are no corner triangles with their length.
use Rattle.std.specs.Prelude.{ℕ, ◌≡◌, List, [], ◌∷◌, map}
use Rattle.answer.specs.Answer.{result_of}
use Rattle.counting.specs.Pick.{pick}
use Rattle.counting.specs.Gcd.{gcd}
use Rattle.cell.specs.Level.{by_edge, is_level_cell}
use Rattle.booking.specs.Booking.{larger, smaller}
use Rattle.booking.specs.claims.Booking.{other_length}
use Rattle.booking.specs.Answer.{booking_answer}

pub record Example : Type 0 where
  pub counts : List ℕ
  pub answer : List ℕ
  pub others : ℕ
  pub length : ℕ

unfoldable pub of : (e01 e02 e03 e12 e13 e23 : ℕ) (answer : List ℕ) (others length : ℕ) → Example
of e01 e02 e03 e12 e13 e23 answer others length = record { counts = e01 ∷ e02 ∷ e03 ∷ e12 ∷ e13 ∷ e23 ∷ []; answer = answer; others = others; length = length }

-- t, d1, d2 and the triangles; or "walk it"
abbrev pub books : (t x y n : ℕ) → List ℕ
books t x y n = result_of (t ∷ x ∷ y ∷ n ∷ [])

abbrev pub walk_it : List ℕ
walk_it = result_of []

unfoldable pub examples : List Example
examples =
    -- nothing; a corner triangle at 0 and at 3; a corner at each node
    of 0 0 0 0 0 0 (books 0 0 0 0) 0 0
    ∷ of 1 1 1 0 0 0 (books 1 0 0 1) 0 0
    ∷ of 0 0 1 0 1 1 (books 1 0 0 1) 0 0
    ∷ of 2 2 2 2 2 2 (books 4 0 0 4) 0 0
    -- a quad that pairs 0 with 1, with 2, with 3
    ∷ of 0 1 1 1 1 0 (books 0 1 0 2) 1 4
    ∷ of 1 0 1 1 0 1 (books 0 1 0 2) 1 4
    ∷ of 1 1 0 0 1 1 (books 0 1 0 2) 1 4
    -- an octagon, with either pair of opposite edges the longest
    ∷ of 2 1 1 1 1 2 (books 0 1 1 8) 1 8
    ∷ of 1 2 1 1 2 1 (books 0 1 1 8) 1 8
    ∷ of 1 1 2 2 1 1 (books 0 1 1 8) 1 8
    -- spirals, with and without corner triangles: one, two, three and twenty loops; all but the first are split (02, W12)
    ∷ of 7 10 3 3 10 7 (books 0 7 3 40) 1 40
    ∷ of 11 9 8 6 9 15 (books 6 6 4 122) 2 20
    ∷ of 9 11 6 12 15 5 (books 6 6 4 122) 2 20
    ∷ of 13 8 18 17 9 10 (books 5 9 6 179) 3 20
    ∷ of 130 180 90 90 200 170 (books 100 100 40 2060) 20 28
    -- five quads and nine corner triangles
    ∷ of 4 12 9 10 7 5 (books 9 5 0 19) 5 4
    -- the highest counts: more corner triangles, and more in all, than 16 bits hold
    ∷ of 65534 65534 65534 65534 65534 65534 (books 131068 0 0 131068) 0 0
    ∷ of 65535 65533 65532 65532 65533 65535 (books 131060 3 2 131080) 1 20
    -- to be walked: an odd sum, a count above the other two
    ∷ of 1 0 0 0 0 0 walk_it 0 0
    ∷ of 1 1 1 1 1 1 walk_it 0 0
    ∷ of 2 0 0 0 0 0 walk_it 0 0
    ∷ of 65535 65535 65535 65535 65535 65535 walk_it 0 0
    ∷ []

-- how many loops other than triangles, and their length: 0 and 0 of a cell that is to be walked
abbrev others_of : (ℕ → ℕ) → List ℕ
others_of n = pick (is_level_cell n) (gcd (larger n) (smaller n) ∷ other_length n ∷ []) (0 ∷ 0 ∷ [])

abbrev pub ExamplesHold : Type 0
ExamplesHold =
    map (λ x. booking_answer (by_edge x.counts) ∷ others_of (by_edge x.counts) ∷ []) examples
    ≡ map (λ x. x.answer ∷ (x.others ∷ x.length ∷ []) ∷ []) examples
