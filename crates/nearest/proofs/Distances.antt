-- Squared distances of points whose numbers are within the limit.
use Prim.Native.Nat.{ℕ, ◌+◌, ◌*◌, ◌<◌}
use mathlib.Core.Path.{◌≡◌, refl, ap, ◌∙◌}
use mathlib.Core.Logic.{⊎_elim}
use mathlib.Core.Bool.{true, false, not}
use mathlib.Core.List.{List}
use native.Mathlib.Omega.{arith}
use lib.Dec.{lit≤}
use lib.ListN.{length, get_or}
use lib.Ieee.{Float, nan, inf, fin, binary64, add, sub, fits, is_nan, le}
use lib.Ieee.Bits.{is_true}
use lib.Ieee.Fits.{add-fits}
use Rattle.counting.proofs.Bools.{and_true, holds_or}
use Rattle.place.specs.declared.Place.{Place}
use Rattle.place.specs.Place.{float_of, farthest, within, coordinates, numbers, place_at}
use Rattle.place.proofs.Numbers.{number_loaded}
use Rattle.nearest.specs.Distance.{square, squared_distance, point_count, distance_of}
use Rattle.nearest.specs.Answer.{has_bits}
use Rattle.nearest.specs.claims.Fault.{listed, asked, Faultless}
use Rattle.nearest.specs.claims.Claims.{greatest_distance}
use Rattle.nearest.proofs.Sizes.{Most, within_bounded, sub_most, square_most, add_most, most_between}
use Rattle.nearest.proofs.Order.{Counted}

-- every number of a point is within the limit
abbrev pub AllWithin : Place → Type 0
AllWithin p = (t : ℕ) → t < coordinates → within (get_or (numbers p) t nan) ≡ true

-- no difference of two such numbers is farther from 0
abbrev farthest_apart : ℕ
farthest_apart = farthest + farthest

square_size : (p q : Float) → within p ≡ true → within q ≡ true → Most false (farthest_apart * farthest_apart) (square p q)
unfolding square
square_size p q P Q = square_most farthest_apart (lit≤ tt) (sub binary64 p q) (sub_most farthest farthest (lit≤ tt) p q (within_bounded p P) (within_bounded q Q))

pub distance_size : (p q : Place) → AllWithin p → AllWithin q → Most false greatest_distance (squared_distance p q)
unfolding squared_distance
distance_size p q P Q =
    let s = farthest_apart * farthest_apart in
    let x = square_size p.x q.x (P 0 (omega arith)) (Q 0 (omega arith)) in
    let y = square_size p.y q.y (P 1 (omega arith)) (Q 1 (omega arith)) in
    let z = square_size p.z q.z (P 2 (omega arith)) (Q 2 (omega arith)) in
    add_most (s + s) s (lit≤ tt) (add binary64 (square p.x q.x) (square p.y q.y)) (square p.z q.z)
    (add_most s s (lit≤ tt) (square p.x q.x) (square p.y q.y) x y) z

-- what follows from a size
size_counted : (N : ℕ) (x : Float) → Most false N x → Counted x
size_counted N nan M = M
size_counted N (inf s) M = M
size_counted N (fin s m e) M = M.0

size_number : (N : ℕ) (x : Float) → Most false N x → not (is_nan x) ≡ true
unfolding is_nan
size_number N nan M = absurd M
size_number N (inf s) M = absurd M
size_number N (fin s m e) M = refl

distance_fits : (p q : Place) → fits binary64 (squared_distance p q) ≡ true
unfolding squared_distance
distance_fits p q = is_true _ (add-fits binary64 (add binary64 (square p.x q.x) (square p.y q.y)) (square p.z q.z))

-- the points of a list without a fault
module _ (points : List Float) (query : Place) (F : Faultless points query) where
  within_listed : (i : ℕ) → i < length points → within (get_or points i nan) ≡ true
  within_listed i l = ⊎_elim (λ e. e) (λ e. absurd (F i (listed l e))) (holds_or (within (get_or points i nan)))

  pub list_within : (k : ℕ) → k < point_count points → AllWithin (place_at points k)
  list_within k l t h = ap within (number_loaded points k t h) ∙ within_listed (coordinates * k + t) (omega arith)

  pub query_within : AllWithin query
  query_within t h = ⊎_elim (λ e. e) (λ e. absurd (F (length points + t) (asked t h refl e))) (holds_or (within (get_or (numbers query) t nan)))

  module _ (k : ℕ) (l : k < point_count points) where
    size : Most false greatest_distance (distance_of points query k)
    unfolding distance_of
    size = distance_size (place_at points k) query (list_within k l) query_within

    pub counted : Counted (distance_of points query k)
    counted = size_counted greatest_distance (distance_of points query k) size

    pub distance_between : (le (float_of 0) (distance_of points query k) ≡ true) × (le (distance_of points query k) (float_of greatest_distance) ≡ true)
    distance_between = most_between greatest_distance (lit≤ tt) (distance_of points query k) size

    pub has-bits : has_bits (distance_of points query k) ≡ true
    unfolding distance_of
    has-bits = and_true (fits binary64 (distance_of points query k)) (not (is_nan (distance_of points query k))) (distance_fits (place_at points k) query) (size_number greatest_distance (distance_of points query k) size)
