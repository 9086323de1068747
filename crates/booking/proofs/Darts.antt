-- The darts that the corner triangles leave. Let ad and bc be the pair of opposite edges with the largest sum: they keep x + y crossings each, ab and
-- cd keep x, ac and bd keep y. The darts of ad make a round of 2 * (x + y), and so do those of bc; two steps lead from the one to the other and x on.
use Prim.Native.Nat.{ℕ, ◌+◌, ◌*◌, ◌-◌, ◌/◌, ◌≤◌, ◌<◌}
use mathlib.Core.Path.{◌≡◌, sym, ap, ◌∙◌}
use mathlib.Core.Logic.{◌⊎◌, inl, inr, ◌≢◌, ⊎_elim}
use mathlib.Core.Bool.{true}
use native.Mathlib.Omega.{arith}
use native.Mathlib.Decide.{dec_lt}
use native.Mathlib.Nat.{mod-eq_of_lt, mod-eq-sub-mod}
use borrow.Author.Tests.{lt-ltb, le-ltb}
use Rattle.cell.specs.Cell.{Edges, crossings, edge, slot, step}
use Rattle.cell.specs.claims.Nodes.{Arranged, dart_at}
use Rattle.cell.specs.Nodes.{joining, count_between, corner_from}
use Rattle.cell.specs.Level.{is_level_cell}
use Rattle.cell.proofs.Nodes.{dcab, acdb, acbd, adbc, adcb, bcad, cabd, cbad, cbda, cdab, cdba, dacb, dcba, both_ways, beside_edge}
use Rattle.cell.proofs.Turn.{dart_flip, turn, dart_lt, dart_edge, dart_slot}
use Rattle.booking.specs.Booking.{least_corner, left_between}
use Rattle.booking.specs.claims.Left.{further, largest_pair, Longest, left_dart, round_dart, TwoSteps}
use Rattle.booking.proofs.Counts.{ways, fits, twice_left, corner_beyond, left_opposite, left_flip, longest_swap, left_sum}

module _ (w : Edges) (a b c d q : ℕ) where
  pub round_up : q < left_between w.count a b + left_between w.count a c → round_dart w a b c d q ≡ left_dart w a d b q
  unfolding round_dart
  round_up h = rw (lt-ltb q (left_between w.count a b + left_between w.count a c) h)

  pub round_down : left_between w.count a b + left_between w.count a c ≤ q → round_dart w a b c d q ≡ left_dart w a d c (2 * (left_between w.count a b + left_between w.count a c) - 1 - q)
  unfolding round_dart
  round_down h = rw (le-ltb q (left_between w.count a b + left_between w.count a c) h)

module _ (n x q : ℕ) where
  further_on : q + x < n → further n x q ≡ q + x
  unfolding further
  further_on h = mod-eq_of_lt h

  further_back : n ≤ q + x → q + x - n < n → further n x q ≡ q + x - n
  unfolding further
  further_back h l = mod-eq-sub-mod h ∙ mod-eq_of_lt l

-- a place from either end of bc
from_ends : (x y p : ℕ) → x ≤ p → p < x + y → x + y - 1 - (y + x - 1 - (p - x)) ≡ p - x
from_ends x y p h l = omega arith

module _ (w : Edges) (K : is_level_cell w.count ≡ true) where
  module _ {a b c d : ℕ} (A : Arranged a b c d) where
    left_back : (r : ℕ) → r < left_between w.count a b → left_dart w a b d r ≡ left_dart w b a d (left_between w.count a b - 1 - r)
    unfolding left_dart left_between
    left_back r l =
        let F = fits w.count K A in
        let e : count_between w.count a b - 1 - (least_corner w.count a + r) ≡ least_corner w.count b + (count_between w.count a b - least_corner w.count a - least_corner w.count b - 1 - r) = omega arith in
        dart_flip w A (least_corner w.count a + r) (omega arith) ∙ ap (dart_at w b a d) e

    -- what is read from such a dart
    module _ (r : ℕ) (l : r < left_between w.count a b) where
      pub room : least_corner w.count a + r < count_between w.count a b
      unfolding left_between
      room = omega (arith, fits w.count K A, l)

      pub left_lt : left_dart w a b d r < 2 * crossings w
      unfolding left_dart
      left_lt = dart_lt w A (least_corner w.count a + r) room

      pub left_edge : edge w (left_dart w a b d r / 2) ≡ joining a b
      unfolding left_dart
      left_edge = dart_edge w A (least_corner w.count a + r) room

      pub left_slot : slot w (left_dart w a b d r) ≡ d
      unfolding left_dart
      left_slot = dart_slot w A (least_corner w.count a + r) room

    left_turn : (r : ℕ) → least_corner w.count a + r < corner_from w.count a b c → step w (left_dart w a b d r) ≡ left_dart w a c b r
    unfolding left_dart
    left_turn r l = turn w A (least_corner w.count a + r) l

  module _ {a b c d : ℕ} (L : Longest w.count a b c d) where
    abbrev A : Arranged a b c d
    A = L.all

    abbrev x : ℕ
    x = left_between w.count a b

    abbrev y : ℕ
    y = left_between w.count a c

    -- what is left of the pair, and the corner counts at its ends
    sum : left_between w.count a d ≡ x + y
    sum = left_sum w.count K L

    twice_x : 2 * x + (count_between w.count a c + count_between w.count b d) ≡ largest_pair w.count
    twice_x = omega (arith, L.sum, twice_left w.count K A)

    twice_y : 2 * y + (count_between w.count a b + count_between w.count c d) ≡ largest_pair w.count
    twice_y = omega (arith, L.sum, twice_left w.count K (acbd A), ways w.count A)

    corner_adc : corner_from w.count a d c ≡ least_corner w.count a + y
    corner_adc = let B = adcb A in omega (arith, corner_beyond w.count K B, twice_y, ways w.count A)

    corner_cab : corner_from w.count c a b ≡ least_corner w.count c + y
    corner_cab = let B = cabd A in omega (arith, corner_beyond w.count K B, twice_y, ways w.count A)

    corner_dac : corner_from w.count d a c ≡ least_corner w.count d + x
    corner_dac = let B = dacb A in omega (arith, corner_beyond w.count K B, twice_x, ways w.count A)

    corner_cdb : corner_from w.count c d b ≡ least_corner w.count c + x
    corner_cdb = let B = cdba A in omega (arith, corner_beyond w.count K B, twice_x, ways w.count A)

    left_cb : left_between w.count c b ≡ x + y
    left_cb = let B = adbc A in let C = bcad A in omega (arith, sum, left_opposite w.count K B, left_flip w.count K C)

    left_dc : left_between w.count d c ≡ x
    left_dc = let C = cdab A in omega (arith, left_opposite w.count K A, left_flip w.count K C)

    -- from the other end of bc
    flip_a : (r : ℕ) → r < x + y → left_dart w c b a r ≡ left_dart w b c a (x + y - 1 - r)
    flip_a r l = left_back (cbda A) r (omega (arith, left_cb)) ∙ ap (λ m. left_dart w b c a (m - 1 - r)) left_cb

    flip_d : (r : ℕ) → r < x + y → left_dart w c b d r ≡ left_dart w b c d (x + y - 1 - r)
    flip_d r l = left_back (cbad A) r (omega (arith, left_cb)) ∙ ap (λ m. left_dart w b c d (m - 1 - r)) left_cb

    -- from p on ad, by the face acd: below y round a to ac, else round d to dc
    low_first : (p : ℕ) → p < y → step w (left_dart w a d b p) ≡ left_dart w a c d p
    low_first p l = left_turn (adcb A) p (omega (arith, corner_adc))

    high_first : (p : ℕ) → y ≤ p → p < x + y → step w (left_dart w a d b p) ≡ left_dart w d c a (x + y - 1 - p)
    high_first p h l =
        let B = adcb A in
        let C = dacb A in
        ap (step w) (left_back B p (omega (arith, sum)) ∙ ap (λ n. left_dart w d a b (n - 1 - p)) sum)
        ∙ left_turn C (x + y - 1 - p) (omega (arith, corner_dac))

    -- and on to bc
    low_second : (p : ℕ) → p < y → step w (left_dart w a c d p) ≡ left_dart w b c a (x + p)
    low_second p l =
        let B = acbd A in
        let C = cabd A in
        let e : x + y - 1 - (y - 1 - p) ≡ x + p = omega arith in
        ap (step w) (left_back B p l)
        ∙ left_turn C (y - 1 - p) (omega (arith, corner_cab))
        ∙ flip_a (y - 1 - p) (omega arith)
        ∙ ap (left_dart w b c a) e

    high_second : (p : ℕ) → y ≤ p → p < x + y → step w (left_dart w d c a (x + y - 1 - p)) ≡ left_dart w b c d (x + y - 1 - (p - y))
    high_second p h l =
        let B = dcba A in
        let C = cdba A in
        let e : x - 1 - (x + y - 1 - p) ≡ p - y = omega arith in
        ap (step w) (left_back B (x + y - 1 - p) (omega (arith, left_dc)) ∙ ap (λ n. left_dart w c d a (n - 1 - (x + y - 1 - p))) left_dc ∙ ap (left_dart w c d a) e)
        ∙ left_turn C (p - y) (omega (arith, corner_cdb))
        ∙ flip_d (p - y) (omega arith)

    -- the crossing between, which is on neither
    record Over (p : ℕ) : Type 0 where
      mid : ℕ
      is : step w (left_dart w a d b p) ≡ mid
      away : edge w (mid / 2) ≢ joining a d
      apart : edge w (mid / 2) ≢ joining b c
      then : ((p < y) × (step w mid ≡ left_dart w b c a (x + p))) ⊎ ((y ≤ p) × (step w mid ≡ left_dart w b c d (x + y - 1 - (p - y))))

    over : (p : ℕ) → p < x + y → Over p
    over p l =
        elim (dec_lt p y) [
          | yes h ↦
              let e = left_edge (acbd A) p h in
              record {
                mid = left_dart w a c d p;
                is = low_first p h;
                away = λ f. beside_edge (acdb A) (sym e ∙ f);
                apart = λ f. beside_edge (cabd A) (sym (both_ways (acbd A)) ∙ sym e ∙ f ∙ both_ways (bcad A));
                then = inl (h, low_second p h);
              }
          | no h ↦
              let e = left_edge (dcba A) (x + y - 1 - p) (omega (arith, left_dc)) in
              record {
                mid = left_dart w d c a (x + y - 1 - p);
                is = high_first p (omega arith) l;
                away = λ f. beside_edge (dcab A) (sym e ∙ f ∙ both_ways (adcb A));
                apart = λ f. beside_edge (cdba A) (sym (both_ways (dcba A)) ∙ sym e ∙ f ∙ both_ways (bcad A));
                then = inr (omega arith, high_second p (omega arith) l);
              }
        ]

    pub left_ba : left_between w.count b a ≡ x
    left_ba = sym (left_flip w.count K A)

    pub left_bd : left_between w.count b d ≡ y
    left_bd = sym (left_opposite w.count K (acbd A))

    abbrev n : ℕ
    n = 2 * (x + y)

    -- the round of bc has the same places
    second_up : (q : ℕ) → q < x + y → round_dart w b a d c q ≡ left_dart w b c a q
    second_up q h = round_up w b a d c q (omega (arith, left_ba, left_bd))

    second_down : (q : ℕ) → x + y ≤ q → round_dart w b a d c q ≡ left_dart w b c d (n - 1 - q)
    second_down q h =
        let e : left_between w.count b a + left_between w.count b d ≡ x + y = omega (arith, left_ba, left_bd) in
        round_down w b a d c q (omega arith) ∙ ap (λ m. left_dart w b c d (2 * m - 1 - q)) e

  module _ {a b c d : ℕ} (L : Longest w.count a b c d) where
    two_up : (q : ℕ) → q < x L + y L → Over L q → TwoSteps w a b c d q
    two_up q h O = record {
      away = λ e. O.away (rw (round_up w a b c d q h, O.is) at e);
      apart = λ e. O.apart (rw (round_up w a b c d q h, O.is) at e);
      to = rw (round_up w a b c d q h, O.is) (⊎_elim
          (λ (t : (q < y L) × (step w O.mid ≡ left_dart w b c a (x L + q))).
          t.1 ∙ sym (rw (further_on (n L) (x L) q (omega arith)) (second_up L (q + x L) (omega arith) ∙ ap (left_dart w b c a) (omega arith))))
          (λ (t : (y L ≤ q) × (step w O.mid ≡ left_dart w b c d (x L + y L - 1 - (q - y L)))).
          t.1 ∙ sym (rw (further_on (n L) (x L) q (omega arith)) (second_down L (q + x L) (omega arith) ∙ ap (left_dart w b c d) (omega arith))))
          O.then);
    }

    two_down : (q : ℕ) → x L + y L ≤ q → q < n L → Over (longest_swap w.count K L) (n L - 1 - q) → TwoSteps w a b c d q
    two_down q h l O = record {
      away = λ e. O.away (rw (round_down w a b c d q h, O.is) at e);
      apart = λ e. O.apart (rw (round_down w a b c d q h, O.is) at e ∙ both_ways (bcad L.all));
      to = rw (round_down w a b c d q h, O.is) (⊎_elim
          (λ (t : (n L - 1 - q < x L) × (step w O.mid ≡ left_dart w c b a (y L + (n L - 1 - q)))).
          t.1 ∙ flip_a L (y L + (n L - 1 - q)) (omega arith)
          ∙ sym (rw (further_back (n L) (x L) q (omega arith) (omega arith)) (second_up L (q + x L - n L) (omega arith) ∙ ap (left_dart w b c a) (omega arith))))
          (λ (t : (x L ≤ n L - 1 - q) × (step w O.mid ≡ left_dart w c b d (y L + x L - 1 - (n L - 1 - q - x L)))).
          t.1 ∙ flip_d L (y L + x L - 1 - (n L - 1 - q - x L)) (omega arith)
          ∙ sym (rw (further_on (n L) (x L) q (omega arith)) (second_down L (q + x L) (omega arith)
          ∙ ap (left_dart w b c d) (drop (n L) q (x L) ∙ sym (from_ends (x L) (y L) (n L - 1 - q) t.0 (omega arith))))))
          O.then);
    }
      where
        drop : (n q x : ℕ) → n - 1 - (q + x) ≡ n - 1 - q - x
        drop n q x = omega arith

    pub two_steps : (q : ℕ) → q < n L → TwoSteps w a b c d q
    two_steps q l =
        elim (dec_lt q (x L + y L)) [
          | yes h ↦ two_up q h (over L q h)
          | no h ↦ two_down q (omega arith) l (over (longest_swap w.count K L) (n L - 1 - q) (omega arith))
        ]
