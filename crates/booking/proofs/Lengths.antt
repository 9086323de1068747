-- The length of every loop: three round a corner, and 4 * (d1 + d2) / gcd d1 d2 elsewhere.
use Prim.Native.Nat.{ℕ, zero, suc, ◌+◌, ◌*◌, ◌-◌, ◌/◌, ◌≤◌, ◌<◌}
use mathlib.Core.Path.{◌≡◌, sym, ap, ◌∙◌}
use mathlib.Core.Logic.{◌≢◌, ⊎_elim}
use mathlib.Core.Bool.{true}
use native.Mathlib.Omega.{arith}
use native.Mathlib.Decide.{dec_lt}
use Rattle.counting.proofs.Gcd.{order}
use Rattle.counting.specs.Lists.{it}
use Rattle.walk.specs.Darts.{Loop, half, rev}
use Rattle.walk.proofs.Curve.{all_close, loop_length, loop_next}
use Rattle.cell.specs.Cell.{Edges, crossings, edge, step}
use Rattle.cell.specs.claims.Nodes.{Arranged, dart_at}
use Rattle.cell.specs.Nodes.{count_between, corner_from}
use Rattle.cell.specs.Level.{is_level_cell}
use Rattle.cell.proofs.Nodes.{abdc, acbd, acdb, adbc, bacd, cabd, beside_edge}
use Rattle.cell.proofs.Turn.{corner_flip, dart_flip, turn, dart_lt, dart_edge}
use Rattle.cell.proofs.Mates.{darts}
use Rattle.booking.specs.Booking.{least_corner, left_between}
use Rattle.booking.specs.claims.Booking.{other_length}
use Rattle.booking.specs.claims.Left.{pair_sum, largest_pair, left_dart, round_dart, Longest}
use Rattle.booking.proofs.Counts.{least_is, two_corners, top_cases, corner_beyond, left_sum, numbers}
use Rattle.booking.proofs.Numbers.{four_orders}
use Rattle.booking.proofs.Darts.{round_up, round_down}
use Rattle.booking.proofs.Closed.{goes, lives}
use Rattle.booking.proofs.Spiral.{round_loop}

module _ (w : Edges) (K : is_level_cell w.count ≡ true) where
  abbrev M : ℕ
  M = 2 * crossings w

  least_le : {a b c d : ℕ} → Arranged a b c d → least_corner w.count a ≤ corner_from w.count a b c
  least_le A = omega (arith, least_is w.count A)

  -- round a corner
  one_on : {a b c d : ℕ} → Arranged a b c d → (k : ℕ) → k < least_corner w.count a → step w (dart_at w a b d k) ≡ dart_at w a c b k
  one_on A k h = turn w A k (omega (arith, least_le A))

  module _ {a b c d : ℕ} (A : Arranged a b c d) (k : ℕ) (h : k < least_corner w.count a) where
    abbrev e0 : ℕ
    e0 = dart_at w a b d k

    fits_ab : k < count_between w.count a b
    fits_ab = omega (arith, least_le A, two_corners w.count K A)

    fits_ac : k < count_between w.count a c
    fits_ac = omega (arith, least_le (acbd A), two_corners w.count K (acbd A))

    fits_ad : k < count_between w.count a d
    fits_ad = omega (arith, least_le (adbc A), two_corners w.count K (adbc A))

    home : it (step w) 3 e0 ≡ e0
    unfolding it
    home = rw (one_on A k h, one_on (acdb A) k h) (one_on (acdb (acdb A)) k h)

    pub corner_loop : Loop M (step w) e0 3
    unfolding it
    corner_loop = record {
      pos = omega arith;
      live = λ i g. lives w K i e0 (dart_lt w A k fits_ab);
      home = home;
      first = first;
    }
      where
        first : (i : ℕ) → 0 < i → i < 3 → it (step w) i e0 ≢ e0
        first zero z g e = omega arith
        first (suc zero) z g e =
            beside_edge A (sym (dart_edge w A k fits_ab) ∙ sym (ap (λ m. edge w (m / 2)) (sym (one_on A k h) ∙ e)) ∙ dart_edge w (acdb A) k fits_ac)
        first (suc (suc zero)) z g e =
            beside_edge (abdc A)
            (sym (dart_edge w A k fits_ab) ∙ sym (ap (λ m. edge w (m / 2)) (sym (ap (step w) (one_on A k h) ∙ one_on (acdb A) k h) ∙ e)) ∙ dart_edge w (adbc A) k fits_ad)
        first (suc (suc (suc i))) z g e = omega arith

  -- a dart of the round, and one that leads to it
  round_long : {a b c d : ℕ} → (L : Longest w.count a b c d) (q : ℕ) → q < 2 * (left_between w.count a b + left_between w.count a c) → Loop M (step w) (round_dart w a b c d q) (other_length w.count)
  round_long {a} {b} {c} L q l =
      let p : 0 < left_between w.count a b + left_between w.count a c = omega arith in
      let (o, O) = order (left_between w.count a b) (left_between w.count a b + left_between w.count a c) p in
      rw (four_orders w.count (left_between w.count a b) (left_between w.count a c) o (numbers w.count K L) O p) (round_loop w K L o O q l)

  before : (e l : ℕ) → e < M → Loop M (step w) (step w e) l → Loop M (step w) e l
  before e l h L =
      let (k, _, C) = all_close M (crossings w) (step w) rev half (darts w) (goes w K) e h in
      rw (loop_length M (crossings w) (step w) rev half (darts w) (loop_next M (crossings w) (step w) rev half (darts w) C) L) at C

  module _ {a b c d : ℕ} (A : Arranged a b c d) (k : ℕ) (h : least_corner w.count a ≤ k) (l : k < corner_from w.count a b c) where
    abbrev r : ℕ
    r = k - least_corner w.count a

    in_left : (b d : ℕ) → left_dart w a b d r ≡ dart_at w a b d k
    unfolding left_dart
    in_left b d = ap (dart_at w a b d) (omega arith)

    r_ab : r < left_between w.count a b
    unfolding left_between
    r_ab = omega (arith, two_corners w.count K A, least_le (bacd A))

    r_ac : r < left_between w.count a c
    unfolding left_between
    r_ac = omega (arith, two_corners w.count K (acbd A), least_le (cabd A), corner_flip w.count A)

    -- on the pair of the largest sum, or a step before it
    on_long : (L : Longest w.count a c d b) → Loop M (step w) (dart_at w a b d k) (other_length w.count)
    on_long L =
        let S = left_sum w.count K L in
        let R = r_ab in
        let e = back n r (omega arith) in
        rw (round_down w a c d b (n - 1 - r) (omega arith) ∙ ap (left_dart w a b d) e ∙ in_left b d) at (round_long L (n - 1 - r) (omega arith))
      where
        n : ℕ
        n = 2 * (left_between w.count a c + left_between w.count a d)

        back : (n r : ℕ) → r < n → n - 1 - (n - 1 - r) ≡ r
        back n r l = omega arith

    to_long : (L : Longest w.count a b d c) → Loop M (step w) (dart_at w a b d k) (other_length w.count)
    to_long L =
        let S = left_sum w.count K L in
        let R = r_ac in
        let f = round_up w a b d c r (omega arith) ∙ in_left c b ∙ sym (turn w A k l) in
        before (dart_at w a b d k) (other_length w.count) (dart_lt w A k (omega (arith, two_corners w.count K A))) (rw f at (round_long L r (omega arith)))

    long_loop : Loop M (step w) (dart_at w a b d k) (other_length w.count)
    long_loop =
        ⊎_elim
        (λ (t : pair_sum w.count a b c d ≡ largest_pair w.count). on_long (record { all = acdb A; sum = t }))
        (⊎_elim
        (λ (t : pair_sum w.count a c b d ≡ largest_pair w.count). to_long (record { all = abdc A; sum = t }))
        (λ (t : pair_sum w.count a d b c ≡ largest_pair w.count). absurd (omega (arith, corner_beyond w.count K A))))
        (top_cases w.count A)

  -- a crossing that is left, counted from the end where it is below the corner count
  pub left_loop : {a b c d : ℕ} → Arranged a b c d → (k : ℕ) → least_corner w.count a ≤ k → k + least_corner w.count b < count_between w.count a b → Loop M (step w) (dart_at w a b d k) (other_length w.count)
  left_loop {a} {b} {c} A k h l =
      let T = two_corners w.count K A in
      elim (dec_lt k (corner_from w.count a b c)) [
        | yes g ↦ long_loop A k h g
        | no g ↦ rw (dart_flip w A k (omega arith)) (long_loop (bacd A) (count_between w.count a b - 1 - k) (omega arith) (omega arith))
      ]
