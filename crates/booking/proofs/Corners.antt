-- The crossings that are in corner triangles, and the length of the loop of every dart.
use Prim.Native.Nat.{ℕ, ◌+◌, ◌*◌, ◌-◌, ◌/◌, ◌≤◌, ◌<◌}
use mathlib.Core.Path.{◌≡◌, sym, ◌∙◌}
use mathlib.Core.Logic.{⊎_elim}
use mathlib.Core.Bool.{Bool, true, false, ◌||◌}
use native.Mathlib.Omega.{arith}
use lib.Dec.{ltb, leb, eqb}
use borrow.Author.Tests.{ltb-true, ltb-false, leb-true, leb-false, lt-ltb, le-leb, eq-eqb, ne_eqb}
use Rattle.counting.specs.Pick.{pick}
use Rattle.counting.proofs.Bools.{or_cases, or_none, or_left, or_right}
use Rattle.slots.specs.Slots.{lo, hi}
use Rattle.slots.proofs.Slots.{first-slot}
use Rattle.counting.specs.Lists.{it}
use Rattle.walk.specs.Darts.{Loop, half, rev}
use Rattle.walk.proofs.Curve.{loop_length, loop_later}
use Rattle.walk.proofs.Once.{closed_in}
use Rattle.cell.specs.Cell.{Edges, crossings, edge, index, step}
use Rattle.cell.specs.Loop.{loop_size, dart}
use Rattle.cell.specs.claims.Nodes.{Arranged, kth_from, dart_at}
use Rattle.cell.specs.Nodes.{count_between}
use Rattle.cell.specs.Level.{is_level_cell}
use Rattle.cell.proofs.Nodes.{bacd, joining_ends, arranged, lo_is, hi_is}
use Rattle.cell.proofs.Turn.{dart_flip, crossing_flip, crossing-edge, crossing-index, crossing_is, dart_is}
use Rattle.cell.proofs.Lay.{lay}
use Rattle.cell.proofs.Mates.{slot_has, darts}
use Rattle.cell.proofs.Loops.{the_loop}
use Rattle.booking.specs.Booking.{least_corner}
use Rattle.booking.specs.claims.Booking.{other_length}
use Rattle.booking.specs.claims.Claims.{OnLoop, InCorner}
use Rattle.booking.proofs.Counts.{fits}
use Rattle.booking.proofs.Numbers.{not_three}
use Rattle.booking.proofs.Lengths.{corner_loop, left_loop}

module _ (w : Edges) where
  -- index t of edge k is in a corner triangle at its lower or its upper end; crossing x is
  abbrev pub corner_at : ℕ → ℕ → Bool
  corner_at k t = ltb t (least_corner w.count (lo k)) || leb (w.count k) (t + least_corner w.count (hi k))

  abbrev pub is_in : ℕ → Bool
  is_in x = corner_at (edge w x) (index w x)

module _ (w : Edges) (K : is_level_cell w.count ≡ true) where
  abbrev N : ℕ
  N = crossings w

  -- what the corner triangles take of an edge
  pub edge_fits : (k : ℕ) → k < 6 → least_corner w.count (lo k) + least_corner w.count (hi k) ≤ w.count k
  edge_fits k l = rw (joining_ends k l) at (fits w.count K (arranged l (first-slot k l)))

  -- the test is what the claims say
  pub corner-in : (x : ℕ) → x < N → is_in w x ≡ true → InCorner w x
  corner-in x l e =
      let kl = (lay w).edge_lt x l in
      let A = arranged kl (first-slot (edge w x) kl) in
      let j = joining_ends (edge w x) kl in
      let t : index w x < count_between w.count (lo (edge w x)) (hi (edge w x)) = rw j ((lay w).index_lt x l) in
      ⊎_elim
      (λ (h : ltb (index w x) (least_corner w.count (lo (edge w x))) ≡ true).
      record { a = _; b = _; c = _; d = _; all = A; k = index w x; below = ltb-true (index w x) (least_corner w.count (lo (edge w x))) h; is = crossing_is w x l })
      (λ (h : leb (w.count (edge w x)) (index w x + least_corner w.count (hi (edge w x))) ≡ true).
      record {
        a = _;
        b = _;
        c = _;
        d = _;
        all = bacd A;
        k = count_between w.count (lo (edge w x)) (hi (edge w x)) - 1 - index w x;
        below = rw j (omega (arith, (lay w).index_lt x l, leb-true (w.count (edge w x)) (index w x + least_corner w.count (hi (edge w x))) h));
        is = sym (crossing_flip w A (index w x) t) ∙ crossing_is w x l;
      })
      (or_cases (ltb (index w x) (least_corner w.count (lo (edge w x)))) (leb (w.count (edge w x)) (index w x + least_corner w.count (hi (edge w x)))) e)

  pub in_corner : (x : ℕ) → InCorner w x → is_in w x ≡ true
  unfolding kth_from
  in_corner x I = rw (← I.is, crossing-edge w A I.k l, crossing-index w A I.k l, lo_is A, hi_is A) (go (ltb I.a I.b))
    where
      A : Arranged I.a I.b I.c I.d
      A = I.all

      n : ℕ
      n = count_between w.count I.a I.b

      l : I.k < n
      l = omega (arith, I.below, fits w.count K A)

      go : (s : Bool) → (ltb (pick s I.k (n - 1 - I.k)) (least_corner w.count (pick s I.a I.b))
          || leb n (pick s I.k (n - 1 - I.k) + least_corner w.count (pick s I.b I.a))) ≡ true
      go true = or_left (ltb I.k (least_corner w.count I.a)) _ (lt-ltb I.k (least_corner w.count I.a) I.below)
      go false = or_right (ltb (n - 1 - I.k) _) (leb n (n - 1 - I.k + least_corner w.count I.a)) (le-leb n (n - 1 - I.k + least_corner w.count I.a) (omega (arith, l, I.below)))

  -- the loop of a dart of the crossing t of ab
  by_index : {a b c d : ℕ} → Arranged a b c d → (t : ℕ) → t < count_between w.count a b → (s : Bool)
      → (ltb t (least_corner w.count a) || leb (count_between w.count a b) (t + least_corner w.count b)) ≡ s → Loop (2 * N) (step w) (dart_at w a b d t) (pick s 3 (other_length w.count))
  by_index {a} {b} A t l true e =
      ⊎_elim
      (λ (h : ltb t (least_corner w.count a) ≡ true). corner_loop w K A t (ltb-true t (least_corner w.count a) h))
      (λ (h : leb (count_between w.count a b) (t + least_corner w.count b) ≡ true).
      rw (dart_flip w A t l) (corner_loop w K (bacd A) (count_between w.count a b - 1 - t) (omega (arith, leb-true (count_between w.count a b) (t + least_corner w.count b) h))))
      (or_cases (ltb t (least_corner w.count a)) (leb (count_between w.count a b) (t + least_corner w.count b)) e)
  by_index {a} {b} A t l false e =
      let (p, q) = or_none (ltb t (least_corner w.count a)) (leb (count_between w.count a b) (t + least_corner w.count b)) e in
      left_loop w K A t (ltb-false t (least_corner w.count a) p) (leb-false (count_between w.count a b) (t + least_corner w.count b) q)

  pub loop-of : (e : ℕ) → e < 2 * N → Loop (2 * N) (step w) e (pick (is_in w (e / 2)) 3 (other_length w.count))
  loop-of e l =
      let kl = (lay w).edge_lt (e / 2) (omega arith) in
      let j = joining_ends (edge w (e / 2)) kl in
      let t : index w (e / 2) < count_between w.count (lo (edge w (e / 2))) (hi (edge w (e / 2))) = rw j ((lay w).index_lt (e / 2) (omega arith)) in
      rw (← dart_is w e l) at (by_index (arranged kl (slot_has w e l)) (index w (e / 2)) t (is_in w (e / 2)) (rw j))

  -- the length of a loop that is listed, from any of its crossings
  module _ (p : ℕ) (l : p < N) (pos : 0 < loop_size w p) where
    abbrev L : Loop (2 * N) (step w) (2 * p) (loop_size w p)
    L = the_loop w p l pos

    size_at : (i : ℕ) → i ≤ loop_size w p → loop_size w p ≡ pick (is_in w (half (it (step w) i (2 * p)))) 3 (other_length w.count)
    size_at i h =
        loop_length (2 * N) N (step w) rev half (darts w) (loop_later (2 * N) N (step w) rev half (darts w) L i)
        (loop-of (it (step w) i (2 * p)) (L.live i h))

    pub size_is : loop_size w p ≡ pick (is_in w p) 3 (other_length w.count)
    unfolding it
    size_is = let h : 2 * p / 2 ≡ p = omega arith in rw h at (size_at 0 (omega arith))

    pub same_corner : (i : ℕ) → i ≤ loop_size w p → is_in w (half (it (step w) i (2 * p))) ≡ eqb (loop_size w p) 3
    same_corner i h = go (is_in w (half (it (step w) i (2 * p)))) (size_at i h)
      where
        go : (b : Bool) → loop_size w p ≡ pick b 3 (other_length w.count) → b ≡ eqb (loop_size w p) 3
        go true e = sym (eq-eqb (loop_size w p) 3 e)
        go false e = sym (ne_eqb (loop_size w p) 3 (λ f. not_three w.count (sym e ∙ f)))

  -- every crossing is on a loop, of length 3 exactly where it is in a corner triangle
  pub on_loop : (x : ℕ) → x < N → (p : ℕ) × OnLoop w x p
  unfolding loop_size dart
  on_loop x l =
      let h : 2 * x / 2 ≡ x = omega arith in
      let (p, lp, o) = closed_in N (step w) rev (darts w) (2 * x) _ (loop-of (2 * x) (omega arith)) in
      (p, record { start = lp; at = o.at; at_lt = o.at_lt; is = o.is ∙ h })

  module _ (x p : ℕ) (O : OnLoop w x p) where
    is_three : is_in w x ≡ eqb (loop_size w p) 3
    unfolding dart
    is_three = rw O.is at (same_corner p O.start (omega (arith, O.at_lt)) O.at (omega (arith, O.at_lt)))

    inside : x < N
    unfolding dart
    inside = let a = (the_loop w p O.start (omega (arith, O.at_lt))).live O.at (omega (arith, O.at_lt)) in omega (arith, O.is)

    pub in_three : InCorner w x → loop_size w p ≡ 3
    in_three I = borrow.Author.Tests.eqb-true (loop_size w p) 3 (sym is_three ∙ in_corner x I)

    pub three_in : loop_size w p ≡ 3 → InCorner w x
    three_in e = corner-in x inside (is_three ∙ eq-eqb (loop_size w p) 3 e)
