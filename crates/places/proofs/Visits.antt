-- A loop of length 8 in a nest comes to E twice: at the numbers r and 2 * m - 1 - r of those that remain, from E's lower node.
use Prim.Native.Nat.{ℕ, suc, ◌+◌, ◌*◌, ◌-◌, ◌/◌, ◌≤◌, ◌<◌}
use mathlib.Core.Path.{◌≡◌, sym, ap, ◌∙◌}
use mathlib.Core.Logic.{◌⊎◌, inl, inr, ⊎_elim, ◌≢◌}
use mathlib.Core.Bool.{true}
use native.Mathlib.Omega.{arith}
use native.Mathlib.Decide.{dec_lt, ℕ_discrete}
use native.Mathlib.Nat.{mod-eq_of_lt}
use borrow.Author.Tests.{lt-ltb}
use Rattle.counting.specs.Lists.{it}
use Rattle.walk.proofs.Iterate.{it_add}
use Rattle.cell.specs.Cell.{Edges, crossings, edge, index, step}
use Rattle.cell.specs.Loop.{loop_size, dart}
use Rattle.cell.specs.claims.Nodes.{Arranged, kth_from}
use Rattle.cell.specs.Nodes.{joining}
use Rattle.cell.specs.Level.{is_level_cell}
use Rattle.cell.proofs.Nodes.{adcb, arranged}
use Rattle.cell.proofs.Turn.{dart_index, dart_is}
use Rattle.cell.proofs.Lay.{lay}
use Rattle.cell.proofs.Loops.{the_loop, dart_live}
use Rattle.cell.proofs.Mates.{slot_has}
use Rattle.booking.specs.Booking.{least_corner, left_between}
use Rattle.booking.specs.claims.Left.{Longest, left_dart, round_dart, further}
use Rattle.booking.proofs.Counts.{left_sum, longest_swap}
use Rattle.booking.proofs.Darts.{room, round_up, round_down}
use Rattle.booking.proofs.Rounds.{furthers_is}
use Rattle.booking.proofs.Spiral.{four}
use Rattle.split.proofs.Axis.{NestAxis, nest_left, nest_ends, others-of}

module _ (w : Edges) (K : is_level_cell w.count ≡ true) where
  -- four steps from a crossing that remains of ad
  module _ {a b c d : ℕ} (L : Longest w.count a b c d) {m : ℕ} (hb : left_between w.count a b ≡ m) (hc : left_between w.count a c ≡ m) (r : ℕ) (l : r < 2 * m) where
    abbrev at_r : ℕ
    at_r = left_dart w a d b r

    up : round_dart w a b c d r ≡ at_r
    up = round_up w a b c d r (omega (arith, hb, hc))

    four_away : (k : ℕ) → 0 < k → k < 4 → edge w (it (step w) k at_r / 2) ≢ joining a d
    four_away k z h e = (four w K L r (omega (arith, hb, hc))).away k z h (ap (λ x. edge w (it (step w) k x / 2)) up ∙ e)

    four_to : it (step w) 4 at_r ≡ left_dart w a d c (2 * m - 1 - r)
    four_to =
        let x = left_between w.count a b in
        let y = left_between w.count a c in
        let n = 2 * (x + y) in
        let q : it (further n x) 2 r ≡ r + 2 * m = furthers_is n x 2 r (omega (arith, hb, hc)) ∙ mod-eq_of_lt (omega (arith, hb, hc)) ∙ omega (arith, hb) in
        let e : n - 1 - (r + 2 * m) ≡ 2 * m - 1 - r = omega (arith, hb, hc) in
        ap (it (step w) 4) (sym up)
        ∙ (four w K L r (omega (arith, hb, hc))).to
        ∙ ap (round_dart w a b c d) q
        ∙ round_down w a b c d (r + 2 * m) (omega (arith, hb, hc))
        ∙ ap (left_dart w a d c) e

  -- eight steps: E is met at the first and the fifth crossing
  module _ {a b c d : ℕ} (L : Longest w.count a b c d) {m : ℕ} (hb : left_between w.count a b ≡ m) (hc : left_between w.count a c ≡ m) (r : ℕ) (l : r < 2 * m) where
    eight : (k : ℕ) → k < 8 → edge w (it (step w) k (left_dart w a d b r) / 2) ≡ joining a d → (k ≡ 0) ⊎ (it (step w) k (left_dart w a d b r) ≡ left_dart w a d c (2 * m - 1 - r))
    eight k h e =
        elim (dec_lt k 4) [
          | yes g ↦ elim (dec_lt 0 k) [
            | yes z ↦ absurd (four_away L hb hc r l k z g e)
            | no z ↦ inl (omega arith)
          ]
          | no g ↦ elim (ℕ_discrete k 4) [
            | yes q ↦ inr (ap (λ j. it (step w) j (left_dart w a d b r)) q ∙ four_to L hb hc r l)
            | no q ↦ absurd (four_away (longest_swap w.count K L) hc hb (2 * m - 1 - r) (omega arith) (k - 4) (omega arith) (omega arith) (ap (λ x. edge w (x / 2)) (sym (later (omega arith))) ∙ e))
          ]
        ]
      where
        later : 4 ≤ k → it (step w) k (left_dart w a d b r) ≡ it (step w) (k - 4) (left_dart w a d c (2 * m - 1 - r))
        later g =
            let s : k ≡ 4 + (k - 4) = omega arith in
            ap (λ j. it (step w) j (left_dart w a d b r)) s ∙ it_add (step w) 4 (k - 4) (left_dart w a d b r) ∙ ap (it (step w) (k - 4)) (four_to L hb hc r l)

    -- the index of such a crossing
    pub left_index : a < d → index w (left_dart w a d b r / 2) ≡ least_corner w.count a + r
    unfolding left_dart kth_from
    left_index h =
        let S = left_sum w.count K L in
        dart_index w (adcb L.all) (least_corner w.count a + r) (room w K (adcb L.all) r (omega (arith, hb, hc))) ∙ rw (lt-ltb a d h)

-- the loops of a nest
module _ (w : Edges) {m e b c : ℕ} (N : NestAxis w.count m e b c) where
  abbrev own : ℕ
  own = least_corner w.count 0

  -- what remains of E is on it
  pub own_room : (r : ℕ) → r < 2 * m → own + r < w.count e
  own_room r l = rw (nest_ends N).joins at (room w N.level (adcb N.longest.all) r (omega (arith, nest_left N)))

  -- a dart of the crossing r that remains, with its slot and the fourth position
  record Leaves (x r : ℕ) : Type 0 where
    s : ℕ
    t : ℕ
    longest : Longest w.count 0 s t (suc e)
    left_s : left_between w.count 0 s ≡ m
    left_t : left_between w.count 0 t ≡ m
    is : x ≡ left_dart w 0 (suc e) s r

  leaves_by : {x r s t : ℕ} → Arranged 0 (suc e) t s → x ≡ left_dart w 0 (suc e) s r → Leaves x r
  leaves_by {x} {r} {s} {t} B q =
      ⊎_elim
      (λ (o : (s ≡ b) × (t ≡ c)). record { s = s; t = t; longest = rw (o.0, o.1) N.longest; left_s = rw o.0 N.left_b; left_t = rw o.1 N.left_c; is = q })
      (λ (o : (s ≡ c) × (t ≡ b)). record {
        s = s;
        t = t;
        longest = rw (o.0, o.1) (longest_swap w.count N.level N.longest);
        left_s = rw o.0 N.left_c;
        left_t = rw o.1 N.left_b;
        is = q;
      })
      (others-of N.axis B)

  leaves : (x r : ℕ) → x < 2 * crossings w → edge w (x / 2) ≡ e → index w (x / 2) ≡ own + r → Leaves x r
  unfolding left_dart
  leaves x r l f g =
      let E = nest_ends N in
      leaves_by (rw (f, E.lower, E.upper) at (arranged ((lay w).edge_lt (x / 2) (omega arith)) (slot_has w x l))) (rw (f, E.lower, E.upper, g) at (dart_is w x l))

  -- the loop from p, whose crossing at the place `at` is the crossing r that remains of E
  module _ (p : ℕ) (lp : p < crossings w) (z : loop_size w p ≡ 8) (at : ℕ) (la : at < 8) (r : ℕ) (lr : r < 2 * m)
      (he : edge w (dart w p at / 2) ≡ e) (hi : index w (dart w p at / 2) ≡ own + r) where
    -- the other places from there
    from_at : (j : ℕ) → j < 8 → (k : ℕ) × (k < 8) × (k ≡ 0 → j ≡ at) × (dart w p j ≡ it (step w) k (dart w p at))
    unfolding dart
    from_at j h =
        elim (dec_lt j at) [
          | yes g ↦
              let s : 8 + j ≡ at + (j + 8 - at) = omega arith in (
                j + 8 - at,
                omega arith,
                λ q. absurd (omega arith),
                ap (it (step w) j) (sym home) ∙ sym (it_add (step w) 8 j (2 * p)) ∙ ap (λ i. it (step w) i (2 * p)) s ∙ it_add (step w) at (j + 8 - at) (2 * p),
              )
          | no g ↦
              let s : j ≡ at + (j - at) = omega arith in
              (j - at, omega arith, λ q. omega arith, ap (λ i. it (step w) i (2 * p)) s ∙ it_add (step w) at (j - at) (2 * p))
        ]
      where
        home : it (step w) 8 (2 * p) ≡ 2 * p
        home = rw z at (the_loop w p lp (omega arith)).home

    pub visits : (j : ℕ) → j < 8 → edge w (dart w p j / 2) ≡ e → (j ≡ at) ⊎ (index w (dart w p j / 2) ≡ own + (2 * m - 1 - r))
    visits j h f =
        let O = leaves (dart w p at) r (dart_live w p lp at (omega arith)) he hi in
        let (k, lk, k0, d) = from_at j h in
        let x : dart w p j ≡ it (step w) k (left_dart w 0 (suc e) O.s r) = d ∙ ap (it (step w) k) O.is in
        ⊎_elim
        (λ (q : k ≡ 0). inl (k0 q))
        (λ (q : it (step w) k (left_dart w 0 (suc e) O.s r) ≡ left_dart w 0 (suc e) O.t (2 * m - 1 - r)).
        inr (ap (λ y. index w (y / 2)) (x ∙ q)
        ∙ left_index w N.level (longest_swap w.count N.level O.longest) O.left_t O.left_s (2 * m - 1 - r) (omega arith) (omega arith)))
        (eight w N.level O.longest O.left_s O.left_t r lr k lk (ap (λ y. edge w (y / 2)) (sym x) ∙ f ∙ sym (nest_ends N).joins))
