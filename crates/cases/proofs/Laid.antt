-- How a cell's edges are laid has no part in how many loops and triangles it has.
use Prim.Native.Nat.{ℕ, ◌+◌, ◌-◌, ◌*◌, ◌/◌, ◌%◌, ◌<◌}
use mathlib.Core.Path.{◌≡◌, refl, sym, ap, ap₂, ◌∙◌, subst}
use mathlib.Core.Logic.{⊎_elim}
use mathlib.Core.Bool.{Bool, true, false}
use mathlib.Core.List.{[], ◌∷◌}
use native.Mathlib.Nat.{eq-zero-or-pos}
use native.Mathlib.Omega.{arith}
use lib.Dec.{eqb, ltb}
use lib.ListN.{length}
use borrow.Author.Tests.{lt-ltb}
use Rattle.counting.specs.Pick.{pick}
use Rattle.counting.specs.Lists.{one, total, kept, after, tally, pre}
use Rattle.counting.proofs.Bools.{eqb_comm}
use Rattle.counting.proofs.Range.{total_ext, total_add, total_round, length_over, after_lt}
use Rattle.slots.specs.Slots.{slot_edge, first_slot}
use Rattle.slots.specs.claims.Claims.{EdgeSlot}
use Rattle.slots.proofs.Slots.{slot-edge}
use Rattle.walk.specs.Darts.{half, rev}
use Rattle.walk.specs.claims.Claims.{Darts}
use Rattle.walk.specs.Step as walks
use Rattle.walk.specs.Walk as walk
use Rattle.walk.proofs.Step.{live, by_parity, rev_first, rev_second, rev_lt, half_rev}
use Rattle.walk.proofs.Once.{In}
use Rattle.walk.proofs.Relabel.{lift, Relabels, size_same, sum_same, loops_same}
use Rattle.manifold.specs.Shape.{shape_of, many_of}
use Rattle.cell.specs.Cell.{Edges, crossings, edge, index, number, join_at, mate, first_slot_at, second_slot_at, slot, step}
use Rattle.cell.specs.Loop.{loop_size, dart, loop_darts, folded, normal, leasts}
use Rattle.cell.specs.Triangles.{loop_count, many_from, triangle_count}
use Rattle.cell.proofs.Lay.{lay}
use Rattle.cell.proofs.Step.{step_is}
use Rattle.cell.proofs.Mates.{mate_joined, mate_unjoined, joined_edge, joined_index, mate_cases, slot_has, ports, darts}
use Rattle.cell.proofs.Loops.{dart_live, dart_after, tally_darts}
use Rattle.cell.proofs.Folds.{folded_ends}
use Rattle.cases.specs.claims.Claims.{LaidAnyhow}

-- two cells with the same counts: the crossing x of the one as it is numbered in the other
abbrev moved : Edges → Edges → ℕ → ℕ
moved v w x = number w (edge v x) (index v x)

turned : (f : ℕ → ℕ) (b : Bool) (z : ℕ) → lift f (pick b (2 * z + 1) (2 * z)) ≡ pick b (2 * f z + 1) (2 * f z)
unfolding lift
turned f true z = let e : (2 * z + 1) / 2 ≡ z = omega arith in rw e (omega arith)
turned f false z = let e : 2 * z / 2 ≡ z = omega arith in rw e (omega arith)

module _ (v w : Edges) (same : (k : ℕ) → k < 6 → v.count k ≡ w.count k) where
  abbrev N : ℕ
  N = crossings v

  abbrev to : ℕ → ℕ
  to = moved v w

  many_same : crossings w ≡ N
  unfolding pre
  many_same = sym (total_ext v.count w.count 6 0 (λ k _ l. same k (omega arith)))

  module _ (x : ℕ) (l : x < N) where
    within : index v x < w.count (edge v x)
    within = rw (← same (edge v x) ((lay v).edge_lt x l)) ((lay v).index_lt x l)

    to_lt : to x < N
    to_lt = rw (← many_same) ((lay w).number_lt (edge v x) (index v x) ((lay v).edge_lt x l) within)

    edge_to : edge w (to x) ≡ edge v x
    edge_to = (lay w).number_edge (edge v x) (index v x) ((lay v).edge_lt x l) within

    index_to : index w (to x) ≡ index v x
    index_to = (lay w).number_index (edge v x) (index v x) ((lay v).edge_lt x l) within

    back_to : moved w v (to x) ≡ x
    back_to = rw (edge_to, index_to) ((lay v).back x l)

    module _ (f : ℕ) (S : EdgeSlot (edge v x) f) where
      join_to : join_at w f (to x) ≡ join_at v f x
      unfolding join_at
      join_to = rw (edge_to, index_to, count 0 (omega arith), count 1 (omega arith), count 2 (omega arith)) refl
        where
          count : (j : ℕ) → j < 3 → v.count (slot_edge f j) ≡ w.count (slot_edge f j)
          count j h = same (slot_edge f j) (slot-edge f j S.lt h).lt

      mate_to : mate v f x < N → mate w f (to x) ≡ to (mate v f x)
      mate_to h =
          ⊎_elim
          (λ q. let k = (slot-edge f q.0 S.lt (joined_edge v f x q.2)).lt in
          let i = joined_index v f x q.2 in
          mate_joined w f (to x) (join_to ∙ q.2)
          ∙ sym (ap to (mate_joined v f x q.2) ∙ ap₂ (number w) ((lay v).number_edge (slot_edge f q.0) q.1 k i) ((lay v).number_index (slot_edge f q.0) q.1 k i)))
          (λ q. absurd (omega (arith, mate_unjoined v f x q)))
          (mate_cases v f x l S)

  module _ (d : ℕ) (l : d < 2 * N) where
    abbrev x : ℕ
    x = d / 2

    half_lift : lift to d / 2 ≡ to x
    unfolding lift
    half_lift = omega arith

    part_lift : lift to d % 2 ≡ d % 2
    unfolding lift
    part_lift = omega arith

    slot_to : slot w (lift to d) ≡ slot v d
    unfolding slot walks.face
    slot_to = rw (half_lift, part_lift, edge_to x (omega arith)) refl

    -- a step that does not end
    module _ (h : step v d < 2 * N) where
      abbrev y : ℕ
      y = mate v (slot v d) x

      y_lt : y < N
      unfolding step slot
      y_lt = live N (first_slot_at v) (second_slot_at v) (mate v) (ports v) d h

      lands : mate w (slot w (lift to d)) (lift to d / 2) ≡ to y
      lands = rw (slot_to, half_lift) (mate_to x (omega arith) (slot v d) (slot_has v d l) y_lt)

      step_to : step w (lift to d) ≡ lift to (step v d)
      unfolding walks.land
      step_to =
          step_is w (lift to d)
          ∙ rw (lands, slot_to, many_same, lt-ltb (to y) N (to_lt y y_lt), edge_to y y_lt)
          (sym (ap (lift to) (step_is v d ∙ rw (lt-ltb y N y_lt) refl) ∙ turned to (eqb (first_slot (edge v y)) (slot v d)) y))

  relabels : Relabels N (step v) (step w) to (moved w v)
  relabels = record { below = to_lt; back = back_to; steps = step_to }

-- the folded segments at a crossing: those along its two darts
unfoldable bent : Edges → ℕ → ℕ
bent u x = one (folded u (2 * x)) + one (folded u (2 * x + 1))

bent_half : (u : Edges) (d : ℕ) → d < 2 * crossings u → bent u (half d) ≡ one (folded u d) + one (folded u (rev d))
unfolding bent
bent_half u =
    by_parity (crossings u) (λ d. bent u (half d) ≡ one (folded u d) + one (folded u (rev d)))
    (λ c _. let e : 2 * c / 2 ≡ c = omega arith in rw (e, rev_first c) refl)
    (λ c _. let e : (2 * c + 1) / 2 ≡ c = omega arith in rw (e, rev_second c) (omega arith))

-- over a loop each is met twice, from its two ends
module _ (u : Edges) (p : ℕ) (l : p < crossings u) where
  abbrev M : ℕ
  M = crossings u

  abbrev n : ℕ
  n = loop_size u p

  abbrev at : ℕ → ℕ
  at k = dart u p k

  at_lt : (k : ℕ) → k < n → at k < 2 * M
  at_lt k h = dart_live u p l k h

  -- from the point after k back to k
  turn_back : (k : ℕ) → k < n → step u (rev (at (after n k))) ≡ rev (at k)
  turn_back k h =
      ap (λ d. step u (rev d)) (dart_after u p l k h) ∙ (darts u).back (at k) (at_lt k h) (rw (← dart_after u p l k h) (at_lt (after n k) (after_lt n k h)))

  folded_back : (k : ℕ) → k < n → folded u (rev (at (after n k))) ≡ folded u (at k)
  folded_back k h =
      let la = at_lt (after n k) (after_lt n k h) in
      folded_ends u (rev (at (after n k))) (rev_lt M (at (after n k)) la) (rw (turn_back k h) (rev_lt M (at k) (at_lt k h)))
      ∙ ap₂ (λ i j. eqb (edge u i) (edge u j)) (half_rev (at (after n k))) (ap half (turn_back k h) ∙ half_rev (at k))
      ∙ eqb_comm (edge u (half (at (after n k)))) (edge u (half (at k)))
      ∙ ap (λ d. eqb (edge u (half (at k))) (edge u (half d))) (dart_after u p l k h)
      ∙ sym (folded_ends u (at k) (at_lt k h) (rw (← dart_after u p l k h) la))

  twice : total (λ k. bent u (half (at k))) n 0 ≡ 2 * tally (folded u) (loop_darts u p)
  twice =
      omega (
        arith,
        total_ext (λ k. bent u (half (at k))) (λ k. one (folded u (at k)) + one (folded u (rev (at k)))) n 0 (λ k _ h. bent_half u (at k) (at_lt k (omega arith))),
        total_add (λ k. one (folded u (at k))) (λ k. one (folded u (rev (at k)))) n 0,
        total_round (λ k. one (folded u (rev (at k)))) n,
        total_ext (λ k. one (folded u (rev (at (after n k))))) (λ k. one (folded u (at k))) n 0 (λ k _ h. ap one (folded_back k (omega arith))),
        tally_darts u p l (folded u),
      )

-- how many loops there are, and triangles, summed over the loops
loop-count : (u : Edges) → loop_count u ≡ total (λ p. pick (ltb 0 (loop_size u p)) 1 0) (crossings u) 0
unfolding loop_count leasts kept
loop-count u =
    length_over (λ p. pick (ltb 0 (loop_size u p)) (p ∷ []) []) (crossings u) 0
    ∙ total_ext (λ p. length (pick (ltb 0 (loop_size u p)) (p ∷ []) [])) (λ p. pick (ltb 0 (loop_size u p)) 1 0) (crossings u) 0 (λ p _ _. single p (ltb 0 (loop_size u p)))
  where
    single : (p : ℕ) (b : Bool) → length (pick b (p ∷ []) []) ≡ pick b 1 0
    single p true = refl
    single p false = refl

triangle-count : (u : Edges) → triangle_count u ≡ total (λ p. pick (ltb 0 (loop_size u p)) (many_from u p) 0) (crossings u) 0
unfolding triangle_count many_from
triangle-count u = total_ext (many_from u) (λ p. pick (ltb 0 (loop_size u p)) (many_from u p) 0) (crossings u) 0 (λ p _ _. some (loop_size u p) (normal u p))
  where
    some : (n : ℕ) (b : Bool) → many_of (shape_of n b) n ≡ pick (ltb 0 n) (many_of (shape_of n b) n) 0
    some n b = ⊎_elim (λ (e : n ≡ 0). rw e refl) (λ (h : 0 < n). rw (lt-ltb 0 n h) refl) (eq-zero-or-pos n)

rev_lift : (f : ℕ → ℕ) (d : ℕ) → rev (lift f d) ≡ lift f (rev d)
unfolding rev lift
rev_lift f d =
    let a : (2 * f (d / 2) + d % 2) / 2 ≡ f (d / 2) = omega arith in
    let b : (2 * (d / 2) + (1 - d % 2)) / 2 ≡ d / 2 = omega arith in
    rw (a, b) (omega arith)

module _ (v w : Edges) (same : (k : ℕ) → k < 6 → v.count k ≡ w.count k) where
  abbrev K : ℕ
  K = crossings v

  abbrev f : ℕ → ℕ
  f = moved v w

  abbrev g : ℕ → ℕ
  g = moved w v

  there : Relabels K (step v) (step w) f g
  there = relabels v w same

  here : Relabels K (step w) (step v) g f
  here = subst (λ m. Relabels m (step w) (step v) g f) (many_same v w same) (relabels w v (λ k l. sym (same k l)))

  dw : Darts (2 * K) K (step w) rev half
  dw = subst (λ m. Darts (2 * m) m (step w) rev half) (many_same v w same) (darts w)

  size_w : (q : ℕ) → walk.size K (step w) q ≡ loop_size w q
  unfolding loop_size
  size_w q = ap (λ m. walk.size m (step w) q) (sym (many_same v w same))

  lift_below : (d : ℕ) → d < 2 * K → lift f d < 2 * crossings w
  lift_below d l = rw (many_same v w same) (omega (arith, to_lt v w same (d / 2) (omega arith), half_lift v w same d l))

  folded_to : (d : ℕ) → d < 2 * K → step v d < 2 * K → folded w (lift f d) ≡ folded v d
  folded_to d l h =
      folded_ends w (lift f d) (lift_below d l) (rw (step_to v w same d l h) (lift_below (step v d) h))
      ∙ ap₂ eqb (ap (edge w) (half_lift v w same d l) ∙ edge_to v w same (d / 2) (omega arith))
      (ap (λ e. edge w (e / 2)) (step_to v w same d l h) ∙ ap (edge w) (half_lift v w same (step v d) h) ∙ edge_to v w same (step v d / 2) (omega arith))
      ∙ sym (folded_ends v d l h)

  module _ (p q : ℕ) (lp : p < K) (lq : q < K) (h : 0 < walk.size K (step v) p) (o : In K (step w) rev dw q (f p)) where
    abbrev m : ℕ
    m = loop_size v p

    abbrev dv : ℕ → ℕ
    dv k = dart v p k

    lengths : m ≡ loop_size w q
    unfolding loop_size
    lengths = size_same K (step v) (step w) f g (darts v) dw there here p q lp lq h o ∙ size_w q

    bent_to : (k : ℕ) → k < m → bent w (f (half (dv (after m k)))) ≡ bent v (half (dv (after m k)))
    bent_to k l =
        let d = dv (after m k) in
        let la = after_lt m k l in
        let ld = dart_live v p lp (after m k) la in
        let sd : step v d < 2 * K = rw (← dart_after v p lp (after m k) la) (dart_live v p lp (after m (after m k)) (after_lt m (after m k) la)) in
        let lr = rev_lt K d ld in
        let sr : step v (rev d) < 2 * K = rw (turn_back v p lp k l) (rev_lt K (dv k) (dart_live v p lp k l)) in
        ap (bent w) (sym (half_lift v w same d ld))
        ∙ bent_half w (lift f d) (lift_below d ld)
        ∙ ap₂ (λ a b. one a + one b) (folded_to d ld sd) (ap (folded w) (rev_lift f d) ∙ folded_to (rev d) lr sr)
        ∙ sym (bent_half v d ld)

    folds : tally (folded v) (loop_darts v p) ≡ tally (folded w) (loop_darts w q)
    unfolding dart loop_size
    folds =
        omega (
          arith,
          twice v p lp,
          total_round (λ k. bent v (half (dv k))) m,
          total_ext (λ k. bent w (f (half (dv (after m k))))) (λ k. bent v (half (dv (after m k)))) m 0 (λ k _ l. bent_to k (omega arith)),
          total_round (λ k. bent w (f (half (dv k)))) m,
          sum_same K (step v) (step w) f g (darts v) dw there here p q lp lq h o (bent w),
          ap (λ i. total (λ k. bent w (half (dart w q k))) i 0) (size_w q),
          twice w q (rw (many_same v w same) lq),
        )

    many_are : many_from v p ≡ many_from w q
    unfolding many_from normal
    many_are = ap₂ (λ i j. many_of (shape_of i (eqb j 0)) i) lengths folds

  over_same : (G H : ℕ → ℕ) → ((p q : ℕ) → p < K → q < K → 0 < walk.size K (step v) p → In K (step w) rev dw q (f p) → G p ≡ H q)
      → total (λ p. pick (ltb 0 (loop_size v p)) (G p) 0) K 0 ≡ total (λ q. pick (ltb 0 (loop_size w q)) (H q) 0) (crossings w) 0
  unfolding loop_size
  over_same G H s =
      loops_same K (step v) (step w) f g (darts v) dw there here G H s
      ∙ ap (λ i. total (λ q. pick (ltb 0 (walk.size i (step w) q)) (H q) 0) i 0) (sym (many_same v w same))

pub laid_anyhow : LaidAnyhow
laid_anyhow v w same = (
  loop-count v ∙ over_same v w same (λ p. 1) (λ q. 1) (λ p q _ _ _ _. refl) ∙ sym (loop-count w),
  triangle-count v ∙ over_same v w same (many_from v) (many_from w) (many_are v w same) ∙ sym (triangle-count w),
)
