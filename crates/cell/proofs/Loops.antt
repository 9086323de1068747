-- The loops of a cell, and what is read of one from its record.
use Prim.Native.Nat.{ℕ, suc, ◌*◌, ◌/◌, ◌%◌, ◌≤◌, ◌<◌}
use mathlib.Core.Path.{◌≡◌, refl, sym, ap, ◌∙◌}
use mathlib.Core.Logic.{◌≢◌, ⊎_elim}
use mathlib.Core.Bool.{Bool}
use mathlib.Core.List.{List, [], ◌∷◌}
use native.Mathlib.Nat.{eq-or-lt_of_le, eq-zero-or-pos}
use native.Mathlib.Omega.{arith}
use lib.Dec.{eqb}
use lib.ListN.{get_or, length}
use Rattle.counting.specs.Lists.{one, total, after, tally, it}
use Rattle.counting.proofs.Range.{total_ext, after_last, after_on, length_over}
use Rattle.slots.specs.Slots.{edge_rank}
use Rattle.walk.specs.Darts.{Loop, half, rev}
use Rattle.walk.specs.Walk as walk
use Rattle.walk.specs.claims.Claims as walk-claims
use Rattle.walk.proofs.Step as walks
use Rattle.walk.proofs.Curve.{loop_short}
use Rattle.walk.proofs.Once.{flat_room}
use Rattle.walk.proofs.Iterate.{tally_orbit, length_orbit, it_suc}
use Rattle.cell.specs.declared.Cell.{Cell}
use Rattle.cell.specs.Cell.{Edges, crossings, edge, slot, first_slot_at, second_slot_at, mate, step}
use Rattle.cell.specs.Loop.{loop_size, dart, loop_darts, normal, parity, in_grid, type_of, loop_told}
use Rattle.cell.specs.Of.{edges_of}
use Rattle.cell.specs.work.Half.{half_edges, half_of, half_edge}
use Rattle.cell.specs.claims.Half.{edge_of}
use Rattle.cell.specs.work.Scratch.{halves_from, points_from}
use Rattle.cell.specs.work.Round.{crosses_in, round_answer}
use Rattle.cell.proofs.Half as halves
use Rattle.cell.proofs.Step.{step_is}
use Rattle.cell.proofs.Mates.{slot_has, ports, darts, laws}
use Rattle.cell.proofs.Recording.{run_loop, run_at, run_long, point_of}

-- the crossings of a record on an edge
module _ (l : List ℕ) where
  unfoldable pub cross_at : ℕ → ℕ → ℕ
  cross_at e k = one (eqb (edge_of (get_or l k 0)) e)

module _ (w : Edges) where
  abbrev N : ℕ
  N = crossings w

  -- the half-edge of a dart has its slot and its edge
  module _ (d : ℕ) (l : d < 2 * N) where
    pub half-slot : half_edge w d / 3 ≡ slot w d
    unfolding half_edge half_of
    half-slot = omega (arith, (slot_has w d l).place_lt)

    pub half_lt : half_edge w d < half_edges
    unfolding half_edge half_of
    half_lt = omega (arith, (slot_has w d l).place_lt, (slot_has w d l).lt)

    pub half-edge : edge_of (half_edge w d) ≡ edge w (d / 2)
    unfolding half_edge half_of
    half-edge = halves.half-edge (slot w d) (edge_rank (slot w d) (edge w (d / 2))) (slot_has w d l).place_lt ∙ (slot_has w d l).edge_is

    -- a step comes to another crossing
    pub step_moves : step w d < 2 * N → step w d / 2 ≢ d / 2
    unfolding step slot
    step_moves h =
        let P = ports w in
        let m = walks.live N (first_slot_at w) (second_slot_at w) (mate w) P d h in
        λ e. P.other d l (sym (ap (λ n. n / 2) (step_is w d) ∙ walks.land_half N (first_slot_at w) (second_slot_at w) (mate w) (slot w d) (mate w (slot w d) (d / 2)) m) ∙ e)

  module _ (p : ℕ) (l : p < N) where
    -- a loop that is found
    pub the_loop : 0 < loop_size w p → Loop (2 * N) (step w) (2 * p) (loop_size w p)
    unfolding loop_size
    the_loop h = ((laws w).found p l h).0

    pub size_le : loop_size w p ≤ N
    size_le =
        ⊎_elim (λ (e : loop_size w p ≡ 0). omega arith) (λ (h : 0 < loop_size w p). loop_short (2 * N) N (step w) rev half (darts w) (the_loop h))
        (eq-zero-or-pos (loop_size w p))

    pub dart_zero : dart w p 0 ≡ 2 * p
    unfolding dart it
    dart_zero = refl

    pub dart_live : (k : ℕ) → k < loop_size w p → dart w p k < 2 * N
    unfolding dart
    dart_live k h = (the_loop (omega arith)).live k (omega arith)

    -- the dart after the last is the first
    pub dart_after : (k : ℕ) → k < loop_size w p → dart w p (after (loop_size w p) k) ≡ step w (dart w p k)
    unfolding dart it
    dart_after k h =
        ⊎_elim
        (λ (e : suc k ≡ loop_size w p). rw (after_last (loop_size w p) k e) (sym (sym (it_suc (step w) k (2 * p)) ∙ ap (λ n. it (step w) n (2 * p)) e ∙ (the_loop (omega arith)).home)))
        (λ (g : suc k < loop_size w p). rw (after_on (loop_size w p) k g) (it_suc (step w) k (2 * p)))
        (eq-or-lt_of_le h)

    -- no loop has one segment only
    pub size_two : 0 < loop_size w p → 2 ≤ loop_size w p
    unfolding it
    size_two h =
        ⊎_elim
        (λ (e : 1 ≡ loop_size w p).
        (let home : step w (2 * p) ≡ 2 * p = ap (λ n. it (step w) n (2 * p)) e ∙ (the_loop h).home in
        absurd (step_moves (2 * p) (omega arith) (omega (arith, home)) (ap (λ n. n / 2) home))))
        (λ (g : 1 < loop_size w p). g) (eq-or-lt_of_le h)

    -- what is tallied of a loop, dart by dart
    pub tally_darts : (t : ℕ → Bool) → tally t (loop_darts w p) ≡ total (λ k. one (t (dart w p k))) (loop_size w p) 0
    unfolding loop_darts walk.loop_at loop_size dart
    tally_darts t = tally_orbit t (step w) (loop_size w p) (2 * p)

-- no crossing is on two loops, so that all loops together have no more than there are
pub sizes : (w : Edges) → total (loop_size w) (crossings w) 0 ≤ crossings w
unfolding loop_size step walk-claims.flat walk.loop_at
sizes w =
    let s = step w in
    omega (
      arith,
      length_over (walk.loop_at (crossings w) s) (crossings w) 0,
      total_ext (λ p. length (walk.loop_at (crossings w) s p)) (loop_size w) (crossings w) 0 (λ p a b. length_orbit s (loop_size w p) (2 * p)),
      flat_room (crossings w) s rev (darts w),
    )

-- what is read of the record of the loop from p
module _ (c : Cell) (p : ℕ) where
  abbrev cw : Edges
  cw = edges_of c

  abbrev size : ℕ
  size = loop_size cw p

  pub length_halves : length (halves_from c p) ≡ size
  unfolding halves_from
  length_halves = ap length (run_loop cw (half_edge cw) p size refl) ∙ run_long cw (half_edge cw) p size

  pub length_points : length (points_from c p) ≡ size
  unfolding points_from
  length_points = ap length (run_loop cw (point_of c) p size refl) ∙ run_long cw (point_of c) p size

  pub from_point : (k : ℕ) → k < size → get_or (points_from c p) k 0 ≡ in_grid cw (dart cw p k / 2)
  unfolding points_from
  from_point k h = ap (λ l. get_or l k 0) (run_loop cw (point_of c) p size refl) ∙ run_at cw (point_of c) p size k h

  from_half : (k : ℕ) → k < size → get_or (halves_from c p) k 0 ≡ half_edge cw (dart cw p k)
  unfolding halves_from
  from_half k h = ap (λ l. get_or l k 0) (run_loop cw (half_edge cw) p size refl) ∙ run_at cw (half_edge cw) p size k h

  module _ (l : p < crossings cw) where
    pub from_lt : (k : ℕ) → k < size → get_or (halves_from c p) k 0 < half_edges
    from_lt k h = rw (from_half k h) (half_lt cw (dart cw p k) (dart_live cw p l k h))

    pub from_slot : (k : ℕ) → k < size → get_or (halves_from c p) k 0 / 3 ≡ slot cw (dart cw p k)
    from_slot k h = rw (from_half k h) (half-slot cw (dart cw p k) (dart_live cw p l k h))

    pub from_edge : (k : ℕ) → k < size → edge_of (get_or (halves_from c p) k 0) ≡ edge cw (dart cw p k / 2)
    from_edge k h = rw (from_half k h) (half-edge cw (dart cw p k) (dart_live cw p l k h))

    pub parity_is : (e : ℕ) → parity cw p e ≡ crosses_in (halves_from c p) e % 2
    unfolding parity crosses_in
    parity_is e =
        rw length_halves
        (ap (λ x. x % 2) (tally_darts cw p l (λ d. eqb (edge cw (d / 2)) e)
        ∙ total_ext (λ k. one (eqb (edge cw (dart cw p k / 2)) e)) (λ k. one (eqb (edge_of (get_or (halves_from c p) k 0)) e)) size 0
        (λ k a b. ap (λ x. one (eqb x e)) (sym (from_edge k (omega arith))))))

    -- what is answered of it
    pub answer_is : 0 < size → round_answer c.nodes (halves_from c p) (points_from c p) (normal cw p) ≡ loop_told cw c.nodes (p ∷ [])
    unfolding loop_told type_of round_answer
    answer_is h =
        let x : dart cw p 0 / 2 ≡ p = omega (arith, dart_zero cw p l) in
        rw (from_point 0 h, x, length_halves, ← parity_is 0, ← parity_is 1, ← parity_is 2) refl
