-- In an accepted flat grid the step by the places of the triangles' edges is the step from dart to dart.
use Prim.Native.Nat.{ℕ, suc, ◌+◌, ◌*◌, ◌-◌, ◌/◌, ◌%◌, ◌≤◌, ◌<◌}
use mathlib.Core.Path.{◌≡◌, refl, sym, ap, fun_ext, ◌∙◌, subst}
use mathlib.Core.Logic.{◌⊎◌, ◌≢◌, inl, inr, ⊎_elim}
use mathlib.Core.Bool.{Bool, true, false}
use mathlib.Core.List.{List}
use native.Mathlib.Decide.{dec_lt, ℕ_discrete}
use native.Mathlib.Omega.{arith}
use lib.Dec.{eqb, ltb}
use lib.ListN.{get_or-eq_default, get_or, length}
use borrow.Author.Tests.{eq-eqb, eqb-true, le-ltb, ne_eqb}
use Rattle.counting.specs.Pick.{pick}
use Rattle.counting.specs.Search.{first, last, some}
use Rattle.counting.specs.Lists.{pre}
use Rattle.counting.specs.Pack.{row}
use Rattle.counting.proofs.Bools.{bool_same, clash, not_clash}
use Rattle.counting.proofs.Pack.{pre_le, pre_next}
use Rattle.counting.proofs.Pigeon.{pigeonhole}
use Rattle.counting.proofs.Search.{first_below, first_blocks, first_ext, first_is, last_above, last_is, last_le, none_first, some_ext, some_first, some_found}
use Rattle.slots.specs.Slots.{lower, upper}
use Rattle.slots.proofs.Slots.{face_ends}
use Rattle.face.specs.Face.{joined, no_crossing, count_on}
use Rattle.face.specs.claims.Claims.{unjoined}
use Rattle.face.proofs.Ends.{edge_lt, edge-of, edge_with}
use Rattle.grid.specs.Grid.{count_of, crossing, crossings, start}
use Rattle.counting.specs.work.Tables.{Table, same_key}
use Rattle.walk.specs.Step as walk
use Rattle.walk.specs.Darts.{half, rev}
use Rattle.walk.specs.claims.Claims.{Darts}
use Rattle.walk.proofs.Step.{face_first, face_second, land_first, land_second}
use Rattle.flat.specs.FlatGrid.{FlatGrid, edge_number, edge_rank, has_edge, is_edge, triangles_in}
use Rattle.flat.specs.Accepted.{Accepted, EdgeIs}
use Rattle.flat.specs.Join.{flat_join}
use Rattle.flat.specs.Chains.{count_of_side, crossing_edge, first_triangle, crossing_index, join_at, joined_to, mate, second_triangle, step}
use Rattle.flat.specs.work.Work.{StepTable, SidesKnown, Sides, step_in, arrive_by, count_at_place, dart_step, first_port, land_at, leave_by, port_step, second_port}
use Rattle.flat.proofs.Accepts.{edge_true, true_edge}
use Rattle.flat.proofs.Triangle.{flat_laws}
use Rattle.flat.proofs.Places.{found_some, port_first, port_second}
use Rattle.flat.proofs.Ports.{count-in, edge_is, edge_there, either, first_there, grid_darts, has_at, has_rank, in_list, index_there, mated, number_there, numbers, rank_is, second_there}
use Rattle.flat.proofs.Walked.{along_at, along_off}

no_count : (e : ℕ) → count_on 0 0 0 e ≡ 0
unfolding count_on
no_count e = go (eqb e 0) (eqb e 1) (eqb e 2)
  where
    go : (a b c : Bool) → pick {A = ℕ} a 0 (pick b 0 (pick c 0 0)) ≡ 0
    go true b c = refl
    go false true c = refl
    go false false true = refl
    go false false false = refl

module _ (G : FlatGrid) (A : Accepted G) (sides : List ℕ) (S : SidesKnown G sides) where
  -- THE PLACES OF AN EDGE

  side_is : (j : ℕ) → j < 3 * triangles_in G.triangles → get_or sides j 0 ≡ edge_number G (j / 3) (j % 3)
  side_is j h = S.at j h

  side_in : (f k : ℕ) → f < triangles_in G.triangles → k < 3 → get_or sides (3 * f + k) 0 ≡ edge_number G f k
  side_in f k h l =
      let a : (3 * f + k) / 3 ≡ f = omega arith in
      let b : (3 * f + k) % 3 ≡ k = omega arith in
      rw (a, b) at (S.at (3 * f + k) (omega arith))

  -- two places in one triangle have two edges
  same_place : (i j : ℕ) → i < 3 * triangles_in G.triangles → j < 3 * triangles_in G.triangles → i / 3 ≡ j / 3 → get_or sides i 0 ≡ get_or sides j 0 → i ≡ j
  same_place i j hi hj q e =
      let a = rank_is G A (i / 3) (i % 3) (omega arith) (omega arith) in
      let b = rank_is G A (j / 3) (j % 3) (omega arith) (omega arith) in
      let c : edge_number G (i / 3) (i % 3) ≡ edge_number G (j / 3) (j % 3) = sym (side_is i hi) ∙ e ∙ side_is j hj in
      let d : i % 3 ≡ j % 3 = sym a ∙ ap (edge_rank G (i / 3)) c ∙ ap (λ f. edge_rank G f (edge_number G (j / 3) (j % 3))) q ∙ b in
      omega arith

  module _ (e : ℕ) (le : e < length G.counts) where
    -- a place of the edge, and a triangle with it
    at_edge : (f k : ℕ) → f < triangles_in G.triangles → k < 3 → same_key sides e (3 * f + k) ≡ is_edge G f k e
    unfolding same_key
    at_edge f k h l =
        bool_same (eqb (get_or sides (3 * f + k) 0) e) (is_edge G f k e)
        (λ t. true_edge G f k e (subst (λ e. EdgeIs G f k e) (sym (side_in f k h l) ∙ eqb-true (get_or sides (3 * f + k) 0) e t) ((numbers G A).is f k h l)))
        (λ t. eq-eqb (get_or sides (3 * f + k) 0) e (side_in f k h l ∙ (numbers G A).only f k e h l le (edge_true G f k e t)))

    first-triangle : first (same_key sides e) (3 * triangles_in G.triangles) / 3 ≡ first (has_edge G e) (triangles_in G.triangles)
    unfolding has_edge
    first-triangle =
        first_blocks (same_key sides e) 3 (triangles_in G.triangles) (omega arith)
        ∙ first_ext (λ f. some (λ k. same_key sides e (3 * f + k)) 3) (λ f. some (λ k. is_edge G f k e) 3) (triangles_in G.triangles)
        (λ f h. some_ext (λ k. same_key sides e (3 * f + k)) (λ k. is_edge G f k e) 3 (λ k l. at_edge f k h l))

    place_has : (j : ℕ) → j < 3 * triangles_in G.triangles → get_or sides j 0 ≡ e → has_edge G e (j / 3) ≡ true
    place_has j h q = subst (λ e. has_edge G e (j / 3) ≡ true) (sym (side_is j h) ∙ q) (has_at G A (j / 3) (j % 3) (omega arith) (omega arith))

    key_is : (j : ℕ) → same_key sides e j ≡ true → get_or sides j 0 ≡ e
    unfolding same_key
    key_is j t = eqb-true (get_or sides j 0) e t

    is_key : (j : ℕ) → get_or sides j 0 ≡ e → same_key sides e j ≡ true
    unfolding same_key
    is_key j q = eq-eqb (get_or sides j 0) e q

  -- THE PORTS OF A CROSSING

  -- q is one more than a place of the edge of x in triangle f
  record Through (x q f : ℕ) : Type 0 where
    some : 0 < q
    within : q ≤ 3 * triangles_in G.triangles
    is : get_or sides (q - 1) 0 ≡ crossing_edge G x
    through : (q - 1) / 3 ≡ f

  module _ (x : ℕ) (h : x < crossings G.counts) where
    le : crossing_edge G x < length G.counts
    le = edge_there G x h

    first_in : first (same_key sides (crossing_edge G x)) (3 * triangles_in G.triangles) / 3 ≡ first_triangle G x
    unfolding first_triangle
    first_in = first-triangle (crossing_edge G x) le

    first_lt : first (same_key sides (crossing_edge G x)) (3 * triangles_in G.triangles) < 3 * triangles_in G.triangles
    first_lt = omega (arith, first_in, (first_there G A x h).0)

    first-port : first_port sides (3 * triangles_in G.triangles) (crossing_edge G x) ≡ suc (first (same_key sides (crossing_edge G x)) (3 * triangles_in G.triangles))
    unfolding first_port
    first-port = found_some (same_key sides (crossing_edge G x)) (3 * triangles_in G.triangles) first_lt

    by_first : Through x (first_port sides (3 * triangles_in G.triangles) (crossing_edge G x)) (first_triangle G x)
    by_first =
        let z : suc (first (same_key sides (crossing_edge G x)) (3 * triangles_in G.triangles)) - 1 ≡ first (same_key sides (crossing_edge G x)) (3 * triangles_in G.triangles) = omega arith in
        rw first-port (record {
          some = omega arith;
          within = omega (arith, first_lt);
          is = rw z (key_is (crossing_edge G x) le _ (first_is (same_key sides (crossing_edge G x)) (3 * triangles_in G.triangles) first_lt));
          through = rw z first_in;
        })

    -- every place is from the first to the last
    from_first : (j : ℕ) → j < 3 * triangles_in G.triangles → get_or sides j 0 ≡ crossing_edge G x → first (same_key sides (crossing_edge G x)) (3 * triangles_in G.triangles) ≤ j
    from_first j m q = elim (dec_lt j (first (same_key sides (crossing_edge G x)) (3 * triangles_in G.triangles))) [
      | yes a ↦ clash (is_key (crossing_edge G x) le j q) (first_below (same_key sides (crossing_edge G x)) (3 * triangles_in G.triangles) j a)
      | no a ↦ omega arith
    ]

    to_last : (j : ℕ) → j < 3 * triangles_in G.triangles → get_or sides j 0 ≡ crossing_edge G x → j < last (same_key sides (crossing_edge G x)) (3 * triangles_in G.triangles)
    to_last j m q = elim (dec_lt j (last (same_key sides (crossing_edge G x)) (3 * triangles_in G.triangles))) [
      | yes a ↦ a
      | no a ↦ clash (is_key (crossing_edge G x) le j q) (last_above (same_key sides (crossing_edge G x)) (3 * triangles_in G.triangles) j (omega arith) m)
    ]

    last_pos : 0 < last (same_key sides (crossing_edge G x)) (3 * triangles_in G.triangles)
    last_pos =
        omega (
          arith,
          to_last (first (same_key sides (crossing_edge G x)) (3 * triangles_in G.triangles)) first_lt
              (key_is (crossing_edge G x) le _ (first_is (same_key sides (crossing_edge G x)) (3 * triangles_in G.triangles) first_lt)),
        )

    last_side : get_or sides (last (same_key sides (crossing_edge G x)) (3 * triangles_in G.triangles) - 1) 0 ≡ crossing_edge G x
    last_side = key_is (crossing_edge G x) le _ (last_is (same_key sides (crossing_edge G x)) (3 * triangles_in G.triangles) last_pos)

    by_second : (Through x (second_port sides (3 * triangles_in G.triangles) (crossing_edge G x)) (second_triangle G x))
        ⊎ ((second_port sides (3 * triangles_in G.triangles) (crossing_edge G x) ≡ 0) × (triangles_in G.triangles ≤ second_triangle G x))
    unfolding second_port
    by_second =
        let L = last (same_key sides (crossing_edge G x)) (3 * triangles_in G.triangles) in
        let P = first_port sides (3 * triangles_in G.triangles) (crossing_edge G x) in
        let w = last_le (same_key sides (crossing_edge G x)) (3 * triangles_in G.triangles) in
        elim (ℕ_discrete L P) [
          | yes q ↦ inr (
            rw (eq-eqb L P q),
            elim (dec_lt (second_triangle G x) (triangles_in G.triangles)) [
              | yes m ↦
                  let (a, b) = second_there G A x h m in
                  let (k, lk, is) = has_rank G A (crossing_edge G x) (second_triangle G x) b in
                  let s = side_in (second_triangle G x) k m lk ∙ (numbers G A).only (second_triangle G x) k (crossing_edge G x) m lk le is in
                  let i = to_last (3 * second_triangle G x + k) (omega arith) s in
                  let j = from_first (3 * second_triangle G x + k) (omega arith) s in
                  absurd (omega (arith, first-port, first_in))
              | no m ↦ omega arith
            ],
          )
          | no q ↦
              let v = last_pos in
              let m : (L - 1) / 3 < triangles_in G.triangles = omega arith in
              let b = by_first in
              inl (rw (ne_eqb L P q) (record {
                some = last_pos;
                within = w;
                is = last_side;
                through = ⊎_elim
                    (λ (z : first_triangle G x ≡ (L - 1) / 3).
                    let y = same_place (L - 1) (P - 1) (omega arith) (omega (arith, b.within, b.some)) (sym z ∙ sym b.through) (last_side ∙ sym b.is) in
                    absurd (q (omega (arith, b.some))))
                    (λ (z : second_triangle G x ≡ (L - 1) / 3). sym z)
                    (either G A x h ((L - 1) / 3) m (place_has (crossing_edge G x) le (L - 1) (omega arith) last_side));
              }))
        ]

  -- THE STEP

  abbrev land : ℕ → ℕ → ℕ
  land = walk.land (crossings G.counts) (first_triangle G) (second_triangle G) (mate G)

  abbrev face : ℕ → ℕ
  face = walk.face (crossings G.counts) (first_triangle G) (second_triangle G) (mate G)

  land_off : (f x : ℕ) → crossings G.counts ≤ x → land f x ≡ 2 * crossings G.counts
  unfolding walk.land
  land_off f x h = rw (le-ltb x (crossings G.counts) h)

  step_is : (d : ℕ) → step G d ≡ land (face d) (mate G (face d) (d / 2))
  unfolding step walk.step
  step_is d = refl

  -- no triangle: no mate
  mate_off : (f x : ℕ) → x < crossings G.counts → triangles_in G.triangles ≤ f → crossings G.counts ≤ mate G f x
  mate_off f x h l = elim (dec_lt (mate G f x) (crossings G.counts)) [
    | yes m ↦ absurd (omega (arith, (mated G A f x h m).within))
    | no m ↦ omega arith
  ]

  -- the counts of a triangle by its places
  count-by : (f k : ℕ) → f < triangles_in G.triangles → k < 3 → count_at_place G.counts sides (3 * f + k) ≡ count_of_side G f k
  unfolding count_of_side
  count-by f k h l = ap (count_of G.counts) (side_in f k h l)

  -- landing on crossing t of edge k of triangle f
  land-at : (f k t : ℕ) → f < triangles_in G.triangles → k < 3 → t < count_of G.counts (edge_number G f k)
      → land_at G.counts sides (3 * triangles_in G.triangles) (3 * f + k) t ≡ land f (crossing G.counts (edge_number G f k) t)
  unfolding land_at
  land-at f k t h l lt =
      let y = crossing G.counts (edge_number G f k) t in
      let n = 3 * triangles_in G.triangles in
      let le = (numbers G A).listed f k h l in
      let ly = number_there G (edge_number G f k) t le lt in
      let s = side_in f k h l in
      let B = subst (λ e. Through y (first_port sides n e) (first_triangle G y)) (edge_is G (edge_number G f k) t le lt) (by_first y ly) in
      let b : get_or sides (first_port sides n (edge_number G f k) - 1) 0 ≡ edge_number G f k = B.is ∙ edge_is G (edge_number G f k) t le lt in
      rw s (elim (ℕ_discrete (first_triangle G y) f) [
        | yes q ↦
            let z = same_place (first_port sides n (edge_number G f k) - 1) (3 * f + k) (omega (arith, B.some, B.within)) (omega arith)
            (B.through ∙ q ∙ omega arith) (b ∙ sym s) in
            rw (eq-eqb (first_port sides n (edge_number G f k)) (3 * f + k + 1) (omega (arith, B.some)))
            (sym (land_first (crossings G.counts) (first_triangle G) (second_triangle G) (mate G) f y ly q))
        | no q ↦
            rw (ne_eqb (first_port sides n (edge_number G f k)) (3 * f + k + 1) (λ z. q (sym B.through ∙ omega (arith, z))))
            (omega (arith, land_second (crossings G.counts) (first_triangle G) (second_triangle G) (mate G) f y ly q))
      ])

  -- an answer of the triangle's rule leads there
  module _ (f : ℕ) (h : f < triangles_in G.triangles) where
    arrive_joined : (k t : ℕ) → k < 3 → t < count_of G.counts (edge_number G f k)
        → arrive_by G.counts sides (3 * triangles_in G.triangles) (3 * f) (joined k t) ≡ land f (joined_to G f (joined k t))
    unfolding arrive_by joined_to
    arrive_joined k t l lt = land-at f k t h l lt

    arrive_not : (a : List ℕ) → get_or a 0 0 ≢ 0
        → arrive_by G.counts sides (3 * triangles_in G.triangles) (3 * f) a ≡ land f (joined_to G f a)
    unfolding arrive_by joined_to
    arrive_not a n = rw (ne_eqb (get_or a 0 0) 0 n) (sym (land_off f (crossings G.counts) (omega arith)))

    arrive : (k t : ℕ) → k < 3 → t < count_of G.counts (edge_number G f k)
        → arrive_by G.counts sides (3 * triangles_in G.triangles) (3 * f) (flat_join (count_of_side G f 0) (count_of_side G f 1) (count_of_side G f 2) k t)
        ≡ land f (joined_to G f (flat_join (count_of_side G f 0) (count_of_side G f 1) (count_of_side G f 2) k t))
    arrive k t l lt =
        let T = flat_laws (count_of_side G f 0) (count_of_side G f 1) (count_of_side G f 2) in
        let d = edge-of k l in
        elim (T.cases k t (omega (arith, count-in G f d))) [
          | inl j ↦
              let b = (T.there k t j.0 j.1 j.2).1 in
              let d' = edge_with _ _ _ j.0 j.1 b in
              rw j.2 (arrive_joined j.0 j.1 (edge_lt d') (omega (arith, count-in G f d')))
          | inr u ↦ rw u (arrive_not unjoined (λ z. omega arith))
        ]

  -- by a port
  module _ (x d q : ℕ) (h : x < crossings G.counts) (half_is : d / 2 ≡ x) where
    port_on : Through x q (face d) → port_step G.counts sides (3 * triangles_in G.triangles) q (crossing_index G x) ≡ step G d
    unfolding port_step leave_by mate join_at
    port_on T =
        let j = q - 1 in
        let f = (q - 1) / 3 in
        let k = (q - 1) % 3 in
        let lf : f < triangles_in G.triangles = omega (arith, T.some, T.within) in
        let lk : k < 3 = omega arith in
        let en : edge_number G f k ≡ crossing_edge G x = sym (side_is (q - 1) (omega (arith, T.some, T.within))) ∙ T.is in
        let z : 3 * f + 0 ≡ 3 * f = omega arith in
        let c0 = rw z at (count-by f 0 lf (omega arith)) in
        let r : edge_rank G f (crossing_edge G x) ≡ k = ap (edge_rank G f) (sym en) ∙ rank_is G A f k lf lk in
        let m : join_at G f x ≡ flat_join (count_of_side G f 0) (count_of_side G f 1) (count_of_side G f 2) k (crossing_index G x) = rw r in
        rw (ne_eqb q 0 (λ y. omega (arith, T.some)), c0, count-by f 1 lf (omega arith), count-by f 2 lf (omega arith), step_is d, ← T.through, half_is, m)
        (arrive f lf k (crossing_index G x) lk (omega (arith, index_there G x h, ap (count_of G.counts) en)))

    port_off : q ≡ 0 → triangles_in G.triangles ≤ face d → port_step G.counts sides (3 * triangles_in G.triangles) q (crossing_index G x) ≡ step G d
    unfolding port_step
    port_off z l = rw (eq-eqb q 0 z, step_is d, half_is) (sym (land_off (face d) _ (mate_off (face d) x h l)))

  -- at each dart
  pub dart-step : (d : ℕ) → d < 2 * crossings G.counts → dart_step G.counts sides (3 * triangles_in G.triangles) d ≡ step G d
  unfolding dart_step crossing_edge crossing_index
  dart-step d h = elim (ℕ_discrete (d % 2) 0) [
    | yes z ↦
        let x = d / 2 in
        let lx : d / 2 < crossings G.counts = omega arith in
        let y : 2 * crossing_edge G (d / 2) + d % 2 ≡ 2 * crossing_edge G (d / 2) = omega arith in
        let e : d ≡ 2 * (d / 2) = omega arith in
        let f : face d ≡ first_triangle G (d / 2) = ap face e ∙ face_first (crossings G.counts) (first_triangle G) (second_triangle G) (mate G) (d / 2) in
        rw (y, port_first sides (3 * triangles_in G.triangles) (crossing_edge G (d / 2)))
        (port_on (d / 2) d _ lx refl (subst (λ f. Through (d / 2) (first_port sides (3 * triangles_in G.triangles) (crossing_edge G (d / 2))) f) (sym f) (by_first (d / 2) lx)))
    | no z ↦
        let lx : d / 2 < crossings G.counts = omega arith in
        let y : 2 * crossing_edge G (d / 2) + d % 2 ≡ 2 * crossing_edge G (d / 2) + 1 = omega arith in
        let e : d ≡ 2 * (d / 2) + 1 = omega arith in
        let f : face d ≡ second_triangle G (d / 2) = ap face e ∙ face_second (crossings G.counts) (first_triangle G) (second_triangle G) (mate G) (d / 2) in
        rw (y, port_second sides (3 * triangles_in G.triangles) (crossing_edge G (d / 2)))
        (⊎_elim (λ T. port_on (d / 2) d _ lx refl (subst (λ f. Through (d / 2) (second_port sides (3 * triangles_in G.triangles) (crossing_edge G (d / 2))) f) (sym f) T))
        (λ w. port_off (d / 2) d _ lx refl w.0 (rw f w.1)) (by_second (d / 2) lx))
  ]

  -- BEYOND THE DARTS there is no step

  module _ (x : ℕ) (h : crossings G.counts ≤ x) where
    edge_off : crossing_edge G x ≡ length G.counts
    unfolding crossing_edge row start
    edge_off =
        none_first (λ r. ltb x (pre (count_of G.counts) (suc r))) (length G.counts)
        (λ r l. le-ltb x (pre (count_of G.counts) (suc r)) (omega (arith, pre_next (count_of G.counts) 0 r, pre_le (count_of G.counts) 0 r (length G.counts) l)))

    ends_off : (i : ℕ) → get_or G.edges (2 * length G.counts + i) 0 ≡ 0
    ends_off i = get_or-eq_default G.edges 0 (omega (arith, A.pairs))

    no_edge : (f k : ℕ) → f < triangles_in G.triangles → k < 3 → EdgeIs G f k (length G.counts) → ⊥
    no_edge f k l lk is =
        let z : 2 * length G.counts + 0 ≡ 2 * length G.counts = omega arith in
        omega (arith, rw z at (ends_off 0), ends_off 1, is.low_is, is.high_is, A.increasing f (lower k) (upper k) l (face_ends k lk).0 (face_ends k lk).1)

    rank_off : (f : ℕ) → f < triangles_in G.triangles → edge_rank G f (crossing_edge G x) ≡ 3
    unfolding edge_rank
    rank_off f l =
        none_first (λ k. is_edge G f k (crossing_edge G x)) 3
        (λ k lk. not_clash (is_edge G f k (crossing_edge G x)) (λ t. no_edge f k l lk (edge_true G f k (length G.counts) (rw edge_off at t))))

    none_in : (f : ℕ) → f < triangles_in G.triangles → join_at G f x ≡ no_crossing
    unfolding join_at
    none_in f l = rw (rank_off f l) ((flat_laws (count_of_side G f 0) (count_of_side G f 1) (count_of_side G f 2)).off 3 (crossing_index G x) (inl (omega arith)))

    count_off : (f k : ℕ) → k < 3 → triangles_in G.triangles ≤ f → count_of_side G f k ≡ 0
    unfolding count_of_side edge_number
    count_off f k lk l =
        ap (count_of G.counts) (none_first (is_edge G f k) (length G.counts)
        (λ e le. not_clash (is_edge G f k e) (λ t. omega (arith, in_list G A f k e lk le (edge_true G f k e t)))))
        ∙ get_or-eq_default G.counts 0 (omega arith)

    none_out : (f : ℕ) → triangles_in G.triangles ≤ f → join_at G f x ≡ no_crossing
    unfolding join_at
    none_out f l =
        rw (count_off f 0 (omega arith) l, count_off f 1 (omega arith) l, count_off f 2 (omega arith) l)
        ((flat_laws 0 0 0).off (edge_rank G f (crossing_edge G x)) (crossing_index G x) (inr (omega (arith, no_count (edge_rank G f (crossing_edge G x))))))

    mate_none : (f : ℕ) → mate G f x ≡ crossings G.counts
    unfolding mate joined_to
    mate_none f = elim (dec_lt f (triangles_in G.triangles)) [
      | yes l ↦ rw (none_in f l)
      | no l ↦ rw (none_out f (omega arith))
    ]

  step_off : (d : ℕ) → 2 * crossings G.counts ≤ d → step G d ≡ 2 * crossings G.counts
  step_off d h = step_is d ∙ land_off (face d) _ (omega (arith, mate_none (d / 2) (omega arith) (face d)))

  -- TABLES

  -- no more edges than the triangles have
  place : ℕ → ℕ
  place e = first (same_key sides e) (3 * triangles_in G.triangles)

  place_lt : (e : ℕ) → e < length G.counts → place e < 3 * triangles_in G.triangles
  unfolding place
  place_lt e l =
      let (f, k, lf, lk, q) = (numbers G A).used e l in
      some_first (same_key sides e) (3 * triangles_in G.triangles)
      (some_found (same_key sides e) (3 * triangles_in G.triangles) (3 * f + k) (omega arith) (is_key e l (3 * f + k) (side_in f k lf lk ∙ q)))

  place_is : (e : ℕ) → e < length G.counts → get_or sides (place e) 0 ≡ e
  unfolding place
  place_is e l = key_is e l (place e) (first_is (same_key sides e) (3 * triangles_in G.triangles) (place_lt e l))

  few_edges : length G.counts ≤ 3 * triangles_in G.triangles
  few_edges = elim (dec_lt (3 * triangles_in G.triangles) (length G.counts)) [
    | yes l ↦ absurd (pigeonhole (3 * triangles_in G.triangles) place (λ i m. place_lt i (omega arith))
        (λ i j a b q. omega (arith, place_is i (omega arith), place_is j (omega arith), ap (λ x. get_or sides x 0) q)))
    | no l ↦ omega arith
  ]

  pub sides_are : Sides G.counts sides (3 * triangles_in G.triangles)
  sides_are = record {
    few = omega (arith, A.few_triangles);
    thirds = omega arith;
    room = S.room;
    listed = λ j h. rw (side_is j h) ((numbers G A).listed (j / 3) (j % 3) (omega arith) (omega arith));
    few_edges = omega (arith, few_edges, A.few_triangles);
    few_crossings = A.few_crossings;
  }

  -- the table has the step
  module _ (next : List ℕ) (T : Table (dart_step G.counts sides (3 * triangles_in G.triangles)) (2 * crossings G.counts) next) where
    pub along_step : step_in (crossings G.counts) next ≡ step G
    along_step = fun_ext (λ d. elim (dec_lt d (2 * crossings G.counts)) [
      | yes l ↦ along_at (crossings G.counts) next d l ∙ T.at d l ∙ dart-step d l
      | no l ↦ along_off (crossings G.counts) next d (omega arith) ∙ sym (step_off d (omega arith))
    ])

    pub linked : length next ≡ 2 * crossings G.counts → StepTable (crossings G.counts) next
    linked e =
        let D : Darts (2 * crossings G.counts) (crossings G.counts) (step_in (crossings G.counts) next) rev half = rw along_step (grid_darts G A) in
        record { few = A.few_crossings; whole = e; back = D.back; apart = D.s_ne }
