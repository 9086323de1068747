-- The loops of a nest by the numbers of E's crossings that remain: each of the m upper ones is on one of the m loops, and each loop has one of them.
use Prim.Native.Nat.{ℕ, suc, ◌+◌, ◌*◌, ◌-◌, ◌/◌, ◌≤◌, ◌<◌}
use mathlib.Core.Path.{◌≡◌, refl, sym, ap, ◌∙◌}
use mathlib.Core.Logic.{◌⊎◌, inl, inr, ⊎_elim}
use mathlib.Core.Bool.{Bool, true, false, not, ◌&&◌}
use native.Mathlib.Omega.{arith}
use native.Mathlib.Nat.{div-eq_of_eq-mul_left}
use lib.Dec.{eqb, ltb, leb}
use borrow.Author.Tests.{eqb-true, eq-eqb, ne_eqb, lt-ltb, le-ltb, lt-leb}
use Rattle.counting.specs.Pick.{pick}
use Rattle.counting.specs.Lists.{one, tally}
use Rattle.counting.specs.Search.{first, some, count}
use Rattle.counting.specs.Gcd.{gcd}
use Rattle.counting.proofs.Bools.{clash, not_clash, and_true, and_left, and_right, or_false}
use Rattle.counting.proofs.Gcd.{gcd_swap, gcd_zero, gcd_less}
use Rattle.counting.proofs.Involution.{injection}
use Rattle.counting.proofs.Kept.{tally_kept}
use Rattle.counting.proofs.Range.{total_ext}
use Rattle.counting.proofs.Search.{first_at, first_is, some_is, some_found, some_first, count_total, count_all, count_into, count_same}
use Rattle.walk.specs.Darts.{rev}
use Rattle.walk.proofs.Once.{same_start}
use Rattle.cell.specs.Cell.{Edges, crossings, edge, index, number, step}
use Rattle.cell.specs.Loop.{loop_size, dart, in_grid, leasts}
use Rattle.cell.specs.Nodes.{count_between}
use Rattle.cell.specs.claims.Nests.{greatest_of}
use Rattle.cell.proofs.Lay.{lay}
use Rattle.cell.proofs.Mates.{darts}
use Rattle.cell.proofs.Nesting.{greatest_is}
use Rattle.booking.specs.Booking.{least_corner, left_between}
use Rattle.booking.specs.claims.Claims.{OnLoop, Other, LoopLaws}
use Rattle.booking.proofs.Claims.{books}
use Rattle.booking.proofs.Corners.{is_in, in_corner}
use Rattle.split.proofs.Axis.{NestAxis, nest_larger, nest_smaller, nest_left, nest_ends}
use Rattle.places.proofs.Visits.{own_room, visits}

-- the loop from p goes through crossing r of those that remain of edge e, k of which are below
unfoldable pub passes : Edges → (e k p r : ℕ) → Bool
passes w e k p r = some (λ j. eqb (dart w p j / 2) (number w e (k + r))) (loop_size w p)

module _ (w : Edges) {m e b c : ℕ} (N : NestAxis w.count m e b c) where
  abbrev own : ℕ
  own = least_corner w.count 0

  laws : LoopLaws w
  laws = (books w N.level).loops

  -- m loops, of length 8
  gcd_same : gcd m m ≡ m
  gcd_same =
      let z : m - m ≡ 0 = omega arith in
      sym (gcd_less m m (omega arith) (omega (arith, N.many))) ∙ ap (λ k. gcd k m) z ∙ gcd_swap 0 m ∙ gcd_zero m

  pub other_many : tally (λ p. not (eqb (loop_size w p) 3)) (leasts w) ≡ m
  other_many = laws.others ∙ rw (nest_larger N, nest_smaller N) gcd_same

  pub other_eight : (p : ℕ) → Other w p → loop_size w p ≡ 8
  other_eight p O = laws.other-length p O ∙ rw (nest_larger N, nest_smaller N, gcd_same) (div-eq_of_eq-mul_left (omega (arith, N.many)) (omega arith))

  -- the crossing r that remains of E
  module _ (r : ℕ) (l : r < 2 * m) where
    abbrev x : ℕ
    x = number w e (own + r)

    low : e < 6
    low = omega (arith, (nest_ends N).lt)

    pub there_lt : x < crossings w
    there_lt = (lay w).number_lt e (own + r) low (own_room w N r l)

    pub there_edge : edge w x ≡ e
    there_edge = (lay w).number_edge e (own + r) low (own_room w N r l)

    pub there_index : index w x ≡ own + r
    there_index = (lay w).number_index e (own + r) low (own_room w N r l)

  -- the loop from p, of length 8, whose crossing at the place `at` is the crossing m + i that remains
  module _ (p : ℕ) (lp : p < crossings w) (z : loop_size w p ≡ 8) (i : ℕ) (li : i < m) (at : ℕ) (la : at < 8)
      (is : dart w p at / 2 ≡ number w e (own + (m + i))) where
    at_edge : edge w (dart w p at / 2) ≡ e
    at_edge = ap (edge w) is ∙ there_edge (m + i) (omega arith)

    at_index : index w (dart w p at / 2) ≡ own + (m + i)
    at_index = ap (index w) is ∙ there_index (m + i) (omega arith)

    -- its places on E
    on-edge : (j : ℕ) → j < 8 → edge w (dart w p j / 2) ≡ e → (index w (dart w p j / 2) ≡ own + (m + i)) ⊎ (index w (dart w p j / 2) ≡ own + (2 * m - 1 - (m + i)))
    on-edge j h f =
        ⊎_elim (λ (q : j ≡ at). inl (rw q at_index)) (λ (q : index w (dart w p j / 2) ≡ own + (2 * m - 1 - (m + i))). inr q)
        (visits w N p lp z at la (m + i) (omega arith) at_edge at_index j h f)

    abbrev value : ℕ → ℕ
    value j = pick (eqb (edge w (dart w p j / 2)) e) (in_grid w (dart w p j / 2)) 0

    value_on : (j : ℕ) → edge w (dart w p j / 2) ≡ e → value j ≡ w.start e + index w (dart w p j / 2)
    unfolding in_grid
    value_on j f = rw (f, eq-eqb e e refl)

    bound : (j : ℕ) → j < 8 → value j ≤ value at
    bound j h = go (eqb (edge w (dart w p j / 2)) e) refl
      where
        go : (t : Bool) → eqb (edge w (dart w p j / 2)) e ≡ t → value j ≤ value at
        go true q =
            let f = eqb-true (edge w (dart w p j / 2)) e q in
            ⊎_elim (λ g. omega (arith, value_on j f, value_on at at_edge, at_index, g)) (λ g. omega (arith, value_on j f, value_on at at_edge, at_index, g)) (on-edge j h f)
        go false q = rw q (omega arith)

    -- its greatest crossing number there
    pub highest_is : greatest_of value (loop_size w p) ≡ w.start e + (own + (m + i))
    highest_is = ap (greatest_of value) z ∙ greatest_is value 8 at la bound ∙ value_on at at_edge ∙ ap (λ k. w.start e + k) at_index

    -- it goes through no other of the upper ones
    passes_only : (k : ℕ) → k < m → passes w e own p (m + k) ≡ true → k ≡ i
    unfolding passes
    passes_only k lk h =
        let (j, lj, q) = some_is (λ j. eqb (dart w p j / 2) (number w e (own + (m + k)))) (loop_size w p) h in
        let x = eqb-true (dart w p j / 2) (number w e (own + (m + k))) q in
        let f = ap (edge w) x ∙ there_edge (m + k) (omega arith) in
        let g = ap (index w) x ∙ there_index (m + k) (omega arith) in
        ⊎_elim (λ o. omega (arith, g, o)) (λ o. omega (arith, g, o)) (on-edge j (omega (arith, z)) f)

    pub first_is_i : first (λ k. passes w e own p (m + k)) m ≡ i
    unfolding passes
    first_is_i =
        first_at (λ k. passes w e own p (m + k)) m i li
        (some_found (λ j. eqb (dart w p j / 2) (number w e (own + (m + i)))) (loop_size w p) at (omega (arith, z)) (eq-eqb (dart w p at / 2) (number w e (own + (m + i))) is))
        (λ k h. not_clash (passes w e own p (m + k)) (λ q. omega (arith, passes_only k (omega arith) q)))

  -- the crossing m + i is in no corner triangle
  upper_left : (i : ℕ) → i < m → is_in w (number w e (own + (m + i))) ≡ false
  unfolding left_between
  upper_left i l =
      let E = nest_ends N in
      let f = nest_left N in
      rw (there_edge (m + i) (omega arith), there_index (m + i) (omega arith), E.lower, E.upper)
      (or_false (ltb (own + (m + i)) own) (leb (w.count e) (own + (m + i) + least_corner w.count (suc e)))
      (le-ltb (own + (m + i)) own (omega arith)) (lt-leb (w.count e) (own + (m + i) + least_corner w.count (suc e)) (rw E.joins at (below (count_between w.count 0 (suc e)) f))))
    where
      below : (k : ℕ) → k - own - least_corner w.count (suc e) ≡ 2 * m → own + (m + i) + least_corner w.count (suc e) < k
      below k f = omega (arith, N.many)

  -- what it is to go through it
  module _ (p : ℕ) (lp : p < crossings w) (i : ℕ) (li : i < m) (h : passes w e own p (m + i) ≡ true) where
    abbrev X : ℕ
    X = number w e (own + (m + i))

    on_upper : OnLoop w X p
    unfolding passes
    on_upper =
        let (j, lj, q) = some_is (λ j. eqb (dart w p j / 2) X) (loop_size w p) h in
        record { start = lp; at = j; at_lt = lj; is = eqb-true (dart w p j / 2) X q }

    pub is-other : Other w p
    is-other = record {
      start = lp;
      some = omega (arith, on_upper.at_lt);
      no_three = λ t. clash (in_corner w N.level X (laws.three_in X p on_upper t)) (upper_left i li);
    }

    eight : loop_size w p ≡ 8
    eight = other_eight p is-other

    pub rank_first : first (λ k. passes w e own p (m + k)) m ≡ i
    rank_first = first_is_i p lp eight i li on_upper.at (omega (arith, on_upper.at_lt, eight)) on_upper.is

    pub rank_highest : greatest_of (λ j. pick (eqb (edge w (dart w p j / 2)) e) (in_grid w (dart w p j / 2)) 0) (loop_size w p) ≡ w.start e + (own + (m + i))
    rank_highest = highest_is p lp eight i li on_upper.at (omega (arith, on_upper.at_lt, eight)) on_upper.is

  -- the loop through it
  abbrev pub the_loop : ℕ → ℕ
  the_loop i = first (λ p. passes w e own p (m + i)) (crossings w)

  module _ (i : ℕ) (li : i < m) where
    pub loop_lt : the_loop i < crossings w
    unfolding passes
    loop_lt =
        let (p, O) = laws.on (number w e (own + (m + i))) (there_lt (m + i) (omega arith)) in
        some_first (λ p. passes w e own p (m + i)) (crossings w)
        (some_found (λ p. passes w e own p (m + i)) (crossings w) p O.start
        (some_found (λ j. eqb (dart w p j / 2) (number w e (own + (m + i)))) (loop_size w p) O.at O.at_lt (eq-eqb (dart w p O.at / 2) (number w e (own + (m + i))) O.is)))

    pub loop_passes : passes w e own (the_loop i) (m + i) ≡ true
    loop_passes = first_is (λ p. passes w e own p (m + i)) (crossings w) loop_lt

  -- so each loop that is no triangle goes through one of them
  abbrev is_other : ℕ → Bool
  is_other p = pick (ltb 0 (loop_size w p)) (not (eqb (loop_size w p) 3)) false

  other_is : (p : ℕ) → Other w p → is_other p ≡ true
  other_is p O = rw (lt-ltb 0 (loop_size w p) O.some, ne_eqb (loop_size w p) 3 O.no_three)

  count_others : count is_other (crossings w) ≡ m
  unfolding leasts
  count_others =
      count_total is_other (crossings w)
      ∙ total_ext (λ p. one (is_other p)) (λ p. pick (ltb 0 (loop_size w p)) (one (not (eqb (loop_size w p) 3))) 0) (crossings w) 0 (λ p _ _. go (ltb 0 (loop_size w p)) (not (eqb (loop_size w p) 3)))
      ∙ sym (tally_kept (λ p. ltb 0 (loop_size w p)) (λ p. not (eqb (loop_size w p) 3)) (crossings w) 0)
      ∙ other_many
    where
      go : (a b : Bool) → one (pick a b false) ≡ pick a (one b) 0
      go true b = refl
      go false b = refl

  abbrev goes : ℕ → Bool
  goes p = some (λ i. passes w e own p (m + i)) m && is_other p

  enough : m ≤ count goes (crossings w)
  enough = rw (count_all (λ i. true) m (λ i l. refl)) at (injection (λ i. true) goes m (crossings w) the_loop (record {
    lands = λ i l _. loop_lt i l;
    passes = λ i l _. and_true (some (λ k. passes w e own (the_loop i) (m + k)) m) (is_other (the_loop i))
        (some_found (λ k. passes w e own (the_loop i) (m + k)) m i l (loop_passes i l))
        (other_is (the_loop i) (is-other (the_loop i) (loop_lt i l) i l (loop_passes i l)));
    apart = λ i j li lj _ _ q.
        sym (rank_first (the_loop i) (loop_lt i li) i li (loop_passes i li))
        ∙ ap (λ p. first (λ k. passes w e own p (m + k)) m) q
        ∙ rank_first (the_loop j) (loop_lt j lj) j lj (loop_passes j lj);
  }))

  pub other_passes : (p : ℕ) → Other w p → (i : ℕ) × (i < m) × (passes w e own p (m + i) ≡ true)
  other_passes p O =
      let into : (q : ℕ) → goes q ≡ true → is_other q ≡ true = λ q. and_right (some (λ i. passes w e own q (m + i)) m) (is_other q) in
      let same = count_same goes is_other into (crossings w) (omega (arith, enough, count_others, count_into goes is_other into (crossings w))) p O.start in
      some_is (λ i. passes w e own p (m + i)) m (and_left (some (λ i. passes w e own p (m + i)) m) (is_other p) (same ∙ other_is p O))

  -- and only one loop goes through each
  pub one_loop : (p i : ℕ) → p < crossings w → (l : i < m) → passes w e own p (m + i) ≡ true → p ≡ the_loop i
  unfolding loop_size dart
  one_loop p i lp l h =
      let O = on_upper p lp i l h in
      let U = on_upper (the_loop i) (loop_lt i l) i l (loop_passes i l) in
      same_start (crossings w) (step w) rev (darts w) p (the_loop i) (number w e (own + (m + i))) lp (loop_lt i l)
      (record { at = O.at; at_lt = O.at_lt; is = O.is }) (record { at = U.at; at_lt = U.at_lt; is = U.is })
