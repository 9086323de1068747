-- The nests of 02 are those by counts, and so are the middles of their loops; each loop has its own i.
use Prim.Native.Nat.{ℕ, ◌+◌, ◌*◌, ◌<◌}
use mathlib.Core.Path.{◌≡◌, refl, sym, ap, ◌∙◌}
use mathlib.Core.Logic.{⊎_elim, ◌≢◌}
use mathlib.Core.Bool.{Bool, true, false, not, ◌&&◌}
use mathlib.Core.List.{List, [], ◌∷◌}
use native.Mathlib.Omega.{arith}
use native.Mathlib.Nat.{mul_comm, eq-zero-or-pos, le_of_dvd}
use lib.Dec.{eqb, ltb}
use lib.Ieee.{Float, nan, inf, fin, Format, binary64, up, down, unlike, mul}
use borrow.Author.Tests.{eqb-true, eqb-false, eq-eqb, ne_eqb, ltb-true, lt-ltb}
use Rattle.counting.specs.Pick.{pick}
use Rattle.counting.specs.Lists.{one, tally, total}
use Rattle.counting.specs.Search.{first}
use Rattle.counting.specs.Gcd.{gcd}
use Rattle.counting.proofs.Bools.{clash, bool_same, and_true, and_left, and_right}
use Rattle.counting.proofs.Gcd.{gcd_both}
use Rattle.counting.proofs.Kept.{tally_kept}
use Rattle.counting.proofs.Range.{total_ext, total_one, total_pos, over_ext}
use Rattle.counting.proofs.Search.{first_ext}
use Rattle.slots.specs.Slots.{lo}
use Rattle.place.specs.declared.Place.{Place}
use Rattle.place.specs.Place.{between, middle}
use Rattle.manifold.specs.Shape.{has_middle}
use Rattle.manifold.proofs.Shapes.{middle_fan}
use Rattle.cell.specs.declared.Cell.{Cell}
use Rattle.cell.specs.Cell.{Edges, crossings}
use Rattle.cell.specs.Of.{count_of, edges_of}
use Rattle.cell.specs.Loop.{loop_size, normal, leasts}
use Rattle.cell.specs.Level.{is_level_cell}
use Rattle.cell.specs.claims.Nests.{nest_edge, nest_count, nest_low, nest_rank, on_axis, nest_middle}
use Rattle.cell.specs.Middles.{is_fan, loop_point, corner_place}
use Rattle.cell.specs.claims.Middles.{fan_middle, loop_middle, cell_middles}
use Rattle.booking.specs.Booking.{least_corner, larger, smaller}
use Rattle.booking.specs.claims.Booking.{other_length}
use Rattle.booking.specs.claims.Claims.{Other, LoopLaws}
use Rattle.booking.proofs.Claims.{books}
use Rattle.booking.proofs.Counts.{own}
use Rattle.booking.proofs.Numbers.{long_times}
use Rattle.places.specs.Nested.{octagons, other_loops, is_nested, axis_edge, remaining, through, nest_number, point_onward, nested_middle, placed_middle, placed_middles}
use Rattle.places.specs.claims.Claims.{NestedByCounts, EachOnce, NestsAgree}
use Rattle.split.proofs.Axis.{NestAxis, nest_larger, nest_smaller, nest_left, nest_opposite, nest_ends, nest_first, counts_nest, nest_counts, nest-corner}
use Rattle.places.proofs.Ranks.{passes, other_many, other_eight, the_loop, loop_lt, loop_passes, is-other, rank_first, rank_highest, other_passes, one_loop}

-- a product either way round
unlike_swap : (s t : Bool) → unlike s t ≡ unlike t s
unlike_swap true true = refl
unlike_swap true false = refl
unlike_swap false true = refl
unlike_swap false false = refl

mul_swap : (f : Format) (x y : Float) → mul f x y ≡ mul f y x
unfolding mul
mul_swap f nan nan = refl
mul_swap f nan (inf t) = refl
mul_swap f nan (fin t n d) = refl
mul_swap f (inf s) nan = refl
mul_swap f (inf s) (inf t) = ap inf (unlike_swap s t)
mul_swap f (inf s) (fin t n d) = rw (unlike_swap s t)
mul_swap f (fin s m e) nan = refl
mul_swap f (fin s m e) (inf t) = rw (unlike_swap s t)
mul_swap f (fin s m e) (fin t n d) = rw (unlike_swap s t, mul_comm (m * up e) (n * up d), mul_comm (down e) (down d))

onward_is : (a b : Place) (f : Float) → between a b f ≡ point_onward a b f
onward_is a b f = simp (mul_swap binary64 f)

-- a loop that is drawn as a fan is no triangle
pub not_three : (n : ℕ) (b : Bool) → has_middle n b ≡ true → n ≢ 3
unfolding has_middle
not_three n b h e = clash h (ap (λ k. has_middle k b) e)

-- a number of loops that is above 0: there is one
one_of : (a b : Bool) → 0 < pick a (one b) 0 → b ≡ true
one_of true true h = refl
one_of true false h = absurd (omega arith)
one_of false b h = absurd (omega arith)

module _ (c : Cell) where
  abbrev w : Edges
  w = edges_of c

  abbrev n : ℕ → ℕ
  n = count_of c

  -- what is tallied of the loops
  tallied : (t : ℕ → Bool) → tally t (leasts w) ≡ total (λ p. pick (ltb 0 (loop_size w p)) (one (t p)) 0) (crossings w) 0
  unfolding leasts
  tallied t = tally_kept (λ p. ltb 0 (loop_size w p)) t (crossings w) 0

  -- a nest by counts is one of 02
  module _ {m e b d : ℕ} (N : NestAxis n m e b d) where
    nest_others : other_loops c ≡ m
    unfolding other_loops
    nest_others = other_many w N

    nest_octagons : octagons c ≡ m
    unfolding octagons
    nest_octagons =
        tallied (λ p. eqb (loop_size w p) 8)
        ∙ total_ext (λ p. pick (ltb 0 (loop_size w p)) (one (eqb (loop_size w p) 8)) 0) (λ p. pick (ltb 0 (loop_size w p)) (one (not (eqb (loop_size w p) 3))) 0) (crossings w) 0 (λ p _ l. same p (omega arith))
        ∙ sym (tallied (λ p. not (eqb (loop_size w p) 3)))
        ∙ other_many w N
      where
        same : (p : ℕ) → p < crossings w → pick (ltb 0 (loop_size w p)) (one (eqb (loop_size w p) 8)) 0 ≡ pick (ltb 0 (loop_size w p)) (one (not (eqb (loop_size w p) 3))) 0
        same p l = go (ltb 0 (loop_size w p)) (eqb (loop_size w p) 3) refl refl
          where
            go : (a t : Bool) → ltb 0 (loop_size w p) ≡ a → eqb (loop_size w p) 3 ≡ t → pick a (one (eqb (loop_size w p) 8)) 0 ≡ pick a (one (not t)) 0
            go false t q r = refl
            go true true q r = ap one (ne_eqb (loop_size w p) 8 (omega (arith, eqb-true (loop_size w p) 3 r)))
            go true false q r = ap one (eq-eqb (loop_size w p) 8 (other_eight w N p (record { start = l; some = ltb-true 0 (loop_size w p) q; no_three = eqb-false (loop_size w p) 3 r })))

    nest_nested : is_nested c ≡ true
    unfolding is_nested
    nest_nested =
        and_true (is_level_cell n) (eqb (other_loops c) (octagons c) && ltb 1 (octagons c)) N.level
        (and_true (eqb (other_loops c) (octagons c)) (ltb 1 (octagons c)) (eq-eqb (other_loops c) (octagons c) (nest_others ∙ sym nest_octagons))
        (lt-ltb 1 (octagons c) (omega (arith, nest_octagons, N.many))))

  -- and a nest of 02 is one by counts: a loop of length 8 has d1 + d2 = 2 * gcd d1 d2
  module _ (K : is_level_cell n ≡ true) (e : other_loops c ≡ octagons c) (l : 1 < octagons c) where
    laws : LoopLaws w
    laws = (books w K).loops

    abbrev g : ℕ
    g = gcd (larger n) (smaller n)

    many : g ≡ octagons c
    unfolding other_loops
    many = sym laws.others ∙ e

    an_octagon : (p : ℕ) × (Other w p) × (loop_size w p ≡ 8)
    unfolding octagons
    an_octagon =
        let (p, _, lp, h) = total_pos (λ p. pick (ltb 0 (loop_size w p)) (one (eqb (loop_size w p) 8)) 0) (crossings w) 0 (omega (arith, tallied (λ p. eqb (loop_size w p) 8), l)) in
        let z = eqb-true (loop_size w p) 8 (one_of (ltb 0 (loop_size w p)) (eqb (loop_size w p) 8) h) in
        (p, record { start = omega arith; some = omega arith; no_three = omega arith }, z)

    double : larger n + smaller n ≡ 2 * g
    unfolding other_length
    double =
        let (p, O, z) = an_octagon in
        let f : other_length n ≡ 8 = sym (laws.other-length p O) ∙ z in
        omega (arith, rw f at (long_times n))

    smaller_some : 0 < smaller n
    smaller_some =
        let (p, O, z) = an_octagon in
        ⊎_elim (λ (q : smaller n ≡ 0). absurd (omega (arith, laws.quad q p O))) (λ (q : 0 < smaller n). q) (eq-zero-or-pos (smaller n))

    counts_edge : nest_edge n < 3
    counts_edge =
        let O = own n in
        let s = smaller_some in
        let (p, q) = gcd_both (larger n) (smaller n) (omega arith) in
        let a = le_of_dvd (omega (arith, O)) p in
        let b = le_of_dvd s q in
        nest_counts n K {m = g} (omega (arith, double)) (omega (arith, double)) (omega (arith, many))

  pub same_test : is_nested c ≡ ltb (nest_edge n) 3
  unfolding is_nested
  same_test =
      bool_same (is_nested c) (ltb (nest_edge n) 3)
      (λ h. (let r = and_right (is_level_cell n) (eqb (other_loops c) (octagons c) && ltb 1 (octagons c)) h in
      lt-ltb (nest_edge n) 3 (counts_edge (and_left (is_level_cell n) (eqb (other_loops c) (octagons c) && ltb 1 (octagons c)) h)
      (eqb-true (other_loops c) (octagons c) (and_left (eqb (other_loops c) (octagons c)) (ltb 1 (octagons c)) r))
      (ltb-true 1 (octagons c) (and_right (eqb (other_loops c) (octagons c)) (ltb 1 (octagons c)) r)))))
      (λ h. (let (b, d, N) = counts_nest n (ltb-true (nest_edge n) 3 h) in nest_nested N))

  -- E, m and i in a nest
  module _ {b d : ℕ} (N : NestAxis n (nest_count n) (nest_edge n) b d) where
    abbrev m : ℕ
    m = nest_count n

    abbrev e : ℕ
    e = nest_edge n

    pub axis_is : axis_edge c ≡ e
    unfolding axis_edge
    axis_is = rw (nest_octagons N) (nest_first N)

    through_is : (p r : ℕ) → through c p r ≡ passes w e (least_corner n 0) p r
    unfolding through remaining passes
    through_is p r = ap (λ k. passes w k (least_corner n (lo k)) p r) axis_is ∙ ap (λ k. passes w e (least_corner n k) p r) (nest_ends N).lower

    number_is : (p : ℕ) → nest_number c p ≡ first (λ i. passes w e (least_corner n 0) p (m + i)) m
    unfolding nest_number
    number_is p = rw (nest_octagons N) (first_ext (λ i. through c p (m + i)) (λ i. passes w e (least_corner n 0) p (m + i)) m (λ i _. through_is p (m + i)))

    -- both are i where the loop goes through number m + i
    number_at : (p i : ℕ) → p < crossings w → i < m → passes w e (least_corner n 0) p (m + i) ≡ true → nest_number c p ≡ i
    number_at p i lp li h = number_is p ∙ rank_first w N p lp i li h

    rank_at : (p i : ℕ) → p < crossings w → i < m → passes w e (least_corner n 0) p (m + i) ≡ true → nest_rank c p ≡ i
    unfolding nest_rank nest_low
    rank_at p i lp li h = omega (arith, rank_highest w N p lp i li h, nest-corner n N)

    rank_same : (p : ℕ) → Other w p → nest_rank c p ≡ nest_number c p
    rank_same p O = let (i, li, h) = other_passes w N p O in rank_at p i O.start li h ∙ sym (number_at p i O.start li h)

    number_lt : (p : ℕ) → Other w p → nest_number c p < octagons c
    number_lt p O = let (i, li, h) = other_passes w N p O in omega (arith, number_at p i O.start li h, nest_octagons N)

    -- each i is that of one loop
    once : (i : ℕ) → i < octagons c → tally (λ p. not (eqb (loop_size w p) 3) && eqb (nest_number c p) i) (leasts w) ≡ 1
    once i l =
        let li : i < m = omega (arith, nest_octagons N) in
        let q = the_loop w N i in
        let lq = loop_lt w N i li in
        let h = loop_passes w N i li in
        let O = is-other w N q lq i li h in
        tallied (λ p. not (eqb (loop_size w p) 3) && eqb (nest_number c p) i)
        ∙ total_one (λ p. pick (ltb 0 (loop_size w p)) (one (not (eqb (loop_size w p) 3) && eqb (nest_number c p) i)) 0) (crossings w) 0 q (omega arith) (omega (arith, lq))
        (rw (lt-ltb 0 (loop_size w q) O.some, ne_eqb (loop_size w q) 3 O.no_three, eq-eqb (nest_number c q) i (number_at q i lq li h)))
        (λ p _ lp ne. other p (omega arith) li ne)
      where
        other : (p : ℕ) → p < crossings w → (li : i < m) → p ≢ the_loop w N i → pick (ltb 0 (loop_size w p)) (one (not (eqb (loop_size w p) 3) && eqb (nest_number c p) i)) 0 ≡ 0
        other p lp li ne = go (ltb 0 (loop_size w p)) (eqb (loop_size w p) 3) (eqb (nest_number c p) i) refl refl refl
          where
            go : (a t u : Bool) → ltb 0 (loop_size w p) ≡ a → eqb (loop_size w p) 3 ≡ t → eqb (nest_number c p) i ≡ u → pick a (one (not t && u)) 0 ≡ 0
            go false t u x y z = refl
            go true true u x y z = refl
            go true false false x y z = refl
            go true false true x y z =
                let (k, lk, h) = other_passes w N p (record { start = lp; some = ltb-true 0 (loop_size w p) x; no_three = eqb-false (loop_size w p) 3 y }) in
                let f : k ≡ i = sym (number_at p k lp lk h) ∙ eqb-true (nest_number c p) i z in
                absurd (ne (one_loop w N p i lp li (rw f at h)))

    -- the middle is the same
    pub middle_same : (corner : ℕ → Place) (p : ℕ) → Other w p → nest_middle corner c p ≡ nested_middle corner c p
    unfolding nest_middle nested_middle on_axis
    middle_same corner p O = rw (axis_is, nest_octagons N, rank_same p O) (onward_is _ _ _)

-- the middles of a cell's fans
module _ (nodes : List Float) (place : ℕ → Place) (c : Cell) where
  loop_same : (p : ℕ) → p < crossings (edges_of c) → loop_middle nodes place c p ≡ placed_middle nodes place c p
  unfolding loop_middle fan_middle placed_middle is_fan
  loop_same p l = rw (same_test c) (go (is_fan c p) refl (ltb (nest_edge (count_of c)) 3) refl)
    where
      go : (f : Bool) → is_fan c p ≡ f → (t : Bool) → ltb (nest_edge (count_of c)) 3 ≡ t
          → pick f (pick t (nest_middle (corner_place nodes c) c p) (middle (λ k. place (loop_point c p k)) (loop_size (edges_of c) p)) ∷ []) []
          ≡ pick f (pick t (nested_middle (corner_place nodes c) c p) (middle (λ k. place (loop_point c p k)) (loop_size (edges_of c) p)) ∷ []) []
      go false q t r = refl
      go true q false r = refl
      go true q true r =
          let (b, d, N) = counts_nest (count_of c) (ltb-true (nest_edge (count_of c)) 3 r) in
          let k = loop_size (edges_of c) p in
          let f = normal (edges_of c) p in
          ap (λ (x : Place). x ∷ []) (middle_same c N (corner_place nodes c) p (record { start = l; some = (middle_fan k f q).0; no_three = not_three k f q }))

  pub by_counts : cell_middles nodes place c ≡ placed_middles nodes place c
  unfolding cell_middles placed_middles
  by_counts = over_ext (loop_middle nodes place c) (placed_middle nodes place c) (crossings (edges_of c)) 0 (λ p _ l. loop_same p (omega arith))

pub nests_agree : NestsAgree
nests_agree = by_counts

pub nested_by_counts : NestedByCounts
nested_by_counts c =
    same_test c
    ∙ bool_same (ltb (nest_edge n) 3) (is_level_cell n && (eqb (larger n) (smaller n) && ltb 1 (smaller n)))
    (λ h. (let (b, d, N) = counts_nest n (ltb-true (nest_edge n) 3 h) in
    and_true (is_level_cell n) (eqb (larger n) (smaller n) && ltb 1 (smaller n)) N.level
    (and_true (eqb (larger n) (smaller n)) (ltb 1 (smaller n)) (eq-eqb (larger n) (smaller n) (nest_larger N ∙ sym (nest_smaller N))) (lt-ltb 1 (smaller n) (omega (arith, nest_smaller N, N.many))))))
    (λ h. (let r = and_right (is_level_cell n) (eqb (larger n) (smaller n) && ltb 1 (smaller n)) h in
    lt-ltb (nest_edge n) 3 (nest_counts n (and_left (is_level_cell n) (eqb (larger n) (smaller n) && ltb 1 (smaller n)) h)
    (eqb-true (larger n) (smaller n) (and_left (eqb (larger n) (smaller n)) (ltb 1 (smaller n)) r)) refl
    (ltb-true 1 (smaller n) (and_right (eqb (larger n) (smaller n)) (ltb 1 (smaller n)) r)))))
  where
    n : ℕ → ℕ
    n = count_of c

pub each_once : EachOnce
each_once c h =
    let (b, d, N) = counts_nest (count_of c) (ltb-true (nest_edge (count_of c)) 3 (sym (same_test c) ∙ h)) in
    let E = nest_ends N in
    record {
      many = nest_octagons c N ∙ sym (nest_larger N);
      keeps = rw (axis_is c N, nest_octagons c N, E.lower, E.upper) (nest_left N);
      opposite = rw (axis_is c N, nest_octagons c N, E.low_opposite, E.high_opposite) (nest_opposite N);
      below = number_lt c N;
      once = once c N;
    }
