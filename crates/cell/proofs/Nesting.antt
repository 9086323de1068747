-- The nest of a cell, from its counts and from the records of its loops.
use Prim.Native.Nat.{ℕ, zero, suc, ◌+◌, ◌-◌, ◌*◌, ◌/◌, ◌%◌, ◌≤◌, ◌<◌, max}
use mathlib.Core.Path.{◌≡◌, refl, sym, ap, ap₂, ◌∙◌}
use mathlib.Core.Logic.{◌≢◌}
use mathlib.Core.Bool.{Bool, true, false}
use mathlib.Core.List.{List}
use native.Mathlib.Numerals.{add-one}
use native.Mathlib.Omega.{arith}
use native.Mathlib.Decide.{dec_lt}
use lib.Dec.{eqb, ltb}
use lib.ListN.{length, get_or}
use lib.Ieee.{Float}
use borrow.Author.Tests.{eqb-true, ltb-true, eq-eqb, ne_eqb}
use Rattle.counting.specs.Pick.{pick}
use Rattle.counting.specs.Lists.{total, values, pre}
use Rattle.counting.specs.Search.{every}
use Rattle.counting.proofs.Bools.{and_left, and_right, not_clash}
use Rattle.counting.proofs.Lists.{values_at}
use Rattle.slots.specs.Slots.{slot_edge}
use Rattle.face.specs.claims.Level.{Level}
use Rattle.face.proofs.Level.{level_turn, level_swap}
use Rattle.place.specs.declared.Place.{Place}
use Rattle.place.specs.Place.{part_of, between}
use Rattle.cell.specs.declared.Cell.{Cell}
use Rattle.cell.specs.declared.Nest.{Nest}
use Rattle.cell.specs.Cell.{edge}
use Rattle.cell.specs.Of.{count_of, start_of, edges_of}
use Rattle.cell.specs.claims.Half.{edge_of}
use Rattle.cell.specs.Level.{by_edge, is_level_cell}
use Rattle.cell.specs.Loop.{loop_size, dart, in_grid}
use Rattle.cell.specs.claims.Nests.{greatest_of, exceeds, exceeding, pair_at, nest_edge, nest_count, nest_corner, nest_low, nest_rank, on_axis, nest_middle}
use Rattle.cell.specs.Middles.{half_sum, corner_place}
use Rattle.cell.specs.work.Centres.{highest_on, NestOn, NestOf, recorded_nested}
use Rattle.cell.proofs.Levels.{slot_level}
use Rattle.cell.proofs.Loops.{from_point, from_edge}
use Rattle.cell.proofs.Going.{Looped, looped_halves}

-- the greatest of values
module _ (f : ℕ → ℕ) where
  pub greatest_none : 0 ≡ greatest_of f 0
  unfolding greatest_of
  greatest_none = refl

  pub greatest_more : (k : ℕ) {m x : ℕ} → m ≡ greatest_of f k → x ≡ max m (f k) → x ≡ greatest_of f (k + 1)
  unfolding greatest_of
  greatest_more k e q = rw (add-one k, ← e) q

  pub greatest_has : (n k : ℕ) → k < n → f k ≤ greatest_of f n
  unfolding greatest_of
  greatest_has zero k l = absurd (omega arith)
  greatest_has (suc n) k l = elim (dec_lt k n) [
    | yes h ↦ omega (arith, greatest_has n k h)
    | no h ↦ (let e : k ≡ n = omega arith in rw e (omega arith))
  ]

  -- no value is above m, and one has it
  pub greatest_le : (n m : ℕ) → ((k : ℕ) → k < n → f k ≤ m) → greatest_of f n ≤ m
  unfolding greatest_of
  greatest_le zero m h = omega arith
  greatest_le (suc n) m h = omega (arith, greatest_le n m (λ k l. h k (omega arith)), h n (omega arith))

  pub greatest_is : (n k : ℕ) → k < n → ((j : ℕ) → j < n → f j ≤ f k) → greatest_of f n ≡ f k
  greatest_is n k l h = omega (arith, greatest_has n k l, greatest_le n (f k) h)

pub greatest_ext : (f g : ℕ → ℕ) (n : ℕ) → ((k : ℕ) → k < n → f k ≡ g k) → greatest_of f n ≡ greatest_of g n
unfolding greatest_of
greatest_ext f g zero h = refl
greatest_ext f g (suc n) h = ap₂ max (greatest_ext f g n (λ k l. h k (omega arith))) (h n (omega arith))

-- which of three exceeds the others, as the code asks
module _ (x y z : ℕ) where
  pub above_same : y ≡ z → ltb (y + 2) x ≡ exceeds x y z
  unfolding exceeds
  above_same e = rw (eq-eqb y z e)

  pub above_not : y ≢ z → false ≡ exceeds x y z
  unfolding exceeds
  above_not n = rw (ne_eqb y z n)

  pub above_first : exceeds x y z ≡ true → 0 ≡ exceeding x y z
  unfolding exceeding
  above_first e = rw e

  pub above_second : exceeds x y z ≡ false → exceeds y z x ≡ true → 1 ≡ exceeding x y z
  unfolding exceeding
  above_second e f = rw (e, f)

  pub above_third : exceeds x y z ≡ false → exceeds y z x ≡ false → exceeds z x y ≡ true → 2 ≡ exceeding x y z
  unfolding exceeding
  above_third e f g = rw (e, f, g)

  pub above_none : exceeds x y z ≡ false → exceeds y z x ≡ false → exceeds z x y ≡ false → 3 ≡ exceeding x y z
  unfolding exceeding
  above_none e f g = rw (e, f, g)

-- A nest has 16 crossings or more. The edges with the counts a and b are opposite, as are those with p and s and those with q and r; three counts are
-- a face's where rule 1 is said of them.
twice_beside : (a b p q r s : ℕ) → a ≤ p + r → a ≤ q + s → b ≤ p + q → b ≤ r + s → p + s ≡ q + r → a + b ≤ 2 * (p + s)
twice_beside a b p q r s h i j k e = omega arith

even_both : (a b p r s : ℕ) → (a + p + r) % 2 ≡ 0 → (b + r + s) % 2 ≡ 0 → (a + b + (p + s)) % 2 ≡ 0
even_both a b p r s h i = omega arith

by_two_sums : {x y z : ℕ} → y ≡ z → y + 2 < x → (x + y) % 2 ≡ 0 → x ≤ 2 * y → 16 ≤ x + y + z
by_two_sums e h i j = omega arith

sixteen : {a b p q r s : ℕ} → Level a p r → Level a q s → Level b p q → Level b r s → exceeds (a + b) (p + s) (q + r) ≡ true → 16 ≤ a + b + (p + s) + (q + r)
unfolding exceeds
sixteen {a} {b} {p} {q} {r} {s} A B C D e =
    let f = eqb-true (p + s) (q + r) (and_left (eqb (p + s) (q + r)) (ltb (p + s + 2) (a + b)) e) in
    by_two_sums f (ltb-true (p + s + 2) (a + b) (and_right (eqb (p + s) (q + r)) (ltb (p + s + 2) (a + b)) e)) (even_both a b p r s A.even D.even)
    (twice_beside a b p q r s A.first B.first C.first D.first f)

module _ (w : ℕ → ℕ) where
  abbrev sums : ℕ
  sums = pair_at w 0 + pair_at w 1 + pair_at w 2

  six_sum : pre w 6 ≡ sums
  unfolding pre total
  six_sum = omega arith

  module _ (K : is_level_cell w ≡ true) where
    last_first : {p q o : ℕ} → Level p q o → Level o p q
    last_first L = level_swap (level_turn L)

    on-first : exceeds (pair_at w 0) (pair_at w 1) (pair_at w 2) ≡ true → 16 ≤ sums
    unfolding slot_edge
    on-first e =
        omega (arith, sixteen (slot_level w K 3 (omega arith)) (slot_level w K 2 (omega arith)) (last_first (slot_level w K 1 (omega arith))) (last_first (slot_level w K 0 (omega arith))) e)

    on-second : exceeds (pair_at w 1) (pair_at w 2) (pair_at w 0) ≡ true → 16 ≤ sums
    unfolding slot_edge
    on-second e =
        omega (arith, sixteen (slot_level w K 1 (omega arith)) (level_swap (slot_level w K 3 (omega arith))) (level_turn (last_first (slot_level w K 2 (omega arith)))) (level_turn (level_swap (slot_level w K 0 (omega arith)))) e)

    on_third : exceeds (pair_at w 2) (pair_at w 0) (pair_at w 1) ≡ true → 16 ≤ sums
    unfolding slot_edge
    on_third e =
        omega (arith, sixteen (level_swap (slot_level w K 2 (omega arith))) (level_swap (slot_level w K 1 (omega arith))) (last_first (slot_level w K 3 (omega arith))) (slot_level w K 0 (omega arith)) e)

  pub none_by_few : pre w 6 < 16 → 3 ≡ nest_edge w
  unfolding nest_edge
  none_by_few l = go (is_level_cell w) refl
    where
      go : (b : Bool) → is_level_cell w ≡ b → 3 ≡ pick b (exceeding (pair_at w 0) (pair_at w 1) (pair_at w 2)) 3
      go false K = refl
      go true K =
          above_none (pair_at w 0) (pair_at w 1) (pair_at w 2) (not_clash (exceeds (pair_at w 0) (pair_at w 1) (pair_at w 2)) (λ e. omega (arith, six_sum, on-first K e)))
          (not_clash (exceeds (pair_at w 1) (pair_at w 2) (pair_at w 0)) (λ e. omega (arith, six_sum, on-second K e)))
          (not_clash (exceeds (pair_at w 2) (pair_at w 0) (pair_at w 1)) (λ e. omega (arith, six_sum, on_third K e)))

-- half of what the pair of edge e has above another
module _ (n : ℕ → ℕ) (e : ℕ) where
  pub count_first : e ≡ 0 → {a b l : ℕ} → a ≡ pair_at n e → b ≡ pair_at n 1 → l ≡ a - b → l / 2 ≡ (pair_at n e - pair_at n (pick (eqb e 0) 1 0)) / 2
  count_first z p q r = rw (eq-eqb e 0 z, r, p, q)

  pub count_later : e ≢ 0 → {a b l : ℕ} → a ≡ pair_at n e → b ≡ pair_at n 0 → l ≡ a - b → l / 2 ≡ (pair_at n e - pair_at n (pick (eqb e 0) 1 0)) / 2
  count_later z p q r = rw (ne_eqb e 0 z, r, p, q)

-- what the counts of six edges alone decide
module _ (c : Cell) {six : List ℕ} (e : six ≡ values (count_of c) 6) where
  pub six_at : (k : ℕ) → k < 6 → by_edge six k ≡ count_of c k
  six_at k l = ap (λ (x : List ℕ). get_or x k 0) e ∙ values_at (count_of c) 6 k 0 l

  pub six_level : is_level_cell (by_edge six) ≡ is_level_cell (count_of c)
  unfolding is_level_cell every slot_edge
  six_level = rw (six_at 0 (omega arith), six_at 1 (omega arith), six_at 2 (omega arith), six_at 3 (omega arith), six_at 4 (omega arith), six_at 5 (omega arith))

-- the nest as the code finds it
module _ (c : Cell) {six : List ℕ} (e : six ≡ values (count_of c) 6) where
  six_pair : (k : ℕ) → k < 6 → pair_at (by_edge six) k ≡ pair_at (count_of c) k
  six_pair k l = ap₂ (λ a b. a + b) (six_at c e k l) (six_at c e (5 - k) (omega arith))

  module _ {x y z k : ℕ} (p : x ≡ pair_at (by_edge six) 0) (q : y ≡ pair_at (by_edge six) 1) (r : z ≡ pair_at (by_edge six) 2) (s : k ≡ exceeding x y z) where
    by_sums : k ≡ exceeding (pair_at (count_of c) 0) (pair_at (count_of c) 1) (pair_at (count_of c) 2)
    by_sums = rw (s, p, q, r, six_pair 0 (omega arith), six_pair 1 (omega arith), six_pair 2 (omega arith))

    pub none_by_sums : k ≡ 3 → 3 ≡ nest_edge (count_of c)
    unfolding nest_edge
    none_by_sums t = go (is_level_cell (count_of c)) (sym t ∙ by_sums)
      where
        go : (b : Bool) {m : ℕ} → 3 ≡ m → 3 ≡ pick b m 3
        go true f = f
        go false f = refl

    pub none_by_level : is_level_cell (by_edge six) ≡ false → 3 ≡ nest_edge (count_of c)
    unfolding nest_edge
    none_by_level t = rw (sym (six_level c e) ∙ t)

    pub edge_by : is_level_cell (by_edge six) ≡ true → k ≡ nest_edge (count_of c)
    unfolding nest_edge
    edge_by t = rw (sym (six_level c e) ∙ t) by_sums

module _ {c : Cell} {six : List ℕ} {e : ℕ} (N : NestOn c six e) where
  beside_lt : pick (eqb e 0) 1 0 < 6
  beside_lt = go (eqb e 0)
    where
      go : (b : Bool) → pick b 1 0 < 6
      go true = omega arith
      go false = omega arith

  pub on_count : {m : ℕ} → m ≡ (pair_at (by_edge six) e - pair_at (by_edge six) (pick (eqb e 0) 1 0)) / 2 → m ≡ nest_count (count_of c)
  unfolding nest_count
  on_count q =
      q ∙ ap₂ (λ a b. (a - b) / 2) (six_pair c N.six_are e (omega (arith, N.edge_lt))) (six_pair c N.six_are (pick (eqb e 0) 1 0) beside_lt)
      ∙ ap (λ k. (pair_at (count_of c) k - pair_at (count_of c) (pick (eqb k 0) 1 0)) / 2) N.edge_is

  pub on_low : {s k m : ℕ} → s ≡ start_of c e → k ≡ (by_edge six 0 + by_edge six 1 + by_edge six 2 - pair_at (by_edge six) e) / 2
      → m ≡ (pair_at (by_edge six) e - pair_at (by_edge six) (pick (eqb e 0) 1 0)) / 2 → s + k + m ≡ nest_low c
  unfolding nest_low nest_corner
  on_low {s} {k} {m} p q r =
      let at = six_at c N.six_are in
      let o : k ≡ (count_of c 0 + count_of c 1 + count_of c 2 - pair_at (count_of c) (nest_edge (count_of c))) / 2 =
      q ∙ rw (at 0 (omega arith), at 1 (omega arith), at 2 (omega arith), six_pair c N.six_are e (omega (arith, N.edge_lt)), N.edge_is) in
      let t : s ≡ start_of c (nest_edge (count_of c)) = p ∙ ap (start_of c) N.edge_is in
      omega (arith, t, o, on_count r)

-- the greatest so far is small
pub risen_few : (d e : ℕ) {m g x : ℕ} → m < 4294967296 → g < 4294967296 → x ≡ max m (pick (eqb d e) g 0) → x < 4294967296
risen_few d e {m} {g} {x} a b = go (eqb d e)
  where
    go : (t : Bool) → x ≡ max m (pick t g 0) → x < 4294967296
    go true q = omega arith
    go false q = omega arith

-- the middle of a recorded loop
module _ (c : Cell) (q : Nest) (nodes : List Float) (halves points : List ℕ) where
  pub nested_by : {a b r : Place} {s : Float} {i h : ℕ} → r ≡ between a b s
      → a ≡ half_sum (corner_place nodes c) q.edge → b ≡ half_sum (corner_place nodes c) (5 - q.edge)
      → s ≡ part_of i q.count → i ≡ h - q.low → h ≡ highest_on halves points q.edge → r ≡ recorded_nested c q nodes halves points
  unfolding recorded_nested on_axis
  nested_by e a b s i h = rw (e, a, b, s, i, h)

-- what is recorded of a loop
module _ {c : Cell} {p n : ℕ} {b : Bool} {halves points : List ℕ} (L : Looped c p n b halves points) where
  looped_highest : (e : ℕ)
      → highest_on halves points e ≡ greatest_of (λ k. pick (eqb (edge (edges_of c) (dart (edges_of c) p k / 2)) e) (in_grid (edges_of c) (dart (edges_of c) p k / 2)) 0) (loop_size (edges_of c) p)
  unfolding highest_on
  looped_highest e =
      let f = looped_halves L ∙ L.size in
      greatest_ext (λ k. pick (eqb (edge_of (get_or halves k 0)) e) (get_or points k 0) 0)
      (λ k. pick (eqb (edge (edges_of c) (dart (edges_of c) p k / 2)) e) (in_grid (edges_of c) (dart (edges_of c) p k / 2)) 0) (length halves)
      (λ k l. rw (L.halves_are, L.points_are, from_edge c p L.inside k (omega (arith, f)), from_point c p k (omega (arith, f))))
      ∙ ap (greatest_of _) f

  pub looped_nested : {q : Nest} → NestOf c q → (nodes : List Float) → recorded_nested c q nodes halves points ≡ nest_middle (corner_place nodes c) c p
  unfolding recorded_nested nest_middle nest_rank
  looped_nested {q} Q nodes =
      rw (Q.count_is, Q.low_is, Q.edge_is, looped_highest (nest_edge (count_of c)))
