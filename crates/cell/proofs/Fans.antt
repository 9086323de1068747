-- The fans of a cell and their middles: from the records of its loops, and as they are written.
use Prim.Native.Nat.{ℕ, zero, suc, ◌+◌, ◌-◌, ◌*◌, ◌/◌, ◌≤◌, ◌<◌}
use mathlib.Core.Path.{◌≡◌, refl, sym, ap, ap₂, ◌∙◌}
use mathlib.Core.Logic.{◌≢◌, ◌⊎◌, ⊎_elim}
use mathlib.Core.Bool.{Bool, true, false, ◌&&◌}
use mathlib.Core.List.{List, [], ◌∷◌}
use native.Mathlib.Numerals.{add-one}
use native.Mathlib.Decide.{dec_lt}
use native.Mathlib.Omega.{arith}
use lib.Dec.{ltb, leb}
use lib.ListN.{length, get_or}
use lib.Ieee.{Float}
use borrow.Author.Tests.{le-leb, leb-true, lt-leb, leb-false, lt-ltb}
use Rattle.counting.specs.Lists.{gather, one, over}
use Rattle.counting.specs.Pick.{pick}
use Rattle.counting.specs.Search.{count}
use Rattle.counting.specs.work.Stored.{Stored}
use Rattle.counting.specs.Stored.{stored_in}
use Rattle.counting.specs.claims.Lists.{next_in}
use Rattle.counting.proofs.Bools.{clash, and_left, and_right, and_false_right, or_right, or_cases}
use Rattle.counting.proofs.Lists.{gather_over, one_long, one_ext}
use Rattle.counting.proofs.Range.{length_over, total_ext, over_ext}
use Rattle.counting.proofs.Search.{below-or, every_is, is_every, every_not, count_total, count_le}
use Rattle.counting.proofs.Stored.{stored_none, stored_as, stored_more, stored_fits, stored_room, stored_not, stored_nothing, stored_same}
use Rattle.place.specs.declared.Place.{Place}
use Rattle.place.specs.Place.{middle, coordinates, place_at, numbers, all_numbers}
use Rattle.place.proofs.Numbers.{length_numbers, point_stored, place_kept}
use Rattle.place.proofs.Sums.{middle_ext}
use Rattle.manifold.specs.Shape.{has_middle}
use Rattle.manifold.proofs.Shapes.{middle_fan, fan-middle, shape_else}
use Rattle.cell.specs.declared.Cell.{Cell}
use Rattle.cell.specs.Cell.{crossings, edge}
use Rattle.cell.specs.Of.{count_of, start_of, edges_of}
use Rattle.cell.specs.Loop.{loop_size, dart, normal, in_grid}
use Rattle.cell.specs.work.Limits.{most_in_cell}
use Rattle.cell.specs.Triangles.{number_of}
use Rattle.cell.specs.declared.Nest.{Nest}
use Rattle.std.proofs.Common.{Option, Some, None, is_some}
use Rattle.cell.specs.claims.Nests.{nest_edge, nest_middle}
use Rattle.cell.specs.Middles.{is_fan, loop_point, corner_place}
use Rattle.cell.specs.claims.Middles.{fan_count, fan_middle, loop_middle, cell_middles, numbered_below, is_placeable, middles_at, points_then, next_point}
use Rattle.cell.specs.claims.Table.{table_cell}
use Rattle.cell.specs.work.Table.{middles_written}
use Rattle.cell.specs.work.Centres.{IsNest, recorded_place, recorded_middle, MiddlesRoom}
use Rattle.cell.proofs.Lay.{lay}
use Rattle.cell.proofs.Loops.{from_point, dart_live}
use Rattle.cell.proofs.Fits.{room_left}
use Rattle.cell.proofs.Going.{Looped, looped_points}
use Rattle.cell.proofs.Nesting.{looped_nested}

-- the cases of the code
module _ (n : ℕ) (normal : Bool) where
  pub fan_none : n ≡ 0 → 0 ≡ one (has_middle n normal)
  unfolding has_middle
  fan_none e = rw e

  pub fan_three : n ≡ 3 → 0 ≡ one (has_middle n normal)
  unfolding has_middle
  fan_three e = rw e

  pub fan_normal : n ≡ 4 → normal ≡ true → 0 ≡ one (has_middle n normal)
  unfolding has_middle
  fan_normal e h = rw (e, h)

  pub fan_else : n ≢ 0 → n ≢ 3 → (n ≡ 4 → normal ≡ false) → 1 ≡ one (has_middle n normal)
  fan_else a b h = ap one (sym (fan-middle n normal (omega arith) (shape_else n normal b h)))

-- where the test fails, by the other
second : (b : Bool) (p q r : Place) → (b ≡ false → q ≡ r) → pick b p q ≡ pick b p r
second true p q r h = refl
second false p q r h = h refl

-- how many middles there are
module _ (nodes : List Float) (place : ℕ → Place) (c : Cell) where
  pub length_loop : (p : ℕ) → length (loop_middle nodes place c p) ≡ one (is_fan c p)
  unfolding loop_middle
  length_loop p = one_long (is_fan c p) (fan_middle nodes place c p)

  pub length_cell : length (cell_middles nodes place c) ≡ fan_count c
  unfolding cell_middles fan_count
  length_cell =
      length_over (loop_middle nodes place c) (crossings (edges_of c)) 0
      ∙ total_ext (λ p. length (loop_middle nodes place c p)) (λ p. one (is_fan c p)) (crossings (edges_of c)) 0 (λ p a b. length_loop p)
      ∙ sym (count_total (is_fan c) (crossings (edges_of c)))

-- numbers below n
module _ (c : Cell) (n : ℕ) where
  pub below_all : ((e : ℕ) → e < 6 → start_of c e + count_of c e ≤ n) → numbered_below c n ≡ true
  unfolding numbered_below
  below_all h = is_every (λ e. leb (start_of c e + count_of c e) n) 6 (λ e l. le-leb (start_of c e + count_of c e) n (h e l))

  pub below_not : (e : ℕ) → e < 6 → n < start_of c e + count_of c e → numbered_below c n ≡ false
  unfolding numbered_below
  below_not e l h = every_not (λ e. leb (start_of c e + count_of c e) n) 6 e l (lt-leb (start_of c e + count_of c e) n h)

  pub below_at : numbered_below c n ≡ true → (e : ℕ) → e < 6 → start_of c e + count_of c e ≤ n
  unfolding numbered_below
  below_at h e l = leb-true (start_of c e + count_of c e) n (every_is (λ e. leb (start_of c e + count_of c e) n) 6 h e l)

pub below_more : (c : Cell) {n m : ℕ} → numbered_below c n ≡ true → n ≤ m → numbered_below c m ≡ true
below_more c {n} {m} h l = below_all c m (λ e k. omega (arith, below_at c n h e k))

-- the highest of the numbers after the first e edges' crossings
pub record Highest (c : Cell) (e last : ℕ) : Type 0 where
  pub above : (k : ℕ) → k < e → start_of c k + count_of c k ≤ last
  pub reached : (n : ℕ) → n < last → (k : ℕ) × (k < 6) × (n < start_of c k + count_of c k)

pub highest_none : (c : Cell) → Highest c 0 0
highest_none c = record { above = λ k l. absurd (omega arith); reached = λ n l. absurd (omega arith) }

module _ {c : Cell} {e last : ℕ} (H : Highest c e last) where
  pub highest_more : {next : ℕ} → e < 6 → last ≤ next → start_of c e + count_of c e ≤ next → (next ≡ last) ⊎ (next ≡ start_of c e + count_of c e) → Highest c (e + 1) next
  highest_more {next} l up end is = record {
    above = λ k h. ⊎_elim (λ (q : k ≡ e). rw q end) (λ (g : k < e). omega (arith, H.above k g)) (below-or k e (omega arith));
    reached = λ n h. ⊎_elim (λ (q : next ≡ last). H.reached n (omega arith)) (λ (q : next ≡ start_of c e + count_of c e). (e, l, omega arith)) is;
  }

  pub highest_all : 6 ≤ e → (n : ℕ) → leb last n ≡ numbered_below c n
  highest_all l n = elim (dec_lt n last) [
    | yes h ↦ let w = H.reached n h in lt-leb last n h ∙ sym (below_not c n w.0 w.1 w.2)
    | no h ↦ le-leb last n (omega arith) ∙ sym (below_all c n (λ k g. omega (arith, H.above k (omega arith))))
  ]

-- what can be written from a point on
pub below_placeable : (c : Cell) (n : ℕ) → numbered_below c n ≡ true → is_placeable c n ≡ true
unfolding is_placeable
below_placeable c n e = rw e

pub nest_placeable : (c : Cell) (n : ℕ) → nest_edge (count_of c) < 3 → is_placeable c n ≡ true
unfolding is_placeable
nest_placeable c n h = or_right (numbered_below c n) (ltb (nest_edge (count_of c)) 3) (lt-ltb (nest_edge (count_of c)) 3 h)

pub placeable_is : (c : Cell) (n : ℕ) (q : Option Nest) → IsNest c q → numbered_below c n ≡ false → is_some q ≡ is_placeable c n
unfolding is_placeable
placeable_is c n (Some q) Q f = rw (f, lt-ltb (nest_edge (count_of c)) 3 (omega (arith, Q.edge_is, Q.edge_lt)))
placeable_is c n None Q f = rw (f, Q)

placeable_below : (c : Cell) (n : ℕ) → is_placeable c n ≡ true → ltb (nest_edge (count_of c)) 3 ≡ false → numbered_below c n ≡ true
unfolding is_placeable
placeable_below c n e f = ⊎_elim (λ (h : numbered_below c n ≡ true). h) (λ (h : ltb (nest_edge (count_of c)) 3 ≡ true). clash h f) (or_cases (numbered_below c n) (ltb (nest_edge (count_of c)) 3) e)

-- the middles are determined by the nodes' places and, but for a nest, those of the cell's crossings
module _ (nodes : List Float) (c : Cell) (n : ℕ) (a : is_placeable c n ≡ true) (place other : ℕ → Place) (same : (g : ℕ) → g < n → place g ≡ other g) where
  point_below : (p k : ℕ) → numbered_below c n ≡ true → p < crossings (edges_of c) → k < loop_size (edges_of c) p → loop_point c p k < n
  unfolding loop_point number_of in_grid
  point_below p k b l h =
      let w = edges_of c in
      let x = dart w p k / 2 in
      let d : x < crossings w = omega (arith, dart_live w p l k h) in
      omega (arith, below_at c n b (edge w x) ((lay w).edge_lt x d), (lay w).index_lt x d)

  pub loop_ext : (p : ℕ) → p < crossings (edges_of c) → loop_middle nodes place c p ≡ loop_middle nodes other c p
  unfolding loop_middle fan_middle is_fan
  loop_ext p l =
      let n = loop_size (edges_of c) p in
      one_ext (is_fan c p) (fan_middle nodes place c p) (fan_middle nodes other c p)
      (λ e. (second (ltb (nest_edge (count_of c)) 3) (nest_middle (corner_place nodes c) c p) (middle (λ k. place (loop_point c p k)) n) (middle (λ k. other (loop_point c p k)) n) (λ f.
      middle_ext (λ k. place (loop_point c p k)) (λ k. other (loop_point c p k)) n (middle_fan n (normal (edges_of c) p) e).0
      (λ k h. same (loop_point c p k) (point_below p k (placeable_below c _ a f) l h)))))

  pub cell_ext : cell_middles nodes place c ≡ cell_middles nodes other c
  unfolding cell_middles
  cell_ext = over_ext (loop_middle nodes place c) (loop_middle nodes other c) (crossings (edges_of c)) 0 (λ p a l. loop_ext p (omega arith))

-- what is recorded of a loop
module _ {c : Cell} {p n : ℕ} {b : Bool} {halves points : List ℕ} (L : Looped c p n b halves points) where
  pub looped_fan : has_middle n b ≡ is_fan c p
  unfolding is_fan
  looped_fan = ap₂ has_middle L.size L.told

  pub fan_recorded : {r : ℕ} → r ≡ one (has_middle n b) → r ≡ one (has_middle (length points) b)
  fan_recorded e = e ∙ ap (λ m. one (has_middle m b)) (sym (looped_points L))

  points_fan : has_middle (length points) b ≡ is_fan c p
  points_fan = ap (λ m. has_middle m b) (looped_points L) ∙ looped_fan

  module _ (nodes area : List Float) where
    -- in a nest, or by its points
    looped_place : (q : Option Nest) → IsNest c q → has_middle (length points) b ≡ true → recorded_place c q nodes halves points area ≡ fan_middle nodes (place_at area) c p
    unfolding recorded_place fan_middle loop_point number_of
    looped_place (Some q) Q f = rw (lt-ltb (nest_edge (count_of c)) 3 (omega (arith, Q.edge_is, Q.edge_lt))) (looped_nested L Q nodes)
    looped_place None Q f =
        let m = length points in
        let e = looped_points L ∙ L.size in
        rw Q
        (middle_ext (λ k. place_at area (get_or points k 0)) (λ k. place_at area (loop_point c p k)) m (middle_fan m b f).0
        (λ k h. ap (place_at area) (ap (λ l. get_or l k 0) L.points_are ∙ from_point c p k (omega (arith, e))))
        ∙ ap (middle (λ k. place_at area (loop_point c p k))) e)

    pub looped_middle : (q : Option Nest) → IsNest c q → recorded_middle c q nodes halves points b area ≡ loop_middle nodes (place_at area) c p
    unfolding recorded_middle loop_middle
    looped_middle q Q =
        one_ext (has_middle (length points) b) (recorded_place c q nodes halves points area) (fan_middle nodes (place_at area) c p) (looped_place q Q)
        ∙ ap (λ (b : Bool). pick b (fan_middle nodes (place_at area) c p ∷ []) []) points_fan

  -- one fan more, or none
  pub fans_more : {t k : ℕ} → t ≡ count (is_fan c) p → k ≡ one (has_middle n b) → t + k ≡ count (is_fan c) (p + 1)
  unfolding count
  fans_more e f = rw (add-one p) (omega (arith, e, f, ap one looped_fan))

pub fans_all : (c : Cell) {p t : ℕ} → t ≡ count (is_fan c) p → p ≡ crossings (edges_of c) → crossings (edges_of c) ≤ most_in_cell → (t ≡ fan_count c) × (t ≤ most_in_cell)
unfolding fan_count
fans_all c {p} e q few = (e ∙ ap (count (is_fan c)) q, omega (arith, e, q, count_le (is_fan c) p))

-- a cell without crossings has no fans
pub no-fans : (c : Cell) → crossings (edges_of c) ≡ 0 → 0 ≡ fan_count c
unfolding fan_count count
no-fans c e = rw e

-- a recorded loop's middle is written, or there is none
module _ (c : Cell) (n : Option Nest) (nodes : List Float) (halves points : List ℕ) (normal : Bool) (area : List Float) (at r : ℕ) (q : r ≡ one (has_middle (length points) normal)) where
  is-fan : (b : Bool) → one b ≡ r → (r ≡ 0 → b ≡ false) × (r ≢ 0 → b ≡ true)
  is-fan true e = (λ z. absurd (omega arith), λ z. refl)
  is-fan false e = (λ z. refl, λ z. absurd (z (sym e)))

  pub put_none : r ≡ 0 → Stored area (coordinates * at) (all_numbers (recorded_middle c n nodes halves points normal area)) area (coordinates * at)
  unfolding recorded_middle gather
  put_none z = rw ((is-fan (has_middle (length points) normal) (sym q)).0 z) (stored_none area (coordinates * at))

  pub put_one : r ≢ 0 → coordinates * (at + one (has_middle (length points) normal)) ≤ length area → {p : Place} {out : List Float}
      → p ≡ recorded_place c n nodes halves points area → out ≡ stored_in area (coordinates * at) (numbers p)
      → Stored area (coordinates * at) (all_numbers (recorded_middle c n nodes halves points normal area)) out (coordinates * (at + 1))
  unfolding recorded_middle gather
  put_one z room {p} e f =
      let b = (is-fan (has_middle (length points) normal) (sym q)).1 z in
      rw (b, ← e) (point_stored at p (omega (arith, room, ap one b)) f)

-- the numbers of the middle of each loop
abbrev pub middle_of : List Float → Cell → List Float → ℕ → List Float
middle_of nodes c area p = all_numbers (loop_middle nodes (place_at area) c p)

-- the middles of the first loops are written, and the one of the next is
module _ (nodes : List Float) (c : Cell) (area : List Float) (at : ℕ) where
  all_are : all_numbers (cell_middles nodes (place_at area) c) ≡ over (middle_of nodes c area) (crossings (edges_of c)) 0
  unfolding cell_middles
  all_are = gather_over numbers (loop_middle nodes (place_at area) c) (crossings (edges_of c)) 0

  all_long : length (all_numbers (cell_middles nodes (place_at area) c)) ≡ coordinates * fan_count c
  all_long = length_numbers (cell_middles nodes (place_at area) c) ∙ ap (λ k. coordinates * k) (length_cell nodes (place_at area) c)

  module _ (R : MiddlesRoom c area at) where
    module _ {p : ℕ} (i : ℕ) {mid : List Float} (S : Stored area (coordinates * at) (over (middle_of nodes c area) p 0) mid (coordinates * i))
        {n : ℕ} {b : Bool} {halves points : List ℕ} (L : Looped c p n b halves points) where
      pub middle_room : coordinates * (i + one (has_middle (length points) b)) ≤ length mid
      middle_room =
          omega (
            arith,
            stored_fits (middle_of nodes c area) (crossings (edges_of c)) p S L.inside (omega (arith, R.room, all_long, ap length all_are)),
            length_numbers (loop_middle nodes (place_at area) c p),
            length_loop nodes (place_at area) c p,
            ap one (points_fan L),
          )

      pub middle_next : (q : Option Nest) → IsNest c q → {out : List Float} {m : ℕ} → Stored mid (coordinates * i) (all_numbers (recorded_middle c q nodes halves points b mid)) out m
          → Stored area (coordinates * at) (over (middle_of nodes c area) (p + 1) 0) out m
      middle_next q Q T =
          stored_more (middle_of nodes c area) p S
          (stored_as T (ap all_numbers (looped_middle L nodes mid q Q ∙ loop_ext nodes c at R.below (place_at mid) (place_at area) (place_kept S) p L.inside)) refl)

    pub middles_all : {p m : ℕ} {out : List Float} → Stored area (coordinates * at) (over (middle_of nodes c area) p 0) out m → p ≡ crossings (edges_of c)
        → Stored area (coordinates * at) (all_numbers (cell_middles nodes (place_at area) c)) out m
    middles_all S e = stored_as S (ap (λ k. over (middle_of nodes c area) k 0) e ∙ sym all_are) refl

    -- as the call answers
    pub middles_stored : Stored area (coordinates * at) (all_numbers (cell_middles nodes (place_at area) c)) (points_then nodes c area at) (coordinates * next_point nodes c area at)
    unfolding next_point points_then middles_at
    middles_stored =
        let S = stored_room area (coordinates * at) (all_numbers (cell_middles nodes (place_at area) c)) (omega (arith, R.room, all_long)) in
        rw R.below (stored_as S refl (omega (arith, S.after, all_long)))

    pub middles_done : {out : List Float} {r : ℕ} → Stored area (coordinates * at) (all_numbers (cell_middles nodes (place_at area) c)) out (coordinates * r)
        → (r ≡ next_point nodes c area at) × (out ≡ points_then nodes c area at)
    middles_done S = (omega (arith, S.after, middles_stored.after), S.area ∙ sym middles_stored.area)

-- whether the middles can be written from point `at` on, and have room
abbrev pub fits : Cell → (room at : ℕ) → Bool
fits c room at = is_placeable c at && leb (at + fan_count c) (room / coordinates)

-- where they have none, nothing is written
pub middles_not : (nodes : List Float) (c : Cell) (area : List Float) (at : ℕ) → fits c (length area) at ≡ false → (at ≡ next_point nodes c area at) × (area ≡ points_then nodes c area at)
unfolding next_point points_then middles_at gather
middles_not nodes c area at = go (is_placeable c at)
  where
    go : (b : Bool) → (b && leb (at + fan_count c) (length area / coordinates)) ≡ false
        → (at ≡ next_in area (coordinates * at) (all_numbers (pick b (cell_middles nodes (place_at area) c) [])) / coordinates)
        × (area ≡ stored_in area (coordinates * at) (all_numbers (pick b (cell_middles nodes (place_at area) c) [])))
    go false e = let n = stored_nothing area (coordinates * at) in (omega (arith, n.1), n.0)
    go true e =
        let n =
        stored_not area (coordinates * at) (all_numbers (cell_middles nodes (place_at area) c))
        (omega (arith, leb-false (at + fan_count c) (length area / coordinates) e, all_long nodes c area at)) in
        (omega (arith, n.1), n.0)

-- nor are there any in a cell without crossings
pub no-middles : (nodes : List Float) (c : Cell) (area : List Float) (at : ℕ) → crossings (edges_of c) ≡ 0 → (at ≡ next_point nodes c area at) × (area ≡ points_then nodes c area at)
unfolding next_point points_then middles_at cell_middles over gather
no-middles nodes c area at e = rw e (go (is_placeable c at))
  where
    go : (b : Bool)
        → (at ≡ next_in area (coordinates * at) (all_numbers (pick b [] [])) / coordinates)
        × (area ≡ stored_in area (coordinates * at) (all_numbers (pick b [] [])))
    go false = let n = stored_nothing area (coordinates * at) in (omega (arith, n.1), n.0)
    go true = let n = stored_nothing area (coordinates * at) in (omega (arith, n.1), n.0)

pub fits_room : (c : Cell) (area : List Float) (at : ℕ) → fits c (length area) at ≡ true → MiddlesRoom c area at
fits_room c area at e =
    let t = leb (at + fan_count c) (length area / coordinates) in
    record { below = and_left (is_placeable c at) t e; room = omega (arith, leb-true (at + fan_count c) (length area / coordinates) (and_right (is_placeable c at) t e)) }

-- as the code asks
module _ (c : Cell) (room at : ℕ) where
  pub fits_short : room / coordinates < at → false ≡ fits c room at
  fits_short h = sym (and_false_right (is_placeable c at) _ (lt-leb (at + fan_count c) (room / coordinates) (omega arith)))

  pub fits_not : is_placeable c at ≡ false → false ≡ fits c room at
  fits_not e = rw e

  module _ (b : is_placeable c at ≡ true) (h : at ≤ room / coordinates) where
    pub fits_count : {t : ℕ} → t ≡ fan_count c → leb t (room / coordinates - at) ≡ fits c room at
    fits_count e = rw (b, e) (room_left (fan_count c) at (room / coordinates) h)

    pub fits_most : {n : ℕ} → n ≡ crossings (edges_of c) → n ≤ room / coordinates - at → true ≡ fits c room at
    unfolding fan_count
    fits_most e l = rw b (sym (le-leb (at + fan_count c) (room / coordinates) (omega (arith, count_le (is_fan c) (crossings (edges_of c))))))

-- the middles of cells, cell by cell
module _ (cells counts names sides starts : List ℕ) (nodes : List Float) (first : ℕ) (area : List Float) (at : ℕ) where
  -- those up to the first
  pub written_none : (area, at) ≡ middles_written cells counts names sides starts nodes first area at (first - first)
  unfolding middles_written
  written_none = let e : first - first ≡ 0 = omega arith in rw e refl

  module _ (k : ℕ) {mid : List Float} {i : ℕ} (e : (mid, i) ≡ middles_written cells counts names sides starts nodes first area at (k - first)) where
    pub written_more : first ≤ k → {v : Cell} → v ≡ table_cell cells counts names sides starts k → {r : ℕ} {out : List Float}
        → (r ≡ next_point nodes v mid i) × (out ≡ points_then nodes v mid i) → (out, r) ≡ middles_written cells counts names sides starts nodes first area at (k + 1 - first)
    unfolding middles_written
    written_more l {v} q {r} {out} p =
        let s : k + 1 - first ≡ suc (k - first) = omega arith in
        let f : first + (k - first) ≡ k = omega arith in
        rw (s, f, ← e, ← q, ← p.0, ← p.1)

    pub written_long : length mid ≡ length area
    unfolding middles_written points_then
    written_long = ap (λ (w : List Float × ℕ). length w.0) e ∙ long (k - first)
      where
        long : (n : ℕ) → length (middles_written cells counts names sides starts nodes first area at n).0 ≡ length area
        long zero = refl
        long (suc n) = stored_same _ _ _ ∙ long n
