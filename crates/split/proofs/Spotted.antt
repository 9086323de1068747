-- The points of a cell that is split, by numbers and as they are written; and those of cells one after the other.
use Prim.Native.Nat.{ℕ, zero, suc, ◌+◌, ◌-◌, ◌*◌, ◌/◌, ◌≤◌, ◌<◌}
use mathlib.Core.Path.{◌≡◌, refl, sym, ap, ap₂, ◌∙◌}
use mathlib.Core.Bool.{Bool, true, false}
use mathlib.Core.List.{List, []}
use native.Mathlib.Nat.{add-zero, mul-le-mul, le_of_dvd}
use native.Mathlib.Numerals.{add-one}
use native.Mathlib.Omega.{arith}
use lib.Dec.{leb, ltb}
use lib.ListN.{length}
use lib.Ieee.{Float}
use borrow.Author.Tests.{leb-true, leb-false, ltb-true}
use Rattle.counting.specs.Gcd.{gcd}
use Rattle.counting.specs.Pick.{pick}
use Rattle.counting.specs.Lists.{gather, over}
use Rattle.counting.specs.work.Stored.{Stored}
use Rattle.counting.specs.claims.Lists.{next_in}
use Rattle.counting.proofs.Bools.{and_right}
use Rattle.counting.proofs.Gcd.{gcd_both}
use Rattle.counting.proofs.Stored.{stored_none, stored_as, stored_more, stored_fits, stored_room, stored_not, stored_nothing, stored_same}
use Rattle.slots.specs.Limits.{most_count}
use Rattle.place.specs.declared.Place.{Place}
use Rattle.place.specs.Place.{coordinates, all_numbers}
use Rattle.place.proofs.Numbers.{length_numbers}
use Rattle.cell.specs.declared.Cell.{Cell}
use Rattle.cell.specs.Of.{count_of}
use Rattle.cell.specs.work.Route.{limited}
use Rattle.cell.specs.Level.{by_edge, is_level_cell}
use Rattle.cell.specs.claims.Table.{table_cell, taken_counts}
use Rattle.cell.specs.work.Table.{middles_written}
use Rattle.cell.proofs.Values.{taken_is}
use Rattle.cell.specs.claims.Nests.{nest_middle}
use Rattle.cell.specs.claims.Middles.{fan_count, middles_at, points_then, next_point}
use Rattle.cell.proofs.Using.{limited_same}
use Rattle.booking.specs.declared.SplitSums.{SplitSums}
use Rattle.booking.specs.Figures.{are_spiral, are_split, inner_crossings, beside_split}
use Rattle.booking.specs.claims.Figures.{end_number}
use Rattle.booking.specs.Booking.{larger, smaller, is_split}
use Rattle.booking.specs.work.Sums.{AreFigures}
use Rattle.booking.proofs.Figures.{figure_step, figure_laws}
use Rattle.split.specs.Limits.{first_inner_crossing, first_inner_face}
use Rattle.split.specs.Standing.{corners_of, all_standing, inner_places, drawn_middles}
use Rattle.split.specs.work.Working.{LevelSix, SpiralNumbers, Drawable}
use Rattle.split.specs.work.Gains.{IsStretch}
use Rattle.split.specs.work.Spots.{standing_inner, standing_fans, Spun, added_fans, inner_by, fans_by, most_inner, AreSpots, points_stored, cells_stored, inner_in, added_in, middles_at_cell}
use Rattle.split.proofs.Lengths.{IsSplit, split_is}
use Rattle.split.proofs.SubCells.{most-sum}
use Rattle.split.proofs.Tables.{unsplit, unsplit_at}
use Rattle.split.proofs.OneCell.{drawn_placed, drawn_split, drawn_left}
use Rattle.split.proofs.Fanned.{fans_some, length_inner, length_spun, figures_tell}

-- a divisor above 1 is asked of a cell that is split
pub split_divisor : (w : ℕ → ℕ) → is_split w ≡ true → 1 < gcd (larger w) (smaller w)
unfolding is_split are_split
split_divisor w e =
    ltb-true 1 (gcd (larger w) (smaller w))
    (and_right (are_spiral (larger w) (smaller w)) (ltb 1 (gcd (larger w) (smaller w))) (and_right (is_level_cell w) (are_split (larger w) (smaller w)) e))

-- of a cell that is split
module _ (nodes : List Float) (c : Cell) (e : is_split (count_of c) ≡ true) where
  pub inner_is : inner_places nodes c ≡ standing_inner c.index 0 first_inner_crossing first_inner_face (corners_of nodes c) c
  unfolding inner_places all_standing standing_inner
  inner_is = rw (e, inner_places)

  pub middles_are : (others : List Place) → drawn_middles nodes c nest_middle others ≡ standing_fans c.index 0 first_inner_crossing first_inner_face (corners_of nodes c) c
  unfolding drawn_middles all_standing standing_fans
  middles_are others = rw (e, drawn_middles)

  pub inner_long : length (inner_places nodes c) ≡ inner_crossings (larger (count_of c)) (smaller (count_of c))
  inner_long =
      let S = split_is (count_of c) e in
      ap length inner_is ∙ length_inner c.index 0 first_inner_crossing first_inner_face (corners_of nodes c) c S.level S.some

  pub middles_long : (others : List Place) → length (drawn_middles nodes c nest_middle others) ≡ gcd (larger (count_of c)) (smaller (count_of c)) + added_fans (larger (count_of c)) (smaller (count_of c))
  unfolding standing_fans
  middles_long others =
      let S = split_is (count_of c) e in
      ap length (middles_are others) ∙ length_spun c.index nest_middle 0 first_inner_crossing first_inner_face (corners_of nodes c) c S.level S.some

-- and of one that is not
module _ (nodes : List Float) (c : Cell) (e : is_split (count_of c) ≡ false) where
  pub inner_not : inner_places nodes c ≡ []
  unfolding inner_places
  inner_not = rw (e, inner_places)

  pub middles_not : (mid : (ℕ → Place) → Cell → ℕ → Place) (others : List Place) → drawn_middles nodes c mid others ≡ others
  unfolding drawn_middles
  middles_not mid others = rw (e, drawn_middles)

-- the numbers as they are got
module _ {c : Cell} {splits : ℕ} (D : Drawable c splits) where
  pub split_not : splits ≡ 0 → is_split (count_of c) ≡ false
  split_not z = unsplit c (sym D.splits_are ∙ z)

  pub spots_none : splits ≡ 0 → AreSpots c 0 0 0
  unfolding inner_by fans_by
  spots_none z =
      let e = split_not z in
      record { inner_are = rw e refl; more_are = rw e refl; loops_are = rw e refl; few_inner = omega arith; few_more = omega arith; few_loops = omega arith }

  pub drawn_sound : 0 < splits → LevelSix c
  drawn_sound h = (drawn_left D h).sound

  pub drawn_spun : 0 < splits → Spun c c.index 0 first_inner_crossing first_inner_face splits
  drawn_spun h = record { working = drawn_left D h; divisor = split_divisor (count_of c) (drawn_split D h) }

  module _ (h : 0 < splits) {d1 d2 : ℕ} {own labels : List ℕ} (N : SpiralNumbers c d1 d2 own labels) where
    S : IsSplit (count_of c)
    S = split_is (count_of c) (drawn_split D h)

    pub numbers_most : (d1 ≤ most_count) × (d2 ≤ most_count)
    numbers_most = let m = most-sum c S.level S.some S.more in (omega (arith, N.larger_is, m), omega (arith, N.smaller_is, m))

    -- the figures of its two numbers
    module _ {g : SplitSums} (F : AreFigures d1 d2 g) where
      abbrev x : ℕ
      x = larger (count_of c)

      abbrev y : ℕ
      y = smaller (count_of c)

      inner-at : g.inner ≡ inner_crossings x y
      inner-at = F.inner_are ∙ ap₂ inner_crossings N.larger_is N.smaller_is

      triangles-at : g.triangles ≡ beside_split x y
      triangles-at = F.triangles_are ∙ ap₂ beside_split N.larger_is N.smaller_is

      end_at : g.end ≡ end_number x y
      end_at = F.end_is ∙ ap₂ end_number N.larger_is N.smaller_is

      tell : beside_split x y ≡ 8 * end_number x y + 2 * inner_crossings x y + 6 * added_fans x y
      tell = figures_tell x y S.some (omega (arith, S.more))

      square : x * x ≤ most_count * most_count
      square = let m : x ≤ most_count = omega (arith, most-sum c S.level S.some S.more) in mul-le-mul m m

      -- they are as many as the triangles say
      pub figures_fit : 8 * g.end + 2 * g.inner ≤ g.triangles
      figures_fit = omega (arith, inner-at, triangles-at, end_at, tell)

      pub figures_few : (g.triangles ≤ 8 * (most_count * most_count)) × (g.inner ≤ most_inner) × (g.end ≤ most_count)
      figures_few =
          let L = figure_laws x y S.some (omega (arith, S.more)) in
          let d = le_of_dvd S.some (gcd_both x y (omega (arith, S.some))).1 in
          (omega (arith, triangles-at, L.triangles_fit, square), omega (arith, inner-at, L.inner_fit, square), omega (arith, end_at, L.end, d, most-sum c S.level S.some S.more))

      pub spots_are : {more loops : ℕ} → loops ≡ g.end → more ≡ (g.triangles - 8 * loops - 2 * g.inner) / 6 → AreSpots c g.inner more loops
      unfolding inner_by fans_by
      spots_are {more} {loops} a b =
          let e = drawn_split D h in
          let L = figure_laws x y S.some (omega (arith, S.more)) in
          let k : more ≡ added_fans x y = omega (arith, a, b, inner-at, triangles-at, end_at, tell) in
          let l : loops ≡ gcd x y = a ∙ end_at ∙ L.end in
          record {
            inner_are = rw e inner-at;
            more_are = rw e k;
            loops_are = rw e l;
            few_inner = figures_few.1;
            few_more = omega (arith, k, tell, L.triangles_fit, square);
            few_loops = omega (arith, a, figures_few.2);
          }

-- of a cell of the tables
pub spots_at : (cells counts names sides starts : List ℕ) (c : ℕ) {v : Cell} {inner more loops : ℕ} → v ≡ table_cell cells counts names sides starts c → AreSpots v inner more loops
    → (inner ≡ inner_in counts sides c) × (more ≡ added_in counts sides c)
unfolding inner_in added_in
spots_at cells counts names sides starts c e A =
    let t : count_of (table_cell cells counts names sides starts c) ≡ by_edge (taken_counts counts sides c) = sym (taken_is cells counts names sides starts c) in
    (A.inner_are ∙ ap (λ v. inner_by (count_of v)) e ∙ ap inner_by t, A.more_are ∙ ap (λ v. fans_by (count_of v)) e ∙ ap fans_by t)

-- points in an area: none, some that have room, and some that have none
pub stored_empty : (area : List Float) (i : ℕ) → (area, i) ≡ points_stored area i []
unfolding gather
stored_empty area i = let e = stored_nothing area (coordinates * i) in let k : i ≡ next_in area (coordinates * i) [] / coordinates = omega (arith, e.1) in ap₂ (λ (a : List Float) (n : ℕ). (a, n)) e.0 k

pub stored_points : (area : List Float) (i : ℕ) (ps : List Place) → coordinates * (i + length ps) ≤ length area → {is : List Float} {r : ℕ}
    → Stored area (coordinates * i) (all_numbers ps) is (coordinates * r) → (is, r) ≡ points_stored area i ps
stored_points area i ps room {is} {r} S =
    let T = stored_room area (coordinates * i) (all_numbers ps) (omega (arith, room, length_numbers ps)) in
    let k : r ≡ next_in area (coordinates * i) (all_numbers ps) / coordinates = omega (arith, S.after, T.after) in
    ap₂ (λ (a : List Float) (n : ℕ). (a, n)) (S.area ∙ sym T.area) k

pub stored_short : (area : List Float) (i : ℕ) (ps : List Place) → length area < coordinates * (i + length ps) → (area, i) ≡ points_stored area i ps
stored_short area i ps h =
    let e = stored_not area (coordinates * i) (all_numbers ps) (omega (arith, h, length_numbers ps)) in
    let k : i ≡ next_in area (coordinates * i) (all_numbers ps) / coordinates = omega (arith, e.1) in
    ap₂ (λ (a : List Float) (n : ℕ). (a, n)) e.0 k

-- points of cells one after the other
module _ (f : ℕ → List Float → ℕ → List Place) (area : List Float) (at : ℕ) where
  pub cells_none : (area, at) ≡ cells_stored f area at 0
  unfolding cells_stored
  cells_none = refl

  module _ (n : ℕ) {mid : List Float} {i : ℕ} (e : (mid, i) ≡ cells_stored f area at n) where
    pub cells_more : {out : List Float} {r : ℕ} → (out, r) ≡ points_stored mid i (f n mid i) → (out, r) ≡ cells_stored f area at (n + 1)
    unfolding cells_stored
    cells_more q = rw (add-one n, ← e, ← q) refl

    pub cells_long : length mid ≡ length area
    unfolding cells_stored
    cells_long = ap (λ (w : List Float × ℕ). length w.0) e ∙ long n
      where
        long : (n : ℕ) → length (cells_stored f area at n).0 ≡ length area
        long zero = refl
        long (suc n) = stored_same _ _ _ ∙ long n

    pub cells_all : {k : ℕ} → n ≡ k → (mid, i) ≡ cells_stored f area at k
    cells_all q = e ∙ ap (cells_stored f area at) q

-- a stretch of cells that are not split, k of them from n on: their middles as they are written from the tables
module _ (cells counts names sides starts : List ℕ) (nodes area : List Float) (at n : ℕ) {mid : List Float} {i : ℕ}
    (e : (mid, i) ≡ cells_stored (middles_at_cell cells counts names sides starts nodes) area at n) where
  pub cells_stretch : (k : ℕ) → ((c : ℕ) → n ≤ c → c < n + k → is_split (count_of (table_cell cells counts names sides starts c)) ≡ false)
      → middles_written cells counts names sides starts nodes n mid i k ≡ cells_stored (middles_at_cell cells counts names sides starts nodes) area at (n + k)
  unfolding cells_stored middles_written points_then next_point
  cells_stretch zero none = rw (add-zero n) e
  cells_stretch (suc k) none =
      let v = table_cell cells counts names sides starts (n + k) in
      let w = middles_written cells counts names sides starts nodes n mid i k in
      let s : n + suc k ≡ suc (n + k) = omega arith in
      rw s
      (ap (points_stored w.0 w.1) (sym (middles_not nodes v (none (n + k) (omega arith) (omega arith)) nest_middle (middles_at nodes v w.0 w.1)))
      ∙ ap (λ (w : List Float × ℕ). points_stored w.0 w.1 (middles_at_cell cells counts names sides starts nodes (n + k) w.0 w.1))
      (cells_stretch k (λ c a b. none c a (omega arith))))

  pub stretch_middles : {m last splits : ℕ} → IsStretch counts sides n m last splits → {out : List Float} {r : ℕ}
      → (out, r) ≡ middles_written cells counts names sides starts nodes n mid i (last - n)
      → (out, r) ≡ cells_stored (middles_at_cell cells counts names sides starts nodes) area at last
  stretch_middles {m} {last} R q =
      let s : n + (last - n) ≡ last = omega (arith, R.from) in
      q ∙ cells_stretch (last - n) (λ c a b. unsplit_at cells counts names sides starts c (R.none c a (omega arith))) ∙ ap (cells_stored (middles_at_cell cells counts names sides starts nodes) area at) s

-- what is written of a cell, in which so many splits are made
module _ {c : Cell} {splits : ℕ} (D : Drawable c splits) (nodes area : List Float) (i : ℕ) where
  pub inner_none : splits ≡ 0 → (area, i) ≡ points_stored area i (inner_places nodes c)
  inner_none z = stored_empty area i ∙ ap (points_stored area i) (sym (inner_not nodes c (split_not D z)))

  module _ (h : 0 < splits) {inner more loops : ℕ} (A : AreSpots c inner more loops) where
    inner-count : inner ≡ length (inner_places nodes c)
    unfolding inner_by
    inner-count = let e = drawn_split D h in A.inner_are ∙ rw e (sym (inner_long nodes c e))

    -- there is room, or there is none
    module _ (t : leb (coordinates * i + coordinates * inner) (length area) ≡ true) where
      room_inner : coordinates * (i + length (inner_places nodes c)) ≤ length area
      room_inner = omega (arith, leb-true (coordinates * i + coordinates * inner) (length area) t, inner-count)

      pub inner_room : coordinates * (i + length (standing_inner c.index 0 first_inner_crossing first_inner_face (corners_of nodes c) c)) ≤ length area
      inner_room = omega (arith, room_inner, ap length (inner_is nodes c (drawn_split D h)))

      pub inner_done : {is : List Float} {r : ℕ}
          → Stored area (coordinates * i) (all_numbers (standing_inner c.index 0 first_inner_crossing first_inner_face (corners_of nodes c) c)) is (coordinates * r)
          → (is, r) ≡ points_stored area i (inner_places nodes c)
      inner_done T = stored_points area i (inner_places nodes c) room_inner (stored_as T (ap all_numbers (sym (inner_is nodes c (drawn_split D h)))) refl)

    pub inner_short : leb (coordinates * i + coordinates * inner) (length area) ≡ false → (area, i) ≡ points_stored area i (inner_places nodes c)
    inner_short t = stored_short area i (inner_places nodes c) (omega (arith, leb-false (coordinates * i + coordinates * inner) (length area) t, inner-count))

    -- the same with the middles
    module _ (others : List Place) where
      abbrev mids : List Place
      mids = drawn_middles nodes c nest_middle others

      fans_count : more + loops ≡ length mids
      unfolding fans_by
      fans_count =
          let e = drawn_split D h in
          let a : more ≡ added_fans (larger (count_of c)) (smaller (count_of c)) = A.more_are ∙ rw e refl in
          let b : loops ≡ gcd (larger (count_of c)) (smaller (count_of c)) = A.loops_are ∙ rw e refl in
          omega (arith, a, b, middles_long nodes c e others)

      module _ {n : ℕ} (q : n ≡ more + loops) where
        module _ (t : leb (coordinates * i + coordinates * n) (length area) ≡ true) where
          room_fans : coordinates * (i + length mids) ≤ length area
          room_fans = omega (arith, leb-true (coordinates * i + coordinates * n) (length area) t, fans_count, q)

          pub fans_fit : coordinates * (i + length (standing_fans c.index 0 first_inner_crossing first_inner_face (corners_of nodes c) c)) ≤ length area
          fans_fit = omega (arith, room_fans, ap length (middles_are nodes c (drawn_split D h) others))

          pub fans_done : {is : List Float} {r : ℕ}
              → Stored area (coordinates * i) (all_numbers (standing_fans c.index 0 first_inner_crossing first_inner_face (corners_of nodes c) c)) is (coordinates * r)
              → (is, r) ≡ points_stored area i mids
          fans_done T = stored_points area i mids room_fans (stored_as T (ap all_numbers (sym (middles_are nodes c (drawn_split D h) others))) refl)

        pub fans_short : leb (coordinates * i + coordinates * n) (length area) ≡ false → (area, i) ≡ points_stored area i mids
        fans_short t = stored_short area i mids (omega (arith, leb-false (coordinates * i + coordinates * n) (length area) t, fans_count, q))

  -- of a cell that is not split
  pub fans_whole : splits ≡ 0 → {is : List Float} {r : ℕ} → r ≡ next_point nodes (limited c) area i → is ≡ points_then nodes (limited c) area i
      → (is, r) ≡ points_stored area i (drawn_middles nodes c nest_middle (middles_at nodes c area i))
  unfolding next_point points_then
  fans_whole z {is} {r} p q =
      let e = limited_same c (drawn_placed D).near D.starts_six in
      let m = middles_not nodes c (split_not D z) nest_middle (middles_at nodes c area i) in
      ap₂ (λ (a : List Float) (n : ℕ). (a, n)) (q ∙ ap (λ v. points_then nodes v area i) e) (p ∙ ap (λ v. next_point nodes v area i) e)
      ∙ ap (points_stored area i) (sym m)

-- how many points a cell has, split or not
module _ (nodes : List Float) (c : Cell) where
  pub inner-by : length (inner_places nodes c) ≡ inner_by (count_of c)
  unfolding inner_by
  inner-by = go (is_split (count_of c)) refl
    where
      go : (s : Bool) → is_split (count_of c) ≡ s → length (inner_places nodes c) ≡ pick (is_split (count_of c)) (inner_crossings (larger (count_of c)) (smaller (count_of c))) 0
      go true e = inner_long nodes c e ∙ rw e refl
      go false e = ap length (inner_not nodes c e) ∙ rw e refl

  pub fans-by : (others : List Place) → length others ≡ fan_count c → length (drawn_middles nodes c nest_middle others) ≡ fan_count c + fans_by (count_of c)
  unfolding fans_by
  fans-by others q = go (is_split (count_of c)) refl
    where
      go : (s : Bool) → is_split (count_of c) ≡ s
          → length (drawn_middles nodes c nest_middle others) ≡ fan_count c + pick (is_split (count_of c)) (added_fans (larger (count_of c)) (smaller (count_of c))) 0
      go true e =
          let S = split_is (count_of c) e in
          let k : pick (is_split (count_of c)) (added_fans (larger (count_of c)) (smaller (count_of c))) 0 ≡ added_fans (larger (count_of c)) (smaller (count_of c)) = rw e refl in
          omega (arith, middles_long nodes c e others, fans_some c S.level S.some, k)
      go false e =
          let k : pick (is_split (count_of c)) (added_fans (larger (count_of c)) (smaller (count_of c))) 0 ≡ 0 = rw e refl in
          omega (arith, ap length (middles_not nodes c e nest_middle others), q, k)

  -- a cell without inner crossings is not split
  pub unsplit_by : inner_by (count_of c) ≡ 0 → is_split (count_of c) ≡ false
  unfolding inner_by
  unsplit_by z = go (is_split (count_of c)) refl z
    where
      go : (s : Bool) → is_split (count_of c) ≡ s → pick s (inner_crossings (larger (count_of c)) (smaller (count_of c))) 0 ≡ 0 → is_split (count_of c) ≡ false
      go false e z = e
      go true e z =
          let S = split_is (count_of c) e in
          absurd (omega (arith, z, S.some, figure_step (λ n. 0) (λ x y. 2 * (x + y)) (larger (count_of c)) (smaller (count_of c)) S.some S.more))

-- points that are known beforehand, where all have room
module _ (f : ℕ → List Float → ℕ → List Place) (g : ℕ → List Place) (area : List Float) (at : ℕ) where
  abbrev each : ℕ → List Float
  each c = all_numbers (g c)

  pub cells_written : (n : ℕ) → coordinates * at + length (over each n 0) ≤ length area
      → ((c : ℕ) → c < n → (mid : List Float) (i : ℕ) → Stored area (coordinates * at) (over each c 0) mid (coordinates * i) → f c mid i ≡ g c)
      → (c : ℕ) → c ≤ n → Stored area (coordinates * at) (over each c 0) (cells_stored f area at c).0 (coordinates * (cells_stored f area at c).1)
  unfolding cells_stored over
  cells_written n room same zero l = stored_none area (coordinates * at)
  cells_written n room same (suc c) l =
      let S = cells_written n room same c (omega arith) in
      let mid = (cells_stored f area at c).0 in
      let i = (cells_stored f area at c).1 in
      let k = stored_fits each n c S (omega arith) room in
      let T = stored_room mid (coordinates * i) (each c) k in
      let U = stored_as T refl (three i _ (length (g c)) _ (length_numbers (g c)) T.after) in
      let e = same c (omega arith) mid i S in
      let W : Stored mid (coordinates * i) (each c) (points_stored mid i (f c mid i)).0 (coordinates * (points_stored mid i (f c mid i)).1) = rw e U in
      stored_as (stored_more each c S W) (ap (λ k. over each k 0) (add-one c)) refl
    where
      three : (i j k m : ℕ) → m ≡ coordinates * k → j ≡ coordinates * i + m → j ≡ coordinates * (j / coordinates)
      three i j k m a b = omega arith
