-- The middles of the fans of a split cell as code writes them, nest by nest.
use Prim.Native.Nat.{ℕ, ◌+◌, ◌-◌, ◌*◌, ◌≤◌, ◌<◌}
use mathlib.Core.Path.{◌≡◌, refl, sym, ap, ap₂, ◌∙◌}
use mathlib.Core.Bool.{Bool, true}
use mathlib.Core.List.{List, [], ◌∷◌, ◌++◌, append-nil}
use native.Mathlib.Omega.{arith}
use lib.ListN.{length, get_or, length-append}
use lib.Ieee.{Float, nan}
use borrow.Author.Tests.{lt-ltb}
use Rattle.counting.specs.Gcd.{gcd}
use Rattle.counting.specs.Pick.{pick}
use Rattle.counting.specs.work.Stored.{Stored}
use Rattle.counting.proofs.Below.{below_three, below_four}
use Rattle.counting.proofs.Gcd.{gcd_above}
use Rattle.counting.proofs.Range.{over_ext}
use Rattle.counting.proofs.Stored.{stored_as, stored_long}
use Rattle.slots.specs.Slots.{lo, hi}
use Rattle.place.specs.declared.Place.{Place}
use Rattle.place.specs.Place.{coordinates, place_at, all_numbers}
use Rattle.place.proofs.Numbers.{numbers_at, length_numbers, points-then}
use Rattle.cell.specs.declared.Cell.{Cell}
use Rattle.cell.specs.Cell.{crossings}
use Rattle.cell.specs.Of.{count_of, edges_of}
use Rattle.cell.specs.work.Route.{limited}
use Rattle.cell.specs.claims.Nests.{nest_edge, nest_rank, nest_low, on_axis, nest_middle}
use Rattle.cell.specs.Middles.{is_fan, corner_place}
use Rattle.cell.specs.claims.Middles.{fan_count, fan_middle, loop_middle, cell_middles, points_then, next_point}
use Rattle.cell.specs.work.Centres.{MiddlesRoom}
use Rattle.cell.proofs.Using.{limited_same}
use Rattle.cell.proofs.Fans.{nest_placeable, middles_stored}
use Rattle.booking.specs.Booking.{larger, smaller, is_spiral}
use Rattle.booking.proofs.Figures.{gcd_next}
use Rattle.split.specs.Limits.{word_step}
use Rattle.split.specs.SubCell.{sub}
use Rattle.split.specs.Parts.{splits_within}
use Rattle.split.specs.Standing.{nowhere, corner_in, sub_places, fans_in}
use Rattle.split.specs.work.Working.{SplitsLeft}
use Rattle.split.specs.work.Spots.{standing_fans, Nesting, positioned, Spun}
use Rattle.split.proofs.Labels.{spiral_is}
use Rattle.split.proofs.SubNumbers.{sub_cells}
use Rattle.split.proofs.Parts.{not_spiral}
use Rattle.split.proofs.Nested.{left_none, left_some, sub_sound}
use Rattle.split.proofs.Putting.{inner_left}
use Rattle.split.proofs.Stands.{fans_stop, fans_more}
use Rattle.split.proofs.Fanned.{length_fans, fans_flat, nest_numbered}

-- a place in the list of the numbers of places
place_in : (l : List Place) (g : ℕ) (p : Place) → g < length l → place_at (all_numbers l) g ≡ get_or l g p
place_in l g p h =
    let e : coordinates * g ≡ coordinates * g + 0 = omega arith in
    let a = ap (λ n. get_or (all_numbers l) n nan) e ∙ numbers_at l g 0 p h (omega arith) in
    let b = numbers_at l g 1 p h (omega arith) in
    let c = numbers_at l g 2 p h (omega arith) in
    rw (a, b, c)

-- the middle of a nest's loop goes by the places of the four nodes
axis_ext : (u v : ℕ → Place) → ((k : ℕ) → k < 4 → u k ≡ v k) → (e : ℕ) → e < 3 → (i m : ℕ) → on_axis u e i m ≡ on_axis v e i m
unfolding on_axis lo hi
axis_ext u v same e h i m =
    below_three (λ e. on_axis u e i m ≡ on_axis v e i m)
    (rw (same 0 (omega arith), same 1 (omega arith), same 2 (omega arith), same 3 (omega arith)) refl)
    (rw (same 0 (omega arith), same 1 (omega arith), same 2 (omega arith), same 3 (omega arith)) refl)
    (rw (same 0 (omega arith), same 1 (omega arith), same 2 (omega arith), same 3 (omega arith)) refl)
    e h

module _ (c : Cell) (at : List Place) (four-long : length at ≡ 4) where
  -- the nodes numbered by position, their places by number
  corner_same : (k : ℕ) → k < 4 → corner_place (all_numbers at) (positioned c) k ≡ corner_in at k
  unfolding positioned
  corner_same k h = ap (place_at (all_numbers at)) (below_four (λ k. get_or (0 ∷ 1 ∷ 2 ∷ 3 ∷ []) k 0 ≡ k) refl refl refl refl k h) ∙ place_in at k nowhere (omega arith)

  rank_same : (p : ℕ) → nest_rank (positioned c) p ≡ nest_rank c p
  unfolding positioned nest_rank nest_low
  rank_same p = refl

  fan_same : (p : ℕ) → is_fan (positioned c) p ≡ is_fan c p
  unfolding positioned is_fan
  fan_same p = refl

  counts_same : count_of (positioned c) ≡ count_of c
  unfolding positioned
  counts_same = refl

  pub fans_same : fan_count (positioned c) ≡ fan_count c
  unfolding positioned fan_count is_fan
  fans_same = refl

  module _ (nest : nest_edge (count_of c) < 3) (place : ℕ → Place) where
    middle_same : (p : ℕ) → fan_middle (all_numbers at) place (positioned c) p ≡ nest_middle (corner_in at) c p
    unfolding fan_middle nest_middle
    middle_same p =
        rw (counts_same, lt-ltb (nest_edge (count_of c)) 3 nest, rank_same p)
        (axis_ext (corner_place (all_numbers at) (positioned c)) (corner_in at) corner_same (nest_edge (count_of c)) nest (nest_rank c p) _)

    pub middles_same : cell_middles (all_numbers at) place (positioned c) ≡ fans_in nest_middle at c
    unfolding cell_middles fans_in loop_middle positioned
    middles_same =
        (over_ext (loop_middle (all_numbers at) place (positioned c)) (λ p. pick (is_fan c p) (nest_middle (corner_in at) c p ∷ []) []) (crossings (edges_of c)) 0
        (λ p _ _. ap₂ (λ (b : Bool) (m : Place). pick b (m ∷ []) []) (fan_same p) (middle_same p)))

-- what is written of a nest
pub fans_stored : {c : Cell} → Nesting c → (at : List Place) → length at ≡ 4 → (was : List Float) (i : ℕ) → coordinates * (i + length (fans_in nest_middle at c)) ≤ length was
    → {v : Cell} → v ≡ positioned c → {l is : List Float} {r : ℕ} → l ≡ all_numbers at → r ≡ next_point l (limited v) was i → is ≡ points_then l (limited v) was i
    → Stored was (coordinates * i) (all_numbers (fans_in nest_middle at c)) is (coordinates * r)
unfolding positioned
fans_stored {c} N at four-long was i room {v} e {l} {is} {r} f p q =
    let u = positioned c in
    let s : limited v ≡ u = ap limited e ∙ limited_same u N.near N.starts_six in
    let M : MiddlesRoom u was i = record {
      below = nest_placeable u i N.nest;
      room = omega (arith, room, length_fans nest_middle at c, fans_same c at four-long);
    } in
    let S = middles_stored (all_numbers at) u was i M in
    let p' : r ≡ next_point (all_numbers at) u was i = p ∙ ap₂ (λ (l : List Float) (w : Cell). next_point l w was i) f s in
    let q' : is ≡ points_then (all_numbers at) u was i = q ∙ ap₂ (λ (l : List Float) (w : Cell). points_then l w was i) f s in
    let T = stored_as S (ap all_numbers (middles_same c at four-long N.nest (place_at was))) refl in
    record { area = q' ∙ T.area; after = ap (λ n. coordinates * n) p' ∙ T.after }

module _ {c : Cell} {cell n b f left : ℕ} (W : Spun c cell n b f left) (at : List Place) where
  abbrev L : SplitsLeft c cell n b f left
  L = W.working

  -- no split is left: the cell is a nest
  pub none_nesting : left ≡ 0 → Nesting c
  none_nesting z =
      let e = not_spiral (count_of c) (left_none L z) L.some in
      record {
        near = L.sound.near;
        starts_six = L.sound.starts_six;
        nest = nest_numbered c (record { level = L.sound.level; corners = refl; first = e; second = refl }) (gcd_above (larger (count_of c)) (smaller (count_of c)) L.some W.divisor);
      }

  pub none_fans : left ≡ 0 → standing_fans cell n b f at c ≡ fans_in nest_middle at c
  unfolding standing_fans
  none_fans z = fans_stop cell n b f at c nest_middle (left_none L z)

  pub none_fans_room : left ≡ 0 → (i : ℕ) {size : ℕ} → coordinates * (i + length (standing_fans cell n b f at c)) ≤ size → coordinates * (i + length (fans_in nest_middle at c)) ≤ size
  none_fans_room z i h = omega (arith, h, ap length (none_fans z))

  module _ (h : 0 < left) where
    S : is_spiral (count_of c) ≡ true
    S = left_some L h

    some : 0 < smaller (count_of c)
    some = (spiral_is (count_of c) S).0

    apart : smaller (count_of c) < larger (count_of c)
    apart = (spiral_is (count_of c) S).1

    -- the sub-cell that omits l is a nest
    module _ {u : Cell} {word : ℕ} (e : u ≡ sub c b f word 3) (g : word ≡ cell + word_step * (n + 1)) {at3 : List Place} (p : at3 ≡ sub_places (count_of c) at 3) where
      is_l : u ≡ sub c b f (cell + word_step * (n + 1)) 3
      is_l = e ∙ ap (λ w. sub c b f w 3) g

      pub l_nesting : b + 2 * (larger (count_of c) + smaller (count_of c)) < 67108864 → Nesting u
      l_nesting few =
          let N = (sub_cells c L.sound.level some apart b f (cell + word_step * (n + 1))).omits-l in
          let T = sub_sound c L.sound.level S b f L.below few (cell + word_step * (n + 1)) 3 (omega arith) N.level in
          rw is_l (record {
            near = T.near;
            starts_six = T.starts_six;
            nest = nest_numbered (sub c b f (cell + word_step * (n + 1)) 3) N (gcd_above (larger (count_of c)) (smaller (count_of c)) some W.divisor);
          })

      -- and so on in the nested one
      module _ {v : Cell} {word' b' : ℕ} {at2 : List Place} (e' : v ≡ sub c b f word' 2) (g' : word' ≡ cell + word_step * (n + 2))
          (k : b' ≡ b + 2 * (larger (count_of c) + smaller (count_of c))) (p' : at2 ≡ sub_places (count_of c) at 2) where
        abbrev rest : List Place
        rest = standing_fans cell (n + 2) b' (f + 6) at2 v

        pub next_spun : Spun v cell (n + 2) b' (f + 6) (left - 1)
        next_spun =
            let N = (sub_cells c L.sound.level some apart b f (cell + word_step * (n + 2))).omits_k in
            let i : v ≡ sub c b f (cell + word_step * (n + 2)) 2 = e' ∙ ap (λ w. sub c b f w 2) g' in
            let d : gcd (larger (count_of v)) (smaller (count_of v)) ≡ gcd (larger (count_of c)) (smaller (count_of c)) =
            ap (λ w. gcd (larger (count_of w)) (smaller (count_of w))) i ∙ ap₂ gcd N.first N.second ∙ gcd_next (larger (count_of c)) (smaller (count_of c)) some apart in
            record { working = inner_left L h e' g' k; divisor = omega (arith, d, W.divisor) }

        all_fans : standing_fans cell n b f at c ≡ fans_in nest_middle at3 u ++ rest
        unfolding standing_fans
        all_fans =
            let s1 = sub c b f (cell + word_step * (n + 3 + 4 * splits_within (count_of c))) 1 in
            let s0 = sub c b f (cell + word_step * (n + 4 + 4 * splits_within (count_of c))) 0 in
            let j = fans_flat nest_middle (sub_places (count_of c) at 1) s1 (sub_cells c L.sound.level some apart b f (cell + word_step * (n + 3 + 4 * splits_within (count_of c)))).omits-j in
            let i = fans_flat nest_middle (sub_places (count_of c) at 0) s0 (sub_cells c L.sound.level some apart b f (cell + word_step * (n + 4 + 4 * splits_within (count_of c)))).omits-i in
            rw (p, is_l, p', k, e', g')
            (fans_more cell n b f at c nest_middle L.sound.level S
            ∙ rw (j, i) (ap (λ (l : List Place). fans_in nest_middle (sub_places (count_of c) at 3) (sub c b f (cell + word_step * (n + 1)) 3) ++ l) (append-nil _)))

        sizes : length (standing_fans cell n b f at c) ≡ length (fans_in nest_middle at3 u) + length rest
        sizes = ap length all_fans ∙ length-append (fans_in nest_middle at3 u) rest

        module _ (was : List Float) (i : ℕ) (room : coordinates * (i + length (standing_fans cell n b f at c)) ≤ length was) where
          pub first_room : coordinates * (i + length (fans_in nest_middle at3 u)) ≤ length was
          first_room = omega (arith, room, sizes)

          module _ {mid : List Float} (j : ℕ) (T : Stored was (coordinates * i) (all_numbers (fans_in nest_middle at3 u)) mid (coordinates * j)) where
            pub fans_room : coordinates * (j + length rest) ≤ length mid
            fans_room = omega (arith, room, sizes, T.after, stored_long T, length_numbers (fans_in nest_middle at3 u))

            pub fans_all : {is : List Float} {r : ℕ} → Stored mid (coordinates * j) (all_numbers rest) is r → Stored was (coordinates * i) (all_numbers (standing_fans cell n b f at c)) is r
            fans_all Q = stored_as (points-then (fans_in nest_middle at3 u) rest T Q) (ap all_numbers (sym all_fans)) refl
