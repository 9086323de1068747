-- The middles of a split cell's fans by counts are those of 02: every fan of its parts is one of a nest.
use Prim.Native.Nat.{ℕ, ◌+◌, ◌*◌, ◌<◌}
use mathlib.Core.Path.{◌≡◌, refl, sym, ap, ap₂, ◌∙◌}
use mathlib.Core.Bool.{Bool, true, false}
use mathlib.Core.List.{List, [], ◌∷◌, ◌++◌}
use native.Mathlib.Omega.{arith}
use lib.Ieee.{Float}
use borrow.Author.Tests.{lt-ltb}
use Rattle.counting.specs.Gcd.{gcd}
use Rattle.counting.specs.Lists.{one, gather, over, values}
use Rattle.counting.specs.claims.Lists.{All}
use Rattle.counting.specs.Search.{count}
use Rattle.counting.proofs.Gcd.{gcd_above}
use Rattle.counting.proofs.Lists.{all_append, one_ext}
use Rattle.counting.proofs.Range.{over_ext, total_has, over_none}
use Rattle.counting.proofs.Search.{count_total}
use Rattle.grid.specs.Grid.{cell_count, crossings as gridCrossings}
use Rattle.mesh.specs.Mesh.{grid_cell}
use Rattle.place.specs.declared.Place.{Place}
use Rattle.manifold.proofs.Shapes.{middle_fan}
use Rattle.cell.specs.declared.Cell.{Cell}
use Rattle.cell.specs.Cell.{crossings}
use Rattle.cell.specs.Of.{count_of, edges_of}
use Rattle.cell.specs.Loop.{loop_size, normal}
use Rattle.cell.specs.Level.{is_level_cell}
use Rattle.cell.specs.claims.Nests.{nest_edge, nest_middle}
use Rattle.cell.specs.Middles.{is_fan}
use Rattle.cell.specs.claims.Middles.{fan_count, cell_middles}
use Rattle.booking.specs.Booking.{larger, smaller, is_split}
use Rattle.booking.proofs.Figures.{gcd_next}
use Rattle.split.specs.Limits.{first_inner_crossing, first_inner_face, word_step}
use Rattle.split.specs.SubCell.{sub}
use Rattle.split.specs.Parts.{whole, splits_within}
use Rattle.split.specs.claims.Claims.{NumbersAre}
use Rattle.split.specs.Standing.{corner_in, corners_of, sub_places, Standing, stand, fans_in, fans_of, all_standing, inner_places, drawn_middles}
use Rattle.split.proofs.Axis.{counts_nest}
use Rattle.split.proofs.Labels.{spiral_is}
use Rattle.split.proofs.SubNumbers.{sub_cells}
use Rattle.split.proofs.Lengths.{split_is}
use Rattle.split.proofs.Stands.{first_of, omits_l, omits_j, omits_i, stands, stands_stop, stands_more, spin, inmost, fans_stop, fans_more}
use Rattle.split.proofs.Fanned.{fans_none, fans_flat, nest_numbered}
use Rattle.split.proofs.Spotted.{split_divisor, inner_not, middles_not}
use Rattle.places.specs.Nested.{nested_middle, placed_middles}
use Rattle.places.specs.Points.{crossing_place, inner_points, middles, points}
use Rattle.places.specs.claims.Claims.{FansNested, SplitNested, UnsplitPlaced}
use Rattle.places.proofs.Nested.{not_three, same_test, middle_same, by_counts}

-- a test that a number passes
count_pos : (t : ℕ → Bool) (n p : ℕ) → p < n → t p ≡ true → 0 < count t n
count_pos t n p l e = omega (arith, count_total t n, total_has (λ i. one (t i)) n 0 p (omega arith) (omega arith), ap one e)

-- of a nest
nest_fans : (at : List Place) (c : Cell) → nest_edge (count_of c) < 3 → fans_in nest_middle at c ≡ fans_in nested_middle at c
unfolding fans_in is_fan
nest_fans at c h =
    let (b, d, N) = counts_nest (count_of c) h in
    over_ext _ _ (crossings (edges_of c)) 0
    (λ p _ l. one_ext (is_fan c p) _ _
    (λ f. middle_same c N (corner_in at) p
    (record { start = omega arith; some = (middle_fan (loop_size (edges_of c) p) (normal (edges_of c) p) f).0; no_three = not_three (loop_size (edges_of c) p) (normal (edges_of c) p) f })))

four_same : {a b c d e f g h : List Place} → a ≡ b → c ≡ d → e ≡ f → g ≡ h → a ++ (c ++ (e ++ g)) ≡ b ++ (d ++ (f ++ h))
four_same p q r s = rw (p, q, r, s) refl

spun_same : (cell n b f : ℕ) (at : List Place) (c : Cell) → is_level_cell (count_of c) ≡ true → 0 < smaller (count_of c) → 1 < gcd (larger (count_of c)) (smaller (count_of c))
    → gather (fans_of nest_middle) (stands cell n b f at c) ≡ gather (fans_of nested_middle) (stands cell n b f at c)
spun_same cell =
    spin cell (λ n b f at c. 1 < gcd (larger (count_of c)) (smaller (count_of c)) → gather (fans_of nest_middle) (stands cell n b f at c) ≡ gather (fans_of nested_middle) (stands cell n b f at c))
    (λ n b f at c K h e s g.
    fans_stop cell n b f at c nest_middle s
    ∙ nest_fans at c (nest_numbered c (record { level = K; corners = refl; first = e; second = refl }) (gcd_above (larger (count_of c)) (smaller (count_of c)) h g))
    ∙ sym (fans_stop cell n b f at c nested_middle s))
    (λ n b f at c K s i g.
    let (some, apart) = spiral_is (count_of c) s in
    let x = larger (count_of c) in
    let y = smaller (count_of c) in
    let N = (sub_cells c K some apart b f (cell + word_step * (n + 2))).omits_k in
    let s3 = sub c b f (cell + word_step * (n + 1)) 3 in
    let s1 = sub c b f (cell + word_step * (n + 3 + 4 * splits_within (count_of c))) 1 in
    let s0 = sub c b f (cell + word_step * (n + 4 + 4 * splits_within (count_of c))) 0 in
    let N1 = (sub_cells c K some apart b f (cell + word_step * (n + 3 + 4 * splits_within (count_of c)))).omits-j in
    let N0 = (sub_cells c K some apart b f (cell + word_step * (n + 4 + 4 * splits_within (count_of c)))).omits-i in
    let k : gcd (larger (count_of (inmost cell n b f at c))) (smaller (count_of (inmost cell n b f at c))) ≡ gcd x y = ap₂ gcd N.first N.second ∙ gcd_next x y some apart in
    fans_more cell n b f at c nest_middle K s
    ∙ four_same (nest_fans (sub_places (count_of c) at 3) s3 (nest_numbered s3 (sub_cells c K some apart b f (cell + word_step * (n + 1))).omits-l (gcd_above x y some g)))
    (i (omega (arith, k, g)))
    (fans_flat nest_middle (sub_places (count_of c) at 1) s1 N1 ∙ sym (fans_flat nested_middle (sub_places (count_of c) at 1) s1 N1))
    (fans_flat nest_middle (sub_places (count_of c) at 0) s0 N0 ∙ sym (fans_flat nested_middle (sub_places (count_of c) at 0) s0 N0))
    ∙ sym (fans_more cell n b f at c nested_middle K s))

-- of any cell
drawn_split : (nodes : List Float) (c : Cell) → is_split (count_of c) ≡ true → (mid : (ℕ → Place) → Cell → ℕ → Place) (others : List Place)
    → drawn_middles nodes c mid others ≡ gather (fans_of mid) (stands c.index 0 first_inner_crossing first_inner_face (corners_of nodes c) c)
unfolding drawn_middles all_standing
drawn_split nodes c e mid others = rw (e, drawn_middles)

pub drawn_same : (nodes : List Float) (place : ℕ → Place) (c : Cell) → drawn_middles nodes c nest_middle (cell_middles nodes place c) ≡ drawn_middles nodes c nested_middle (placed_middles nodes place c)
drawn_same nodes place c = go (is_split (count_of c)) refl
  where
    go : (s : Bool) → is_split (count_of c) ≡ s → drawn_middles nodes c nest_middle (cell_middles nodes place c) ≡ drawn_middles nodes c nested_middle (placed_middles nodes place c)
    go false e = middles_not nodes c e nest_middle (cell_middles nodes place c) ∙ by_counts nodes place c ∙ sym (middles_not nodes c e nested_middle (placed_middles nodes place c))
    go true e =
        let S = split_is (count_of c) e in
        drawn_split nodes c e nest_middle (cell_middles nodes place c)
        ∙ spun_same c.index 0 first_inner_crossing first_inner_face (corners_of nodes c) c S.level S.some (split_divisor (count_of c) e)
        ∙ sym (drawn_split nodes c e nested_middle (placed_middles nodes place c))

-- each fan of a split cell is one of a nest
nested_part : (c : Cell) → nest_edge (count_of c) < 3 → FansNested (whole c)
nested_part c h p l f = same_test c ∙ lt-ltb (nest_edge (count_of c)) 3 h

flat_part : (c : Cell) {t m : ℕ} → NumbersAre (count_of c) t m 0 → FansNested (whole c)
unfolding fan_count
flat_part c N p l f = absurd (omega (arith, count_pos (is_fan c) (crossings (edges_of c)) p l f, fans_none c N.level N.second))

all_none : All (λ (s : Standing). FansNested s.part) []
unfolding All
all_none = tt

all_more : (s : Standing) (l : List Standing) → FansNested s.part → All (λ (s : Standing). FansNested s.part) l → All (λ (s : Standing). FansNested s.part) (s ∷ l)
unfolding All
all_more s l x y = (x, y)

spun_nested : (cell n b f : ℕ) (at : List Place) (c : Cell) → is_level_cell (count_of c) ≡ true → 0 < smaller (count_of c) → 1 < gcd (larger (count_of c)) (smaller (count_of c))
    → All (λ s. FansNested s.part) (stands cell n b f at c)
spun_nested cell =
    spin cell (λ n b f at c. 1 < gcd (larger (count_of c)) (smaller (count_of c)) → All (λ s. FansNested s.part) (stands cell n b f at c))
    (λ n b f at c K h e s g.
    rw (stands_stop cell n b f at c s)
    (all_more (stand at (whole c)) [] (nested_part c (nest_numbered c (record { level = K; corners = refl; first = e; second = refl }) (gcd_above (larger (count_of c)) (smaller (count_of c)) h g))) all_none))
    (λ n b f at c K s i g.
    let (some, apart) = spiral_is (count_of c) s in
    let x = larger (count_of c) in
    let y = smaller (count_of c) in
    let N = (sub_cells c K some apart b f (cell + word_step * (n + 2))).omits_k in
    let s3 = sub c b f (cell + word_step * (n + 1)) 3 in
    let s1 = sub c b f (cell + word_step * (n + 3 + 4 * splits_within (count_of c))) 1 in
    let s0 = sub c b f (cell + word_step * (n + 4 + 4 * splits_within (count_of c))) 0 in
    let k : gcd (larger (count_of (inmost cell n b f at c))) (smaller (count_of (inmost cell n b f at c))) ≡ gcd x y = ap₂ gcd N.first N.second ∙ gcd_next x y some apart in
    rw (stands_more cell n b f at c K s)
    (all_more (first_of cell n b f at c) _ tt
    (all_more (omits_l cell n b f at c) _ (nested_part s3 (nest_numbered s3 (sub_cells c K some apart b f (cell + word_step * (n + 1))).omits-l (gcd_above x y some g)))
    (all_append (λ (s : Standing). FansNested s.part) _ _ (i (omega (arith, k, g)))
    (all_more (omits_j cell n b f at c) _ (flat_part s1 (sub_cells c K some apart b f (cell + word_step * (n + 3 + 4 * splits_within (count_of c)))).omits-j)
    (all_more (omits_i cell n b f at c) _ (flat_part s0 (sub_cells c K some apart b f (cell + word_step * (n + 4 + 4 * splits_within (count_of c)))).omits-i) all_none))))))

pub split_nested : SplitNested
unfolding all_standing
split_nested nodes c e =
    let S = split_is (count_of c) e in
    spun_nested c.index 0 first_inner_crossing first_inner_face (corners_of nodes c) c S.level S.some (split_divisor (count_of c) e)

-- a grid without split cells
pub unsplit_placed : UnsplitPlaced
unfolding points inner_points middles
unsplit_placed G nodes fractions h =
    let place = crossing_place G.edges G.counts nodes fractions in
    let n = cell_count G.cells in
    let i : over (λ c. inner_places nodes (grid_cell G c)) n 0 ≡ [] = over_none (λ c. inner_places nodes (grid_cell G c)) n 0 (λ c _ l. inner_not nodes (grid_cell G c) (h c (omega arith))) in
    let f : ℕ → List Place = λ c. drawn_middles nodes (grid_cell G c) nested_middle (placed_middles nodes place (grid_cell G c)) in
    let g : ℕ → List Place = λ c. placed_middles nodes place (grid_cell G c) in
    let m : over f n 0 ≡ over g n 0 = over_ext f g n 0 (λ c _ l. middles_not nodes (grid_cell G c) (h c (omega arith)) nested_middle (placed_middles nodes place (grid_cell G c))) in
    ap₂ (λ (x y : List Place). values place (gridCrossings G.counts) ++ (x ++ y)) i m
