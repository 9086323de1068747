-- How many triangles the parts of a cell have, by the booking of each: as many as the figure says. No more than the counts is asked.
use Prim.Native.Nat.{ℕ, zero, suc, ◌+◌, ◌-◌, ◌*◌, ◌/◌, ◌≤◌, ◌<◌}
use mathlib.Core.Path.{◌≡◌, refl, sym, ap, ap₂, ◌∙◌}
use mathlib.Core.Bool.{Bool, true, false}
use mathlib.Core.List.{List, [], ◌∷◌, ◌++◌, append-nil}
use native.Mathlib.Omega.{arith}
use lib.Dec.{eqb, ltb}
use lib.ListN.{length, length-append}
use borrow.Author.Tests.{eqb-true}
use Rattle.counting.specs.Pick.{pick}
use Rattle.counting.specs.Lists.{one, gather}
use Rattle.counting.specs.Gcd.{gcd}
use Rattle.counting.proofs.Bools.{and_left, and_right}
use Rattle.counting.proofs.Range.{length_over, total_ext, total_mono}
use Rattle.counting.proofs.Lists.{gather_append}
use Rattle.manifold.specs.Shape.{shape_of, many_of}
use Rattle.cell.specs.declared.Cell.{Cell}
use Rattle.cell.specs.Cell.{crossings}
use Rattle.cell.specs.Of.{count_of, edges_of}
use Rattle.cell.specs.Loop.{loop_size, normal}
use Rattle.cell.specs.Triangles.{loop_triangles, cell_triangles, asked_triangles, triangles_with}
use Rattle.cell.specs.Level.{is_level_cell}
use Rattle.cell.proofs.Taken.{length_loop}
use Rattle.booking.specs.Booking.{corner_triangles, larger, smaller, beside, beside_drawn, is_spiral, is_split, booked_split}
use Rattle.booking.specs.claims.Booking.{booked}
use Rattle.booking.proofs.Count.{threes_are}
use Rattle.booking.proofs.Claims.{triangles_booked}
use Rattle.split.specs.Limits.{first_inner_crossing, first_inner_face, word_step}
use Rattle.booking.specs.Figures.{are_spiral, are_split, next_larger, next_smaller, splits, beside_split}
use Rattle.split.specs.SubCell.{sub}
use Rattle.split.specs.Parts.{Part, whole, corners, splits_within, parts, all_parts, own_corners, part_triangles, drawn_triangles, splits_of}
use Rattle.split.specs.claims.Claims.{NumbersAre, DrawnCounted, DrawnBooked, most_splits, SplitsFew}
use Rattle.booking.proofs.Figures.{figure_stop, figure_step, figure_laws}
use Rattle.booking.proofs.Drawn.{beside_more}
use Rattle.split.proofs.Labels.{spiral_is}
use Rattle.split.proofs.SubNumbers.{sub_cells}
use Rattle.split.proofs.Parts.{in_order, not_spiral, stop, more, drawn_whole, drawn_all}

-- the own corner triangles are as many as the booking says
pub own-count : (c : Cell) → is_level_cell (count_of c) ≡ true → length (own_corners c) ≡ corner_triangles (count_of c)
unfolding own_corners triangles_with asked_triangles
own-count c K =
    length_over (λ p. pick (eqb (loop_size (edges_of c) p) 3) (loop_triangles c p) []) (crossings (edges_of c)) 0
    ∙ total_ext (λ p. length (pick (eqb (loop_size (edges_of c) p) 3) (loop_triangles c p) [])) (λ p. one (eqb (loop_size (edges_of c) p) 3)) (crossings (edges_of c)) 0
    (λ p a h. at p (eqb (loop_size (edges_of c) p) 3) refl)
    ∙ threes_are (edges_of c) K
  where
    at : (p : ℕ) (s : Bool) → eqb (loop_size (edges_of c) p) 3 ≡ s → length (pick s (loop_triangles c p) []) ≡ one s
    at p false e = refl
    at p true e = length_loop c p ∙ ap (λ n. many_of (shape_of n (normal (edges_of c) p)) n) (eqb-true (loop_size (edges_of c) p) 3 e)

-- beside the corner triangles of a part that is not split
beside_flat : (x : ℕ) → beside x 0 ≡ 2 * x
unfolding beside
beside_flat x = refl

-- at the end, where both numbers are equal, the figure has the fans
pub end_sum : (w : ℕ → ℕ) → 0 < smaller w → larger w ≡ smaller w → booked w ≡ corner_triangles w + beside_split (larger w) (smaller w)
unfolding booked
end_sum w p q =
    ap (λ m. corner_triangles w + m)
    (ap (λ x. beside x (smaller w)) q ∙ beside_more (smaller w) (smaller w) p
    ∙ omega (arith, figure_stop (λ n. 8 * n) (λ x y. 4 * x + 10 * y) (smaller w)) ∙ ap (λ x. beside_split x (smaller w)) (sym q))

-- in a split, the own corner triangles a, and b to e of the sub-cells that omit l, k, j, i: the figure's step
sum : (t x y a b c d e r : ℕ) → y < x → a ≡ t → b ≡ x - y + 4 * (y + y) → c ≡ y + r → d ≡ x + 2 * y → e ≡ 2 * y + 2 * (x - y)
    → a + (b + (c + (d + e))) ≡ t + (4 * x + 10 * y + r)
sum t x y a b c d e r h p q u v z = omega arith

module _ (w : ℕ → ℕ) (some : 0 < smaller w) (more : smaller w < larger w) {l k j i : ℕ → ℕ}
    (L : NumbersAre l (larger w - smaller w) (smaller w) (smaller w))
    (Q : NumbersAre k (smaller w) (next_larger (larger w) (smaller w)) (next_smaller (larger w) (smaller w)))
    (J : NumbersAre j (larger w) (smaller w) 0) (I : NumbersAre i (2 * smaller w) (larger w - smaller w) 0) where
  by_numbers : {v : ℕ → ℕ} {t x y : ℕ} → NumbersAre v t x y → booked v ≡ t + beside x y
  unfolding booked
  by_numbers N = ap₂ ◌+◌ N.corners (ap₂ beside N.first N.second)

  pub five_sum : {a b c d e : ℕ} → a ≡ corner_triangles w → b ≡ booked l → c ≡ corner_triangles k + beside_split (larger k) (smaller k) → d ≡ booked j → e ≡ booked i
      → a + (b + (c + (d + e))) ≡ corner_triangles w + beside_split (larger w) (smaller w)
  five_sum {a} {b} {c} {d} {e} p q u v z =
      sum (corner_triangles w) (larger w) (smaller w) a b c d e (beside_split (next_larger (larger w) (smaller w)) (next_smaller (larger w) (smaller w))) more
      p
      (q ∙ by_numbers L ∙ ap (λ m. larger w - smaller w + m) (beside_more (smaller w) (smaller w) some))
      (u ∙ ap₂ ◌+◌ Q.corners (ap₂ beside_split Q.first Q.second))
      (v ∙ by_numbers J ∙ ap (λ m. larger w + m) (beside_flat (smaller w)))
      (z ∙ by_numbers I ∙ ap (λ m. 2 * smaller w + m) (beside_flat (larger w - smaller w)))
      ∙ ap (λ m. corner_triangles w + m) (sym (figure_step (λ n. 8 * n) (λ x y. 4 * x + 10 * y) (larger w) (smaller w) some more))

-- of all parts
abbrev drawn : List Part → ℕ
drawn l = length (gather part_triangles l)

drawn_five : (c s3 s1 s0 : Cell) (l : List Part)
    → drawn (corners c ∷ whole s3 ∷ (l ++ (whole s1 ∷ whole s0 ∷ []))) ≡ length (own_corners c) + (length (cell_triangles s3) + (drawn l + (length (cell_triangles s1) + length (cell_triangles s0))))
unfolding gather
drawn_five c s3 s1 s0 l =
    length-append (own_corners c) _
    ∙ ap (λ n. length (own_corners c) + n)
    (length-append (cell_triangles s3) _
    ∙ ap (λ n. length (cell_triangles s3) + n)
    (ap length (gather_append part_triangles l (whole s1 ∷ whole s0 ∷ [])) ∙ length-append (gather part_triangles l) _ ∙ ap (λ n. drawn l + n) two))
  where
    two : length (cell_triangles s1 ++ (cell_triangles s0 ++ [])) ≡ length (cell_triangles s1) + length (cell_triangles s0)
    two = length-append (cell_triangles s1) _ ∙ ap (λ n. length (cell_triangles s1) + n) (length-append (cell_triangles s0) [] ∙ omega arith)

drawn_one : (c : Cell) → drawn (whole c ∷ []) ≡ length (cell_triangles c)
unfolding gather
drawn_one c = length-append (cell_triangles c) [] ∙ omega arith

pub parts_drawn : (fuel cell n b f : ℕ) (c : Cell) → is_level_cell (count_of c) ≡ true → 0 < smaller (count_of c) → larger (count_of c) + smaller (count_of c) ≤ fuel
    → drawn (parts fuel cell n b f c) ≡ corner_triangles (count_of c) + beside_split (larger (count_of c)) (smaller (count_of c))
parts_drawn zero cell n b f c K p h = absurd (omega arith)
parts_drawn (suc fuel) cell n b f c K p h =
    go (is_spiral (count_of c)) refl
    (λ L x y. parts_drawn fuel cell (n + 2) (b + 2 * (larger (count_of c) + smaller (count_of c))) (f + 6) (sub c b f (cell + word_step * (n + 2)) 2) L x y)
  where
    inner : List Part
    inner = parts fuel cell (n + 2) (b + 2 * (larger (count_of c) + smaller (count_of c))) (f + 6) (sub c b f (cell + word_step * (n + 2)) 2)

    v : ℕ → ℕ
    v = count_of (sub c b f (cell + word_step * (n + 2)) 2)

    go : (s : Bool) → is_spiral (count_of c) ≡ s
        → (is_level_cell v ≡ true → 0 < smaller v → larger v + smaller v ≤ fuel → drawn inner ≡ corner_triangles v + beside_split (larger v) (smaller v))
        → drawn (parts (suc fuel) cell n b f c) ≡ corner_triangles (count_of c) + beside_split (larger (count_of c)) (smaller (count_of c))
    go false e i = ap drawn (stop fuel cell n b f c e) ∙ drawn_one c ∙ triangles_booked c K ∙ end_sum (count_of c) p (not_spiral (count_of c) e p)
    go true e i =
        let (some, apart) = spiral_is (count_of c) e in
        let L = (sub_cells c K some apart b f (cell + word_step * (n + 1))).omits-l in
        let N = (sub_cells c K some apart b f (cell + word_step * (n + 2))).omits_k in
        let J = (sub_cells c K some apart b f (cell + word_step * (n + 3 + 4 * splits_within (count_of c)))).omits-j in
        let I = (sub_cells c K some apart b f (cell + word_step * (n + 4 + 4 * splits_within (count_of c)))).omits-i in
        ap drawn (more fuel cell n b f c e)
        ∙ drawn_five c (sub c b f (cell + word_step * (n + 1)) 3) (sub c b f (cell + word_step * (n + 3 + 4 * splits_within (count_of c))) 1) (sub c b f (cell + word_step * (n + 4 + 4 * splits_within (count_of c))) 0) inner
        ∙ five_sum (count_of c) some apart L N J I (own-count c K)
        (triangles_booked (sub c b f (cell + word_step * (n + 1)) 3) L.level)
        (i N.level (omega (arith, N.second)) (omega (arith, N.first, N.second)))
        (triangles_booked (sub c b f (cell + word_step * (n + 3 + 4 * splits_within (count_of c))) 1) J.level)
        (triangles_booked (sub c b f (cell + word_step * (n + 4 + 4 * splits_within (count_of c))) 0) I.level)

-- which cells are split, as facts
pub record IsSplit (w : ℕ → ℕ) : Type 0 where
  pub level : is_level_cell w ≡ true
  pub some : 0 < smaller w
  pub more : smaller w < larger w

pub split_is : (w : ℕ → ℕ) → is_split w ≡ true → IsSplit w
unfolding is_split are_split is_spiral
split_is w e =
    let r = and_right (is_level_cell w) (are_split (larger w) (smaller w)) e in
    let (a, b) = spiral_is w (and_left (are_spiral (larger w) (smaller w)) (ltb 1 (gcd (larger w) (smaller w))) r) in
    record { level = and_left (is_level_cell w) (are_split (larger w) (smaller w)) e; some = a; more = b }

pub whole_alone : (c : Cell) → gather part_triangles (whole c ∷ []) ≡ cell_triangles c
unfolding gather
whole_alone c = append-nil (cell_triangles c)

pub drawn_not : (c : Cell) → is_split (count_of c) ≡ false → drawn_triangles c ≡ cell_triangles c
unfolding drawn_triangles
drawn_not c e = ap (gather part_triangles) (drawn_whole c e) ∙ whole_alone c

pub drawn_is : (c : Cell) → is_split (count_of c) ≡ true → drawn_triangles c ≡ gather part_triangles (all_parts c)
unfolding drawn_triangles
drawn_is c e = ap (gather part_triangles) (drawn_all c e)

pub drawn_counted : DrawnCounted
unfolding all_parts
drawn_counted c e =
    let S = split_is (count_of c) e in
    ap length (drawn_is c e) ∙ (parts_drawn (larger (count_of c) + smaller (count_of c)) c.index 0 first_inner_crossing first_inner_face c S.level S.some (omega arith))

pub split_by : (w : ℕ → ℕ) → is_level_cell w ≡ true → is_split w ≡ are_split (larger w) (smaller w)
unfolding is_split
split_by w K = rw K

-- what is booked, of a cell that is split and of one that is not
module _ (w : ℕ → ℕ) (K : is_level_cell w ≡ true) where
  pub booked-split : is_split w ≡ true → booked_split w ≡ corner_triangles w + beside_split (larger w) (smaller w)
  unfolding booked_split beside_drawn
  booked-split e = rw (sym (split_by w K) ∙ e)

  pub booked_whole : is_split w ≡ false → booked_split w ≡ booked w
  unfolding booked booked_split beside_drawn
  booked_whole e = rw (sym (split_by w K) ∙ e)

pub drawn_booked : DrawnBooked
drawn_booked c K = go (is_split (count_of c)) refl
  where
    go : (s : Bool) → is_split (count_of c) ≡ s → length (drawn_triangles c) ≡ booked_split (count_of c)
    go true e = drawn_counted c e ∙ sym (booked-split (count_of c) K e)
    go false e = ap length (drawn_not c e) ∙ triangles_booked c K ∙ sym (booked_whole (count_of c) K e)

few-splits : (c : Cell) → splits_of c ≤ most_splits (count_of c)
unfolding splits_of
few-splits c = go (is_split (count_of c)) refl
  where
    go : (s : Bool) → is_split (count_of c) ≡ s
        → pick (is_split (count_of c)) (splits (larger (count_of c)) (smaller (count_of c))) 0
        ≤ pick (is_split (count_of c)) (larger (count_of c) / gcd (larger (count_of c)) (smaller (count_of c)) - 1) 0
    go false e = rw e (omega arith)
    go true e =
        let S = split_is (count_of c) e in
        rw e (omega (arith, (figure_laws (larger (count_of c)) (smaller (count_of c)) S.some (in_order (count_of c))).few))

pub splits_few : SplitsFew
splits_few = record {
  one = few-splits;
  sum = λ size cells. total_mono (λ k. splits_of (cells k)) (λ k. most_splits (count_of (cells k))) size 0 (λ k a b. few-splits (cells k));
}
