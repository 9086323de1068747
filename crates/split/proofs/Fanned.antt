-- The fans of a cell in which only rule 1 is met, by its numbers; the points of a split cell counted.
use Prim.Native.Nat.{ℕ, ◌+◌, ◌*◌, ◌≤◌, ◌<◌}
use mathlib.Core.Path.{◌≡◌, refl, sym, ap, ap₂, ◌∙◌}
use mathlib.Core.Bool.{Bool, true, false, not}
use mathlib.Core.List.{List, [], ◌∷◌, ◌++◌}
use native.Mathlib.Omega.{arith}
use native.Mathlib.Decide.{ℕ_discrete}
use lib.Dec.{eqb, ltb}
use lib.ListN.{length, length-append}
use borrow.Author.Tests.{eqb-true, eqb-false, ltb-true, ltb-false}
use Rattle.counting.specs.Gcd.{gcd}
use Rattle.counting.specs.Pick.{pick}
use Rattle.counting.specs.Lists.{one, total, gather}
use Rattle.counting.proofs.Kept.{tally_kept}
use Rattle.counting.proofs.Lists.{length_singles, one_long}
use Rattle.counting.proofs.Range.{total_ext, total_zero, length_over}
use Rattle.counting.proofs.Search.{count_total}
use Rattle.place.specs.declared.Place.{Place}
use Rattle.manifold.specs.Shape.{has_middle}
use Rattle.cell.specs.declared.Cell.{Cell}
use Rattle.cell.specs.Cell.{Edges, crossings}
use Rattle.cell.specs.Of.{count_of, edges_of}
use Rattle.cell.specs.Loop.{loop_size, normal, leasts}
use Rattle.cell.specs.Level.{is_level_cell}
use Rattle.cell.specs.claims.Nests.{nest_edge}
use Rattle.cell.specs.Middles.{is_fan}
use Rattle.cell.specs.claims.Middles.{fan_count}
use Rattle.cell.proofs.Fans.{fan_none, fan_three, fan_normal, fan_else}
use Rattle.booking.specs.Figures.{inner_crossings, beside_split}
use Rattle.booking.specs.claims.Figures.{end_number}
use Rattle.booking.specs.Booking.{larger, smaller, is_spiral}
use Rattle.booking.specs.claims.Claims.{LoopLaws}
use Rattle.booking.proofs.Figures.{figure_stop, figure_step, induct, gcd_next, figure_laws}
use Rattle.booking.proofs.Claims.{books}
use Rattle.split.specs.Limits.{word_step}
use Rattle.split.specs.Labels.{spoke}
use Rattle.split.specs.SubCell.{sub}
use Rattle.split.specs.Parts.{splits_within}
use Rattle.split.specs.claims.Claims.{NumbersAre}
use Rattle.split.specs.Standing.{sub_places, arm_place, arm_places, split_places, fans_in, fans_of}
use Rattle.split.specs.work.Spots.{standing_inner, added_fans}
use Rattle.split.proofs.Axis.{nest_counts}
use Rattle.split.proofs.Labels.{spiral_is}
use Rattle.split.proofs.SubNumbers.{sub_cells}
use Rattle.split.proofs.Stands.{stands, spin, onward, inmost, inner_stop, inner_more, fans_stop, fans_more}

module _ (c : Cell) (K : is_level_cell (count_of c) ≡ true) where
  abbrev w : Edges
  w = edges_of c

  laws : LoopLaws w
  laws = (books w K).loops

  fans_are : fan_count c ≡ total (λ p. one (is_fan c p)) (crossings w) 0
  unfolding fan_count
  fans_are = count_total (is_fan c) (crossings w)

  others_are : total (λ p. pick (ltb 0 (loop_size w p)) (one (not (eqb (loop_size w p) 3))) 0) (crossings w) 0 ≡ gcd (larger (count_of c)) (smaller (count_of c))
  unfolding leasts
  others_are = sym (tally_kept (λ p. ltb 0 (loop_size w p)) (λ p. not (eqb (loop_size w p) 3)) (crossings w) 0) ∙ laws.others

  -- with d2 above 0 every loop that is no triangle is a fan
  pub fans_some : 0 < smaller (count_of c) → fan_count c ≡ gcd (larger (count_of c)) (smaller (count_of c))
  unfolding is_fan
  fans_some h =
      fans_are
      ∙ total_ext (λ p. one (is_fan c p)) (λ p. pick (ltb 0 (loop_size w p)) (one (not (eqb (loop_size w p) 3))) 0) (crossings w) 0 (λ p _ l. same p (omega arith))
      ∙ others_are
    where
      same : (p : ℕ) → p < crossings w → one (is_fan c p) ≡ pick (ltb 0 (loop_size w p)) (one (not (eqb (loop_size w p) 3))) 0
      same p l = go (ltb 0 (loop_size w p)) refl (eqb (loop_size w p) 3) refl
        where
          go : (a : Bool) → ltb 0 (loop_size w p) ≡ a → (t : Bool) → eqb (loop_size w p) 3 ≡ t → one (has_middle (loop_size w p) (normal w p)) ≡ pick a (one (not t)) 0
          go false q t r = sym (fan_none (loop_size w p) (normal w p) (omega (arith, ltb-false 0 (loop_size w p) q)))
          go true q true r = sym (fan_three (loop_size w p) (normal w p) (eqb-true (loop_size w p) 3 r))
          go true q false r =
              let s = ltb-true 0 (loop_size w p) q in
              let e = eqb-false (loop_size w p) 3 r in
              let m = laws.longer h p (record { start = l; some = s; no_three = e }) in
              sym (fan_else (loop_size w p) (normal w p) (λ z. omega arith) e (λ z. absurd (omega arith)))

  -- and else it is a quad
  pub fans_none : smaller (count_of c) ≡ 0 → fan_count c ≡ 0
  unfolding is_fan
  fans_none h = fans_are ∙ total_zero (λ p. one (is_fan c p)) (crossings w) 0 (λ p _ l. flat p (omega arith))
    where
      flat : (p : ℕ) → p < crossings w → one (is_fan c p) ≡ 0
      flat p l = elim (ℕ_discrete (loop_size w p) 0) [
        | yes e ↦ sym (fan_none (loop_size w p) (normal w p) e)
        | no e ↦ elim (ℕ_discrete (loop_size w p) 3) [
          | yes t ↦ sym (fan_three (loop_size w p) (normal w p) t)
          | no t ↦ sym (fan_normal (loop_size w p) (normal w p) (laws.quad h p (record { start = l; some = omega arith; no_three = t })) (laws.all_normal p l))
        ]
      ]

-- the middles of a cell's fans are as many
no_list : (l : List Place) → length l ≡ 0 → l ≡ []
no_list [] e = refl
no_list (x ∷ l) e = absurd (omega arith)

module _ (mid : (ℕ → Place) → Cell → ℕ → Place) (at : List Place) (c : Cell) where
  pub length_fans : length (fans_in mid at c) ≡ fan_count c
  unfolding fans_in fan_count
  length_fans =
      length_over _ (crossings (edges_of c)) 0
      ∙ total_ext _ (λ p. one (is_fan c p)) (crossings (edges_of c)) 0 (λ p a b. one_long (is_fan c p) _)
      ∙ sym (count_total (is_fan c) (crossings (edges_of c)))

  -- by its numbers: m and m, or m and 0
  module _ {t m : ℕ} where
    pub fans_equal : NumbersAre (count_of c) t m m → 0 < m → length (fans_in mid at c) ≡ gcd m m
    fans_equal N h = length_fans ∙ fans_some c N.level (omega (arith, N.second)) ∙ ap₂ gcd N.first N.second

    pub fans_flat : NumbersAre (count_of c) t m 0 → fans_in mid at c ≡ []
    fans_flat N = no_list (fans_in mid at c) (length_fans ∙ fans_none c N.level N.second)

-- a nest by its numbers
pub nest_numbered : (c : Cell) {t m : ℕ} → NumbersAre (count_of c) t m m → 1 < m → nest_edge (count_of c) < 3
nest_numbered c N h = nest_counts (count_of c) N.level N.first N.second h

-- the inner crossings of a split
pub length_split : (c : Cell) (at : List Place) → is_spiral (count_of c) ≡ true → length (split_places (count_of c) at) ≡ 2 * (larger (count_of c) + smaller (count_of c))
unfolding split_places arm_places spoke total
length_split c at S =
    length_over (arm_places (count_of c) at) 4 0
    ∙ total_ext (λ n. length (arm_places (count_of c) at n)) (spoke (count_of c)) 4 0 (λ n _ _. length_singles (arm_place (count_of c) at n) (spoke (count_of c) n) 0)
    ∙ omega (arith, spiral_is (count_of c) S)

module _ (cell : ℕ) where
  pub length_inner : (n b f : ℕ) (at : List Place) (c : Cell) → is_level_cell (count_of c) ≡ true → 0 < smaller (count_of c)
      → length (standing_inner cell n b f at c) ≡ inner_crossings (larger (count_of c)) (smaller (count_of c))
  length_inner =
      spin cell (λ n b f at c. length (standing_inner cell n b f at c) ≡ inner_crossings (larger (count_of c)) (smaller (count_of c)))
      (λ n b f at c K h e s.
      ap length (inner_stop cell n b f at c s)
      ∙ sym (figure_stop (λ n. 0) (λ x y. 2 * (x + y)) (smaller (count_of c))) ∙ ap (λ x. inner_crossings x (smaller (count_of c))) (sym e))
      (λ n b f at c K s i.
      let (some, apart) = spiral_is (count_of c) s in
      let N = (sub_cells c K some apart b f (cell + word_step * (n + 2))).omits_k in
      let rest = standing_inner cell (n + 2) (onward cell n b f at c) (f + 6) (sub_places (count_of c) at 2) (inmost cell n b f at c) in
      ap length (inner_more cell n b f at c K s) ∙ length-append (split_places (count_of c) at) rest
      ∙ ap₂ ◌+◌ (length_split c at s) (i ∙ ap₂ inner_crossings N.first N.second)
      ∙ sym (figure_step (λ n. 0) (λ x y. 2 * (x + y)) (larger (count_of c)) (smaller (count_of c)) some apart))

  -- and the fans: those that the splits add, and as many as the cell has without
  module _ (mid : (ℕ → Place) → Cell → ℕ → Place) where
    sum_fans : (l k j i y s t u : ℕ) → l ≡ gcd y y → gcd y y ≡ y → k ≡ s + t → s ≡ u → j ≡ 0 → i ≡ 0 → l + (k + (j + i)) ≡ u + (y + t)
    sum_fans l k j i y s t u a b c d e f = omega arith

    pub length_spun : (n b f : ℕ) (at : List Place) (c : Cell) → is_level_cell (count_of c) ≡ true → 0 < smaller (count_of c)
        → length (gather (fans_of mid) (stands cell n b f at c)) ≡ gcd (larger (count_of c)) (smaller (count_of c)) + added_fans (larger (count_of c)) (smaller (count_of c))
    length_spun =
        spin cell (λ n b f at c. length (gather (fans_of mid) (stands cell n b f at c)) ≡ gcd (larger (count_of c)) (smaller (count_of c)) + added_fans (larger (count_of c)) (smaller (count_of c)))
        (λ n b f at c K h e s.
        ap length (fans_stop cell n b f at c mid s) ∙ length_fans mid at c ∙ fans_some c K h
        ∙ omega (arith, figure_stop (λ n. 0) (λ x y. y) (smaller (count_of c)), ap (λ x. added_fans x (smaller (count_of c))) e))
        (λ n b f at c K s i.
        let (some, apart) = spiral_is (count_of c) s in
        let x = larger (count_of c) in
        let y = smaller (count_of c) in
        let N = (sub_cells c K some apart b f (cell + word_step * (n + 2))).omits_k in
        let s3 = sub c b f (cell + word_step * (n + 1)) 3 in
        let s1 = sub c b f (cell + word_step * (n + 3 + 4 * splits_within (count_of c))) 1 in
        let s0 = sub c b f (cell + word_step * (n + 4 + 4 * splits_within (count_of c))) 0 in
        let rest = gather (fans_of mid) (stands cell (n + 2) (onward cell n b f at c) (f + 6) (sub_places (count_of c) at 2) (inmost cell n b f at c)) in
        let A = fans_in mid (sub_places (count_of c) at 3) s3 in
        let B = fans_in mid (sub_places (count_of c) at 1) s1 in
        let D = fans_in mid (sub_places (count_of c) at 0) s0 in
        let sizes : length (A ++ (rest ++ (B ++ D))) ≡ length A + (length rest + (length B + length D)) = length-append A (rest ++ (B ++ D)) ∙ ap (λ m. length A + m) (length-append rest (B ++ D) ∙ ap (λ m. length rest + m) (length-append B D)) in
        ap length (fans_more cell n b f at c mid K s)
        ∙ sizes
        ∙ sum_fans (length A) (length rest) (length B) (length D) y _ _ (gcd x y) (fans_equal mid (sub_places (count_of c) at 3) s3 (sub_cells c K some apart b f (cell + word_step * (n + 1))).omits-l some)
        (sym (figure_laws y y some (omega arith)).end ∙ figure_stop (λ n. n) (λ x y. 0) y)
        (i ∙ ap₂ (λ x y. gcd x y + added_fans x y) N.first N.second)
        (gcd_next x y some apart)
        (ap length (fans_flat mid (sub_places (count_of c) at 1) s1 (sub_cells c K some apart b f (cell + word_step * (n + 3 + 4 * splits_within (count_of c)))).omits-j))
        (ap length (fans_flat mid (sub_places (count_of c) at 0) s0 (sub_cells c K some apart b f (cell + word_step * (n + 4 + 4 * splits_within (count_of c)))).omits-i))
        ∙ ap (λ m. gcd x y + m) (sym (figure_step (λ n. 0) (λ x y. y) x y some apart)))

-- the fans that splits add, from the other figures: a split with x and y has 4 x + 10 y triangles and 2 (x + y) inner crossings
pub figures_tell : (x y : ℕ) → 0 < y → y ≤ x → beside_split x y ≡ 8 * end_number x y + 2 * inner_crossings x y + 6 * added_fans x y
figures_tell = induct (λ x y. beside_split x y ≡ 8 * end_number x y + 2 * inner_crossings x y + 6 * added_fans x y)
    (λ x p. omega (
      arith,
      figure_stop (λ n. 8 * n) (λ x y. 4 * x + 10 * y) x,
      figure_stop (λ n. n) (λ x y. 0) x,
      figure_stop (λ n. 0) (λ x y. 2 * (x + y)) x,
      figure_stop (λ n. 0) (λ x y. y) x,
    ))
    (λ x y p h i. omega (
      arith,
      i,
      figure_step (λ n. 8 * n) (λ x y. 4 * x + 10 * y) x y p h,
      figure_step (λ n. n) (λ x y. 0) x y p h,
      figure_step (λ n. 0) (λ x y. 2 * (x + y)) x y p h,
      figure_step (λ n. 0) (λ x y. y) x y p h,
    ))
