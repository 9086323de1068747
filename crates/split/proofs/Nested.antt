-- What is asked of a cell that is split holds of its sub-cells, with the next numbers.
use Prim.Native.Nat.{ℕ, ◌+◌, ◌-◌, ◌*◌, ◌≤◌, ◌<◌, min}
use mathlib.Core.Path.{◌≡◌, refl, ap, ap₂, ◌∙◌}
use mathlib.Core.Bool.{Bool, true, false}
use native.Mathlib.Omega.{arith}
use lib.ListN.{length}
use Rattle.counting.specs.Lists.{total, pre}
use Rattle.counting.proofs.Pack.{pre_le}
use Rattle.counting.proofs.Below.{below_six}
use Rattle.slots.specs.Slots.{position, slot_edge}
use Rattle.slots.proofs.Slots.{slot-edge, corner_lt}
use Rattle.cell.specs.declared.Cell.{Cell}
use Rattle.cell.specs.work.Limits.{start_limit}
use Rattle.cell.specs.Of.{count_of, start_of}
use Rattle.cell.specs.Level.{is_level_cell}
use Rattle.booking.specs.Figures.{next_larger, next_smaller, splits, inner_crossings}
use Rattle.booking.specs.Booking.{larger, smaller, is_spiral}
use Rattle.booking.proofs.Figures.{figure_stop, figure_step}
use Rattle.split.specs.Limits.{word_step}
use Rattle.split.specs.Labels.{labelled, label, spoke}
use Rattle.split.specs.work.Five.{rest_count, arm_count}
use Rattle.split.specs.SubCell.{rest_start, arm_start, sub, sub_at}
use Rattle.split.specs.Parts.{splits_within}
use Rattle.split.specs.work.Working.{LevelSix, Working, SplitsLeft}
use Rattle.split.proofs.Labels.{spiral_is, labelled_lt, at-label}
use Rattle.split.proofs.Rest.{rest_sum}
use Rattle.split.proofs.SubNumbers.{sub_cells}
use Rattle.split.proofs.Parts.{not_spiral}

module _ (c : Cell) (K : is_level_cell (count_of c) ≡ true) (S : is_spiral (count_of c) ≡ true) (b f : ℕ)
    (below : (e : ℕ) → e < 6 → start_of c e + count_of c e < start_limit) (few : b + 2 * (larger (count_of c) + smaller (count_of c)) < start_limit) where
  some : 0 < smaller (count_of c)
  some = (spiral_is (count_of c) S).0

  apart : smaller (count_of c) < larger (count_of c)
  apart = (spiral_is (count_of c) S).1

  -- the inner crossings end here
  abbrev end : ℕ
  end = b + 2 * (larger (count_of c) + smaller (count_of c))

  spokes : pre (spoke (count_of c)) 4 ≡ 2 * (larger (count_of c) + smaller (count_of c))
  unfolding pre total spoke
  spokes = omega (arith, apart)

  arm_end : (p : ℕ) → p < 4 → arm_start c b p + arm_count c p ≤ end
  unfolding arm_start
  arm_end p lp = omega (arith, pre_le (spoke (count_of c)) 4 (label (count_of c) p) 4 (at-label (count_of c) K some apart p lp).0, spokes)

  rest_end : (e : ℕ) → e < 6 → rest_start c e + rest_count c e < start_limit
  unfolding rest_start
  rest_end e le = omega (arith, rest_sum (count_of c) K e le, below e le)

  -- of the sub-cell that omits position p
  module _ (word p : ℕ) (lp : p < 4) where
    ends : (e : ℕ) → e < 6 → start_of (sub_at c b f word p) e + count_of (sub_at c b f word p) e < start_limit
    unfolding sub_at
    ends = below_six (λ e. start_of (sub_at c b f word p) e + count_of (sub_at c b f word p) e < start_limit) (new 0 (omega arith)) (new 1 (omega arith)) (new 2 (omega arith))
        (old 0 (omega arith)) (old 1 (omega arith)) (old 2 (omega arith))
      where
        new : (q : ℕ) → q < 3 → arm_start c b (position p q) + min (arm_count c (position p q)) 4095 < start_limit
        new q h = omega (arith, arm_end (position p q) (corner_lt p q h))

        old : (j : ℕ) → j < 3 → rest_start c (slot_edge p j) + min (rest_count c (slot_edge p j)) 4095 < start_limit
        old j h = omega (arith, rest_end (slot_edge p j) (slot-edge p j lp h).lt)

  -- and that omits the node with the label m
  module _ (word m : ℕ) (lm : m < 4) where
    pub sub_ends : (e : ℕ) → e < 6 → start_of (sub c b f word m) e + count_of (sub c b f word m) e < start_limit
    unfolding sub
    sub_ends = ends word (labelled (count_of c) m) (labelled_lt (count_of c) K some apart m lm)

    counts_six : length (sub c b f word m).counts ≡ 6
    unfolding sub sub_at
    counts_six = refl

    starts_six : length (sub c b f word m).starts ≡ 6
    unfolding sub sub_at
    starts_six = refl

    pub sub_sound : is_level_cell (count_of (sub c b f word m)) ≡ true → LevelSix (sub c b f word m)
    sub_sound L = record { near = λ e l. omega (arith, sub_ends e l); counts_six = counts_six; starts_six = starts_six; level = L }

-- what is left: none, where there is no spiral
module _ {c : Cell} {cell n b f left : ℕ} (L : SplitsLeft c cell n b f left) where
  splits_none : is_spiral (count_of c) ≡ false → left ≡ 0
  splits_none e = L.left_is ∙ ap (λ x. splits x (smaller (count_of c))) (not_spiral (count_of c) e L.some) ∙ figure_stop (λ n. 0) (λ x y. 1) (smaller (count_of c))

  splits_some : is_spiral (count_of c) ≡ true → left ≡ 1 + splits_within (count_of c)
  splits_some e = let (some, apart) = spiral_is (count_of c) e in L.left_is ∙ figure_step (λ n. 0) (λ x y. 1) (larger (count_of c)) (smaller (count_of c)) some apart

  pub left_none : left ≡ 0 → is_spiral (count_of c) ≡ false
  left_none z = go (is_spiral (count_of c)) refl
    where
      go : (s : Bool) → is_spiral (count_of c) ≡ s → is_spiral (count_of c) ≡ false
      go false e = e
      go true e = absurd (omega (arith, splits_some e))

  pub left_some : 0 < left → is_spiral (count_of c) ≡ true
  left_some h = go (is_spiral (count_of c)) refl
    where
      go : (s : Bool) → is_spiral (count_of c) ≡ s → is_spiral (count_of c) ≡ true
      go true e = e
      go false e = absurd (omega (arith, splits_none e))

  module _ (h : 0 < left) where
    S : is_spiral (count_of c) ≡ true
    S = left_some h

    pub left_nested : left ≡ 1 + splits_within (count_of c)
    left_nested = splits_some S

    inner_more : inner_crossings (larger (count_of c)) (smaller (count_of c))
        ≡ 2 * (larger (count_of c) + smaller (count_of c)) + inner_crossings (next_larger (larger (count_of c)) (smaller (count_of c))) (next_smaller (larger (count_of c)) (smaller (count_of c)))
    inner_more = let (some, apart) = spiral_is (count_of c) S in figure_step (λ n. 0) (λ x y. 2 * (x + y)) (larger (count_of c)) (smaller (count_of c)) some apart

    pub left_working : Working c cell n b f
    left_working = record {
      sound = L.sound;
      spiral = S;
      below = L.below;
      cell_lt = L.cell_lt;
      n_few = omega (arith, L.n_few);
      b_few = omega (arith, L.b_few, inner_more);
      f_few = omega (arith, L.f_few);
    }

    -- the nested sub-cell has one less
    pub left_next : SplitsLeft (sub c b f (cell + word_step * (n + 2)) 2) cell (n + 2) (b + 2 * (larger (count_of c) + smaller (count_of c))) (f + 6) (left - 1)
    left_next =
        let (some, apart) = spiral_is (count_of c) S in
        let N = (sub_cells c L.sound.level some apart b f (cell + word_step * (n + 2))).omits_k in
        let word = cell + word_step * (n + 2) in
        let i : inner_crossings (larger (count_of (sub c b f word 2))) (smaller (count_of (sub c b f word 2)))
        ≡ inner_crossings (next_larger (larger (count_of c)) (smaller (count_of c))) (next_smaller (larger (count_of c)) (smaller (count_of c))) = ap₂ inner_crossings N.first N.second in
        let k : splits (larger (count_of (sub c b f word 2))) (smaller (count_of (sub c b f word 2))) ≡ splits_within (count_of c) = ap₂ splits N.first N.second in
        record {
          sound = sub_sound c L.sound.level S b f L.below (omega (arith, L.b_few, inner_more)) word 2 (omega arith) N.level;
          below = sub_ends c L.sound.level S b f L.below (omega (arith, L.b_few, inner_more)) word 2 (omega arith);
          some = omega (arith, N.second);
          left_is = omega (arith, left_nested, k);
          cell_lt = L.cell_lt;
          n_few = omega (arith, L.n_few);
          b_few = omega (arith, L.b_few, inner_more, i);
          f_few = omega (arith, L.f_few);
        }

    -- and the sum of its two numbers is less
    pub left_less : larger (count_of (sub c b f (cell + word_step * (n + 2)) 2)) + smaller (count_of (sub c b f (cell + word_step * (n + 2)) 2)) < larger (count_of c) + smaller (count_of c)
    left_less =
        let (some, apart) = spiral_is (count_of c) S in
        let N = (sub_cells c L.sound.level some apart b f (cell + word_step * (n + 2))).omits_k in
        omega (arith, N.first, N.second)
