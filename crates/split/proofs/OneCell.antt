-- What is drawn of a cell of a grid: its parts where it is split, its loops where it is not.
use Prim.Native.Nat.{ℕ, ◌+◌, ◌≤◌, ◌<◌}
use mathlib.Core.Path.{◌≡◌, refl, sym, ap, ◌∙◌}
use mathlib.Core.Bool.{Bool, true, false}
use native.Mathlib.Nat.{mul-le-mul}
use native.Mathlib.Omega.{arith}
use lib.ListN.{length}
use Rattle.counting.specs.Pick.{pick}
use Rattle.slots.specs.Limits.{most_count}
use Rattle.cell.specs.declared.Cell.{Cell}
use Rattle.cell.specs.Of.{count_of}
use Rattle.cell.specs.Words.{all_words}
use Rattle.cell.specs.Triangles.{triangles_with}
use Rattle.cell.proofs.Taken.{with_all}
use Rattle.booking.specs.Figures.{splits}
use Rattle.booking.specs.Booking.{larger, smaller, is_split}
use Rattle.booking.proofs.Figures.{figure_step, figure_laws}
use Rattle.split.specs.Limits.{first_inner_crossing, first_inner_face}
use Rattle.split.specs.Parts.{all_parts, drawn_triangles, splits_of}
use Rattle.split.specs.work.Working.{StartsNear, Drawable, SplitsLeft, parts_words}
use Rattle.split.proofs.SubCells.{most-sum}
use Rattle.split.proofs.Lengths.{IsSplit, split_is, drawn_not, drawn_is}

module _ {c : Cell} {left : ℕ} (D : Drawable c left) where
  pub drawn_placed : StartsNear c
  drawn_placed = record { near = λ e l. omega (arith, D.below e l); starts_six = D.starts_six }

  splits-by : (s : Bool) → is_split (count_of c) ≡ s → left ≡ pick s (splits (larger (count_of c)) (smaller (count_of c))) 0
  unfolding splits_of
  splits-by s e = D.splits_are ∙ rw e refl

  -- a cell that is split has splits
  pub drawn_split : 0 < left → is_split (count_of c) ≡ true
  drawn_split h = go (is_split (count_of c)) refl
    where
      go : (s : Bool) → is_split (count_of c) ≡ s → is_split (count_of c) ≡ true
      go true e = e
      go false e = absurd (omega (arith, splits-by false e))

  pub words_whole : left ≡ 0 → all_words (triangles_with c 0) ≡ all_words (drawn_triangles c)
  words_whole z = go (is_split (count_of c)) refl
    where
      go : (s : Bool) → is_split (count_of c) ≡ s → all_words (triangles_with c 0) ≡ all_words (drawn_triangles c)
      go false e = ap all_words (with_all c ∙ sym (drawn_not c e))
      go true e =
          let S = split_is (count_of c) e in
          absurd (omega (arith, splits-by true e, figure_step (λ n. 0) (λ x y. 1) (larger (count_of c)) (smaller (count_of c)) S.some S.more))

  pub whole_room : (at : ℕ) {size : ℕ} → left ≡ 0 → at + length (all_words (drawn_triangles c)) ≤ size → at + length (all_words (triangles_with c 0)) ≤ size
  whole_room at z h = omega (arith, ap length (words_whole z), h)

  module _ (h : 0 < left) where
    S : IsSplit (count_of c)
    S = split_is (count_of c) (drawn_split h)

    pub drawn-parts : all_words (drawn_triangles c) ≡ parts_words (larger (count_of c) + smaller (count_of c)) c.index 0 first_inner_crossing first_inner_face c
    unfolding all_parts
    drawn-parts = ap all_words (drawn_is c (drawn_split h))

    pub drawn_left : SplitsLeft c c.index 0 first_inner_crossing first_inner_face left
    drawn_left =
        let F = figure_laws (larger (count_of c)) (smaller (count_of c)) S.some (omega (arith, S.more)) in
        let m = most-sum c S.level S.some S.more in
        let x : larger (count_of c) ≤ most_count = omega (arith, m) in
        let i = splits-by true (drawn_split h) in
        record {
          sound = record { near = drawn_placed.near; counts_six = D.counts_six; starts_six = D.starts_six; level = S.level };
          below = D.below;
          some = S.some;
          left_is = i;
          cell_lt = D.index_lt;
          n_few = omega (arith, i, F.splits_fit, x);
          b_few = omega (arith, F.inner_fit, mul-le-mul x x);
          f_few = omega (arith, i, F.splits_fit, x);
        }

    pub parts_room : (at : ℕ) {size : ℕ} → at + length (all_words (drawn_triangles c)) ≤ size
        → at + length (parts_words (larger (count_of c) + smaller (count_of c)) c.index 0 first_inner_crossing first_inner_face c) ≤ size
    parts_room at r = omega (arith, ap length drawn-parts, r)
