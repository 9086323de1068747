-- What is drawn of the cells of a grid's tables: how much it is, and that each cell can be written.
use Prim.Native.Nat.{ℕ, suc, ◌+◌, ◌-◌, ◌*◌, ◌%◌, ◌≤◌, ◌<◌}
use mathlib.Core.Path.{◌≡◌, refl, sym, ap, ◌∙◌}
use mathlib.Core.Bool.{Bool, true, false}
use mathlib.Core.List.{List, ◌++◌}
use native.Mathlib.Decide.{dec_lt}
use native.Mathlib.Omega.{arith}
use lib.ListN.{length, get_or, length-append}
use Rattle.counting.specs.Pick.{pick}
use Rattle.counting.specs.Lists.{total, over}
use Rattle.counting.specs.work.Stored.{Stored}
use Rattle.counting.proofs.Fronts.{over_split}
use Rattle.counting.proofs.Lists.{length_singles, values_at, gather_over}
use Rattle.counting.proofs.Range.{total_ext, total_add, total_has, length_over, over_ext, over_snoc}
use Rattle.counting.proofs.Stored.{stored_none, stored_long, stored_as, stored_then}
use Rattle.slots.specs.Limits.{most_cells}
use Rattle.cell.specs.declared.Cell.{Cell}
use Rattle.cell.specs.claims.Table.{short_limit, side, table_cell, taken_counts, drawn_cells, table_triangles}
use Rattle.cell.specs.Of.{count_of, start_of}
use Rattle.cell.specs.Level.{by_edge}
use Rattle.cell.specs.declared.Triangle.{Triangle}
use Rattle.cell.specs.Words.{word_count, words, all_words}
use Rattle.cell.specs.Triangles.{cell_triangles, triangles_with}
use Rattle.cell.proofs.Taken.{with_all}
use Rattle.cell.proofs.Values.{taken_is}
use Rattle.cell.proofs.Storing.{length_all, words_of, written_all, written_room}
use Rattle.booking.specs.Figures.{splits}
use Rattle.booking.specs.Booking.{larger, smaller, is_split}
use Rattle.booking.specs.claims.Booking.{splits_in, more_in}
use Rattle.booking.specs.declared.Gain.{Gain}
use Rattle.booking.specs.work.Sums.{GainIn}
use Rattle.booking.proofs.Figures.{figure_step}
use Rattle.split.specs.Parts.{drawn_triangles, splits_of}
use Rattle.split.specs.work.Table.{table_drawn, table_splits}
use Rattle.split.specs.work.Gains.{splits_at, more_at, loop_words, IsStretch}
use Rattle.split.specs.work.Working.{Drawable}
use Rattle.split.proofs.Lengths.{split_is, drawn_not}
use Rattle.split.proofs.Gained.{drawn_gained, splits_told}
use Rattle.split.proofs.Few.{gain_at}

-- the lists from p up to e are those up to k and those from k on
module _ {A : Type 0} (f : ℕ → List A) (p k : ℕ) (l : p ≤ k) (e : ℕ) (m : k ≤ e) where
  over_cut : over f (e - p) p ≡ over f (k - p) p ++ over f (e - k) k
  over_cut =
      let s : e - p ≡ (k - p) + (e - k) = omega arith in
      let q : p + (k - p) ≡ k = omega arith in
      ap (λ n. over f n p) s ∙ over_split f (k - p) (e - k) p ∙ ap (λ n. over f (k - p) p ++ over f (e - k) n) q

  cut_long : length (over f (e - p) p) ≡ length (over f (k - p) p) + length (over f (e - k) k)
  cut_long = ap length over_cut ∙ length-append (over f (k - p) p) (over f (e - k) k)

-- one list more
module _ {A : Type 0} (f : ℕ → List A) (p k : ℕ) (l : p ≤ k) where
  over_next : over f (k + 1 - p) p ≡ over f (k - p) p ++ f k
  over_next =
      let s : k + 1 - p ≡ suc (k - p) = omega arith in
      let q : p + (k - p) ≡ k = omega arith in
      ap (λ n. over f n p) s ∙ over_snoc f (k - p) p ∙ ap (λ n. over f (k - p) p ++ f n) q

-- the same from 0 on
module _ {A : Type 0} (f : ℕ → List A) (k e : ℕ) (m : k ≤ e) where
  over_up : over f e 0 ≡ over f k 0 ++ over f (e - k) k
  over_up = let a : e - 0 ≡ e = omega arith in let b : k - 0 ≡ k = omega arith in rw (a, b) at (over_cut f 0 k (omega arith) e m)

  up_long : length (over f e 0) ≡ length (over f k 0) + length (over f (e - k) k)
  up_long = ap length over_up ∙ length-append (over f k 0) (over f (e - k) k)

-- the words of the loops' triangles of a cell
abbrev loops_at : (cells counts names sides starts : List ℕ) → ℕ → List ℕ
loops_at cells counts names sides starts k = all_words (cell_triangles (table_cell cells counts names sides starts k))

-- those of the cells from c on, cell after cell: those up to k are stored
module _ (cells counts names sides starts : List ℕ) (c : ℕ) where
  abbrev loops : ℕ → List ℕ
  loops = loops_at cells counts names sides starts

  pub each_none : (was : List ℕ) (at : ℕ) → Stored was at (loop_words cells counts names sides starts c (c - c)) was at
  unfolding over
  each_none was at = let e : c - c ≡ 0 = omega arith in rw e (stored_none was at)

  module _ {was : List ℕ} {at k : ℕ} {is : List ℕ} {i : ℕ} (l : c ≤ k) (S : Stored was at (loop_words cells counts names sides starts c (k - c)) is i)
      {v : Cell} (q : v ≡ table_cell cells counts names sides starts k) where
    loops_with : all_words (triangles_with v 0) ≡ loops k
    loops_with = ap (λ v. all_words (triangles_with v 0)) q ∙ ap all_words (with_all (table_cell cells counts names sides starts k))

    pub each_room : {e : ℕ} → k < e → at + length (loop_words cells counts names sides starts c (e - c)) ≤ length was → i + length (all_words (triangles_with v 0)) ≤ length is
    each_room {e} h room =
        omega (
          arith,
          room,
          S.after,
          stored_long S,
          ap length loops_with,
          cut_long loops c (k + 1) (omega arith) e (omega arith),
          ap length (over_next loops c k l) ∙ length-append (over loops (k - c) c) (loops k),
        )

    pub each_more : {is' : List ℕ} {j : ℕ} → Stored is i (all_words (triangles_with v 0)) is' j → Stored was at (loop_words cells counts names sides starts c (k + 1 - c)) is' j
    each_more T = stored_as (stored_then S (stored_as T loops_with refl)) (sym (over_next loops c k l)) refl

-- one cell more without splits
pub none_more : (counts sides : List ℕ) {c e : ℕ} → ((k : ℕ) → c ≤ k → k < e → splits_at counts sides k ≡ 0) → splits_at counts sides e ≡ 0
    → (k : ℕ) → c ≤ k → k < e + 1 → splits_at counts sides k ≡ 0
none_more counts sides {c} {e} none z k a b = elim (dec_lt k e) [
  | yes l ↦ none k a l
  | no l ↦ let q : k ≡ e = omega arith in ap (splits_at counts sides) q ∙ z
]

-- a cell in which no splits are made is not split, and drawn as it is
pub unsplit : (c : Cell) → splits_of c ≡ 0 → is_split (count_of c) ≡ false
unfolding splits_of
unsplit c z = go (is_split (count_of c)) refl z
  where
    go : (s : Bool) → is_split (count_of c) ≡ s → pick s (splits (larger (count_of c)) (smaller (count_of c))) 0 ≡ 0 → is_split (count_of c) ≡ false
    go false e z = e
    go true e z =
        let S = split_is (count_of c) e in
        absurd (omega (arith, z, figure_step (λ n. 0) (λ x y. 1) (larger (count_of c)) (smaller (count_of c)) S.some S.more))

module _ (cells counts names sides starts : List ℕ) where
  abbrev at : ℕ → Cell
  at c = table_cell cells counts names sides starts c

  splits-at : (c : ℕ) → splits_at counts sides c ≡ splits_of (at c)
  unfolding splits_at
  splits-at c = ap splits_in (taken_is cells counts names sides starts c) ∙ splits_told (at c)

  more-at : (c : ℕ) → length (drawn_triangles (at c)) ≡ length (cell_triangles (at c)) + more_at counts sides c
  unfolding more_at
  more-at c = drawn_gained (at c) ∙ ap (λ w. length (cell_triangles (at c)) + more_in w) (sym (taken_is cells counts names sides starts c))

  pub unsplit_at : (c : ℕ) → splits_at counts sides c ≡ 0 → is_split (count_of (at c)) ≡ false
  unsplit_at c z = unsplit (at c) (sym (splits-at c) ∙ z)

  drawn_unsplit : (c : ℕ) → splits_at counts sides c ≡ 0 → cell_triangles (at c) ≡ drawn_triangles (at c)
  drawn_unsplit c z = sym (drawn_not (at c) (unsplit_at c z))

  -- all cells
  pub splits_all : total (splits_at counts sides) (drawn_cells cells) 0 ≡ table_splits cells counts names sides starts
  unfolding table_splits
  splits_all = total_ext (splits_at counts sides) (λ c. splits_of (at c)) (drawn_cells cells) 0 (λ c _ _. splits-at c)

  pub drawn_long : length (table_drawn cells counts names sides starts) ≡ length (table_triangles cells counts names sides starts) + total (more_at counts sides) (drawn_cells cells) 0
  unfolding table_drawn table_triangles
  drawn_long =
      length_over (λ c. drawn_triangles (at c)) (drawn_cells cells) 0
      ∙ total_ext (λ c. length (drawn_triangles (at c))) (λ c. length (cell_triangles (at c)) + more_at counts sides c) (drawn_cells cells) 0 (λ c _ _. more-at c)
      ∙ total_add (λ c. length (cell_triangles (at c))) (more_at counts sides) (drawn_cells cells) 0
      ∙ ap (λ n. n + total (more_at counts sides) (drawn_cells cells) 0) (sym (length_over (λ c. cell_triangles (at c)) (drawn_cells cells) 0))

  pub drawn_none : total (splits_at counts sides) (drawn_cells cells) 0 ≡ 0 → table_triangles cells counts names sides starts ≡ table_drawn cells counts names sides starts
  unfolding table_drawn table_triangles
  drawn_none z =
      over_ext (λ c. cell_triangles (at c)) (λ c. drawn_triangles (at c)) (drawn_cells cells) 0
      (λ c a b. drawn_unsplit c (omega (arith, total_has (splits_at counts sides) (drawn_cells cells) 0 c a b, z)))

  -- cell c can be written
  module _ (c : ℕ) where
    counts_six : length (at c).counts ≡ 6
    unfolding table_cell
    counts_six = length_singles (λ k. get_or counts (side sides (c % most_cells) k) 0) 6 0

    starts_six : length (at c).starts ≡ 6
    unfolding table_cell
    starts_six = length_singles (λ k. get_or starts (side sides (c % most_cells) k) 0 % short_limit) 6 0

    starts_low : (e : ℕ) → e < 6 → start_of (at c) e < short_limit
    unfolding table_cell
    starts_low e l = rw (values_at (λ k. get_or starts (side sides (c % most_cells) k) 0 % short_limit) 6 e 0 l) (omega arith)

    index_low : (at c).index < most_cells
    unfolding table_cell
    index_low = omega arith

    pub splits_drawable : {v : Cell} {splits : ℕ} → v ≡ at c → splits ≡ splits_at counts sides c → Drawable v splits
    splits_drawable e f =
        rw e (record {
          counts_six = counts_six;
          starts_six = starts_six;
          below = λ k l. omega (arith, starts_low k l);
          index_lt = index_low;
          splits_are = f ∙ splits-at c;
        })

    pub table_drawable : {v : Cell} {six : List ℕ} {g : Gain} → v ≡ at c → six ≡ taken_counts counts sides c → GainIn (by_edge six) g → Drawable v g.splits
    table_drawable e f G = splits_drawable e (gain_at counts sides c f G).0

  -- the words of the cells, one after the other: k are written, and the next goes to i
  abbrev pub drawn_at : ℕ → List Triangle
  drawn_at c = drawn_triangles (at c)

  module _ {was : List ℕ} {k : ℕ} {is : List ℕ} {i : ℕ} (S : Stored was 0 (over (words_of drawn_at) k 0) is i)
      (room : word_count * length (table_drawn cells counts names sides starts) ≤ length was) where
    pub next_room : k < drawn_cells cells → i + length (all_words (drawn_at k)) ≤ length is
    unfolding table_drawn
    next_room l = omega (arith, room, written_room drawn_at k S (drawn_cells cells) l, length_all (drawn_at k), stored_long S)

    -- a stretch of cells that are not split, up to e
    module _ {n e splits : ℕ} (R : IsStretch counts sides k n e splits) (l : n ≤ drawn_cells cells) where
      stretch_is : loop_words cells counts names sides starts k (e - k) ≡ over (words_of drawn_at) (e - k) k
      stretch_is = over_ext (loops_at cells counts names sides starts) (words_of drawn_at) (e - k) k (λ c a b. ap all_words (drawn_unsplit c (R.none c a (omega (arith, R.from)))))

      pub stretch_room : i + length (loop_words cells counts names sides starts k (e - k)) ≤ length is
      unfolding table_drawn
      stretch_room =
          omega (
            arith,
            room,
            S.after,
            stored_long S,
            ap length stretch_is,
            up_long (words_of drawn_at) k e R.from,
            up_long (words_of drawn_at) e (drawn_cells cells) (omega (arith, R.within)),
            ap length (gather_over words drawn_at (drawn_cells cells) 0),
            length_all (over drawn_at (drawn_cells cells) 0),
          )

      pub stretch_written : {out : List ℕ} {r : ℕ} → Stored is i (loop_words cells counts names sides starts k (e - k)) out r → Stored was 0 (over (words_of drawn_at) e 0) out r
      stretch_written T = stored_as (stored_then S (stored_as T stretch_is refl)) (sym (over_up (words_of drawn_at) k e R.from)) refl

    pub all_written : k ≡ drawn_cells cells → Stored was 0 (all_words (table_drawn cells counts names sides starts)) is i
    unfolding table_drawn
    all_written e =
        let w = written_all drawn_at k S (drawn_cells cells) e in
        record { area = w.1; after = omega (arith, w.0, length_all (over drawn_at (drawn_cells cells) 0)) }
