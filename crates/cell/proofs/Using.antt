-- What is kept of the arrays that the walks use.
use Prim.Native.Nat.{ℕ, zero, suc, ◌-◌, ◌%◌, ◌≤◌, ◌<◌, min}
use mathlib.Core.Path.{◌≡◌, refl, sym, ap, ◌∙◌}
use mathlib.Core.List.{List, [], ◌∷◌, ◌++◌}
use native.Mathlib.Decide.{dec_lt}
use native.Mathlib.Omega.{arith}
use lib.ListN.{length, get_or, drop, set, replicate, length-set}
use lib.Seq.{drop-set-lt, drop_at, ext_get_or}
use Rattle.counting.specs.Lists.{values, over}
use Rattle.counting.specs.Stored.{filled}
use Rattle.counting.proofs.Fronts.{sets_front}
use Rattle.counting.proofs.Lists.{length_singles, values_at}
use Rattle.counting.proofs.Stored.{filled_front, length_filled}
use borrow.Rule.Slice.PartMut.{post_of, Post-is}
use Rattle.counting.proofs.Pack.{pre_most}
use Rattle.slots.specs.Limits.{most_count, most_cells}
use Rattle.cell.specs.declared.Cell.{Cell}
use Rattle.cell.specs.Cell.{crossings}
use Rattle.cell.specs.Of.{count_of, start_of, edges_of}
use Rattle.cell.specs.work.Route.{limited, Near}
use Rattle.cell.specs.work.Limits.{most_in_cell, few_count, few_in_cell, start_limit}
use Rattle.cell.specs.claims.Table.{short_limit, side, table_counts, table_cell}
use Rattle.cell.specs.work.Table.{table_crossings}
use Rattle.cell.specs.work.Walked.{Kept, Long, Few, Spacious, Sized, Used, Room}
use Rattle.cell.proofs.Values.{past_end}

pub kept_none : (n : ℕ) (l : List ℕ) → Kept n l l
kept_none n l = record { long = refl; back = refl }

pub kept_set : {n : ℕ} {l m : List ℕ} → Kept n l m → (i v : ℕ) → i < n → Kept n l (set m i v)
kept_set {n} {l} {m} K i v h = record { long = length-set m i v ∙ K.long; back = drop-set-lt n m i v h ∙ K.back }

pub kept_then : {n : ℕ} {l m o : List ℕ} → Kept n l m → Kept n m o → Kept n l o
kept_then K L = record { long = L.long ∙ K.long; back = L.back ∙ K.back }

-- lists whose first n places are filled
module _ (f : ℕ → ℕ) (n : ℕ) where
  parts : (l : List ℕ) → n ≤ length l → filled f n l ≡ values f n ++ drop n l
  unfolding filled
  parts l h = sets_front (values f n) l (omega (arith, length_singles f n 0)) ∙ ap (λ k. values f n ++ drop k l) (length_singles f n 0)

  pub filled_same : (l : List ℕ) {m : List ℕ} → m ≡ filled f n l → length m ≡ length l
  filled_same l e = ap length e ∙ length_filled f n l

  pub kept_filled : (l : List ℕ) → n ≤ length l → Kept n l (filled f n l)
  kept_filled l h = record { long = length_filled f n l; back = ap (drop n) (parts l h) ∙ drop_at (values f n) (drop n l) n (length_singles f n 0) }

module _ {n : ℕ} {ms hs ps ms' hs' ps' : List ℕ} (U : Used n ms hs ps ms' hs' ps') where
  pub used_then : {ms'' hs'' ps'' : List ℕ} → Used n ms' hs' ps' ms'' hs'' ps'' → Used n ms hs ps ms'' hs'' ps''
  used_then T = record {
    marks_kept = kept_then U.marks_kept T.marks_kept;
    halves_kept = kept_then U.halves_kept T.halves_kept;
    points_kept = kept_then U.points_kept T.points_kept;
  }

pub used_none : (n : ℕ) (ms hs ps : List ℕ) → Used n ms hs ps ms hs ps
used_none n ms hs ps = record { marks_kept = kept_none n ms; halves_kept = kept_none n hs; points_kept = kept_none n ps }

-- arrays that keep their lengths
pub sized_none : (ms hs ps : List ℕ) → Sized ms hs ps ms hs ps
sized_none ms hs ps = record { marks_same = refl; halves_same = refl; points_same = refl }

pub used_sized : {n : ℕ} {ms hs ps ms' hs' ps' : List ℕ} → Used n ms hs ps ms' hs' ps' → Sized ms hs ps ms' hs' ps'
used_sized U = record { marks_same = U.marks_kept.long; halves_same = U.halves_kept.long; points_same = U.points_kept.long }

-- the starts of a cell of the tables are within their limit
pub table_near : (cells counts names sides starts : List ℕ) (c : ℕ) → Near (table_cell cells counts names sides starts c)
unfolding table_cell
table_near cells counts names sides starts c e l =
    let f : ℕ → ℕ = λ k. get_or starts (side sides (c % most_cells) k) 0 % short_limit in
    rw (values_at f 6 e 0 l) (omega arith)

-- so are those of a cell that is taken with its starts within the limit
pub limited_near : (c : Cell) → Near (limited c)
unfolding limited
limited_near c e l = let f : ℕ → ℕ = λ k. min (start_of c k) (start_limit - 1) in rw (values_at f 6 e 0 l) (omega arith)

-- a cell with six starts within the limit is taken as it is
pub limited_same : (c : Cell) → Near c → length c.starts ≡ 6 → limited c ≡ c
unfolding limited
limited_same c near six =
    let f : ℕ → ℕ = λ e. min (start_of c e) (start_limit - 1) in
    let e : values f 6 ≡ c.starts = ext_get_or 0 (values f 6) c.starts (length_singles f 6 0 ∙ sym six) (λ i k. (let h : i < 6 = omega (arith, length_singles f 6 0) in values_at f 6 i 0 h ∙ omega (arith, near i h))) in
    ap (λ s. record { counts = c.counts; starts = s; names = c.names; nodes = c.nodes; index = c.index }) e

module _ {ms hs ps ms' hs' ps' : List ℕ} (S : Sized ms hs ps ms' hs' ps') where
  pub sized_on : {ms'' hs'' ps'' : List ℕ} → Sized ms' hs' ps' ms'' hs'' ps'' → Sized ms hs ps ms'' hs'' ps''
  sized_on T = record {
    marks_same = T.marks_same ∙ S.marks_same;
    halves_same = T.halves_same ∙ S.halves_same;
    points_same = T.points_same ∙ S.points_same;
  }

  pub sized_long : {n : ℕ} → Long n ms hs ps → Long n ms' hs' ps'
  sized_long L = record {
    marks_long = rw S.marks_same L.marks_long;
    halves_long = rw S.halves_same L.halves_long;
    points_long = rw S.points_same L.points_long;
  }

  pub sized_given : {c : Cell} {n : ℕ} → Room c n ms hs ps → Room c n ms' hs' ps'
  sized_given R = record { near = R.near; all = R.all; few = R.few; long = sized_long R.long }

  -- a cell of the tables has room in them, if they had room for each
  pub sized_room : (cells counts names sides starts : List ℕ) (c : ℕ) {v : Cell} {n : ℕ} → Spacious counts sides ms hs ps
      → v ≡ table_cell cells counts names sides starts c → n ≡ crossings (edges_of v) → n ≤ most_in_cell → Room v n ms' hs' ps'
  unfolding table_cell table_crossings
  sized_room cells counts names sides starts c {v} {n} R e all few =
      record { near = rw e (table_near cells counts names sides starts c); all = all; few = few; long = sized_long (rw (all ∙ ap (λ x. crossings (edges_of x)) e) (R c)) }

-- So many crossings has a cell of the tables at most: as many as any cell, and fewer where the counts are.
module _ (counts sides : List ℕ) (c : ℕ) where
  pub table_most : table_crossings counts sides c ≤ most_in_cell
  unfolding table_crossings
  table_most = pre_most (count_of (table_cell [] counts [] sides [] c)) most_count (λ k. omega arith) 6

  pub table_few : Few counts → table_crossings counts sides c ≤ few_in_cell
  unfolding table_crossings table_cell
  table_few h = pre_most (count_of (table_cell [] counts [] sides [] c)) few_count (λ k. omega (arith, few k)) 6
    where
      few : (k : ℕ) → get_or (table_counts counts sides (c % most_cells)) k 0 ≤ few_count
      few k = elim (dec_lt k 6) [
        | yes l ↦ rw (values_at (λ k. get_or counts (side sides (c % most_cells) k) 0) 6 k 0 l) (h (side sides (c % most_cells) k))
        | no n ↦ omega (arith, past_end (table_counts counts sides (c % most_cells)) k (omega (arith, length_singles (λ k. get_or counts (side sides (c % most_cells) k) 0) 6 0)))
      ]

-- a list whose first n places are filled
same_values : (v n k : ℕ) → over (λ i. v ∷ []) n k ≡ replicate n v
unfolding over
same_values v zero k = refl
same_values v (suc n) k = ap (λ l. v ∷ l) (same_values v n (suc k))

pub cleared : (v n : ℕ) (l : List ℕ) {m : List ℕ} {k : ℕ} → n ≤ length l → k ≡ n → m ≡ replicate k v → m ++ post_of 0 (n - 0) l ≡ filled (λ i. v) n l
cleared v n l {m} h e f = ap (λ p. m ++ p) (Post-is 0 n l (omega arith)) ∙ ap (λ p. p ++ drop n l) (f ∙ ap (λ k. replicate k v) e ∙ sym (same_values v n 0)) ∙ sym (filled_front (λ i. v) n l h)
