-- How many splits a cell of a grid can have, and how many triangles they add.
use Prim.Native.Nat.{ℕ, ◌+◌, ◌-◌, ◌≤◌}
use mathlib.Core.Path.{◌≡◌, refl, ap, ◌∙◌}
use mathlib.Core.Bool.{Bool, true, false}
use mathlib.Core.List.{List, []}
use native.Mathlib.Nat.{mul-le-mul, mul-le-mul_left}
use native.Mathlib.Omega.{arith}
use Rattle.counting.specs.Pick.{pick}
use Rattle.slots.specs.Limits.{most_count}
use Rattle.cell.specs.Level.{by_edge, is_level_cell}
use Rattle.counting.specs.Lists.{pre}
use Rattle.cell.specs.claims.Table.{taken_counts}
use Rattle.cell.specs.work.Table.{table_crossings}
use Rattle.cell.proofs.Values.{taken_is, taken_crossings}
use Rattle.booking.specs.Figures.{are_split, splits, beside_split}
use Rattle.booking.specs.Booking.{left_between, larger, smaller, beside}
use Rattle.booking.specs.claims.Booking.{splits_by, more_by, splits_in, more_in}
use Rattle.booking.specs.declared.Gain.{Gain}
use Rattle.booking.specs.work.Sums.{GainIn}
use Rattle.booking.proofs.Figures.{figure_laws}
use Rattle.cell.specs.Nodes.{joining}
use Rattle.split.specs.Labels.{labelled}
use Rattle.split.specs.work.Table.{most_more}
use Rattle.split.specs.work.Gains.{splits_at, more_at}
use Rattle.split.proofs.Labels.{labelling}
use Rattle.split.proofs.Lengths.{IsSplit, split_is, split_by}

module _ (w : ℕ → ℕ) (few : (e : ℕ) → w e ≤ most_count) where
  numbers_few : IsSplit w → larger w + smaller w ≤ most_count
  unfolding left_between
  numbers_few S = omega (arith, (labelling w S.level S.some S.more).il, few (joining (labelled w 0) (labelled w 3)))

  both : is_level_cell w ≡ true → are_split (larger w) (smaller w) ≡ true → (splits (larger w) (smaller w) ≤ most_count) × (beside_split (larger w) (smaller w) ≤ most_more)
  both K e =
      let S = split_is w (split_by w K ∙ e) in
      let F = figure_laws (larger w) (smaller w) S.some (omega (arith, S.more)) in
      let x : larger w ≤ most_count = omega (arith, numbers_few S) in
      (omega (arith, F.splits_fit, x), omega (arith, F.triangles_fit, mul-le-mul_left 8 (mul-le-mul x x)))

  pub splits-few : splits_in w ≤ most_count
  unfolding splits_in splits_by
  splits-few = go (is_level_cell w) refl (are_split (larger w) (smaller w)) refl
    where
      go : (a : Bool) → is_level_cell w ≡ a → (b : Bool) → are_split (larger w) (smaller w) ≡ b → pick a (pick b (splits (larger w) (smaller w)) 0) 0 ≤ most_count
      go true K true e = (both K e).0
      go true K false e = omega arith
      go false K b e = omega arith

  pub more_few : more_in w ≤ most_more
  unfolding more_in more_by
  more_few = go (is_level_cell w) refl (are_split (larger w) (smaller w)) refl
    where
      go : (a : Bool) → is_level_cell w ≡ a → (b : Bool) → are_split (larger w) (smaller w) ≡ b → pick a (pick b (beside_split (larger w) (smaller w) - beside (larger w) (smaller w)) 0) 0 ≤ most_more
      go true K true e = omega (arith, (both K e).1)
      go true K false e = omega arith
      go false K b e = omega arith

-- of the tables
module _ (counts sides : List ℕ) (c : ℕ) where
  counts_few : (e : ℕ) → by_edge (taken_counts counts sides c) e ≤ most_count
  counts_few e = omega (arith, ap (λ g. g e) (taken_is [] counts [] sides [] c))

  pub at_few : splits_at counts sides c ≤ most_count
  unfolding splits_at
  at_few = splits-few (by_edge (taken_counts counts sides c)) counts_few

  pub at_more : more_at counts sides c ≤ most_more
  unfolding more_at
  at_more = more_few (by_edge (taken_counts counts sides c)) counts_few

  pub gain_at : {six : List ℕ} {r : Gain} → six ≡ taken_counts counts sides c → GainIn (by_edge six) r → (r.splits ≡ splits_at counts sides c) × (r.more ≡ more_at counts sides c)
  unfolding splits_at more_at
  gain_at e G = (G.splits_are ∙ ap (λ l. splits_in (by_edge l)) e, G.more_is ∙ ap (λ l. more_in (by_edge l)) e)

  pub crossings-at : {six : List ℕ} {x : ℕ} → six ≡ taken_counts counts sides c → x ≡ pre (by_edge six) 6 → x ≡ table_crossings counts sides c
  crossings-at e f = f ∙ ap (λ l. pre (by_edge l) 6) e ∙ taken_crossings counts sides c
