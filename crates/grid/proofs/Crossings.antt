-- Starts of the edges, and the number of crossings.
use Prim.Native.Nat.{ℕ, ◌+◌, ◌<◌, ◌≤◌}
use mathlib.Core.Path.{◌≡◌, refl, sym}
use mathlib.Core.Logic.{⊎_elim}
use mathlib.Core.Bool.{false, true}
use mathlib.Core.List.{List}
use native.Mathlib.Decide.{dec_lt}
use native.Mathlib.Nat.{eq-or-lt_of_le}
use native.Mathlib.Numerals.{add-one}
use native.Mathlib.Omega.{arith}
use lib.ListN.{length, set}
use lib.Seq.{get_or-set_other, get_or-set_same}
use borrow.Author.Tests.{le-ltb, lt-ltb}
use Rattle.counting.specs.Lists.{pre, total}
use Rattle.counting.proofs.Pack.{pre_changed, pre_kept, pre_le, pre_next}
use Rattle.grid.specs.Grid.{count_of, crossings, start}
use Rattle.slots.specs.Limits.{most_crossings}
use Rattle.grid.specs.Rows.{too_many}
use Rattle.grid.specs.work.Shared.{capped}

module _ (counts : List ℕ) where
  pub start_zero : start counts 0 ≡ 0
  unfolding start pre total
  start_zero = refl

  pub start_next : (e : ℕ) → start counts (e + 1) ≡ start counts e + count_of counts e
  unfolding start
  start_next e = rw add-one (pre_next (count_of counts) 0 e)

  pub start_mono : (d e : ℕ) → d ≤ e → start counts d ≤ start counts e
  unfolding start
  start_mono d e h = ⊎_elim (λ (q : d ≡ e). rw q (omega arith)) (λ (l : d < e). omega (arith, pre_le (count_of counts) 0 d e l)) (eq-or-lt_of_le h)

  pub capped_over : most_crossings < crossings counts → most_crossings + 1 ≡ capped counts
  unfolding capped
  capped_over h = rw (lt-ltb most_crossings (crossings counts) h)

  pub capped_is : crossings counts ≤ most_crossings → crossings counts ≡ capped counts
  unfolding capped
  capped_is h = rw (le-ltb most_crossings (crossings counts) h)

  -- row 10
  pub too_many_is : most_crossings < crossings counts → too_many counts ≡ true
  unfolding too_many
  too_many_is h = lt-ltb most_crossings (crossings counts) h

  pub not_too_many : crossings counts ≤ most_crossings → too_many counts ≡ false
  unfolding too_many
  not_too_many h = le-ltb most_crossings (crossings counts) h

  -- what the cap tells
  pub over_capped : most_crossings < capped counts → too_many counts ≡ true
  over_capped h = elim (dec_lt most_crossings (crossings counts)) [
    | yes l ↦ too_many_is l
    | no l ↦ absurd (omega (arith, h, capped_is (omega arith)))
  ]

  pub fine_capped : capped counts ≤ most_crossings → (too_many counts ≡ false) × (capped counts ≡ crossings counts)
  fine_capped h = elim (dec_lt most_crossings (crossings counts)) [
    | yes l ↦ absurd (omega (arith, h, capped_over l))
    | no l ↦ (not_too_many (omega arith), sym (capped_is (omega arith)))
  ]

-- one count is set: the starts up to its edge stay, and those after it change as the count does
module _ (counts : List ℕ) (e x : ℕ) where
  pub start_kept : (d : ℕ) → d ≤ e → start (set counts e x) d ≡ start counts d
  unfolding start
  start_kept = pre_kept (count_of (set counts e x)) (count_of counts) e (λ d n. get_or-set_other counts e d x 0 n)

  pub start_set : e < length counts → (d : ℕ) → e < d → start (set counts e x) d + count_of counts e ≡ start counts d + x
  unfolding start
  start_set h d l =
      omega (arith, pre_changed (count_of (set counts e x)) (count_of counts) e (λ d n. get_or-set_other counts e d x 0 n) d l, get_or-set_same counts e x 0 h)
