-- The starts of a grid without a fault of row 2 are those of the grid built afresh.
use Prim.Native.Nat.{ℕ, ◌*◌, ◌<◌}
use mathlib.Core.Path.{◌∙◌, ◌≡◌, ap, refl, sym}
use mathlib.Core.Bool.{Bool, ◌||◌, false, not, true}
use mathlib.Core.List.{List}
use native.Mathlib.Omega.{arith}
use lib.Dec.{eqb}
use lib.ListN.{get_or, length}
use lib.Seq.{ext_get_or}
use borrow.Author.Tests.{eq-eqb, eqb-true, ne_eqb, not-false}
use Rattle.counting.specs.Search.{some}
use Rattle.counting.specs.Stored.{filled}
use Rattle.counting.proofs.Bools.{or_false, or_left, or_none}
use Rattle.counting.proofs.Lists.{length_singles, values_at}
use Rattle.counting.proofs.Search.{none_some, some_none}
use Rattle.counting.proofs.Stored.{filled_at, filled_whole, length_filled}
use Rattle.grid.specs.Grid.{Grid, built, grid_of, start, starts_of}
use Rattle.grid.specs.Rows.{bad_lists, bad_numbers, bad_start}

module _ (counts : List ℕ) where
  pub starts_long : length (starts_of counts) ≡ length counts
  unfolding starts_of
  starts_long = length_singles (start counts) (length counts) 0

  pub starts_at : (e : ℕ) → e < length counts → get_or (starts_of counts) e 0 ≡ start counts e
  unfolding starts_of
  starts_at e h = values_at (start counts) (length counts) e 0 h

  module _ (starts : List ℕ) (long : length starts ≡ length counts) where
    -- starts that are the sums
    pub starts_whole : ((e : ℕ) → e < length counts → get_or starts e 0 ≡ start counts e) → starts ≡ starts_of counts
    starts_whole h =
        ext_get_or 0 starts (starts_of counts) (long ∙ sym starts_long)
        (λ e l. let k : e < length counts = omega (arith, long) in h e k ∙ sym (starts_at e k))

    pub filled_starts : filled (start counts) (length counts) starts ≡ starts_of counts
    unfolding starts_of
    filled_starts = filled_whole (start counts) (length counts) starts long

-- row 2 as a test and as equations
module _ (counts starts : List ℕ) where
  pub bad-start : (e : ℕ) → (get_or starts e 0 ≡ start counts e → ⊥) → bad_start counts starts e ≡ true
  unfolding bad_start
  bad-start e n = rw (ne_eqb (get_or starts e 0) (start counts e) n)

  pub fine_start : (e : ℕ) → get_or starts e 0 ≡ start counts e → bad_start counts starts e ≡ false
  unfolding bad_start
  fine_start e h = rw (eq-eqb (get_or starts e 0) (start counts e) h)

module _ (edges counts starts : List ℕ) where
  pub numbers_fine : bad_numbers edges counts starts ≡ false → (length edges ≡ 2 * length counts) × (length starts ≡ length counts)
  unfolding bad_numbers
  numbers_fine e =
      let (a, b) = or_none (not (eqb (length edges) (2 * length counts))) (not (eqb (length starts) (length counts))) e in
      (eqb-true _ _ (not-false _ a), eqb-true _ _ (not-false _ b))

  pub fine_numbers : length edges ≡ 2 * length counts → length starts ≡ length counts → bad_numbers edges counts starts ≡ false
  unfolding bad_numbers
  fine_numbers a b = rw (eq-eqb (length edges) (2 * length counts) a, eq-eqb (length starts) (length counts) b)

  -- the two tests in turn
  pub ends_bad : (length edges ≡ 2 * length counts → ⊥) → true ≡ bad_numbers edges counts starts
  unfolding bad_numbers
  ends_bad n = rw (ne_eqb (length edges) (2 * length counts) n)

  pub ends_fine : length edges ≡ 2 * length counts → not (eqb (length starts) (length counts)) ≡ bad_numbers edges counts starts
  unfolding bad_numbers
  ends_fine e = rw (eq-eqb (length edges) (2 * length counts) e)

  pub numbers_bad : bad_numbers edges counts starts ≡ true → true ≡ bad_lists edges counts starts
  unfolding bad_lists
  numbers_bad e = rw e

  pub starts_left : bad_numbers edges counts starts ≡ false → some (bad_start counts starts) (length counts) ≡ bad_lists edges counts starts
  unfolding bad_lists
  starts_left e = rw e

  pub lists_fine : bad_lists edges counts starts ≡ false
      → (length edges ≡ 2 * length counts) × (length starts ≡ length counts) × ((e : ℕ) → e < length counts → get_or starts e 0 ≡ start counts e)
  unfolding bad_lists bad_start
  lists_fine h =
      let (a, b) = or_none (bad_numbers edges counts starts) (some (bad_start counts starts) (length counts)) h in
      let (p, q) = numbers_fine a in
      (p, q, λ e l. eqb-true _ _ (not-false _ (some_none (bad_start counts starts) (length counts) b e l)))

  pub fine_lists : length edges ≡ 2 * length counts → length starts ≡ length counts → ((e : ℕ) → e < length counts → get_or starts e 0 ≡ start counts e)
      → bad_lists edges counts starts ≡ false
  unfolding bad_lists
  fine_lists a b h =
      or_false (bad_numbers edges counts starts) (some (bad_start counts starts) (length counts)) (fine_numbers a b)
      (none_some (bad_start counts starts) (length counts) (λ e l. fine_start counts starts e (h e l)))

-- filled in, they are judged by their number alone
module _ (edges counts starts : List ℕ) where
  abbrev full : List ℕ
  full = filled (start counts) (length counts) starts

  full_long : length full ≡ length starts
  full_long = length_filled (start counts) (length counts) starts

  pub filled_lists : bad_numbers edges counts starts ≡ bad_lists edges counts full
  unfolding bad_lists bad_numbers
  filled_lists = go (bad_numbers edges counts starts) refl
    where
      go : (b : Bool) → bad_numbers edges counts starts ≡ b → bad_numbers edges counts starts ≡ bad_lists edges counts full
      go true e =
          e ∙ sym (or_left (bad_numbers edges counts full) _ (ap (λ n. not (eqb (length edges) (2 * length counts)) || not (eqb n (length counts))) full_long ∙ e))
      go false e =
          let (a, b) = numbers_fine edges counts starts e in
          e ∙ sym (fine_lists edges counts full a (full_long ∙ b) (λ i l. filled_at (start counts) (length counts) starts 0 (omega arith) i l))

-- a grid with the starts of its counts
pub built_is : (G : Grid) → length G.starts ≡ length G.counts → ((e : ℕ) → e < length G.counts → get_or G.starts e 0 ≡ start G.counts e)
    → G ≡ built G.cells G.edges G.counts
built_is G long h = ap (grid_of G.cells G.edges G.counts) (starts_whole G.counts G.starts long h)
