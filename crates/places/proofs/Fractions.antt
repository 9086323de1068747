-- Row 17, edge by edge.
use Rattle.std.specs.Prelude.{Some, None}
use Prim.Native.Nat.{ℕ, ◌+◌, ◌-◌, ◌≤◌, ◌<◌}
use mathlib.Core.Path.{◌≡◌, ap, ◌∙◌}
use mathlib.Core.Bool.{Bool, true, false, not}
use mathlib.Core.List.{List}
use native.Mathlib.Decide.{dec_lt}
use native.Mathlib.Omega.{arith}
use lib.ListN.{length, get_or}
use lib.Ieee.{Float, nan, lt}
use borrow.Author.Tests.{lt-ltb}
use Rattle.counting.specs.work.Search.{found}
use Rattle.counting.proofs.Search.{first_is, first_below, found_first, found_none, found_hit, found_end}
use Rattle.counting.proofs.Pack.{col_pack, pre_le, pack_lt}
use Rattle.grid.specs.Grid.{count_of, start, crossings}
use Rattle.places.specs.Numbers.{proper_fraction}
use Rattle.places.specs.Points.{index_of_crossing}
use Rattle.places.specs.Rows.{bad_fraction_at, bad_fraction}

-- the three ways that a fraction is judged
module _ (fractions : List Float) (g i : ℕ) where
  pub improper : proper_fraction (get_or fractions g nan) ≡ false → true ≡ bad_fraction_at fractions g i
  unfolding bad_fraction_at
  improper h = rw h

  pub leading : proper_fraction (get_or fractions g nan) ≡ true → i ≡ 0 → false ≡ bad_fraction_at fractions g i
  unfolding bad_fraction_at
  leading h e = rw (h, e)

  pub following : proper_fraction (get_or fractions g nan) ≡ true → (i ≡ 0 → ⊥) → not (lt (get_or fractions (g - 1) nan) (get_or fractions g nan)) ≡ bad_fraction_at fractions g i
  unfolding bad_fraction_at
  following h e = rw (h, lt-ltb 0 i (omega arith))

module _ (counts : List ℕ) where
  pub start_fits : (e : ℕ) → e < length counts → start counts e + count_of counts e ≤ crossings counts
  unfolding start
  start_fits e h = pre_le (count_of counts) (length counts) e (length counts) h

  pub crossing_lt : (e i : ℕ) → e < length counts → i < count_of counts e → start counts e + i < crossings counts
  unfolding start
  crossing_lt e i h l = pack_lt (count_of counts) (length counts) e i h l

  module _ (fractions : List Float) where
    -- no crossing before g is at fault
    pub Fine : ℕ → Type 0
    Fine g = (x : ℕ) → x < g → bad_fraction counts fractions x ≡ false

    module _ (e : ℕ) (h : e < length counts) where
      fault_at : (i : ℕ) → i < count_of counts e → bad_fraction counts fractions (start counts e + i) ≡ bad_fraction_at fractions (start counts e + i) i
      unfolding bad_fraction index_of_crossing start
      fault_at i l = ap (bad_fraction_at fractions (start counts e + i)) (col_pack (count_of counts) (length counts) e i h l)

      module _ (g n : ℕ) (q : g ≡ start counts e) (m : n ≡ count_of counts e) (fine : Fine g) where
        at_edge : (i : ℕ) → i < n → bad_fraction counts fractions (g + i) ≡ bad_fraction_at fractions (g + i) i
        at_edge i l = rw (q) (fault_at i (omega arith))

        abbrev fault : ℕ → Bool
        fault i = bad_fraction_at fractions (g + i) i

        -- the first k of the edge's crossings
        before : (k : ℕ) → k ≤ n → ((i : ℕ) → i < k → fault i ≡ false) → Fine (g + k)
        unfolding Fine
        before k l none x h = elim (dec_lt x g) [
          | yes y ↦ fine x y
          | no y ↦ let z : x ≡ g + (x - g) = omega arith in ap (bad_fraction counts fractions) z ∙ at_edge (x - g) (omega arith) ∙ none (x - g) (omega arith)
        ]

        pub fault_found : (r : ℕ) → Some r ≡ found (λ i. bad_fraction_at fractions (g + i) i) n → Some (g + r) ≡ found (bad_fraction counts fractions) (crossings counts)
        unfolding Fine
        fault_found r s =
            let w = found_first fault n r s in
            found_hit (bad_fraction counts fractions) (crossings counts) (g + r) (omega (arith, crossing_lt e r h (omega (arith, w.1))))
            (at_edge r w.1 ∙ ap fault w.0 ∙ first_is fault n (omega (arith, w.0, w.1))) (before r (omega (arith, w.1)) (λ i l. first_below fault n i (omega (arith, w.0))))

        pub fine_on : None ≡ found (λ i. bad_fraction_at fractions (g + i) i) n → Fine (g + n)
        fine_on s = let w = found_none fault n s in before n (omega arith) (λ i l. first_below fault n i (omega (arith, w)))

    pub fine_none : Fine 0
    unfolding Fine
    fine_none x l = absurd (omega arith)

    pub fine_end : (g : ℕ) → g ≡ crossings counts → Fine g → None ≡ found (bad_fraction counts fractions) (crossings counts)
    unfolding Fine
    fine_end g e fine = found_end (bad_fraction counts fractions) (crossings counts) (λ i l. fine i (omega arith))
