-- Records of one section that stand one after the other. Assumes nothing.
use Rattle.std.specs.Prelude.{Some, None}
use Prim.Native.Nat.{ℕ, zero, suc, ◌+◌, ◌*◌, ◌≤◌, ◌<◌}
use mathlib.Core.Path.{◌≡◌, refl, sym, ap, ◌∙◌}
use mathlib.Core.Logic.{⊎_elim}
use mathlib.Core.Bool.{Bool, true, false, not}
use mathlib.Core.List.{List}
use native.Mathlib.Nat.{le_refl, mul-zero, mul-suc}
use native.Mathlib.Numerals.{add-one}
use native.Mathlib.Omega.{arith}
use lib.Dec.{eqb}
use lib.ListN.{length}
use borrow.Author.Tests.{eqb-true, eq-eqb, ne_eqb, not-true, not-false}
use Rattle.counting.specs.Pick.{pick}
use Rattle.counting.proofs.Bools.{and_left, and_right, and_true, and_false_left, and_false_right}
use Rattle.counting.proofs.Search.{first_at, first_is, first_below, below-or}
use Rattle.bundle.specs.Record.{word_size, length_bytes, head_bytes, length_of, kind_at, next_record, is_record, body}
use Rattle.bundle.specs.Bundle.{section_at, is_of, record_start, run}
use Rattle.bundle.specs.work.Needed.{next_in}
use Rattle.bundle.proofs.OneRecord.{stands, next_ge, body_length}

module _ (s : List ℕ) (at : ℕ) (h : is_record s at ≡ true) where
  -- the next record comes straight after a record's bytes
  pub next_of : next_record s at ≡ at + (length_bytes + length_of (kind_at s at))
  unfolding next_record
  next_of = omega (arith, (stands s at h).right)

  -- its body is what its length counts besides the kind
  pub body_of : word_size + length (body s at) ≡ length_of (kind_at s at)
  body_of = omega (arith, body_length s at h, next_of)

-- a record of a section at a place
module _ (s : List ℕ) (section at : ℕ) where
  pub of_record : is_of s section at ≡ true → is_record s at ≡ true
  unfolding is_of
  of_record h = and_left (is_record s at) (eqb (section_at s at) section) h

  pub of_section : is_of s section at ≡ true → section_at s at ≡ section
  unfolding is_of
  of_section h = eqb-true _ _ (and_right (is_record s at) (eqb (section_at s at) section) h)

  pub is-of : is_record s at ≡ true → section_at s at ≡ section → is_of s section at ≡ true
  unfolding is_of
  is-of h e = and_true _ _ h (eq-eqb _ _ e)

  pub none_of : is_record s at ≡ false → is_of s section at ≡ false
  unfolding is_of
  none_of h = and_false_left (is_record s at) (eqb (section_at s at) section) h

  pub other_of : (section_at s at ≡ section → ⊥) → is_of s section at ≡ false
  unfolding is_of
  other_of h = and_false_right (is_record s at) (eqb (section_at s at) section) (ne_eqb _ _ h)

  -- where the next one starts, if it is one of the section
  pub next_some : is_of s section at ≡ true → Some (next_record s at) ≡ next_in s section at
  unfolding next_in
  next_some h = sym (simp h)

  pub next_none : is_of s section at ≡ false → None ≡ next_in s section at
  unfolding next_in
  next_none h = sym (simp h)

  pub some_next : (next : ℕ) → Some next ≡ next_in s section at → (is_of s section at ≡ true) × (next ≡ next_record s at)
  unfolding next_in
  some_next next h = go (is_of s section at) h
    where
      go : (b : Bool) → Some next ≡ pick b (Some (next_record s at)) None → (b ≡ true) × (next ≡ next_record s at)
      go true e = (refl, cc)
      go false e = cc

  pub none_next : None ≡ next_in s section at → is_of s section at ≡ false
  unfolding next_in
  none_next h = go (is_of s section at) h
    where
      go : (b : Bool) → None ≡ pick b (Some (next_record s at)) None → b ≡ false
      go true e = cc
      go false e = refl

-- a walk over records of a section, which came to a place after some of them
pub record Going (s : List ℕ) (from section at count : ℕ) : Type 0 where
  pub reached : at ≡ record_start s from count
  pub all : (j : ℕ) → j < count → is_of s section (record_start s from j) ≡ true
  pub few : count ≤ at
  pub inside : count ≤ length s

module _ (s : List ℕ) (from section : ℕ) where
  pub going : Going s from section from 0
  unfolding record_start
  going = record { reached = refl; all = λ j h. absurd (omega (arith, h)); few = omega arith; inside = omega arith }

  pub start_more : (k : ℕ) → record_start s from (k + 1) ≡ next_record s (record_start s from k)
  unfolding record_start
  start_more k = ap (record_start s from) (add-one k)

  module _ (at count : ℕ) (g : Going s from section at count) where
    pub on : is_of s section at ≡ true → Going s from section (next_record s at) (count + 1)
    on h =
        let n = next_ge s at (of_record s section at h) in
        let w = stands s at (of_record s section at h) in
        record {
          reached = ap (next_record s) g.reached ∙ sym (start_more count);
          all = λ j l. ⊎_elim (λ (e : j ≡ count). ap (λ i. is_of s section (record_start s from i)) e ∙ ap (is_of s section) (sym g.reached) ∙ h) (λ (b : j < count). g.all j b) (below-or j count (omega arith));
          few = omega (arith, g.few, n);
          inside = omega (arith, g.few, n, w.fits);
        }

    pub arrived : is_of s section at ≡ false → count ≡ run s section from
    unfolding run
    arrived h =
        sym
        (first_at (λ k. not (is_of s section (record_start s from k))) (suc (length s)) count (omega (arith, g.inside))
        (ap not (ap (is_of s section) (sym g.reached) ∙ h))
        (λ j b. ap not (g.all j b)))

  -- the records of a run
  pub run_all : (j : ℕ) → j < run s section from → is_of s section (record_start s from j) ≡ true
  unfolding run
  run_all j h = not-false _ (first_below (λ k. not (is_of s section (record_start s from k))) (suc (length s)) j h)

  pub run_going : (k : ℕ) → k ≤ run s section from → Going s from section (record_start s from k) k
  unfolding record_start
  run_going zero h = going
  run_going (suc k) h = rw (← add-one k) (on (record_start s from k) k (run_going k (omega arith)) (run_all k h))

  pub run_few : run s section from ≤ length s
  run_few = (run_going (run s section from) (le_refl (run s section from))).inside

  pub run_inside : (k : ℕ) → from ≤ length s → k ≤ run s section from → record_start s from k ≤ length s
  unfolding record_start
  run_inside zero l h = l
  run_inside (suc k) l h = (stands s (record_start s from k) (of_record s section (record_start s from k) (run_all k h))).fits

  pub run_stop : is_of s section (record_start s from (run s section from)) ≡ false
  unfolding run
  run_stop = not-true _ (first_is (λ k. not (is_of s section (record_start s from k))) (suc (length s)) (omega (arith, run_few)))

  -- they start at least as far apart as the least of them is long
  pub run_apart : (n : ℕ) → ((at : ℕ) → is_of s section at ≡ true → at + n ≤ next_record s at) → (k : ℕ) → k ≤ run s section from → from + n * k ≤ record_start s from k
  unfolding record_start
  run_apart n least zero h = omega (arith, mul-zero n)
  run_apart n least (suc k) h = omega (arith, least (record_start s from k) (run_all k h), run_apart n least k (omega arith), mul-suc n k)

-- a second walk over the records of a run, body by body
pub record Walked (s : List ℕ) (from section at k : ℕ) : Type 0 where
  pub upto : k ≤ run s section from
  pub reached : at ≡ record_start s from k

module _ (s : List ℕ) (from section : ℕ) where
  pub walked : Walked s from section from 0
  unfolding record_start
  walked = record { upto = omega arith; reached = refl }

  module _ (at k : ℕ) (g : Walked s from section at k) (l : k < run s section from) where
    pub here : is_of s section at ≡ true
    here = ap (is_of s section) g.reached ∙ run_all s from section k l

    pub walked_fits : at + (head_bytes + length (body s at)) ≤ length s
    walked_fits = let r = of_record s section at here in omega (arith, body_length s at r, (stands s at r).fits)

    pub walked_next : Walked s from section (next_record s at) (k + 1)
    walked_next = record { upto = omega arith; reached = ap (next_record s) g.reached ∙ sym (start_more s from section k) }

    pub walked_on : Walked s from section (at + (head_bytes + length (body s at))) (k + 1)
    walked_on = rw (body_length s at (of_record s section at here)) walked_next
