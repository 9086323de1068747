-- Names put over one by one, and the words of triangles: what the turns and the returns of the code come to.
use Prim.Native.Nat.{ℕ, ◌+◌, ◌-◌, ◌*◌, ◌%◌, ◌≤◌, ◌<◌}
use mathlib.Core.Path.{◌≡◌, refl, sym, ap, ◌∙◌}
use mathlib.Core.Logic.{inl, inr, ⊎_elim}
use mathlib.Core.List.{List}
use native.Mathlib.Nat.{not-suc-le-zero, eq-or-lt_of_le}
use native.Mathlib.Numerals.{add-one}
use native.Mathlib.Omega.{arith}
use native.Mathlib.Decide.{dec_lt}
use lib.ListN.{length, get_or}
use lib.Seq.{sets}
use borrow.Author.Tests.{eq-eqb, ne_eqb, lt-ltb, le-ltb}
use Rattle.counting.specs.Lists.{over, values}
use Rattle.counting.specs.work.Stored.{Stored}
use Rattle.counting.proofs.Lists.{length_singles, values_at}
use Rattle.counting.proofs.Fronts.{length_blocks}
use Rattle.counting.proofs.Stored.{stored_more}
use Rattle.counting.proofs.Stores.{get_or_sets_in, get_or_sets_out}
use Rattle.cell.specs.Renaming.{Renaming}
use Rattle.cell.specs.Words.{word_count, no_name}
use Rattle.layers.specs.work.Work.{side_from, own_at, side_count, most_numbers, Leading, CrossingsNumbered, word_over, word_before, triangle_over, triangles_over}
use Rattle.layers.proofs.Over.{over_there}

-- CROSSINGS

-- one edge more: what its crossings are numbered as is as f says, and so is what was so before
module _ {f : ℕ → ℕ} {counts starts sides : List ℕ} {from n : ℕ} {own : List ℕ} (L : Leading f counts starts sides from n own) where
  pub numbered_none : (table : List ℕ) → CrossingsNumbered f counts sides from 0 own table
  numbered_none table = record { number = λ j i l. absurd (not-suc-le-zero l) }

  module _ {j : ℕ} {table : List ℕ} (N : CrossingsNumbered f counts sides from j own table) (l : j < n) (long : length table ≡ most_numbers) where
    abbrev first : ℕ
    first = get_or starts (side_from sides from j) 0

    abbrev at : ℕ
    at = own_at sides from own j

    abbrev count : ℕ
    count = side_count counts sides from j

    abbrev numbers : List ℕ
    numbers = values (λ i. first + i) count

    many : length numbers ≡ count
    many = length_singles (λ i. first + i) count 0

    -- a place where these stand
    here : (x : ℕ) → at ≤ x → x < at + count → get_or (sets table at numbers) x 0 ≡ f x
    here x a h =
        let e : x ≡ at + (x - at) = omega arith in
        ap (λ k. get_or (sets table at numbers) k 0) e
        ∙ get_or_sets_in numbers table at (x - at) 0 (omega (arith, many)) (omega (arith, many, L.below j l))
        ∙ values_at (λ i. first + i) count (x - at) 0 (omega arith)
        ∙ sym (L.leads j (x - at) l (omega arith)) ∙ ap f (sym e)

    kept : (x : ℕ) → get_or table x 0 ≡ f x → get_or (sets table at numbers) x 0 ≡ f x
    kept x q =
        elim (dec_lt x at) [
          | yes a ↦ get_or_sets_out numbers table at x 0 (inl a) ∙ q
          | no a ↦ elim (dec_lt x (at + count)) [
            | yes h ↦ here x (omega arith) h
            | no h ↦ get_or_sets_out numbers table at x 0 (inr (omega (arith, many))) ∙ q
          ]
        ]

    pub numbered_more : {after : List ℕ} → after ≡ sets table (own_at sides from own j) (values (λ i. get_or starts (side_from sides from j) 0 + i) (side_count counts sides from j))
        → CrossingsNumbered f counts sides from (j + 1) own after
    numbered_more {after} e = record {
      number = λ k i h q. ap (λ t. get_or t (own_at sides from own k + i) 0) e ∙ ⊎_elim
          (λ (s : k ≡ j). here (own_at sides from own k + i) (omega (arith, ap (own_at sides from own) s)) (omega (arith, ap (own_at sides from own) s, ap (side_count counts sides from) s)))
          (λ (s : k < j). kept (own_at sides from own k + i) (N.number k i s q))
          (eq-or-lt_of_le (omega arith));
    }

-- WORDS

module _ (r : Renaming) (j f w : ℕ) where
  pub word_cell : j ≡ 0 → r.cell w ≡ word_over r j f w
  unfolding word_over
  word_cell e = rw (eq-eqb j 0 e)

  module _ (a : j ≡ 0 → ⊥) where
    pub word_crossing : j < 5 → r.crossing w ≡ word_over r j f w
    unfolding word_over
    word_crossing h = rw (ne_eqb j 0 a, lt-ltb j 5 h)

    module _ (b : 5 ≤ j) where
      pub word_face : j % 2 ≡ 1 → r.face w ≡ word_over r j f w
      unfolding word_over
      word_face e = rw (ne_eqb j 0 a, le-ltb j 5 b, eq-eqb (j % 2) 1 e)

      pub word_inner : (j % 2 ≡ 1 → ⊥) → f ≡ no_name → w ≡ word_over r j f w
      unfolding word_over
      word_inner c e = rw (ne_eqb j 0 a, le-ltb j 5 b, ne_eqb (j % 2) 1 c, eq-eqb f no_name e)

      pub word_lower : (j % 2 ≡ 1 → ⊥) → (f ≡ no_name → ⊥) → r.crossing w ≡ word_over r j f w
      unfolding word_over
      word_lower c d = rw (ne_eqb j 0 a, le-ltb j 5 b, ne_eqb (j % 2) 1 c, ne_eqb f no_name d)

-- the next word of a triangle
module _ (r : Renaming) (l : List ℕ) (at : ℕ) where
  abbrev pub put : ℕ → ℕ
  put j = word_over r j (word_before l at j) (get_or l (at + j) 0)

  pub word_there : (m : List ℕ) (j : ℕ) → m ≡ sets l at (values put j) → get_or m (at + j) 0 ≡ get_or l (at + j) 0
  word_there m j e = ap (λ m. get_or m (at + j) 0) e ∙ get_or_sets_out (values put j) l at (at + j) 0 (inr (omega (arith, length_singles put j 0)))

  pub before_next : (j : ℕ) → get_or l (at + j) 0 ≡ word_before l at (j + 1)
  before_next j = rw add-one

-- no word yet
pub sets_none : (f : ℕ → ℕ) (l : List ℕ) (at : ℕ) → l ≡ sets l at (values f 0)
unfolding over
sets_none f l at = refl

-- the next triangle
module _ (r : Renaming) (l : List ℕ) (at : ℕ) where
  abbrev one : ℕ → List ℕ
  one t = triangle_over r l (at + word_count * t)

  length_over : (t : ℕ) → length (triangles_over r l at t) ≡ word_count * t
  unfolding triangles_over
  length_over t = length_blocks one word_count t (λ k h. length_singles (λ j. word_over r j (word_before l (at + word_count * k) j) (get_or l (at + word_count * k + j) 0)) word_count 0)

  module _ {m : List ℕ} {i : ℕ} (t : ℕ) (S : Stored l at (triangles_over r l at t) m i) where
    pub at_is : i ≡ at + word_count * t
    at_is = omega (arith, S.after, length_over t)

    there : (j : ℕ) → get_or m (i + j) 0 ≡ get_or l (at + word_count * t + j) 0
    there j =
        ap (λ m. get_or m (i + j) 0) S.area
        ∙ get_or_sets_out (triangles_over r l at t) l at (i + j) 0 (inr (omega (arith, S.after)))
        ∙ ap (λ i. get_or l (i + j) 0) at_is

    pub triangle_more : {is : List ℕ} → is ≡ sets m i (triangle_over r m i) → Stored l at (triangles_over r l at (t + 1)) is (i + word_count)
    unfolding triangles_over
    triangle_more {is} q =
        stored_more one t S
        (record {
          area = q ∙ ap (sets m i) (over_there r m l i (at + word_count * t) (λ j h. there j));
          after = omega (arith, length_singles (λ j. word_over r j (word_before l (at + word_count * t) j) (get_or l (at + word_count * t + j) 0)) word_count 0);
        })
