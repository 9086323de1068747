-- The words of triangles, and how they are stored one after the other.
use Prim.Native.Nat.{ℕ, ◌+◌, ◌*◌, ◌≤◌, ◌<◌}
use mathlib.Core.Path.{◌≡◌, refl, sym, ap, ◌∙◌}
use mathlib.Core.List.{List, [], ◌∷◌, append-nil}
use native.Mathlib.Omega.{arith}
use lib.ListN.{length, get_or, length-append}
use lib.Seq.{sets}
use Rattle.counting.specs.Lists.{gather, over, values}
use Rattle.counting.specs.work.Stored.{Stored}
use Rattle.counting.proofs.Fronts.{over_within}
use Rattle.counting.proofs.Lists.{length_singles, gather_over, length_gather}
use Rattle.counting.proofs.Stored.{stored_none, stored_then, stored_more}
use Rattle.cell.specs.declared.Side.{Side}
use Rattle.cell.specs.declared.Side.TheVariants.{Segment, Inner}
use Rattle.cell.specs.declared.Triangle.{Triangle}
use Rattle.cell.specs.Words.{word_count, side_words, corner_words, words, all_words}

pub side_two : (s : Side) → length (side_words s) ≡ 2
side_two (Segment f g) = refl
side_two (Inner k) = refl

pub side_stored : (s : Side) {x y : ℕ} (at : ℕ) (l l₁ : List ℕ) → l₁ ≡ sets l at (x ∷ y ∷ []) → x ≡ get_or (side_words s) 0 0 → y ≡ get_or (side_words s) 1 0
    → l₁ ≡ sets l at (side_words s)
side_stored s at l l₁ e f g = e ∙ rw (f, g) (ap (sets l at) (parts s))
  where
    parts : (s : Side) → get_or (side_words s) 0 0 ∷ get_or (side_words s) 1 0 ∷ [] ≡ side_words s
    parts (Segment f g) = refl
    parts (Inner k) = refl

-- the parts of a triangle, stored in turn
module _ (t : Triangle) (at : ℕ) (l : List ℕ) where
  pub put_all : (l₁ l₂ l₃ l₄ l₅ : List ℕ)
      → l₁ ≡ sets l at (t.cell ∷ t.p0 ∷ []) → l₂ ≡ sets l₁ (at + 2) (corner_words t) → l₃ ≡ sets l₂ (at + 5) (side_words t.side0)
      → l₄ ≡ sets l₃ (at + 7) (side_words t.side1) → l₅ ≡ sets l₄ (at + 9) (side_words t.side2)
      → l₅ ≡ sets l at (words t)
  unfolding words corner_words
  put_all l₁ l₂ l₃ l₄ l₅ a b c d e =
      let p : Stored l at (t.cell ∷ t.p0 ∷ []) l₁ (at + 2) = record { area = a; after = refl } in
      let q : Stored l₁ (at + 2) (corner_words t) l₂ (at + 5) = record { area = b; after = omega arith } in
      let r : Stored l₂ (at + 5) (side_words t.side0) l₃ (at + 7) = record { area = c; after = omega (arith, side_two t.side0) } in
      let s : Stored l₃ (at + 7) (side_words t.side1) l₄ (at + 9) = record { area = d; after = omega (arith, side_two t.side1) } in
      (stored_then p (stored_then q (stored_then r (stored_then s (record { area = e; after = refl }))))).area

pub length_words : (t : Triangle) → length (words t) ≡ word_count
unfolding words corner_words
length_words t =
    simp length-append (omega (arith, side_two t.side0, side_two t.side1, side_two t.side2))

pub length_all : (l : List Triangle) → length (all_words l) ≡ word_count * length l
length_all l = length_gather words length_words l

-- the words of list k
abbrev pub words_of : (ℕ → List Triangle) → ℕ → List ℕ
words_of f k = all_words (f k)

-- the words of the first k lists of f are stored in `was` from `at` on, which makes it `is`, and the next goes to i
module _ (f : ℕ → List Triangle) {was : List ℕ} {at : ℕ} (k : ℕ) {is : List ℕ} {i : ℕ} (S : Stored was at (over (words_of f) k 0) is i) where
  long : (n : ℕ) → length (over (words_of f) n 0) ≡ word_count * length (over f n 0)
  long n = ap length (sym (gather_over words f n 0)) ∙ length_all (over f n 0)

  pub written_all : (n : ℕ) → k ≡ n → (i ≡ at + word_count * length (over f n 0)) × (is ≡ sets was at (all_words (over f n 0)))
  written_all n e = rw (← e) (omega (arith, S.after, long k), S.area ∙ ap (sets was at) (sym (gather_over words f k 0)))

  pub written_room : (n : ℕ) → k < n → i + word_count * length (f k) ≤ at + word_count * length (over f n 0)
  written_room n l = omega (arith, S.after, over_within (words_of f) n k l, long n, length_all (f k))

  pub written_more : {is' : List ℕ} {j m : ℕ} → m ≡ length (f k) → j ≡ i + word_count * m → {l : List Triangle} → l ≡ f k → is' ≡ sets is i (all_words l)
      → Stored was at (over (words_of f) (k + 1) 0) is' j
  written_more e p g q = stored_more (words_of f) k S (record { area = q ∙ ap (λ l. sets is i (all_words l)) g; after = omega (arith, p, e, length_all (f k)) })

-- the first k triangles of t are stored in `was` from `at` on, which makes it `is`, and the next goes to i
pub record Run (t : ℕ → Triangle) (k : ℕ) (was : List ℕ) (at : ℕ) (is : List ℕ) (i : ℕ) : Type 0 where
  pub stored : Stored was at (over (λ k. all_words (t k ∷ [])) k 0) is i

pub run_none : (t : ℕ → Triangle) (was : List ℕ) (at : ℕ) → Run t 0 was at was at
unfolding over
run_none t was at = record { stored = stored_none was at }

module _ {t : ℕ → Triangle} {k : ℕ} {was : List ℕ} {at : ℕ} {is : List ℕ} {i : ℕ} (R : Run t k was at is i) where
  pub run_place : i ≡ at + word_count * k
  run_place = omega (arith, R.stored.after, ap length (sym (gather_over words (λ k. t k ∷ []) k 0)), length_all (values t k), length_singles t k 0)

  pub run_more : {is' : List ℕ} {v : Triangle} → v ≡ t k → is' ≡ sets is i (words v) → Run t (k + 1) was at is' (i + word_count)
  unfolding gather
  run_more e q =
      let S : Stored is i (all_words (t k ∷ [])) _ (i + word_count) = record { area = q ∙ rw e (ap (sets is i) (sym (append-nil (words (t k))))); after = omega (arith, length_all (t k ∷ [])) } in
      record { stored = stored_more (λ k. all_words (t k ∷ [])) k R.stored S }

  pub run_all : (n : ℕ) → k ≡ n → is ≡ sets was at (all_words (values t n))
  run_all n e = rw (← e) (R.stored.area ∙ ap (sets was at) (sym (gather_over words (λ k. t k ∷ []) k 0)))
