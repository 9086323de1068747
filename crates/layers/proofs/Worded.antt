-- The words of a renamed triangle are the renamed words.
use Prim.Native.Nat.{ℕ}
use mathlib.Core.Path.{◌≡◌, refl, sym, ap, ap₂, ◌∙◌}
use mathlib.Core.List.{List, [], ◌∷◌, ◌++◌}
use native.Mathlib.Omega.{arith}
use lib.Dec.{eqb}
use lib.ListN.{get_or}
use borrow.Author.Tests.{eq-eqb, ne_eqb}
use Rattle.counting.specs.Pick.{pick}
use Rattle.cell.specs.declared.Corner.{Corner}
use Rattle.cell.specs.declared.Corner.TheVariants.{Crossing, Middle}
use Rattle.cell.specs.declared.Side.{Side}
use Rattle.cell.specs.declared.Side.TheVariants.{Segment, Inner}
use Rattle.cell.specs.declared.Triangle.{Triangle}
use Rattle.cell.specs.Renaming.{Renaming, renamed_corner, renamed_side, renamed}
use Rattle.cell.specs.Words.{no_name, corner_word, corner_words, side_words, words}
use Rattle.layers.specs.Runs.{keep_inner}
use Rattle.layers.specs.claims.Words.{renamed_words, FaceNamed, Named, WordsRenamed}
use Rattle.layers.proofs.Renaming.{inner_crossing, inner_face}

-- the two words of a side
abbrev fst : Side → ℕ
fst s = get_or (side_words s) 0 0

abbrev snd : Side → ℕ
snd s = get_or (side_words s) 1 0

two : (s : Side) → side_words s ≡ fst s ∷ snd s ∷ []
two (Segment f g) = refl
two (Inner k) = refl

-- all eleven words
abbrev eleven : Triangle → List ℕ
eleven t =
    t.cell ∷ t.p0 ∷ corner_word t.corner0 ∷ corner_word t.corner1 ∷ corner_word t.corner2
    ∷ fst t.side0 ∷ snd t.side0 ∷ fst t.side1 ∷ snd t.side1 ∷ fst t.side2 ∷ snd t.side2 ∷ []

words_are : (t : Triangle) → words t ≡ eleven t
unfolding words corner_words
words_are t =
    ap (λ l. (t.cell ∷ t.p0 ∷ []) ++ ((corner_word t.corner0 ∷ corner_word t.corner1 ∷ corner_word t.corner2 ∷ []) ++ l))
    (ap₂ (λ l m. l ++ m) (two t.side0) (ap₂ (λ l m. l ++ m) (two t.side1) (two t.side2)))

module _ (r : Renaming) where
  corner_over : (x : Corner) → corner_word (renamed_corner (keep_inner r) x) ≡ (keep_inner r).crossing (corner_word x)
  corner_over (Crossing g) = refl
  corner_over Middle = sym (inner_crossing r no_name (omega arith))

  first_over : (s : Side) → fst (renamed_side (keep_inner r) s) ≡ (keep_inner r).face (fst s)
  first_over (Segment f g) = refl
  first_over (Inner k) = sym (inner_face r no_name (omega arith))

  second_over : (s : Side) → FaceNamed s → snd (renamed_side (keep_inner r) s) ≡ pick (eqb (fst s) no_name) (snd s) ((keep_inner r).crossing (snd s))
  unfolding FaceNamed
  second_over (Segment f g) h = sym (ap (λ b. pick b g ((keep_inner r).crossing g)) (ne_eqb f no_name (λ e. omega arith)))
  second_over (Inner k) h = sym (ap (λ b. pick b k ((keep_inner r).crossing k)) (eq-eqb no_name no_name refl))

  cons : {x y : ℕ} {l m : List ℕ} → x ≡ y → l ≡ m → ◌≡◌ {A = List ℕ} (x ∷ l) (y ∷ m)
  cons e q = ap₂ (λ x l. x ∷ l) e q

  over_words : (t : Triangle) → Named t → words (renamed (keep_inner r) t) ≡ renamed_words (keep_inner r) (words t)
  unfolding renamed_words
  over_words t N =
      words_are (renamed (keep_inner r) t)
      ∙ cons refl (cons refl (cons (corner_over t.corner0) (cons (corner_over t.corner1) (cons (corner_over t.corner2)
      (cons (first_over t.side0) (cons (second_over t.side0 N.side0)
      (cons (first_over t.side1) (cons (second_over t.side1 N.side1)
      (cons (first_over t.side2) (cons (second_over t.side2 N.side2) refl))))))))))
      ∙ ap (renamed_words (keep_inner r)) (sym (words_are t))

pub words_renamed : WordsRenamed
words_renamed r t N = over_words r t N
