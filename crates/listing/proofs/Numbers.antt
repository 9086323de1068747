-- Words. Assumes nothing.
use Prim.Native.Nat.{ℕ}
use mathlib.Core.Path.{◌≡◌}
use mathlib.Core.List.{[], ◌∷◌, ◌++◌}
use borrow.Author.Tests.{eq-eqb, ne_eqb}
use Rattle.cell.specs.Words.{no_name}
use Rattle.listing.specs.Text.{decimal, word_text}

-- a word
pub no_word : (w : ℕ) → w ≡ no_name → 32 ∷ 45 ∷ [] ≡ word_text w
unfolding word_text
no_word w e = simp (eq-eqb _ _ e)

pub some_word : (w : ℕ) → (w ≡ no_name → ⊥) → (32 ∷ []) ++ decimal w ≡ word_text w
unfolding word_text
some_word w e = simp (ne_eqb _ _ e)
