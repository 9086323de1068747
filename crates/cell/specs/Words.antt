-- A triangle as eleven words (01): cell, p0, three corners, three sides of two words.
use Rattle.std.specs.Prelude.{ℕ, List, [], ◌∷◌, ◌++◌}
use Rattle.counting.specs.Lists.{gather}
use Rattle.cell.specs.declared.Corner.{Corner}
use Rattle.cell.specs.declared.Corner.TheVariants.{Crossing, Middle}
use Rattle.cell.specs.declared.Side.{Side}
use Rattle.cell.specs.declared.Side.TheVariants.{Segment, Inner}
use Rattle.cell.specs.declared.Triangle.{Triangle}

-- the word that stands for no crossing and no face
abbrev pub no_name : ℕ
no_name = 4294967295

abbrev pub word_count : ℕ
word_count = 11

-- a corner: the crossing's number, or that of none for the middle
abbrev pub corner_word : Corner → ℕ
corner_word (Crossing g) = g
corner_word Middle = no_name

-- a side: a segment's face name and lower crossing; that of none and an inner side's number
abbrev pub side_words : Side → List ℕ
side_words (Segment f g) = f ∷ g ∷ []
side_words (Inner k) = no_name ∷ k ∷ []

unfoldable pub corner_words : Triangle → List ℕ
corner_words t = corner_word t.corner0 ∷ corner_word t.corner1 ∷ corner_word t.corner2 ∷ []

unfoldable pub words : Triangle → List ℕ
words t = (t.cell ∷ t.p0 ∷ []) ++ (corner_words t ++ (side_words t.side0 ++ (side_words t.side1 ++ side_words t.side2)))

-- the words of several triangles, in order
abbrev pub all_words : List Triangle → List ℕ
all_words l = gather words l
