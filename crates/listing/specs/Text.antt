-- The text that meshlist prints (01), as bytes of ASCII.
use Rattle.std.specs.Prelude.{ℕ, zero, suc, codes, ◌+◌, ◌*◌, ◌/◌, ◌%◌, true, false, List, [], ◌∷◌, ◌++◌, ltb, eqb, get_or}
use Rattle.counting.specs.Pick.{pick}
use Rattle.counting.specs.Lists.{over}
use Rattle.cell.specs.Words.{no_name, word_count}

-- the digit d: 0 is 48
abbrev pub digit : ℕ → ℕ
digit d = 48 + d

-- the digits of n, the highest first, where it has at most k
unfoldable pub digits : ℕ → ℕ → List ℕ
digits zero n = []
digits (suc k) n = elim (ltb n 10) [ true ↦ digit n ∷ [] | false ↦ digits k (n / 10) ++ (digit (n % 10) ∷ []) ]

-- the digits of n, of which there are at most n + 1
unfoldable pub decimal : ℕ → List ℕ
decimal n = digits (suc n) n

-- a label and a number after it
unfoldable pub with_label : List ℕ → ℕ → List ℕ
with_label label n = label ++ decimal n

abbrev pub newline : List ℕ
newline = codes "\n"

-- before the numbers of a refusal
abbrev pub refused_label : List ℕ
refused_label = codes "refused "

abbrev pub at_label : List ℕ
at_label = codes " at "

-- and before those of a mesh
abbrev pub cells_label : List ℕ
cells_label = codes "cells "

abbrev pub edges_label : List ℕ
edges_label = codes " edges "

abbrev pub crossings_label : List ℕ
crossings_label = codes " crossings "

abbrev pub triangles_label : List ℕ
triangles_label = codes " triangles "

-- a refusal's line: refused N at P
unfoldable pub refused_line : ℕ → ℕ → List ℕ
refused_line number place = with_label refused_label number ++ with_label at_label place ++ newline

-- the first line of a mesh's listing
unfoldable pub head : ℕ → ℕ → ℕ → ℕ → List ℕ
head cells edges crossings triangles =
    with_label cells_label cells ++ with_label edges_label edges ++ with_label crossings_label crossings ++ with_label triangles_label triangles ++ newline

-- a blank and a word: its digits, or a dash for the word that stands for no crossing and no face
unfoldable pub word_text : ℕ → List ℕ
word_text w = codes " " ++ pick (eqb w no_name) (codes "-") (decimal w)

-- word j of triangle t
unfoldable pub word_at : List ℕ → ℕ → ℕ → List ℕ
word_at words t j = word_text (get_or words (word_count * t + j) 0)

-- the line of triangle t: T and its eleven words
unfoldable pub line : List ℕ → ℕ → List ℕ
line words t = codes "T" ++ over (word_at words t) word_count 0 ++ newline
