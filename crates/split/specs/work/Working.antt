-- What the parts of a split cell are written from, and the words of those before and after the nested one.
use Rattle.std.specs.Prelude.{ℕ, ◌+◌, ◌*◌, ◌-◌, ◌≤◌, ◌<◌, ◌≡◌, true, List, [], ◌∷◌, ◌++◌, eqb, length, get_or}
use Rattle.counting.specs.Pick.{pick}
use Rattle.counting.specs.Lists.{gather}
use Rattle.cell.specs.declared.Cell.{Cell}
use Rattle.cell.specs.claims.Table.{short_limit}
use Rattle.cell.specs.work.Limits.{start_limit}
use Rattle.cell.specs.Of.{count_of, start_of}
use Rattle.cell.specs.work.Route.{Near}
use Rattle.cell.specs.Level.{is_level_cell}
use Rattle.cell.specs.Words.{all_words}
use Rattle.cell.specs.Triangles.{triangles_with}
use Rattle.booking.specs.Figures.{splits, inner_crossings}
use Rattle.booking.specs.Booking.{least_corner, left_between, larger, smaller, is_spiral}
use Rattle.split.specs.declared.Numbering.{Numbering}
use Rattle.split.specs.Limits.{first_inner_crossing, first_inner_face, word_step}
use Rattle.split.specs.SubCell.{sub}
use Rattle.split.specs.Parts.{parts, part_triangles, splits_of}

-- a cell with six starts within their limit
pub record StartsNear (c : Cell) : Type 0 where
  pub near : Near c
  pub starts_six : length c.starts ≡ 6

-- a cell in which only rule 1 is met, with six counts, and six starts within their limit
pub record LevelSix (c : Cell) : Type 0 where
  pub near : Near c
  pub counts_six : length c.counts ≡ 6
  pub starts_six : length c.starts ≡ 6
  pub level : is_level_cell (count_of c) ≡ true

-- the own corner triangles at the four positions are listed
abbrev pub AreOwn : (ℕ → ℕ) → List ℕ → Type 0
AreOwn w l = (p : ℕ) → p < 4 → get_or l p 0 ≡ least_corner w p

-- the label of a position where r remains between the lowest node and it, for d1 and d2
unfoldable pub label_by : (x y r : ℕ) → ℕ
label_by x y r = pick (eqb r x) 1 (pick (eqb r y) 2 3)

-- the counts of the new edges ai, aj, ak, al, for d1 and d2
unfoldable pub spoke_by : (x y n : ℕ) → ℕ
spoke_by x y n = get_or ((2 * y) ∷ x ∷ y ∷ (x - y) ∷ []) n 0

-- x and y are d1 and d2 of the cell, and listed are the own corner triangles and the labels at its four positions
pub record SpiralNumbers (c : Cell) (x y : ℕ) (own labels : List ℕ) : Type 0 where
  pub larger_is : x ≡ larger (count_of c)
  pub smaller_is : y ≡ smaller (count_of c)
  pub own_are : AreOwn (count_of c) own
  pub labels_are : (p : ℕ) → 0 < p → p < 4 → get_or labels p 0 ≡ label_by (larger (count_of c)) (smaller (count_of c)) (left_between (count_of c) 0 p)
  pub label_first : get_or labels 0 0 ≡ 0

-- and it is split
pub record Spiraling (c : Cell) (x y : ℕ) (own labels : List ℕ) : Type 0 where
  pub sound : LevelSix c
  pub numbers : SpiralNumbers c x y own labels
  pub spiral : is_spiral (count_of c) ≡ true

-- by what a cell of a grid goes, and the sub-cell nested in a split that goes by g and has so many inner crossings
abbrev pub first_numbering : Cell → Numbering
first_numbering c = record { cell = c.index; number = 0; crossing = first_inner_crossing; face = first_inner_face }

abbrev pub nested_numbering : Numbering → ℕ → Numbering
nested_numbering g inner = record { cell = g.cell; number = g.number + 2; crossing = g.crossing + inner; face = g.face + 6 }

-- a split under way: the cell or sub-cell c with the number n of the cell `cell`, inner crossings from b on and inner faces from f on
pub record Working (c : Cell) (cell n b f : ℕ) : Type 0 where
  pub sound : LevelSix c
  pub spiral : is_spiral (count_of c) ≡ true
  pub below : (e : ℕ) → e < 6 → start_of c e + count_of c e < start_limit
  pub cell_lt : cell < word_step
  pub n_few : n + 4 ≤ short_limit
  pub b_few : b + 2 * (larger (count_of c) + smaller (count_of c)) < start_limit
  pub f_few : f + 6 ≤ short_limit

-- what is asked of all splits that are left, so many
pub record SplitsLeft (c : Cell) (cell n b f left : ℕ) : Type 0 where
  pub sound : LevelSix c
  pub below : (e : ℕ) → e < 6 → start_of c e + count_of c e < start_limit
  pub some : 0 < smaller (count_of c)
  pub left_is : left ≡ splits (larger (count_of c)) (smaller (count_of c))
  pub cell_lt : cell < word_step
  pub n_few : n + 4 * left + 4 ≤ short_limit
  pub b_few : b + inner_crossings (larger (count_of c)) (smaller (count_of c)) < start_limit
  pub f_few : f + 6 * left ≤ short_limit

-- a cell of a grid whose splits are known
pub record Drawable (c : Cell) (splits : ℕ) : Type 0 where
  pub counts_six : length c.counts ≡ 6
  pub starts_six : length c.starts ≡ 6
  pub below : (e : ℕ) → e < 6 → start_of c e + count_of c e < start_limit
  pub index_lt : c.index < word_step
  pub splits_are : splits ≡ splits_of c

-- the words of all parts
abbrev pub parts_words : (fuel cell n b f : ℕ) → Cell → List ℕ
parts_words fuel cell n b f c = all_words (gather part_triangles (parts fuel cell n b f c))

-- those of the own corner triangles and of the sub-cell that omits l; of the sub-cells that omit j and i, of which the first has the number n
module _ (c : Cell) (cell n b f : ℕ) where
  abbrev pub start_words : List ℕ
  start_words = all_words (triangles_with c 3) ++ all_words (triangles_with (sub c b f (cell + word_step * (n + 1)) 3) 0)

  abbrev pub end_words : List ℕ
  end_words = all_words (triangles_with (sub c b f (cell + word_step * n) 1) 0) ++ all_words (triangles_with (sub c b f (cell + word_step * (n + 1)) 0) 0)
