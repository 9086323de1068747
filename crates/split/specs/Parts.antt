-- A split cell in parts, and its triangles (02, W12).
use Rattle.std.specs.Prelude.{ℕ, zero, suc, ◌+◌, ◌*◌, true, false, List, [], ◌∷◌, ◌++◌}
use Rattle.counting.specs.Pick.{pick}
use Rattle.counting.specs.Lists.{gather}
use Rattle.cell.specs.declared.Cell.{Cell}
use Rattle.cell.specs.declared.Triangle.{Triangle}
use Rattle.cell.specs.Of.{count_of}
use Rattle.cell.specs.Triangles.{cell_triangles, triangles_with}
use Rattle.booking.specs.Booking.{larger, smaller, is_spiral, is_split}
use Rattle.split.specs.Limits.{first_inner_crossing, first_inner_face, word_step}
use Rattle.booking.specs.Figures.{next_larger, next_smaller, splits}
use Rattle.split.specs.SubCell.{sub}

-- a part of what is drawn: a cell or sub-cell whole, or the own corner triangles of one that is split
pub data Part : Type 0 where
  whole corners : Cell → Part

-- how many splits are made within the sub-cell that omits k
abbrev pub splits_within : (ℕ → ℕ) → ℕ
splits_within w = splits (next_larger (larger w) (smaller w)) (next_smaller (larger w) (smaller w))

-- The parts of c, a cell or the sub-cell with the number n of the cell `cell`: its own corner triangles, and then the sub-cells without l, without k,
-- without j and without i. A sub-cell gets its number when work on it begins. Only the one without k can be split again (`others` of `SubCells`), and its own
-- sub-cells are all worked off before the next one begins. The inner crossings of this split are numbered from b on and its inner faces named from f on;
-- those of the splits nested in it follow. The sum of d1 and d2 falls from split to split, so that it is enough as fuel.
unfoldable pub parts : (fuel cell n b f : ℕ) → Cell → List Part
parts zero cell n b f c = whole c ∷ []
parts (suc fuel) cell n b f c =
    elim (is_spiral (count_of c)) [
      | false ↦ whole c ∷ []
      | true ↦
          corners c
          ∷ whole (sub c b f (cell + word_step * (n + 1)) 3)
          ∷ (parts fuel cell (n + 2) (b + 2 * (larger (count_of c) + smaller (count_of c))) (f + 6) (sub c b f (cell + word_step * (n + 2)) 2)
          ++ (whole (sub c b f (cell + word_step * (n + 3 + 4 * splits_within (count_of c))) 1)
          ∷ whole (sub c b f (cell + word_step * (n + 4 + 4 * splits_within (count_of c))) 0)
          ∷ []))
    ]

-- all parts of a split cell
unfoldable pub all_parts : Cell → List Part
all_parts c = parts (larger (count_of c) + smaller (count_of c)) c.index 0 first_inner_crossing first_inner_face c

-- the own corner triangles: those of the loops of length 3
unfoldable pub own_corners : Cell → List Triangle
own_corners c = triangles_with c 3

abbrev pub part_triangles : Part → List Triangle
part_triangles (whole c) = cell_triangles c
part_triangles (corners c) = own_corners c

-- the cell or sub-cell of a part; and what is read past the end of a list of parts
abbrev pub part_cell : Part → Cell
part_cell (whole c) = c
part_cell (corners c) = c

abbrev pub no_part : Part
no_part = whole (record { counts = []; starts = []; names = []; nodes = []; index = 0 })

-- the parts that are drawn of a cell of a grid: those of its split, or the cell whole; their triangles; and the splits that are made in it
unfoldable pub drawn_parts : Cell → List Part
drawn_parts c =
    elim (is_split (count_of c)) [
      | true ↦ all_parts c
      | false ↦ whole c ∷ []
    ]

unfoldable pub drawn_triangles : Cell → List Triangle
drawn_triangles c = gather part_triangles (drawn_parts c)

unfoldable pub splits_of : Cell → ℕ
splits_of c = pick (is_split (count_of c)) (splits (larger (count_of c)) (smaller (count_of c))) 0
