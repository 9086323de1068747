-- A cell under other names, and that it is drawn under them.
use Rattle.std.specs.Prelude.{ℕ, ◌+◌, ◌<◌, ◌≡◌, map, get_or}
use Rattle.cell.specs.declared.Cell.{Cell}
use Rattle.cell.specs.Of.{count_of, start_of}
use Rattle.cell.specs.Triangles.{cell_triangles}
use Rattle.cell.specs.Renaming.{Renaming, renamed}

module _ (r : Renaming) where
  -- b is the cell a with other names: the same counts, and crossing numbers in the same order
  pub record RenamedCell (a b : Cell) : Type 0 where
    pub counts : a.counts ≡ b.counts
    pub index : r.cell a.index ≡ b.index
    pub names : (s : ℕ) → s < 4 → r.face (get_or a.names s 0) ≡ get_or b.names s 0
    pub starts : (k i : ℕ) → k < 6 → i < count_of a k → r.crossing (start_of a k + i) ≡ start_of b k + i
    pub order : (j k s t : ℕ) → j < 6 → k < 6 → s < count_of a j → t < count_of a k → start_of a j + s < start_of a k + t
        → r.crossing (start_of a j + s) < r.crossing (start_of a k + t)

-- then its triangles are those of a with the other names
abbrev pub CellsRenamed : Type 0
CellsRenamed = (r : Renaming) (a b : Cell) → RenamedCell r a b → map (renamed r) (cell_triangles a) ≡ cell_triangles b
