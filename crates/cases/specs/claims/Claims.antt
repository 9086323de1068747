-- What is proved of the table.
use Rattle.std.specs.Prelude.{ℕ, ◌+◌, ◌*◌, ◌<◌, ◌≡◌, true, Option, Some, List, eqb, get_or, length}
use Rattle.counting.specs.Lists.{total}
use Rattle.counting.specs.Search.{count}
use Rattle.cell.specs.declared.Cell.{Cell}
use Rattle.cell.specs.Cell.{Edges}
use Rattle.cell.specs.Of.{count_of, edges_of}
use Rattle.cell.specs.Common.{is_common}
use Rattle.cell.specs.Loop.{leasts}
use Rattle.cell.specs.Triangles.{loop_count, triangle_count, cell_triangles}
use Rattle.cell.specs.claims.Table.{drawn_cells, table_triangles}
use Rattle.cases.specs.declared.Case.{Case}
use Rattle.cases.specs.claims.Cases.{entries, entry_of}
use Rattle.cases.specs.claims.Table.{table}
use Rattle.cases.specs.Answer.{case_numbers, case_answer}
use Rattle.cases.specs.claims.Tally.{triangles_at, find_entry_at, outside_at}

-- the reading of the answer in numbers is one to one, so that the numbers determine the answer
abbrev pub OneToOne : Type 0
OneToOne = (j k : Option Case) → case_numbers j ≡ case_numbers k → j ≡ k

-- two numbers to an entry
abbrev pub TableLength : Type 0
TableLength = length table ≡ 2 * entries

-- the entry of a common cell with the edges w is what its walks find, wherever its crossing numbers start
pub record Entry (w : Edges) : Type 0 where
  pub within : entry_of w.count < entries
  pub loops : get_or table (2 * entry_of w.count) 0 ≡ loop_count w
  pub triangles : get_or table (2 * entry_of w.count + 1) 0 ≡ triangle_count w

abbrev pub EveryEntry : Type 0
EveryEntry = (w : Edges) → is_common w.count ≡ true → Entry w

-- and each of the 729 is the entry of some common cell
abbrev pub EntriesMet : Type 0
EntriesMet = (e : ℕ) → e < entries → (w : Edges) × (is_common w.count ≡ true) × (entry_of w.count ≡ e)

-- how a cell's edges are laid has no part in how many loops and triangles it has: with the same counts they are the same
abbrev pub LaidAnyhow : Type 0
LaidAnyhow = (v w : Edges) → ((k : ℕ) → k < 6 → v.count k ≡ w.count k) → (loop_count v ≡ loop_count w) × (triangle_count v ≡ triangle_count w)

-- so it is of a cell by value
abbrev pub CellsRight : Type 0
CellsRight = (c : Cell) → is_common (count_of c) ≡ true
    → (get_or table (2 * entry_of (count_of c)) 0 ≡ length (leasts (edges_of c))) × (get_or table (2 * entry_of (count_of c) + 1) 0 ≡ length (cell_triangles c))

-- and so is what is answered for its counts
abbrev pub AnswerRight : Type 0
AnswerRight = (c : Cell) (l t : ℕ) → case_numbers (Some (record { loops = l; triangles = t })) ≡ case_answer (count_of c) → (length (leasts (edges_of c)) ≡ l) × (length (cell_triangles c) ≡ t)

-- the triangles of all cells of a grid's tables: the number of cells times triangles, entry by entry, and those of the cells outside
abbrev pub TotalByEntry : Type 0
TotalByEntry = (cells counts names sides starts : List ℕ) → length (table_triangles cells counts names sides starts)
    ≡ total (λ e. count (λ c. eqb (find_entry_at counts sides c) e) (drawn_cells cells) * triangles_at e) entries 0 + total (outside_at cells counts names sides starts) (drawn_cells cells) 0
