-- What is answered and written for a grid whose tables are at hand.
use Rattle.std.specs.Prelude.{ℕ, List, ◌≡◌, length}
use Rattle.cell.specs.declared.Tables.{Tables}
use Rattle.cell.specs.claims.Table.{table_cell}
use Rattle.grid.specs.Grid.{cell_count}
use Rattle.mesh.specs.Asked.{asked_loop}
use Rattle.counting.specs.Stored.{stored_in}
use Rattle.cell.specs.Words.{all_words}
use Rattle.split.specs.work.Table.{table_drawn, table_splits}
use Rattle.mesh.specs.Room.{room_answer}

-- the same by the tables of a grid
unfoldable pub table_loop : (cells counts names sides starts : List ℕ) → ℕ → ℕ → List ℕ
table_loop cells counts names sides starts c k = asked_loop (table_cell cells counts names sides starts) (cell_count cells) c k

pub record Drawn (cells counts names sides starts before after answer : List ℕ) : Type 0 where
  pub answered : answer ≡ room_answer (table_drawn cells counts names sides starts) (table_splits cells counts names sides starts) (length before)
  pub area : after ≡ stored_in before 0 (all_words (table_drawn cells counts names sides starts))

-- by the tables as they are lent
module _ (t : Tables) where
  abbrev pub loop_from : ℕ → ℕ → List ℕ
  loop_from = table_loop t.cells.now t.counts.now t.names.now t.sides.now t.starts.now

  abbrev pub DrawnFrom : (before after answer : List ℕ) → Type 0
  DrawnFrom = Drawn t.cells.now t.counts.now t.names.now t.sides.now t.starts.now
