-- The edges of a cell: their counts and their first crossing numbers.
use Rattle.std.specs.Prelude.{ℕ, min, get_or}
use Rattle.slots.specs.Limits.{most_count}
use Rattle.cell.specs.declared.Cell.{Cell}
use Rattle.cell.specs.Cell.{Edges}

-- A cell by value can list any 16 bits. A count above the limit is taken as the limit; no accepted grid has one
abbrev pub count_of : Cell → (ℕ → ℕ)
count_of c = λ e. min (get_or c.counts e 0) most_count

abbrev pub start_of : Cell → (ℕ → ℕ)
start_of c = λ e. get_or c.starts e 0

abbrev pub edges_of : Cell → Edges
edges_of c = record { count = count_of c; start = start_of c }
