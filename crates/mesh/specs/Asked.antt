-- A loop of a cell, asked for by the cell's number.
use Rattle.std.specs.Prelude.{ℕ, List, ltb}
use Rattle.answer.specs.Answer.{refusal}
use Rattle.counting.specs.Pick.{pick}
use Rattle.cell.specs.declared.Cell.{Cell}
use Rattle.cell.specs.Of.{edges_of}
use Rattle.cell.specs.Loop.{loop_answer}

-- loop k of a cell (01); none if there are k or fewer
abbrev pub cell_loop : Cell → ℕ → List ℕ
cell_loop c k = loop_answer (edges_of c) c.nodes k

-- the numbers answered for loop k of cell c of n cells: row 11 with the cell asked for, or the loop
unfoldable pub asked_loop : (ℕ → Cell) → (n c k : ℕ) → List ℕ
asked_loop cell n c k = pick (ltb c n) (cell_loop (cell c) k) (refusal 11 c)
