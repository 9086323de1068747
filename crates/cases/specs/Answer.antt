-- The answer of the table for six counts, in numbers. The reading is one to one.
use Rattle.std.specs.Prelude.{ℕ, Option, Some, None, List, [], ◌∷◌}
use Rattle.cell.specs.Cell.{Edges}
use Rattle.counting.specs.Pick.{pick}
use Rattle.answer.specs.Answer.{result_of}
use Rattle.cell.specs.Common.{is_common}
use Rattle.cell.specs.Triangles.{loop_count, triangle_count}
use Rattle.cases.specs.declared.Case.{Case}

-- the edges of a cell that is alone, by its counts: of two edges that start alike the first is laid first
abbrev pub lone_edges : (ℕ → ℕ) → Edges
lone_edges w = record { count = w; start = λ k. 0 }

-- the loops and the triangles; or nothing, for a cell outside the table
abbrev pub case_numbers : Option Case → List ℕ
case_numbers (Some c) = result_of (c.loops ∷ c.triangles ∷ [])
case_numbers None = result_of []

-- what is answered for the counts w k of a cell's edges k
unfoldable pub case_answer : (ℕ → ℕ) → List ℕ
case_answer w = pick (is_common w) (result_of (loop_count (lone_edges w) ∷ triangle_count (lone_edges w) ∷ [])) (result_of [])
