-- The answer of the loop call in numbers, for each of its cases. The readings are one to one.
use Rattle.std.specs.Prelude.{ℕ, List, [], ◌∷◌, Option, Some, None}
use Rattle.counting.specs.Lists.{one}
use Rattle.answer.specs.Answer.{result_of}
use Rattle.cell.specs.declared.LoopType.{LoopType}
use Rattle.cell.specs.declared.LoopType.TheVariants.{Contractible, Corner, Diagonal, LowestCorner}
use Rattle.cell.specs.declared.Loop.{Loop}

-- the type's number (01), and the node
abbrev pub type_numbers : LoopType → List ℕ
type_numbers Contractible = 0 ∷ []
type_numbers (Corner v) = 1 ∷ v ∷ []
type_numbers (Diagonal v) = 2 ∷ v ∷ []
type_numbers (LowestCorner v) = 3 ∷ v ∷ []

-- p0, n, normal or not, and the type; or none
abbrev pub loop_numbers : Option Loop → List ℕ
loop_numbers (Some l) = result_of (l.p0 ∷ l.len ∷ one l.normal ∷ type_numbers l.kind)
loop_numbers None = result_of []
