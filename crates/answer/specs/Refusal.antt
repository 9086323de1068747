-- A call's answer, which is a value or a refusal, read as a list of numbers.
use Rattle.std.specs.Prelude.{ℕ, List, Result, Ok, Err}
use Rattle.answer.specs.Answer.{result_of, refusal}
use Rattle.answer.specs.declared.Refusal.{Refusal}
use Rattle.answer.specs.declared.Row.{Row}
use Rattle.answer.specs.declared.Row.TheVariants.{CellList, EdgeList, CellNodes, CellRepeated, FaceCrowded, EdgeOrder, EdgeMissing, EdgeStray, EdgeUnlinked, Crossings, NoCell, MeshArea, Records, BundleArea, PlaceLists, NodePlace, Fraction, Count, ShadingArea, NoShading, NoEdge, Look, Points, ChainArea, Cuts, NoRun}

-- a row's number in the table of document 01
abbrev pub row_number : Row → ℕ
row_number CellList = 1
row_number EdgeList = 2
row_number CellNodes = 3
row_number CellRepeated = 4
row_number FaceCrowded = 5
row_number EdgeOrder = 6
row_number EdgeMissing = 7
row_number EdgeStray = 8
row_number EdgeUnlinked = 9
row_number Crossings = 10
row_number NoCell = 11
row_number MeshArea = 12
row_number Records = 13
row_number BundleArea = 14
row_number PlaceLists = 15
row_number NodePlace = 16
row_number Fraction = 17
row_number Count = 18
row_number ShadingArea = 19
row_number NoShading = 20
row_number NoEdge = 21
row_number Look = 22
row_number Points = 23
row_number ChainArea = 24
row_number Cuts = 25
row_number NoRun = 26

abbrev pub refusal_numbers : Refusal → List ℕ
refusal_numbers r = refusal (row_number r.row) r.place

-- what a call answers: the numbers of its value, or those of its refusal
abbrev pub answer_numbers : {A : Type 0} → (A → List ℕ) → Result A Refusal → List ℕ
answer_numbers values (Ok x) = result_of (values x)
answer_numbers values (Err r) = refusal_numbers r
