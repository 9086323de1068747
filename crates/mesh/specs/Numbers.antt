-- The answers of the mesh call and of the loops call, as the numbers of 01.
use Rattle.std.specs.Prelude.{ℕ, List, [], ◌∷◌, Option, Result, Ok, Err}
use Rattle.answer.specs.Refusal.{refusal_numbers, answer_numbers}
use Rattle.answer.specs.declared.Refusal.{Refusal}
use Rattle.cell.specs.declared.Loop.{Loop}
use Rattle.cell.specs.Answer.{loop_numbers}
use Rattle.mesh.specs.declared.sizes.Mesh.{Mesh}

abbrev pub mesh_numbers : Result Mesh Refusal → List ℕ
mesh_numbers = answer_numbers (λ m. m.triangles ∷ m.splits ∷ [])

abbrev pub loops_numbers : Result (Option Loop) Refusal → List ℕ
loops_numbers (Ok l) = loop_numbers l
loops_numbers (Err r) = refusal_numbers r
