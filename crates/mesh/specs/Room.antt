-- A mesh and the room for it.
use Rattle.std.specs.Prelude.{ℕ, ◌*◌, List, [], ◌∷◌, leb, length}
use Rattle.answer.specs.Answer.{result_of, refusal}
use Rattle.counting.specs.Pick.{pick}
use Rattle.cell.specs.declared.Triangle.{Triangle}
use Rattle.cell.specs.Words.{word_count}

-- the numbers answered for a mesh with so many splits and an area of so many words: row 12 with the triangles needed, or their number and the splits
unfoldable pub room_answer : List Triangle → (splits room : ℕ) → List ℕ
room_answer mesh splits room = pick (leb (word_count * length mesh) room) (result_of (length mesh ∷ splits ∷ [])) (refusal 12 (length mesh))
