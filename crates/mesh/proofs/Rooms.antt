-- What is answered where a mesh has room, and where it has none.
use Prim.Native.Nat.{ℕ, ◌*◌, ◌≤◌, ◌<◌}
use mathlib.Core.Path.{◌≡◌}
use mathlib.Core.List.{List, [], ◌∷◌}
use lib.ListN.{length}
use borrow.Author.Tests.{le-leb, lt-leb}
use Rattle.answer.specs.Answer.{result_of, refusal}
use Rattle.cell.specs.declared.Triangle.{Triangle}
use Rattle.cell.specs.Words.{word_count}
use Rattle.mesh.specs.Room.{room_answer}

module _ (mesh : List Triangle) (splits room : ℕ) where
  pub answer_short : room < word_count * length mesh → refusal 12 (length mesh) ≡ room_answer mesh splits room
  unfolding room_answer
  answer_short h = simp (lt-leb (word_count * length mesh) room h)

  pub answer_fits : word_count * length mesh ≤ room → result_of (length mesh ∷ splits ∷ []) ≡ room_answer mesh splits room
  unfolding room_answer
  answer_fits h = simp (le-leb (word_count * length mesh) room h)
