-- An answer's numbers where C can read them.
use Rattle.std.specs.Prelude.{ℕ, ◌≤◌, ◌≡◌, List, [], ◌∷◌, leb, length}
use Rattle.std.proofs.lemmas.List.Edits.{sets}
use Rattle.counting.specs.Pick.{pick}
use Rattle.bundle.specs.Record.{body_start, body_size}

-- the words that hold any answer
abbrev pub answer_words : ℕ
answer_words = 6

-- the first where the lent answer area has them, else the second: a call that is lent a shorter one changes nothing
unfoldable pub if_room : {A : Type 0} → List ℕ → A → A → A
if_room answer made kept = pick (leb answer_words (length answer)) made kept

-- A call that answers these numbers changes the answer area from what it was to what it is. It returns how many numbers it put at the front, or the
-- words that are needed: so more than the area has exactly where the area is too short.
pub record Answers (numbers was is : List ℕ) (returned : ℕ) : Type 0 where
  pub many : returned ≡ if_room was (length numbers) answer_words
  pub most : returned ≤ answer_words
  pub area : is ≡ if_room was (sets was 0 numbers) was

-- the body of the record at a start, as that part of the bytes: where it stands and how many bytes it has
abbrev pub body_numbers : List ℕ → ℕ → List ℕ
body_numbers s at = body_start s at ∷ body_size s at ∷ []
