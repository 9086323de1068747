-- Where a record's body stands, from what the record reader answers.
use Prim.Native.Nat.{ℕ, ◌+◌, ◌-◌}
use mathlib.Core.Path.{◌≡◌}
use mathlib.Core.List.{List, [], ◌∷◌}
use Rattle.answer.specs.Answer.{result_of, refusal}
use Rattle.bundle.specs.Record.{head_bytes, record_answer, body_start, body_size}
use Rattle.bundle.proofs.OneRecord.{found, not_found}
use Rattle.capi.specs.Written.{body_numbers}

module _ (s : List ℕ) (at : ℕ) where
  pub body_found : (kind next : ℕ) → result_of (kind ∷ next ∷ []) ≡ record_answer s at → (at + head_bytes) ∷ (next - (at + head_bytes)) ∷ [] ≡ body_numbers s at
  unfolding body_start body_size
  body_found kind next h = let f = found s at kind next h in simp (f.whole, f.next_is)

  pub body_refused : (number place : ℕ) → refusal number place ≡ record_answer s at → 0 ∷ 0 ∷ [] ≡ body_numbers s at
  unfolding body_start body_size
  body_refused number place h = simp (not_found s at number place h)
