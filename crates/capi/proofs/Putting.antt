-- Laws of an answer's numbers put into a lent area.
use Prim.Native.Nat.{ℕ, ◌<◌, ◌≤◌}
use mathlib.Core.Path.{◌≡◌, sym, ap, ◌∙◌}
use mathlib.Core.List.{List, ◌++◌}
use native.Mathlib.Nat.{zero-add}
use native.Mathlib.Omega.{arith}
use lib.ListN.{length, drop}
use borrow.Author.Tests.{le-leb, lt-leb}
use Rattle.counting.specs.work.Stored.{Stored}
use Rattle.counting.proofs.Fronts.{sets_front}
use Rattle.capi.specs.Written.{answer_words, if_room, Answers}

-- what is chosen with too little room, and with enough
module _ {A : Type 0} (answer : List ℕ) (made kept : A) where
  pub room_short : length answer < answer_words → kept ≡ if_room answer made kept
  unfolding if_room
  room_short h = simp (lt-leb _ _ h)

  pub room_enough : answer_words ≤ length answer → {is : A} → is ≡ made → is ≡ if_room answer made kept
  unfolding if_room
  room_enough h e = simp (le-leb _ _ h) e

-- a call that is lent an answer area of too few words leaves it as it was
pub answers_short : {numbers area : List ℕ} → length area < answer_words → Answers numbers area area answer_words
answers_short h = record { many = room_short _ _ _ h; most = omega arith; area = room_short _ _ _ h }

-- one that has put all the numbers answers them
pub answers_put : {numbers was is : List ℕ} {next : ℕ} → Stored was 0 numbers is next → length numbers ≤ answer_words → answer_words ≤ length was
    → Answers numbers was is next
answers_put S h room = record { many = room_enough _ _ _ room (S.after ∙ zero-add _); most = omega (arith, S.after); area = room_enough _ _ _ room S.area }

-- numbers that are copied to the front
pub stored_copied : (l numbers : List ℕ) {copied : List ℕ} → length numbers ≤ length l → copied ≡ numbers → Stored l 0 numbers (copied ++ drop (length numbers) l) (length numbers)
stored_copied l numbers {copied} h e = record {
  area = ap (λ (y : List ℕ). y ++ drop (length numbers) l) e ∙ sym (sets_front numbers l h);
  after = sym (zero-add (length numbers));
}
