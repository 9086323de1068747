-- Laws of a table of the last places.
use Prim.Native.Nat.{ℕ, ◌+◌, ◌<◌}
use mathlib.Core.Path.{◌∙◌, ◌≡◌, sym}
use mathlib.Core.List.{List}
use native.Mathlib.Decide.{ℕ_discrete}
use native.Mathlib.Omega.{arith}
use lib.ListN.{get_or, length, length-set, set}
use lib.Seq.{get_or-set_other, get_or-set_same}
use borrow.Author.Tests.{eq-eqb, ne_eqb}
use Rattle.counting.proofs.Search.{last_hit, last_miss, last_none}
use Rattle.grid.specs.work.Walks.{labelled}
use Rattle.grid.specs.work.Seen.{Seen}

pub seen_none : (f : ℕ → ℕ) (seen : List ℕ) → ((k : ℕ) → get_or seen k 0 ≡ 0) → Seen f 0 seen
seen_none f seen z = record { at = λ k h. z k ∙ sym (last_none (labelled f k)) }

pub seen_more : (f : ℕ → ℕ) {j : ℕ} {seen : List ℕ} → Seen f j seen → (key : ℕ) → key ≡ f j → key < length seen → Seen f (j + 1) (set seen key (j + 1))
unfolding labelled
seen_more f {j} {seen} w key e l = record {
  at = λ k h. elim (ℕ_discrete k key) [
    | yes q ↦ rw (q, get_or-set_same seen key (j + 1) 0 l) (sym (last_hit (labelled f key) j (eq-eqb (f j) key (sym e))))
    | no q ↦ get_or-set_other seen key k (j + 1) 0 q ∙ w.at k (omega (arith, length-set seen key (j + 1))) ∙ sym (last_miss (labelled f k) j (ne_eqb (f j) k (λ z. q (sym (e ∙ z)))))
  ];
}
