-- Cells tallied by entry: the number of cells times triangles, entry by entry, is the sum of the cells' triangles.
use Prim.Native.Nat.{ℕ, suc, ◌+◌, ◌*◌, ◌≤◌, ◌<◌}
use mathlib.Core.Path.{◌≡◌, refl, sym, ap, ◌∙◌}
use mathlib.Core.List.{List}
use native.Mathlib.Omega.{arith}
use native.Mathlib.Decide.{ℕ_discrete}
use lib.Dec.{eqb, ltb}
use lib.ListN.{get_or, get_or-replicate, length-replicate, length-set, replicate, set}
use lib.Seq.{get_or-set_same, get_or-set_other}
use borrow.Author.Tests.{eq-eqb, ne_eqb}
use Rattle.counting.specs.Pick.{pick}
use Rattle.counting.specs.Lists.{one, total}
use Rattle.counting.specs.Search.{count}
use Rattle.counting.proofs.Range.{total_ext}
use Rattle.counting.proofs.Search.{count_le, count_sorted}
use Rattle.cases.specs.claims.Cases.{entries}
use Rattle.cases.specs.claims.Tally.{triangles_at}
use Rattle.cases.specs.work.Tally.{triangles_for, Tallied}

module _ (place : ℕ → ℕ) {n : ℕ} {l : List ℕ} (T : Tallied place n l) where
  pub tallied_sum : total (triangles_for l) entries 0 ≡ total (λ c. pick (ltb (place c) entries) (triangles_at (place c)) 0) n 0
  unfolding triangles_for
  tallied_sum =
      total_ext (λ e. get_or l e 0 * triangles_at e) (λ e. count (λ c. eqb (place c) e) n * triangles_at e) entries 0 (λ e _ h. ap (λ m. m * triangles_at e) (T.at e (omega arith)))
      ∙ count_sorted place triangles_at entries n

  pub tallied_few : (e : ℕ) → e < entries → get_or l e 0 ≤ n
  tallied_few e h = omega (arith, T.at e h, count_le (λ c. eqb (place c) e) n)

-- the tally grows by a cell: none so far, one with an entry, one without
pub tallied_none : (place : ℕ → ℕ) → Tallied place 0 (replicate entries 0)
unfolding count
tallied_none place = record { long = length-replicate {A = ℕ} entries 0; at = λ e h. get_or-replicate entries e 0 0 h }

module _ (place : ℕ → ℕ) {n : ℕ} {l : List ℕ} (T : Tallied place n l) where
  grown : (e : ℕ) → count (λ c. eqb (place c) e) (n + 1) ≡ count (λ c. eqb (place c) e) n + one (eqb (place n) e)
  unfolding count
  grown e = let s : n + 1 ≡ suc n = omega arith in rw s refl

  pub tallied_more : (k : ℕ) → k ≡ place n → k < entries → Tallied place (n + 1) (set l k (get_or l k 0 + 1))
  tallied_more k q h = record { long = length-set l k _ ∙ T.long; at = at }
    where
      at : (e : ℕ) → e < entries → get_or (set l k (get_or l k 0 + 1)) e 0 ≡ count (λ c. eqb (place c) e) (n + 1)
      at e g =
          elim (ℕ_discrete e k) [
            | yes i ↦ rw i (get_or-set_same l k _ 0 (omega (arith, T.long)) ∙ ap (λ m. m + 1) (T.at k h) ∙ sym (grown k ∙ ap (λ b. count (λ c. eqb (place c) k) n + one b) (eq-eqb (place n) k (sym q))))
            | no i ↦ get_or-set_other l k e _ 0 i ∙ T.at e g ∙ sym (grown e ∙ ap (λ b. count (λ c. eqb (place c) e) n + one b) (ne_eqb (place n) e (λ j. i (sym j ∙ sym q))) ∙ omega arith)
          ]

  pub tallied_past : entries ≤ place n → Tallied place (n + 1) l
  tallied_past h = record {
    long = T.long;
    at = λ e g. T.at e g ∙ sym (grown e ∙ ap (λ b. count (λ c. eqb (place c) e) n + one b) (ne_eqb (place n) e (λ j. omega arith)) ∙ omega arith);
  }
