use Prim.Native.Nat.{ℕ, ◌+◌, ◌*◌, ◌<◌}
use mathlib.Core.Path.{◌≡◌, refl, ap, ap₂, ◌∙◌}
use mathlib.Core.List.{[], ◌∷◌}
use native.Mathlib.Omega.{arith}
use lib.ListN.{get_or}
use Rattle.answer.specs.Answer.{result_of}
use Rattle.cell.specs.Level.{by_edge}
use Rattle.cases.specs.claims.Cases.{entries}
use Rattle.cases.specs.Answer.{lone_edges, case_answer}
use Rattle.cases.specs.claims.Table.{table}
use Rattle.cases.specs.claims.Tally.{find_entry}
use Rattle.cases.proofs.Digits.{answered, unanswered}
use Rattle.cases.proofs.Claims.{every_entry}
use Rattle.cases.proofs.look_up.Goals as goal

outside : (w : ℕ → ℕ) → entries ≡ find_entry w → result_of [] ≡ case_answer w
unfolding case_answer
outside w e = rw (unanswered w entries e (omega arith)) refl

inside : (w : ℕ → ℕ) (n l t : ℕ) → n ≡ find_entry w → n < entries → l ≡ get_or table (2 * n) 0 → t ≡ get_or table (2 * n + 1) 0 → result_of (l ∷ t ∷ []) ≡ case_answer w
unfolding case_answer
inside w n l t e h f g =
    let (C, q) = answered w n e h in
    let E = every_entry (lone_edges w) C in
    rw C (ap₂ (λ i j. result_of (i ∷ j ∷ [])) (f ∙ ap (λ i. get_or table (2 * i) 0) q ∙ E.loops) (g ∙ ap (λ i. get_or table (2 * i + 1) 0) q ∙ E.triangles))

pub returns-in_err-n : goal.returns-in_err-n
returns-in_err-n c = rw c.from_residual.ensures (outside (by_edge c.args.counts) c.in_err-n.ensures.place)

pub returns : goal.returns
returns c = let e = c.entry-e.ensures in
    inside (by_edge c.args.counts) c.in_ok-n.n _ _ c.in_ok-n.ensures.place c.in_ok-n.ensures.within
    (ap (λ l. get_or l 0 0) e) (ap (λ l. get_or l 1 0) e)
