-- Accepted exactly where no row has a fault; refused at the first row with one, at its lowest place; crossing numbers.
use Rattle.std.specs.Prelude.{Result}
use Prim.Native.Nat.{ℕ}
use mathlib.Core.Path.{◌∙◌, ◌≡◌, ap, refl, sym}
use mathlib.Core.Logic.{inl, inr, ⊎_elim}
use mathlib.Core.Bool.{true}
use mathlib.Core.List.{List, [], ◌∷◌}
use native.Mathlib.Omega.{arith}
use lib.ListN.{length}
use Rattle.counting.specs.Pack.{col}
use Rattle.counting.proofs.Pack.{col_lt, col_pack, pack_lt, pre_le, row_lt, row_pack, unpack}
use Rattle.answer.specs.Answer.{is_result, result_of}
use Rattle.answer.specs.claims.Faults.{AllClear}
use Rattle.answer.specs.work.Faults.{numbered}
use Rattle.answer.proofs.Numbers.{answer_tells}
use Rattle.answer.proofs.Rows.{answer_some, clear_answer, clear_or_refusal, refusal_answer, refused_by, result_clear, result_is}
use Rattle.grid.specs.Check.{check_numbers}
use Rattle.grid.specs.claims.Claims.{AcceptsClear, AcceptsOrRefuses, AnswerTold, ClearAccepted, CrossingNumbers, FaultRefused, OpenTold, RefusesFault}
use Rattle.grid.specs.Grid.{Grid, count_of, crossings, start}
use Rattle.grid.specs.Opening.{open_answer}
use Rattle.grid.specs.Rows.{grid_answer, rows, accepts}
use Rattle.answer.specs.declared.Refusal.{Refusal}

rows_numbered : (G : Grid) → numbered (rows G) ≡ true
unfolding rows numbered
rows_numbered G = refl

pub accepts_clear : AcceptsClear
unfolding grid_answer
accepts_clear G h = clear_answer (rows G) (result_of (crossings G.counts ∷ [])) h

pub clear_accepted : ClearAccepted
unfolding grid_answer
clear_accepted G values e = result_clear (rows G) (crossings G.counts ∷ []) (rows_numbered G) (ap is_result e)

pub refuses_fault : RefusesFault
unfolding grid_answer
refuses_fault G n p r = refusal_answer (rows G) (result_of (crossings G.counts ∷ [])) n p r

pub fault_refused : FaultRefused
unfolding grid_answer
fault_refused G n p h e = refused_by (rows G) (crossings G.counts ∷ []) n p h e

pub accepts_or_refuses : AcceptsOrRefuses
accepts_or_refuses G = ⊎_elim (λ (h : AllClear (rows G)). inl (accepts_clear G h)) inr (clear_or_refusal (rows G))

-- there is always an answer
pub never_empty : (G : Grid) → [] ≡ grid_answer G → ⊥
unfolding grid_answer
never_empty G q = answer_some (rows G) (crossings G.counts ∷ []) q

-- an answer that is a result is the number of crossings
pub accepted_is : (G : Grid) → accepts G ≡ true → grid_answer G ≡ result_of (crossings G.counts ∷ [])
unfolding grid_answer
accepted_is G h = result_is (rows G) (crossings G.counts ∷ []) (rows_numbered G) h

-- an answer is read from one value alone
pub told : (answer : List ℕ) → (r s : Result ℕ Refusal) → check_numbers r ≡ answer → check_numbers s ≡ answer → r ≡ s
told answer r s a b = answer_tells (λ n. n ∷ []) (λ n m e. cc) r s (a ∙ sym b)

pub answer_told : AnswerTold
answer_told G = told (grid_answer G)

pub open_told : OpenTold
open_told G = told (open_answer G)

pub crossing_numbers : CrossingNumbers
unfolding start
crossing_numbers counts = (
  Rattle.counting.specs.Pack.row (count_of counts) (length counts),
  col (count_of counts) (length counts),
  record {
    number_lt = pack_lt (count_of counts) (length counts);
    edge_lt = row_lt (count_of counts) (length counts);
    index_lt = col_lt (count_of counts) (length counts);
    number_is = unpack (count_of counts) (length counts);
    edge_is = row_pack (count_of counts) (length counts);
    index_is = col_pack (count_of counts) (length counts);
    later_edge = λ d e i j l h k. omega (arith, pre_le (count_of counts) (length counts) d e l);
  },
)
