-- The opening call minds only the number of the starts.
use Rattle.std.specs.Prelude.{Result, Ok, Err}
use Prim.Native.Nat.{ℕ}
use native.Mathlib.Nat.{not-suc-le-zero}
use mathlib.Core.Path.{◌∙◌, ◌≡◌, ap, sym}
use mathlib.Core.Bool.{Bool}
use mathlib.Core.List.{List}
use native.Mathlib.Omega.{arith}
use lib.ListN.{length}
use Rattle.answer.specs.Answer.{is_result}
use Rattle.counting.specs.Stored.{filled}
use Rattle.counting.proofs.Stored.{length_filled}
use Rattle.grid.specs.Check.{check_numbers}
use Rattle.grid.specs.claims.Claims.{OpensBuilt}
use Rattle.grid.specs.Grid.{Grid, built, grid_of, start}
use Rattle.grid.specs.Opening.{open_answer, open_starts, opened}
use Rattle.grid.specs.Rows.{bad_numbers, grid_answer}
use Rattle.grid.specs.work.Work.{Starting, answer_with}
use Rattle.answer.specs.declared.Refusal.{Refusal}
use Rattle.grid.proofs.Answers.{verdict}
use Rattle.grid.proofs.Crossings.{start_zero}
use Rattle.grid.proofs.Filled.{refused_keeps, told_accepts, told_sound}
use Rattle.grid.proofs.Starts.{filled_lists, filled_starts}

pub opens_built : OpensBuilt
unfolding open_answer open_starts opened
opens_built cells edges counts starts e =
    let same = ap (grid_of cells edges counts) (filled_starts counts starts e) in
    (ap grid_answer same, λ values q. rw (ap is_result (ap grid_answer same ∙ q)) (filled_starts counts starts e))

module _ (G : Grid) where
  -- so its verdict for row 2 is by the numbers alone
  pub open_verdict : (wrong : Bool) → wrong ≡ bad_numbers G.edges G.counts G.starts
      → answer_with wrong (built G.cells G.edges G.counts) ≡ open_answer G
  unfolding open_answer opened
  open_verdict wrong e = verdict (opened G) wrong (e ∙ filled_lists G.edges G.counts G.starts)

  -- what the call leaves
  module _ (r : Result ℕ Refusal) (q : check_numbers r ≡ open_answer G) where
    pub open_refused : (refusal : Refusal) → r ≡ Err refusal → G.starts ≡ open_starts G
    unfolding open_answer open_starts
    open_refused refusal e = rw (refused_keeps (opened G) refusal (ap check_numbers (sym e) ∙ q))

    module _ (n : ℕ) (e : r ≡ Ok n) where
      pub open_starting : Starting G.counts 0 0 G.starts
      unfolding open_answer opened
      open_starting =
          let S = told_sound (opened G) r n e q in
          record {
            room = omega (arith, S.starts_long, length_filled (start G.counts) (length G.counts) G.starts);
            few = S.few_crossings;
            within = omega arith;
            own = sym (start_zero G.counts);
            before = λ e l. absurd (not-suc-le-zero l);
          }

      pub open_done : (starts : List ℕ) → starts ≡ filled (start G.counts) (length G.counts) G.starts → starts ≡ open_starts G
      unfolding open_answer open_starts opened
      open_done starts f = rw (told_accepts (opened G) r n e q) f
