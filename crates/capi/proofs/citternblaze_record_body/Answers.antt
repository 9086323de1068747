use native.Mathlib.Omega.{arith}
use mathlib.Core.Path.{sym, ap, ◌∙◌}
use Rattle.bundle.specs.Record.{record_numbers}
use Rattle.bundle.proofs.Within.{record_within}
use Rattle.capi.proofs.Answers.{answers_are}
use Rattle.capi.proofs.Body.{body_found, body_refused}
use Rattle.capi.proofs.citternblaze_record_body.Goals as goal

pub overflow_add-from : goal.overflow_add-from
overflow_add-from c = omega (arith, record_within _ _ _ _ (sym (ap record_numbers (sym c.in-Ok.is) ∙ c.record_at.ensures)))

pub overflow_sub-record : goal.overflow_sub-record
overflow_sub-record c = omega (arith, record_within _ _ _ _ (sym (ap record_numbers (sym c.in-Ok.is) ∙ c.record_at.ensures)))

pub returns-in-Ok : goal.returns-in-Ok
returns-in-Ok c = answers_are (body_found _ _ _ _ (ap record_numbers (sym c.in-Ok.is) ∙ c.record_at.ensures)) c.put.ensures

pub returns-in-Err : goal.returns-in-Err
returns-in-Err c = answers_are (body_refused _ _ _ _ (ap record_numbers (sym c.in-Err.is) ∙ c.record_at.ensures)) c.put-in-Err.ensures
