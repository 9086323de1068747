use mathlib.Core.Path.{sym, ◌∙◌}
use native.Mathlib.Omega.{arith}
use Rattle.layers.proofs.Calls.{bad_run, no_run, cut_there, run_of, run_short, run_fits}
use Rattle.layers.proofs.cut_run.Goals as goal

pub returns-in-Some : goal.returns-in-Some
returns-in-Some c = let A = c.args in rw c.at.ensures (bad_run c.requires A.cuts.now (sym c.in-Some.is ∙ c.first_bad.ensures) A.run A.area.now)

pub returns-then-cuts-run : goal.returns-then-cuts-run
returns-then-cuts-run c = let A = c.args in rw c.at-then-cuts-run.ensures (no_run c.requires A.cuts.now (sym c.in_default.is ∙ c.first_bad.ensures) A.run c.if-cuts-run.true A.area.now)

pub of-span-requires : goal.of-span-requires
of-span-requires c = let A = c.args in cut_there c.requires A.cuts.now (sym c.in_default.is ∙ c.first_bad.ensures) A.run (omega arith)

pub draw_run-d-requires : goal.draw_run-d-requires
draw_run-d-requires c = let A = c.args in
    let S = c.of-span.ensures in
    record { run = run_of c.requires A.cuts.now (sym c.in_default.is ∙ c.first_bad.ensures) A.run (omega arith) _ _ S.0 S.1; mark = omega (arith, S.2) }

pub overflow_mul-d : goal.overflow_mul-d
overflow_mul-d c = omega (arith, c.draw_run-d.ensures.few)

pub returns-then-area-d : goal.returns-then-area-d
returns-then-area-d c = let A = c.args in
    let S = c.of-span.ensures in
    rw c.at-then-area-d.ensures (run_short c.requires A.cuts.now (sym c.in_default.is ∙ c.first_bad.ensures) A.run (omega arith) _ _ S.0 S.1 c.draw_run-d.ensures (omega arith))

pub returns : goal.returns
returns c = let A = c.args in
    let S = c.of-span.ensures in
    run_fits c.requires A.cuts.now (sym c.in_default.is ∙ c.first_bad.ensures) A.run (omega arith) _ _ S.0 S.1 c.draw_run-d.ensures (omega arith)
