use mathlib.Core.Path.{sym, ◌∙◌}
use native.Mathlib.Omega.{arith}
use Rattle.split.proofs.Tables.{splits_all}
use Rattle.layers.proofs.Calls.{few_drawn, bad_joined, joined_short, joinable, joined_fits}
use Rattle.layers.proofs.cut_joined.Goals as goal

pub returns-in-Some : goal.returns-in-Some
returns-in-Some c = let A = c.args in rw c.at.ensures (bad_joined c.requires A.cuts.now (sym c.in-Some.is ∙ c.first_bad.ensures) A.area.now)

pub overflow_add-most : goal.overflow_add-most
overflow_add-most c = let S = c.sums_of-s.ensures in omega (arith, S.few_crossings, S.few_more)

pub lacking-requires : goal.lacking-requires
lacking-requires c = let w = c.args.whole in
    few_drawn w.grid.cells.now w.grid.counts.now w.names.now w.sides.now w.grid.starts.now c.sums_of-s.ensures

pub returns-in-Some-lacking : goal.returns-in-Some-lacking
returns-in-Some-lacking c = let A = c.args in rw c.at-in-Some-lacking.ensures (joined_short c.requires A.cuts.now (sym c.in_default.is ∙ c.first_bad.ensures) A.area.now (sym c.in-Some-lacking.is ∙ c.lacking.ensures))

pub join_runs-end-requires : goal.join_runs-end-requires
join_runs-end-requires c = let A = c.args in joinable c.requires A.cuts.now (sym c.in_default.is ∙ c.first_bad.ensures) A.area.now (sym c.in_default-lacking.is ∙ c.lacking.ensures)

pub overflow_cast-result : goal.overflow_cast-result
overflow_cast-result c = let S = c.sums_of-s.ensures in omega (arith, S.few-splits)

pub returns : goal.returns
returns c = let A = c.args in
    let w = A.whole in
    let S = c.sums_of-s.ensures in
    joined_fits c.requires A.cuts.now (sym c.in_default.is ∙ c.first_bad.ensures) A.area.now (sym c.in_default-lacking.is ∙ c.lacking.ensures)
    (omega (arith, S.splits_are, splits_all w.grid.cells.now w.grid.counts.now w.names.now w.sides.now w.grid.starts.now)) c.join_runs-end.ensures
