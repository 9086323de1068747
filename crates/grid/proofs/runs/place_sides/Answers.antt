use mathlib.Core.Path.{◌∙◌, refl}
use native.Mathlib.Omega.{arith}
use Rattle.grid.proofs.Laying.{placing_clearable, placing_fillable, placing_more, placing_start, placing_stop}
use Rattle.grid.proofs.runs.place_sides.Goals as goal

pub loop-e-init : goal.loop-e-init
loop-e-init g c = placing_start c.requires

pub returns-then-u-gt-HIGHEST_NODE : goal.returns-then-u-gt-HIGHEST_NODE
returns-then-u-gt-HIGHEST_NODE g c = placing_stop c.requires c.loop-e.invariant (omega arith) (omega (arith, c.if-u-gt-HIGHEST_NODE.true))

pub fill_run-f-requires : goal.fill_run-f-requires
fill_run-f-requires g c = placing_fillable c.requires c.loop-e.invariant (omega arith) _ refl

pub clear_run-requires : goal.clear_run-requires
clear_run-requires g c = placing_clearable c.requires c.loop-e.invariant (omega arith) refl c.fill_run-f.ensures

pub loop-e-preserved : goal.loop-e-preserved
loop-e-preserved g c = placing_more c.requires c.loop-e.invariant (omega arith) refl c.fill_run-f.ensures _ refl _ _ c.clear_run.ensures (c.clear_run.auto.tab ∙ c.fill_run-f.ensures.same) c.turn_sides.ensures
