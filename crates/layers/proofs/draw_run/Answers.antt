use native.Mathlib.Omega.{arith}
use Rattle.layers.proofs.Laying.{layable, zero_below, run_drawn}
use Rattle.layers.proofs.draw_run.Goals as goal

pub copy-requires : goal.copy-requires
copy-requires c = let R = c.requires.run in omega (arith, R.run.within, R.tables.sound.few_cells)

pub start-requires : goal.start-requires
start-requires c = let A = c.args in
    let R = c.requires.run in
    layable R.tables A.run.from A.run.size R.run _ A.run.mark (λ e. omega (arith, zero_below 12480 e, c.requires.mark))

pub overflow_mul-first : goal.overflow_mul-first
overflow_mul-first c = let R = c.requires.run in omega (arith, R.run.within, R.tables.sound.few_cells)

pub overflow_mul-end : goal.overflow_mul-end
overflow_mul-end c = let R = c.requires.run in omega (arith, R.run.within, R.tables.sound.few_cells)

pub overflow_add-end : goal.overflow_add-end
overflow_add-end c = let R = c.requires.run in omega (arith, R.run.within, R.tables.sound.few_cells)

pub offset_bounds-whole-first : goal.offset_bounds-whole-first
offset_bounds-whole-first c = let R = c.requires.run in omega (arith, R.run.within, R.tables.sound.few_cells)

pub slice_bounds-tables-count : goal.slice_bounds-tables-count
slice_bounds-tables-count c = let R = c.requires.run in omega (arith, R.run.within, R.tables.sound.few_cells)

pub slice_bounds-tables-start : goal.slice_bounds-tables-start
slice_bounds-tables-start c = let R = c.requires.run in omega (arith, R.run.within, R.tables.sound.few_cells, R.tables.sound.fours)

pub slice_bounds-tables-end : goal.slice_bounds-tables-end
slice_bounds-tables-end c = let R = c.requires.run in omega (arith, R.run.within, R.tables.sound.few_cells, R.tables.sound.fours)

pub returns : goal.returns
returns c = let D = c.draw.ensures in
    run_drawn c.requires.run (record { copied = c.copy.ensures; started = c.start.ensures }) D.triangles_value.0 D.triangles_value.1 D.triangles_value.2 D.area_after
