use native.Mathlib.Omega.{arith}
use mathlib.Core.Path.{refl}
use Rattle.layers.specs.Runs.{crossing_in_whole}
use Rattle.layers.proofs.Laying.{layable, leading}
use Rattle.layers.proofs.Joining.{many, put_room, run_joined}
use Rattle.layers.proofs.join_run.Goals as goal

pub copy-requires : goal.copy-requires
copy-requires c = let J = c.requires in omega (arith, J.run_of.run.within, J.run_of.tables.sound.few_cells, J.run_of.tables.sound.fours)

pub start-requires : goal.start-requires
start-requires c = let A = c.args in
    let J = c.requires in
    layable J.run_of.tables A.run.from A.run.size J.run_of.run _ _ J.below

pub overflow_mul-first : goal.overflow_mul-first
overflow_mul-first c = let J = c.requires in omega (arith, J.run_of.run.within, J.run_of.tables.sound.few_cells, J.run_of.tables.sound.fours)

pub overflow_mul-end : goal.overflow_mul-end
overflow_mul-end c = let J = c.requires in omega (arith, J.run_of.run.within, J.run_of.tables.sound.few_cells, J.run_of.tables.sound.fours)

pub overflow_add-end : goal.overflow_add-end
overflow_add-end c = let J = c.requires in omega (arith, J.run_of.run.within, J.run_of.tables.sound.few_cells, J.run_of.tables.sound.fours)

pub offset_bounds-whole-first : goal.offset_bounds-whole-first
offset_bounds-whole-first c = let J = c.requires in omega (arith, J.run_of.run.within, J.run_of.tables.sound.few_cells, J.run_of.tables.sound.fours)

pub slice_bounds-tables-count : goal.slice_bounds-tables-count
slice_bounds-tables-count c = let J = c.requires in omega (arith, J.run_of.run.within, J.run_of.tables.sound.few_cells, J.run_of.tables.sound.fours)

pub slice_bounds-tables-start : goal.slice_bounds-tables-start
slice_bounds-tables-start c = let J = c.requires in omega (arith, J.run_of.run.within, J.run_of.tables.sound.few_cells, J.run_of.tables.sound.fours)

pub slice_bounds-tables-end : goal.slice_bounds-tables-end
slice_bounds-tables-end c = let J = c.requires in omega (arith, J.run_of.run.within, J.run_of.tables.sound.few_cells, J.run_of.tables.sound.fours)

pub draw_at-d-requires : goal.draw_at-d-requires
draw_at-d-requires c = omega (arith, c.requires.fits)

pub number_sides-requires : goal.number_sides-requires
number_sides-requires c = let A = c.args in
    let J = c.requires in
    record { by_index = (crossing_in_whole _ A.run.from A.run.size, leading J.run_of.tables A.run.from A.run.size J.run_of.run (record { copied = c.copy.ensures; started = c.start.ensures })); over_len = omega arith }

pub put_over-requires : goal.put_over-requires
put_over-requires c = let J = c.requires in
    let D = c.draw_at-d.ensures in
    (put_room J (record { copied = c.copy.ensures; started = c.start.ensures }) c.args.area.now refl D.triangles_value.0 D.area_after, omega (arith, J.run_of.run.within, J.run_of.tables.sound.few_cells))

pub overflow_mul-result : goal.overflow_mul-result
overflow_mul-result c = let J = c.requires in
    let D = c.draw_at-d.ensures in
    omega (arith, J.fits, many J (record { copied = c.copy.ensures; started = c.start.ensures }) c.args.area.now refl D.triangles_value.0 D.area_after)

pub overflow_add-result : goal.overflow_add-result
overflow_add-result c = let J = c.requires in
    let D = c.draw_at-d.ensures in
    omega (arith, J.fits, many J (record { copied = c.copy.ensures; started = c.start.ensures }) c.args.area.now refl D.triangles_value.0 D.area_after)

pub returns : goal.returns
returns c = let D = c.draw_at-d.ensures in
    let A = c.args in
    let J = c.requires in record {
      marks = c.start.ensures.most;
      stored = run_joined J (record { copied = c.copy.ensures; started = c.start.ensures }) A.area.now refl D.triangles_value.0 D.area_after
          (c.number_sides.ensures _ (leading J.run_of.tables A.run.from A.run.size J.run_of.run (record { copied = c.copy.ensures; started = c.start.ensures }))) c.put_over.ensures;
    }
