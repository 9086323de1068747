use Prim.Native.Nat.{ℕ, ◌+◌}
use mathlib.Core.Path.{◌≡◌, refl, ap, ap₂, ◌∙◌}
use native.Mathlib.Omega.{arith}
use lib.ListN.{length}
use lib.Seq.{sets, length-sets}
use Rattle.counting.specs.Lists.{values}
use Rattle.counting.proofs.Stored.{sets_more}
use Rattle.cell.specs.Words.{word_count}
use Rattle.layers.specs.work.Work.{table_over, word_over}
use Rattle.layers.proofs.Namings.{put, word_there, before_next, sets_none}
use Rattle.layers.proofs.words.put_triangle.Goals as goal

pub loop-j-init : goal.loop-j-init
loop-j-init c = (refl, sets_none _ _ _)

pub overflow_add-w : goal.overflow_add-w
overflow_add-w c = omega (arith, c.requires.word_count_in_bounds)

pub offset_bounds-area-at : goal.offset_bounds-area-at
offset_bounds-area-at c = omega (arith, c.requires.word_count_in_bounds)

pub bounds-area-at : goal.bounds-area-at
bounds-area-at c = let A = c.args in let L = c.loop-j in omega (arith, c.requires.word_count_in_bounds, ap length L.invariant.1, length-sets A.area.now A.at (values (put (table_over A.names.now A.over.now A.from) A.area.now A.at) L.j))

pub overflow_add-area : goal.overflow_add-area
overflow_add-area c = omega (arith, c.requires.word_count_in_bounds)

pub offset_bounds-area-at-in-loop-j : goal.offset_bounds-area-at-in-loop-j
offset_bounds-area-at-in-loop-j c = omega (arith, c.requires.word_count_in_bounds)

pub bounds-area-at-in-loop-j : goal.bounds-area-at-in-loop-j
bounds-area-at-in-loop-j c = let A = c.args in let L = c.loop-j in omega (arith, c.requires.word_count_in_bounds, ap length L.invariant.1, length-sets A.area.now A.at (values (put (table_over A.names.now A.over.now A.from) A.area.now A.at) L.j))

pub loop-j-preserved : goal.loop-j-preserved
loop-j-preserved c = let A = c.args in
    let L = c.loop-j in
    let there = word_there (table_over A.names.now A.over.now A.from) A.area.now A.at L.area L.j L.invariant.1 in (
      there ∙ before_next (table_over A.names.now A.over.now A.from) A.area.now A.at L.j,
      sets_more (put (table_over A.names.now A.over.now A.from) A.area.now A.at) A.at L.j A.area.now L.area (A.at + L.j) c.word_over.result L.invariant.1 refl
          (c.word_over.ensures ∙ ap₂ (word_over (table_over A.names.now A.over.now A.from) L.j) L.invariant.0 there),
    )

pub shape_of-area : goal.shape_of-area
shape_of-area c = let A = c.args in ap length c.loop-j.invariant.1 ∙ length-sets A.area.now A.at (values (put (table_over A.names.now A.over.now A.from) A.area.now A.at) c.loop-j.j)

pub returns : goal.returns
returns c = let A = c.args in
    let e : c.loop-j.j ≡ word_count = omega arith in
    c.loop-j.invariant.1 ∙ ap (λ (k : ℕ). sets A.area.now A.at (values (put (table_over A.names.now A.over.now A.from) A.area.now A.at) k)) e
