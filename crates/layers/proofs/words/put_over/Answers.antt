use Prim.Native.Nat.{ℕ}
use mathlib.Core.Path.{◌≡◌, ap, refl, ◌∙◌}
use native.Mathlib.Omega.{arith}
use lib.Seq.{sets}
use Rattle.counting.specs.Lists.{over}
use Rattle.counting.proofs.Stored.{stored_none, stored_as, stored_long}
use Rattle.layers.specs.work.Work.{triangles_over, table_over}
use Rattle.layers.proofs.Namings.{triangle_more}
use Rattle.layers.proofs.words.put_over.Goals as goal

pub loop-t-init : goal.loop-t-init
unfolding triangles_over over
loop-t-init c = stored_as (stored_none _ _) refl (omega arith)

pub put_triangle-requires : goal.put_triangle-requires
put_triangle-requires c = record { from_le_most_cells = c.requires.1; word_count_in_bounds = omega (arith, c.requires.0, stored_long c.loop-t.invariant) }

pub loop-t-preserved : goal.loop-t-preserved
loop-t-preserved c = let A = c.args in
    let L = c.loop-t in
    stored_as (triangle_more (table_over A.names.now A.over.now A.from) A.area.now A.at L.t L.invariant c.put_triangle.ensures) refl (omega arith)

pub shape_of-area : goal.shape_of-area
shape_of-area c = stored_long c.loop-t.invariant

pub returns : goal.returns
returns c = let A = c.args in
    let e : c.loop-t.t ≡ A.n = omega arith in
    c.loop-t.invariant.area ∙ ap (λ (k : ℕ). sets A.area.now A.at (triangles_over (table_over A.names.now A.over.now A.from) A.area.now A.at k)) e
