use mathlib.Core.Path.{◌∙◌, refl, sym, ap}
use native.Mathlib.Omega.{arith}
use lib.ListN.{length}
use Rattle.grid.proofs.Nodes.{noted_none, noted_more}
use Rattle.places.proofs.Marks.{marked}
use Rattle.places.proofs.rows.mark.Goals as goal

pub loop-v-init : goal.loop-v-init
loop-v-init c = noted_none _ (λ v. 1) 0 _ c.requires.blank

pub bounds-used-v : goal.bounds-used-v
bounds-used-v c = omega (arith, c.loop-v.invariant.long, c.requires.nodes c.loop-v.v-index (omega arith))

pub loop-v-preserved : goal.loop-v-preserved
loop-v-preserved c = noted_more c.args.cells.now (λ v. 1) 0 c.loop-v.used c.loop-v.v-index _ c.loop-v.invariant refl (c.requires.nodes c.loop-v.v-index (omega arith)) 1 refl

pub shape_of-used : goal.shape_of-used
shape_of-used c = c.loop-v.invariant.long ∙ sym (ap length c.requires.blank)

pub returns : goal.returns
returns c = marked c.args.cells.now c.loop-v.used c.requires.fours _ (omega arith) c.loop-v.invariant
