use Prim.Native.Nat.{◌*◌}
use mathlib.Core.Path.{◌≡◌, refl}
use native.Mathlib.Omega.{arith}
use lib.ListN.{length}
use Rattle.grid.proofs.Nodes.{noted_none, noted_more, noted_all}
use Rattle.shading.specs.work.Work.{no_link}
use Rattle.shading.proofs.links.make_roots.Goals as goal

pub loop-x-init : goal.loop-x-init
loop-x-init c = noted_none _ (λ x. 2 * x) no_link _ c.requires.blank

pub loop-x-preserved : goal.loop-x-preserved
loop-x-preserved c = let l = c.loop-x in
    noted_more c.args.cells.now (λ x. 2 * x) no_link l.links l.x-index _ l.invariant refl
    (omega (arith, c.requires.nodes l.x-index (omega arith))) _ refl

pub returns : goal.returns
returns c = let l = c.loop-x in
    let e : l.x-index ≡ length c.args.cells.now = omega arith in
    record {
      long = l.invariant.long;
      at = λ x h. noted_all c.args.cells.now (λ x. 2 * x) no_link l.links c.requires.fours l.x-index e l.invariant x (omega arith);
    }
