use Prim.Native.Nat.{◌+◌}
use mathlib.Core.Path.{◌≡◌, ap, ◌∙◌}
use native.Mathlib.Omega.{arith}
use Rattle.counting.specs.Stored.{filled}
use Rattle.counting.proofs.Stored.{filled_again}
use Rattle.counting.proofs.Tables.{filled_table, table_filled}
use Rattle.bundle.specs.Bundle.{edges, looks, count_after}
use Rattle.bundle.proofs.looks.replace.Goals as goal

pub loop-m-init : goal.loop-m-init
loop-m-init c = (omega arith, table_filled _ _ _ c.requires)

pub replace_in-requires : goal.replace_in-requires
replace_in-requires c = let b = c.block-block.ensures in rw (b.of, b.first) (filled_table _ _ _ _ c.loop-m.invariant.1 c.requires.room)

pub loop-m-preserved : goal.loop-m-preserved
loop-m-preserved c =
    let b = c.block-block.ensures in
    let s = c.args.looked.now.bytes.now in
    let f = count_after s (c.loop-m.m + c.block-block.result.count) in
    let n = edges s in (
      omega (arith, b.count),
      (rw (b.of, b.first) at c.replace_in.ensures) ∙ ap (filled f n) c.loop-m.invariant.1 ∙ filled_again f _ n _ c.requires.room,
    )

pub returns : goal.returns
returns c =
    let e : c.loop-m.m ≡ looks c.args.looked.now.bytes.now = omega (arith, c.args.looked.now.lent.all) in
    rw e at c.loop-m.invariant.1
