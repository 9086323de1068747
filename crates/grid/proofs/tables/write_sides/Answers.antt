use Prim.Native.Nat.{◌-◌}
use mathlib.Core.Path.{refl}
use lib.ListN.{get_or}
use Rattle.counting.proofs.Stored.{filled_more, filled_none}
use Rattle.grid.proofs.tables.write_sides.Goals as goal

pub loop-j-init : goal.loop-j-init
loop-j-init c = filled_none _ _

pub loop-j-preserved : goal.loop-j-preserved
loop-j-preserved c = filled_more (λ j. get_or c.args.listed.now j 0 - 1) _ _ _ _ c.loop-j.invariant refl
