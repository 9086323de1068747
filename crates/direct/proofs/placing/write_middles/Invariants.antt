use Prim.Native.Nat.{◌-◌, ◌≤◌}
use mathlib.Core.Path.{◌≡◌}
use Rattle.cell.specs.work.Tables.{middles_put}
use Rattle.direct.specs.work.Cells.{longest_block}
use Rattle.direct.proofs.placing.write_middles.Given as goal

abbrev pub invariant-loop-k : goal.invariant-loop-k
invariant-loop-k l = ((l.c ≤ l.k) × (l.k - l.c ≤ l.end - l.c)) × (l.b ≤ longest_block) × ((l.area, l.i) ≡ middles_put l.tables l.nodes l.c l.initial.area l.at (l.k - l.c))

abbrev pub decreases-loop-k : goal.decreases-loop-k
decreases-loop-k l = l.end - l.k
