use Prim.Native.Nat.{◌<◌}
use mathlib.Core.Path.{◌≡◌}
use lib.Dec.{eqb}
use lib.ListN.{get_or}
use Rattle.counting.specs.Pick.{pick}
use Rattle.cell.specs.claims.Half.{edge_of}
use Rattle.cell.specs.claims.Nests.{greatest_of}
use Rattle.cell.proofs.nests.highest_on.Given as goal

abbrev pub invariant-loop-k : goal.invariant-loop-k
invariant-loop-k l = (l.most ≡ greatest_of (λ j. pick (eqb (edge_of (get_or l.halves j 0)) l.e) (get_or l.points j 0) 0) l.k) × (l.most < 4294967296)
