use Prim.Native.Nat.{◌*◌}
use mathlib.Core.Path.{◌≡◌}
use Rattle.counting.specs.Stored.{filled}
use Rattle.flat.specs.work.Work.{side_key}
use Rattle.flat.proofs.triangles.side_keys.Given as goal

abbrev pub invariant-loop-f : goal.invariant-loop-f
invariant-loop-f l = l.keys ≡ filled (side_key l.triangles) (3 * l.f) l.initial.keys
