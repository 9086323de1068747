use mathlib.Core.Path.{◌≡◌}
use Rattle.counting.specs.Stored.{filled}
use Rattle.flat.specs.work.Work.{triangle_key}
use Rattle.flat.proofs.triangles.triangle_keys.Given as goal

abbrev pub invariant-loop-f : goal.invariant-loop-f
invariant-loop-f l = l.keys ≡ filled (triangle_key l.triangles) l.f l.initial.keys
