use Rattle.std.specs.Prelude.{ℕ, ◌<◌, ◌≡◌, false}
use Rattle.flat.specs.work.Work.{twice}
use Rattle.flat.proofs.triangles.first_third.Given as goal

abbrev pub invariant-loop-j : goal.invariant-loop-j
invariant-loop-j l = (i : ℕ) → i < l.j → twice l.prev i ≡ false
