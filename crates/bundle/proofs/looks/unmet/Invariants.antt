use Prim.Native.Nat.{ℕ, ◌<◌}
use mathlib.Core.Path.{◌≡◌}
use mathlib.Core.Bool.{false}
use Rattle.bundle.specs.work.Looked.{top_unmet}
use Rattle.bundle.proofs.looks.unmet.Given as goal

abbrev pub invariant-loop-j : goal.invariant-loop-j
invariant-loop-j l = (i : ℕ) → i < l.j → top_unmet l.tops l.met i ≡ false
