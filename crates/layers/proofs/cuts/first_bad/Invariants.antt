use Prim.Native.Nat.{ℕ, ◌<◌}
use mathlib.Core.Path.{◌≡◌}
use mathlib.Core.Bool.{false}
use Rattle.layers.specs.Cuts.{run_start, bad_cut}
use Rattle.layers.proofs.cuts.first_bad.Given as goal

abbrev pub invariant-loop-i : goal.invariant-loop-i
invariant-loop-i l = record { before_is : l.before ≡ run_start l.cuts l.i; fine : (k : ℕ) → k < l.i → bad_cut l.n l.cuts k ≡ false }
