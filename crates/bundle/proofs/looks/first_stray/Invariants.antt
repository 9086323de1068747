use Prim.Native.Nat.{ℕ, ◌-◌, ◌≤◌, ◌<◌}
use mathlib.Core.Path.{◌≡◌}
use mathlib.Core.Bool.{false}
use Rattle.bundle.specs.Bundle.{is_stray}
use Rattle.bundle.proofs.looks.first_stray.Given as goal

abbrev pub invariant-loop-m : goal.invariant-loop-m
invariant-loop-m l = (l.m ≤ l.looked.looks) × ((i : ℕ) → i < l.m → is_stray l.looked.bytes.now i ≡ false)

abbrev pub decreases-loop-m : goal.decreases-loop-m
decreases-loop-m l = l.looked.looks - l.m
