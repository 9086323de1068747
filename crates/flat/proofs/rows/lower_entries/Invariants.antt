use Rattle.std.specs.Prelude.{ℕ, ◌<◌, ◌-◌, ◌≡◌, false}
use lib.Dec.{eqb}
use lib.ListN.{get_or}
use Rattle.counting.specs.Stored.{filled}
use Rattle.flat.proofs.rows.lower_entries.Given as goal

abbrev pub invariant-loop-j : goal.invariant-loop-j
invariant-loop-j l = record {
  none : (i : ℕ) → i < l.j → eqb (get_or l.initial.sides i 0) 0 ≡ false;
  lowered : l.sides ≡ filled (λ j. get_or l.initial.sides j 0 - 1) l.j l.initial.sides;
}
