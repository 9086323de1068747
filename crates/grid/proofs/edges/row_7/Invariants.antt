use Rattle.std.specs.Prelude.{ℕ, ◌<◌, ◌≡◌, false}
use lib.Dec.{eqb}
use lib.ListN.{get_or}
use Rattle.grid.proofs.Laying.{Tallying}
use Rattle.grid.proofs.edges.row_7.Given as goal

abbrev pub invariant-loop-j : goal.invariant-loop-j
invariant-loop-j l = ((i : ℕ) → i < l.j → eqb (get_or l.sides i 0) 0 ≡ false) × Tallying l.sides l.j l.initial.top l.initial.degree l.top l.degree
