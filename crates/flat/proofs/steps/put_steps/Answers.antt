use Prim.Native.Nat.{ℕ, ◌*◌}
use mathlib.Core.Path.{refl}
use native.Mathlib.Omega.{arith}
use lib.ListN.{length-replicate, replicate}
use Rattle.flat.specs.work.Work.{most_sides}
use Rattle.flat.proofs.Tables.{porting, tabled}
use Rattle.flat.proofs.steps.put_steps.Goals as goal

pub put_ports-requires : goal.put_ports-requires
put_ports-requires c = porting c.requires.sides _ refl (length-replicate {A = ℕ} (2 * most_sides) 0)

pub put_starts-requires : goal.put_starts-requires
put_starts-requires c = let c-pre = c.requires in record { counts_in_bounds = omega (arith, c-pre.sides.few_edges, length-replicate {A = ℕ} most_sides 0); counts_bound = c-pre.sides.few_crossings }

pub invariant_of-tables : goal.invariant_of-tables
invariant_of-tables c = let c-put-starts = c.put_starts in
    let c-put-ports = c.put_ports in
    let c-pre = c.requires in
    record { tabled = tabled c-pre.sides (replicate (2 * most_sides) 0) _ (replicate most_sides 0) _ (length-replicate {A = ℕ} (2 * most_sides) 0) c-put-ports.ensures c-put-starts.ensures (length-replicate {A = ℕ} most_sides 0) }

pub returns : goal.returns
returns c = c.put_all.ensures
