use Prim.Native.Nat.{ℕ, ◌+◌, ◌<◌}
use mathlib.Core.Logic.{inl, inr}
use mathlib.Core.Path.{◌≡◌, sym}
use mathlib.Core.Bool.{true}
use native.Mathlib.Omega.{arith}
use Rattle.counting.proofs.Below.{below_three}
use Rattle.grid.specs.Grid.{node}
use Rattle.grid.specs.Rows.{bad_cell}
use Rattle.grid.proofs.Packed.{cell_drops, cell_rises}
use Rattle.grid.proofs.cells.bad_cell.Goals as goal

pub returns-then-n3-n2 : goal.returns-then-n3-n2
returns-then-n3-n2 c = let a = c.args in
    let v0 = c.node_at-n0.ensures.value in
    let v1 = c.node_at-n1.ensures.value in
    let v2 = c.node_at-n2.ensures.value in
    let v3 = c.node_at-n3.ensures.value in
    let h : bad_cell a.cells.now a.c ≡ true = elim c.if-n3-n2.either [
      | inl p ↦ cell_drops a.cells.now a.c 0 (omega arith) (omega arith)
      | inr q ↦ elim q [
        | inl p ↦ cell_drops a.cells.now a.c 1 (omega arith) (omega arith)
        | inr p ↦ cell_drops a.cells.now a.c 2 (omega arith) (omega arith)
      ]
    ] in
    cc

pub returns-else-n3-n2 : goal.returns-else-n3-n2
returns-else-n3-n2 c = let a = c.args in
    let rising : (i : ℕ) → i < 3 → node a.cells.now a.c i < node a.cells.now a.c (i + 1) =
    below_three (λ i. node a.cells.now a.c i < node a.cells.now a.c (i + 1))
    (omega (arith, c.node_at-n0.ensures.value, c.node_at-n1.ensures.value))
    (omega (arith, c.node_at-n1.ensures.value, c.node_at-n2.ensures.value))
    (omega (arith, c.node_at-n2.ensures.value, c.node_at-n3.ensures.value)) in
    rw c.node_at-n3.ensures.value (sym (cell_rises a.cells.now a.c rising))
