use Prim.Native.Nat.{◌-◌}
use native.Mathlib.Omega.{arith}
use borrow.Author.Tests.{le-leb, le-ltb, lt-ltb}
use Rattle.grid.specs.Rows.{bad_edge}
use Rattle.grid.proofs.Sides.{after_key, leb_not}
use Rattle.grid.proofs.edges.bad_edge.Goals as goal

pub returns-then-edges-e : goal.returns-then-edges-e
unfolding bad_edge
returns-then-edges-e c = rw (le-leb _ _ c.if-edges-e.true, le-ltb _ _ c.if-edges-e.true)

pub returns-then-e-gt0 : goal.returns-then-e-gt0
unfolding bad_edge
returns-then-e-gt0 c = let a = c.args in
    rw (
      lt-ltb _ _ c.if-edges-e.false,
      lt-ltb _ _ c.if-e-gt0.true,
      after_key a.edges.now (λ i. omega (arith, c.type_inv.edges i)) (a.e - 1) a.e,
      ← c.edge_key.ensures,
      ← c.edge_key-then-e-gt0.ensures,
    )
    (leb_not c.edge_key.result c.edge_key-then-e-gt0.result)

pub returns-else-e-gt0 : goal.returns-else-e-gt0
unfolding bad_edge
returns-else-e-gt0 c = rw (lt-ltb _ _ c.if-edges-e.false, le-ltb _ _ c.if-e-gt0.false)
