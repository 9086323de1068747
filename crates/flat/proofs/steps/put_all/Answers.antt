use Prim.Native.Nat.{ℕ, ◌*◌}
use mathlib.Core.Path.{◌∙◌, ◌≡◌, ap}
use native.Mathlib.Omega.{arith}
use lib.ListN.{length}
use Rattle.counting.specs.Stored.{filled}
use Rattle.counting.proofs.Stored.{length_filled}
use Rattle.grid.specs.Grid.{start}
use Rattle.flat.specs.work.Work.{dart_step}
use Rattle.flat.proofs.Tables.{all_more, all_none, all_skip}
use Rattle.flat.proofs.steps.put_all.Goals as goal

pub loop-e-init : goal.loop-e-init
loop-e-init c = all_none _ _ _ _

pub loop-e-preserved-then-tables-e-eq0 : goal.loop-e-preserved-then-tables-e-eq0
loop-e-preserved-then-tables-e-eq0 c = all_skip _ _ _ _ _ _ c.loop-e.invariant c.if-tables-e-eq0.true

pub put_edge-requires : goal.put_edge-requires
put_edge-requires c = let P = c.requires in
    let A = c.args in
    let L = c.loop-e in
    record { darts_value = P.darts_value; e_in_bounds = omega arith; darts_in_bounds = omega (arith, P.darts_in_bounds, ap length L.invariant, length_filled (dart_step A.tables.counts.now A.tables.sides.now (length A.tables.sides.now)) (2 * start A.tables.counts.now L.e) A.next.now) }

pub loop-e-preserved : goal.loop-e-preserved
loop-e-preserved c = let c-loop = c.loop-e in
    all_more _ _ _ _ _ _ _ c-loop.invariant c.put_edge.ensures

pub returns : goal.returns
returns c = let A = c.args in
    let L = c.loop-e in
    let q : L.e ≡ length A.tables.counts.now = omega arith in
    let z : 2 * start A.tables.counts.now L.e ≡ A.darts = omega (arith, ap (start A.tables.counts.now) q, c.requires.darts_value) in
    L.invariant ∙ ap (λ (k : ℕ). filled (dart_step A.tables.counts.now A.tables.sides.now (length A.tables.sides.now)) k A.next.now) z
