use Prim.Native.Nat.{ℕ, ◌+◌, ◌≤◌}
use mathlib.Core.Path.{◌≡◌, sym, ap, ◌∙◌}
use mathlib.Core.Bool.{true, false}
use mathlib.Core.List.{List}
use native.Mathlib.Nat.{add-zero}
use native.Mathlib.Omega.{arith}
use lib.ListN.{length}
use Rattle.counting.specs.work.Stored.{Summed}
use Rattle.counting.proofs.Stored.{summed_none, summed_more, summed_all}
use Rattle.cell.specs.work.Limits.{most_in_cell}
use Rattle.cell.specs.Triangles.{cell_triangles}
use Rattle.cell.specs.Level.{by_edge}
use Rattle.cell.specs.work.Table.{is_known, walked_at}
use Rattle.cell.specs.claims.Table.{table_cell, taken_counts}
use Rattle.cell.proofs.Taken.{with_all}
use Rattle.cell.proofs.Using.{used_sized, sized_none, sized_on, sized_room}
use Rattle.cell.proofs.drawing.walked_in_all.Goals as goal

-- a cell that is passed over, and one that is walked
module _ (cells counts names sides starts : List ℕ) {n t : ℕ} (S : Summed (walked_at cells counts names sides starts) most_in_cell n t) where
  passed : is_known (by_edge (taken_counts counts sides n)) ≡ true → Summed (walked_at cells counts names sides starts) most_in_cell (n + 1) t
  unfolding walked_at
  passed e = rw (add-zero t) at (summed_more (walked_at cells counts names sides starts) most_in_cell S 0 (rw e) (omega arith))

  walked : is_known (by_edge (taken_counts counts sides n)) ≡ false → (x : ℕ) → x ≡ length (cell_triangles (table_cell cells counts names sides starts n)) → x ≤ most_in_cell
      → Summed (walked_at cells counts names sides starts) most_in_cell (n + 1) (t + x)
  unfolding walked_at
  walked e x q = summed_more (walked_at cells counts names sides starts) most_in_cell S x (rw e q)

pub loop-c-init : goal.loop-c-init
loop-c-init c = (sized_none _ _ _, summed_none _ _)

pub loop-c-preserved-then-is_known : goal.loop-c-preserved-then-is_known
loop-c-preserved-then-is_known c = let A = c.args in
    let I = c.loop-c.invariant in (
      I.0,
      passed A.tables.cells.now A.tables.counts.now A.tables.names.now A.tables.sides.now A.tables.starts.now I.1
          (ap (λ l. is_known (by_edge l)) (sym c.counts_at.ensures) ∙ sym c.is_known.ensures ∙ c.if-is_known.true),
    )

pub count_in-t-requires : goal.count_in-t-requires
count_in-t-requires c = let A = c.args in
    let L = c.loop-c in
    let x = c.counted_at-x.ensures in
    sized_room L.invariant.0 A.tables.cells.now A.tables.counts.now A.tables.names.now A.tables.sides.now A.tables.starts.now L.c c.requires x.0 x.1 x.2

pub overflow_add-t : goal.overflow_add-t
overflow_add-t c = omega (arith, c.count_in-t.ensures.value.1, c.loop-c.invariant.1.few, c.drawn-n.ensures)

pub loop-c-preserved : goal.loop-c-preserved
loop-c-preserved c = let A = c.args in
    let I = c.loop-c.invariant in
    let N = c.count_in-t.ensures in (
      sized_on I.0 (used_sized N.used),
      walked A.tables.cells.now A.tables.counts.now A.tables.names.now A.tables.sides.now A.tables.starts.now I.1
          (ap (λ l. is_known (by_edge l)) (sym c.counts_at.ensures) ∙ sym c.is_known.ensures ∙ c.if-is_known.false)
          _ (N.value.0 ∙ ap length (with_all _) ∙ ap (λ v. length (cell_triangles v)) c.counted_at-x.ensures.0) N.value.1,
    )

pub shape_of-marks : goal.shape_of-marks
shape_of-marks c = c.loop-c.invariant.0.marks_same

pub shape_of-halves : goal.shape_of-halves
shape_of-halves c = c.loop-c.invariant.0.halves_same

pub shape_of-points : goal.shape_of-points
shape_of-points c = c.loop-c.invariant.0.points_same

pub returns : goal.returns
returns c = let I = c.loop-c.invariant in
    let d = c.drawn-n.ensures in
    record { value = (summed_all _ _ I.1 (omega (arith, d)), omega (arith, I.1.few, d)); sized = I.0 }
