use native.Mathlib.Omega.{arith}
use Prim.Native.Nat.{ℕ}
use mathlib.Core.Path.{◌≡◌, refl, sym, ◌∙◌, subst}
use Rattle.cell.specs.declared.Cell.{Cell}
use Rattle.std.proofs.Common.{Option}
use Rattle.cell.specs.declared.Triangle.{Triangle}
use Rattle.cell.specs.work.Route.{Near}
use Rattle.cell.specs.work.Nth.{nth_of, nth_numbers, nth_answer}
use Rattle.cell.specs.Triangles.{cell_triangles}
use Rattle.cell.proofs.Using.{filled_same, limited_near}
use Rattle.cell.proofs.Going.{going_start, going_in, going_lent, going_more, going_looped, going_part}
use Rattle.cell.proofs.LoopTriangles.{traced_entry}
use Rattle.cell.proofs.Taken.{two_four}
use Rattle.cell.proofs.Holding.{looped_traced, looped_four, looped_loop, looped_many}
use Rattle.cell.proofs.Cells.{seeking_none, seeking_more, triangle_off, triangle_here}
use Rattle.cell.proofs.triangles.triangle_at.Goals as goal

-- what is found in a cell with its starts within the limit
as_limited : (t : ℕ) {v w : Cell} {r : Option Triangle} → v ≡ w → (r ≡ nth_of (cell_triangles v) t) × (nth_numbers r ≡ nth_answer (cell_triangles v) t)
    → (r ≡ nth_of (cell_triangles w) t) × (nth_numbers r ≡ nth_answer (cell_triangles w) t)
as_limited t {v} {w} {r} e h = subst (λ x. (r ≡ nth_of (cell_triangles x) t) × (nth_numbers r ≡ nth_answer (cell_triangles x) t)) e h

pub routes_of-routes-requires : goal.routes_of-routes-requires
routes_of-routes-requires c = subst Near (sym c.within-v.ensures) (limited_near _)

pub slice_bounds-clear-end : goal.slice_bounds-clear-end
slice_bounds-clear-end c = refl

pub clear-requires : goal.clear-requires
clear-requires c = c.crossings_of-n.ensures.1

pub loop-p-init : goal.loop-p-init
loop-p-init c = (going_start _ c.crossings_of-n.ensures c.routes_of-routes.ensures (record { marks_long = c.crossings_of-n.ensures.1; halves_long = c.crossings_of-n.ensures.1; points_long = c.crossings_of-n.ensures.1 }) c.clear.ensures, seeking_none _ _)

pub slice_bounds-walk-end : goal.slice_bounds-walk-end
slice_bounds-walk-end c = sym (c.loop-p.invariant.0.used.marks_kept.long ∙ filled_same _ _ _ c.clear.ensures)

pub slice_bounds-walk-end-in-loop-p : goal.slice_bounds-walk-end-in-loop-p
slice_bounds-walk-end-in-loop-p c = sym c.loop-p.invariant.0.used.halves_kept.long

pub slice_bounds-walk-end-in-loop-p-2 : goal.slice_bounds-walk-end-in-loop-p-2
slice_bounds-walk-end-in-loop-p-2 c = sym c.loop-p.invariant.0.used.points_kept.long

pub walk-w-requires : goal.walk-w-requires
walk-w-requires c = going_lent c.loop-p.invariant.0 (omega arith)

pub many-k-requires : goal.many-k-requires
many-k-requires c = two_four _ _ _ c.in_two-two.ensures

pub slice_bounds-triangle_of-end : goal.slice_bounds-triangle_of-end
slice_bounds-triangle_of-end c = (going_part c.loop-p.invariant.0 (omega arith) c.walk-w.ensures).0

pub slice_bounds-triangle_of-end-then-left-k : goal.slice_bounds-triangle_of-end-then-left-k
slice_bounds-triangle_of-end-then-left-k c = (going_part c.loop-p.invariant.0 (omega arith) c.walk-w.ensures).1

pub triangle_of-requires : goal.triangle_of-requires
triangle_of-requires c = let L = going_looped c.loop-p.invariant.0 (omega arith) c.walk-w.ensures in record { recorded_loop = looped_traced L; n_value = looped_four L c.in_two-two.ensures; k_bound = omega (arith, c.many-k.ensures) }

pub returns-then-left-k : goal.returns-then-left-k
returns-then-left-k c = let L = going_looped c.loop-p.invariant.0 (omega arith) c.walk-w.ensures in as_limited c.args.t c.within-v.ensures (triangle_here _ c.loop-p.invariant.1 (going_in c.loop-p.invariant.0 (omega arith)) _ (looped_loop L c.in_two-two.ensures) (omega (arith, looped_many L c.in_two-two.ensures, c.many-k.ensures)) (traced_entry _ _ _ _ _ _ (omega (arith, c.many-k.ensures)) c.triangle_of.ensures))

pub loop-p-preserved : goal.loop-p-preserved
loop-p-preserved c = (going_more c.loop-p.invariant.0 (omega arith) c.walk-w.ensures, seeking_more _ c.loop-p.invariant.1 _ (c.many-k.ensures ∙ looped_many (going_looped c.loop-p.invariant.0 (omega arith) c.walk-w.ensures) c.in_two-two.ensures) (omega arith))

pub returns : goal.returns
returns c = as_limited c.args.t c.within-v.ensures (triangle_off _ c.loop-p.invariant.1 (omega (arith, c.loop-p.invariant.0.up, c.loop-p.invariant.0.all)))
