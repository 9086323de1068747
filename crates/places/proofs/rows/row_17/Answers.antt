use mathlib.Core.Path.{◌∙◌, ◌≡◌, ap, refl, sym}
use native.Mathlib.Omega.{arith}
use lib.ListN.{length}
use Rattle.counting.proofs.Search.{found_first}
use Rattle.grid.specs.Grid.{start}
use Rattle.grid.proofs.Crossings.{start_next, start_zero}
use Rattle.places.proofs.Fractions.{start_fits, fault_found, fine_on, fine_none, fine_end}
use Rattle.places.proofs.rows.row_17.Goals as goal

pub loop-n-init : goal.loop-n-init
loop-n-init c = record { at = sym (start_zero _); fine = fine_none _ _ }

pub bad_on_edge-requires : goal.bad_on_edge-requires
bad_on_edge-requires c = let a = c.args in let l = c.loop-n in omega (arith, l.invariant.at, c.requires, start_fits a.counts.now l.n-index (omega arith))

pub overflow_add-result : goal.overflow_add-result
overflow_add-result c = let a = c.args in let l = c.loop-n in omega (arith, l.invariant.at, c.requires, start_fits a.counts.now l.n-index (omega arith), (found_first _ _ _ (sym c.in-Some.is ∙ c.bad_on_edge.ensures)).1)

pub returns-in-Some : goal.returns-in-Some
returns-in-Some c = let a = c.args in let l = c.loop-n in fault_found a.counts.now a.fractions.now l.n-index (omega arith) l.g _ l.invariant.at refl l.invariant.fine _ (sym c.in-Some.is ∙ c.bad_on_edge.ensures)

pub overflow_add-g : goal.overflow_add-g
overflow_add-g c = let a = c.args in let l = c.loop-n in omega (arith, l.invariant.at, c.requires, start_fits a.counts.now l.n-index (omega arith))

pub loop-n-preserved : goal.loop-n-preserved
loop-n-preserved c = let a = c.args in let l = c.loop-n in record {
  at = omega (arith, l.invariant.at, start_next a.counts.now l.n-index);
  fine = fine_on a.counts.now a.fractions.now l.n-index (omega arith) l.g _ l.invariant.at refl l.invariant.fine (sym c.in_default.is ∙ c.bad_on_edge.ensures);
}

pub returns : goal.returns
returns c = let a = c.args in let l = c.loop-n in let e : l.n-index ≡ length a.counts.now = omega arith in fine_end a.counts.now a.fractions.now l.g (l.invariant.at ∙ ap (start a.counts.now) e) l.invariant.fine
