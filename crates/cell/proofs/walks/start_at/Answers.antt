use native.Mathlib.Omega.{arith}
use mathlib.Core.Path.{◌≡◌, sym, ◌∙◌}
use borrow.Author.Count.{below_more}
use Rattle.cell.proofs.Start.{on-edge, on_last}
use Rattle.cell.proofs.walks.start_at.Goals as goal

pub loop-e-init : goal.loop-e-init
loop-e-init c = λ i l. absurd (omega arith)

pub is_on-requires : goal.is_on-requires
is_on-requires c = record { routed = c.requires.routed; e_bound = omega arith }

pub first_dart-requires : goal.first_dart-requires
first_dart-requires c = record { routed = c.requires.routed; inside = c.requires.p_bound; is = on-edge _ _ c.requires.p_bound _ (omega arith) (sym c.is_on.ensures ∙ c.if-is_on.true) c.loop-e.invariant }

pub returns-then-is_on : goal.returns-then-is_on
returns-then-is_on c = c.first_dart.ensures

pub loop-e-preserved : goal.loop-e-preserved
loop-e-preserved c = below_more _ _ c.loop-e.invariant (sym c.is_on.ensures ∙ c.if-is_on.false)

pub first_dart-requires-2 : goal.first_dart-requires-2
first_dart-requires-2 c = let e : c.loop-e.e ≡ 5 = omega arith in record { routed = c.requires.routed; inside = c.requires.p_bound; is = on_last _ _ c.requires.p_bound (rw e at c.loop-e.invariant) }

pub returns : goal.returns
returns c = c.first_dart-2.ensures
