use mathlib.Core.Path.{sym, ap, ◌∙◌, subst}
use Rattle.cell.specs.Of.{edges_of}
use Rattle.cell.specs.work.Route.{limited, Near}
use Rattle.cell.specs.Loop.{loop_answer}
use Rattle.cell.proofs.Using.{limited_near}
use borrow.Author.Rules.{rules}
use Rattle.cell.proofs.loop_at.Goals as goal

pub loop_in-requires : goal.loop_in-requires
loop_in-requires c = record { near = subst Near (sym c.within-v.ensures) (limited_near _); all = search rules; few = search rules; long = search rules }

pub returns-then-n-le-FEW_IN_CELL : goal.returns-then-n-le-FEW_IN_CELL
unfolding limited
returns-then-n-le-FEW_IN_CELL c = c.loop_in.ensures.result_value ∙ ap (λ v. loop_answer (edges_of v) v.nodes c.args.k) c.within-v.ensures

pub loop_in-requires-2 : goal.loop_in-requires-2
loop_in-requires-2 c = record { near = subst Near (sym c.within-v.ensures) (limited_near _); all = search rules; few = search rules; long = search rules }

pub returns : goal.returns
unfolding limited
returns c = c.loop_in-2.ensures.result_value ∙ ap (λ v. loop_answer (edges_of v) v.nodes c.args.k) c.within-v.ensures
