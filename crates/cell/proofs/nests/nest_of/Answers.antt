use mathlib.Core.Path.{refl, sym, ◌∙◌}
use Rattle.cell.proofs.Nesting.{none_by_sums, none_by_level, edge_by}
use Rattle.cell.proofs.nests.nest_of.Goals as goal

pub above_of-requires : goal.above_of-requires
above_of-requires c = (c.pair_of.ensures.1, c.pair_of-2.ensures.1, c.pair_of-3.ensures.1)

pub returns-in_err-e : goal.returns-in_err-e
returns-in_err-e c = rw c.from_residual.ensures (sym (none_by_sums c.args.c c.taken_of-six.ensures c.pair_of.ensures.0 c.pair_of-2.ensures.0 c.pair_of-3.ensures.0 refl c.in_err-e.ensures))

pub nest_on-requires : goal.nest_on-requires
nest_on-requires c = record {
  six_are = c.taken_of-six.ensures;
  edge_is = edge_by c.args.c c.taken_of-six.ensures c.pair_of.ensures.0 c.pair_of-2.ensures.0 c.pair_of-3.ensures.0 c.in_ok-e.ensures.0 (sym c.is_level.ensures ∙ c.if-is_level.true);
  edge_lt = c.in_ok-e.ensures.1;
}

pub returns-then-is_level : goal.returns-then-is_level
returns-then-is_level c = c.nest_on.ensures

pub returns : goal.returns
returns c = sym (none_by_level c.args.c c.taken_of-six.ensures c.pair_of.ensures.0 c.pair_of-2.ensures.0 c.pair_of-3.ensures.0 refl (sym c.is_level.ensures ∙ c.if-is_level.false))
