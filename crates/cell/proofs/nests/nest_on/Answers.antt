use native.Mathlib.Omega.{arith}
use Rattle.cell.proofs.Nesting.{on_count, on_low}
use Rattle.cell.proofs.nests.nest_on.Goals as goal

pub count_on-m-requires : goal.count_on-m-requires
count_on-m-requires c = c.requires.edge_lt

pub corner_on-own-requires : goal.corner_on-own-requires
corner_on-own-requires c = c.requires.edge_lt

pub start_of-start-requires : goal.start_of-start-requires
start_of-start-requires c = omega (arith, c.requires.edge_lt)

pub overflow_cast-result : goal.overflow_cast-result
overflow_cast-result c = omega (arith, c.count_on-m.ensures.1)

pub overflow_add-result : goal.overflow_add-result
overflow_add-result c = omega (arith, c.corner_on-own.ensures.1, c.count_on-m.ensures.1)

pub overflow_add-result-2 : goal.overflow_add-result-2
overflow_add-result-2 c = omega (arith, c.corner_on-own.ensures.1, c.count_on-m.ensures.1)

pub returns : goal.returns
returns c = record {
  edge_is = c.requires.edge_is;
  edge_lt = c.requires.edge_lt;
  count_is = on_count c.requires c.count_on-m.ensures.0;
  low_is = on_low c.requires c.start_of-start.ensures c.corner_on-own.ensures.0 c.count_on-m.ensures.0;
  few = c.count_on-m.ensures.1;
}
