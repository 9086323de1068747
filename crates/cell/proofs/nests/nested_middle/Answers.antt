use native.Mathlib.Omega.{arith}
use Rattle.cell.proofs.Nesting.{nested_by}
use Rattle.cell.proofs.nests.nested_middle.Goals as goal

pub half_along-a-requires : goal.half_along-a-requires
half_along-a-requires c = omega (arith, c.requires)

pub overflow_cast-i : goal.overflow_cast-i
overflow_cast-i c = omega (arith, c.saturating_sub-i.ensures, c.highest_on.ensures.1)

pub returns : goal.returns
returns c = let a = c.args in
    nested_by a.c a.q a.nodes.now a.halves.now a.points.now c.interpolate.ensures c.half_along-a.ensures c.half_along-b.ensures c.part_of.ensures c.saturating_sub-i.ensures c.highest_on.ensures.0
