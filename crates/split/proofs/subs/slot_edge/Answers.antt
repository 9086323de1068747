use native.Mathlib.Omega.{arith}
use mathlib.Core.Path.{refl, ap₂, ◌∙◌}
use Rattle.cell.specs.Nodes.{joining}
use Rattle.split.proofs.Ends.{at_rank, slot_joins, slot_differs}
use Rattle.split.proofs.subs.slot_edge.Goals as goal

pub joining_of-requires : goal.joining_of-requires
joining_of-requires c = let p = c.requires in
    let a = c.position-a.ensures in
    let b = c.position-b.ensures in
    let x = at_rank _ a.0 refl c.lower_end.ensures in
    let y = at_rank _ b.0 refl c.upper_end.ensures in
    (a.1, b.1, λ e. omega (arith, x, y, slot_differs _ _ p.0 p.1))

pub returns : goal.returns
returns c = let p = c.requires in
    let a = c.position-a.ensures in
    let b = c.position-b.ensures in
    let x = at_rank _ a.0 refl c.lower_end.ensures in
    let y = at_rank _ b.0 refl c.upper_end.ensures in
    let j = c.joining_of.ensures in
    (j.0 ∙ ap₂ joining x y ∙ slot_joins _ _ p.0 p.1, j.1)
