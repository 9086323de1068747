use mathlib.Core.Logic.{inl, inr}
use mathlib.Core.Path.{◌≡◌, refl, sym}
use mathlib.Core.Bool.{false}
use Rattle.grid.specs.work.Work.{again_at}
use Rattle.grid.proofs.Again.{again_across, again_later, again_other}
use Rattle.grid.proofs.cells.again.Goals as goal

pub returns-then-d-c : goal.returns-then-d-c
returns-then-d-c c = again_across _ _ c.requires.neighbours _ c.requires.c_bound refl c.if-d-c.true.0 c.if-d-c.true.1 _ (rw (c.node_at.ensures.value, c.node_at-then-d-c.ensures.value))

pub returns-else-d-c : goal.returns-else-d-c
returns-else-d-c c = let a = c.args in
    let p = c.requires in
    let h : again_at a.cells.now a.near.now a.c ≡ false = elim c.if-d-c.either [
      | inl q ↦ sym (again_later _ _ p.neighbours _ p.c_bound refl q.1)
      | inr n ↦ sym (again_other _ _ p.neighbours _ p.c_bound refl n)
    ] in
    cc
