use Prim.Native.Nat.{◌+◌, ◌-◌, ◌*◌, ◌%◌, ◌<◌}
use mathlib.Core.Path.{refl, sym, ◌∙◌}
use native.Mathlib.Omega.{arith}
use lib.ListN.{length}
use Rattle.trees.specs.work.Trees.{trees}
use Rattle.trees.proofs.Trees.{descending_start, descending_end, descending_le, descending_hit, descending_room, descending_more}
use Rattle.trees.proofs.planting.seek.Goals as goal
use Rattle.trees.proofs.planting.seek.Goals.{Else-key}

-- the branch is within the links
room : (g : _) (c : Else-key g) → trees + g.row.B * (c.loop-j.j - 1) + c.loop-j.rest % g.row.B < length c.args.links.now
room g c = descending_room _ c.requires.some _ _ _ _ c.requires.tree _ _ _ _ c.loop-j.invariant c.loop-j-test.true

pub loop-j-init : goal.loop-j-init
loop-j-init g c = descending_start _ c.requires.some _ _ _ _ c.requires.tree _ _ refl

pub key-requires : goal.key-requires
key-requires g c = omega (arith, descending_le _ c.requires.some _ _ _ _ c.requires.tree _ _ _ _ c.loop-j.invariant c.loop-j-test.true)

pub returns-then-key : goal.returns-then-key
returns-then-key g c = descending_hit _ c.requires.some _ _ _ _ c.requires.tree _ _ _ _ c.loop-j.invariant c.loop-j-test.true (sym c.key.ensures ∙ c.if-key.true)

pub overflow_mul-at : goal.overflow_mul-at
overflow_mul-at g c = omega (arith, room g (goal.at.overflow_mul-at g c).Else-key)

pub overflow_add-at : goal.overflow_add-at
overflow_add-at g c = omega (arith, room g (goal.at.overflow_add-at g c).Else-key)

pub overflow_add-at-in-loop-j : goal.overflow_add-at-in-loop-j
overflow_add-at-in-loop-j g c = omega (arith, room g (goal.at.overflow_add-at-in-loop-j g c).Else-key)

pub offset_bounds-links-at-in-loop-j : goal.offset_bounds-links-at-in-loop-j
offset_bounds-links-at-in-loop-j g c = omega (arith, room g (goal.at.offset_bounds-links-at-in-loop-j g c).Else-key)

pub bounds-links-at-in-loop-j : goal.bounds-links-at-in-loop-j
bounds-links-at-in-loop-j g c = room g (goal.at.bounds-links-at-in-loop-j g c).Else-key

pub loop-j-preserved : goal.loop-j-preserved
loop-j-preserved g c = descending_more _ c.requires.some _ _ _ _ c.requires.tree _ _ _ _ c.loop-j.invariant c.loop-j-test.true (λ q. c.if-key.false (c.key.ensures ∙ q)) _ refl

pub returns : goal.returns
returns g c = descending_end _ c.requires.some _ _ _ _ c.requires.tree _ _ _ _ c.loop-j.invariant (omega arith)
