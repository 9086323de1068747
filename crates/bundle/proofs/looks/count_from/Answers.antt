use Prim.Native.Nat.{◌+◌, ◌*◌, ◌<◌, ◌≤◌}
use mathlib.Core.Path.{◌∙◌, refl}
use native.Mathlib.Omega.{arith}
use lib.ListN.{length}
use Rattle.bundle.specs.work.Record.{look_size}
use Rattle.bundle.specs.work.Looked.{count_or}
use Rattle.bundle.proofs.Looked.{look_there, look_counted}
use Rattle.bundle.proofs.looks.count_from.Goals as goal
use Rattle.bundle.proofs.looks.count_from.Goals.{In-Some}

-- the look is one of the bytes
within : (c : In-Some) → c.args.block.now.first + c.in-Some.i < c.args.block.now.of.looks
within c = let h = rw c.in-Some.is at c.requires in omega (arith, h, c.args.block.now.within)

there : (c : In-Some) → c.args.block.now.of.base + look_size * (c.args.block.now.first + c.in-Some.i) + look_size ≤ length c.args.block.now.of.bytes.now
there c = look_there c.args.block.now.of.lent _ (within c)

pub overflow_add-block : goal.overflow_add-block
overflow_add-block c = omega (arith, there (goal.at.overflow_add-block c).In-Some)

pub overflow_mul-block : goal.overflow_mul-block
overflow_mul-block c = omega (arith, there (goal.at.overflow_mul-block c).In-Some)

pub overflow_add-block-in-Some : goal.overflow_add-block-in-Some
overflow_add-block-in-Some c = omega (arith, there (goal.at.overflow_add-block-in-Some c).In-Some)

pub overflow_add-block-in-Some-2 : goal.overflow_add-block-in-Some-2
overflow_add-block-in-Some-2 c = omega (arith, there (goal.at.overflow_add-block-in-Some-2 c).In-Some)

pub overflow_add-block-in-Some-3 : goal.overflow_add-block-in-Some-3
overflow_add-block-in-Some-3 c = omega (arith, there (goal.at.overflow_add-block-in-Some-3 c).In-Some)

pub word_at-requires : goal.word_at-requires
word_at-requires c = omega (arith, there (goal.at.word_at-requires c).In-Some)

pub returns-in-Some : goal.returns-in-Some
unfolding count_or
returns-in-Some c = rw c.in-Some.is (c.word_at.ensures ∙ look_counted c.args.block.now.of.lent _ (within (goal.at.returns-in-Some c).In-Some))

pub returns-in-None : goal.returns-in-None
unfolding count_or
returns-in-None c = rw c.in-None.is refl
