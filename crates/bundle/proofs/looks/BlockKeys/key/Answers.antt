use Prim.Native.Nat.{◌+◌}
use mathlib.Core.Path.{sym, ◌∙◌}
use native.Mathlib.Omega.{arith}
use Rattle.trees.proofs.Planted.{key_there, key_beyond}
use Rattle.bundle.specs.work.Looked.{block_key}
use Rattle.bundle.proofs.Looked.{look_there, look_keyed}
use Rattle.bundle.proofs.looks.BlockKeys.key.Goals as goal

pub returns-then-self-place : goal.returns-then-self-place
returns-then-self-place c = let b = c.args.self.now in sym (key_beyond (block_key b.of.bytes.now b.first) b.count c.args.place c.if-self-place.true)

pub overflow_add-self : goal.overflow_add-self
overflow_add-self c = let b = c.args.self.now in omega (arith, look_there b.of.lent (b.first + c.args.place) (omega (arith, c.if-self-place.false, b.within)))

pub overflow_mul-self : goal.overflow_mul-self
overflow_mul-self c = let b = c.args.self.now in omega (arith, look_there b.of.lent (b.first + c.args.place) (omega (arith, c.if-self-place.false, b.within)))

pub overflow_add-self-2 : goal.overflow_add-self-2
overflow_add-self-2 c = let b = c.args.self.now in omega (arith, look_there b.of.lent (b.first + c.args.place) (omega (arith, c.if-self-place.false, b.within)))

pub key_at-requires : goal.key_at-requires
key_at-requires c = let b = c.args.self.now in omega (arith, look_there b.of.lent (b.first + c.args.place) (omega (arith, c.if-self-place.false, b.within)))

pub returns : goal.returns
returns c =
    let b = c.args.self.now in
    c.key_at.ensures ∙ look_keyed b.of.lent (b.first + c.args.place) (omega (arith, c.if-self-place.false, b.within))
    ∙ sym (key_there (block_key b.of.bytes.now b.first) b.count c.args.place (omega (arith, c.if-self-place.false)))
