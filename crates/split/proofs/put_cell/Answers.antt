use Prim.Native.Nat.{◌<◌}
use mathlib.Core.Path.{refl, sym}
use native.Mathlib.Omega.{arith}
use Rattle.counting.proofs.Stored.{stored_as}
use Rattle.split.proofs.OneCell.{drawn_placed, words_whole, whole_room, drawn-parts, drawn_left, parts_room}
use Rattle.split.proofs.put_cell.Goals as goal

pub put-requires : goal.put-requires
put-requires c = let p = c.requires in record { starts_near = drawn_placed p.drawable; only_in_bounds = whole_room p.drawable c.args.at c.if-splits-eq0.true p.c_in_bounds }

pub returns-then-splits-eq0 : goal.returns-then-splits-eq0
returns-then-splits-eq0 c = stored_as c.put.ensures (words_whole c.requires.drawable c.if-splits-eq0.true) refl

pub split_in-requires : goal.split_in-requires
split_in-requires c = let p = c.requires in
    let h : 0 < c.args.splits = omega (arith, c.if-splits-eq0.false) in
    rw c.of.ensures (record { splits_left = drawn_left p.drawable h; c_in_bounds = parts_room p.drawable h c.args.at p.c_in_bounds })

pub returns : goal.returns
returns c = let h : 0 < c.args.splits = omega (arith, c.if-splits-eq0.false) in
    stored_as (rw c.of.ensures at c.split_in.ensures) (sym (drawn-parts c.requires.drawable h)) refl
