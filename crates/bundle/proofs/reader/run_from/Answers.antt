use Prim.Native.Nat.{◌+◌}
use Rattle.std.proofs.Common.{arith}
use Rattle.bundle.specs.work.Kinds.{section_number}
use Rattle.bundle.proofs.OneRecord.{stands, next_ge}
use Rattle.bundle.proofs.Runs.{Going, going, on, arrived, of_record, some_next, none_next}
use Rattle.bundle.proofs.reader.run_from.Goals as goal
use Rattle.bundle.proofs.reader.run_from.Goals.{In-Some}

pub loop-next-init : goal.loop-next-init
loop-next-init c = going _ _ _

more : (c : In-Some) → Going c.args.bytes.now c.args.from (section_number c.args.section) c.in-Some.next (c.loop-next.count + 1)
more c = let t = some_next _ _ _ _ c.in-Some.ensures in rw t.1 (on _ _ _ _ _ c.loop-next.invariant t.0)

pub overflow_add-count : goal.overflow_add-count
overflow_add-count c = let m = more c in omega (arith, m.inside)

pub loop-next-smaller : goal.loop-next-smaller
loop-next-smaller c =
    let t = some_next _ _ _ _ c.in-Some.ensures in
    let s = c.args.bytes.now in
    let r = of_record _ _ _ t.0 in
    omega (arith, t.1, next_ge s c.loop-next.at r, (stands s c.loop-next.at r).fits)

pub loop-next-preserved : goal.loop-next-preserved
loop-next-preserved c = more c

pub returns : goal.returns
returns c = let l = c.loop-next.invariant in (arrived _ _ _ _ _ l (none_next _ _ _ c.in_default.ensures), l.reached)
