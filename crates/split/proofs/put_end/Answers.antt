use mathlib.Core.Path.{refl}
use native.Mathlib.Omega.{arith}
use Rattle.split.proofs.Putting.{end_sound, end_first, last_sound, end_second, end_stored}
use Rattle.split.proofs.put_end.Goals as goal

pub put-i-requires : goal.put-i-requires
put-i-requires c = let p = c.requires in
    let e = c.sub_cell.ensures in
    record { starts_near = end_sound p.working e (omega arith); only_in_bounds = end_first p.working e (omega arith) c.args.at p.s_in_bounds }

pub put-requires : goal.put-requires
put-requires c = let p = c.requires in
    let e = c.sub_cell.ensures in
    let d = c.sub_cell-2.ensures in
    record { starts_near = last_sound p.working e (omega arith) d refl; only_in_bounds = end_second p.working e (omega arith) d refl c.put-i.ensures p.s_in_bounds }

pub returns : goal.returns
returns c = end_stored c.requires.working c.sub_cell.ensures (omega arith) c.sub_cell-2.ensures refl c.put-i.ensures c.put.ensures
