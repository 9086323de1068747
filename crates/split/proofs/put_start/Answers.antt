use mathlib.Core.Path.{refl}
use Rattle.split.proofs.Putting.{start_sound, start_second, start_stored}
use Rattle.split.proofs.put_start.Goals as goal

pub put-requires : goal.put-requires
put-requires c = let W = c.requires.working in
    let e = c.sub_cell.ensures in
    record { starts_near = start_sound W e refl; only_in_bounds = start_second W e refl c.put-i.ensures c.requires.s_in_bounds }

pub returns : goal.returns
returns c = start_stored c.requires.working c.sub_cell.ensures refl c.put-i.ensures c.put.ensures
