use Rattle.split.proofs.Putting.{put_stored}
use Rattle.split.proofs.put.Goals as goal

pub returns : goal.returns
returns c = let a = c.args in
    let p = c.requires in
    let W = c.write_part.ensures in
    put_stored p.starts_near a.only a.at p.only_in_bounds W.0 W.1
