use Rattle.face.specs.claims.Ends.{low}
use Rattle.face.proofs.Ends.{edge-of}
use Rattle.face.proofs.Gaps.{corner_read}
use Rattle.flat.proofs.join.lower_corner.Goals as goal

pub returns : goal.returns
returns c = corner_read _ _ _ (low (edge-of _ c.requires)) c.corners_of.ensures c.lower_end.ensures.0 c.at.ensures
