use mathlib.Core.Path.{sym}
use native.Mathlib.Omega.{arith}
use Rattle.face.specs.claims.Ends.{low, high}
use Rattle.face.proofs.Ends.{edge_counted}
use Rattle.face.proofs.Gaps.{corner_read}
use Rattle.face.proofs.Branches.{answer_off}
use Rattle.face.proofs.face_join.Goals as goal

pub returns-then-x-index : goal.returns-then-x-index
returns-then-x-index c = sym (answer_off _ _ _ _ _ (omega arith))

pub join_on-requires : goal.join_on-requires
join_on-requires c = let d = edge_counted _ _ _ _ _ c.count_of-x.ensures c.if-x-index.false in
    let r = c.corners_of-c.ensures in
    record {
      corners = record {
        edge = d;
        own = c.count_of-x.ensures;
        at_lower = corner_read _ _ _ (low d) r c.lower_end.ensures.0 c.at-p.ensures;
        at_upper = corner_read _ _ _ (high d) r c.upper_end.ensures.0 c.at-q.ensures;
      };
      there = c.if-x-index.false;
    }
