use Rattle.std.proofs.Common.{arith}
use Rattle.nearest.specs.Answer.{nearest_number}
use Rattle.nearest.proofs.Least.{reached_one, run_more, run_end, distance_is}
use Rattle.nearest.proofs.nearest_of.Goals as goal

pub loop-k-init : goal.loop-k-init
loop-k-init c = record { reached = reached_one _ (distance_is _ _ _ c.load.ensures c.squared_distance-least.ensures); inside = omega arith }

pub loop-k-preserved : goal.loop-k-preserved
loop-k-preserved c =
    let (from, listed, nearer, none) = c.in-Some.ensures in
    record {
      reached = run_more _ c.loop-k.invariant.reached from none nearer (distance_is _ _ _ c.load-in-Some.ensures c.squared_distance-least-in-Some.ensures);
      inside = omega (arith, listed);
    }

pub returns : goal.returns
unfolding nearest_number
returns c = run_end _ c.loop-k.invariant.reached (omega (arith, c.loop-k.invariant.inside)) c.in_default.ensures
