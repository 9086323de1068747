use Rattle.std.proofs.Common.{◌∙◌}
use Rattle.trees.specs.work.Keys.{earlier_in}
use Rattle.trees.proofs.Planted.{filled_over}
use Rattle.trees.proofs.earlier.put_earlier.Goals as goal

pub returns : goal.returns
returns c = let g = c.grow.ensures.key_tops in c.step.ensures ∙ filled_over (earlier_in c.args.keys.now) _ _ _ g.same c.requires.tops_room g.rest
