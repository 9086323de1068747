use native.Mathlib.Omega.{arith}
use mathlib.Core.Path.{◌≡◌, ◌∙◌}
use Rattle.bundle.specs.work.Looked.{look_branches}
use Rattle.trees.proofs.Planted.{planted_all}
use Rattle.bundle.proofs.looks.replace_in.Goals as goal
use Rattle.bundle.proofs.looks.replace_in.Goals.{After-plant}

-- all the looks of the block are planted
all : (c : After-plant) → c.plant.result.count ≡ c.args.block.now.count
all c =
    let few = c.args.block.now.few in
    c.plant.ensures.count ∙ planted_all look_branches _ _ (omega arith) (omega (arith, few)) (omega (arith, few)) _ (omega (arith, few))

pub put_counts-requires : goal.put_counts-requires
put_counts-requires c = rw c.plant.ensures.keys c.requires

pub returns : goal.returns
returns c = rw (c.plant.ensures.keys, all (goal.at.returns c).After-plant) at c.put_counts.ensures
