use mathlib.Core.Path.{◌≡◌, ◌∙◌}
use native.Mathlib.Omega.{arith}
use Rattle.counting.proofs.Search.{found_ext}
use Rattle.trees.specs.work.Trees.{Tops}
use Rattle.bundle.specs.work.Looked.{block_looks, look_branches, block_key, KeysMarked}
use Rattle.trees.proofs.Trees.{top_le, top_self}
use Rattle.trees.proofs.Planted.{planted_all}
use Rattle.bundle.proofs.Looked.{unset, unmarked_stray}
use Rattle.bundle.proofs.looks.stray_in.Goals as goal
use Rattle.bundle.proofs.looks.stray_in.Goals.{After-plant-forest, After-mark}

-- all the looks of the block are planted
all : (c : After-plant-forest) → c.plant-forest.result.count ≡ c.args.block.now.count
all c =
    let few = c.args.block.now.few in
    c.plant-forest.ensures.count ∙ planted_all look_branches _ _ (omega arith) (omega (arith, few)) (omega (arith, few)) _ (omega (arith, few))

tops : (c : After-plant-forest) → let b = c.args.block.now in Tops (block_key b.of.bytes.now b.first) b.count 0 c.plant-forest.new.tops
tops c = rw (all c) at c.plant-forest.ensures.key_tops.tops_are

marked : (c : After-mark) → let b = c.args.block.now in KeysMarked b.of.bytes.now b.first b.count c.mark.new.met
marked c = rw (c.plant-forest.ensures.keys, all (goal.at.After-mark c).After-plant-forest) at c.mark.ensures

pub mark-requires : goal.mark-requires
mark-requires c = record { room = omega (arith, all (goal.at.mark-requires c).After-plant-forest, c.args.block.now.few); blank = unset block_looks }

pub unmet-requires : goal.unmet-requires
unmet-requires c =
    let t = tops (goal.at.unmet-requires c).After-plant-forest in
    let b = c.args.block.now in
    let key = block_key b.of.bytes.now b.first in
    record {
      all = t.room;
      some = λ i h. omega (arith, t.at i (omega arith) h, top_self key b.count i h);
      room = λ i h. omega (arith, t.at i (omega arith) h, top_le key b.count (key i), (marked (goal.at.unmet-requires c).After-mark).room);
    }

pub returns : goal.returns
returns c =
    let k = goal.at.returns c in
    let b = c.args.block.now in
    c.unmet.ensures ∙ found_ext _ _ _ (λ j h. unmarked_stray _ b.of.lent.bytes _ _ (omega (arith, b.within, b.of.lent.all)) _ _ (tops k.After-plant-forest) (marked k.After-mark) j h)
