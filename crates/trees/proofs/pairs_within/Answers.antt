use Prim.Native.Nat.{ℕ, ◌/◌}
use mathlib.Core.Path.{ap, ◌∙◌}
use native.Mathlib.Omega.{arith}
use lib.ListN.{length, length-replicate}
use Rattle.counting.proofs.Tables.{zeros}
use Rattle.trees.specs.work.Planted.{PairsMarked}
use Rattle.trees.proofs.Planted.{topped, spread_all}
use Rattle.trees.proofs.pairs_within.Goals as goal
use Rattle.trees.proofs.pairs_within.Goals.{After-mark-lowest}

-- all the keys are planted, and marked
marked : (g : _) (c : After-mark-lowest g)
    → PairsMarked c.args.pairs.now (length c.args.pairs.now / 2) c.args.keys.now (length c.args.keys.now) 0 c.args.places.now c.mark-lowest.new.tops c.mark-lowest.new.places
marked g c = let f = c.plant_all-forest.ensures in rw (ap (λ k. k.now) f.keys, f.count) at c.mark-lowest.ensures.pairs_marked

pub plant_all-forest-requires : goal.plant_all-forest-requires
plant_all-forest-requires g c = let p = c.requires in (
  omega arith,
  record { some = omega arith; few = omega (arith, p.tops); room = omega (arith, p.links, length-replicate {A = ℕ}); blank = zeros g.row.LINKS; tops_room = omega (arith, p.tops, length-replicate {A = ℕ}) },
)

pub spread-requires-clause-topped : goal.spread-requires-clause-topped
spread-requires-clause-topped g c = let p = c.requires in
    topped _ _ _ _ _ _ _ (omega (arith, p.tops)) p.places (marked g (goal.at.spread-requires-clause-topped g c).After-mark-lowest)

pub returns-clause-value : goal.returns-clause-value
returns-clause-value g c = let f = c.plant_all-forest.ensures in rw (ap (λ k. k.now) f.keys, f.count) at c.mark-lowest.ensures.value

pub returns-clause-places_after : goal.returns-clause-places_after
returns-clause-places_after g c = let p = c.requires in
    c.spread.ensures ∙ spread_all _ _ _ _ _ _ _ (omega (arith, p.tops)) p.places (marked g (goal.at.returns-clause-places_after g c).After-mark-lowest)
