use mathlib.Core.Path.{refl}
use native.Mathlib.Omega.{arith}
use Rattle.grid.proofs.Places.{walking_end, walking_less, walking_lt, walking_more, walking_ready, walking_start}
use Rattle.grid.proofs.numbering.walk.Goals as goal

pub loop-j-init : goal.loop-j-init
loop-j-init g c = walking_start _ refl

pub numbers-m-requires : goal.numbers-m-requires
numbers-m-requires g c = let p = c.requires in record { from_le_to = p.ordered; to_bound = p.slots; ready = walking_ready c.loop-j.invariant (omega arith) p }

pub offset_bounds-chain-c : goal.offset_bounds-chain-c
offset_bounds-chain-c g c = omega (arith, walking_lt c.loop-j.invariant (omega arith) c.requires, c.well_formed)

pub bounds-chain-c : goal.bounds-chain-c
bounds-chain-c g c = omega (arith, walking_lt c.loop-j.invariant (omega arith) c.requires, c.well_formed)

pub loop-j-smaller : goal.loop-j-smaller
loop-j-smaller g c = omega (arith, walking_less c.loop-j.invariant (omega arith) c.requires)

pub loop-j-preserved : goal.loop-j-preserved
loop-j-preserved g c = walking_more c.loop-j.invariant (omega arith) c.numbers-m.ensures _ refl

pub returns : goal.returns
returns g c = walking_end c.loop-j.invariant (omega arith)
