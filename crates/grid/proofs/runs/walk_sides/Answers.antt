use mathlib.Core.Path.{refl}
use native.Mathlib.Omega.{arith}
use Rattle.grid.proofs.Laying.{along_end, along_less, along_lt, along_more, along_puttable, along_start}
use Rattle.grid.proofs.runs.walk_sides.Goals as goal

pub loop-j-init : goal.loop-j-init
loop-j-init g c = along_start _ refl

pub put_sides-requires : goal.put_sides-requires
put_sides-requires g c = along_puttable c.loop-j.invariant (omega arith) c.requires

pub offset_bounds-chain-c : goal.offset_bounds-chain-c
offset_bounds-chain-c g c = omega (arith, along_lt c.loop-j.invariant (omega arith) c.requires, c.well_formed)

pub bounds-chain-c : goal.bounds-chain-c
bounds-chain-c g c = omega (arith, along_lt c.loop-j.invariant (omega arith) c.requires, c.well_formed)

pub loop-j-smaller : goal.loop-j-smaller
loop-j-smaller g c = omega (arith, along_less c.loop-j.invariant (omega arith) c.requires)

pub loop-j-preserved : goal.loop-j-preserved
loop-j-preserved g c = along_more c.loop-j.invariant (omega arith) c.put_sides.ensures _ refl

pub returns : goal.returns
returns g c = along_end c.loop-j.invariant (omega arith)
