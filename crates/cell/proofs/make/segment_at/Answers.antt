use native.Mathlib.Omega.{arith}
use Prim.Native.Nat.{◌/◌, min}
use mathlib.Core.Path.{ap, ◌∙◌}
use lib.ListN.{get_or}
use Rattle.cell.specs.declared.Side.TheVariants.{Segment}
use Rattle.cell.specs.work.Traced.{segment_at}
use Rattle.cell.proofs.make.segment_at.Goals as goal

pub bounds-names-s : goal.bounds-names-s
bounds-names-s c = omega (arith, c.requires.recorded_loop.halves_are c.args.k c.requires.k_lt_n)

pub returns : goal.returns
unfolding segment_at
returns c = let A = c.args in
    let low = c.min.ensures ∙ ap (λ j. min (get_or A.points.now A.k 0) (get_or A.points.now j 0)) c.after_of-j.ensures.0 in
    ap (Segment (get_or A.names (get_or A.halves.now A.k 0 / 3) 0)) low
