use mathlib.Core.Path.{◌∙◌, ap}
use native.Mathlib.Omega.{arith}
use Rattle.layers.specs.work.Work.{lacking_in}
use Rattle.layers.proofs.Calls.{lacks, lacks_none}
use Rattle.layers.proofs.lacking.Goals as goal

pub overflow_mul-most : goal.overflow_mul-most
overflow_mul-most c = omega (arith, c.requires.1)

pub returns-then-most-room : goal.returns-then-most-room
returns-then-most-room c = lacks_none c.args.room _ (omega (arith, c.requires.0))

pub overflow_mul-d : goal.overflow_mul-d
overflow_mul-d c = omega (arith, c.draw-d.ensures.triangles_value.2)

pub returns-then-room-d : goal.returns-then-room-d
returns-then-room-d c = let e = c.draw-d.ensures.triangles_value.0 in
    lacks c.args.room _ c.if-room-d.true ∙ ap (lacking_in c.args.room) e

pub returns-else-room-d : goal.returns-else-room-d
returns-else-room-d c = lacks_none c.args.room _ (omega (arith, c.draw-d.ensures.triangles_value.0))
