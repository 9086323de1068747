use Rattle.counting.proofs.Fronts.{sets_two}
use lib.ListN.{length-set}
use native.Mathlib.Omega.{arith}
use Rattle.cell.proofs.words.put_two.Goals as goal

pub bounds-area-at-2 : goal.bounds-area-at-2
bounds-area-at-2 c = simp length-set (omega arith)

pub returns : goal.returns
returns c = sets_two c.args.area.now c.args.at c.args.x c.args.y
