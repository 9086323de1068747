use Prim.Native.Nat.{◌+◌, ◌*◌}
use Rattle.counting.specs.work.Stored.{Stored}
use Rattle.cell.specs.Words.{word_count}
use Rattle.layers.specs.work.Work.{triangles_over, table_over}
use Rattle.layers.proofs.words.put_over.Given as goal

abbrev pub invariant-loop-t : goal.invariant-loop-t
invariant-loop-t l = Stored l.initial.area l.at (triangles_over (table_over l.names l.over l.from) l.initial.area l.at l.t) l.area (l.at + word_count * l.t)
