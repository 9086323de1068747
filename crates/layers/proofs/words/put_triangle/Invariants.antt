use mathlib.Core.Path.{◌≡◌}
use lib.Seq.{sets}
use Rattle.counting.specs.Lists.{values}
use Rattle.layers.specs.work.Work.{table_over, word_before}
use Rattle.layers.proofs.Namings.{put}
use Rattle.layers.proofs.words.put_triangle.Given as goal

abbrev pub invariant-loop-j : goal.invariant-loop-j
invariant-loop-j l = (l.f ≡ word_before l.initial.area l.at l.j) × (l.area ≡ sets l.initial.area l.at (values (put (table_over l.names l.over l.from) l.initial.area l.at) l.j))
