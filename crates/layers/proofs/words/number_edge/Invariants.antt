use Prim.Native.Nat.{◌+◌}
use mathlib.Core.Path.{◌≡◌}
use lib.Seq.{sets}
use Rattle.counting.specs.Lists.{values}
use Rattle.layers.proofs.words.number_edge.Given as goal

abbrev pub invariant-loop-i : goal.invariant-loop-i
invariant-loop-i l = l.over ≡ sets l.initial.over l.own (values (λ k. l.first + k) l.i)
