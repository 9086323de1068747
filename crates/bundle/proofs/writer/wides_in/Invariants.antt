use Prim.Native.Nat.{ℕ}
use mathlib.Core.Path.{◌≡◌}
use mathlib.Core.List.{List}
use lib.ListN.{get_or}
use Rattle.counting.specs.Search.{count}
use Rattle.bundle.specs.Record.{is_wide}
use Rattle.bundle.proofs.writer.wides_in.Given as goal

-- how many of the first k counts a byte does not hold
abbrev pub among : List ℕ → ℕ → ℕ
among counts k = count (λ i. is_wide (get_or counts i 0)) k

abbrev pub invariant-loop-count : goal.invariant-loop-count
invariant-loop-count l = l.n ≡ among l.counts l.count-index
