-- What a table of the step holds: of how many crossings it is, and the dart after each.
use Rattle.std.specs.Prelude.{ℕ, ◌/◌, length}
use Rattle.flat.specs.declared.walks.Steps.{Steps}
use Rattle.flat.specs.work.Work.{step_in}

abbrev pub crossings_in : Steps → ℕ
crossings_in t = length t.next.now / 2

abbrev pub along : Steps → ℕ → ℕ
along t = step_in (length t.next.now / 2) t.next.now
