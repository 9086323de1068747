use Rattle.std.proofs.Common.{◌≡◌, ◌+◌, ◌*◌, get_or, ap, ◌∙◌, arith}
use lib.Ieee.{nan}
use Rattle.place.specs.Place.{coordinates}
use Rattle.place.proofs.load.Goals as goal

pub returns-then-list-k : goal.returns-then-list-k
returns-then-list-k c = let a = c.args in let z : coordinates * a.k + 0 ≡ coordinates * a.k = omega arith in rw (c.number.ensures ∙ ap (λ i. get_or a.list.now i nan) z, c.number-then-list-k.ensures, c.number-then-list-k-2.ensures)
