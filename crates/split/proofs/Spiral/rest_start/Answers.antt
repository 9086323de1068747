use native.Mathlib.Omega.{arith}
use Prim.Native.Nat.{◌+◌}
use mathlib.Core.Path.{ap, ◌∙◌}
use lib.ListN.{get_or}
use Rattle.split.proofs.Coded.{from_told, from_fits}
use Rattle.split.proofs.Spiral.rest_start.Goals as goal

pub overflow_add-result : goal.overflow_add-result
overflow_add-result c = let a = c.args in
    let p = c.requires in
    omega (arith, ap (λ k. get_or a.self.own k 0) c.low_end.ensures.0, from_fits a.self.spiraling a.e p.e_bound)

pub returns : goal.returns
returns c = let a = c.args in
    let p = c.requires in
    ap (λ k. get_or a.self.cell.starts a.e 0 + get_or a.self.own k 0) c.low_end.ensures.0 ∙ from_told a.self.spiraling a.e p.e_bound
