use Prim.Native.Nat.{◌-◌}
use mathlib.Core.Path.{ap, ap₂, ◌∙◌}
use lib.ListN.{get_or}
use Rattle.counting.proofs.Lists.{values_at}
use Rattle.cell.specs.Of.{count_of}
use Rattle.split.proofs.Coded.{rest_told}
use Rattle.split.proofs.Spiral.rest_count.Goals as goal

pub returns : goal.returns
returns c = let a = c.args in
    let p = c.requires in
    let n = ap (λ l. get_or l a.e 0) p.e_bound.1 ∙ values_at (count_of a.self.cell) 6 a.e 0 p.e_bound.0 in
    let o = ap (λ k. get_or a.self.own k 0) c.low_end.ensures.0 in
    let u = ap (λ k. get_or a.self.own k 0) c.high_end.ensures.0 in
    c.saturating_sub-2.ensures ∙ ap₂ ◌-◌ (c.saturating_sub.ensures ∙ ap₂ ◌-◌ n o) u ∙ rest_told a.self.spiraling a.e p.e_bound.0
