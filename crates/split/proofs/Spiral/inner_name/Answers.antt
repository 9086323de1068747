use native.Mathlib.Omega.{arith}
use Prim.Native.Nat.{◌+◌}
use mathlib.Core.Path.{sym, ap, ap₂, ◌∙◌}
use lib.ListN.{get_or}
use Rattle.cell.specs.Nodes.{joining}
use Rattle.split.proofs.Coded.{ends_lt, labels_apart, name_told}
use Rattle.split.proofs.Spiral.inner_name.Goals as goal

pub joining_of-requires : goal.joining_of-requires
joining_of-requires c = let a = c.args in
    let p = c.requires in
    let x = ap (λ k. get_or a.self.label k 0) c.low_end.ensures.0 in
    let y = ap (λ k. get_or a.self.label k 0) c.high_end.ensures.0 in
    let l = ends_lt a.self.spiraling a.e p.e_bound.0 in
    (omega (arith, x, l), omega (arith, y, l), λ e. labels_apart a.self.spiraling a.e p.e_bound.0 (sym x ∙ e ∙ y))

pub returns : goal.returns
returns c = let a = c.args in
    let p = c.requires in
    let x = ap (λ k. get_or a.self.label k 0) c.low_end.ensures.0 in
    let y = ap (λ k. get_or a.self.label k 0) c.high_end.ensures.0 in
    ap (λ n. a.f + n) (c.joining_of.ensures.0 ∙ ap₂ joining x y) ∙ name_told a.self.spiraling a.f a.e p.e_bound.0
