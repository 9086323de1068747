use Rattle.direct.proofs.Families.{own_listed}
use mathlib.Core.Path.{ap, ◌∙◌}
use Prim.Native.Nat.{max}
use Rattle.direct.proofs.own_of.Goals as goal

pub returns : goal.returns
returns c = own_listed _ c.requires c.sum_of-x.ensures.0 c.sum_of-y.ensures.0 c.sum_of-z.ensures.0 (c.max-most.ensures ∙ ap (λ k. max k c.sum_of-z.result) c.max.ensures) c.own_at.ensures c.own_at-2.ensures c.own_at-3.ensures c.own_at-4.ensures
