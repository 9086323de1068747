use Prim.Native.Nat.{ℕ}
use mathlib.Core.Path.{◌≡◌, subst}
use mathlib.Core.List.{List}
use native.Mathlib.Omega.{arith}
use Rattle.cell.specs.Level.{by_edge}
use Rattle.direct.specs.claims.Direct.{Plain}
use Rattle.direct.proofs.Over.{over_none, over_one}
use Rattle.direct.proofs.placing.pass_over.Goals as goal

pub loop-k-init : goal.loop-k-init
loop-k-init c = let A = c.args in over_none A.tables.counts.now A.tables.sides.now A.c A.end c.requires

pub loop-k-preserved : goal.loop-k-preserved
loop-k-preserved c = let A = c.args in
    let P = subst (λ (l : List ℕ). Plain (by_edge l)) c.counts_at.ensures (c.is_plain.ensures c.if-not-is_plain.false) in
    over_one A.tables.counts.now A.tables.sides.now A.c A.end c.loop-k.invariant (omega arith) P

pub returns-then-not-is_plain : goal.returns-then-not-is_plain
returns-then-not-is_plain c = c.loop-k.invariant

pub returns : goal.returns
returns c = let e : c.loop-k.k ≡ c.args.end = omega arith in rw e at c.loop-k.invariant
