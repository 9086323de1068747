use Rattle.std.specs.Prelude.{min}
use Prim.Native.Nat.{◌+◌, ◌*◌, ◌<◌}
use mathlib.Core.Path.{◌≡◌, ◌∙◌, sym, ap, subst}
use native.Mathlib.Omega.{arith}
use lib.ListN.{length, get_or}
use Rattle.layers.specs.work.Work.{block_of, StartsSummed}
use Rattle.layers.proofs.Steps.{summed_none, summed_skip, summed_more, block_unmarked}
use Rattle.layers.proofs.tables.write_starts.Goals as goal
use Rattle.layers.proofs.tables.write_starts.Goals.{then-used-b, else-used-b}

pub loop-b-init : goal.loop-b-init
loop-b-init c = summed_none _ _ _ _ _ (omega arith)

pub add_block-s-requires : goal.add_block-s-requires
add_block-s-requires c = let P = c.requires in
    let I = c.loop-b.invariant in
    let e : min (64 * c.loop-b.b) (length c.args.counts.now) ≡ 64 * c.loop-b.b = omega (arith, c.div_ceil-b-end.ensures) in
    record { order = omega (arith, c.min-end.ensures, c.div_ceil-b-end.ensures); inside = omega (arith, c.min-end.ensures); few = P.few; marks = P.marks; room = omega (arith, P.room, I.starts_are.same); sum = rw (← e) I.sum; small = omega (arith, I.small) }

pub loop-b-preserved : goal.loop-b-preserved
loop-b-preserved c = let A = c.args in
    let P = c.requires in
    let I = c.loop-b.invariant in
    let b = c.loop-b.b in
    let lt : 64 * b < length A.counts.now = omega (arith, c.div_ceil-b-end.ensures) in
    let e : min (64 * b) (length A.counts.now) ≡ 64 * b = omega arith in
    let end = min (64 * (b + 1)) (length A.counts.now) in
    elim c.if-used-b.branch [
      | then-used-b w ↦ (let q = w.min-end.ensures in let D = w.add_block-s.ensures in
          rw (w.s-is, w.starts-is, ← q) (summed_more A.counts.now A.used.now A.m I (64 * b) w.min-end.result e (omega arith) (omega (arith, P.room, I.starts_are.same)) D.value D.starts_after))
      | else-used-b w ↦ (let z : block_of (64 * b) ≡ 12288 + b = omega arith in
          rw (w.s-is, w.starts-is) (summed_skip A.counts.now A.used.now A.m I (64 * b) end e (omega arith)
          (block_unmarked A.counts.now A.used.now A.m A.starts.now P (64 * b) end (omega (arith, P.few)) (omega arith) (omega arith) (omega (arith, P.few))
          (λ q. w.if-used-b.false (ap (λ i. get_or A.used.now i 0) (sym z) ∙ q)))))
    ]

pub returns : goal.returns
returns c = let A = c.args in
    let L = c.loop-b in
    let e : min (64 * L.b) (length A.counts.now) ≡ length A.counts.now = omega (arith, c.div_ceil-b-end.ensures) in
    subst (λ k. StartsSummed A.counts.now A.used.now A.m k A.starts.now L.starts) e L.invariant.starts_are
