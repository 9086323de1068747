use Prim.Native.Nat.{◌+◌, ◌*◌}
use mathlib.Core.Path.{◌≡◌, sym, ap, ◌∙◌}
use native.Mathlib.Omega.{arith}
use lib.ListN.{length, get_or}
use lib.Seq.{length-sets}
use Rattle.counting.specs.Lists.{values}
use Rattle.layers.specs.work.Work.{side_from, own_at, side_count}
use Rattle.layers.proofs.Namings.{numbered_none, numbered_more}
use Rattle.layers.proofs.Span.number_sides.Goals as goal

pub loop-j-init : goal.loop-j-init
loop-j-init c = (c.requires.over_len, λ f L. numbered_none L _)

pub offset_bounds-sides-self : goal.offset_bounds-sides-self
offset_bounds-sides-self c = omega (arith, c.requires.by_index.1.few)

pub bounds-sides-self : goal.bounds-sides-self
bounds-sides-self c = omega (arith, c.requires.by_index.1.few)

pub offset_bounds-own_starts-e : goal.offset_bounds-own_starts-e
offset_bounds-own_starts-e c = let L = c.requires.by_index.1 in omega (arith, L.few_counts, L.edge c.loop-j.j (omega arith))

pub bounds-own_starts-e : goal.bounds-own_starts-e
bounds-own_starts-e c = let L = c.requires.by_index.1 in omega (arith, L.few_counts, L.edge c.loop-j.j (omega arith))

pub offset_bounds-starts-e : goal.offset_bounds-starts-e
offset_bounds-starts-e c = let L = c.requires.by_index.1 in omega (arith, L.few_counts, L.starts_long, L.edge c.loop-j.j (omega arith))

pub bounds-starts-e : goal.bounds-starts-e
bounds-starts-e c = let L = c.requires.by_index.1 in omega (arith, L.few_counts, L.starts_long, L.edge c.loop-j.j (omega arith))

pub offset_bounds-counts-e : goal.offset_bounds-counts-e
offset_bounds-counts-e c = let L = c.requires.by_index.1 in omega (arith, L.few_counts, L.edge c.loop-j.j (omega arith))

pub bounds-counts-e : goal.bounds-counts-e
bounds-counts-e c = let L = c.requires.by_index.1 in omega (arith, L.few_counts, L.edge c.loop-j.j (omega arith))

pub number_edge-requires : goal.number_edge-requires
number_edge-requires c = let I = c.loop-j.invariant in
    let L = c.requires.by_index.1 in
    (omega (arith, I.0, L.below c.loop-j.j (omega arith)), L.small c.loop-j.j (omega arith))

pub loop-j-preserved : goal.loop-j-preserved
loop-j-preserved c = let A = c.args in
    let J = c.loop-j in
    let q = c.number_edge.ensures in
    (ap length q ∙ length-sets J.over (own_at A.sides.now A.self.from A.own_starts.now J.j) (values (λ i. get_or A.starts.now (side_from A.sides.now A.self.from J.j) 0 + i) (side_count A.counts.now A.sides.now A.self.from J.j)) ∙ J.invariant.0, λ f L. numbered_more L (J.invariant.1 f L) (omega arith) J.invariant.0 q)

pub shape_of-over : goal.shape_of-over
shape_of-over c = c.loop-j.invariant.0 ∙ sym c.requires.over_len

pub returns : goal.returns
returns c =
    λ f L.
    let A = c.args in
    let e : c.loop-j.j ≡ 6 * A.self.size = omega arith in
    rw (← e) (c.loop-j.invariant.1 f L)
