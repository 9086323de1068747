use Prim.Native.Nat.{ℕ}
use mathlib.Core.Path.{◌≡◌, sym, ap, ◌∙◌}
use mathlib.Core.List.{List}
use native.Mathlib.Nat.{le_refl}
use native.Mathlib.Omega.{arith}
use lib.ListN.{get_or}
use Rattle.counting.proofs.Stored.{filled_none, filled_more, filled_beyond}
use Rattle.bundle.specs.Bundle.{edge_section, count_after}
use Rattle.trees.specs.work.Trees.{link_to, top_for}
use Rattle.bundle.specs.work.Looked.{block_key, top_of, count_or}
use Rattle.bundle.proofs.Runs.{walked}
use Rattle.trees.proofs.Trees.{top_le}
use Rattle.bundle.proofs.Looked.{count_block, edge_whole, edge-ends, edge_next, edge-key, edge-number}
use Rattle.bundle.proofs.looks.put_counts.Goals as goal
use Rattle.bundle.proofs.looks.put_counts.Goals.{After-latest-place}

pub loop-k-init : goal.loop-k-init
loop-k-init c = (walked _ _ edge_section, filled_none _ _)

pub key_at-key-requires : goal.key_at-key-requires
key_at-key-requires c = edge-ends _ _ _ _ _ c.args.forest.now.keys.now.of.lent.listed c.loop-k.invariant.0 c.loop-k-test.true

pub count_from-requires : goal.count_from-requires
count_from-requires c = let b = c.args.forest.now.keys.now in
    let n = c.args.forest.now.count in
    omega (arith, c.args.forest.now.within, c.latest-place.ensures, top_le (block_key b.of.bytes.now b.first) n c.key_at-key.result)

pub next_at-at-requires : goal.next_at-at-requires
next_at-at-requires c = edge_whole _ _ _ _ _ c.args.forest.now.keys.now.of.lent.listed c.loop-k.invariant.0 c.loop-k-test.true

pub loop-k-preserved : goal.loop-k-preserved
loop-k-preserved c =
    let b = c.args.forest.now.keys.now in
    let n = c.args.forest.now.count in
    let p = c.requires in
    let l = c.loop-k in
    let h = c.loop-k-test.true in
    let edge = edge-number _ _ _ _ _ b.of.lent.listed l.invariant.0 h in
    let s = b.of.bytes.now in
    let key = c.key_at-key.ensures ∙ edge-key _ _ _ _ _ b.of.lent.listed l.invariant.0 h in
    let top : link_to c.latest-place.result ≡ top_of s b.first n l.k = c.latest-place.ensures ∙ ap (top_for (block_key s b.first) n) key in
    let own : get_or l.counts l.k 0 ≡ count_after s b.first l.k = ap (λ (x : List ℕ). get_or x l.k 0) l.invariant.1 ∙ filled_beyond _ l.k _ 0 l.k (le_refl l.k) ∙ p.at l.k edge in
    let new =
    c.count_from.ensures ∙ ap (λ x. count_or s b.first x (get_or l.counts l.k 0)) top ∙ ap (count_or s b.first (top_of s b.first n l.k)) own
    ∙ sym (count_block s b.of.lent.bytes b.first n (omega (arith, c.args.forest.now.within, b.within, b.of.lent.all)) l.k edge) in (
      edge_next _ _ _ _ _ b.of.lent.listed l.invariant.0 h _ c.next_at-at.ensures,
      filled_more _ _ _ _ _ l.invariant.1 new,
    )
