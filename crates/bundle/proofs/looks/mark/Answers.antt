use mathlib.Core.Path.{ap, ◌∙◌}
use native.Mathlib.Omega.{arith}
use Rattle.bundle.specs.Bundle.{edge_section}
use Rattle.trees.specs.work.Trees.{top_for}
use Rattle.bundle.specs.work.Looked.{block_key}
use Rattle.bundle.proofs.Runs.{walked}
use Rattle.trees.proofs.Trees.{top_le}
use Rattle.bundle.proofs.Looked.{marking_none, marking_skip, marking_more, edge_whole, edge-ends, edge_next, edge-key}
use Rattle.bundle.proofs.looks.mark.Goals as goal
use Rattle.bundle.proofs.looks.mark.Goals.{in-Some, in_default}

pub loop-init : goal.loop-init
loop-init c = (walked _ _ edge_section, marking_none _ _ _ _ c.requires.blank)

pub key_at-key-requires : goal.key_at-key-requires
key_at-key-requires c = edge-ends _ _ _ _ _ c.args.forest.now.keys.now.of.lent.listed c.loop.invariant.0 c.loop-test.true

pub next_at-at-requires : goal.next_at-at-requires
next_at-at-requires c = edge_whole _ _ _ _ _ c.args.forest.now.keys.now.of.lent.listed c.loop.invariant.0 c.loop-test.true

pub loop-preserved : goal.loop-preserved
loop-preserved c =
    let b = c.args.forest.now.keys.now in
    let n = c.args.forest.now.count in
    let l = c.loop in
    let h = c.loop-test.true in
    let key = c.key_at-key.ensures ∙ edge-key _ _ _ _ _ b.of.lent.listed l.invariant.0 h in
    let top = c.latest.ensures ∙ ap (top_for (block_key b.of.bytes.now b.first) n) key in (
      edge_next _ _ _ _ _ b.of.lent.listed l.invariant.0 h _ c.next_at-at.ensures,
      elim c.match-latest.branch [
        | in-Some w ↦ rw w.met-is (marking_more _ _ _ _ _ _ l.invariant.1 _ c.requires.room (rw w.in-Some.is at top))
        | in_default w ↦ rw w.met-is (marking_skip _ _ _ _ _ _ l.invariant.1 (rw w.in_default.is at top))
      ],
    )

pub bounds-met-place : goal.bounds-met-place
bounds-met-place c =
    let b = c.args.forest.now.keys.now in
    let n = c.args.forest.now.count in
    omega (arith, c.requires.room, c.loop.invariant.1.long, c.in-Some.ensures, top_le (block_key b.of.bytes.now b.first) n c.key_at-key.result)
