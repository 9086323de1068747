use Prim.Native.Nat.{◌+◌, ◌*◌, ◌≤◌, ◌<◌}
use mathlib.Core.Path.{◌≡◌, ap, ◌∙◌}
use native.Mathlib.Omega.{arith}
use lib.ListN.{length}
use Rattle.counting.specs.Lists.{over}
use Rattle.counting.proofs.Stored.{stored_none, stored_long}
use Rattle.bundle.specs.Record.{cell_kind, word_size, head_bytes, body}
use Rattle.bundle.specs.Bundle.{cell_nodes, record_start, run, cells, edges_from, nodes_of, leading_words}
use Rattle.bundle.proofs.Runs.{walked, here, walked_fits, walked_on}
use Rattle.bundle.proofs.Fills.{cell-body, nodes_by, turn, filled_all}
use Rattle.bundle.proofs.reader.fill_cells.Goals as goal
use Rattle.bundle.proofs.reader.fill_cells.Goals.{After-loop-k, In-loop-k}

-- within the loop the next record and the room for its nodes are there
abbrev Turn : Type 0
Turn = In-loop-k

below : (c : Turn) → c.loop-k.k < run c.args.bytes.now cell_kind 0
unfolding cells
below c = omega (arith, c.requires.all, c.loop-k-test.true)

size : (c : Turn) → length (body c.args.bytes.now c.loop-k.at) ≡ word_size * cell_nodes
size c = cell-body _ _ (here _ 0 cell_kind _ _ c.loop-k.invariant.0 (below c))

fits : (c : Turn) → c.loop-k.at + (head_bytes + length (body c.args.bytes.now c.loop-k.at)) ≤ length c.args.bytes.now
fits c = walked_fits _ 0 cell_kind _ _ c.loop-k.invariant.0 (below c)

space : (c : Turn) → cell_nodes * c.loop-k.k + cell_nodes ≤ length c.loop-k.nodes
space c = omega (arith, c.requires.room, c.loop-k-test.true, stored_long c.loop-k.invariant.1)

all_done : (c : After-loop-k) → c.loop-k.k ≡ cells c.args.bytes.now
unfolding cells
all_done c = omega (arith, c.requires.all, c.loop-k.invariant.0.upto)

pub loop-k-init : goal.loop-k-init
unfolding over
loop-k-init c = (walked _ 0 cell_kind, stored_none _ _)

pub overflow_mul-k : goal.overflow_mul-k
overflow_mul-k c = omega (arith, space (goal.at.overflow_mul-k c).In-loop-k)

pub fill_words-requires : goal.fill_words-requires
fill_words-requires c = let t = (goal.at.fill_words-requires c).In-loop-k in
    record { all = omega (arith, ap length c.body_at-body.ensures.contents, size t); room = omega (arith, space t) }

pub overflow_add-at : goal.overflow_add-at
overflow_add-at c = omega (arith, fits (goal.at.overflow_add-at c).In-loop-k, ap length c.body_at-body.ensures.contents)

pub overflow_add-at-in-loop-k : goal.overflow_add-at-in-loop-k
overflow_add-at-in-loop-k c = omega (arith, fits (goal.at.overflow_add-at-in-loop-k c).In-loop-k, ap length c.body_at-body.ensures.contents)

pub loop-k-preserved : goal.loop-k-preserved
loop-k-preserved c = let t = (goal.at.loop-k-preserved c).In-loop-k in
    let l = c.loop-k in
    let e = c.body_at-body.ensures.contents in
    let n : cell_nodes * (l.k + 1) ≡ cell_nodes * l.k + cell_nodes = omega arith in
    (rw e (walked_on _ 0 cell_kind _ _ l.invariant.0 (below t)), rw n (turn _ 0 _ _ l.invariant.0.reached (leading_words cell_nodes) l.invariant.1 (rw e at c.fill_words.ensures)))

pub shape_of-nodes : goal.shape_of-nodes
shape_of-nodes c = stored_long c.loop-k.invariant.1

pub returns : goal.returns
unfolding edges_from nodes_of
returns c = let l = c.loop-k in
    let a = c.args in
    let p = c.requires in
    let s = a.bytes.now in
    let e : l.k ≡ cells s = all_done (goal.at.returns c).After-loop-k in
    record { value = l.invariant.0.reached ∙ ap (record_start s 0) e; nodes_after = filled_all (nodes_by s 0) l.k (cells s) l.invariant.1 e (omega (arith, e, p.all, p.room)) }
