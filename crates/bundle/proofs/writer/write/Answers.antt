use Prim.Native.Nat.{◌*◌, ◌≤◌}
use mathlib.Core.Path.{◌≡◌, ap, ◌∙◌}
use native.Mathlib.Omega.{arith}
use lib.ListN.{length}
use Rattle.answer.specs.Answer.{refusal}
use Rattle.answer.specs.Refusal.{refusal_numbers}
use Rattle.bundle.specs.Record.{broken_row}
use Rattle.counting.proofs.Stored.{stored_long}
use Rattle.bundle.specs.Bundle.{edge_ends}
use Rattle.bundle.proofs.Writes.{size_by, length_cells, length_edges, not_fours, not_pairs, too_short, all_written, all_stored, Left}
use Rattle.bundle.proofs.writer.write.Goals as goal
use Rattle.bundle.proofs.writer.write.Goals.{After-at, Else-ends-edges, Else-area-size, then-nodes-ne0-via-then-nodes-ne0, then-nodes-ne0-via-else-nodes-ne0+then-ends-ne0, then-nodes-ne0-via-else-nodes-ne0+else-ends-ne0+then-ends-edges}

-- lists that are not formed
unformed : (c : After-at) → Left c.args.nodes.now c.args.ends.now c.args.counts.now c.args.area.now (refusal broken_row 0) c.args.area.now
unformed c = let a = c.args in
    elim c.then-nodes-ne0.branch [
      | then-nodes-ne0-via-then-nodes-ne0 w ↦ not_fours a.nodes.now a.ends.now a.counts.now a.area.now w.if-nodes-ne0.true
      | then-nodes-ne0-via-else-nodes-ne0+then-ends-ne0 w ↦ not_pairs a.nodes.now a.ends.now a.counts.now a.area.now (λ h. w.if-ends-ne0.true (omega (arith, h)))
      | then-nodes-ne0-via-else-nodes-ne0+else-ends-ne0+then-ends-edges w ↦ not_pairs a.nodes.now a.ends.now a.counts.now a.area.now (λ h. w.if-ends-edges.true (omega (arith, h)))
    ]

pub returns-then-nodes-ne0 : goal.returns-then-nodes-ne0
returns-then-nodes-ne0 c = let l = unformed c in record { answer = ap refusal_numbers c.at.ensures ∙ l.0; area = l.1 }

-- the lists are formed
pairs : (c : Else-ends-edges) → length c.args.ends.now ≡ edge_ends * length c.args.counts.now
pairs c = omega (arith, c.if-ends-edges.false, c.if-ends-ne0.false)

-- the area is long enough
enough : (c : Else-area-size) → size_by c.args.nodes.now c.args.ends.now c.args.counts.now ≤ length c.args.area.now
enough c = omega (arith, c.bundle_size-size.ensures, c.wides_in.ensures, c.if-area-size.false)

pub returns-then-area-size : goal.returns-then-area-size
returns-then-area-size c =
    let a = c.args in
    let size : size_by a.nodes.now a.ends.now a.counts.now ≡ c.bundle_size-size.result = omega (arith, c.bundle_size-size.ensures, c.wides_in.ensures) in
    let l = too_short a.nodes.now a.ends.now a.counts.now a.area.now c.if-nodes-ne0.false (pairs (goal.at.returns-then-area-size c).Else-ends-edges) (omega (arith, size, c.if-area-size.true)) _ (omega (arith, size, c.min.ensures)) in
    record { answer = ap refusal_numbers c.at-then-area-size.ensures ∙ l.0; area = l.1 }

pub put_cells-from-requires : goal.put_cells-from-requires
put_cells-from-requires c = let a = c.args in
    record { room = omega (arith, enough (goal.at.put_cells-from-requires c).Else-area-size, length_cells a.nodes.now a.ends.now a.counts.now) }

pub put_edges-stop-requires : goal.put_edges-stop-requires
put_edges-stop-requires c = let a = c.args in
    let p = c.put_cells-from.ensures in
    record {
      pairs = pairs (goal.at.put_edges-stop-requires c).Else-ends-edges;
      room = omega (arith, enough (goal.at.put_edges-stop-requires c).Else-area-size, p.after, stored_long p, length_cells a.nodes.now a.ends.now a.counts.now, length_edges a.nodes.now a.ends.now a.counts.now);
    }

pub put_head-requires : goal.put_head-requires
put_head-requires c = let a = c.args in
    let p = c.put_cells-from.ensures in
    let q = c.put_edges-stop.ensures in
    omega (arith, enough (goal.at.put_head-requires c).Else-area-size, p.after, stored_long p, q.after, stored_long q, length_cells a.nodes.now a.ends.now a.counts.now, length_edges a.nodes.now a.ends.now a.counts.now)

pub returns : goal.returns
returns c = let a = c.args in
    let l = all_written a.nodes.now a.ends.now a.counts.now a.area.now c.if-nodes-ne0.false (pairs (goal.at.returns c).Else-ends-edges) (enough (goal.at.returns c).Else-area-size) (all_stored a.nodes.now a.ends.now a.counts.now c.put_cells-from.ensures c.put_edges-stop.ensures c.put_head.ensures) in
    record { answer = l.0; area = l.1 }
