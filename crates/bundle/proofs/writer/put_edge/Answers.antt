use lib.ListN.{drop, length-take}
use Prim.Native.Nat.{◌+◌, ◌-◌, ◌*◌}
use native.Mathlib.Omega.{arith}
use Rattle.counting.proofs.Stored.{stored_then, stored_long}
use Rattle.bundle.specs.Bundle.{edge_ends}
use Rattle.bundle.specs.Written.{edge_bytes}
use Rattle.bundle.proofs.Writes.{part_bytes, length_list, edge_parts}
use Rattle.bundle.proofs.writer.put_edge.Goals as goal

pub put_head-body-requires : goal.put_head-body-requires
put_head-body-requires c = omega (arith, c.requires.room, edge_parts c.args.ends.now c.args.counts.now c.args.k)

pub put_words-next-requires : goal.put_words-next-requires
put_words-next-requires c = let h = c.put_head-body.ensures in
    omega (arith, length-take (edge_ends * c.args.k + edge_ends - edge_ends * c.args.k) (drop (edge_ends * c.args.k) c.args.ends.now), c.requires.room, edge_parts c.args.ends.now c.args.counts.now c.args.k, h.after, stored_long h)

pub put_count-requires : goal.put_count-requires
put_count-requires c = let h = c.put_head-body.ensures in
    let w = rw (part_bytes c.args.ends.now (edge_ends * c.args.k) edge_ends (omega (arith, c.requires.pair))) at c.put_words-next.ensures in
    omega (arith, c.requires.room, edge_parts c.args.ends.now c.args.counts.now c.args.k, h.after, stored_long h, w.after, stored_long w, length_list c.args.ends.now (edge_ends * c.args.k) edge_ends)

pub returns : goal.returns
unfolding edge_bytes
returns c = let h = rw c.kind_for.ensures at c.put_head-body.ensures in
    let w = rw (part_bytes c.args.ends.now (edge_ends * c.args.k) edge_ends (omega (arith, c.requires.pair))) at c.put_words-next.ensures in
    stored_then h (stored_then w c.put_count.ensures)
