use Prim.Native.Nat.{◌*◌}
use native.Mathlib.Omega.{arith}
use Rattle.counting.proofs.Stored.{stored_then}
use Rattle.bundle.specs.Bundle.{cell_nodes}
use Rattle.bundle.specs.Written.{cell_bytes}
use Rattle.bundle.proofs.Writes.{part_bytes}
use Rattle.bundle.proofs.writer.put_cell.Goals as goal

pub returns : goal.returns
unfolding cell_bytes
returns c = stored_then c.put_head-body.ensures (rw (part_bytes c.args.nodes.now (cell_nodes * c.args.k) cell_nodes (omega (arith, c.requires.all))) at c.put_words.ensures)
