use Rattle.cell.specs.claims.Table.{table_cell}
use Rattle.cell.proofs.entries.counted_at.Goals as goal

pub returns : goal.returns
unfolding table_cell
returns c = (
  simp (
    c.counts_of-edge_counts.ensures,
    c.starts_of-edge_starts.ensures,
    c.four_of-slot_names.ensures,
    c.four_of-nodes.ensures,
  ),
  c.crossings_of-crossings.ensures.0,
  c.crossings_of-crossings.ensures.1,
)
