-- The sizes of whole records.
use Rattle.std.specs.Prelude.{ℕ, ◌+◌}
use Rattle.bundle.specs.Record.{length_bytes, cell_length, edge_length, end_length, look_length}

-- the bytes of a whole record of each kind but 4, which has a byte more than kind 2
abbrev pub cell_size : ℕ
cell_size = length_bytes + cell_length

abbrev pub edge_size : ℕ
edge_size = length_bytes + edge_length

abbrev pub end_size : ℕ
end_size = length_bytes + end_length

abbrev pub look_size : ℕ
look_size = length_bytes + look_length
