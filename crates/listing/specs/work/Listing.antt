-- The most cells and edges of a bundle that is listed, the room that a listing has, and what the parts leave.
use Rattle.std.specs.Prelude.{ℕ, ◌+◌, ◌-◌, ◌*◌, ◌/◌, ◌≤◌, ◌≡◌, List, Result, MatchResult}
use Rattle.answer.specs.Refusal.{row_number}
use Rattle.answer.specs.declared.Refusal.{Refusal}
use Rattle.counting.specs.work.Stored.{Stored}
use Rattle.listing.specs.Text.{refused_line}
use Rattle.bundle.specs.work.Record.{cell_size, edge_size, end_size}
use Rattle.listing.specs.work.Text.{head_room, line_room}
use Rattle.listing.specs.Listing.{most_bytes, area_triangles}

abbrev pub cells_in_bundle : ℕ
cells_in_bundle = (most_bytes - end_size) / cell_size

abbrev pub edges_in_bundle : ℕ
edges_in_bundle = (most_bytes - end_size) / edge_size

-- the most bytes of a listing
abbrev pub room_bytes : ℕ
room_bytes = head_room + line_room * area_triangles

-- The text stands at the front of the area, and its bytes are counted. Or it is the line of a refusal, and the area is as it was
abbrev pub Told : (text was is : List ℕ) → Result ℕ Refusal → Type 0
Told text was is r = MatchResult r (λ n. Stored was 0 text is n × (n ≤ room_bytes)) (λ e. (refused_line (row_number e.row) e.place ≡ text) × (is ≡ was))
