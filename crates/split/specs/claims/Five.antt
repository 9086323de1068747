-- A split of a cell by its faces: the part that keeps the crossings that go with the corner triangles, and the four sub-cells.
use Rattle.std.specs.Prelude.{ℕ, ◌+◌, ◌<◌, ◌≡◌, Bool, true, ◌||◌, ltb, leb, get_or}
use Rattle.counting.specs.Pick.{pick}
use Rattle.slots.specs.Slots.{lo, hi}
use Rattle.manifold.specs.claims.Piece.{Local}
use Rattle.cell.specs.declared.Cell.{Cell}
use Rattle.cell.specs.Cell.{crossings, edge, index}
use Rattle.cell.specs.Of.{count_of, start_of, edges_of}
use Rattle.cell.specs.claims.Claims.{Separate}
use Rattle.cell.specs.Level.{is_level_cell}
use Rattle.cell.specs.claims.Polygons.{local_of}
use Rattle.booking.specs.Booking.{least_corner}

module _ (c : Cell) where
  abbrev pub name_of : ℕ → ℕ
  name_of s = get_or c.names s 0

  -- only rule 1 is met in the cell; numbers tell its crossings apart, and names its faces
  pub record Firm : Type 0 where
    pub level : is_level_cell (count_of c) ≡ true
    pub separate : Separate (edges_of c)
    pub names : (s r : ℕ) → s < 4 → r < 4 → name_of s ≡ name_of r → s ≡ r

  -- besides, its numbers are below b and its names below f
  pub record FirmBelow (b f : ℕ) : Type 0 where
    pub firm : Firm
    pub below : (k t : ℕ) → k < 6 → t < count_of c k → start_of c k + t < b
    pub under : (s : ℕ) → s < 4 → name_of s < f

  -- the cell with the mates of the crossings that go alone
  unfoldable pub goes : ℕ → Bool
  goes x =
      ltb (index (edges_of c) x) (least_corner (count_of c) (lo (edge (edges_of c) x)))
      || leb (count_of c (edge (edges_of c) x)) (index (edges_of c) x + least_corner (count_of c) (hi (edge (edges_of c) x)))

  abbrev pub own_piece : Local
  own_piece = record {
    N = crossings (edges_of c);
    fa = (local_of c).fa;
    fb = (local_of c).fb;
    mate = λ s x. pick (goes x) ((local_of c).mate s x) (crossings (edges_of c));
    number = (local_of c).number;
    slots = (local_of c).slots;
    name = (local_of c).name;
  }
