-- What is proved of splits, for all counts.
use Rattle.std.specs.Prelude.{ℕ, ◌+◌, ◌-◌, ◌*◌, ◌/◌, ◌≤◌, ◌<◌, ◌≡◌, List, map, ◌⊎◌, ◌≢◌, Bool, true, false, Some, length, get_or}
use Rattle.place.specs.declared.Place.{Place}
use Rattle.cell.specs.declared.Cell.{Cell}
use Rattle.split.specs.Parts.{parts, Part, whole, corners, part_triangles, drawn_triangles, splits_of, no_part, part_cell}
use Rattle.split.specs.Standing.{standing}
use Rattle.counting.specs.Pick.{pick}
use Rattle.counting.specs.Lists.{total, tally, gather, it}
use Rattle.counting.specs.Gcd.{gcd}
use Rattle.walk.specs.Darts.{half}
use Rattle.manifold.specs.Triangle.{seg, inner}
use Rattle.manifold.specs.claims.Plain.{side_of, has_side, nth}
use Rattle.manifold.specs.claims.Polygon.{Polygon}
use Rattle.manifold.specs.claims.Piece.{Local, slot_of, lower_of, segment_of, onward, dart, size_of}
use Rattle.manifold.specs.claims.Complex.{Complex, Joins, Closes, Lawful, mesh}
use Rattle.cell.specs.Cell.{crossings}
use Rattle.cell.specs.Of.{count_of, edges_of}
use Rattle.cell.specs.Loop.{normal}
use Rattle.cell.specs.Triangles.{cell_triangles}
use Rattle.cell.specs.claims.Nodes.{Arranged}
use Rattle.cell.specs.Level.{is_level_cell}
use Rattle.cell.specs.claims.Polygons.{local_of, named}
use Rattle.booking.specs.Booking.{corner_triangles, left_between, larger, smaller, is_spiral, is_split, booked_split}
use Rattle.booking.specs.claims.Booking.{splits_in, more_in}
use Rattle.booking.specs.declared.Booking.{Booking}
use Rattle.booking.specs.Answer.{booking_numbers, booking_answer}
use Rattle.split.specs.Limits.{first_inner_crossing, first_inner_face, word_step}
use Rattle.booking.specs.Figures.{next_larger, next_smaller, splits, inner_crossings, beside_split}
use Rattle.split.specs.Labels.{labelled}
use Rattle.split.specs.claims.Counted.{sub_counts, drawn_count}
use Rattle.split.specs.SubCell.{sub}
use Rattle.split.specs.claims.Family.{Meets, Refines}
use Rattle.split.specs.claims.Five.{own_piece, FirmBelow}

-- they are the parts of the mesh
abbrev pub StandingParts : Type 0
StandingParts = (fuel cell n b f : ℕ) (at : List Place) (c : Cell) → map (λ s. s.part) (standing fuel cell n b f at c) ≡ parts fuel cell n b f c

-- i, j, k, l are the four positions, and what remains is ij d1, ik d2, il d1 + d2 (02, W12)
pub record Labelling (w : ℕ → ℕ) (i j k l : ℕ) : Type 0 where
  pub all : Arranged i j k l
  pub ij : left_between w i j ≡ larger w
  pub ik : left_between w i k ≡ smaller w
  pub il : left_between w i l ≡ larger w + smaller w

-- the labels are such a labelling, and none is earlier in node order
pub record FirstLabelling (w : ℕ → ℕ) : Type 0 where
  pub is : Labelling w (labelled w 0) (labelled w 1) (labelled w 2) (labelled w 3)
  pub first : (i j k l : ℕ) → Labelling w i j k l
      → (labelled w 0 < i) ⊎ ((labelled w 0 ≡ i) × (labelled w 1 ≡ j) × (labelled w 2 ≡ k) × (labelled w 3 ≡ l))

abbrev pub LabelsFirst : Type 0
LabelsFirst = (w : ℕ → ℕ) → is_level_cell w ≡ true → is_spiral w ≡ true → FirstLabelling w

-- a cell by its numbers: the corner triangles t, d1 and d2
pub record NumbersAre (w : ℕ → ℕ) (t x y : ℕ) : Type 0 where
  pub level : is_level_cell w ≡ true
  pub corners : corner_triangles w ≡ t
  pub first : larger w ≡ x
  pub second : smaller w ≡ y

-- the sub-cells of a cell with the counts w: v m are the counts of the one that omits the node with the label m. Only the one that omits k can be split
-- again
pub record SubCells (w : ℕ → ℕ) (v : ℕ → ℕ → ℕ) : Type 0 where
  pub omits-l : NumbersAre (v 3) (larger w - smaller w) (smaller w) (smaller w)
  pub omits_k : NumbersAre (v 2) (smaller w) (next_larger (larger w) (smaller w)) (next_smaller (larger w) (smaller w))
  pub omits-j : NumbersAre (v 1) (larger w) (smaller w) 0
  pub omits-i : NumbersAre (v 0) (2 * smaller w) (larger w - smaller w) 0
  pub others : (m : ℕ) → m < 4 → m ≢ 2 → is_spiral (v m) ≡ false

-- for all counts; and as cells, wherever the inner crossings and faces start and whatever word 0 is
abbrev pub SubCountsNumbered : Type 0
SubCountsNumbered = (w : ℕ → ℕ) → is_level_cell w ≡ true → is_spiral w ≡ true → SubCells w (sub_counts w)

abbrev pub SubCellsNumbered : Type 0
SubCellsNumbered = (c : Cell) → is_level_cell (count_of c) ≡ true → is_spiral (count_of c) ≡ true → (b f word : ℕ) → SubCells (count_of c) (λ m. count_of (sub c b f word m))

-- one part, and four more for each split: so the numbers of sub-cells leave no gap
abbrev pub PartsCounted : Type 0
PartsCounted = (fuel cell n b f : ℕ) (c : Cell) → is_level_cell (count_of c) ≡ true → 0 < smaller (count_of c) → larger (count_of c) + smaller (count_of c) ≤ fuel
    → length (parts fuel cell n b f c) ≡ 1 + 4 * splits (larger (count_of c)) (smaller (count_of c))

-- The last number of the booking goes by the split result (02, W9 with W12) for all counts: it is how many triangles are drawn, counted part by part
abbrev pub BookedByParts : Type 0
BookedByParts = (w : ℕ → ℕ) → is_level_cell w ≡ true → drawn_count w ≡ booked_split w

-- so is what is answered for any counts
abbrev pub AnswerByParts : Type 0
AnswerByParts = (w : ℕ → ℕ) (b : Booking) → booking_numbers (Some b) ≡ booking_answer w → drawn_count w ≡ b.triangles

-- and of every cell by value so many are listed
abbrev pub DrawnByParts : Type 0
DrawnByParts = (c : Cell) → length (drawn_triangles c) ≡ drawn_count (count_of c)

-- the triangles of a split cell by value, from its counts
abbrev pub DrawnCounted : Type 0
DrawnCounted = (c : Cell) → is_split (count_of c) ≡ true
    → length (drawn_triangles c) ≡ corner_triangles (count_of c) + beside_split (larger (count_of c)) (smaller (count_of c))

-- so of every cell that is booked, with the split result in place of the fans of a split cell
abbrev pub DrawnBooked : Type 0
DrawnBooked = (c : Cell) → is_level_cell (count_of c) ≡ true → length (drawn_triangles c) ≡ booked_split (count_of c)

-- so what the booking answers for a cell's counts is the number of the triangles that are drawn of it
abbrev pub BookingRight : Type 0
BookingRight = (c : Cell) (b : Booking) → booking_numbers (Some b) ≡ booking_answer (count_of c) → length (drawn_triangles c) ≡ b.triangles

-- and of any cell: those of its loops, and what splitting adds (row 12 goes by this, without a walk of what is split)
abbrev pub DrawnGained : Type 0
DrawnGained = (c : Cell) → length (drawn_triangles c) ≡ length (cell_triangles c) + more_in (count_of c)

-- the booking tells the splits
abbrev pub SplitsTold : Type 0
SplitsTold = (c : Cell) → splits_in (count_of c) ≡ splits_of c

-- the splits made in a cell are at most d1 / gcd(d1, d2) − 1, and those in all cells at most the sum over those that are split (02, W12)
abbrev pub most_splits : (ℕ → ℕ) → ℕ
most_splits w = pick (is_split w) (larger w / gcd (larger w) (smaller w) - 1) 0

pub record SplitsFew : Type 0 where
  pub one : (c : Cell) → splits_of c ≤ most_splits (count_of c)
  pub sum : (size : ℕ) (cells : ℕ → Cell) → total (λ k. splits_of (cells k)) size 0 ≤ total (λ k. most_splits (count_of (cells k))) size 0

-- a part as a piece of a complex
abbrev pub part_local : Part → Local
part_local (whole c) = local_of c
part_local (corners c) = own_piece c

-- Of all parts of c, the sub-cell with the number n of the cell `cell`, or the cell itself with n = 0: word 0 of part x is told by its place, so that
-- sub-cells are numbered in the order of working and own corner triangles have the number of their cell; and only rule 1 is met in each
pub record PartsLaws (fuel cell n b f : ℕ) (c : Cell) : Type 0 where
  pub words : (x : ℕ) → x < length (parts fuel cell n b f c) → (part_cell (get_or (parts fuel cell n b f c) x no_part)).index ≡ cell + word_step * (n + x)
  pub levels : (x : ℕ) → x < length (parts fuel cell n b f c) → is_level_cell (count_of (part_cell (get_or (parts fuel cell n b f c) x no_part))) ≡ true

abbrev pub PartsNumbered : Type 0
PartsNumbered = (fuel cell n b f : ℕ) (c : Cell) → is_level_cell (count_of c) ≡ true → larger (count_of c) + smaller (count_of c) ≤ fuel → c.index ≡ cell + word_step * n
    → PartsLaws fuel cell n b f c

-- the parts l as the pieces of a complex, whose middles and inner sides go by word 0
abbrev pub parts_complex : List Part → Complex
parts_complex l = record {
  pieces = length l;
  at = λ x. part_local (get_or l x no_part);
  tag = λ x. (part_cell (get_or l x no_part)).index;
  normal = λ x p. normal (edges_of (part_cell (get_or l x no_part))) p;
}

-- then the triangles of the parts are its mesh, where only rule 1 is met in each whose corner triangles stand alone
abbrev pub LevelCorners : Part → Type 0
LevelCorners (whole c) = Unit {0}
LevelCorners (corners c) = is_level_cell (count_of c) ≡ true

abbrev pub PartsMeshed : Type 0
PartsMeshed = (l : List Part) → ((x : ℕ) → x < length l → LevelCorners (get_or l x no_part)) → map named (gather part_triangles l) ≡ mesh (parts_complex l)

-- the loop of the piece A from its crossing p as a polygon, with the word that its middle and inner sides go by
abbrev pub loop_in : Local → ℕ → (ℕ → Bool) → ℕ → Polygon
loop_in A tag normal p = record {
  cell = tag;
  p0 = A.number p;
  n = size_of A p;
  point = λ k. A.number (half (dart A p k));
  face = λ k. A.name (slot_of A (dart A p k));
  lower = λ k. lower_of A (dart A p k);
  normal = normal p;
}

-- the parts l refine the cell c; inner faces are those named from f on, inner crossings those numbered from b on
abbrev pub RefinedBy : Cell → (b f : ℕ) → List Part → Type 1
RefinedBy c b f l = Refines (local_of c) (length l) (λ x. part_local (get_or l x no_part)) (λ x. f ≤ x) (λ g. b ≤ g)

abbrev pub PartsRefine : Type 1
PartsRefine = (fuel cell n b f : ℕ) (c : Cell) → FirmBelow c b f → larger (count_of c) + smaller (count_of c) ≤ fuel → RefinedBy c b f (parts fuel cell n b f c)

-- so the complex of the parts is lawful: its mesh has no side in more than two triangles (`Manifold`)
abbrev pub PartsLawful : Type 0
PartsLawful = (fuel cell n b f : ℕ) (c : Cell) → FirmBelow c b f → larger (count_of c) + smaller (count_of c) ≤ fuel → c.index ≡ cell + word_step * n
    → Lawful (parts_complex (parts fuel cell n b f c))

-- the inner crossings are numbered from b on without a gap: no part has a higher number, and every lower one is at an end of a part's segment
pub record InnerLaws (fuel cell n b f : ℕ) (c : Cell) : Type 0 where
  pub below : (x g : ℕ) → x < length (parts fuel cell n b f c) → Meets (part_local (get_or (parts fuel cell n b f c) x no_part)) g
      → g < b + inner_crossings (larger (count_of c)) (smaller (count_of c))
  pub met : (g : ℕ) → b ≤ g → g < b + inner_crossings (larger (count_of c)) (smaller (count_of c))
      → (x : ℕ) × (x < length (parts fuel cell n b f c)) × Meets (part_local (get_or (parts fuel cell n b f c) x no_part)) g

abbrev pub InnerNumbered : Type 0
InnerNumbered = (fuel cell n b f : ℕ) (c : Cell) → FirmBelow c b f → 0 < smaller (count_of c) → larger (count_of c) + smaller (count_of c) ≤ fuel → InnerLaws fuel cell n b f c

-- The sides of the triangles of a split cell (02, W12): all its curves close, and each segment of its faces is in exactly one of its triangles; every
-- other side is a segment of an inner face or an inner side, and in exactly two
pub record SplitSides (c : Cell) : Type 0 where
  pub joined : (d : ℕ) → d < 2 * crossings (edges_of c) → Joins (local_of c) d
  pub outer : (d : ℕ) → Joins (local_of c) d → tally (has_side (segment_of (local_of c) d)) (map named (drawn_triangles c)) ≡ 1
  pub sides : (t i : ℕ) → t < length (map named (drawn_triangles c)) → i < 3
      → ((d : ℕ) × Joins (local_of c) d × (side_of (nth (map named (drawn_triangles c)) t) i ≡ segment_of (local_of c) d))
      ⊎ (((g : ℕ) × (x : ℕ) × (first_inner_face ≤ g) × (side_of (nth (map named (drawn_triangles c)) t) i ≡ seg g x)
      × (tally (has_side (seg g x)) (map named (drawn_triangles c)) ≡ 2))
      ⊎ ((a : ℕ) × (p : ℕ) × (k : ℕ) × (side_of (nth (map named (drawn_triangles c)) t) i ≡ inner a p k)
      × (tally (has_side (inner a p k)) (map named (drawn_triangles c)) ≡ 2)))

abbrev pub SidesCounted : Type 0
SidesCounted = (c : Cell) → is_split (count_of c) ≡ true → FirmBelow c first_inner_crossing first_inner_face → SplitSides c

-- the walk from the dart d of the piece A ends, within as many steps as there are crossings
abbrev pub WalkEnds : Local → ℕ → Type 0
WalkEnds A d = (i : ℕ) × (i ≤ A.N) × (2 * A.N ≤ it (onward A) i d)

-- The segments of the four faces of any cell, split or not (02, W12): one whose curve closes in the cell is in exactly one of the triangles that are drawn of
-- it, whatever other curves do there; one whose curve does not close there is in none. A segment goes by either of its two darts
pub record CurveSides (c : Cell) : Type 0 where
  pub closed : (d : ℕ) → Closes (local_of c) d → tally (has_side (segment_of (local_of c) d)) (map named (drawn_triangles c)) ≡ 1
  pub unclosed : (d : ℕ) → Joins (local_of c) d → (Closes (local_of c) d → ⊥) → tally (has_side (segment_of (local_of c) d)) (map named (drawn_triangles c)) ≡ 0
  -- which of the two is so is decided by the walk: it comes back or it ends, and where it ends the curve does not close
  pub decided : (d : ℕ) → Joins (local_of c) d → Closes (local_of c) d ⊎ WalkEnds (local_of c) d
  pub ended : (d : ℕ) → WalkEnds (local_of c) d → Closes (local_of c) d → ⊥
