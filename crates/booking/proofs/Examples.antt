-- The examples, by computation.
use mathlib.Core.Path.{refl}
use Rattle.counting.specs.Lists.{total, seek}
use Rattle.counting.specs.Search.{first, last, every}
use Rattle.counting.specs.Gcd.{divides, gcd}
use Rattle.slots.specs.Slots as slots
use Rattle.face.specs.Face as face
use Rattle.face.specs.Face.{is_level}
use Rattle.cell.specs.Nodes.{joining, corner_from}
use Rattle.cell.specs.Level.{is_level_cell}
use Rattle.booking.specs.Booking.{median, beside, corner_on, least_corner, corner_triangles, left_between, larger, smaller, beside_drawn, booked_split}
use Rattle.booking.specs.claims.Booking.{other_length}
use Rattle.booking.specs.Figures.{are_spiral, are_split, figure_in, figure}
use Rattle.booking.specs.Answer.{booking_answer}
use Rattle.booking.specs.examples.Examples.{ExamplesHold, of, examples}

pub examples_hold : ExamplesHold
unfolding total seek first last every divides gcd
    slots.lo slots.hi slots.position slots.lower slots.upper slots.edge_between slots.slot_edge
    face.half_above face.corner_count is_level joining corner_from is_level_cell
    median beside corner_on least_corner corner_triangles left_between larger smaller other_length are_spiral are_split figure_in figure beside_drawn booked_split
    booking_answer of examples
examples_hold = refl
