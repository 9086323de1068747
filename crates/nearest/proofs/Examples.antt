-- The examples, by computation.
use mathlib.Core.Path.{refl}
use lib.Ieee.{add, sub, mul, div, neg, lt, le, eq, of_int, of_bits, to_bits}
use Rattle.answer.specs.Rows.{or_refuse, answer_of}
use Rattle.counting.specs.Lists.{seek}
use Rattle.counting.specs.Search.{first}
use Rattle.place.specs.Place.{within}
use Rattle.nearest.specs.Distance.{square, squared_distance, least_to, distance_of}
use Rattle.nearest.specs.Answer.{bad_points, nearest_rows, nearest_number, nearest_values, nearest_answer}
use Rattle.nearest.specs.examples.Examples.{examples, ExamplesHold}

pub examples_hold : ExamplesHold
unfolding add sub mul div neg lt le eq of_int of_bits to_bits
    or_refuse answer_of seek first within square squared_distance least_to distance_of
    bad_points nearest_rows nearest_number nearest_values nearest_answer examples
examples_hold = refl
