-- The examples, by computation.
use mathlib.Core.Path.{refl}
use Rattle.answer.specs.Rows.{or_refuse, answer_of}
use Rattle.counting.specs.Lists.{seek, total, over, pre}
use Rattle.counting.specs.Search.{first, last, some, every, count}
use Rattle.counting.specs.Reach.{reach}
use Rattle.slots.specs.Slots.{lo, hi, position, contains}
use Rattle.grid.specs.Grid.{has_node, face_node, same_face, has_face, joins, is_edge, has_edge, start, starts_of}
use Rattle.grid.specs.Rows.{bad_length, bad_numbers, bad_start, bad_lists, bad_cell, same_cell, repeats, crowded, is_after, bad_edge, bad_count, unlisted, unused, linked, reached, split, too_many, rows, grid_answer}
use Rattle.shading.specs.Marks.{moved, united, marks_after, final_marks, agrees, unshaded, side_bytes}
use Rattle.shading.specs.Answer.{shading_rows, shading_answer, shading_area}
use Rattle.shading.specs.examples.Examples.{examples, ExamplesHold}

pub examples_hold : ExamplesHold
unfolding examples seek first last some every count total over pre reach lo hi position contains
    has_node face_node same_face has_face joins is_edge has_edge start starts_of
    bad_length bad_numbers bad_start bad_lists bad_cell same_cell repeats crowded is_after bad_edge bad_count unlisted unused linked reached split too_many rows or_refuse answer_of grid_answer
    moved united marks_after final_marks agrees unshaded side_bytes shading_rows shading_answer shading_area
examples_hold = refl
