-- Every example's answer is the definition's, and so are the tables of two grids, and what openings and settings leave: computed equations of lists.
use mathlib.Core.Path.{◌≡◌, refl}
use Rattle.answer.specs.Rows.{or_refuse, answer_of}
use Rattle.counting.specs.Lists.{seek, total, over, pre}
use Rattle.counting.specs.Search.{first, last, some, every, count}
use Rattle.counting.specs.Reach.{reach}
use Rattle.slots.specs.Slots.{lo, hi, position, contains}
use Rattle.grid.specs.Grid.{face_node, same_face, has_face, face_name, joins, is_edge, has_edge, outer, edge_number, start, starts_of}
use Rattle.grid.specs.Rows.{bad_length, bad_numbers, bad_start, bad_lists, bad_cell, same_cell, repeats, crowded, is_after, bad_edge, bad_count, unlisted, unused, linked, reached, split, too_many, rows, grid_answer}
use Rattle.counting.specs.Stored.{filled}
use Rattle.grid.specs.Opening.{opened, open_answer, open_starts}
use Rattle.grid.specs.Setting.{change_answer, set_answer, set_counts, set_starts}
use Rattle.grid.specs.claims.Setting.{set_grid, set_all}
use Rattle.grid.specs.examples.Examples.{of, examples, found, expected, tried, tried_expected}

pub examples_hold : of (λ x. grid_answer x.grid) examples ≡ of (λ x. x.answer) examples
unfolding of examples seek first last some every count total pre reach lo hi position contains face_node same_face has_face joins is_edge has_edge start starts_of over
    bad_length bad_numbers bad_start bad_lists bad_cell same_cell repeats crowded is_after bad_edge bad_count unlisted unused linked reached split too_many rows or_refuse answer_of grid_answer
examples_hold = refl

pub tables_hold : found ≡ expected
unfolding found expected seek first last some every count total over pre lo hi position contains face_node same_face has_face face_name joins is_edge outer edge_number start starts_of
tables_hold = refl

pub tried_hold : tried ≡ tried_expected
unfolding tried tried_expected seek first last some every count total pre reach lo hi position contains face_node same_face has_face joins is_edge has_edge start starts_of over filled
    bad_length bad_numbers bad_start bad_lists bad_cell same_cell repeats crowded is_after bad_edge bad_count unlisted unused linked reached split too_many rows or_refuse answer_of grid_answer
    opened open_answer open_starts change_answer set_answer set_counts set_starts set_grid set_all
tried_hold = refl
