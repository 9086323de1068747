-- Every example's answer, segments and words are the definition's: computed equations of lists.
use mathlib.Core.Path.{refl}
use Rattle.answer.specs.Rows.{or_refuse, answer_of}
use Rattle.counting.specs.Lists.{seek, total, over, pre, it}
use Rattle.counting.specs.Search.{first, some, every, count}
use Rattle.counting.specs.Pack.{row, col}
use Rattle.slots.specs.Slots.{lower, upper}
use Rattle.face.specs.Face.{other, opposite, half_above, corner_count, residual, count_on, others, kth, corner_count_at, partner}
use Rattle.walk.specs.Darts.{rev}
use Rattle.walk.specs.Step as walk
use Rattle.walk.specs.Walk.{status, turn, size}
use Rattle.grid.specs.Grid.{joins, start}
use Rattle.grid.specs.Rows.{is_after, bad_edge, bad_count, too_many}
use Rattle.flat.specs.FlatGrid.{same_edge, shares, is_edge, has_edge, edge_number, edge_rank}
use Rattle.flat.specs.Rows.{bad_length, bad_pairs, bad_triangle, same_triangle, repeats, crowded, unlisted, unused, rows, flat_answer}
use Rattle.flat.specs.Join.{rule_two, largest_edge, lessened, flat_corner_at, triangle_answer, flat_join}
use Rattle.flat.specs.Chain.{taken, steps, closes, last_dart, path_steps, path_start, is_path, chain_size, chain_start, chain_words, all_chain_words}
use Rattle.flat.specs.Chains.{crossing_edge, crossing_index, count_of_side, join_at, joined_to, mate, first_triangle, second_triangle, step, chains_words}
use Rattle.flat.specs.Answer.{words_answer, chains_answer}
use Rattle.flat.specs.examples.Examples.{examples, joins_found, joins_expected, words_found, words_expected, answers_found, answers_expected, ExamplesHold, JoinsHold, WordsHold, AnswersHold}

pub examples_hold : ExamplesHold
unfolding examples seek first some every count total over pre lower upper joins is_edge has_edge same_edge shares start
    bad_length bad_pairs bad_triangle same_triangle repeats crowded is_after bad_edge bad_count unlisted unused too_many rows or_refuse answer_of flat_answer
examples_hold = refl

pub joins_hold : JoinsHold
unfolding joins_found joins_expected over seek first every lower upper other opposite half_above corner_count residual count_on others kth corner_count_at partner
    rule_two largest_edge lessened flat_corner_at triangle_answer
joins_hold = refl

pub words_hold : WordsHold
unfolding words_found words_expected over total pre row col seek first some every lower upper other opposite half_above corner_count residual count_on others kth
    corner_count_at partner rule_two largest_edge lessened flat_corner_at triangle_answer flat_join joins start is_edge has_edge edge_number edge_rank it rev walk.face walk.land walk.step
    status turn size taken steps closes last_dart path_steps path_start is_path chain_size chain_start chain_words all_chain_words
    crossing_edge crossing_index count_of_side join_at joined_to mate first_triangle second_triangle step chains_words
words_hold = refl

pub answers_hold : AnswersHold
unfolding answers_found answers_expected over total pre row col seek first some every count lower upper other opposite half_above corner_count residual count_on others kth
    corner_count_at partner rule_two largest_edge lessened flat_corner_at triangle_answer flat_join joins start is_edge has_edge same_edge shares edge_number edge_rank it rev walk.face walk.land walk.step
    status turn size taken steps closes last_dart path_steps path_start is_path chain_size chain_start chain_words all_chain_words
    crossing_edge crossing_index count_of_side join_at joined_to mate first_triangle second_triangle step chains_words
    bad_length bad_pairs bad_triangle same_triangle repeats crowded is_after bad_edge bad_count unlisted unused too_many rows or_refuse answer_of flat_answer words_answer chains_answer
answers_hold = refl
