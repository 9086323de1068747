-- The examples, by computation. Assumes nothing.
use mathlib.Core.Path.{refl}
use Rattle.counting.specs.Lists.{over, seek}
use Rattle.counting.specs.Search.{first, last, some}
use Rattle.bundle.specs.Record.{length_of, kind_at, next_record, count_at, may_have, is_record, record_answer, body_start, body_size, body}
use Rattle.bundle.specs.Bundle.{section_of, is_of, record_start, run, cells, edges_from, edges, looks_from, looks, stop, same_pair, is_for, is_stray, first_stray, count_from, count_after, surviving, is_laid, is_bundle, bundle_answer, has_room, read_answer, nodes_of, ends_of, counts_of}
use Rattle.bundle.specs.Written.{kind_for, count_bytes, cell_bytes, edge_bytes, bundle_bytes, is_formed, fits_area, write_answer}
use Rattle.bundle.specs.examples.Examples.{Examples}

pub computed : Examples
unfolding over first seek last some length_of kind_at next_record count_at may_have is_record record_answer body_start body_size body section_of is_of record_start run cells edges_from edges looks_from looks stop same_pair is_for is_stray first_stray count_from count_after surviving is_laid is_bundle bundle_answer has_room read_answer nodes_of ends_of counts_of kind_for count_bytes cell_bytes edge_bytes bundle_bytes is_formed fits_area write_answer
computed = refl
