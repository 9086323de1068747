-- The examples, by computation. Assumes nothing.
use mathlib.Core.Path.{refl}
use Rattle.counting.specs.Lists.{seek, total, over, tally, gather, pre, it}
use Rattle.counting.specs.Search.{first, last, some, every, count}
use Rattle.counting.specs.Pack.{row, col}
use Rattle.counting.specs.Gcd.{divides, gcd}
use Rattle.counting.specs.Reach.{reach}
use Rattle.slots.specs.Slots.{lo, hi, position, lower, upper, edge_between, slot_edge, edge_rank, contains, first_slot, second_slot}
use Rattle.face.specs.Face as face
use Rattle.face.specs.Face.{is_level}
use Rattle.walk.specs.Walk.{orbit}
use Rattle.walk.specs.Step as step
use Rattle.walk.specs.Walk as walk
use Rattle.cell.specs.Cell as cell
use Rattle.cell.specs.Loop as loop
use Rattle.grid.specs.Grid.{face_node, same_face, has_face, face_name, joins, is_edge, has_edge, edge_number, start, starts_of}
use Rattle.answer.specs.Rows.{or_refuse, answer_of}
use Rattle.grid.specs.Rows.{bad_length, bad_numbers, bad_start, bad_lists, bad_cell, same_cell, repeats, crowded, is_after, bad_edge, bad_count, unlisted, unused, linked, reached, split, too_many, rows, grid_answer}
use Rattle.cell.specs.Triangles as triangle
use Rattle.cell.specs.Words.{corner_words, words}
use Rattle.cell.specs.Nodes.{joining, corner_from}
use Rattle.cell.specs.Level.{is_level_cell}
use Rattle.booking.specs.Booking.{median, corner_on, least_corner, left_between, larger, smaller, is_split}
use Rattle.booking.specs.Figures.{are_spiral, are_split}
use Rattle.split.specs.Parts.{drawn_parts, drawn_triangles, splits_of}
use Rattle.mesh.specs.Mesh.{grid_cell, mesh_triangles, mesh_splits, mesh_words}
use Rattle.mesh.specs.Room.{room_answer}
use Rattle.mesh.specs.Answer.{mesh_answer}
use Rattle.bundle.specs.Record as bytes
use Rattle.bundle.specs.Bundle as bundle
use Rattle.bundle.specs.Written.{kind_for, count_bytes, cell_bytes, edge_bytes, bundle_bytes}
use Rattle.listing.specs.Text.{digits, decimal, with_label, refused_line, head, word_text, word_at, line}
use Rattle.listing.specs.Listing.{or_refused, mesh_listing, grid_listing, bundle_listing, listing}
use Rattle.listing.specs.examples.Examples.{Examples}

pub computed : Examples
unfolding seek first last some every count total over tally pre row col divides gcd reach
    lo hi position lower upper edge_between slot_edge edge_rank contains first_slot second_slot
    face.other face.opposite face.half_above face.corner_count face.residual face.count_on face.others face.kth face.corner_count_at face.partner face.face_answer face.face_join is_level
    it orbit step.face step.land step.step walk.status walk.turn walk.size walk.loop_at
    cell.ahead cell.base cell.holds cell.edge cell.index cell.answer_at cell.join_at cell.joined_to cell.mate cell.slot cell.step
    loop.loop_size loop.dart loop.loop_darts loop.folded loop.normal loop.parity loop.node_with loop.type_by loop.in_grid loop.type_of loop.leasts loop.loop_told loop.loop_answer
    face_node same_face has_face face_name joins is_edge has_edge edge_number start starts_of
    bad_length bad_numbers bad_start bad_lists bad_cell same_cell repeats crowded is_after bad_edge bad_count unlisted unused linked reached split too_many rows or_refuse answer_of grid_answer
    triangle.number_of triangle.segment_of triangle.point triangle.segment triangle.triangle triangle.loop_triangles triangle.cell_triangles
    joining corner_from is_level_cell median corner_on least_corner left_between larger smaller is_split are_spiral are_split drawn_parts drawn_triangles splits_of
    corner_words words gather grid_cell mesh_triangles mesh_splits mesh_words room_answer mesh_answer
    bytes.length_of bytes.kind_at bytes.next_record bytes.count_at bytes.may_have bytes.is_record bytes.body_start bytes.body_size bytes.body
    bundle.section_of bundle.is_of bundle.record_start bundle.run bundle.cells bundle.edges_from bundle.edges bundle.looks_from bundle.looks bundle.stop bundle.same_pair bundle.is_for bundle.is_stray bundle.first_stray
    bundle.count_from bundle.count_after bundle.surviving bundle.bundle_answer bundle.nodes_of bundle.ends_of bundle.counts_of
    kind_for count_bytes cell_bytes edge_bytes bundle_bytes
    digits decimal with_label refused_line head word_text word_at line or_refused mesh_listing grid_listing bundle_listing listing
computed = refl
