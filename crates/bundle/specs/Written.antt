-- The bytes of a bundle, and what the writer answers.
use Rattle.std.specs.Prelude.{ℕ, ◌+◌, ◌*◌, ◌/◌, ◌%◌, min, Bool, ◌&&◌, List, [], ◌∷◌, ◌++◌, Result, leb, eqb, length, get_or}
use Rattle.answer.specs.Answer.{result_of, refusal}
use Rattle.answer.specs.Refusal.{answer_numbers}
use Rattle.answer.specs.declared.Refusal.{Refusal}
use Rattle.counting.specs.Pick.{pick}
use Rattle.counting.specs.Lists.{over}
use Rattle.bundle.specs.Record.{byte_values, cell_kind, edge_kind, end_kind, wide_kind, length_of, is_wide, broken_row}
use Rattle.bundle.specs.Bundle.{cell_nodes, edge_ends, short_row, leaves}

-- the greatest number of bytes that a refusal names
abbrev pub most_named : ℕ
most_named = 4294967295

-- the two bytes of a number of 16 bits
abbrev pub word_bytes : ℕ → List ℕ
word_bytes x = x % byte_values ∷ x / byte_values ∷ []

-- a record: its length, its kind, its body
abbrev pub head_of : ℕ → List ℕ
head_of kind = word_bytes (length_of kind) ++ word_bytes kind

abbrev pub record_bytes : ℕ → List ℕ → List ℕ
record_bytes kind body = head_of kind ++ body

-- the bytes of n numbers of a list, from a place on
abbrev pub list_bytes : List ℕ → ℕ → ℕ → List ℕ
list_bytes l from n = over (λ i. word_bytes (get_or l (from + i) 0)) n 0

-- the kind of an edge with a count, and the bytes of the count: one, or two where a byte does not hold it
unfoldable pub kind_for : ℕ → ℕ
kind_for count = pick (is_wide count) wide_kind edge_kind

unfoldable pub count_bytes : ℕ → List ℕ
count_bytes count = pick (is_wide count) (word_bytes count) (count ∷ [])

-- the records of cell k, of edge k, and of the end
unfoldable pub cell_bytes : List ℕ → ℕ → List ℕ
cell_bytes nodes k = record_bytes cell_kind (list_bytes nodes (cell_nodes * k) cell_nodes)

unfoldable pub edge_bytes : List ℕ → List ℕ → ℕ → List ℕ
edge_bytes ends counts k = record_bytes (kind_for (get_or counts k 0)) (list_bytes ends (edge_ends * k) edge_ends ++ count_bytes (get_or counts k 0))

abbrev pub end_record : List ℕ
end_record = record_bytes end_kind []

-- the whole bundle
unfoldable pub bundle_bytes : List ℕ → List ℕ → List ℕ → List ℕ
bundle_bytes nodes ends counts = over (cell_bytes nodes) (length nodes / cell_nodes) 0 ++ over (edge_bytes ends counts) (length counts) 0 ++ end_record

-- the lists have 4 numbers to a cell and 2 to a count
unfoldable pub is_formed : List ℕ → List ℕ → List ℕ → Bool
is_formed nodes ends counts = eqb (length nodes % cell_nodes) 0 && eqb (length ends) (edge_ends * length counts)

-- the bundle of the lists fits an area of this length
unfoldable pub fits_area : List ℕ → List ℕ → List ℕ → ℕ → Bool
fits_area nodes ends counts area = leb (length (bundle_bytes nodes ends counts)) area

unfoldable pub is_written : List ℕ → List ℕ → List ℕ → ℕ → Bool
is_written nodes ends counts area = is_formed nodes ends counts && fits_area nodes ends counts area

-- row 13, then row 14 with the bytes needed, then the number of bytes written
unfoldable pub write_answer : List ℕ → List ℕ → List ℕ → ℕ → List ℕ
write_answer nodes ends counts area =
    pick (is_formed nodes ends counts)
    (pick (fits_area nodes ends counts area)
    (result_of (length (bundle_bytes nodes ends counts) ∷ []))
    (refusal short_row (min (length (bundle_bytes nodes ends counts)) most_named)))
    (refusal broken_row 0)

-- what the writer leaves in its area
abbrev pub area_left : (nodes ends counts area : List ℕ) → List ℕ
area_left nodes ends counts area = leaves (is_written nodes ends counts (length area)) (bundle_bytes nodes ends counts) area

-- what the writer answers, as document 01's numbers
abbrev pub written_numbers : Result ℕ Refusal → List ℕ
written_numbers = answer_numbers (λ n. n ∷ [])
