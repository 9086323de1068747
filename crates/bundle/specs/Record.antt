-- One record of a bundle (01): what stands at a start, and its body. Bytes are numbers below 256, and a number of 16 bits has its low byte first.
use Rattle.std.specs.Prelude.{ℕ, ◌+◌, ◌-◌, ◌*◌, Bool, true, ◌&&◌, List, [], ◌∷◌, Result, ltb, leb, eqb, length, get_or, take, drop}
use Rattle.answer.specs.Answer.{result_of, refusal}
use Rattle.answer.specs.Refusal.{answer_numbers}
use Rattle.answer.specs.declared.Refusal.{Refusal}
use Rattle.counting.specs.Pick.{pick}
use Rattle.bundle.specs.declared.kinds.Kind.{Kind}
use Rattle.bundle.specs.declared.kinds.Kind.TheVariants.{Cell, Edge, End, Wide, Look}
use Rattle.bundle.specs.declared.records.Record.{Record}

-- the values of a byte
abbrev pub byte_values : ℕ
byte_values = 256

-- the row of the table of refusals that speaks of records
abbrev pub broken_row : ℕ
broken_row = 13

-- the kinds of records; an edge has kind 2 where a byte holds its count, and kind 4 where none does; kind 5 is a later look at an edge, with a new
-- count
abbrev pub cell_kind : ℕ
cell_kind = 1

abbrev pub edge_kind : ℕ
edge_kind = 2

abbrev pub end_kind : ℕ
end_kind = 3

abbrev pub wide_kind : ℕ
wide_kind = 4

abbrev pub look_kind : ℕ
look_kind = 5

-- the number of a kind
abbrev pub kind_number : Kind → ℕ
kind_number Cell = cell_kind
kind_number Edge = edge_kind
kind_number End = end_kind
kind_number Wide = wide_kind
kind_number Look = look_kind

-- the bytes of a number of 16 bits; of the length; and of length and kind, which stand before the body
abbrev pub word_size : ℕ
word_size = 2

abbrev pub length_bytes : ℕ
length_bytes = word_size

abbrev pub head_bytes : ℕ
head_bytes = length_bytes + word_size

-- the lengths of the kinds, which count the bytes after the length itself
abbrev pub cell_length : ℕ
cell_length = 10

abbrev pub edge_length : ℕ
edge_length = 7

abbrev pub end_length : ℕ
end_length = 2

abbrev pub wide_length : ℕ
wide_length = 8

abbrev pub look_length : ℕ
look_length = 8

-- the length that a record of a kind has; 0 where the number is no kind
unfoldable pub length_of : ℕ → ℕ
length_of kind = pick (eqb kind cell_kind) cell_length (pick (eqb kind edge_kind) edge_length (pick (eqb kind end_kind) end_length (pick (eqb kind wide_kind) wide_length (pick (eqb kind look_kind) look_length 0))))

-- the number of 16 bits at a place
abbrev pub word : List ℕ → ℕ → ℕ
word s at = get_or s at 0 + byte_values * get_or s (at + 1) 0

-- the kind of the record at a place, and where the next one starts
unfoldable pub kind_at : List ℕ → ℕ → ℕ
kind_at s at = word s (at + length_bytes)

unfoldable pub next_record : List ℕ → ℕ → ℕ
next_record s at = at + length_bytes + word s at

-- where the count stands in the body of an edge or a look, after its two ends; and the number there, in the record at a place
abbrev pub count_place : ℕ
count_place = word_size + word_size

unfoldable pub count_at : List ℕ → ℕ → ℕ
count_at s at = word s (at + head_bytes + count_place)

-- a byte does not hold the count
abbrev pub is_wide : ℕ → Bool
is_wide count = leb byte_values count

-- a record of the kind may have the count: kind 4 only one that a byte does not hold. Other kinds have any, or none.
unfoldable pub may_have : ℕ → ℕ → Bool
may_have kind count = pick (eqb kind wide_kind) (is_wide count) true

-- a record stands at a place: its length and kind are there, the kind is one of the five and has this length, all its bytes are there, and the
-- count is one that the kind may have
unfoldable pub is_record : List ℕ → ℕ → Bool
is_record s at =
    leb (at + head_bytes) (length s)
    && ltb 0 (length_of (kind_at s at))
    && eqb (word s at) (length_of (kind_at s at))
    && leb (next_record s at) (length s)
    && may_have (kind_at s at) (count_at s at)

-- the answer for a start: kind and next start, or refusal 13 with the start, or with the input's length where the start is not below it
unfoldable pub record_answer : List ℕ → ℕ → List ℕ
record_answer s at =
    pick (ltb at (length s))
    (pick (is_record s at) (result_of (kind_at s at ∷ next_record s at ∷ [])) (refusal broken_row at))
    (refusal broken_row (length s))

-- where the body starts, and its bytes; no bytes, at the front, where no record stands
unfoldable pub body_start : List ℕ → ℕ → ℕ
body_start s at = pick (is_record s at) (at + head_bytes) 0

unfoldable pub body_size : List ℕ → ℕ → ℕ
body_size s at = pick (is_record s at) (next_record s at - (at + head_bytes)) 0

unfoldable pub body : List ℕ → ℕ → List ℕ
body s at = take (body_size s at) (drop (body_start s at) s)

-- what the record reader answers, as document 01's numbers
abbrev pub record_numbers : Result Record Refusal → List ℕ
record_numbers = answer_numbers (λ r. kind_number r.kind ∷ r.next ∷ [])
