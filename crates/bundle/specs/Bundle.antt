-- A bundle (01, and 02's W7): cells, then edges, then later looks at edges, then one end. What the reader answers, and the lists that the bytes mean.
use Rattle.std.specs.Prelude.{ℕ, zero, suc, ◌*◌, Bool, not, ◌&&◌, List, [], ◌∷◌, ◌++◌, Result, ltb, leb, eqb, length, drop}
use Rattle.answer.specs.Answer.{result_of, refusal}
use Rattle.answer.specs.Refusal.{answer_numbers}
use Rattle.answer.specs.declared.Refusal.{Refusal}
use Rattle.counting.specs.Pick.{pick}
use Rattle.counting.specs.Lists.{over, values}
use Rattle.counting.specs.Search.{first, last, some}
use Rattle.bundle.specs.Record.{cell_kind, edge_kind, end_kind, wide_kind, look_kind, broken_row, word_size, count_place, word, kind_at, next_record, is_record, body}
use Rattle.bundle.specs.declared.reader.Lists.{Lists}

-- the rows of the table of refusals that speak of short lists, and of looks for no edge (02, W7)
abbrev pub short_row : ℕ
short_row = 14

abbrev pub stray_row : ℕ
stray_row = 22

-- the sections of a bundle, in their order
abbrev pub cell_section : ℕ
cell_section = 1

abbrev pub edge_section : ℕ
edge_section = 2

abbrev pub look_section : ℕ
look_section = 3

abbrev pub end_section : ℕ
end_section = 4

-- the section that records of a kind stand in; 0 where the number is no kind
unfoldable pub section_of : ℕ → ℕ
section_of kind = pick (eqb kind cell_kind) cell_section (pick (eqb kind edge_kind) edge_section (pick (eqb kind wide_kind) edge_section (pick (eqb kind look_kind) look_section (pick (eqb kind end_kind) end_section 0))))

abbrev pub section_at : List ℕ → ℕ → ℕ
section_at s at = section_of (kind_at s at)

-- a record of a section stands at a place
unfoldable pub is_of : List ℕ → ℕ → ℕ → Bool
is_of s section at = is_record s at && eqb (section_at s at) section

-- where record k from a place on starts, each after the one before it
unfoldable pub record_start : List ℕ → ℕ → ℕ → ℕ
record_start s from zero = from
record_start s from (suc k) = next_record s (record_start s from k)

-- how many records of a section stand from a place on, one after the other
unfoldable pub run : List ℕ → ℕ → ℕ → ℕ
run s section from = first (λ k. not (is_of s section (record_start s from k))) (suc (length s))

-- the cells, the edges after them, the looks after these, and the place where all these stop
unfoldable pub cells : List ℕ → ℕ
cells s = run s cell_section 0

unfoldable pub edges_from : List ℕ → ℕ
edges_from s = record_start s 0 (cells s)

unfoldable pub edges : List ℕ → ℕ
edges s = run s edge_section (edges_from s)

unfoldable pub looks_from : List ℕ → ℕ
looks_from s = record_start s (edges_from s) (edges s)

unfoldable pub looks : List ℕ → ℕ
looks s = run s look_section (looks_from s)

unfoldable pub stop : List ℕ → ℕ
stop s = record_start s (looks_from s) (looks s)

-- where edge n and look k start
abbrev pub edge_at : List ℕ → ℕ → ℕ
edge_at s n = record_start s (edges_from s) n

abbrev pub look_at : List ℕ → ℕ → ℕ
look_at s k = record_start s (looks_from s) k

-- end i of an edge or a look, u or v, from its body; and its count, after the two. A count of one byte ends the body, and the high byte that is not
-- there is read as 0.
abbrev pub end_in : List ℕ → ℕ → ℕ
end_in b i = word b (word_size * i)

abbrev pub count_in : List ℕ → ℕ
count_in b = word b count_place

-- the bodies a and b have the same pair u, v, compared as it stands
unfoldable pub same_pair : List ℕ → List ℕ → Bool
same_pair a b = eqb (end_in a 0) (end_in b 0) && eqb (end_in a 1) (end_in b 1)

-- look k is for edge n
unfoldable pub is_for : List ℕ → ℕ → ℕ → Bool
is_for s n k = same_pair (body s (edge_at s n)) (body s (look_at s k))

-- look k is for none of the edges; and the lowest such look, or the number of looks where there is none
unfoldable pub is_stray : List ℕ → ℕ → Bool
is_stray s k = not (some (λ n. is_for s n k) (edges s))

unfoldable pub first_stray : List ℕ → ℕ
first_stray s = first (is_stray s) (looks s)

-- row 13 over everything: there an end has to stand, with nothing after it. Where none stands, the fault starts at that place, which is the
-- input's length if only whole records were met; where bytes follow the end, it starts at the first of these. Then row 22, at the start of the
-- lowest look that is for no edge.
unfoldable pub bundle_answer : List ℕ → List ℕ
bundle_answer s =
    pick (is_of s end_section (stop s))
    (pick (eqb (next_record s (stop s)) (length s))
    (pick (ltb (first_stray s) (looks s)) (refusal stray_row (look_at s (first_stray s))) (result_of (cells s ∷ edges s ∷ [])))
    (refusal broken_row (next_record s (stop s))))
    (refusal broken_row (stop s))

-- row 13 finds nothing; and row 22 neither
unfoldable pub is_laid : List ℕ → Bool
is_laid s = is_of s end_section (stop s) && eqb (next_record s (stop s)) (length s)

unfoldable pub is_bundle : List ℕ → Bool
is_bundle s = is_laid s && leb (looks s) (first_stray s)

-- the numbers that a cell has in the list of nodes, and an edge in the list of ends
abbrev pub cell_nodes : ℕ
cell_nodes = 4

abbrev pub edge_ends : ℕ
edge_ends = 2

-- the first n numbers of 16 bits in a body: the nodes of a cell, the ends of an edge
abbrev pub leading_words : ℕ → List ℕ → List ℕ
leading_words n b = over (λ i. word b (word_size * i) ∷ []) n 0

-- the count of edge n from look k, where p is k + 1; its own where p is 0
unfoldable pub count_from : List ℕ → ℕ → ℕ → ℕ
count_from s n zero = count_in (body s (edge_at s n))
count_from s n (suc k) = count_in (body s (look_at s k))

-- the count of edge n after the first m looks: that of the last of them that is for it, or its own; and the surviving count (02, W7), after all
unfoldable pub count_after : List ℕ → ℕ → ℕ → ℕ
count_after s m n = count_from s n (last (is_for s n) m)

unfoldable pub surviving : List ℕ → ℕ → ℕ
surviving s n = count_after s (looks s) n

-- the three lists
unfoldable pub nodes_of : List ℕ → List ℕ
nodes_of s = over (λ k. leading_words cell_nodes (body s (record_start s 0 k))) (cells s) 0

unfoldable pub ends_of : List ℕ → List ℕ
ends_of s = over (λ k. leading_words edge_ends (body s (edge_at s k))) (edges s) 0

unfoldable pub counts_of : List ℕ → List ℕ
counts_of s = values (surviving s) (edges s)

-- lent lists of these lengths hold the bundle's
unfoldable pub has_room : List ℕ → ℕ → ℕ → ℕ → Bool
has_room s nodes ends counts = leb (cell_nodes * cells s) nodes && leb (edge_ends * edges s) ends && leb (edges s) counts

-- the reader takes the bundle into lists of these lengths
unfoldable pub is_taken : List ℕ → ℕ → ℕ → ℕ → Bool
is_taken s nodes ends counts = is_bundle s && has_room s nodes ends counts

-- rows 13 and 22, then row 14
unfoldable pub read_answer : List ℕ → ℕ → ℕ → ℕ → List ℕ
read_answer s nodes ends counts = pick (is_bundle s && not (has_room s nodes ends counts)) (refusal short_row 0) (bundle_answer s)

-- a list written over the front of a lent one, which keeps its values beyond
abbrev pub written_over : List ℕ → List ℕ → List ℕ
written_over new old = new ++ drop (length new) old

-- a lent list after a call that writes `new` over its front where it accepts, and else leaves it as it is
abbrev pub leaves : Bool → List ℕ → List ℕ → List ℕ
leaves taken new old = pick taken (written_over new old) old

-- what the reader leaves in the three lists that it is lent
module _ (s nodes ends counts : List ℕ) where
  abbrev pub nodes_left : List ℕ
  nodes_left = leaves (is_taken s (length nodes) (length ends) (length counts)) (nodes_of s) nodes

  abbrev pub ends_left : List ℕ
  ends_left = leaves (is_taken s (length nodes) (length ends) (length counts)) (ends_of s) ends

  abbrev pub counts_left : List ℕ
  counts_left = leaves (is_taken s (length nodes) (length ends) (length counts)) (counts_of s) counts

-- what the reader answers, as document 01's numbers
abbrev pub contents_numbers : Result Lists Refusal → List ℕ
contents_numbers = answer_numbers (λ l. l.cells ∷ l.edges ∷ [])
