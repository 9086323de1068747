-- Examples, each with the answer that documents 01 and 02 ask. One computed theorem says that the definitions give these answers.
use Rattle.std.specs.Prelude.{ℕ, ◌+◌, ◌≡◌, List, [], ◌∷◌, ◌++◌, map, take, drop}
use Rattle.answer.specs.Answer.{result_of, refusal}
use Rattle.counting.specs.Lists.{over}
use Rattle.bundle.specs.Record.{record_answer, body_start, body}
use Rattle.bundle.specs.Bundle.{bundle_answer, read_answer, nodes_of, ends_of, counts_of}
use Rattle.bundle.specs.Written.{bundle_bytes, write_answer}

pub record Example : Type 0 where
  pub found : List ℕ
  pub asked : List ℕ

abbrev pub asks : List ℕ → List ℕ → Example
asks found asked = record { found = found; asked = asked }

-- the cell 0 1 2 3; the cell 258 3 4 4095, whose first node has the bytes 2 and 1; the edge 0 1 with count 5
abbrev pub cell : List ℕ
cell = 10 ∷ 0 ∷ 1 ∷ 0 ∷ 0 ∷ 0 ∷ 1 ∷ 0 ∷ 2 ∷ 0 ∷ 3 ∷ 0 ∷ []

abbrev pub high : List ℕ
high = 10 ∷ 0 ∷ 1 ∷ 0 ∷ 2 ∷ 1 ∷ 3 ∷ 0 ∷ 4 ∷ 0 ∷ 255 ∷ 15 ∷ []

abbrev pub edge : List ℕ
edge = 7 ∷ 0 ∷ 2 ∷ 0 ∷ 0 ∷ 0 ∷ 1 ∷ 0 ∷ 5 ∷ []

-- the edge 0 2 with a count of two bytes
abbrev pub wide : ℕ → ℕ → List ℕ
wide low high = 8 ∷ 0 ∷ 4 ∷ 0 ∷ 0 ∷ 0 ∷ 2 ∷ 0 ∷ low ∷ high ∷ []

-- a look: the pair u v, and a count of two bytes
abbrev pub look : ℕ → ℕ → ℕ → ℕ → List ℕ
look u v low high = 8 ∷ 0 ∷ 5 ∷ 0 ∷ u ∷ 0 ∷ v ∷ 0 ∷ low ∷ high ∷ []

-- the end
abbrev pub end : List ℕ
end = 2 ∷ 0 ∷ 3 ∷ 0 ∷ []

-- a record with other bytes for length and kind
abbrev pub headed : ℕ → ℕ → ℕ → ℕ → List ℕ → List ℕ
headed a b c d bytes = a ∷ b ∷ c ∷ d ∷ drop 4 bytes

abbrev pub good : List Example
good =
    asks (bundle_answer end) (result_of (0 ∷ 0 ∷ []))
    ∷ asks (bundle_answer (cell ++ end)) (result_of (1 ∷ 0 ∷ []))
    ∷ asks (bundle_answer (edge ++ end)) (result_of (0 ∷ 1 ∷ []))
    ∷ asks (bundle_answer (cell ++ high ++ edge ++ end)) (result_of (2 ∷ 1 ∷ []))
    ∷ asks (nodes_of (cell ++ high ++ edge ++ end)) (0 ∷ 1 ∷ 2 ∷ 3 ∷ 258 ∷ 3 ∷ 4 ∷ 4095 ∷ [])
    ∷ asks (ends_of (cell ++ high ++ edge ++ end)) (0 ∷ 1 ∷ [])
    ∷ asks (counts_of (cell ++ high ++ edge ++ end)) (5 ∷ [])
    ∷ asks (bundle_answer (wide 0 1 ++ end)) (result_of (0 ∷ 1 ∷ []))
    ∷ asks (bundle_answer (cell ++ wide 0 1 ++ edge ++ wide 255 255 ++ end)) (result_of (1 ∷ 3 ∷ []))
    ∷ asks (ends_of (edge ++ wide 0 1 ++ edge ++ end)) (0 ∷ 1 ∷ 0 ∷ 2 ∷ 0 ∷ 1 ∷ [])
    ∷ asks (counts_of (wide 0 1 ++ edge ++ wide 255 15 ++ wide 255 255 ++ end)) (256 ∷ 5 ∷ 4095 ∷ 65535 ∷ [])
    ∷ []

-- empty; only whole records and no end; a record that is cut short at each place
abbrev pub short : List Example
short =
    asks (bundle_answer []) (refusal 13 0)
    ∷ asks (bundle_answer cell) (refusal 13 12)
    ∷ asks (bundle_answer (cell ++ edge)) (refusal 13 21)
    ∷ (over (λ k. asks (bundle_answer (take (k + 1) cell)) (refusal 13 0) ∷ []) 11 0
    ++ over (λ k. asks (bundle_answer (cell ++ take (k + 1) edge)) (refusal 13 12) ∷ []) 8 0
    ++ over (λ k. asks (bundle_answer (cell ++ take (k + 1) (wide 0 1))) (refusal 13 12) ∷ []) 9 0
    ++ over (λ k. asks (bundle_answer (cell ++ edge ++ take (k + 1) (look 0 1 9 0))) (refusal 13 21) ∷ []) 9 0
    ++ over (λ k. asks (bundle_answer (cell ++ edge ++ take (k + 1) end)) (refusal 13 21) ∷ []) 3 0)

-- a wrong length of each kind, lengths and kinds that are right in their low byte only, no kind, and counts that a byte holds in kind 4
abbrev pub wrong : List Example
wrong =
    asks (bundle_answer (headed 9 0 1 0 cell ++ end)) (refusal 13 0)
    ∷ asks (bundle_answer (headed 11 0 1 0 cell ++ end)) (refusal 13 0)
    ∷ asks (bundle_answer (cell ++ headed 8 0 2 0 edge ++ end)) (refusal 13 12)
    ∷ asks (bundle_answer (cell ++ headed 6 0 2 0 edge ++ end)) (refusal 13 12)
    ∷ asks (bundle_answer (headed 3 0 3 0 end ++ (0 ∷ []))) (refusal 13 0)
    ∷ asks (bundle_answer (headed 10 1 1 0 cell ++ end)) (refusal 13 0)
    ∷ asks (bundle_answer (headed 10 0 1 1 cell ++ end)) (refusal 13 0)
    ∷ asks (bundle_answer (headed 2 0 0 0 end)) (refusal 13 0)
    ∷ asks (bundle_answer (cell ++ headed 2 0 4 0 end)) (refusal 13 12)
    ∷ asks (bundle_answer (headed 7 0 4 0 (wide 0 1) ++ end)) (refusal 13 0)
    ∷ asks (bundle_answer (headed 9 0 4 0 (wide 0 1) ++ end)) (refusal 13 0)
    ∷ asks (bundle_answer (headed 8 0 6 0 (wide 0 1) ++ end)) (refusal 13 0)
    ∷ asks (bundle_answer (edge ++ headed 7 0 5 0 (look 0 1 9 0) ++ end)) (refusal 13 9)
    ∷ asks (bundle_answer (edge ++ headed 9 0 5 0 (look 0 1 9 0) ++ end)) (refusal 13 9)
    ∷ asks (bundle_answer (edge ++ headed 8 0 5 1 (look 0 1 9 0) ++ end)) (refusal 13 9)
    ∷ asks (bundle_answer (edge ++ wide 255 0 ++ end)) (refusal 13 9)
    ∷ asks (bundle_answer (cell ++ wide 0 0 ++ end)) (refusal 13 12)
    ∷ []

-- a cell after an edge, and bytes after the end: one, a second end, a cell
abbrev pub disorder : List Example
disorder =
    asks (bundle_answer (edge ++ cell ++ end)) (refusal 13 9)
    ∷ asks (bundle_answer (cell ++ edge ++ cell ++ end)) (refusal 13 21)
    ∷ asks (bundle_answer (wide 0 1 ++ cell ++ end)) (refusal 13 10)
    ∷ asks (bundle_answer (end ++ (0 ∷ []))) (refusal 13 4)
    ∷ asks (bundle_answer (end ++ end)) (refusal 13 4)
    ∷ asks (bundle_answer (cell ++ end ++ cell)) (refusal 13 16)
    ∷ []

-- later looks: the last for a pair counts, for every edge with it, and whatever its count; they are not among the edges
abbrev pub looked : List Example
looked =
    asks (bundle_answer (cell ++ edge ++ look 0 1 9 0 ++ end)) (result_of (1 ∷ 1 ∷ []))
    ∷ asks (counts_of (cell ++ edge ++ look 0 1 9 0 ++ end)) (9 ∷ [])
    ∷ asks (ends_of (cell ++ edge ++ look 0 1 9 0 ++ end)) (0 ∷ 1 ∷ [])
    ∷ asks (bundle_answer (edge ++ look 0 1 9 0 ++ look 0 1 3 0 ++ end)) (result_of (0 ∷ 1 ∷ []))
    ∷ asks (counts_of (edge ++ look 0 1 9 0 ++ look 0 1 3 0 ++ end)) (3 ∷ [])
    ∷ asks (counts_of (edge ++ wide 0 1 ++ look 0 2 7 0 ++ look 0 1 9 0 ++ look 0 2 8 0 ++ end)) (9 ∷ 8 ∷ [])
    ∷ asks (counts_of (edge ++ wide 0 1 ++ edge ++ look 0 1 9 0 ++ end)) (9 ∷ 256 ∷ 9 ∷ [])
    ∷ asks (counts_of (edge ++ wide 0 1 ++ look 0 1 0 0 ++ end)) (0 ∷ 256 ∷ [])
    ∷ asks (counts_of (edge ++ look 0 1 0 1 ++ end)) (256 ∷ [])
    ∷ asks (counts_of (edge ++ look 0 1 255 255 ++ end)) (65535 ∷ [])
    ∷ asks (counts_of (wide 0 1 ++ look 0 2 255 0 ++ end)) (255 ∷ [])
    ∷ []

-- a look for no edge: its first byte, the lowest; the pair turned round, or its ends beside other ends; 13 anywhere comes first
abbrev pub strayed : List Example
strayed =
    asks (bundle_answer (edge ++ look 1 0 9 0 ++ end)) (refusal 22 9)
    ∷ asks (bundle_answer (edge ++ look 0 2 9 0 ++ end)) (refusal 22 9)
    ∷ asks (bundle_answer (edge ++ look 2 1 9 0 ++ end)) (refusal 22 9)
    ∷ asks (bundle_answer (look 0 1 9 0 ++ end)) (refusal 22 0)
    ∷ asks (bundle_answer (cell ++ look 0 1 9 0 ++ end)) (refusal 22 12)
    ∷ asks (bundle_answer (edge ++ look 0 1 9 0 ++ look 1 0 9 0 ++ look 0 1 3 0 ++ look 5 6 1 0 ++ end)) (refusal 22 19)
    ∷ asks (bundle_answer (edge ++ look 1 0 9 0 ++ end ++ (0 ∷ []))) (refusal 13 23)
    ∷ asks (bundle_answer (edge ++ look 1 0 9 0)) (refusal 13 19)
    ∷ asks (bundle_answer (edge ++ look 1 0 9 0 ++ edge ++ end)) (refusal 13 19)
    ∷ asks (bundle_answer (look 0 1 9 0 ++ edge ++ end)) (refusal 13 10)
    ∷ asks (bundle_answer (look 0 1 9 0 ++ cell ++ edge ++ end)) (refusal 13 10)
    ∷ asks (bundle_answer (edge ++ look 0 1 9 0 ++ cell ++ end)) (refusal 13 19)
    ∷ asks (bundle_answer (edge ++ end ++ look 0 1 9 0)) (refusal 13 13)
    ∷ []

-- one record at a start, whatever its order, and its body
abbrev pub starts : List Example
starts =
    asks (record_answer (cell ++ edge ++ end) 0) (result_of (1 ∷ 12 ∷ []))
    ∷ asks (record_answer (cell ++ edge ++ end) 12) (result_of (2 ∷ 21 ∷ []))
    ∷ asks (record_answer (end ++ cell) 4) (result_of (1 ∷ 16 ∷ []))
    ∷ asks (record_answer (cell ++ end) 1) (refusal 13 1)
    ∷ asks (record_answer (cell ++ end) 16) (refusal 13 16)
    ∷ asks (record_answer (cell ++ end) 17) (refusal 13 16)
    ∷ asks (record_answer [] 0) (refusal 13 0)
    ∷ asks (body (cell ++ edge ++ end) 12) (0 ∷ 0 ∷ 1 ∷ 0 ∷ 5 ∷ [])
    ∷ asks (body_start (cell ++ edge ++ end) 12 ∷ []) (16 ∷ [])
    ∷ asks (body end 0) []
    ∷ asks (body_start end 0 ∷ []) (4 ∷ [])
    ∷ asks (body (cell ++ end) 1) []
    ∷ asks (body_start (cell ++ end) 1 ∷ []) (0 ∷ [])
    ∷ asks (record_answer (edge ++ wide 0 1 ++ end) 9) (result_of (4 ∷ 19 ∷ []))
    ∷ asks (body (edge ++ wide 0 1 ++ end) 9) (0 ∷ 0 ∷ 2 ∷ 0 ∷ 0 ∷ 1 ∷ [])
    ∷ asks (record_answer (edge ++ look 7 6 255 0 ++ end) 9) (result_of (5 ∷ 19 ∷ []))
    ∷ asks (body (edge ++ look 7 6 255 0 ++ end) 9) (7 ∷ 0 ∷ 6 ∷ 0 ∷ 255 ∷ 0 ∷ [])
    ∷ asks (body_start (edge ++ look 7 6 255 0 ++ end) 9 ∷ []) (13 ∷ [])
    ∷ asks (record_answer (wide 255 0 ++ end) 0) (refusal 13 0)
    ∷ asks (body (wide 255 0 ++ end) 0) []
    ∷ []

-- lent lists that hold the bundle, and each of them one too short; 13 and 22 come before 14
abbrev pub lent : List Example
lent =
    asks (read_answer (cell ++ high ++ edge ++ end) 8 2 1) (result_of (2 ∷ 1 ∷ []))
    ∷ asks (read_answer (cell ++ high ++ edge ++ end) 9 7 3) (result_of (2 ∷ 1 ∷ []))
    ∷ asks (read_answer (cell ++ high ++ edge ++ end) 7 2 1) (refusal 14 0)
    ∷ asks (read_answer (cell ++ high ++ edge ++ end) 8 1 1) (refusal 14 0)
    ∷ asks (read_answer (cell ++ high ++ edge ++ end) 8 2 0) (refusal 14 0)
    ∷ asks (read_answer (cell ++ edge) 0 0 0) (refusal 13 21)
    ∷ asks (read_answer (cell ++ edge ++ look 0 1 9 0 ++ look 0 1 3 0 ++ end) 4 2 1) (result_of (1 ∷ 1 ∷ []))
    ∷ asks (read_answer (cell ++ edge ++ look 0 1 9 0 ++ end) 4 2 0) (refusal 14 0)
    ∷ asks (read_answer (cell ++ edge ++ look 1 0 9 0 ++ end) 0 0 0) (refusal 22 21)
    ∷ []

-- the writer: bytes, lists that are not formed, an area one byte too short
abbrev pub writes : List Example
writes =
    asks (bundle_bytes [] [] []) end
    ∷ asks (bundle_bytes (258 ∷ 3 ∷ 4 ∷ 4095 ∷ []) (0 ∷ 1 ∷ []) (5 ∷ [])) (high ++ edge ++ end)
    ∷ asks (bundle_bytes [] (0 ∷ 2 ∷ 0 ∷ 1 ∷ 0 ∷ 2 ∷ []) (256 ∷ 5 ∷ 65535 ∷ [])) (wide 0 1 ++ edge ++ wide 255 255 ++ end)
    ∷ asks (bundle_bytes [] (0 ∷ 1 ∷ []) (255 ∷ [])) (take 8 edge ++ (255 ∷ []) ++ end)
    ∷ asks (write_answer [] (0 ∷ 2 ∷ []) (256 ∷ []) 14) (result_of (14 ∷ []))
    ∷ asks (write_answer [] (0 ∷ 2 ∷ []) (256 ∷ []) 13) (refusal 14 14)
    ∷ asks (write_answer (0 ∷ 1 ∷ 2 ∷ 3 ∷ []) (0 ∷ 1 ∷ []) (5 ∷ []) 25) (result_of (25 ∷ []))
    ∷ asks (write_answer (0 ∷ 1 ∷ 2 ∷ 3 ∷ []) (0 ∷ 1 ∷ []) (5 ∷ []) 24) (refusal 14 25)
    ∷ asks (write_answer [] [] [] 0) (refusal 14 4)
    ∷ asks (write_answer (0 ∷ 1 ∷ 2 ∷ []) [] [] 100) (refusal 13 0)
    ∷ asks (write_answer [] (0 ∷ 1 ∷ 2 ∷ []) (5 ∷ []) 100) (refusal 13 0)
    ∷ asks (write_answer [] (0 ∷ 1 ∷ 2 ∷ 3 ∷ []) (5 ∷ []) 0) (refusal 13 0)
    ∷ []

abbrev pub examples : List Example
examples = good ++ short ++ wrong ++ disorder ++ looked ++ strayed ++ starts ++ lent ++ writes

-- the definitions give what is asked, for each
abbrev pub Examples : Type 0
Examples = map (λ x. x.found) examples ≡ map (λ x. x.asked) examples
