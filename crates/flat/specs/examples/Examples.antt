-- Flat grids and their answers: each row of the check, limits, several faults; the answers of the crossings of a triangle; chains.
use Rattle.std.specs.Prelude.{ℕ, ◌≡◌, List, [], ◌∷◌, ◌++◌, map}
use Rattle.answer.specs.Answer.{result_of, refusal}
use Rattle.counting.specs.Lists.{values}
use Rattle.flat.specs.FlatGrid.{FlatGrid, flat_of}
use Rattle.face.specs.Face.{round, along, left, skipped, joined_by, unjoined_by}
use Rattle.flat.specs.Rows.{flat_answer}
use Rattle.flat.specs.Join.{triangle_answer}
use Rattle.flat.specs.Chains.{chains_words}
use Rattle.flat.specs.Answer.{chains_answer}

-- CHECK

pub record Example : Type 0 where
  pub grid : FlatGrid
  pub answer : List ℕ

abbrev example : List ℕ → List ℕ → List ℕ → List ℕ → Example
example triangles edges counts answer = record { grid = flat_of triangles edges counts; answer = answer }

-- one triangle and its three edges
abbrev triangle : List ℕ
triangle = 0 ∷ 1 ∷ 2 ∷ []

abbrev three : List ℕ
three = 0 ∷ 1 ∷ 0 ∷ 2 ∷ 1 ∷ 2 ∷ []

abbrev zeros : List ℕ
zeros = 0 ∷ 0 ∷ 0 ∷ []

-- triangles 012 and 013, which share the edge 01
abbrev two : List ℕ
two = 0 ∷ 1 ∷ 2 ∷ 0 ∷ 1 ∷ 3 ∷ []

abbrev five : List ℕ
five = 0 ∷ 1 ∷ 0 ∷ 2 ∷ 0 ∷ 3 ∷ 1 ∷ 2 ∷ 1 ∷ 3 ∷ []

-- triangles 012 and 034, which share the node 0 alone
abbrev touching : List ℕ
touching = 0 ∷ 1 ∷ 2 ∷ 0 ∷ 3 ∷ 4 ∷ []

abbrev touching_edges : List ℕ
touching_edges = 0 ∷ 1 ∷ 0 ∷ 2 ∷ 0 ∷ 3 ∷ 0 ∷ 4 ∷ 1 ∷ 2 ∷ 3 ∷ 4 ∷ []

-- six triangles that share no node
abbrev loose : List ℕ
loose = values (λ i. i) 18

abbrev loose_edges : List ℕ
loose_edges = 0 ∷ 1 ∷ 0 ∷ 2 ∷ 1 ∷ 2 ∷ 3 ∷ 4 ∷ 3 ∷ 5 ∷ 4 ∷ 5 ∷ 6 ∷ 7 ∷ 6 ∷ 8 ∷ 7 ∷ 8 ∷ 9 ∷ 10 ∷ 9 ∷ 11 ∷ 10 ∷ 11 ∷ 12 ∷ 13 ∷ 12 ∷ 14 ∷ 13 ∷ 14 ∷ 15 ∷ 16 ∷ 15 ∷ 17 ∷ 16 ∷ 17 ∷ []

-- the greatest count sixteen times, and two more counts
abbrev sixteen : ℕ → ℕ → List ℕ
sixteen a b = values (λ i. 4095) 16 ++ (a ∷ b ∷ [])

unfoldable pub examples : List Example
examples =
    -- accepted: no crossing, and one count for each edge; two triangles that share an edge; two that share a node alone, which row 9 would have no say in
    example triangle three zeros (result_of (0 ∷ []))
    ∷ example triangle three (1 ∷ 2 ∷ 3 ∷ []) (result_of (6 ∷ []))
    ∷ example two five (1 ∷ 2 ∷ 3 ∷ 4 ∷ 5 ∷ []) (result_of (15 ∷ []))
    ∷ example touching touching_edges (1 ∷ 0 ∷ 0 ∷ 0 ∷ 0 ∷ 1 ∷ []) (result_of (2 ∷ []))
    -- 1: four numbers, two, none
    ∷ example (0 ∷ 1 ∷ 2 ∷ 3 ∷ []) three zeros (refusal 1 0)
    ∷ example (0 ∷ 1 ∷ []) three zeros (refusal 1 0)
    ∷ example [] [] [] (refusal 1 0)
    -- 2: three numbers and one count, one count too few, one too many
    ∷ example triangle (0 ∷ 1 ∷ 0 ∷ []) (0 ∷ []) (refusal 2 0)
    ∷ example triangle three (0 ∷ 0 ∷ []) (refusal 2 0)
    ∷ example triangle three (0 ∷ 0 ∷ 0 ∷ 0 ∷ []) (refusal 2 0)
    -- 3: 0 2 1, a node twice, the node 4,096, the highest 16-bit node in the second triangle; 4,095 is no fault, and then its edges are not listed
    ∷ example (0 ∷ 2 ∷ 1 ∷ []) three zeros (refusal 3 0)
    ∷ example (0 ∷ 1 ∷ 1 ∷ []) three zeros (refusal 3 0)
    ∷ example (0 ∷ 1 ∷ 4096 ∷ []) three zeros (refusal 3 0)
    ∷ example (0 ∷ 1 ∷ 2 ∷ 0 ∷ 1 ∷ 65535 ∷ []) three zeros (refusal 3 1)
    ∷ example (0 ∷ 1 ∷ 4095 ∷ []) three zeros (refusal 7 0)
    -- 4: 0 1 2 twice, and a triangle again after another
    ∷ example (0 ∷ 1 ∷ 2 ∷ 0 ∷ 1 ∷ 2 ∷ []) three zeros (refusal 4 1)
    ∷ example (0 ∷ 1 ∷ 2 ∷ 0 ∷ 1 ∷ 3 ∷ 0 ∷ 1 ∷ 2 ∷ []) three zeros (refusal 4 2)
    -- 5: the edge 0 1 with 2, 3, 4; the fourth triangle of it is no lower fault; the edge as ab, as ac and as bc
    ∷ example (0 ∷ 1 ∷ 2 ∷ 0 ∷ 1 ∷ 3 ∷ 0 ∷ 1 ∷ 4 ∷ []) three zeros (refusal 5 2)
    ∷ example (0 ∷ 1 ∷ 2 ∷ 0 ∷ 1 ∷ 3 ∷ 0 ∷ 1 ∷ 4 ∷ 0 ∷ 1 ∷ 5 ∷ []) three zeros (refusal 5 2)
    ∷ example (1 ∷ 3 ∷ 4 ∷ 1 ∷ 2 ∷ 3 ∷ 5 ∷ 6 ∷ 7 ∷ 0 ∷ 1 ∷ 3 ∷ []) three zeros (refusal 5 3)
    -- 6: 1 1, an edge twice, two edges in the wrong order by the lower end and by the higher
    ∷ example triangle (1 ∷ 1 ∷ 0 ∷ 2 ∷ 1 ∷ 2 ∷ []) zeros (refusal 6 0)
    ∷ example triangle (0 ∷ 1 ∷ 0 ∷ 1 ∷ 1 ∷ 2 ∷ []) zeros (refusal 6 1)
    ∷ example triangle (0 ∷ 1 ∷ 1 ∷ 2 ∷ 0 ∷ 2 ∷ []) zeros (refusal 6 2)
    ∷ example triangle (0 ∷ 2 ∷ 0 ∷ 1 ∷ 1 ∷ 2 ∷ []) zeros (refusal 6 1)
    -- 18: 4,095 is allowed, one more is not; the lowest of two
    ∷ example triangle three (0 ∷ 4095 ∷ 0 ∷ []) (result_of (4095 ∷ []))
    ∷ example triangle three (0 ∷ 4096 ∷ 0 ∷ []) (refusal 18 1)
    ∷ example triangle three (0 ∷ 4096 ∷ 65535 ∷ []) (refusal 18 1)
    -- 7: without 1 2, without any, an edge of the second triangle
    ∷ example triangle (0 ∷ 1 ∷ 0 ∷ 2 ∷ []) (0 ∷ 0 ∷ []) (refusal 7 0)
    ∷ example triangle [] [] (refusal 7 0)
    ∷ example two (0 ∷ 1 ∷ 0 ∷ 2 ∷ 0 ∷ 3 ∷ 1 ∷ 2 ∷ []) (0 ∷ 0 ∷ 0 ∷ 0 ∷ []) (refusal 7 1)
    -- 8: 7 8 added, and 0 3 among the others
    ∷ example triangle (0 ∷ 1 ∷ 0 ∷ 2 ∷ 1 ∷ 2 ∷ 7 ∷ 8 ∷ []) (0 ∷ 0 ∷ 0 ∷ 0 ∷ []) (refusal 8 3)
    ∷ example triangle (0 ∷ 1 ∷ 0 ∷ 2 ∷ 0 ∷ 3 ∷ 1 ∷ 2 ∷ 7 ∷ 8 ∷ []) (0 ∷ 0 ∷ 0 ∷ 0 ∷ 0 ∷ []) (refusal 8 2)
    -- 10: 65,535 crossings are allowed, one more is not
    ∷ example loose loose_edges (sixteen 15 0) (result_of (65535 ∷ []))
    ∷ example loose loose_edges (sixteen 15 1) (refusal 10 0)
    -- several faults: the first row, and in it the lowest place; 18 comes after 6 and before 7
    ∷ example (0 ∷ 2 ∷ 1 ∷ 9 ∷ []) (1 ∷ 1 ∷ 1 ∷ []) (65535 ∷ 1 ∷ []) (refusal 1 0)
    ∷ example (0 ∷ 2 ∷ 1 ∷ []) (1 ∷ 1 ∷ 1 ∷ []) (65535 ∷ 1 ∷ []) (refusal 2 0)
    ∷ example (0 ∷ 1 ∷ 2 ∷ 0 ∷ 1 ∷ 2 ∷ 3 ∷ 2 ∷ 1 ∷ []) (1 ∷ 1 ∷ []) (65535 ∷ []) (refusal 3 2)
    ∷ example (0 ∷ 1 ∷ 2 ∷ 0 ∷ 1 ∷ 2 ∷ []) (1 ∷ 1 ∷ []) (65535 ∷ []) (refusal 4 1)
    ∷ example triangle (0 ∷ 1 ∷ 0 ∷ 1 ∷ []) (65535 ∷ 65535 ∷ []) (refusal 6 1)
    ∷ example triangle (0 ∷ 1 ∷ 3 ∷ 4 ∷ []) (65535 ∷ 65535 ∷ []) (refusal 18 0)
    ∷ example triangle (0 ∷ 1 ∷ 3 ∷ 4 ∷ []) (0 ∷ 0 ∷ []) (refusal 7 0)
    ∷ example (loose ++ (18 ∷ 19 ∷ 20 ∷ [])) loose_edges (sixteen 15 1) (refusal 7 6)
    ∷ []

abbrev pub ExamplesHold : Type 0
ExamplesHold = map (λ x. flat_answer x.grid) examples ≡ map (λ x. x.answer) examples

-- SEGMENTS

-- the answers of the crossings of a triangle with these counts, edge by edge
abbrev pub joins_of : ℕ → ℕ → ℕ → List (List ℕ)
joins_of ab ac bc = values (triangle_answer ab ac bc 0) ab ++ (values (triangle_answer ab ac bc 1) ac ++ values (triangle_answer ab ac bc 2) bc)

-- joined to index t of ab, ac or bc round the corner w; joined along the edge e
abbrev ab : ℕ → ℕ → List ℕ
ab t w = joined_by 0 t (round w)

abbrev ac : ℕ → ℕ → List ℕ
ac t w = joined_by 1 t (round w)

abbrev bc : ℕ → ℕ → List ℕ
bc t w = joined_by 2 t (round w)

abbrev on : ℕ → ℕ → List ℕ
on e t = joined_by e t along

unfoldable pub joins_found : List (List (List ℕ))
joins_found =
    -- rule 2: the largest count alone is lessened, so one crossing is left; on a tie the first of ab, ac, bc; and ac or bc as the only largest
    joins_of 1 1 1 ∷ joins_of 3 3 3 ∷ joins_of 4 3 4 ∷ joins_of 1 2 2 ∷ joins_of 2 3 2 ∷ joins_of 2 3 4
    -- rule 1
    ∷ joins_of 2 2 2 ∷ joins_of 2 3 3
    -- rule 3, the first of an odd number skipped; an even number
    ∷ joins_of 5 1 1 ∷ joins_of 0 0 3 ∷ joins_of 1 6 1
    ∷ []

unfoldable pub joins_expected : List (List (List ℕ))
joins_expected =
    (unjoined_by left ∷ bc 0 2 ∷ ac 0 2 ∷ [])
    ∷ (ac 0 0 ∷ unjoined_by left ∷ bc 0 1 ∷ ab 0 0 ∷ bc 1 2 ∷ bc 2 2 ∷ ab 2 1 ∷ ac 1 2 ∷ ac 2 2 ∷ [])
    ∷ (ac 0 0 ∷ unjoined_by left ∷ bc 1 1 ∷ bc 0 1 ∷ ab 0 0 ∷ bc 2 2 ∷ bc 3 2 ∷ ab 3 1 ∷ ab 2 1 ∷ ac 1 2 ∷ ac 2 2 ∷ [])
    ∷ (bc 0 1 ∷ unjoined_by left ∷ bc 1 2 ∷ ab 0 1 ∷ ac 1 2 ∷ [])
    ∷ (ac 0 0 ∷ bc 0 1 ∷ ab 0 0 ∷ unjoined_by left ∷ bc 1 2 ∷ ab 1 1 ∷ ac 2 2 ∷ [])
    ∷ (ac 0 0 ∷ bc 0 1 ∷ ab 0 0 ∷ bc 2 2 ∷ bc 3 2 ∷ ab 1 1 ∷ unjoined_by left ∷ ac 1 2 ∷ ac 2 2 ∷ [])
    ∷ (ac 0 0 ∷ bc 0 1 ∷ ab 0 0 ∷ bc 1 2 ∷ ab 1 1 ∷ ac 1 2 ∷ [])
    ∷ (ac 0 0 ∷ bc 0 1 ∷ ab 0 0 ∷ bc 1 2 ∷ bc 2 2 ∷ ab 1 1 ∷ ac 1 2 ∷ ac 2 2 ∷ [])
    ∷ (ac 0 0 ∷ unjoined_by skipped ∷ on 0 3 ∷ on 0 2 ∷ bc 0 1 ∷ ab 0 0 ∷ ab 4 1 ∷ [])
    ∷ (unjoined_by skipped ∷ on 2 2 ∷ on 2 1 ∷ [])
    ∷ (ac 0 0 ∷ ab 0 0 ∷ on 1 2 ∷ on 1 1 ∷ on 1 4 ∷ on 1 3 ∷ bc 0 2 ∷ ac 5 2 ∷ [])
    ∷ []

abbrev pub JoinsHold : Type 0
JoinsHold = joins_found ≡ joins_expected

-- CHAINS

-- three triangles round node 3, in two orders of the list
abbrev ring : List ℕ
ring = 0 ∷ 1 ∷ 3 ∷ 0 ∷ 2 ∷ 3 ∷ 1 ∷ 2 ∷ 3 ∷ []

abbrev ring_again : List ℕ
ring_again = 1 ∷ 2 ∷ 3 ∷ 0 ∷ 2 ∷ 3 ∷ 0 ∷ 1 ∷ 3 ∷ []

abbrev ring_edges : List ℕ
ring_edges = 0 ∷ 1 ∷ 0 ∷ 2 ∷ 0 ∷ 3 ∷ 1 ∷ 2 ∷ 1 ∷ 3 ∷ 2 ∷ 3 ∷ []

-- five triangles in a Möbius band
abbrev band : List ℕ
band = 0 ∷ 1 ∷ 2 ∷ 1 ∷ 2 ∷ 3 ∷ 2 ∷ 3 ∷ 4 ∷ 0 ∷ 3 ∷ 4 ∷ 0 ∷ 1 ∷ 4 ∷ []

abbrev band_edges : List ℕ
band_edges = 0 ∷ 1 ∷ 0 ∷ 2 ∷ 0 ∷ 3 ∷ 0 ∷ 4 ∷ 1 ∷ 2 ∷ 1 ∷ 3 ∷ 1 ∷ 4 ∷ 2 ∷ 3 ∷ 2 ∷ 4 ∷ 3 ∷ 4 ∷ []

-- triangles 012, 013 and, apart from them but for the node 0, 045
abbrev parts : List ℕ
parts = 0 ∷ 1 ∷ 2 ∷ 0 ∷ 1 ∷ 3 ∷ 0 ∷ 4 ∷ 5 ∷ []

abbrev parts_edges : List ℕ
parts_edges = 0 ∷ 1 ∷ 0 ∷ 2 ∷ 0 ∷ 3 ∷ 0 ∷ 4 ∷ 0 ∷ 5 ∷ 1 ∷ 2 ∷ 1 ∷ 3 ∷ 4 ∷ 5 ∷ []

unfoldable pub words_found : List (List ℕ)
words_found =
    -- no crossing; a crossing without a segment; one segment; a segment with both ends on one edge
    chains_words (flat_of triangle three zeros)
    ∷ chains_words (flat_of triangle three (1 ∷ 0 ∷ 0 ∷ []))
    ∷ chains_words (flat_of triangle three (1 ∷ 1 ∷ 0 ∷ []))
    ∷ chains_words (flat_of triangle three (0 ∷ 2 ∷ 0 ∷ []))
    -- rule 2: crossing 0 is left
    ∷ chains_words (flat_of triangle three (1 ∷ 1 ∷ 1 ∷ []))
    -- two segments with the same ends, one in each of two triangles: a closed chain of two crossings
    ∷ chains_words (flat_of two five (2 ∷ 0 ∷ 0 ∷ 0 ∷ 0 ∷ []))
    -- an open chain whose least crossing lies between its ends: it starts at the lower end
    ∷ chains_words (flat_of two five (1 ∷ 0 ∷ 1 ∷ 1 ∷ 0 ∷ []))
    -- a closed chain goes into the triangle listed first
    ∷ chains_words (flat_of ring ring_edges (0 ∷ 0 ∷ 1 ∷ 0 ∷ 1 ∷ 1 ∷ []))
    ∷ chains_words (flat_of ring_again ring_edges (0 ∷ 0 ∷ 1 ∷ 0 ∷ 1 ∷ 1 ∷ []))
    -- nested ones, by least crossing
    ∷ chains_words (flat_of ring ring_edges (0 ∷ 0 ∷ 2 ∷ 0 ∷ 2 ∷ 2 ∷ []))
    -- once round a Möbius band, and twice
    ∷ chains_words (flat_of band band_edges (1 ∷ 0 ∷ 0 ∷ 1 ∷ 1 ∷ 0 ∷ 0 ∷ 1 ∷ 0 ∷ 1 ∷ []))
    ∷ chains_words (flat_of band band_edges (2 ∷ 0 ∷ 0 ∷ 2 ∷ 2 ∷ 0 ∷ 0 ∷ 2 ∷ 0 ∷ 2 ∷ []))
    -- several parts, ordered by least crossing and not by the first word
    ∷ chains_words (flat_of parts parts_edges (1 ∷ 0 ∷ 0 ∷ 1 ∷ 1 ∷ 1 ∷ 1 ∷ 0 ∷ []))
    ∷ []

unfoldable pub words_expected : List (List ℕ)
words_expected =
    []
    ∷ []
    ∷ (0 ∷ 2 ∷ 0 ∷ 1 ∷ [])
    ∷ (0 ∷ 2 ∷ 0 ∷ 1 ∷ [])
    ∷ (0 ∷ 2 ∷ 1 ∷ 2 ∷ [])
    ∷ (1 ∷ 2 ∷ 0 ∷ 1 ∷ [])
    ∷ (0 ∷ 3 ∷ 1 ∷ 0 ∷ 2 ∷ [])
    ∷ (1 ∷ 3 ∷ 0 ∷ 1 ∷ 2 ∷ [])
    ∷ (1 ∷ 3 ∷ 0 ∷ 2 ∷ 1 ∷ [])
    ∷ (1 ∷ 3 ∷ 0 ∷ 2 ∷ 4 ∷ 1 ∷ 3 ∷ 1 ∷ 3 ∷ 5 ∷ [])
    ∷ (1 ∷ 5 ∷ 0 ∷ 2 ∷ 3 ∷ 4 ∷ 1 ∷ [])
    ∷ (1 ∷ 10 ∷ 0 ∷ 5 ∷ 6 ∷ 9 ∷ 3 ∷ 1 ∷ 4 ∷ 7 ∷ 8 ∷ 2 ∷ [])
    ∷ (0 ∷ 3 ∷ 3 ∷ 0 ∷ 4 ∷ 0 ∷ 2 ∷ 1 ∷ 2 ∷ [])
    ∷ []

abbrev pub WordsHold : Type 0
WordsHold = words_found ≡ words_expected

-- the call's answer: room for all words, for one less, for none where none are needed; the rows of the check come first
unfoldable pub answers_found : List (List ℕ)
answers_found =
    chains_answer (flat_of two five (1 ∷ 0 ∷ 1 ∷ 1 ∷ 0 ∷ [])) 5
    ∷ chains_answer (flat_of two five (1 ∷ 0 ∷ 1 ∷ 1 ∷ 0 ∷ [])) 4
    ∷ chains_answer (flat_of triangle three (1 ∷ 0 ∷ 0 ∷ [])) 0
    ∷ chains_answer (flat_of triangle three (4096 ∷ 1 ∷ 0 ∷ [])) 0
    ∷ chains_answer (flat_of loose loose_edges (sixteen 15 1)) 0
    ∷ []

unfoldable pub answers_expected : List (List ℕ)
answers_expected =
    result_of (5 ∷ [])
    ∷ refusal 24 5
    ∷ result_of (0 ∷ [])
    ∷ refusal 18 0
    ∷ refusal 10 0
    ∷ []

abbrev pub AnswersHold : Type 0
AnswersHold = answers_found ≡ answers_expected
