-- Examples, each with the text that documents 01 and 02 ask. One computed theorem says that the definitions give these texts.
use Rattle.std.specs.Prelude.{ℕ, ◌≡◌, List, [], ◌∷◌, ◌++◌, map}
use Rattle.bundle.specs.Record.{edge_kind, wide_kind, look_kind}
use Rattle.bundle.specs.Written.{word_bytes, record_bytes, bundle_bytes, end_record}
use Rattle.listing.specs.Text.{decimal, word_text, refused_line}
use Rattle.listing.specs.Listing.{listing}

pub record Example : Type 0 where
  pub found : List ℕ
  pub asked : List ℕ

abbrev pub asks : List ℕ → List ℕ → Example
asks found asked = record { found = found; asked = asked }

-- the edges of the cell 0 1 2 3, and its bundle with the counts of 01, 02, 03, 12, 13, 23
abbrev pub edges : List ℕ
edges = 0 ∷ 1 ∷ 0 ∷ 2 ∷ 0 ∷ 3 ∷ 1 ∷ 2 ∷ 1 ∷ 3 ∷ 2 ∷ 3 ∷ []

abbrev pub one_cell : List ℕ → List ℕ
one_cell counts = bundle_bytes (0 ∷ 1 ∷ 2 ∷ 3 ∷ []) edges counts

-- a later look
abbrev pub look : ℕ → ℕ → ℕ → List ℕ
look u v count = record_bytes look_kind (word_bytes u ++ word_bytes v ++ word_bytes count)

-- digits, and words with a blank before them: 4294967295 is a dash
abbrev pub numbers : List Example
numbers =
    asks (decimal 0) (48 ∷ [])
    ∷ asks (decimal 9) (57 ∷ [])
    ∷ asks (decimal 10) (49 ∷ 48 ∷ [])
    ∷ asks (decimal 99) (57 ∷ 57 ∷ [])
    ∷ asks (decimal 100) (49 ∷ 48 ∷ 48 ∷ [])
    ∷ asks (decimal 65535) (54 ∷ 53 ∷ 53 ∷ 51 ∷ 53 ∷ [])
    ∷ asks (decimal 4294967295) (52 ∷ 50 ∷ 57 ∷ 52 ∷ 57 ∷ 54 ∷ 55 ∷ 50 ∷ 57 ∷ 53 ∷ [])
    ∷ asks (decimal 18446744073709551615) (49 ∷ 56 ∷ 52 ∷ 52 ∷ 54 ∷ 55 ∷ 52 ∷ 52 ∷ 48 ∷ 55 ∷ 51 ∷ 55 ∷ 48 ∷ 57 ∷ 53 ∷ 53 ∷ 49 ∷ 54 ∷ 49 ∷ 53 ∷ [])
    ∷ asks (word_text 0) (32 ∷ 48 ∷ [])
    ∷ asks (word_text 4294967294) (32 ∷ 52 ∷ 50 ∷ 57 ∷ 52 ∷ 57 ∷ 54 ∷ 55 ∷ 50 ∷ 57 ∷ 52 ∷ [])
    ∷ asks (word_text 4294967295) (32 ∷ 45 ∷ [])
    ∷ []

-- 2 0 0 0 0 0, document 01's listing, whole:
-- cells 1 edges 6 crossings 2 triangles 2
-- T 0 0 0 1 - 3 0 - 1 - 0
-- T 0 0 1 0 - 2 0 - 0 - 1
abbrev pub two_on01 : List ℕ
two_on01 =
    (99 ∷ 101 ∷ 108 ∷ 108 ∷ 115 ∷ 32 ∷ 49 ∷ 32 ∷ 101 ∷ 100 ∷ 103 ∷ 101 ∷ 115 ∷ 32 ∷ 54 ∷ 32 ∷ 99 ∷ 114 ∷ 111 ∷ 115 ∷ 115 ∷ 105 ∷ 110 ∷ 103 ∷ 115 ∷ 32 ∷ 50 ∷ 32 ∷ 116 ∷ 114 ∷ 105 ∷ 97 ∷ 110 ∷ 103 ∷ 108 ∷ 101 ∷ 115 ∷ 32 ∷ 50 ∷ 10 ∷ [])
    ++ (84 ∷ 32 ∷ 48 ∷ 32 ∷ 48 ∷ 32 ∷ 48 ∷ 32 ∷ 49 ∷ 32 ∷ 45 ∷ 32 ∷ 51 ∷ 32 ∷ 48 ∷ 32 ∷ 45 ∷ 32 ∷ 49 ∷ 32 ∷ 45 ∷ 32 ∷ 48 ∷ 10 ∷ [])
    ++ (84 ∷ 32 ∷ 48 ∷ 32 ∷ 48 ∷ 32 ∷ 49 ∷ 32 ∷ 48 ∷ 32 ∷ 45 ∷ 32 ∷ 50 ∷ 32 ∷ 48 ∷ 32 ∷ 45 ∷ 32 ∷ 48 ∷ 32 ∷ 45 ∷ 32 ∷ 49 ∷ 10 ∷ [])

-- 0 0 0 0 0 0:
-- cells 1 edges 6 crossings 0 triangles 0
abbrev pub none : List ℕ
none =
    (99 ∷ 101 ∷ 108 ∷ 108 ∷ 115 ∷ 32 ∷ 49 ∷ 32 ∷ 101 ∷ 100 ∷ 103 ∷ 101 ∷ 115 ∷ 32 ∷ 54 ∷ 32 ∷ 99 ∷ 114 ∷ 111 ∷ 115 ∷ 115 ∷ 105 ∷ 110 ∷ 103 ∷ 115 ∷ 32 ∷ 48 ∷ 32 ∷ 116 ∷ 114 ∷ 105 ∷ 97 ∷ 110 ∷ 103 ∷ 108 ∷ 101 ∷ 115 ∷ 32 ∷ 48 ∷ 10 ∷ [])

-- 1 1 1 0 0 0:
-- cells 1 edges 6 crossings 3 triangles 1
-- T 0 0 0 1 2 3 0 1 1 2 0
abbrev pub corner : List ℕ
corner =
    (99 ∷ 101 ∷ 108 ∷ 108 ∷ 115 ∷ 32 ∷ 49 ∷ 32 ∷ 101 ∷ 100 ∷ 103 ∷ 101 ∷ 115 ∷ 32 ∷ 54 ∷ 32 ∷ 99 ∷ 114 ∷ 111 ∷ 115 ∷ 115 ∷ 105 ∷ 110 ∷ 103 ∷ 115 ∷ 32 ∷ 51 ∷ 32 ∷ 116 ∷ 114 ∷ 105 ∷ 97 ∷ 110 ∷ 103 ∷ 108 ∷ 101 ∷ 115 ∷ 32 ∷ 49 ∷ 10 ∷ [])
    ++ (84 ∷ 32 ∷ 48 ∷ 32 ∷ 48 ∷ 32 ∷ 48 ∷ 32 ∷ 49 ∷ 32 ∷ 50 ∷ 32 ∷ 51 ∷ 32 ∷ 48 ∷ 32 ∷ 49 ∷ 32 ∷ 49 ∷ 32 ∷ 50 ∷ 32 ∷ 48 ∷ 10 ∷ [])

-- 0 1 1 1 1 0:
-- cells 1 edges 6 crossings 4 triangles 2
-- T 0 0 0 2 3 3 0 0 2 - 0
-- T 0 0 0 3 1 - 0 2 1 1 0
abbrev pub diagonal : List ℕ
diagonal =
    (99 ∷ 101 ∷ 108 ∷ 108 ∷ 115 ∷ 32 ∷ 49 ∷ 32 ∷ 101 ∷ 100 ∷ 103 ∷ 101 ∷ 115 ∷ 32 ∷ 54 ∷ 32 ∷ 99 ∷ 114 ∷ 111 ∷ 115 ∷ 115 ∷ 105 ∷ 110 ∷ 103 ∷ 115 ∷ 32 ∷ 52 ∷ 32 ∷ 116 ∷ 114 ∷ 105 ∷ 97 ∷ 110 ∷ 103 ∷ 108 ∷ 101 ∷ 115 ∷ 32 ∷ 50 ∷ 10 ∷ [])
    ++ (84 ∷ 32 ∷ 48 ∷ 32 ∷ 48 ∷ 32 ∷ 48 ∷ 32 ∷ 50 ∷ 32 ∷ 51 ∷ 32 ∷ 51 ∷ 32 ∷ 48 ∷ 32 ∷ 48 ∷ 32 ∷ 50 ∷ 32 ∷ 45 ∷ 32 ∷ 48 ∷ 10 ∷ [])
    ++ (84 ∷ 32 ∷ 48 ∷ 32 ∷ 48 ∷ 32 ∷ 48 ∷ 32 ∷ 51 ∷ 32 ∷ 49 ∷ 32 ∷ 45 ∷ 32 ∷ 48 ∷ 32 ∷ 50 ∷ 32 ∷ 49 ∷ 32 ∷ 49 ∷ 32 ∷ 48 ∷ 10 ∷ [])

-- whole bundles
abbrev pub accepted : List Example
accepted =
    asks (listing (one_cell (2 ∷ 0 ∷ 0 ∷ 0 ∷ 0 ∷ 0 ∷ []))) two_on01
    ∷ asks (listing (one_cell (0 ∷ 0 ∷ 0 ∷ 0 ∷ 0 ∷ 0 ∷ []))) none
    ∷ asks (listing (one_cell (1 ∷ 1 ∷ 1 ∷ 0 ∷ 0 ∷ 0 ∷ []))) corner
    ∷ asks (listing (one_cell (0 ∷ 1 ∷ 1 ∷ 1 ∷ 1 ∷ 0 ∷ []))) diagonal
    ∷ []

-- refused 13 at 0
abbrev pub empty : List ℕ
empty =
    (114 ∷ 101 ∷ 102 ∷ 117 ∷ 115 ∷ 101 ∷ 100 ∷ 32 ∷ 49 ∷ 51 ∷ 32 ∷ 97 ∷ 116 ∷ 32 ∷ 48 ∷ 10 ∷ [])

-- refusals: no bytes; no cell; a cell that does not increase; an edge that is not listed, with kind 2 and with kind 4; kind 4 with a count that a byte
-- holds; a byte after the end, and after the end of a grid that is refused; a look with its pair turned round
abbrev pub refusals : List Example
refusals =
    asks (listing []) empty
    ∷ asks (listing end_record) (refused_line 1 0)
    ∷ asks (listing (bundle_bytes (0 ∷ 2 ∷ 1 ∷ 3 ∷ []) edges (0 ∷ 0 ∷ 0 ∷ 0 ∷ 0 ∷ 0 ∷ []))) (refused_line 3 0)
    ∷ asks (listing (bundle_bytes (0 ∷ 1 ∷ 2 ∷ 3 ∷ []) (0 ∷ 1 ∷ 0 ∷ 2 ∷ []) (0 ∷ 0 ∷ []))) (refused_line 7 0)
    ∷ asks (listing (bundle_bytes (0 ∷ 1 ∷ 2 ∷ 3 ∷ []) (0 ∷ 1 ∷ 0 ∷ 2 ∷ []) (256 ∷ 0 ∷ []))) (refused_line 7 0)
    ∷ asks (listing (record_bytes wide_kind (0 ∷ 0 ∷ 1 ∷ 0 ∷ 255 ∷ 0 ∷ []) ++ end_record)) empty
    ∷ asks (listing (one_cell (2 ∷ 0 ∷ 0 ∷ 0 ∷ 0 ∷ 0 ∷ []) ++ (0 ∷ []))) (refused_line 13 70)
    ∷ asks (listing (end_record ++ (0 ∷ []))) (refused_line 13 4)
    ∷ asks (listing (record_bytes edge_kind (word_bytes 0 ++ word_bytes 1 ++ (5 ∷ [])) ++ look 1 0 2 ++ end_record)) (refused_line 22 9)
    ∷ []

abbrev pub examples : List Example
examples = numbers ++ accepted ++ refusals

-- each is as asked
abbrev pub Examples : Type 0
Examples = map (λ e. e.found) examples ≡ map (λ e. e.asked) examples
