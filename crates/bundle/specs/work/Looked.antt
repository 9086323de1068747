-- Pairs as keys, and the looks taken block by block.
use Rattle.std.specs.Prelude.{ℕ, zero, suc, ◌+◌, ◌-◌, ◌*◌, ◌≤◌, ◌<◌, ◌≡◌, Bool, false, not, List, eqb, length, get_or}
use Rattle.counting.specs.Search.{some}
use Rattle.counting.specs.work.Tables.{Table}
use Rattle.trees.specs.work.Trees.{top_for}
use Rattle.bundle.specs.Record.{byte_values, word_size, head_bytes, count_place, word, body}
use Rattle.bundle.specs.Bundle.{edges_from, edges, looks_from, looks, edge_at, look_at, count_in, count_after}

-- the looks of a block, at most
abbrev pub block_looks : ℕ
block_looks = 12288

-- the branches of a look
abbrev pub look_branches : ℕ
look_branches = 4

-- a pair in one number: equal numbers are equal pairs
abbrev pub pair_key : ℕ → ℕ → ℕ
pair_key u v = u * 65536 + v

-- that of the record at a place, of edge n and of look k
unfoldable pub key_at : List ℕ → ℕ → ℕ
key_at s at = pair_key (word s (at + head_bytes)) (word s (at + head_bytes + word_size))

abbrev pub edge_key : List ℕ → ℕ → ℕ
edge_key s n = key_at s (edge_at s n)

abbrev pub look_key : List ℕ → ℕ → ℕ
look_key s k = key_at s (look_at s k)

-- the key at place i of a block that starts at look m
abbrev pub block_key : List ℕ → ℕ → ℕ → ℕ
block_key s m i = look_key s (m + i)

-- a record's ends are within the bytes
abbrev pub EndsWithin : List ℕ → ℕ → Type 0
EndsWithin s at = at + head_bytes + count_place ≤ length s

-- all the edges of the bytes
pub record AllEdges (s : List ℕ) (from count : ℕ) : Type 0 where
  pub begin : from ≡ edges_from s
  pub all : count ≡ edges s

-- one more than the last of the n looks from look m on that has edge e's key, or 0
abbrev pub top_of : List ℕ → ℕ → ℕ → ℕ → ℕ
top_of s m n e = top_for (block_key s m) n (edge_key s e)

-- what marks the keys that edges have: as many marks as looks, none set
pub record MarksLent (n : ℕ) (met : List Bool) : Type 0 where
  pub room : n ≤ length met
  pub blank : (i : ℕ) → get_or met i false ≡ false

-- place i has a mark where an edge's key stands last at it
pub record KeysMarked (s : List ℕ) (m n : ℕ) (met : List Bool) : Type 0 where
  pub room : n ≤ length met
  pub at : (i : ℕ) → i < n → get_or met i false ≡ some (λ e. eqb (top_of s m n e) (suc i)) (edges s)

-- what looks for a key without mark
pub record MarksRead (tops : List ℕ) (n : ℕ) (met : List Bool) : Type 0 where
  pub all : n ≤ length tops
  pub some : (i : ℕ) → i < n → 0 < get_or tops i 0
  pub room : (i : ℕ) → i < n → get_or tops i 0 ≤ length met

-- the last place with the key of place j has no mark
unfoldable pub top_unmet : (tops : List ℕ) (met : List Bool) → ℕ → Bool
top_unmet tops met j = not (get_or met (get_or tops j 0 - 1) false)

-- bytes, with their edges and all their looks
pub record LooksLent (s : List ℕ) (from count looksAt n : ℕ) : Type 0 where
  pub bytes : (i : ℕ) → get_or s i 0 < byte_values
  pub listed : AllEdges s from count
  pub begin : looksAt ≡ looks_from s
  pub all : n ≡ looks s

-- the list holds the counts of the edges after the first m looks
abbrev pub Counted : List ℕ → ℕ → List ℕ → Type 0
Counted s m counts = Table (count_after s m) (edges s) counts

-- the count from the place before p in a block, or the one that is given where p is 0
unfoldable pub count_or : List ℕ → ℕ → ℕ → ℕ → ℕ
count_or s m zero given = given
count_or s m (suc j) given = count_in (body s (look_at s (m + j)))
