-- What the functions promise that the check of a flat grid shares with that of a grid: the sum of row 10, and edges by keys.
use Rattle.std.specs.Prelude.{ℕ, suc, ◌+◌, ◌*◌, min, Bool, not, List, get_or, eqb, ltb}
use Rattle.counting.specs.Pick.{pick}
use Rattle.counting.specs.Search.{first, last, some}
use Rattle.counting.specs.work.Tables.{same_key}
use Rattle.slots.specs.work.Limits.{most_edges}
use Rattle.slots.specs.Limits.{most_crossings}
use Rattle.grid.specs.Grid.{low, high, crossings}

-- the number of crossings, or 65,536 where it is more than 65,535
unfoldable pub capped : List ℕ → ℕ
capped counts = pick (ltb most_crossings (crossings counts)) (most_crossings + 1) (crossings counts)

-- a key is nodes packed into one number, so that equal keys are equal nodes
abbrev pub join : ℕ → ℕ → ℕ
join a b = a * 65536 + b

-- the key of edge e of the list
unfoldable pub edge_key : List ℕ → ℕ → ℕ
edge_key edges e = join (low edges e) (high edges e)

-- edge e has this key
unfoldable pub with_key : List ℕ → ℕ → ℕ → Bool
with_key edges key e = eqb (edge_key edges e) key

-- none of the first n keys is that of edge e
unfoldable pub keyless : List ℕ → List ℕ → ℕ → ℕ → Bool
keyless edges keys n e = not (some (same_key keys (edge_key edges e)) n)

-- one more than x where x is below m, else y
abbrev pub found_or : ℕ → ℕ → ℕ → ℕ
found_or m x y = pick (ltb x m) (suc x) y

-- one more than the place of the lowest of the first m edges that has key j; the entry as it was where none has
unfoldable pub placed_at : List ℕ → ℕ → List ℕ → List ℕ → ℕ → ℕ
placed_at edges m keys was j = found_or m (first (with_key edges (get_or keys j 0)) m) (get_or was j 0)

-- one more than the last place before j with j's key, or 0
unfoldable pub earlier_at : List ℕ → ℕ → ℕ
earlier_at keys j = last (same_key keys (get_or keys j 0)) j

-- as many keys of a list as a table of so many entries has room for, and no more than the most that are chained
unfoldable pub key_room : ℕ → ℕ → ℕ
key_room keys room = min (min keys room) most_edges
