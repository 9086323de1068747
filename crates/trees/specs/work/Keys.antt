-- Places with equal keys in a list, and pairs of numbers that have a key: what the two public functions promise.
use Rattle.std.specs.Prelude.{ℕ, suc, ◌+◌, ◌*◌, min, Bool, not, List, eqb, ltb, get_or}
use Rattle.counting.specs.Pick.{pick}
use Rattle.counting.specs.Search.{first, last, some}
use Rattle.trees.specs.work.Trees.{has_key}

-- the most places that are planted, and so many for which pairs have smaller tables
abbrev pub most_places : ℕ
most_places = 12288

abbrev pub few_places : ℕ
few_places = 6144

-- as many keys of a list as a table of so many entries has room for, and no more than the most
unfoldable pub place_room : ℕ → ℕ → ℕ
place_room keys room = min (min keys room) most_places

-- the key at place i
abbrev pub key_in : List ℕ → ℕ → ℕ
key_in keys i = get_or keys i 0

-- the key at place i, of n places; 0 where there is no such place
unfoldable pub key_below : ℕ → (ℕ → ℕ) → ℕ → ℕ
key_below n key i = pick (ltb i n) (key i) 0

-- one more than the last place before j with j's key, or 0
unfoldable pub earlier_in : List ℕ → ℕ → ℕ
earlier_in keys j = last (has_key (key_in keys) (key_in keys j)) j

-- pair e of a list, two numbers each, in one number; whether it has a key; whether it has none of the first n keys
abbrev pub pair_in : List ℕ → ℕ → ℕ
pair_in pairs e = get_or pairs (2 * e) 0 * 65536 + get_or pairs (2 * e + 1) 0

unfoldable pub pair_has : List ℕ → ℕ → ℕ → Bool
pair_has pairs key e = eqb (pair_in pairs e) key

unfoldable pub pair_lacks : List ℕ → List ℕ → ℕ → ℕ → Bool
pair_lacks pairs keys n e = not (some (has_key (key_in keys) (pair_in pairs e)) n)

-- one more than x where x is below m, else y
abbrev pub below_or : ℕ → ℕ → ℕ → ℕ
below_or m x y = pick (ltb x m) (suc x) y

-- one more than the lowest of the first m pairs that has key j; the entry as it was where none has
unfoldable pub paired_at : List ℕ → ℕ → List ℕ → List ℕ → ℕ → ℕ
paired_at pairs m keys was j = below_or m (first (pair_has pairs (key_in keys j)) m) (get_or was j 0)
