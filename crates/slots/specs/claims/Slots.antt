-- The rank of a position in a slot, its third position, and the other slot of an edge.
use Rattle.std.specs.Prelude.{ℕ, ◌-◌, ltb}
use Rattle.counting.specs.Pick.{pick}
use Rattle.slots.specs.Slots.{lo, hi}

-- the rank of position i among the three of slot s
abbrev pub rank_in : ℕ → ℕ → ℕ
rank_in s i = pick (ltb i s) i (i - 1)

-- the third position of slot s, which contains edge k: no end of k, and not omitted. The four positions add up to 6
abbrev pub third_position : ℕ → ℕ → ℕ
third_position k s = 6 - lo k - hi k - s

-- the slot other than s that contains edge k: the one that omits that position
abbrev pub other_slot : ℕ → ℕ → ℕ
other_slot k s = third_position k s
