-- What the places call refuses besides the grid's rows: rows 15, 16 and 17 of the table of 01.
use Rattle.std.specs.Prelude.{ℕ, ◌+◌, ◌*◌, ◌-◌, ◌/◌, max, Bool, not, ◌&&◌, ◌||◌, List, [], ◌∷◌, eqb, ltb, length, get_or, Float}
use Rattle.std.specs.Float.{nan}
use Rattle.std.specs.Float.Ieee.{lt}
use Rattle.grid.specs.Grid.{has_node, crossings}
use Rattle.place.specs.Place.{within, coordinates}
use Rattle.places.specs.Numbers.{proper_fraction}
use Rattle.places.specs.Points.{index_of_crossing}

-- the highest node of the cells
unfoldable pub highest : (cells : List ℕ) → ℕ
highest [] = 0
highest (v ∷ l) = max v (highest l)

-- one more
abbrev pub node_end : List ℕ → ℕ
node_end cells = highest cells + 1

-- 15: there are not three numbers for each node up to the highest, not as many fractions as crossings, or not three of `room` numbers for each point
unfoldable pub bad_place_lists : (cells counts : List ℕ) (nodes fractions : List Float) (needed room : ℕ) → Bool
bad_place_lists cells counts nodes fractions needed room =
    ltb (length nodes) (coordinates * node_end cells) || (not (eqb (length fractions) (crossings counts)) || ltb room (coordinates * needed))

-- 16: number i is of the place of a node of some cell, and is not within the limit
unfoldable pub bad_number : (cells : List ℕ) (nodes : List Float) → ℕ → Bool
bad_number cells nodes i = has_node cells (i / coordinates) && not (within (get_or nodes i nan))

-- 17: the fraction does not lie between 0 and 1, ends left out, or where its index is not 0, the one before is not below it
unfoldable pub bad_fraction_at : (fractions : List Float) (g index : ℕ) → Bool
bad_fraction_at fractions g index =
    not (proper_fraction (get_or fractions g nan)) || (ltb 0 index && not (lt (get_or fractions (g - 1) nan) (get_or fractions g nan)))

unfoldable pub bad_fraction : (counts : List ℕ) (fractions : List Float) → ℕ → Bool
bad_fraction counts fractions g = bad_fraction_at fractions g (index_of_crossing counts g)
