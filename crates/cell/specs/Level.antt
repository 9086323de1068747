-- The cells in which only rule 1 (01) is met (02, W3, W9 and W12), from the counts of their edges, w k for edge k.
use Rattle.std.specs.Prelude.{ℕ, Bool, List, get_or}
use Rattle.counting.specs.Search.{every}
use Rattle.slots.specs.Slots.{slot_edge}
use Rattle.face.specs.Face.{is_level}

-- listed counts by edge
abbrev pub by_edge : List ℕ → (ℕ → ℕ)
by_edge l = λ e. get_or l e 0

-- no face has an odd sum or a count above the other two
unfoldable pub is_level_cell : (ℕ → ℕ) → Bool
is_level_cell w = every (λ s. is_level (w (slot_edge s 0)) (w (slot_edge s 1)) (w (slot_edge s 2))) 4
