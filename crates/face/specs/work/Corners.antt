-- The three corner counts of a face in the order of its nodes.
use Rattle.std.specs.Prelude.{ℕ, List, [], ◌∷◌}
use Rattle.face.specs.Face.{corner_count}
use Rattle.face.specs.declared.CornerCounts.{CornerCounts}

-- the corner counts at the nodes a, b, c of a face
abbrev pub corners : ℕ → ℕ → ℕ → List ℕ
corners ab ac bc = corner_count ab ac bc ∷ corner_count ab bc ac ∷ corner_count ac bc ab ∷ []

abbrev pub corner_list : CornerCounts → List ℕ
corner_list r = r.a ∷ r.b ∷ r.c ∷ []
