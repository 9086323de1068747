-- Other names for the cells, crossings and faces of a grid (02, W13), and what is drawn of a cell under them. Inner names of split cells (02, W12) stay.
use Rattle.std.specs.Prelude.{ℕ, ◌+◌, ◌<◌, ◌≡◌, List, [], ◌∷◌, map, get_or}
use Rattle.cell.specs.declared.Cell.{Cell}
use Rattle.cell.specs.Of.{count_of, start_of}
use Rattle.cell.specs.Renaming.{Renaming, renamed}
use Rattle.cell.specs.claims.Renaming.{RenamedCell}
use Rattle.split.specs.Limits.{first_inner_crossing, first_inner_face, word_step}
use Rattle.split.specs.Parts.{Part, whole, corners, drawn_triangles, drawn_parts}
use Rattle.layers.specs.Runs.{keep_inner}

-- a cell of a grid: all its crossing numbers and face names are outer ones
pub record OuterNames (c : Cell) : Type 0 where
  pub index : c.index < word_step
  pub below : (k i : ℕ) → k < 6 → i < count_of c k → start_of c k + i < first_inner_crossing
  pub under : (s : ℕ) → s < 4 → get_or c.names s 0 < first_inner_face

-- a part that is another with other names, and a list of parts, one by one
unfoldable pub RenamedPart : Renaming → Part → Part → Type 0
RenamedPart r (whole a) (whole b) = RenamedCell r a b
RenamedPart r (corners a) (corners b) = RenamedCell r a b
RenamedPart r (whole a) (corners b) = ⊥
RenamedPart r (corners a) (whole b) = ⊥

unfoldable pub RenamedParts : Renaming → List Part → List Part → Type 0
RenamedParts r [] [] = Unit {0}
RenamedParts r (a ∷ l) (b ∷ m) = RenamedPart r a b × RenamedParts r l m
RenamedParts r [] (b ∷ m) = ⊥
RenamedParts r (a ∷ l) [] = ⊥

-- the parts of the renamed cell are the renamed parts, and so its triangles are the renamed triangles
abbrev pub PartsRenamed : Type 0
PartsRenamed = (r : Renaming) (a b : Cell) → RenamedCell r a b → OuterNames a → OuterNames b → RenamedParts (keep_inner r) (drawn_parts a) (drawn_parts b)

abbrev pub DrawnRenamed : Type 0
DrawnRenamed = (r : Renaming) (a b : Cell) → RenamedCell r a b → OuterNames a → OuterNames b → map (renamed (keep_inner r)) (drawn_triangles a) ≡ drawn_triangles b
