-- The eleven words of a triangle under other names, from the words alone: what is put over in the lent area.
use Rattle.std.specs.Prelude.{ℕ, ◌<◌, ◌≡◌, List, [], ◌∷◌, ◌++◌, eqb, get_or}
use Rattle.counting.specs.Pick.{pick}
use Rattle.counting.specs.claims.Lists.{All}
use Rattle.cell.specs.declared.Side.{Side}
use Rattle.cell.specs.declared.Side.TheVariants.{Segment, Inner}
use Rattle.cell.specs.declared.Triangle.{Triangle}
use Rattle.cell.specs.Renaming.{Renaming, renamed}
use Rattle.cell.specs.Words.{no_name, words}
use Rattle.grid.specs.Grid.{Grid, cell_count}
use Rattle.grid.specs.claims.Accepted.{Sound}
use Rattle.split.specs.Parts.{drawn_triangles}
use Rattle.mesh.specs.Mesh.{grid_cell}
use Rattle.layers.specs.Runs.{keep_inner}

-- the two words of a side: an inner side keeps its number
abbrev pub side_over : Renaming → ℕ → ℕ → List ℕ
side_over r f g = r.face f ∷ pick (eqb f no_name) g (r.crossing g) ∷ []

-- the words l of a triangle; the word of a middle stays, as it is no outer crossing
unfoldable pub renamed_words : Renaming → List ℕ → List ℕ
renamed_words r l =
    (r.cell (get_or l 0 0) ∷ r.crossing (get_or l 1 0) ∷ r.crossing (get_or l 2 0) ∷ r.crossing (get_or l 3 0) ∷ r.crossing (get_or l 4 0) ∷ [])
    ++ (side_over r (get_or l 5 0) (get_or l 6 0) ++ (side_over r (get_or l 7 0) (get_or l 8 0) ++ side_over r (get_or l 9 0) (get_or l 10 0)))

-- no face of a segment goes by the word that stands for none
unfoldable pub FaceNamed : Side → Type 0
FaceNamed (Segment f g) = f < no_name
FaceNamed (Inner k) = Unit {0}

pub record Named (t : Triangle) : Type 0 where
  pub side0 : FaceNamed t.side0
  pub side1 : FaceNamed t.side1
  pub side2 : FaceNamed t.side2

abbrev pub WordsRenamed : Type 0
WordsRenamed = (r : Renaming) (t : Triangle) → Named t → words (renamed (keep_inner r) t) ≡ renamed_words (keep_inner r) (words t)

-- all triangles that are drawn of a cell are so
abbrev pub DrawnNamed : Type 0
DrawnNamed = (G : Grid) (c : ℕ) → Sound G → c < cell_count G.cells → All Named (drawn_triangles (grid_cell G c))
