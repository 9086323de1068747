-- The listing of a bundle (01): what meshlist prints for the bytes that it reads.
use Rattle.std.specs.Prelude.{ℕ, ◌*◌, ◌≤◌, ◌≡◌, List, ◌++◌, ltb, length, get_or}
use Rattle.answer.specs.Answer.{is_result}
use Rattle.counting.specs.Pick.{pick}
use Rattle.counting.specs.Lists.{over}
use Rattle.bundle.specs.Record.{broken_row}
use Rattle.bundle.specs.Bundle.{bundle_answer, nodes_of, ends_of, counts_of, written_over}
use Rattle.grid.specs.Grid.{Grid, built, cell_count, crossings}
use Rattle.cell.specs.Words.{word_count}
use Rattle.mesh.specs.Mesh.{mesh_triangles, mesh_words}
use Rattle.mesh.specs.Answer.{mesh_answer}
use Rattle.listing.specs.Text.{refused_line, head, line}

-- the most bytes that are read, the most cells and edges that so many bytes hold besides the end, and the triangles that the area holds
abbrev pub most_bytes : ℕ
most_bytes = 32768

abbrev pub area_triangles : ℕ
area_triangles = 1489

-- the line of the refusal where an answer is one; else what follows
unfoldable pub or_refused : List ℕ → List ℕ → List ℕ
or_refused answer rest = pick (is_result answer) rest (refused_line (get_or answer 0 0) (get_or answer 1 0))

module _ (G : Grid) where
  -- the listing of a mesh: the numbers of cells, edges, crossings and triangles, and a line for each triangle
  unfoldable pub mesh_listing : List ℕ
  mesh_listing =
      head (cell_count G.cells) (length G.counts) (crossings G.counts) (length (mesh_triangles G))
      ++ over (line (mesh_words G)) (length (mesh_triangles G)) 0

  -- the mesh call's refusal (rows 1 to 10 and 18, 12), or the listing of the mesh
  unfoldable pub grid_listing : List ℕ
  grid_listing = or_refused (mesh_answer G (word_count * area_triangles)) mesh_listing

-- the bundle reader's refusal (rows 13 and 22), or the listing of the grid of its lists
unfoldable pub bundle_listing : List ℕ → List ℕ
bundle_listing s = or_refused (bundle_answer s) (grid_listing (built (nodes_of s) (ends_of s) (counts_of s)))

-- over the most bytes, row 13 at that number, whatever they are
unfoldable pub listing : List ℕ → List ℕ
listing s = pick (ltb most_bytes (length s)) (refused_line broken_row most_bytes) (bundle_listing s)

-- the listing stands at the front of the area, which keeps its values beyond it, and `count` are its bytes
pub record Listed (s was is : List ℕ) (count : ℕ) : Type 0 where
  pub area : is ≡ written_over (listing s) was
  pub bytes : count ≡ length (listing s)
  pub within : count ≤ length is
