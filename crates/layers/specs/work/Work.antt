-- What the parts of the code start from and leave.
use Rattle.std.specs.Prelude.{ℕ, zero, suc, ◌+◌, ◌*◌, ◌-◌, ◌/◌, ◌%◌, ◌≤◌, ◌<◌, ◌≡◌, Bool, true, Option, Some, None, List, eqb, leb, ltb, length, get_or}
use Rattle.answer.specs.Rows.{Clear}
use Rattle.counting.specs.Pick.{pick}
use Rattle.counting.specs.Search.{some}
use Rattle.counting.specs.Lists.{over, values, pre}
use Rattle.counting.specs.Stored.{stored_in}
use Rattle.cell.specs.Renaming.{Renaming}
use Rattle.cell.specs.Words.{word_count, no_name, all_words}
use Rattle.grid.specs.Grid.{Grid, grid_of, cell_count}
use Rattle.slots.specs.Limits.{most_cells, most_slots}
use Rattle.slots.specs.work.Limits.{most_edges}
use Rattle.grid.specs.claims.Accepted.{Sound}
use Rattle.grid.specs.work.Tables.{name_at, side_at}
use Rattle.grid.specs.Rows.{accepts}
use Rattle.split.specs.Limits.{first_inner_crossing, first_inner_face, word_step}
use Rattle.split.specs.work.Table.{most_drawn}
use Rattle.mesh.specs.Mesh.{mesh_splits}
use Rattle.layers.specs.Runs.{keep_inner, run_grid, run_triangles}
use Rattle.layers.specs.Cuts.{run_start, run_end, cut_row, joined_mesh}
use Rattle.layers.specs.claims.Claims.{RunWithin}

-- RUNS

-- run r is one of those into which n cells are cut
pub record RunOfCuts (n : ℕ) (cuts : List ℕ) (r : ℕ) : Type 0 where
  pub there : r ≤ length cuts
  pub rises : run_start cuts r ≤ run_end n cuts r
  pub few : length cuts < most_cells

-- THE TABLES OF A RUN

-- the name of face j of the run that starts at the cell `from`, its side j by the whole's edge numbers
abbrev pub name_from : List ℕ → ℕ → ℕ → ℕ
name_from names from j = pick (leb (4 * from) (get_or names (4 * from + j) 0)) (get_or names (4 * from + j) 0 - 4 * from) j

abbrev pub side_from : List ℕ → ℕ → ℕ → ℕ
side_from sides from j = get_or sides (6 * from + j) 0

-- one of the first n sides of the run is edge e
unfoldable pub used_by : List ℕ → ℕ → ℕ → ℕ → Bool
used_by sides from n e = some (λ j. eqb (side_from sides from j) e) n

-- n entries of a table from the entry `at` on are written into another
pub record Moving (at n : ℕ) (table own : List ℕ) : Type 0 where
  pub few : at + n ≤ most_edges
  pub fits : at + n ≤ length table
  pub room : n ≤ length own

-- Edges are marked, and after them blocks of edges of which one is marked
abbrev pub block_size : ℕ
block_size = 64

abbrev pub most_marks : ℕ
most_marks = most_edges + most_edges / block_size

-- the place of the mark of the block of edge e
abbrev pub block_of : ℕ → ℕ
block_of e = most_edges + e / block_size

-- the mark is m, which is above all marks that are there
pub record EdgesMarking (from n m : ℕ) (sides used : List ℕ) : Type 0 where
  pub few : 6 * from + n ≤ most_edges
  pub fits : 6 * from + n ≤ length sides
  pub long : length used ≡ most_marks
  pub edge : (j : ℕ) → j < n → side_from sides from j < most_edges
  pub below : (e : ℕ) → get_or used e 0 < m

pub record EdgesMarked (from n m : ℕ) (sides before used : List ℕ) : Type 0 where
  pub same : length used ≡ length before
  pub mark : (e : ℕ) → e < most_edges → eqb (get_or used e 0) m ≡ used_by sides from n e
  pub block : (e : ℕ) → e < most_edges → eqb (get_or used e 0) m ≡ true → get_or used (block_of e) 0 ≡ m
  pub most : (e : ℕ) → get_or used e 0 ≤ m

-- the sum of the counts of the edges before e that are marked with m
unfoldable pub marked_start : List ℕ → List ℕ → ℕ → ℕ → ℕ
marked_start counts used m e = pre (λ d. pick (eqb (get_or used d 0) m) (get_or counts d 0) 0) e

-- the edges from `at` up to `end`, where `s` is the sum before them
pub record Adding (counts used : List ℕ) (m at end s : ℕ) (starts : List ℕ) : Type 0 where
  pub order : at ≤ end
  pub inside : end ≤ length counts
  pub few : length counts ≤ most_edges
  pub marks : length used ≡ most_marks
  pub room : length counts ≤ length starts
  pub sum : s ≡ marked_start counts used m at
  pub small : s ≤ 65535 * at

-- all edges
pub record StartsSumming (counts used : List ℕ) (m : ℕ) (starts : List ℕ) : Type 0 where
  pub few : length counts ≤ most_edges
  pub marks : length used ≡ most_marks
  pub room : length counts ≤ length starts
  pub block : (e : ℕ) → e < most_edges → eqb (get_or used e 0) m ≡ true → get_or used (block_of e) 0 ≡ m

-- the starts of the marked edges before `end`
pub record StartsSummed (counts used : List ℕ) (m end : ℕ) (before starts : List ℕ) : Type 0 where
  pub same : length starts ≡ length before
  pub first : (e : ℕ) → e < end → eqb (get_or used e 0) m ≡ true → get_or starts e 0 ≡ marked_start counts used m e

-- what the tables of a run are made from: the run's part of the whole's, and arrays of the lengths of those
pub record Layable (counts sides used : List ℕ) (from size m : ℕ) : Type 0 where
  pub few : from + size ≤ most_cells
  pub few_edges : length counts ≤ most_edges
  pub edge : (j : ℕ) → j < 6 * size → side_from sides from j < most_edges
  pub below : (e : ℕ) → get_or used e 0 < m

-- the names and the sides
pub record Copied (names sides : List ℕ) (from size : ℕ) (ownNames ownSides : List ℕ) : Type 0 where
  pub name : (j : ℕ) → j < 4 * size → get_or ownNames j 0 ≡ name_from names from j
  pub side : (j : ℕ) → j < 6 * size → get_or ownSides j 0 ≡ side_from sides from j

-- the starts
pub record Started (counts sides : List ℕ) (from size m : ℕ) (ownStarts used : List ℕ) : Type 0 where
  pub first : (e : ℕ) → e < length counts → used_by sides from (6 * size) e ≡ true → get_or ownStarts e 0 ≡ pre (λ d. pick (used_by sides from (6 * size) d) (get_or counts d 0) 0) e
  pub long : length ownStarts ≡ most_edges
  pub most : (e : ℕ) → get_or used e 0 ≤ m

-- all tables
pub record RunLaid (counts names sides : List ℕ) (from size m : ℕ) (ownNames ownSides ownStarts used : List ℕ) : Type 0 where
  pub copied : Copied names sides from size ownNames ownSides
  pub started : Started counts sides from size m ownStarts used

-- CROSSINGS

-- the numbers that crossings of a grid may have
abbrev pub most_numbers : ℕ
most_numbers = first_inner_crossing

-- the run's first number on its side j, and how many crossings it has there
abbrev pub own_at : (sides : List ℕ) → (from : ℕ) → (own : List ℕ) → ℕ → ℕ
own_at sides from own j = get_or own (side_from sides from j) 0

abbrev pub side_count : (counts sides : List ℕ) → (from j : ℕ) → ℕ
side_count counts sides from j = get_or counts (side_from sides from j) 0

-- f leads from the numbers that a run has for the crossings of its n sides to those of the whole
pub record Leading (f : ℕ → ℕ) (counts starts sides : List ℕ) (from n : ℕ) (own : List ℕ) : Type 0 where
  pub few : 6 * from + n ≤ most_edges
  pub edge : (j : ℕ) → j < n → side_from sides from j < length counts
  pub few_counts : length counts ≤ most_edges
  pub starts_long : length starts ≡ length counts
  pub leads : (j i : ℕ) → j < n → i < side_count counts sides from j → f (own_at sides from own j + i) ≡ get_or starts (side_from sides from j) 0 + i
  pub below : (j : ℕ) → j < n → own_at sides from own j + side_count counts sides from j ≤ most_numbers
  pub small : (j : ℕ) → j < n → get_or starts (side_from sides from j) 0 + side_count counts sides from j ≤ most_numbers

-- the crossings of these sides have the whole's numbers in a table
pub record CrossingsNumbered (f : ℕ → ℕ) (counts sides : List ℕ) (from n : ℕ) (own table : List ℕ) : Type 0 where
  pub number : (j i : ℕ) → j < n → i < side_count counts sides from j → get_or table (own_at sides from own j + i) 0 ≡ f (own_at sides from own j + i)

-- WORDS PUT OVER

-- what becomes of word j of a triangle, where f is the word before it: as `renamed_words` says
unfoldable pub word_over : Renaming → (j f w : ℕ) → ℕ
word_over r j f w = pick (eqb j 0) (r.cell w) (pick (ltb j 5) (r.crossing w) (pick (eqb (j % 2) 1) (r.face w) (pick (eqb f no_name) w (r.crossing w))))

-- the word before word j of those that stand in l from the place `at` on; 0 before the first
abbrev pub word_before : List ℕ → ℕ → ℕ → ℕ
word_before l at zero = 0
word_before l at (suc j) = get_or l (at + j) 0

-- the words of the triangle that stand in l from the place `at` on, put over; and of n triangles
abbrev pub triangle_over : Renaming → List ℕ → ℕ → List ℕ
triangle_over r l at = values (λ j. word_over r j (word_before l at j) (get_or l (at + j) 0)) word_count

unfoldable pub triangles_over : Renaming → List ℕ → ℕ → ℕ → List ℕ
triangles_over r l at n = over (λ t. triangle_over r l (at + word_count * t)) n 0

-- the names of the whole for those of the run that starts at the cell `from`, by the table of its crossings and the whole's names of faces
abbrev pub table_names : (names table : List ℕ) → ℕ → Renaming
table_names names table from = record {
  cell = λ c. (from + c) % word_step;
  crossing = λ g. get_or table g 0;
  face = λ f. get_or names ((4 * from + f) % most_slots) 0;
}

abbrev pub table_over : (names table : List ℕ) → ℕ → Renaming
table_over names table from = keep_inner (table_names names table from)

-- one by one
abbrev pub crossing_over : List ℕ → ℕ → ℕ
crossing_over table g = pick (ltb g first_inner_crossing) (get_or table g 0) g

abbrev pub face_over : List ℕ → ℕ → ℕ → ℕ
face_over names from f = pick (ltb f first_inner_face) (get_or names ((4 * from + f) % most_slots) 0) f

abbrev pub cell_over : ℕ → ℕ → ℕ
cell_over from w = (from + w % word_step) % word_step + word_step * (w / word_step)

-- THE WHOLE

-- the tables of an accepted grid
pub record Tables (G : Grid) (names sides : List ℕ) : Type 0 where
  pub accepted : accepts G ≡ true
  pub sound : Sound G
  pub name : (j : ℕ) → j < 4 * cell_count G.cells → get_or names j 0 ≡ name_at G.cells j
  pub edge : (j : ℕ) → j < 6 * cell_count G.cells → get_or sides j 0 ≡ side_at G j

-- The parts are not lent the list of edges: what they ask holds of some list of edges, and what they promise of every one of which that holds
abbrev pub SomeTables : (cells counts starts names sides : List ℕ) → Type 0
SomeTables cells counts starts names sides = (edges : List ℕ) × Tables (grid_of cells edges counts starts) names sides

-- a run of the grid
pub record RunOf (G : Grid) (names sides : List ℕ) (from size : ℕ) : Type 0 where
  pub tables : Tables G names sides
  pub run : RunWithin G from size

-- what is drawn of it, in its own names
pub record RunDrawn (G : Grid) (from size : ℕ) (before after : List ℕ) (triangles splits : ℕ) : Type 0 where
  pub triangles_are : triangles ≡ length (run_triangles G from size)
  pub splits_are : splits ≡ mesh_splits (run_grid G from size)
  pub few : triangles ≤ most_drawn
  pub area : after ≡ stored_in before 0 (all_words (run_triangles G from size))

-- a run that is to be joined: its mesh has room from the place `at` on, and the marks are below m
pub record JoinableRun (G : Grid) (names sides : List ℕ) (from size m at room : ℕ) (used : List ℕ) : Type 0 where
  pub run_of : RunOf G names sides from size
  pub fits : at + word_count * length (run_triangles G from size) ≤ room
  pub below : (e : ℕ) → get_or used e 0 < m

-- so many triangles, where they have no room in so many words
unfoldable pub lacking_in : (room n : ℕ) → Option ℕ
lacking_in room n = pick (ltb room (word_count * n)) (Some n) None

-- all runs that are to be joined
pub record Joinable (G : Grid) (names sides cuts : List ℕ) (room : ℕ) : Type 0 where
  pub tables : Tables G names sides
  pub clear : Clear (cut_row G cuts)
  pub fits : word_count * length (joined_mesh G cuts) ≤ room
