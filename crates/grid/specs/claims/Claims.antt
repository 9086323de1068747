-- What is proved of the grid check, besides the contracts.
use Rattle.std.specs.Prelude.{Result, ℕ, ◌<◌, List, [], ◌∷◌, ◌≡◌, ◌⊎◌, ◌≢◌, length, get_or}
use Rattle.grid.specs.Grid.{Grid, grid_of, count_of, start, crossing, crossings, built}
use Rattle.grid.specs.Opening.{open_starts, open_answer}
use Rattle.answer.specs.Answer.{result_of, refusal}
use Rattle.answer.specs.claims.Faults.{AllClear, Refusal}
use Rattle.answer.specs.declared.Refusal.{Refusal as Reason}
use Rattle.grid.specs.Rows.{rows, grid_answer}
use Rattle.grid.specs.Setting.{set_answer}
use Rattle.grid.specs.claims.Setting.{Setting, set_all}
use Rattle.grid.specs.Check.{check_numbers}
use Rattle.grid.specs.claims.Accepted.{Accepted, Sound, EdgeNumbers}

-- the grid of three lists after the opening call, which is lent these starts
unfoldable pub opened_afresh : (cells edges counts starts : List ℕ) → Grid
opened_afresh cells edges counts starts = grid_of cells edges counts (open_starts (grid_of cells edges counts starts))

-- a grid is accepted exactly where no row has a fault, and then the answer is the number of crossings
abbrev pub AcceptsClear : Type 0
AcceptsClear = (G : Grid) → AllClear (rows G) → grid_answer G ≡ result_of (crossings G.counts ∷ [])

abbrev pub ClearAccepted : Type 0
ClearAccepted = (G : Grid) (values : List ℕ) → grid_answer G ≡ result_of values → AllClear (rows G)

-- what is refused, and only that
abbrev pub RefusesFault : Type 0
RefusesFault = (G : Grid) (n p : ℕ) → Refusal (rows G) n p → grid_answer G ≡ refusal n p

abbrev pub FaultRefused : Type 0
FaultRefused = (G : Grid) (n p : ℕ) → n ≢ 0 → grid_answer G ≡ refusal n p → Refusal (rows G) n p

-- there is no other answer
abbrev pub AcceptsOrRefuses : Type 0
AcceptsOrRefuses = (G : Grid) → (grid_answer G ≡ result_of (crossings G.counts ∷ [])) ⊎ ((n : ℕ) × (p : ℕ) × Refusal (rows G) n p)

-- the numbers tell the answer: no two answers are read alike
abbrev pub AnswerTold : Type 0
AnswerTold = (G : Grid) (r s : Result ℕ Reason) → check_numbers r ≡ grid_answer G → check_numbers s ≡ grid_answer G → r ≡ s

abbrev pub OpenTold : Type 0
OpenTold = (G : Grid) (r s : Result ℕ Reason) → check_numbers r ≡ open_answer G → check_numbers s ≡ open_answer G → r ≡ s

abbrev pub SetTold : Type 0
SetTold = (G : Grid) (edge count : ℕ) (r s : Result ℕ Reason) → check_numbers r ≡ set_answer G edge count → check_numbers s ≡ set_answer G edge count → r ≡ s

-- a grid is accepted exactly where it is as 01 asks, said without the tests of the rows
abbrev pub AcceptanceYields : Type 1
AcceptanceYields = (G : Grid) (values : List ℕ) → grid_answer G ≡ result_of values → Accepted G

abbrev pub AcceptedAnswer : Type 1
AcceptedAnswer = (G : Grid) → Accepted G → grid_answer G ≡ result_of (crossings G.counts ∷ [])

-- what the rows 1 to 8 give the edges' numbers
abbrev pub NumbersOfSound : Type 0
NumbersOfSound = (G : Grid) → Sound G → EdgeNumbers G

-- crossing numbers, from edge and index and back: one to one and in order
pub record Numbered (counts : List ℕ) (edge_of index_of : ℕ → ℕ) : Type 0 where
  pub number_lt : (e i : ℕ) → e < length counts → i < count_of counts e → crossing counts e i < crossings counts
  pub edge_lt : (x : ℕ) → x < crossings counts → edge_of x < length counts
  pub index_lt : (x : ℕ) → x < crossings counts → index_of x < count_of counts (edge_of x)
  pub number_is : (x : ℕ) → x < crossings counts → crossing counts (edge_of x) (index_of x) ≡ x
  pub edge_is : (e i : ℕ) → e < length counts → i < count_of counts e → edge_of (crossing counts e i) ≡ e
  pub index_is : (e i : ℕ) → e < length counts → i < count_of counts e → index_of (crossing counts e i) ≡ i
  pub later_edge : (d e i j : ℕ) → d < e → e < length counts → i < count_of counts d → crossing counts d i < crossing counts e j

abbrev pub CrossingNumbers : Type 0
CrossingNumbers = (counts : List ℕ) → (edge_of : ℕ → ℕ) × (index_of : ℕ → ℕ) × Numbered counts edge_of index_of

-- the opening call minds only the number of the starts: with one to a count it answers as the check of the grid built afresh, and where it accepts
-- leaves that grid's starts
abbrev pub OpensBuilt : Type 0
OpensBuilt = (cells edges counts starts : List ℕ) → length starts ≡ length counts
    → (open_answer (grid_of cells edges counts starts) ≡ grid_answer (built cells edges counts))
    × ((values : List ℕ) → grid_answer (built cells edges counts) ≡ result_of values → open_starts (grid_of cells edges counts starts) ≡ (built cells edges counts).starts)

-- H is what settings have made of the accepted grid G
pub record SetRight (G H : Grid) : Type 0 where
  -- a start for each count, the sum of the earlier ones
  pub many_same : length H.counts ≡ length G.counts
  pub starts_long : length H.starts ≡ length H.counts
  pub starts_are : (e : ℕ) → e < length H.counts → get_or H.starts e 0 ≡ start H.counts e
  pub accepted : grid_answer H ≡ result_of (crossings H.counts ∷ [])
  -- H is the grid that is built afresh with its counts, and the one that the opening call leaves, whatever starts it is lent
  pub fresh : H ≡ built G.cells G.edges H.counts
  pub reopened : (starts : List ℕ) → length starts ≡ length H.counts → H ≡ opened_afresh G.cells G.edges H.counts starts

-- after any list of settings on an accepted grid, refused ones among them
abbrev pub SettingsRight : Type 0
SettingsRight = (G : Grid) (values : List ℕ) → grid_answer G ≡ result_of values → (l : List Setting) → SetRight G (set_all l G)
