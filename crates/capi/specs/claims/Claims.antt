-- Lists of settings (02, W5), over the calls that take a grid.
use Rattle.std.specs.Prelude.{ℕ, ◌≡◌, List, length, Float}
use Rattle.answer.specs.Answer.{result_of}
use Rattle.grid.specs.Grid.{Grid}
use Rattle.grid.specs.Rows.{grid_answer}
use Rattle.grid.specs.claims.Claims.{opened_afresh}
use Rattle.grid.specs.claims.Setting.{Setting, set_all}
use Rattle.mesh.specs.Answer.{mesh_answer, mesh_area, loops_answer}
use Rattle.layers.specs.Answer.{run_answer, run_area, joined_answer, joined_area}
use Rattle.places.specs.Answer.{places_answer, places_area}
use Rattle.shading.specs.Answer.{shading_answer, shading_area}

-- each call answers for the one grid as for the other, and leaves the same in what it is lent
pub record CallsAgree (G H : Grid) : Type 0 where
  pub check : grid_answer G ≡ grid_answer H
  pub mesh : (room : ℕ) → mesh_answer G room ≡ mesh_answer H room
  pub mesh-area : (area : List ℕ) → mesh_area G area ≡ mesh_area H area
  pub run : (cuts : List ℕ) (r room : ℕ) → run_answer G cuts r room ≡ run_answer H cuts r room
  pub run-area : (cuts : List ℕ) (r : ℕ) (area : List ℕ) → run_area G cuts r area ≡ run_area H cuts r area
  pub joined : (cuts : List ℕ) (room : ℕ) → joined_answer G cuts room ≡ joined_answer H cuts room
  pub joined-area : (cuts area : List ℕ) → joined_area G cuts area ≡ joined_area H cuts area
  pub loops : (c k : ℕ) → loops_answer G c k ≡ loops_answer H c k
  pub places : (nodes fractions : List Float) (room : ℕ) → places_answer G nodes fractions room ≡ places_answer H nodes fractions room
  pub places-area : (nodes fractions area : List Float) → places_area G nodes fractions area ≡ places_area H nodes fractions area
  pub shading : (room : ℕ) → shading_answer G room ≡ shading_answer H room
  pub shading-area : (area : List ℕ) → shading_area G area ≡ shading_area H area

-- after any list of settings on an accepted grid, refused ones among them, the calls do as for a grid that is opened afresh with these counts, whatever
-- starts the opening call is lent
abbrev pub SettingsFresh : Type 0
SettingsFresh = (G : Grid) (values : List ℕ) → grid_answer G ≡ result_of values → (l : List Setting) (starts : List ℕ) → length starts ≡ length (set_all l G).counts
    → CallsAgree (set_all l G) (opened_afresh G.cells G.edges (set_all l G).counts starts)
