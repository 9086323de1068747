-- What a shading is (02), without a computation.
use Rattle.std.specs.Prelude.{ℕ, ◌%◌, ◌≤◌, ◌<◌, ◌≡◌, ◌⊎◌, ◌≢◌, true, false, List, length, get_or}
use Rattle.grid.specs.Grid.{Grid, has_node, low, high, count_of}
use Rattle.shading.specs.Marks.{most_nodes, unused_byte}

module _ (G : Grid) where
  -- a shading: 0 or 1 for every node of a cell, such that the ends of an edge differ exactly when its count is odd
  pub record IsShading (side : ℕ → ℕ) : Type 0 where
    pub zero_or_one : (x : ℕ) → has_node G.cells x ≡ true → side x < 2
    pub differ : (e : ℕ) → e < length G.counts → count_of G.counts e % 2 ≡ 1 → side (low G.edges e) ≢ side (high G.edges e)
    pub equal : (e : ℕ) → e < length G.counts → count_of G.counts e % 2 ≡ 0 → side (low G.edges e) ≡ side (high G.edges e)

  -- there is none
  abbrev pub NoShading : Type 0
  NoShading = (side : ℕ → ℕ) → IsShading side → ⊥

  -- edge e leads from x to y: they are its ends
  abbrev pub EndsAre : (e x y : ℕ) → Type 0
  EndsAre e x y = ((low G.edges e ≡ x) × (high G.edges e ≡ y)) ⊎ ((high G.edges e ≡ x) × (low G.edges e ≡ y))

  -- listed edges lead from x to y
  pub data Connected (x : ℕ) : ℕ → Type 0 where
    here : Connected x x
    further : {y : ℕ} (e z : ℕ) → Connected x y → e < length G.counts → EndsAre e y z → Connected x z

  -- x is the lowest node of its connected part
  abbrev pub IsLowest : ℕ → Type 0
  IsLowest x = (y : ℕ) → Connected x y → x ≤ y

  -- the area that is asked for
  pub record IsShadingArea (area : List ℕ) : Type 0 where
    pub long : length area ≡ most_nodes
    pub shading : IsShading (λ x. get_or area x 0)
    -- the lowest node of each connected part has 0
    pub lowest : (x : ℕ) → has_node G.cells x ≡ true → IsLowest x → get_or area x 0 ≡ 0
    -- a node of no cell has 255
    pub others : (x : ℕ) → x < most_nodes → has_node G.cells x ≡ false → get_or area x 0 ≡ unused_byte
