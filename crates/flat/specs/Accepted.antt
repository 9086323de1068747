-- What an accepted flat grid is, in the words of the rows. The calls above the check rest on this alone.
use Rattle.std.specs.Prelude.{ℕ, ◌*◌, ◌≤◌, ◌<◌, ◌≡◌, ◌≢◌, List, length}
use Rattle.slots.specs.Limits.{most_count, highest_node, most_crossings}
use Rattle.slots.specs.Slots.{lower, upper}
use Rattle.grid.specs.Grid.{low, high, count_of, crossings, Before}
use Rattle.flat.specs.FlatGrid.{FlatGrid, most_flat_triangles, triangles_in, node}

-- edge j of triangle g and edge k of triangle f have the same ends
pub record SameEdge (triangles : List ℕ) (g j f k : ℕ) : Type 0 where
  pub low_same : node triangles g (lower j) ≡ node triangles f (lower k)
  pub high_same : node triangles g (upper j) ≡ node triangles f (upper k)

-- edge e of the list is edge k of triangle f
pub record EdgeIs (G : FlatGrid) (f k e : ℕ) : Type 0 where
  pub low_is : low G.edges e ≡ node G.triangles f (lower k)
  pub high_is : high G.edges e ≡ node G.triangles f (upper k)

module _ (G : FlatGrid) where
  pub record Accepted : Type 0 where
    -- 1: three numbers to a triangle, and 1 to 2,048 triangles; 2: two ends to a count
    pub threes : length G.triangles ≡ 3 * triangles_in G.triangles
    pub some_triangle : 0 < triangles_in G.triangles
    pub few_triangles : triangles_in G.triangles ≤ most_flat_triangles
    pub pairs : length G.edges ≡ 2 * length G.counts
    -- 3: nodes within the limit, and strictly increasing; 4: no triangle twice; 5: an edge in at most two triangles
    pub within : (f i : ℕ) → f < triangles_in G.triangles → i < 3 → node G.triangles f i ≤ highest_node
    pub increasing : (f i j : ℕ) → f < triangles_in G.triangles → i < j → j < 3 → node G.triangles f i < node G.triangles f j
    pub distinct : (f g : ℕ) → f < triangles_in G.triangles → g < triangles_in G.triangles
        → ((i : ℕ) → i < 3 → node G.triangles f i ≡ node G.triangles g i) → f ≡ g
    pub third : (f g h k l m : ℕ) → f < triangles_in G.triangles → g < triangles_in G.triangles → h < triangles_in G.triangles → k < 3 → l < 3 → m < 3
        → SameEdge G.triangles f k g l → SameEdge G.triangles f k h m → f ≢ g → f ≢ h → g ≢ h → ⊥
    -- 6: each edge from its lower end to its higher, and the edges strictly sorted
    pub ends : (e : ℕ) → e < length G.counts → low G.edges e < high G.edges e
    pub sorted : (d e : ℕ) → d < e → e < length G.counts → Before (low G.edges d) (high G.edges d) (low G.edges e) (high G.edges e)
    -- 18: each count within the limit
    pub counts_within : (e : ℕ) → e < length G.counts → count_of G.counts e ≤ most_count
    -- 7: each edge of each triangle is listed; 8: and no other
    pub listed : (f k : ℕ) → f < triangles_in G.triangles → k < 3 → (e : ℕ) × (e < length G.counts) × EdgeIs G f k e
    pub used : (e : ℕ) → e < length G.counts → (f : ℕ) × (k : ℕ) × (f < triangles_in G.triangles) × (k < 3) × EdgeIs G f k e
    -- 10: the crossings are few enough
    pub few_crossings : crossings G.counts ≤ most_crossings
