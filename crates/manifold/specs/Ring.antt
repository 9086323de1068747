-- Triangles round a point. They are of any type T whose values tell their corners and sides; `none` stands past the end of a list.
use Rattle.std.specs.Prelude.{ℕ, suc, ◌<◌, ◌≡◌, ◌⊎◌, ◌≢◌, List, length, get_or}
use Rattle.manifold.specs.Triangle.{Corner, Side, prev}

module _ {T : Type 0} (none : T) (corner_of : T → ℕ → Corner) (side_of : T → ℕ → Side) where
  -- the triangle v is entered over σ and left over τ, its two sides that end at the point g; g is one of its corners, once
  pub record PassesIn (v : T) (g : Corner) (σ τ : Side) : Type 0 where
    pub at : ℕ
    pub at_lt : at < 3
    pub is : corner_of v at ≡ g
    pub only : (j : ℕ) → j < 3 → corner_of v j ≡ g → j ≡ at
    pub ways : ((σ ≡ side_of v at) × (τ ≡ side_of v (prev at))) ⊎ ((σ ≡ side_of v (prev at)) × (τ ≡ side_of v at))
    pub apart : σ ≢ τ

  -- A chain at g: all triangles of a list with that corner, in a row. The i-th is the list's triangle `visit i`; it is entered over `side i`
  -- and left over `side (i + 1)`.
  pub record ChainIn (mesh : List T) (g : Corner) : Type 0 where
    pub n : ℕ
    pub visit : ℕ → ℕ
    pub side : ℕ → Side
    pub within : (i : ℕ) → i < n → visit i < length mesh
    -- each is entered over one of its two sides at g and left over the other, which it shares with the next
    pub passes : (i : ℕ) → i < n → PassesIn (get_or mesh (visit i) none) g (side i) (side (suc i))
    -- no triangle with that corner is missed
    pub every : (t j : ℕ) → t < length mesh → j < 3 → corner_of (get_or mesh t none) j ≡ g → (i : ℕ) × (i < n) × (visit i ≡ t)
    -- none comes twice
    pub once : (i j : ℕ) → i < n → j < n → visit i ≡ visit j → i ≡ j

  -- One ring at a point (01): a chain of two or more, so that each step leads to another triangle, whose last is left over the side by which
  -- the first is entered: that other side of the first by which it is not left.
  pub record RingIn (mesh : List T) (g : Corner) : Type 0 where
    pub chain : ChainIn mesh g
    pub more : 1 < chain.n
    pub home : chain.side chain.n ≡ chain.side 0
