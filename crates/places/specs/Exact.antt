-- The exact case (01), over scaled whole numbers: its statement.
use Rattle.std.specs.Prelude.{ℕ, ◌+◌, ◌*◌, ◌<◌, ◌≡◌, Bool, true, false, List, get_or, ℤ, pos, neg_ℤ, ◌+ℤ◌, ◌-ℤ◌, ◌*ℤ◌, Float}
use Rattle.std.specs.Float.{nan}
use Rattle.std.specs.Float.Ieee.Exact.{HasValue}
use Rattle.answer.specs.Answer.{result_of}
use Rattle.grid.specs.Grid.{low, high, crossings}
use Rattle.place.specs.Place.{coordinates}
use Rattle.places.specs.Points.{edge_of_crossing}

-- the whole number of this size, negative where the sign is true
abbrev pub signed : Bool → ℕ → ℤ
signed false n = pos n
signed true n = neg_ℤ (pos n)

-- x is finite, and c times x is exactly the whole number z
pub record Exactly (c : ℕ) (x : Float) (z : ℤ) : Type 0 where
  pub sign : Bool
  pub size : ℕ
  pub has : HasValue x sign size c
  pub is : signed sign size ≡ z

-- the fractions are whole numbers of these parts
abbrev pub fraction_parts : ℕ
fraction_parts = 1024

module _ (edges counts : List ℕ) (nodes fractions : List Float) where
  -- number t of the places of both ends of crossing g's edge is whole, u and v, and its fraction is k parts
  pub record WholeAt (g t : ℕ) (u v k : ℤ) : Type 0 where
    pub lower : Exactly 1 (get_or nodes (coordinates * low edges (edge_of_crossing counts g) + t) nan) u
    pub upper : Exactly 1 (get_or nodes (coordinates * high edges (edge_of_crossing counts g) + t) nan) v
    pub part : Exactly fraction_parts (get_or fractions g nan) k

module _ (edges counts : List ℕ) (nodes fractions : List Float) where
  -- where the call refuses nothing, number t of the place that it writes for crossing g is then (1,024 u + k (v − u)) / 1,024;
  -- `answer` are the numbers answered, `after` is the lent area afterwards
  abbrev pub ExactCase : (answer : List ℕ) (after : List Float) → Type 0
  ExactCase answer after =
      (values : List ℕ) → answer ≡ result_of values
      → (g t : ℕ) → g < crossings counts → t < coordinates → (u v k : ℤ) → WholeAt edges counts nodes fractions g t u v k
      → Exactly fraction_parts (get_or after (coordinates * g + t) nan) (pos fraction_parts *ℤ u +ℤ k *ℤ (v -ℤ u))
