-- Places in trees by their keys: a list of links, each one more than a place or 0 for none. First
-- stand the links to the trees, one for each remainder of a key, then b branches of each place; a way down takes a digit of the key, to the base b, at
-- each place, from the lowest on. The place at depth d has the first d digits of each key whose way passes it, so a key of d digits has ways of d + 1
-- places at most.
use Rattle.std.specs.Prelude.{ℕ, zero, suc, ◌+◌, ◌-◌, ◌*◌, ◌/◌, ◌%◌, ◌≤◌, ◌<◌, ◌≡◌, Bool, List, Option, Some, None, ltb, eqb, length, get_or}
use Rattle.counting.specs.Pick.{pick}
use Rattle.counting.specs.Search.{last}

-- the trees
abbrev pub trees : ℕ
trees = 7919

-- place i has the key x; and one more than the last such of n places, or 0
unfoldable pub has_key : (ℕ → ℕ) → ℕ → ℕ → Bool
has_key key x i = eqb (key i) x

abbrev pub top_for : (ℕ → ℕ) → ℕ → ℕ → ℕ
top_for key n x = last (has_key key x) n

-- the link to a place: one more than it, or 0 for none
abbrev pub link_to : Option ℕ → ℕ
link_to None = 0
link_to (Some i) = suc i

-- for each place from low on, one more than the last with its key
pub record Tops (key : ℕ → ℕ) (n low : ℕ) (tops : List ℕ) : Type 0 where
  pub room : n ≤ length tops
  pub at : (i : ℕ) → low ≤ i → i < n → get_or tops i 0 ≡ top_for key n (key i)

-- a list that has every link of another, and may have more
abbrev pub Keeps : List ℕ → List ℕ → Type 0
Keeps links more = (y : ℕ) → 0 < get_or links y 0 → get_or more y 0 ≡ get_or links y 0

-- the link to a key's tree
abbrev pub root_of : ℕ → ℕ
root_of x = x % trees

-- the link at which the way goes on below j - 1, with `rest` of the key left
abbrev pub branch_of : ℕ → ℕ → ℕ → ℕ
branch_of b j rest = trees + b * (j - 1) + rest % b

-- the way from a link, with `rest` of a key left, comes after d places to a link that holds t
unfoldable pub Comes : ℕ → List ℕ → ℕ → ℕ → ℕ → ℕ → Type 0
Comes b links zero at rest t = get_or links at 0 ≡ t
Comes b links (suc d) at rest t = (0 < get_or links at 0) × Comes b links d (branch_of b (get_or links at 0) rest) (rest / b) t

abbrev pub Leads : ℕ → List ℕ → ℕ → ℕ → ℕ → Type 0
Leads b links at rest t = ∥ ((d : ℕ) × Comes b links d at rest t) ∥₁

-- of n places those from low on are planted, of equal keys the last; branches lead to lower places
pub record Tree (b : ℕ) (key : ℕ → ℕ) (n low : ℕ) (links : List ℕ) : Type 0 where
  pub room : trees + b * n ≤ length links
  pub after : (y : ℕ) → 0 < get_or links y 0 → low < get_or links y 0
  pub top : (y : ℕ) → 0 < get_or links y 0 → get_or links y 0 ≡ top_for key n (key (get_or links y 0 - 1))
  pub down : (i r : ℕ) → r < b → get_or links (trees + b * i + r) 0 ≤ i
  pub leads : (i : ℕ) → low ≤ i → i < n → Leads b links (root_of (key i)) (key i) (top_for key n (key i))

-- where the way of the key x ends: at the link to the last place planted that has it, or at an empty one, where it could be planted
pub record Sought (b : ℕ) (key : ℕ → ℕ) (n low : ℕ) (links : List ℕ) (x at : ℕ) : Type 0 where
  pub within : at < length links
  pub is : get_or links at 0 ≡ pick (ltb low (top_for key n x)) (top_for key n x) 0
  pub below : (i r : ℕ) → r < b → at ≡ trees + b * i + r → low ≤ i
  pub way : (more : List ℕ) → Keeps links more → Leads b more (root_of x) x (get_or more at 0)
