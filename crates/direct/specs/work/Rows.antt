-- Rows of crossing numbers, one after the other along an edge.
use Rattle.std.specs.Prelude.{ℕ, suc, ◌+◌, ◌-◌, ◌≤◌, ◌<◌, ◌≡◌, ◌≢◌, Bool, true, false, not, List, ltb, leb, length, get_or}
use Rattle.counting.specs.Pick.{pick}
use Rattle.counting.specs.Lists.{values}
use Rattle.counting.specs.Search.{every}
use Rattle.cell.specs.declared.Cell.{Cell}
use Rattle.cell.specs.work.Limits.{long_limit}
use Rattle.cell.specs.Of.{count_of}
use Rattle.cell.specs.work.Route.{Near}
use Rattle.cell.specs.claims.Nodes.{Arranged}
use Rattle.cell.specs.Nodes.{count_between}
use Rattle.cell.specs.Level.{is_level_cell}
use Rattle.booking.specs.Booking.{least_corner, left_between}
use Rattle.booking.specs.claims.Booking.{booked}
use Rattle.direct.specs.declared.Row.{Row}
use Rattle.direct.specs.claims.Direct.{Plain, number_at}

-- number i of a row
unfoldable pub in_row : Row → ℕ → ℕ
in_row r i = pick r.falls (r.first - i) (r.first + i)

-- it is one of 32 bits
pub record Has (r : Row) (i : ℕ) : Type 0 where
  pub low : r.falls ≡ true → i ≤ r.first
  pub high : r.falls ≡ false → r.first + i < long_limit

-- the first n are
abbrev pub Long : Row → ℕ → Type 0
Long r n = (i : ℕ) → i < n → Has r i

-- the cell has six starts within their limit, and its counts are listed, none above theirs
pub record Listed (c : Cell) (six : List ℕ) : Type 0 where
  pub near : Near c
  pub starts_six : length c.starts ≡ 6
  pub six_are : six ≡ values (count_of c) 6

-- the crossing k from a on the edge ab
pub record Crosses (c : Cell) (a b k : ℕ) : Type 0 where
  pub a_lt : a < 4
  pub b_lt : b < 4
  pub apart : a ≢ b
  pub below : k < count_between (count_of c) a b

-- r is the row of the crossings from a on the edge ab, from the k-th on: the next ones, or those before
pub record RowOf (c : Cell) (a b k : ℕ) (up : Bool) (r : Row) : Type 0 where
  pub first_is : r.first ≡ number_at c a b k
  pub falls_is : r.falls ≡ pick (ltb a b) (not up) up

-- n loops go round the node a, which has the nodes b, x, d beside it
pub record Round (c : Cell) (n a b x d : ℕ) : Type 0 where
  pub all : Arranged a b x d
  pub level : is_level_cell (count_of c) ≡ true
  pub many : n ≡ least_corner (count_of c) a

-- n loops part a and m, with so many corner triangles, from u and v
pub record Parting (c : Cell) (n at_a at_m a m u v : ℕ) : Type 0 where
  pub all : Arranged a m u v
  pub level : is_level_cell (count_of c) ≡ true
  pub none : left_between (count_of c) a m ≡ 0
  pub many : n ≡ left_between (count_of c) a u
  pub own_a : at_a ≡ least_corner (count_of c) a
  pub own_m : at_m ≡ least_corner (count_of c) m

-- the corner triangles at the four positions are listed
abbrev pub AreOwn : (ℕ → ℕ) → List ℕ → Type 0
AreOwn w l = (p : ℕ) → p < 4 → get_or l p 0 ≡ least_corner w p

-- what the triangles of a level cell with d2 = 0 are written from
pub record Ready (c : Cell) (six own : List ℕ) : Type 0 where
  pub listed : Listed c six
  pub plain : Plain (count_of c)
  pub own_are : AreOwn (count_of c) own

-- a level cell with d2 = 0, the corner triangles at its four positions, and how many triangles it has
pub record PlainNumbers (w : ℕ → ℕ) (own : List ℕ) (n : ℕ) : Type 0 where
  pub plain : Plain w
  pub own_are : AreOwn w own
  pub triangles_are : n ≡ booked w

-- the first numbers s k of the edges k rise
unfoldable pub is_rising : (ℕ → ℕ) → Bool
is_rising s = every (λ k. leb (s k) (s (suc k))) 5
