-- What the corner triangles leave of a cell. Of its three pairs of opposite edges let ad and bc have the largest sum of
-- counts: they keep x + y crossings each, ab and cd keep x, ac and bd keep y.
use Rattle.std.specs.Prelude.{ℕ, ◌+◌, ◌*◌, ◌-◌, ◌/◌, ◌%◌, min, max, ◌≡◌, ◌≢◌, ltb}
use Rattle.counting.specs.Pick.{pick}
use Rattle.cell.specs.Cell.{Edges, edge, step}
use Rattle.cell.specs.claims.Nodes.{Arranged, dart_at}
use Rattle.cell.specs.Nodes.{joining, count_between}
use Rattle.booking.specs.Booking.{least_corner, left_between, larger, smaller}

-- x places on in a round of n
unfoldable pub further : ℕ → ℕ → ℕ → ℕ
further n x q = (q + x) % n

module _ (w : ℕ → ℕ) where
  -- the sum of the counts of the edge ab and its opposite cd; the largest of the three
  abbrev pub pair_sum : ℕ → ℕ → ℕ → ℕ → ℕ
  pair_sum a b c d = count_between w a b + count_between w c d

  unfoldable pub largest_pair : ℕ
  largest_pair = max (max (pair_sum 0 1 2 3) (pair_sum 0 2 1 3)) (pair_sum 0 3 1 2)

  -- the pair ad, bc has it
  pub record Longest (a b c d : ℕ) : Type 0 where
    pub all : Arranged a b c d
    pub sum : pair_sum a d b c ≡ largest_pair

  -- x and y are d1 and d2, in either order
  pub record Numbers (x y : ℕ) : Type 0 where
    pub most : max x y ≡ larger w
    pub least : min x y ≡ smaller w

module _ (w : Edges) where
  -- the dart by slot d of the r-th crossing from a on ab, of those that are left
  unfoldable pub left_dart : ℕ → ℕ → ℕ → ℕ → ℕ
  left_dart a b d r = dart_at w a b d (least_corner w.count a + r)

  -- how many places a round has: twice what ad keeps
  abbrev pub round_size : ℕ → ℕ → ℕ → ℕ
  round_size a b c = 2 * (left_between w.count a b + left_between w.count a c)

  -- the darts that are left of ad in a round: up from a by slot b, and down by slot c
  unfoldable pub round_dart : ℕ → ℕ → ℕ → ℕ → ℕ → ℕ
  round_dart a b c d q = pick (ltb q (left_between w.count a b + left_between w.count a c)) (left_dart a d b q) (left_dart a d c (round_size a b c - 1 - q))

  -- two steps from place q of that round: over a crossing on neither ad nor bc, to the round of bc and x places on
  pub record TwoSteps (a b c d q : ℕ) : Type 0 where
    pub away : edge w (step w (round_dart a b c d q) / 2) ≢ joining a d
    pub apart : edge w (step w (round_dart a b c d q) / 2) ≢ joining b c
    pub to : step w (step w (round_dart a b c d q)) ≡ round_dart b a d c (further (round_size a b c) (left_between w.count a b) q)
