-- What is proved of the loops of a cell, for all counts and first numbers.
use Rattle.std.specs.Prelude.{ℕ, ◌+◌, ◌*◌, ◌/◌, ◌≤◌, ◌<◌, ◌≡◌, ◌⊎◌, ◌≢◌, Bool, true, ◌&&◌, ◌||◌, List, Option, eqb, length, get_or}
use Rattle.counting.specs.Lists.{tally, pre}
use Rattle.slots.specs.Slots.{contains}
use Rattle.walk.specs.claims.Claims.{Darts, flat, WalkLaws}
use Rattle.walk.specs.Darts.{half, rev}
use Rattle.walk.specs.claims.Step.{Ports}
use Rattle.cell.specs.declared.LoopType.{LoopType}
use Rattle.cell.specs.declared.Loop.{Loop}
use Rattle.cell.specs.Cell.{Edges, ahead, base, crossings, edge, index, number, join_at, mate, first_slot_at, second_slot_at, slot, step}
use Rattle.cell.specs.Loop.{loop_size, dart, loop_darts, normal, type_of, in_grid, leasts}
use Rattle.cell.specs.Answer.{type_numbers, loop_numbers}

-- the readings of the answer in numbers are one to one, so that the numbers determine the enums
pub record OneToOne : Type 0 where
  pub types : (s t : LoopType) → type_numbers s ≡ type_numbers t → s ≡ t
  pub loops : (k l : Option Loop) → loop_numbers k ≡ loop_numbers l → k ≡ l

module _ (w : Edges) where
  -- crossing x lies on slot s
  pub record Lies (s x : ℕ) : Type 0 where
    pub slot_lt : s < 4
    pub inside : x < crossings w
    pub on : contains (edge w x) s ≡ true

  -- the face call answers that x is joined on slot s: a segment of that face runs from x to its mate
  abbrev pub Joined : ℕ → ℕ → Type 0
  Joined s x = get_or (join_at w s x) 0 0 ≡ 0

  -- no crossing of the cell is unjoined, on neither of its faces
  abbrev pub AllJoined : Type 0
  AllJoined = (s x : ℕ) → Lies s x → Joined s x

  -- the dart d runs along the segment from x on slot s, one way or the other: it leaves by that slot, from either end
  unfoldable pub runs_along : (s x d : ℕ) → Bool
  runs_along s x d = eqb (slot w d) s && (eqb (d / 2) x || eqb (d / 2) (mate w s x))

  -- a step from dart d: along a segment of the face that d leaves by, to its other end, and on by that crossing's other face
  pub record StepOf (d : ℕ) : Type 0 where
    pub lies : Lies (slot w d) (d / 2)
    pub joined : Joined (slot w d) (d / 2)
    pub there : Lies (slot w d) (step w d / 2)
    pub to : step w d / 2 ≡ mate w (slot w d) (d / 2)
    pub turned : slot w d ≢ slot w (step w d)

-- numbers and pairs of edge and index are one to one, in the order in which the edges are laid
pub record Lay (w : Edges) : Type 0 where
  pub edge_lt : (x : ℕ) → x < crossings w → edge w x < 6
  pub index_lt : (x : ℕ) → x < crossings w → index w x < w.count (edge w x)
  pub back : (x : ℕ) → x < crossings w → number w (edge w x) (index w x) ≡ x
  pub number_lt : (k t : ℕ) → k < 6 → t < w.count k → number w k t < crossings w
  pub number_edge : (k t : ℕ) → k < 6 → t < w.count k → edge w (number w k t) ≡ k
  pub number_index : (k t : ℕ) → k < 6 → t < w.count k → index w (number w k t) ≡ t
  pub later : (x y : ℕ) → x < y → y < crossings w → (ahead w (edge w y) (edge w x) ≡ true) ⊎ ((edge w x ≡ edge w y) × (index w x < index w y))

pub record CellLaws (w : Edges) (v : List ℕ) : Type 0 where
  pub lay : Lay w
  -- faces and mates, and so the step, are as a walk asks; so what holds of walks holds of the cell's
  pub ports : Ports (crossings w) (first_slot_at w) (second_slot_at w) (mate w)
  pub darts : Darts (2 * crossings w) (crossings w) (step w) rev half
  pub walks : WalkLaws (crossings w) (step w)
  -- a loop has two segments or more, and no more than the cell has crossings
  pub longer : (p : ℕ) → p < crossings w → 0 < loop_size w p → 2 ≤ loop_size w p
  pub shorter : (p : ℕ) → p < crossings w → loop_size w p ≤ crossings w
  -- its points are distinct
  pub distinct : (p i j : ℕ) → p < crossings w → i < loop_size w p → j < loop_size w p → dart w p i / 2 ≡ dart w p j / 2 → i ≡ j
  -- where a curve goes on, it follows a segment; and where its crossing is joined, it goes on
  pub follows : (d : ℕ) → d < 2 * crossings w → step w d < 2 * crossings w → StepOf w d
  pub goes : (d : ℕ) → d < 2 * crossings w → Joined w (slot w d) (d / 2) → step w d < 2 * crossings w
  -- each segment of the cell's faces is on at most one loop, once; on exactly one where no crossing of the cell is unjoined
  pub most : (s x : ℕ) → Lies w s x → Joined w s x → tally (runs_along w s x) (flat (crossings w) (step w)) ≤ 1
  pub exactly : AllJoined w → (s x : ℕ) → Lies w s x → tally (runs_along w s x) (flat (crossings w) (step w)) ≡ 1
  -- a loop is normal exactly where no segment of it has both ends on one edge
  pub normal_ends : (p : ℕ) → p < crossings w → normal w p ≡ eqb (tally (λ d. eqb (edge w (d / 2)) (edge w (step w d / 2))) (loop_darts w p)) 0
  -- a loop of three segments is normal, and a corner
  pub three_normal : (p : ℕ) → p < crossings w → loop_size w p ≡ 3 → normal w p ≡ true
  pub three_corner : (p : ℕ) → p < crossings w → loop_size w p ≡ 3 → (get_or (type_of w v p) 0 0 ≡ 1) ⊎ (get_or (type_of w v p) 0 0 ≡ 3)
  -- the loops are listed by least crossing, each that there is and no other
  pub rising : (i j : ℕ) → i < j → j < length (leasts w) → get_or (leasts w) i 0 < get_or (leasts w) j 0
  pub listed : (i : ℕ) → i < length (leasts w)
      → (get_or (leasts w) i 0 < crossings w) × (0 < loop_size w (get_or (leasts w) i 0))
  pub all : (p : ℕ) → p < crossings w → 0 < loop_size w p → (i : ℕ) × (i < length (leasts w)) × (get_or (leasts w) i 0 ≡ p)

-- no crossing number belongs to two edges
abbrev pub Separate : Edges → Type 0
Separate w = (j k t u : ℕ) → j < 6 → k < 6 → t < w.count j → u < w.count k → w.start j + t ≡ w.start k + u → j ≡ k

-- then the cell's crossings have the order of their crossing numbers; p0 is the least crossing number of its loop (01), and the loops are ordered by p0
pub record OrderLaws (w : Edges) : Type 0 where
  pub numbers : (x y : ℕ) → x < y → y < crossings w → in_grid w x < in_grid w y
  pub least : (p k : ℕ) → p < crossings w → k < loop_size w p → in_grid w p ≤ in_grid w (dart w p k / 2)
  pub ordered : (i j : ℕ) → i < j → j < length (leasts w) → in_grid w (get_or (leasts w) i 0) < in_grid w (get_or (leasts w) j 0)

abbrev pub Ordered : Type 0
Ordered = (w : Edges) → Separate w → OrderLaws w

-- the first numbers rise from edge to edge, as in a cell of an accepted grid; then the edges are laid as they stand
abbrev pub Rising : Edges → Type 0
Rising w = (j k : ℕ) → j < k → k < 6 → w.start j ≤ w.start k

abbrev pub LaidSame : Type 0
LaidSame = (w : Edges) → Rising w → (k : ℕ) → k < 6 → base w k ≡ pre w.count k
