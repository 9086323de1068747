-- Darts in parts: the crossing with index t on the edge of half-edge h, which is crossing x of the cell, left by h.
use Rattle.std.specs.Prelude.{ℕ, ◌*◌, ◌-◌, ◌<◌, ◌≡◌, Bool, true, false, List, Option, Some, None}
use Rattle.counting.specs.Pick.{pick}
use Rattle.slots.specs.Slots.{lower, upper}
use Rattle.cell.specs.declared.Cell.{Cell}
use Rattle.cell.specs.declared.Dart.{Dart}
use Rattle.cell.specs.Cell.{Edges, number, crossings, step}
use Rattle.cell.specs.work.Half.{half_edges, twin}
use Rattle.cell.specs.claims.Half.{rank_of, edge_of, dart_number}
use Rattle.cell.specs.Loop.{folded}
use Rattle.cell.specs.Of.{edges_of}
use Rattle.cell.specs.work.Route.{half_corner, Routed}

pub record Parts (w : Edges) (h t x : ℕ) : Type 0 where
  pub half_lt : h < half_edges
  pub index_lt : t < w.count (edge_of h)
  pub number_is : x ≡ number w (edge_of h) t

abbrev pub IsDart : Edges → Dart → Type 0
IsDart w d = Parts w d.half d.index d.number

-- a place to go on from: index u of the edge of half-edge g; and the dart there
pub record Spot (w : Edges) (g u : ℕ) : Type 0 where
  pub half_lt : g < half_edges
  pub index_lt : u < w.count (edge_of g)

pub record IsDartAt (w : Edges) (g u : ℕ) (r : Dart) : Type 0 where
  pub half_is : r.half ≡ g
  pub index_is : r.index ≡ u
  pub number_is : r.number ≡ number w (edge_of g) u

-- a dart of the cell whose routes are t
pub record Ready (c : Cell) (t : List ℕ) (d : Dart) : Type 0 where
  pub routed : Routed c t
  pub dart : IsDart (edges_of c) d

-- the dart is at the lower end of its edge, or the k-th crossing at the upper
abbrev pub AtLow : Edges → Dart → Type 0
AtLow w d = d.index < half_corner w (lower (rank_of d.half)) d.half

pub record AtHigh (w : Edges) (d : Dart) (k : ℕ) : Type 0 where
  pub is : k ≡ w.count (edge_of d.half) - 1 - d.index
  pub below : k < half_corner w (upper (rank_of d.half)) d.half

abbrev pub dart_of : Dart → ℕ
dart_of d = dart_number d.half d.number

-- a step leads from dart d round an end of its edge to the edge of half-edge g, to the k-th crossing from its lower end or, if `over`, from its upper
pub record Turns (w : Edges) (d : Dart) (g k : ℕ) (over : Bool) : Type 0 where
  pub half_lt : g < half_edges
  pub room : k < w.count (edge_of g)
  pub is : step w (dart_of d) ≡ dart_number g (number w (edge_of g) (pick over (w.count (edge_of g) - 1 - k) k))
  pub told : folded w (dart_of d) ≡ false

-- a step leads from dart d along its edge, to index u
pub record Beside (w : Edges) (d : Dart) (u : ℕ) : Type 0 where
  pub spot : Spot w (twin d.half) u
  pub is : step w (dart_of d) ≡ dart_number (twin d.half) (number w (edge_of (twin d.half)) u)
  pub told : folded w (dart_of d) ≡ true

-- a step leads from dart d to dart r, along the edge or not
pub record Leads (w : Edges) (d r : Dart) (along : Bool) : Type 0 where
  pub to : IsDart w r
  pub is : step w (dart_of d) ≡ dart_of r
  pub told : folded w (dart_of d) ≡ along

-- what a step from dart d comes to: a dart, along its edge or not, or the end of the curve
abbrev pub Onward : Edges → Dart → Option (Dart × Bool) → Type 0
Onward w d (Some s) = Leads w d s.0 s.1
Onward w d None = step w (dart_of d) ≡ 2 * crossings w
