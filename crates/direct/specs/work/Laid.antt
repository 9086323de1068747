-- The triangles of a level cell edge by edge, in whatever order the edges are laid: all of them where d2 = 0, or
-- those of its corners alone.
use Rattle.std.specs.Prelude.{ℕ, ◌<◌, ◌≡◌, Bool, true, false, List, [], ◌∷◌, ◌++◌, eqb, length}
use Rattle.counting.specs.Pick.{pick}
use Rattle.slots.specs.Slots.{lo, hi, first_slot}
use Rattle.slots.specs.claims.Slots.{third_position}
use Rattle.cell.specs.declared.Cell.{Cell}
use Rattle.cell.specs.declared.Triangle.{Triangle}
use Rattle.cell.specs.Cell.{ahead, crossings, index}
use Rattle.cell.specs.Of.{count_of, edges_of}
use Rattle.cell.specs.Nodes.{joining}
use Rattle.cell.specs.Level.{is_level_cell}
use Rattle.booking.specs.Booking.{left_between, smaller}
use Rattle.direct.specs.claims.Direct.{passed, outwards, inwards, acrosses, rounds}
use Rattle.direct.specs.work.Rows.{AreOwn, Listed}

module _ (C : Cell) where
  -- the loops round a that start on its edge k to b, outwards or inwards, unless they cross an edge that is laid before k
  unfoldable pub ring_on : (k : ℕ) (up : Bool) (a b x d : ℕ) → List Triangle
  ring_on k up a b x d = pick (passed (ahead (edges_of C)) k (joining a x ∷ joining a d ∷ [])) [] (pick up (outwards C a b x d) (inwards C a b x d))

  -- the same of the quads that start on edge k from a to u, over mu or over av
  unfoldable pub parting_on : (k : ℕ) (over : Bool) (a m u v : ℕ) → List Triangle
  parting_on k over a m u v =
      pick (passed (ahead (edges_of C)) k (joining m u ∷ joining m v ∷ joining a v ∷ [])) [] (pick over (acrosses C a m u v) (rounds C a m u v))

  -- all quads on edge k from a to b, whose first face is abx
  unfoldable pub quads_on : (k a b x d : ℕ) → List Triangle
  quads_on k a b x d = pick (eqb (left_between (count_of C) a x) 0) (parting_on k true a x b d) (parting_on k false a d b x)

  -- what stands on edge k: with the quads, or the corner triangles alone
  unfoldable pub laid_on : (quads : Bool) (k : ℕ) → List Triangle
  laid_on quads k =
      ring_on k true (lo k) (hi k) (third_position k (first_slot k)) (first_slot k)
      ++ (pick quads (quads_on k (lo k) (hi k) (third_position k (first_slot k)) (first_slot k)) []
      ++ ring_on k false (hi k) (lo k) (third_position k (first_slot k)) (first_slot k))

-- the length of the loops that are asked for: any, or 3
abbrev pub length_asked : Bool → ℕ
length_asked quads = pick quads 0 3

-- a level cell, the corner triangles at its four positions; its quads are asked for only where d2 = 0
pub record Laying (w : ℕ → ℕ) (own : List ℕ) (quads : Bool) : Type 0 where
  pub level : is_level_cell w ≡ true
  pub own_are : AreOwn w own
  pub none : quads ≡ true → smaller w ≡ 0

-- what its triangles are written from
pub record Laid (c : Cell) (six own : List ℕ) (quads : Bool) : Type 0 where
  pub listed : Listed c six
  pub laying : Laying (count_of c) own quads

-- the crossing p is the first of its edge
pub record AtStart (c : Cell) (p : ℕ) : Type 0 where
  pub inside : p < crossings (edges_of c)
  pub first : index (edges_of c) p ≡ 0

-- a cell with six counts and six starts, as every one by value has
pub record SixEach (c : Cell) : Type 0 where
  pub counts_six : length c.counts ≡ 6
  pub starts_six : length c.starts ≡ 6

-- the cell with these counts, starts, names, nodes and index
abbrev pub cell_of : (counts starts names nodes : List ℕ) (index : ℕ) → Cell
cell_of counts starts names nodes index = record { counts = counts; starts = starts; names = names; nodes = nodes; index = index }
