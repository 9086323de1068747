-- The crossings of a cell, their mates on its four faces, and the step from dart to dart. The cell's edges are laid end to end by their first
-- crossing numbers, of two with the same by edge, and its crossings are numbered from 0 along them: so where no crossing number belongs to two
-- edges, the order of crossings is that of their crossing numbers.
use Rattle.std.specs.Prelude.{ℕ, ◌+◌, ◌-◌, Bool, ◌&&◌, ◌||◌, List, eqb, ltb, leb, get_or}
use Rattle.counting.specs.Pick.{pick}
use Rattle.counting.specs.Lists.{total, pre}
use Rattle.counting.specs.Search as search
use Rattle.slots.specs.Slots.{slot_edge, edge_rank, first_slot, second_slot}
use Rattle.face.specs.Face.{face_answer, face_join}
use Rattle.walk.specs.Step as walk

-- the six edges of a cell: the count of edge k, and the crossing number (01) at its index 0
pub record Edges : Type 0 where
  pub count : ℕ → ℕ
  pub start : ℕ → ℕ

module _ (w : Edges) where
  -- edge j is laid before edge k
  unfoldable pub ahead : ℕ → ℕ → Bool
  ahead k j = ltb (w.start j) (w.start k) || (eqb (w.start j) (w.start k) && ltb j k)

  -- how many crossings are laid before edge k, and how many the cell has
  unfoldable pub base : ℕ → ℕ
  base k = total (λ j. pick (ahead k j) (w.count j) 0) 6 0

  abbrev pub crossings : ℕ
  crossings = pre w.count 6

  -- the number of the crossing with index t on edge k
  abbrev pub number : ℕ → ℕ → ℕ
  number k t = base k + t

  -- crossing x is one of edge k
  unfoldable pub holds : ℕ → ℕ → Bool
  holds x k = leb (base k) x && ltb x (base k + w.count k)

  -- the edge and the index of crossing x
  unfoldable pub edge : ℕ → ℕ
  edge x = search.first (holds x) 6

  unfoldable pub index : ℕ → ℕ
  index x = x - base (edge x)

  -- the face call's answer for crossing x on slot s; and without how and why
  unfoldable pub answer_at : ℕ → ℕ → List ℕ
  answer_at s x = face_answer (w.count (slot_edge s 0)) (w.count (slot_edge s 1)) (w.count (slot_edge s 2)) (edge_rank s (edge x)) (index x)

  unfoldable pub join_at : ℕ → ℕ → List ℕ
  join_at s x = face_join (w.count (slot_edge s 0)) (w.count (slot_edge s 1)) (w.count (slot_edge s 2)) (edge_rank s (edge x)) (index x)

  -- the crossing that an answer on slot s leads to, by its case, edge and index; the number of crossings where it is not joined
  unfoldable pub joined_to : ℕ → List ℕ → ℕ
  joined_to s a = pick (eqb (get_or a 0 0) 0) (number (slot_edge s (get_or a 1 0)) (get_or a 2 0)) crossings

  -- the mate of crossing x on slot s: the other end of its segment there
  unfoldable pub mate : ℕ → ℕ → ℕ
  mate s x = joined_to s (join_at s x)

  -- the two slots of a crossing, the face whose third node is lower first
  abbrev pub first_slot_at : ℕ → ℕ
  first_slot_at x = first_slot (edge x)

  abbrev pub second_slot_at : ℕ → ℕ
  second_slot_at x = second_slot (edge x)

  -- the slot by which a dart leaves, and the dart after it; no dart where its curve ends
  unfoldable pub slot : ℕ → ℕ
  slot = walk.face crossings first_slot_at second_slot_at mate

  unfoldable pub step : ℕ → ℕ
  step = walk.step crossings first_slot_at second_slot_at mate
