-- In a cell that is booked every crossing is joined, on both its faces, and round a corner: no curve ends, and no segment is folded.
use Prim.Native.Nat.{ℕ, zero, suc, ◌*◌, ◌/◌, ◌<◌}
use mathlib.Core.Path.{◌≡◌, ap, ◌∙◌}
use mathlib.Core.Logic.{◌≢◌}
use mathlib.Core.Bool.{true}
use native.Mathlib.Omega.{arith}
use Rattle.slots.specs.Slots.{slot_edge, edge_rank}
use Rattle.slots.proofs.Slots.{EdgeSlot, slot-edge}
use Rattle.face.specs.Face.{joined, count_on}
use Rattle.face.specs.claims.Level.{LevelLaws}
use Rattle.face.proofs.Level.{level_laws}
use Rattle.counting.specs.Lists.{it}
use Rattle.cell.specs.Cell.{Edges, crossings, edge, index, join_at, slot, step}
use Rattle.cell.specs.Level.{is_level_cell}
use Rattle.cell.proofs.Levels.{slot_level}
use Rattle.cell.proofs.Lay.{lay}
use Rattle.cell.proofs.Step.{edge-number}
use Rattle.cell.proofs.Reach.{slot-count}
use Rattle.cell.proofs.Mates.{slot_has, mate_joined, joined_edge, joined_index}
use Rattle.cell.proofs.Follow.{step_of, goes_on}

module _ (w : Edges) (K : is_level_cell w.count ≡ true) where
  module _ (d : ℕ) (l : d < 2 * crossings w) where
    abbrev s : ℕ
    s = slot w d

    abbrev x : ℕ
    x = d / 2

    abbrev j : ℕ
    j = edge_rank s (edge w x)

    S : EdgeSlot (edge w x) s
    S = slot_has w d l

    level : LevelLaws (w.count (slot_edge s 0)) (w.count (slot_edge s 1)) (w.count (slot_edge s 2))
    level = level_laws (slot_level w.count K s S.lt)

    within : index w x < count_on (w.count (slot_edge s 0)) (w.count (slot_edge s 1)) (w.count (slot_edge s 2)) j
    within = rw (slot-count w s j S.place_lt, S.edge_is) ((lay w).index_lt x (omega arith))

    -- the segment along the dart
    record Segment : Type 0 where
      i : ℕ
      u : ℕ
      is : join_at w s x ≡ joined i u
      turns : j ≢ i

    segment : Segment
    unfolding join_at
    segment = let (i, u, e) = level.joined j (index w x) within in record { i = i; u = u; is = e; turns = level.turns j (index w x) i u e }

    -- the curve goes on, to another edge
    pub goes : step w d < 2 * crossings w
    goes = goes_on w d l (rw segment.is)

    pub moves : edge w x ≢ edge w (step w d / 2)
    moves q =
        let G = segment in
        let il = joined_edge w s x G.is in
        let E = slot-edge s G.i S.lt il in
        let e : edge w (step w d / 2) ≡ slot_edge s G.i =
        ap (edge w) ((step_of w d l goes).to ∙ mate_joined w s x G.is) ∙ edge-number w (slot_edge s G.i) G.u E.lt (joined_index w s x G.is) in
        G.turns (ap (edge_rank s) (q ∙ e) ∙ E.place_is)

  pub lives : (i d : ℕ) → d < 2 * crossings w → it (step w) i d < 2 * crossings w
  unfolding it
  lives zero d l = l
  lives (suc i) d l = lives i (step w d) (goes d l)
