-- The crossings of a cell on its slots, and what they are joined to there, by slot, edge and index.
use Prim.Native.Nat.{ℕ, ◌+◌, ◌*◌, ◌/◌, ◌%◌, ◌<◌}
use mathlib.Core.Path.{◌≡◌, ap, ◌∙◌}
use mathlib.Core.Logic.{◌⊎◌, inl, inr}
use native.Mathlib.Omega.{arith}
use Rattle.slots.specs.Slots.{slot_edge, edge_rank}
use Rattle.slots.proofs.Slots.{slot-edge, EdgeSlot}
use Rattle.face.specs.Face.{joined}
use Rattle.face.specs.claims.Claims.{unjoined}
use Rattle.face.proofs.Claims.{face_laws}
use Rattle.walk.specs.Step as walk
use Rattle.cell.specs.Cell.{Edges, crossings, edge, index, number, join_at, mate, first_slot_at, second_slot_at, slot}
use Rattle.cell.proofs.Lay.{lay}
use Rattle.cell.proofs.Mates.{mate_joined, mate_unjoined, mate_cases, joined_edge, joined_index, slot_has}

module _ (w : Edges) where
  -- the counts of slot s
  abbrev pub three : ℕ → ℕ → ℕ
  three s j = w.count (slot_edge s j)

  -- crossing x lies on slot s
  pub record On (s x : ℕ) : Type 0 where
    pub lt : x < crossings w
    pub slot : EdgeSlot (edge w x) s

  -- the crossing of a dart lies on the dart's slot
  pub on_dart : (d : ℕ) → d < 2 * crossings w → On (walk.face (crossings w) (first_slot_at w) (second_slot_at w) (mate w) d) (d / 2)
  unfolding slot
  on_dart d l = record { lt = omega arith; slot = slot_has w d l }

  -- its index is below the count of its edge there, and edge and index tell it
  pub index_in : {s x : ℕ} → On s x → index w x < three s (edge_rank s (edge w x))
  index_in {s} {x} o = rw (three, o.slot.edge_is) ((lay w).index_lt x o.lt)

  pub is_num : {s x : ℕ} → On s x → number w (slot_edge s (edge_rank s (edge w x))) (index w x) ≡ x
  is_num {s} {x} o = rw o.slot.edge_is ((lay w).back x o.lt)

  -- a crossing by its slot, edge and index
  module _ (s j i : ℕ) (ls : s < 4) (lj : j < 3) (li : i < three s j) where
    pub num_lt : number w (slot_edge s j) i < crossings w
    num_lt = (lay w).number_lt (slot_edge s j) i (slot-edge s j ls lj).lt li

    pub num_edge : edge w (number w (slot_edge s j) i) ≡ slot_edge s j
    num_edge = (lay w).number_edge (slot_edge s j) i (slot-edge s j ls lj).lt li

    pub num_index : index w (number w (slot_edge s j) i) ≡ i
    num_index = (lay w).number_index (slot_edge s j) i (slot-edge s j ls lj).lt li

    pub num_place : edge_rank s (edge w (number w (slot_edge s j) i)) ≡ j
    num_place = ap (edge_rank s) num_edge ∙ (slot-edge s j ls lj).place_is

  -- a crossing on a slot is joined there, to a crossing that is on the slot too; or has no mate
  pub record JoinFound (s x : ℕ) : Type 0 where
    pub j : ℕ
    pub i : ℕ
    pub j_lt : j < 3
    pub i_lt : i < three s j
    pub join : join_at w s x ≡ joined j i
    pub is : mate w s x ≡ number w (slot_edge s j) i

  pub joined_or : {s x : ℕ} → On s x → JoinFound s x ⊎ ((join_at w s x ≡ unjoined) × (mate w s x ≡ crossings w))
  joined_or {s} {x} o = go (mate_cases w s x o.lt o.slot)
    where
      go : ((j : ℕ) × (i : ℕ) × (join_at w s x ≡ joined j i)) ⊎ (join_at w s x ≡ unjoined) → JoinFound s x ⊎ ((join_at w s x ≡ unjoined) × (mate w s x ≡ crossings w))
      go (inr e) = inr (e, mate_unjoined w s x e)
      go (inl (j, i, e)) = inl (record { j = j; i = i; j_lt = joined_edge w s x e; i_lt = joined_index w s x e; join = e; is = mate_joined w s x e })

  -- where the counts of a slot have an even sum, each crossing on it is joined
  pub even_joined : (s x : ℕ) → (three s 0 + three s 1 + three s 2) % 2 ≡ 0 → join_at w s x ≡ unjoined → ⊥
  unfolding join_at
  even_joined s x e u = (face_laws (three s 0) (three s 1) (three s 2)).even e (edge_rank s (edge w x)) (index w x) u
