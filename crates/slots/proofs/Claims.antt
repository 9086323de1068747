-- The laws of the tables, together.
use Rattle.slots.specs.claims.Claims.{SlotLaws}
use Rattle.slots.proofs.Slots.{slot-edge, edge_slot, one_of_two, third_of, two_slots, corner_lt, omitted, corners_rise, rank-of, edge_pair, edge_order}

pub slot_laws : SlotLaws
slot_laws = record {
  pair = edge_pair;
  order = edge_order;
  rise = λ s i j ls l lj. corners_rise s i j l;
  omits = λ s i ls li. (corner_lt s i li, omitted s i);
  ranks = rank-of;
  edges = slot-edge;
  slots = two_slots;
  either = one_of_two;
  has = edge_slot;
  third_of = third_of;
}
