-- What the tables say of a cell's positions, edges and slots (01), for any of them.
use Rattle.std.specs.Prelude.{ℕ, ◌<◌, ◌≡◌, ◌⊎◌, ◌≢◌, true}
use Rattle.slots.specs.Slots.{lo, hi, position, lower, upper, edge_between, slot_edge, edge_rank, contains, first_slot, second_slot}
use Rattle.slots.specs.claims.Slots.{rank_in, third_position, other_slot}

-- edge j, ab ac bc, of slot s: it joins the slot's positions a b, a c or b c
pub record SlotEdge (s j : ℕ) : Type 0 where
  pub lt : slot_edge s j < 6
  pub place_is : edge_rank s (slot_edge s j) ≡ j
  pub on : (first_slot (slot_edge s j) ≡ s) ⊎ (second_slot (slot_edge s j) ≡ s)
  pub lo_is : lo (slot_edge s j) ≡ position s (lower j)
  pub hi_is : hi (slot_edge s j) ≡ position s (upper j)
  pub within : contains (slot_edge s j) s ≡ true

-- edge k is an edge of slot s
pub record EdgeSlot (k s : ℕ) : Type 0 where
  pub lt : s < 4
  pub place_lt : edge_rank s k < 3
  pub edge_is : slot_edge s (edge_rank s k) ≡ k

-- edge k: its ends rise; two slots contain it, and the third node of the first is the lower
pub record TwoSlots (k : ℕ) : Type 0 where
  pub first_lt : first_slot k < 4
  pub second_lt : second_slot k < 4
  pub first_has : contains k (first_slot k) ≡ true
  pub second_has : contains k (second_slot k) ≡ true
  pub apart : second_slot k < first_slot k
  pub lower_third : third_position k (first_slot k) < third_position k (second_slot k)
  pub rising : lo k < hi k
  pub within : hi k < 4

-- the third position of slot s, which contains edge k; and the other slot that contains k, which omits it
pub record Third (k s : ℕ) : Type 0 where
  pub lt : third_position k s < 4
  pub not_omitted : third_position k s ≢ s
  pub not_lo : third_position k s ≢ lo k
  pub not_hi : third_position k s ≢ hi k
  pub other : contains k (other_slot k s) ≡ true
  pub back : other_slot k (other_slot k s) ≡ s
  pub only : (t : ℕ) → t < 4 → contains k t ≡ true → (t ≡ s) ⊎ (t ≡ other_slot k s)

pub record SlotLaws : Type 0 where
  -- any two positions are the ends of one edge, and the edges are in the order of their ends, by the lower and then the higher
  pub pair : (a b : ℕ) → a < b → b < 4 → (edge_between a b < 6) × (lo (edge_between a b) ≡ a) × (hi (edge_between a b) ≡ b)
  pub order : (k l : ℕ) → k < l → l < 6 → (lo k < lo l) ⊎ ((lo k ≡ lo l) × (hi k < hi l))
  -- slot s has three positions, which rise: every one but s
  pub rise : (s i j : ℕ) → s < 4 → i < j → j < 3 → position s i < position s j
  pub omits : (s i : ℕ) → s < 4 → i < 3 → (position s i < 4) × (position s i ≢ s)
  pub ranks : (s i : ℕ) → s < 4 → i < 4 → i ≢ s → (rank_in s i < 3) × (position s (rank_in s i) ≡ i)
  -- the edges of a slot; the slots of an edge
  pub edges : (s j : ℕ) → s < 4 → j < 3 → SlotEdge s j
  pub slots : (k : ℕ) → k < 6 → TwoSlots k
  -- a slot that contains an edge is one of its two, has it among its edges, and has a third position
  pub either : (k s : ℕ) → k < 6 → s < 4 → contains k s ≡ true → (first_slot k ≡ s) ⊎ (second_slot k ≡ s)
  pub has : (k s : ℕ) → k < 6 → s < 4 → contains k s ≡ true → EdgeSlot k s
  pub third_of : (k s : ℕ) → k < 6 → s < 4 → contains k s ≡ true → Third k s
