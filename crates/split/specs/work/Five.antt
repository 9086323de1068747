-- What each slot of a split cell keeps, and what goes to its sub-cells.
use Rattle.std.specs.Prelude.{ℕ, ◌+◌, ◌≤◌, ◌<◌, ◌≡◌, ◌⊎◌, [], ◌∷◌, get_or}
use Rattle.cell.specs.declared.Cell.{Cell}
use Rattle.cell.specs.Of.{count_of, start_of}
use Rattle.split.specs.SubCell.{rest_of, arm_of, rest_start, arm_start, inner_name}
use Rattle.slots.specs.Slots.{lo, hi, slot_edge}
use Rattle.booking.specs.Booking.{least_corner}
use Rattle.split.specs.work.Shown.{Facet}
use Rattle.split.specs.claims.Five.{name_of}

module _ (c : Cell) where
  -- what remains of edge e: so many crossings, from this number on
  abbrev pub rest_count : ℕ → ℕ
  rest_count e = rest_of (count_of c) e

  -- the count of the new edge to the node at position p
  abbrev pub arm_count : ℕ → ℕ
  arm_count p = arm_of (count_of c) p

module _ (c : Cell) where
  -- the face in slot s
  abbrev pub facet : ℕ → Facet
  facet s = record { size = λ j. count_of c (slot_edge s j); start = λ j. start_of c (slot_edge s j); name = name_of c s }

  -- the crossing with the number g goes with the corner triangles, or stays
  pub record Went (g : ℕ) : Type 0 where
    pub k : ℕ
    pub t : ℕ
    pub k_lt : k < 6
    pub t_lt : t < count_of c k
    pub gone : (t < least_corner (count_of c) (lo k)) ⊎ (count_of c k ≤ t + least_corner (count_of c) (hi k))
    pub is : g ≡ start_of c k + t

  pub record Stays (g : ℕ) : Type 0 where
    pub k : ℕ
    pub t : ℕ
    pub k_lt : k < 6
    pub low : least_corner (count_of c) (lo k) ≤ t
    pub high : t + least_corner (count_of c) (hi k) < count_of c k
    pub is : g ≡ start_of c k + t

  module _ (b f : ℕ) where
    -- the inner face over edge e
    abbrev pub inside : ℕ → Facet
    inside e = record {
      size = λ i. get_or (arm_count c (lo e) ∷ arm_count c (hi e) ∷ rest_count c e ∷ []) i 0;
      start = λ i. get_or (arm_start c b (lo e) ∷ arm_start c b (hi e) ∷ rest_start c e ∷ []) i 0;
      name = inner_name c f e;
    }
