-- What a slot of a piece shows of a face, and a piece split in five, as laws on its faces.
use Rattle.std.specs.Prelude.{ℕ, zero, suc, ◌+◌, ◌-◌, ◌<◌, ◌≡◌, ◌⊎◌, ◌≢◌}
use Rattle.slots.specs.Slots.{lo, hi, slot_edge}
use Rattle.face.specs.Rim as rim
use Rattle.walk.specs.Darts.{half}
use Rattle.manifold.specs.claims.Piece.{Local, Piece, slot_of, mate_of}
use Rattle.face.specs.claims.Level.{Level}
use Rattle.manifold.specs.claims.Complex.{Joins, Whole}

-- a face: the counts of its three edges and their first numbers, its name
pub record Facet : Type 0 where
  pub size : ℕ → ℕ
  pub start : ℕ → ℕ
  pub name : ℕ

module _ (Φ : Facet) where
  -- crossing t of edge j by its number
  abbrev pub num : ℕ → ℕ → ℕ
  num j t = Φ.start j + t

  abbrev pub Segment : ℕ → ℕ → ℕ → ℕ → Type 0
  Segment j t j' t' = rim.Segment (Φ.size 0) (Φ.size 1) (Φ.size 2) j t j' t'

  -- a crossing of the face
  pub record OnFace (j t : ℕ) : Type 0 where
    pub edge : j < 3
    pub index : t < Φ.size j

  -- rule 1; numbers tell its crossings apart
  pub record Plain : Type 0 where
    pub level : Level (Φ.size 0) (Φ.size 1) (Φ.size 2)
    pub once : (j t j' t' : ℕ) → OnFace j t → OnFace j' t' → num j t ≡ num j' t' → (j ≡ j') × (t ≡ t')

  -- the dart d of A runs along the segment from t on j to t' on j'
  pub record DartAlong (A : Local) (d j t j' t' : ℕ) : Type 0 where
    pub on : Joins A d
    pub segment : Segment j t j' t'
    pub from_is : A.number (half d) ≡ num j t
    pub to_is : A.number (mate_of A d) ≡ num j' t'

  -- slot s of A shows the face, of its crossings those whose numbers are T
  pub record Shows (A : Local) (s : ℕ) (T : ℕ → Type 0) : Type 0 where
    pub named : A.name s ≡ Φ.name
    pub to : (d : ℕ) → Joins A d → slot_of A d ≡ s → (j : ℕ) × (t : ℕ) × (j' : ℕ) × (t' : ℕ) × T (num j t) × DartAlong A d j t j' t'
    pub from : (j t j' t' : ℕ) → T (num j t) → Segment j t j' t' → (d : ℕ) × (slot_of A d ≡ s) × DartAlong A d j t j' t'

-- every number
abbrev pub Any : ℕ → Type 0
Any g = Unit {0}

-- A piece A with the outer faces Φ 0 to Φ 3; the inner faces Ψ e over its edges, which have the crossings of the new edges `from 0` to `from 3` and of
-- edge e; the part `own`, which has the crossings that went, and the sub-cells, by the position omitted.
pub record Split (A own : Local) (sub : ℕ → Local) (Φ Ψ : ℕ → Facet) (arm long : ℕ → ℕ) (Went Stays : ℕ → Type 0) : Type 0 where
  pub outer : (s : ℕ) → s < 4 → Plain (Φ s)
  pub inner : (e : ℕ) → e < 6 → Plain (Ψ e)
  pub piece : Piece A
  pub own-piece : Piece own
  pub sub-piece : (M : ℕ) → M < 4 → Piece (sub M)
  pub slots : A.slots ≡ 4
  pub own_slots : own.slots ≡ 4
  pub sub_slots : (M : ℕ) → M < 4 → (sub M).slots ≡ 4
  pub own_whole : Whole own
  pub sub_whole : (M : ℕ) → M < 4 → Whole (sub M)
  -- what each slot shows
  pub shows : (s : ℕ) → s < 4 → Shows (Φ s) A s Any
  pub own_shows : (s : ℕ) → s < 4 → Shows (Φ s) own s Went
  pub rest_shows : (M : ℕ) → M < 4 → Shows (Φ M) (sub M) 0 Stays
  pub inner_shows : (M j : ℕ) → M < 4 → j < 3 → Shows (Ψ (slot_edge M j)) (sub M) (3 - j) Any
  -- a crossing of an outer face went or stays, and so does its partner
  pub either : (s j t : ℕ) → s < 4 → OnFace (Φ s) j t → Went (num (Φ s) j t) ⊎ Stays (num (Φ s) j t)
  pub never : (g : ℕ) → Went g → Stays g → ⊥
  pub went_on : (s j t j' t' : ℕ) → s < 4 → Segment (Φ s) j t j' t' → Went (num (Φ s) j t) → Went (num (Φ s) j' t')
  pub stays_on : (s j t j' t' : ℕ) → s < 4 → Segment (Φ s) j t j' t' → Stays (num (Φ s) j t) → Stays (num (Φ s) j' t')
  -- names
  pub outer_names : (s r : ℕ) → s < 4 → r < 4 → (Φ s).name ≡ (Φ r).name → s ≡ r
  pub inner_names : (e f : ℕ) → e < 6 → f < 6 → (Ψ e).name ≡ (Ψ f).name → e ≡ f
  pub apart_names : (s e : ℕ) → s < 4 → e < 6 → (Φ s).name ≢ (Ψ e).name
  -- the new edges
  pub arm_lo : (e : ℕ) → e < 6 → ((Ψ e).start 0 ≡ arm (lo e)) × ((Ψ e).size 0 ≡ long (lo e))
  pub arm_hi : (e : ℕ) → e < 6 → ((Ψ e).start 1 ≡ arm (hi e)) × ((Ψ e).size 1 ≡ long (hi e))
  -- edge j of the outer face M is edge e = slot_edge M j: its crossings that stay are those of the inner face over e
  pub down : (M j v : ℕ) → M < 4 → j < 3 → v < (Ψ (slot_edge M j)).size 2
      → (t : ℕ) × OnFace (Φ M) j t × Stays (num (Φ M) j t) × (num (Φ M) j t ≡ num (Ψ (slot_edge M j)) 2 v)
  pub up : (M j t : ℕ) → M < 4 → OnFace (Φ M) j t → Stays (num (Φ M) j t) → (v : ℕ) × (v < (Ψ (slot_edge M j)).size 2) × (num (Φ M) j t ≡ num (Ψ (slot_edge M j)) 2 v)
  -- numbers tell edges apart
  pub edge_once : (e f v w : ℕ) → e < 6 → f < 6 → v < (Ψ e).size 2 → w < (Ψ f).size 2 → num (Ψ e) 2 v ≡ num (Ψ f) 2 w → (e ≡ f) × (v ≡ w)
  pub arm_once : (a b v w : ℕ) → a < 4 → b < 4 → v < long a → w < long b → arm a + v ≡ arm b + w → (a ≡ b) × (v ≡ w)
  pub arm_edge : (a e v w : ℕ) → a < 4 → e < 6 → v < long a → w < (Ψ e).size 2 → arm a + v ≢ num (Ψ e) 2 w
  -- no number of an arm is one of an outer face: `Went` and `Stays` are of outer numbers
  pub arm_stays : (a v : ℕ) → a < 4 → v < long a → Stays (arm a + v) → ⊥
  pub arm_went : (a v : ℕ) → a < 4 → v < long a → Went (arm a + v) → ⊥

-- the inner faces and the inner crossings by name and number
pub record InnerFace (Ψ : ℕ → Facet) (f : ℕ) : Type 0 where
  pub e : ℕ
  pub lt : e < 6
  pub is : f ≡ (Ψ e).name

pub record InnerPoint (arm long : ℕ → ℕ) (g : ℕ) : Type 0 where
  pub a : ℕ
  pub v : ℕ
  pub lt : a < 4
  pub v_lt : v < long a
  pub is : g ≡ arm a + v

-- the five parts: `own`, then the sub-cells that omit the positions om 0 to om 3
abbrev pub five : Local → (ℕ → Local) → (ℕ → ℕ) → ℕ → Local
five own sub om zero = own
five own sub om (suc q) = sub (om q)

-- om is one to one, on the four positions
pub record Order (om : ℕ → ℕ) : Type 0 where
  pub lt : (q : ℕ) → q < 4 → om q < 4
  pub once : (q r : ℕ) → q < 4 → r < 4 → om q ≡ om r → q ≡ r
  pub back : (M : ℕ) → M < 4 → (q : ℕ) × (q < 4) × (om q ≡ M)
