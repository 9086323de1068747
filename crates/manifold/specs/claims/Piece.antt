-- A piece of a complex, as a cell of a grid is one. What it shares with other pieces goes by the names of its crossings and faces.
use Rattle.std.specs.Prelude.{ℕ, ◌*◌, ◌/◌, ◌<◌, min, ◌≡◌}
use Rattle.counting.specs.Lists.{it}
use Rattle.walk.specs.Step.{face, step}
use Rattle.walk.specs.claims.Step.{Ports}
use Rattle.walk.specs.Walk.{size}
use Rattle.manifold.specs.Triangle.{Side, seg}

pub record Local : Type 0 where
  -- its crossings have the numbers below N here; the slots of the two faces of each, and what it is joined to on each, N or more for nothing
  pub N : ℕ
  pub fa : ℕ → ℕ
  pub fb : ℕ → ℕ
  pub mate : ℕ → ℕ → ℕ
  -- a crossing's number in the whole
  pub number : ℕ → ℕ
  -- how many slots it has; the name of the face in a slot
  pub slots : ℕ
  pub name : ℕ → ℕ

module _ (A : Local) where
  -- of a dart: the slot that it leaves by, the crossing that it goes to, the lower number of the two, the name of its segment
  abbrev pub slot_of : ℕ → ℕ
  slot_of d = face A.N A.fa A.fb A.mate d

  abbrev pub mate_of : ℕ → ℕ
  mate_of d = A.mate (slot_of d) (d / 2)

  abbrev pub lower_of : ℕ → ℕ
  lower_of d = min (A.number (d / 2)) (A.number (mate_of d))

  abbrev pub segment_of : ℕ → Side
  segment_of d = seg (A.name (slot_of d)) (lower_of d)

  -- the dart after d; the i-th dart of the loop from p, and how many that loop has
  abbrev pub onward : ℕ → ℕ
  onward = step A.N A.fa A.fb A.mate

  abbrev pub dart : ℕ → ℕ → ℕ
  dart p i = it onward i (2 * p)

  abbrev pub size_of : ℕ → ℕ
  size_of p = size A.N onward p

  -- mates are mutual, and names tell crossings and faces apart
  pub record Piece : Type 0 where
    pub ports : Ports A.N A.fa A.fb A.mate
    pub numbers : (x y : ℕ) → x < A.N → y < A.N → A.number x ≡ A.number y → x ≡ y
    pub slot : (d : ℕ) → d < 2 * A.N → slot_of d < A.slots
    pub names : (s t : ℕ) → s < A.slots → t < A.slots → A.name s ≡ A.name t → s ≡ t
