-- What the parts of the face call are told of a crossing; and corner segments that can be taken off.
use Rattle.std.specs.Prelude.{ℕ, ◌<◌, ◌≤◌, ◌≡◌}
use Rattle.slots.specs.Slots.{lower, upper}
use Rattle.face.specs.Face.{count_on, corner_count_at}
use Rattle.face.specs.claims.Ends.{Edge, End}
use Rattle.face.specs.claims.Level.{Level}

-- a k below the corner count at the end w of the edge e
pub record AtCorner (ab ac bc w e k : ℕ) : Type 0 where
  pub ends : End w e
  pub below : k < corner_count_at ab ac bc w e

-- the edge e has x crossings, and the corner counts p and q at its lower and its upper end
pub record Corners (ab ac bc e x p q : ℕ) : Type 0 where
  pub edge : Edge e
  pub own : x ≡ count_on ab ac bc e
  pub at_lower : p ≡ corner_count_at ab ac bc (lower e) e
  pub at_upper : q ≡ corner_count_at ab ac bc (upper e) e

-- a crossing t of such an edge
pub record OnEdge (ab ac bc e x p q t : ℕ) : Type 0 where
  pub corners : Corners ab ac bc e x p q
  pub there : t < x

module _ (ab ac bc : ℕ) (off : ℕ → ℕ) where
  -- no more is taken off than the corners have
  pub record Off : Type 0 where
    pub level : Level ab ac bc
    pub few : (w e : ℕ) → End w e → off w ≤ corner_count_at ab ac bc w e
