-- Triangles that are no more than their corners and sides: those of a complex.
use Rattle.std.specs.Prelude.{ℕ, zero, suc, Bool, ◌||◌, List, get_or}
use Rattle.manifold.specs.Triangle.{Corner, Side, cross, seg, same}
use Rattle.manifold.specs.Ring.{ChainIn, RingIn}

-- three corners and three sides
pub data Tri : Type 0 where
  tri : Corner → Corner → Corner → Side → Side → Side → Tri

abbrev pub corner_of : Tri → ℕ → Corner
corner_of (tri a b c r s t) zero = a
corner_of (tri a b c r s t) (suc zero) = b
corner_of (tri a b c r s t) (suc (suc n)) = c

-- side t runs from corner t to the next corner
abbrev pub side_of : Tri → ℕ → Side
side_of (tri a b c r s t) zero = r
side_of (tri a b c r s t) (suc zero) = s
side_of (tri a b c r s t) (suc (suc n)) = t

-- the triangle has the side σ
abbrev pub has_side : Side → Tri → Bool
has_side σ (tri a b c r s t) = same σ r || same σ s || same σ t

-- triangle t of a list; `no_tri` past its end
abbrev pub no_tri : Tri
no_tri = tri (cross 0) (cross 0) (cross 0) (seg 0 0) (seg 0 0) (seg 0 0)

abbrev pub nth : List Tri → ℕ → Tri
nth mesh t = get_or mesh t no_tri

-- chains and rings of them
abbrev pub Chain : List Tri → Corner → Type 0
Chain = ChainIn no_tri corner_of side_of

abbrev pub OneRing : List Tri → Corner → Type 0
OneRing = RingIn no_tri corner_of side_of
