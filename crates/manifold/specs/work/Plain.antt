-- Passing a plain triangle.
use Rattle.manifold.specs.Triangle.{Corner, Side}
use Rattle.manifold.specs.Ring.{PassesIn}
use Rattle.manifold.specs.claims.Plain.{Tri, corner_of, side_of, no_tri}

-- the triangle is entered over one of its sides at the corner and left over the other
abbrev pub Passes : Tri → Corner → Side → Side → Type 0
Passes = PassesIn no_tri corner_of side_of
