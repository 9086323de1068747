-- Laws of connected nodes.
use Prim.Native.Nat.{ℕ, ◌<◌}
use mathlib.Core.Path.{refl}
use mathlib.Core.Logic.{inl, inr}
use lib.ListN.{length}
use Rattle.grid.specs.Grid.{Grid, low, high}
use Rattle.shading.specs.claims.Shading.{EndsAre, Connected, here, further}

module _ (G : Grid) where
  back : (e x y : ℕ) → EndsAre G e x y → EndsAre G e y x
  back e x y (inl (p, q)) = inr (q, p)
  back e x y (inr (p, q)) = inl (q, p)

  pub through : {x y z : ℕ} → Connected G x y → Connected G y z → Connected G x z
  through p here = p
  through p (further e z q h j) = further e z (through p q) h j

  pub reverse : {x y : ℕ} → Connected G x y → Connected G y x
  reverse here = here
  reverse (further {y} e z p h j) = through (further e y here h (back e y z j)) (reverse p)

  pub edge_path : (e : ℕ) → e < length G.counts → Connected G (low G.edges e) (high G.edges e)
  edge_path e h = further e (high G.edges e) here h (inl (refl, refl))
