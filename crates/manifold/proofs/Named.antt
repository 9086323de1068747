-- A claim about the corners and sides of a list's triangles is one about the triangles themselves.
use Prim.Native.Nat.{ℕ, suc, ◌<◌}
use mathlib.Core.Path.{◌≡◌, ap, ◌∙◌, subst}
use mathlib.Core.List.{List, map}
use native.Mathlib.Omega.{arith}
use lib.ListN.{length, get_or, length-map}
use Rattle.counting.proofs.Lists.{get_or_map}
use Rattle.manifold.specs.Triangle.{Corner, Side}
use Rattle.manifold.specs.claims.Plain.{Tri, no_tri, corner_of, side_of, nth, Chain, OneRing}
use Rattle.manifold.specs.work.Plain.{Passes}
use Rattle.manifold.specs.Ring.{PassesIn, ChainIn, RingIn}

module _ {T : Type 0} (none : T) (f : T → Tri) where
  abbrev corner : T → ℕ → Corner
  corner v i = corner_of (f v) i

  abbrev side : T → ℕ → Side
  side v i = side_of (f v) i

  passes_named : (v : T) (g : Corner) (σ τ : Side) → Passes (f v) g σ τ → PassesIn none corner side v g σ τ
  passes_named v g σ τ p = record { at = p.at; at_lt = p.at_lt; is = p.is; only = p.only; ways = p.ways; apart = p.apart }

  module _ (l : List T) where
    at : (t : ℕ) → t < length l → nth (map f l) t ≡ f (get_or l t none)
    at t h = get_or_map f none no_tri l t h

    chain_named : (g : Corner) → Chain (map f l) g → ChainIn none corner side l g
    chain_named g c = record {
      n = c.n;
      visit = c.visit;
      side = c.side;
      within = inside;
      passes = λ i h. passes_named (get_or l (c.visit i) none) g (c.side i) (c.side (suc i))
          (subst (λ v. Passes v g (c.side i) (c.side (suc i))) (at (c.visit i) (inside i h)) (c.passes i h));
      every = λ t j h lj e. c.every t j (omega (arith, length-map l f)) lj (ap (λ v. corner_of v j) (at t h) ∙ e);
      once = c.once;
    }
      where
        inside : (i : ℕ) → i < c.n → c.visit i < length l
        inside i h = omega (arith, c.within i h, length-map l f)

    pub ring_named : (g : Corner) → OneRing (map f l) g → RingIn none corner side l g
    unfolding chain_named
    ring_named g r = record { chain = chain_named g r.chain; more = r.more; home = r.home }
