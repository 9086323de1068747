-- Step 7: where nothing is left open, the triangles at the middle of a fan form one ring. They are those of the fan, a ring by step 2.
use Prim.Native.Nat.{ℕ, ◌<◌}
use mathlib.Core.Path.{◌≡◌}
use native.Mathlib.Omega.{arith}
use Rattle.manifold.specs.claims.Plain.{Tri, nth, OneRing}
use Rattle.manifold.specs.claims.Polygon.{shape, centre, triangles}
use Rattle.manifold.specs.Shape.{fan}
use Rattle.manifold.specs.claims.Complex.{Complex, Lawful, Shut, loop_of, mesh}
use Rattle.manifold.proofs.Sound.{Member, member}
use Rattle.manifold.proofs.Together.{Here, Together}
use Rattle.manifold.proofs.Ring.{one_ring}
use Rattle.manifold.proofs.Polygon.{of_middle}
use Rattle.manifold.proofs.Chain.{fan_ring}
use Rattle.manifold.proofs.Mesh.{Of, of, in_mesh_here, along, size_two, simple, same_loop, closed}

module _ (K : Complex) (W : Lawful K) (c p : ℕ) (lc : c < K.pieces) (lp : p < (K.at c).N) (some : 0 < (loop_of K c p).n) (is : shape (loop_of K c p) ≡ fan) where
  ring : OneRing (triangles (loop_of K c p)) (centre (loop_of K c p))
  ring =
      let ne = size_two K W c p lc lp in
      fan_ring (loop_of K c p) ne (simple K W c p lc lp) is (omega (arith, some, ne))

  -- the ring's first triangle
  first : Here (triangles (loop_of K c p)) (centre (loop_of K c p)) (nth (triangles (loop_of K c p)) (ring.chain.visit 0)) (ring.chain.passes 0 (omega (arith, ring.more))).at
  first =
      let P = ring.chain.passes 0 (omega (arith, ring.more)) in
      record { member = member (triangles (loop_of K c p)) (ring.chain.visit 0) (ring.chain.within 0 (omega (arith, ring.more))); lt = P.at_lt; is = P.is }

  -- each triangle with this middle is one of the fan
  in_fan : (v : Tri) (i : ℕ) → Here (mesh K) (centre (loop_of K c p)) v i → Here (triangles (loop_of K c p)) (centre (loop_of K c p)) v i
  in_fan v i h = record { member = go (of K v h.member); lt = h.lt; is = h.is }
    where
      go : Of K v → Member (triangles (loop_of K c p)) v
      go a =
          let (f, e) = of_middle (loop_of K a.c a.p) v i (K.tag c) ((K.at c).number p) a.in-loop h.lt h.is in
          let t : Of K (nth (triangles (loop_of K c p)) (ring.chain.visit 0)) = record { c = c; p = p; c_lt = lc; p_lt = lp; in-loop = first.member } in
          same_loop K W (nth (triangles (loop_of K c p)) (ring.chain.visit 0)) v t a (W.tags c a.c lc a.c_lt (cc)) (cc)

  together : Together (mesh K) (centre (loop_of K c p))
  together Q pass v i w j hv hw q = along K c p lc lp ring.chain Q pass v i w j (in_fan v i hv) (in_fan w j hw) q

  pub middle_ring : Shut K → OneRing (mesh K) (centre (loop_of K c p))
  middle_ring S =
      one_ring (mesh K) (closed K W S) (centre (loop_of K c p)) together (nth (triangles (loop_of K c p)) (ring.chain.visit 0))
      (ring.chain.passes 0 (omega (arith, ring.more))).at
      (in_mesh_here K c p lc lp (nth (triangles (loop_of K c p)) (ring.chain.visit 0)) (ring.chain.passes 0 (omega (arith, ring.more))).at first)
