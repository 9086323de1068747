-- Step 6: where nothing is left open and the pieces at a crossing are linked, the triangles there form one ring. In a piece they are the chain of
-- step 2, from one face to the other; over a shared segment they meet those of the next piece.
use Prim.Native.Nat.{ℕ, suc, ◌-◌, ◌<◌}
use mathlib.Core.Path.{◌≡◌, sym, ap, ◌∙◌, subst}
use mathlib.Core.Logic.{⊎_elim}
use mathlib.Core.Bool.{Bool}
use native.Mathlib.Omega.{arith}
use Rattle.counting.specs.Lists.{after}
use Rattle.counting.proofs.Range.{after_lt, before_after}
use Rattle.walk.specs.Darts.{half}
use Rattle.manifold.specs.Triangle.{cross, Side}
use Rattle.manifold.specs.claims.Plain.{Tri, corner_of, nth, Chain, OneRing}
use Rattle.manifold.specs.claims.Polygon.{Polygon, corner, segment, triangles}
use Rattle.manifold.specs.claims.Piece.{mate_of, segment_of, dart}
use Rattle.manifold.specs.claims.Complex.{Complex, Joins, Lawful, Shut, Has, Shares, LinkedAt, loop_of, mesh}
use Rattle.manifold.specs.claims.Claims.{AtPoint}
use Rattle.manifold.proofs.Sound.{member}
use Rattle.manifold.proofs.Together.{port, Here, Spreads, Together, entered, left}
use Rattle.manifold.proofs.Ring.{one_ring}
use Rattle.manifold.proofs.Polygon.{of_cross}
use Rattle.manifold.proofs.Chain.{at_point}
use Rattle.manifold.proofs.Piece.{Covers, whole_closes, covers, covers_segment, joins}
use Rattle.manifold.proofs.Mesh.{Of, of, in_mesh_here, along, size_two, simple, on, point_once, goes_to, closed}

-- corner i of v, a triangle of piece c, is at g, and has the side σ
pub record Flag (K : Complex) (g c : ℕ) (σ : Side) : Type 0 where
  pub p : ℕ
  pub p_lt : p < (K.at c).N
  pub v : Tri
  pub i : ℕ
  pub here : Here (triangles (loop_of K c p)) (cross g) v i
  pub b : Bool
  pub by : port b v i ≡ σ

module _ (K : Complex) (W : Lawful K) where
  -- step 2 for the loops of the complex
  chain_at : (c p k : ℕ) → c < K.pieces → p < (K.at c).N → k < (loop_of K c p).n → AtPoint (loop_of K c p) k
  chain_at c p k lc lp lk = at_point (loop_of K c p) (size_two K W c p lc lp) (simple K W c p lc lp) k lk

  module _ (g : ℕ) where
    -- a point of the loop is at g where one of its triangles has a corner there
    at_g : (c p : ℕ) (v : Tri) (i : ℕ) → Here (triangles (loop_of K c p)) (cross g) v i
        → (m : ℕ) × (m < (loop_of K c p).n) × ((loop_of K c p).point m ≡ g)
    at_g c p v i h = of_cross (loop_of K c p) v i g h.member h.lt h.is

    has : (v : Tri) (a : Of K v) (i : ℕ) → i < 3 → corner_of v i ≡ cross g → Has K g a.c
    has v a i l e =
        let (m, lm, q) = at_g a.c a.p v i (record { member = a.in-loop; lt = l; is = e }) in
        record {
          lt = a.c_lt;
          d = dart (K.at a.c) a.p m;
          on = joins (K.at a.c) (W.piece a.c a.c_lt) (on K W a.c a.p m a.p_lt lm);
          is = q;
        }

    module _ (Q : Tri → ℕ → Type 0) (pass : Spreads (mesh K) (cross g) Q) where
      -- all corners at g of the piece c have Q
      Held : ℕ → Type 0
      Held c = (p : ℕ) → p < (K.at c).N → (v : Tri) (i : ℕ) → Here (triangles (loop_of K c p)) (cross g) v i → Q v i

      -- they do where one has it: g is on one loop of the piece, and the triangles there are a chain
      spread : (c p : ℕ) → c < K.pieces → p < (K.at c).N → (v : Tri) (i : ℕ) → Here (triangles (loop_of K c p)) (cross g) v i → Q v i → Held c
      unfolding Held
      spread c p lc lp v i h q p' lp' v' i' h' =
          let (m, lm, em) = at_g c p v i h in
          let (m', lm', em') = at_g c p' v' i' h' in
          let one : p ≡ p' = (point_once K W c p m p' m' lc (on K W c p m lp lm) (on K W c p' m' lp' lm') (em ∙ sym em')).0 in
          along K c p lc lp (subst (Chain (triangles (loop_of K c p))) (ap cross em) (chain_at c p m lc lp lm).chain) Q pass v i v' i' h
          (subst (λ r. Here (triangles (loop_of K c r)) (cross g) v' i') (sym one) h') q

    module _ (S : Shut K) where
      -- a triangle at each end of a chain: it has the segment of a dart there
      flag : (c d : ℕ) → c < K.pieces → Joins (K.at c) d → (K.at c).number (half d) ≡ g → Flag K g c (segment_of (K.at c) d)
      flag c d lc ld e = go (covers (K.at c) (W.piece c lc) d (whole_closes (K.at c) (W.piece c lc) (S.full c lc) d ld))
        where
          go : Covers (K.at c) d → Flag K g c (segment_of (K.at c) d)
          go w = ⊎_elim same_way other_way w.ends
            where
              G : Polygon
              G = loop_of K c w.p

              name : segment G w.i ≡ segment_of (K.at c) d
              name = covers_segment (K.at c) d w

              make : (k a : ℕ) (C : Chain (triangles G) (corner G k)) (la : a < C.n) → corner G k ≡ cross g → (b : Bool)
                  → port b (nth (triangles G) (C.visit a)) (C.passes a la).at ≡ segment_of (K.at c) d → Flag K g c (segment_of (K.at c) d)
              make k a C la here b by = record {
                p = w.p;
                p_lt = w.on.start;
                v = nth (triangles G) (C.visit a);
                i = (C.passes a la).at;
                here = record { member = member (triangles G) (C.visit a) (C.within a la); lt = (C.passes a la).at_lt; is = (C.passes a la).is ∙ here };
                b = b;
                by = by;
              }

              -- the dart leaves point i: the last triangle there
              same_way : (half (dart (K.at c) w.p w.i) ≡ half d) × (mate_of (K.at c) (dart (K.at c) w.p w.i) ≡ mate_of (K.at c) d) → Flag K g c (segment_of (K.at c) d)
              same_way u =
                  let A = chain_at c w.p w.i lc w.on.start w.on.lt in
                  let C = A.chain in
                  let a = C.n - 1 in
                  let la : a < C.n = omega (arith, A.some) in
                  let last : suc a ≡ C.n = omega (arith, A.some) in
                  let (b, eb) = left (C.passes a la) in
                  make w.i a C la (ap (λ x. cross ((K.at c).number x)) u.0 ∙ ap cross e) b (eb ∙ ap C.side last ∙ A.end ∙ name)

              -- the dart comes the other way, from the point after i: the first triangle there
              other_way : (half (dart (K.at c) w.p w.i) ≡ mate_of (K.at c) d) × (mate_of (K.at c) (dart (K.at c) w.p w.i) ≡ half d) → Flag K g c (segment_of (K.at c) d)
              other_way u =
                  let k = after G.n w.i in
                  let A = chain_at c w.p k lc w.on.start (after_lt G.n w.i w.on.lt) in
                  let C = A.chain in
                  let la : 0 < C.n = A.some in
                  let (b, eb) = entered (C.passes 0 la) in
                  make k 0 C la (goes_to K W c w.p w.i lc w.on ∙ ap (λ x. cross ((K.at c).number x)) u.1 ∙ ap cross e) b
                  (eb ∙ A.start ∙ ap (segment G) (before_after G.n w.i w.on.lt) ∙ name)

      -- over a shared segment
      cross_over : (Q : Tri → ℕ → Type 0) (pass : Spreads (mesh K) (cross g) Q) (a b : ℕ) → a < K.pieces → b < K.pieces → Shares (K.at a) (K.at b) g → Held Q pass a → Held Q pass b
      unfolding Held
      cross_over Q pass a b la lb h f =
          let u = flag a h.d la h.d_on h.at_d in
          let w = flag b h.e lb h.e_on h.at_e in
          spread Q pass b w.p lb w.p_lt w.v w.i w.here
          (pass u.v u.i w.v w.i (in_mesh_here K a u.p la u.p_lt u.v u.i u.here) (in_mesh_here K b w.p lb w.p_lt w.v w.i w.here)
          (u.b, w.b, u.by ∙ h.same ∙ sym w.by) (f u.p u.p_lt u.v u.i u.here))

      together : LinkedAt K g → Together (mesh K) (cross g)
      unfolding Held
      together link Q pass v i w j hv hw q = go (of K v hv.member) (of K w hw.member)
        where
          go : Of K v → Of K w → Q w j
          go a b =
              let start : Held Q pass a.c = spread Q pass a.c a.p a.c_lt a.p_lt v i (record { member = a.in-loop; lt = hv.lt; is = hv.is }) q in
              link (Held Q pass) (cross_over Q pass) a.c b.c (has v a i hv.lt hv.is) (has w b j hw.lt hw.is) start
              b.p b.p_lt w j (record { member = b.in-loop; lt = hw.lt; is = hw.is })

      pub crossing_ring : LinkedAt K g → (c : ℕ) → Has K g c → OneRing (mesh K) (cross g)
      crossing_ring link c h =
          let f = flag c h.d h.lt h.on h.is in
          one_ring (mesh K) (closed K W S) (cross g) (together link) f.v f.i (in_mesh_here K c f.p h.lt f.p_lt f.v f.i f.here)
