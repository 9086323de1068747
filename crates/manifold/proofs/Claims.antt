-- The laws of polygons and of complexes, together.
use Prim.Native.Nat.{ℕ, ◌+◌, ◌*◌, ◌≤◌, ◌<◌}
use mathlib.Core.Path.{◌≡◌, refl, sym, ap, ◌∙◌}
use mathlib.Core.Logic.{◌⊎◌, inl, inr, ◌≢◌, ⊎_elim}
use native.Mathlib.Omega.{arith}
use Rattle.counting.specs.Lists.{one, total, tally}
use Rattle.counting.specs.work.Stored.{weigh}
use Rattle.counting.proofs.Range.{total_zero, total_one}
use Rattle.manifold.specs.Triangle.{Side, same}
use Rattle.manifold.specs.claims.Plain.{side_of, has_side, nth}
use Rattle.manifold.specs.claims.Polygon.{Polygon, shape, segment, inner_side, inners, triangles}
use Rattle.manifold.specs.work.Polygon.{Simple}
use Rattle.manifold.specs.claims.Piece.{segment_of}
use Rattle.manifold.specs.claims.Complex.{Complex, Lawful, mesh}
use Rattle.manifold.specs.claims.Claims.{PolygonLaws, Manifold}
use Rattle.manifold.proofs.Triangle.{hits, eq_same, ne_same}
use Rattle.manifold.proofs.Sound.{member, tally_exact}
use Rattle.manifold.proofs.Shapes.{many_le}
use Rattle.manifold.proofs.Polygon.{fits, triangles_length, polygon_sides, Seen, seen, polygon_sound}
use Rattle.manifold.proofs.Chain.{at_point, fan_ring}
use Rattle.manifold.proofs.Sides.{at_most_two, segment_one, segment_none, segment_both}
use Rattle.manifold.proofs.Mesh.{mesh_sound, side_kind, closed}
use Rattle.manifold.proofs.Few.{piece_few}
use Rattle.manifold.proofs.Crossing.{crossing_ring}
use Rattle.manifold.proofs.Middle.{middle_ring}

pub polygon_laws : (G : Polygon) → 2 ≤ G.n → Simple G → PolygonLaws G
polygon_laws G two D = record {
  sides = λ t i lt li. sides t i (seen G (nth (triangles G) t) (member (triangles G) t lt) i li);
  one = λ k l.
      count (segment G k)
      ∙ omega (
        arith,
        total_one (λ i. one (same (segment G k) (segment G i))) G.n 0 k (omega arith) (omega arith) (ap one (eq_same (segment G k) (segment G k) refl))
            (λ i u v w. ap one (ne_same (segment G k) (segment G i) (λ e. w (D.segments i k (omega arith) l (sym e))))),
        total_zero (λ i. 0) (inners G (shape G)) 0 (λ i u v. refl),
      );
  two = λ k l.
      count (inner_side G k)
      ∙ omega (
        arith,
        total_zero (λ i. 0) G.n 0 (λ i u v. refl),
        total_one (λ i. one (same (inner_side G k) (inner_side G i))) (inners G (shape G)) 0 k (omega arith) (omega arith) (ap one (eq_same (inner_side G k) (inner_side G k) refl))
            (λ i u v w. ap one (ne_same (inner_side G k) (inner_side G i) (λ e. w (cc)))),
      );
  point = at_point G ne D;
  ring = λ is. fan_ring G ne D is two;
  few = omega (arith, triangles_length G, many_le (shape G) G.n (fits G));
}
  where
    ne : G.n ≢ 1
    ne e = omega arith

    sides : (t i : ℕ) → Seen G (shape G) (nth (triangles G) t) i
        → ((k : ℕ) × (k < G.n) × (side_of (nth (triangles G) t) i ≡ segment G k)) ⊎ ((k : ℕ) × (k < inners G (shape G)) × (side_of (nth (triangles G) t) i ≡ inner_side G k))
    sides t i (inl (k, s)) = inl (k, s.lt, s.is)
    sides t i (inr (k, s)) = inr (k, s.lt, s.is)

    count : (σ : Side) → tally (has_side σ) (triangles G)
        ≡ total (λ k. one (same σ (segment G k))) G.n 0 + 2 * total (λ k. one (same σ (inner_side G k))) (inners G (shape G)) 0
    count σ = tally_exact (polygon_sound G ne D) σ ∙ polygon_sides G σ

pub manifold : (K : Complex) → Lawful K → Manifold K
manifold K W = record {
  few = piece_few K W;
  most = at_most_two K W;
  sides = λ t i lt li. ⊎_elim (λ u. inl u) (λ u. let (a, p, k, e, n) = u in inr (a, p, k, e, exact (side_of (nth (mesh K) t) i) n)) (side_kind K W (nth (mesh K) t) i (member (mesh K) t lt) li);
  alone = λ c d lc cl only. exact (segment_of (K.at c) d) (segment_one K W c d lc only cl);
  unclosed = λ c d lc on no_loop only. exact (segment_of (K.at c) d) (segment_none K W c d lc only on no_loop);
  shared = λ c d b e lc lb ne cl cl' q. exact (segment_of (K.at c) d) (segment_both K W c d b e lc lb ne cl cl' q);
  two = λ S t i lt li. tally_exact (mesh_sound K W) (side_of (nth (mesh K) t) i) ∙ (closed K W S).twice (nth (mesh K) t) i (member (mesh K) t lt) li;
  ring = λ S g c h link. crossing_ring K W g S link c h;
  round = λ S c p lc lp some is. middle_ring K W c p lc lp some is S;
}
  where
    exact : {n : ℕ} (σ : Side) → weigh (hits σ) (mesh K) ≡ n → tally (has_side σ) (mesh K) ≡ n
    exact σ e = tally_exact (mesh_sound K W) σ ∙ e
