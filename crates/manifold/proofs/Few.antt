-- A piece gives at most as many triangles as it has crossings: a loop gives at most as many as it has points, and no crossing is on two loops.
use Prim.Native.Nat.{ℕ, ◌*◌, ◌≤◌, ◌<◌}
use mathlib.Core.Path.{◌≡◌, sym, ◌∙◌}
use native.Mathlib.Omega.{arith}
use lib.ListN.{length}
use Rattle.counting.specs.Lists.{total, over}
use Rattle.counting.proofs.Range.{total_ext, total_mono, length_over}
use Rattle.walk.specs.Darts.{rev}
use Rattle.walk.specs.Walk.{loop_at}
use Rattle.walk.specs.claims.Claims.{flat}
use Rattle.walk.proofs.Iterate.{length_orbit}
use Rattle.walk.proofs.Once.{flat_room}
use Rattle.manifold.specs.claims.Polygon.{shape, triangles}
use Rattle.manifold.specs.claims.Piece.{onward, size_of}
use Rattle.manifold.specs.claims.Complex.{Complex, Lawful, loop_of}
use Rattle.manifold.proofs.Shapes.{many_le}
use Rattle.manifold.proofs.Polygon.{fits, triangles_length}
use Rattle.manifold.proofs.Piece.{cell_darts}

module _ (K : Complex) (W : Lawful K) (c : ℕ) (lc : c < K.pieces) where
  loop_few : (p : ℕ) → length (triangles (loop_of K c p)) ≤ size_of (K.at c) p
  loop_few p = omega (arith, triangles_length (loop_of K c p), many_le (shape (loop_of K c p)) (size_of (K.at c) p) (fits (loop_of K c p)))

  sizes : total (size_of (K.at c)) (K.at c).N 0 ≡ length (flat (K.at c).N (onward (K.at c)))
  unfolding flat loop_at
  sizes =
      let A = K.at c in
      sym (length_over (loop_at A.N (onward A)) A.N 0 ∙ total_ext (λ p. length (loop_at A.N (onward A) p)) (size_of A) A.N 0
      (λ p a b. length_orbit (onward A) (size_of A p) (2 * p)))

  pub piece_few : length (over (λ p. triangles (loop_of K c p)) (K.at c).N 0) ≤ (K.at c).N
  piece_few =
      let A = K.at c in
      omega (
        arith,
        length_over (λ p. triangles (loop_of K c p)) A.N 0,
        total_mono (λ p. length (triangles (loop_of K c p))) (size_of A) A.N 0 (λ p a b. loop_few p),
        sizes,
        flat_room A.N (onward A) rev (cell_darts A (W.piece c lc)),
      )
