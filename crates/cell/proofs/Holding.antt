-- The record of a loop of a cell gives the loop's triangles.
use Prim.Native.Nat.{ℕ, ◌+◌, ◌/◌, ◌<◌}
use mathlib.Core.Path.{◌≡◌, sym, ap, ◌∙◌}
use mathlib.Core.Bool.{Bool, true, false, not, ◌&&◌, ◌||◌}
use mathlib.Core.List.{List, []}
use native.Mathlib.Omega.{arith}
use lib.Dec.{eqb}
use lib.ListN.{length, get_or}
use borrow.Author.Tests.{not-true, not-false}
use Rattle.counting.specs.Lists.{over, after, gather}
use Rattle.counting.specs.work.Stored.{Stored}
use Rattle.counting.proofs.Stored.{stored_none}
use Rattle.manifold.specs.Shape.{shape_of, many_of}
use Rattle.cell.specs.declared.Cell.{Cell}
use Rattle.cell.specs.Cell.{mate, slot}
use Rattle.cell.specs.Loop.{dart}
use Rattle.cell.proofs.Loops.{from_lt, from_slot, from_point}
use Rattle.cell.proofs.Going.{Looped, looped_halves, looped_points}
use Rattle.cell.specs.Of.{edges_of}
use Rattle.cell.specs.Triangles.{number_of, loop_triangles, asked_triangles}
use Rattle.cell.specs.work.Traced.{RecordedLoop, traced_triangles}
use Rattle.cell.proofs.LoopTriangles.{length_traced}
use Rattle.cell.proofs.Taken.{two_four, dart_leads, traced_loop, asked_is, asked_not}
use Rattle.cell.proofs.Storing.{words_of, written_more}

module _ {c : Cell} {p n : ℕ} {b : Bool} {halves points : List ℕ} (L : Looped c p n b halves points) where
  pub looped_traced : RecordedLoop halves points n
  looped_traced = record {
    few = omega (arith, L.few);
    halves_long = looped_halves L;
    points_long = looped_points L;
    halves_are = λ k l. rw L.halves_are (from_lt c p L.inside k (omega (arith, L.size)));
  }

  slots : (k : ℕ) → k < n → get_or halves k 0 / 3 ≡ slot (edges_of c) (dart (edges_of c) p k)
  slots k h = rw L.halves_are (from_slot c p L.inside k (omega (arith, L.size)))

  numbers : (k : ℕ) → k < n → get_or points k 0 ≡ number_of c (dart (edges_of c) p k / 2)
  unfolding number_of
  numbers k h = rw L.points_are (from_point c p k (omega (arith, L.size)))

  leads : (k : ℕ) → k < n → mate (edges_of c) (slot (edges_of c) (dart (edges_of c) p k)) (dart (edges_of c) p k / 2) ≡ dart (edges_of c) p (after n k) / 2
  leads k h = dart_leads c p L.inside k (omega (arith, L.size)) ∙ ap (λ m. dart (edges_of c) p (after m k) / 2) (sym L.size)

  module _ {two : Bool} (is : two ≡ (eqb n 4 && b)) where
    pub looped_four : two ≡ true → n ≡ 4
    looped_four = two_four n two b is

    pub looped_loop : traced_triangles c halves points n two ≡ loop_triangles c p
    looped_loop =
        traced_loop c p halves points n L.size slots numbers leads two
        (is ∙ ap (λ x. eqb n 4 && x) L.told)

    pub looped_many : many_of (shape_of n two) n ≡ length (loop_triangles c p)
    looped_many = sym (length_traced c halves points n two) ∙ ap length looped_loop

-- a loop that is left out, and one that is asked for
module _ (only : ℕ) {c : Cell} {p n : ℕ} {b : Bool} {halves points : List ℕ} (L : Looped c p n b halves points) {out : Bool} (e : out ≡ not (eqb only 0 || eqb n only)) where
  pub is_out : out ≡ true → (eqb only 0 || eqb n only) ≡ false
  is_out t = not-true _ (sym e ∙ t)

  pub is-in : out ≡ false → (eqb only 0 || eqb n only) ≡ true
  is-in t = not-false _ (sym e ∙ t)

  pub out_none : out ≡ true → asked_triangles c only p ≡ []
  out_none t = asked_not c only p (rw L.size at (is_out t))

  pub in-loop : out ≡ false → asked_triangles c only p ≡ loop_triangles c p
  in-loop t = asked_is c only p (rw L.size at (is-in t))

  pub left_out : {was is : List ℕ} {at i : ℕ} → Stored was at (over (words_of (asked_triangles c only)) p 0) is i → out ≡ true → Stored was at (over (words_of (asked_triangles c only)) (p + 1) 0) is i
  unfolding gather
  left_out {was} {is} {at} {i} S t = written_more (asked_triangles c only) p S {m = 0} (ap length (sym (out_none t))) (omega arith) {l = []} (sym (out_none t)) (stored_none is i).area
