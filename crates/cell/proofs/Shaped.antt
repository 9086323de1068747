-- The words of a recorded loop's triangles, stored shape by shape.
use Prim.Native.Nat.{ℕ, ◌+◌, ◌*◌}
use mathlib.Core.Path.{◌≡◌, ap, ◌∙◌}
use mathlib.Core.Logic.{◌≢◌}
use mathlib.Core.Bool.{Bool, true, false}
use mathlib.Core.List.{List}
use native.Mathlib.Omega.{arith}
use lib.Seq.{sets}
use Rattle.counting.specs.Lists.{values}
use Rattle.manifold.specs.Shape.{single, double, fan, shape_of, many_of}
use Rattle.manifold.proofs.Shapes.{shape_three, shape_four, shape_else}
use Rattle.cell.specs.declared.Cell.{Cell}
use Rattle.cell.specs.declared.Triangle.{Triangle}
use Rattle.cell.specs.Words.{word_count, words, all_words}
use Rattle.cell.specs.work.Traced.{traced_triangle, traced_triangles}
use Rattle.cell.proofs.LoopTriangles.{this_single, this_first, this_second}
use Rattle.cell.proofs.Storing.{Run, run_none, run_more, run_all}

module _ (c : Cell) (halves points : List ℕ) (n : ℕ) (two : Bool) (was : List ℕ) (at : ℕ) where
  -- so many words are stored from `at` on, which makes it `is`
  abbrev pub AllStored : List ℕ → ℕ → Type 0
  AllStored is next = (next ≡ at + word_count * many_of (shape_of n two) n) × (is ≡ sets was at (all_words (traced_triangles c halves points n two)))

  abbrev made : ℕ → Triangle
  made k = traced_triangle c halves points n (shape_of n two) k

  -- of the first k triangles, which are all
  all : {k : ℕ} {is : List ℕ} {i : ℕ} → Run made k was at is i → k ≡ many_of (shape_of n two) n → is ≡ sets was at (all_words (traced_triangles c halves points n two))
  unfolding traced_triangles traced_triangle
  all R e = run_all R _ e

  pub stored_single : n ≡ 3 → {t : Triangle} {is : List ℕ} → t ≡ traced_triangle c halves points 3 single 0 → is ≡ sets was at (words t) → AllStored is (at + word_count)
  stored_single e f q =
      let m : many_of (shape_of n two) n ≡ 1 = ap (λ s. many_of s n) (shape_three n two e) in
      (omega (arith, m), all (run_more (run_none made was at) (f ∙ this_single c halves points n two 0 e) q) (omega (arith, m)))

  pub stored_double : n ≡ 4 → two ≡ true → {t u : Triangle} {mid is : List ℕ} → t ≡ traced_triangle c halves points 4 double 0 → mid ≡ sets was at (words t)
      → u ≡ traced_triangle c halves points 4 double 1 → is ≡ sets mid (at + word_count) (words u) → AllStored is (at + 2 * word_count)
  stored_double e t f q g r =
      let m : many_of (shape_of n two) n ≡ 2 = ap (λ s. many_of s n) (shape_four n two e t) in
      let R = run_more (run_none made was at) (f ∙ this_first c halves points n two 0 e t (omega arith)) q in
      (omega (arith, m), all (run_more R (g ∙ this_second c halves points n two 1 e t (λ z. omega arith)) r) (omega (arith, m)))

  pub stored_fan : n ≢ 3 → two ≡ false → {next : ℕ} {is : List ℕ} → next ≡ at + word_count * n
      → is ≡ sets was at (all_words (values (traced_triangle c halves points n fan) n)) → AllStored is next
  unfolding traced_triangles traced_triangle
  stored_fan e t f q = let s = shape_else n two e (λ _. t) in rw s (f, q)
