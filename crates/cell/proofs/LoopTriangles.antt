-- The triangles of a recorded loop, by the branches of the code.
use Prim.Native.Nat.{ℕ, zero, suc, ◌<◌}
use mathlib.Core.Path.{◌≡◌, refl, sym, ap, ◌∙◌, subst}
use mathlib.Core.Logic.{◌≢◌}
use mathlib.Core.Bool.{Bool, true, false}
use mathlib.Core.List.{List, ◌∷◌}
use native.Mathlib.Omega.{arith}
use lib.ListN.{length, get_or, drop}
use lib.Seq.{drop-cons}
use Rattle.manifold.specs.Shape.{single, double, fan, shape_of, many_of}
use Rattle.manifold.proofs.Shapes.{shape_else, length_triangles, get_or_triangles}
use Rattle.cell.specs.declared.Cell.{Cell}
use Rattle.cell.specs.declared.Corner.TheVariants.{Middle}
use Rattle.cell.specs.declared.Side.TheVariants.{Inner}
use Rattle.cell.specs.declared.Triangle.{Triangle}
use Rattle.cell.specs.Triangles.{triangle}
use Rattle.cell.specs.work.Traced.{RecordedLoop, point_at, segment_at, traced_triangle, traced_triangles}

pub traced_as : {halves points : List ℕ} {n m : ℕ} → n ≡ m → RecordedLoop halves points n → RecordedLoop halves points m
traced_as {halves} {points} e R = subst (λ k. RecordedLoop halves points k) e R

-- t is entry k of the list
abbrev pub Entry : List Triangle → ℕ → Triangle → Type 0
Entry l k t = drop k l ≡ t ∷ drop (suc k) l

module _ (c : Cell) (halves points : List ℕ) (n : ℕ) (two : Bool) where
  pub length_traced : length (traced_triangles c halves points n two) ≡ many_of (shape_of n two) n
  unfolding traced_triangles
  length_traced = length_triangles (triangle c.index (get_or points 0 0)) (point_at points) Middle (segment_at c.names halves points n) Inner n (shape_of n two)

  module _ (k : ℕ) where
    abbrev this : Triangle
    this = traced_triangle c halves points n (shape_of n two) k

    pub traced_entry : k < many_of (shape_of n two) n → {r : Triangle} → r ≡ this → Entry (traced_triangles c halves points n two) k r
    unfolding traced_triangles traced_triangle
    traced_entry l e =
        drop-cons (traced_triangles c halves points n two) k this (omega (arith, length_traced))
        ∙ ap (λ t. t ∷ drop (suc k) (traced_triangles c halves points n two))
        (get_or_triangles (triangle c.index (get_or points 0 0)) (point_at points) Middle (segment_at c.names halves points n) Inner n this (shape_of n two) k l ∙ sym e)

    pub this_single : n ≡ 3 → traced_triangle c halves points 3 single 0 ≡ this
    unfolding traced_triangle
    this_single e = rw e

    pub this_first : n ≡ 4 → two ≡ true → k ≡ 0 → traced_triangle c halves points 4 double 0 ≡ this
    this_first e t z = rw (e, t, z)

    pub this_second : n ≡ 4 → two ≡ true → k ≢ 0 → traced_triangle c halves points 4 double 1 ≡ this
    unfolding traced_triangle
    this_second e t z = rw (e, t) (go k z)
      where
        go : (k : ℕ) → k ≢ 0 → traced_triangle c halves points 4 double 1 ≡ traced_triangle c halves points 4 double k
        go zero h = absurd (h refl)
        go (suc k) h = refl

    pub this_fan : n ≢ 3 → two ≡ false → traced_triangle c halves points n fan k ≡ this
    this_fan e t = ap (λ sh. traced_triangle c halves points n sh k) (sym (shape_else n two e (λ _. t)))
