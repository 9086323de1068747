-- What is recorded of a loop of a cell gives the loop's triangles.
use Prim.Native.Nat.{ℕ, ◌*◌, ◌/◌, ◌≤◌, ◌<◌}
use mathlib.Core.Path.{◌≡◌, refl, sym, ap, ◌∙◌, subst}
use mathlib.Core.Bool.{Bool, true, false, ◌&&◌, ◌||◌}
use mathlib.Core.List.{List, []}
use native.Mathlib.Omega.{arith}
use lib.Dec.{eqb}
use lib.ListN.{length, get_or}
use borrow.Author.Tests.{eqb-true}
use Rattle.counting.specs.Lists.{total, after, it}
use Rattle.counting.proofs.Bools.{and_left}
use Rattle.counting.proofs.Range.{after_lt, length_over, total_ext, total_mono}
use Rattle.manifold.specs.Shape.{Shape, shape_of, many_of, triangles_of}
use Rattle.manifold.proofs.Shapes.{shape_two, fits, many_le, length_triangles, triangles_ext}
use Rattle.walk.specs.Step as steps
use Rattle.walk.proofs.Step.{live, land_half}
use Rattle.cell.specs.declared.Cell.{Cell}
use Rattle.cell.specs.Cell.{Edges, crossings, first_slot_at, second_slot_at, mate, slot, step}
use Rattle.cell.proofs.Mates.{ports}
use Rattle.cell.proofs.Loops.{sizes, dart_live, dart_after}
use Rattle.cell.specs.Loop.{loop_size, dart, normal}
use Rattle.cell.specs.declared.Corner.TheVariants.{Crossing, Middle}
use Rattle.cell.specs.declared.Side.TheVariants.{Inner}
use Rattle.cell.specs.Triangles.{many_from, triangle_count, triangle, number_of, segment_of, point, segment, loop_triangles, cell_triangles, asked_triangles, triangles_with}
use Rattle.cell.specs.Of.{edges_of}
use Rattle.cell.specs.work.Traced.{point_at, segment_at, traced_triangles}

-- n is 4 where the code says that a loop is in two triangles
pub two_four : (n : ℕ) (two b : Bool) → two ≡ (eqb n 4 && b) → two ≡ true → n ≡ 4
two_four n two b e t = eqb-true n 4 (and_left (eqb n 4) b (sym e ∙ t))

module _ (c : Cell) (p : ℕ) where
  abbrev n : ℕ
  n = loop_size (edges_of c) p

  abbrev sh : Shape
  sh = shape_of n (normal (edges_of c) p)

  pub length_loop : length (loop_triangles c p) ≡ many_of sh n
  unfolding loop_triangles
  length_loop = length_triangles (triangle c.index (number_of c p)) (point c p) Middle (segment c p) Inner n sh

  pub loop_few : length (loop_triangles c p) ≤ n
  loop_few = omega (arith, length_loop, many_le sh n (fits n (normal (edges_of c) p)))

  first_point : number_of c (dart (edges_of c) p 0 / 2) ≡ number_of c p
  unfolding dart it
  first_point = let e : 2 * p / 2 ≡ p = omega arith in ap (number_of c) e

  -- the slots and crossing numbers of the loop's darts are recorded, and each dart leads to the next point
  module _ (halves points : List ℕ) (m : ℕ) (size : m ≡ loop_size (edges_of c) p)
      (slots : (k : ℕ) → k < m → get_or halves k 0 / 3 ≡ slot (edges_of c) (dart (edges_of c) p k))
      (numbers : (k : ℕ) → k < m → get_or points k 0 ≡ number_of c (dart (edges_of c) p k / 2))
      (leads : (k : ℕ) → k < m → mate (edges_of c) (slot (edges_of c) (dart (edges_of c) p k)) (dart (edges_of c) p k / 2) ≡ dart (edges_of c) p (after m k) / 2) where
    traced_point : (k : ℕ) → k < m → point_at points k ≡ point c p k
    unfolding point
    traced_point k l = ap Crossing (numbers k l)

    traced_segment : (k : ℕ) → k < m → segment_at c.names halves points m k ≡ segment c p k
    unfolding segment_at segment segment_of
    traced_segment k l = rw (slots k l, numbers k l, numbers (after m k) (after_lt m k l), leads k l)

    pub traced_loop : (two : Bool) → two ≡ (eqb m 4 && normal (edges_of c) p) → traced_triangles c halves points m two ≡ loop_triangles c p
    unfolding traced_triangles loop_triangles
    traced_loop two e =
        triangles_ext (triangle c.index (get_or points 0 0)) (point_at points) Middle (segment_at c.names halves points m) Inner m
        (triangle c.index (number_of c p)) (point c p) (segment c p) (λ l. ap (triangle c.index) (numbers 0 l ∙ first_point)) traced_point traced_segment
        (shape_of m two) (fits m two)
        ∙ ap (λ q. triangles_of (triangle c.index (number_of c p)) (point c p) Middle (segment c p) Inner m q) (ap (shape_of m) e ∙ shape_two m (normal (edges_of c) p))
        ∙ ap (λ k. triangles_of (triangle c.index (number_of c p)) (point c p) Middle (segment c p) Inner k (shape_of k (normal (edges_of c) p))) size

-- each dart of a loop leads to its next point, the last back to the first
module _ (c : Cell) (p : ℕ) (l : p < crossings (edges_of c)) where
  abbrev w : Edges
  w = edges_of c

  pub dart_leads : (k : ℕ) → k < loop_size w p → mate w (slot w (dart w p k)) (dart w p k / 2) ≡ dart w p (after (loop_size w p) k) / 2
  unfolding slot step steps.step
  dart_leads k h =
      let d = dart w p k in
      let e = dart_after w p l k h in
      let m = live (crossings w) (first_slot_at w) (second_slot_at w) (mate w) (ports w) d (subst (λ x. x < 2 * crossings w) e (dart_live w p l (after (loop_size w p) k) (after_lt (loop_size w p) k h))) in
      sym (ap (λ x. x / 2) e ∙ land_half (crossings w) (first_slot_at w) (second_slot_at w) (mate w) (slot w d) (mate w (slot w d) (d / 2)) m)

-- loop by loop
pub length_cell : (c : Cell) → length (cell_triangles c) ≡ total (λ p. length (loop_triangles c p)) (crossings (edges_of c)) 0
unfolding cell_triangles
length_cell c = length_over (loop_triangles c) (crossings (edges_of c)) 0

pub cell-count : (c : Cell) → length (cell_triangles c) ≡ triangle_count (edges_of c)
unfolding triangle_count many_from
cell-count c =
    length_cell c ∙ total_ext (λ p. length (loop_triangles c p)) (many_from (edges_of c)) (crossings (edges_of c)) 0 (λ p a b. length_loop c p)

-- the loops that are asked for: all, or those of one length
pub with_all : (c : Cell) → triangles_with c 0 ≡ cell_triangles c
unfolding triangles_with asked_triangles cell_triangles
with_all c = refl

module _ (c : Cell) (only p : ℕ) where
  pub asked_is : (eqb only 0 || eqb (loop_size (edges_of c) p) only) ≡ true → asked_triangles c only p ≡ loop_triangles c p
  unfolding asked_triangles
  asked_is e = rw e

  pub asked_not : (eqb only 0 || eqb (loop_size (edges_of c) p) only) ≡ false → asked_triangles c only p ≡ []
  unfolding asked_triangles
  asked_not e = rw e

  pub asked_few : length (asked_triangles c only p) ≤ loop_size (edges_of c) p
  asked_few = go (eqb only 0 || eqb (loop_size (edges_of c) p) only) refl
    where
      go : (b : Bool) → (eqb only 0 || eqb (loop_size (edges_of c) p) only) ≡ b → length (asked_triangles c only p) ≤ loop_size (edges_of c) p
      go true e = rw (asked_is e) (loop_few c p)
      go false e = rw (asked_not e) (omega arith)

pub length_with : (c : Cell) (only : ℕ) → length (triangles_with c only) ≡ total (λ p. length (asked_triangles c only p)) (crossings (edges_of c)) 0
unfolding triangles_with
length_with c only = length_over (asked_triangles c only) (crossings (edges_of c)) 0

pub with_few : (c : Cell) (only : ℕ) → length (triangles_with c only) ≤ crossings (edges_of c)
with_few c only =
    omega (
      arith,
      length_with c only,
      total_mono (λ p. length (asked_triangles c only p)) (loop_size (edges_of c)) (crossings (edges_of c)) 0 (λ p a b. asked_few c only p),
      sizes (edges_of c),
    )

pub cell_few : (c : Cell) → length (cell_triangles c) ≤ crossings (edges_of c)
cell_few c = rw (← with_all c) (with_few c 0)
