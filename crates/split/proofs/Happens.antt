-- What is asked of a cell can be met: by one that is split, and by one in which some curves close and another does not.
use Prim.Native.Nat.{ℕ, ◌+◌, ◌*◌, ◌≤◌, ◌<◌}
use mathlib.Core.Path.{◌≡◌, refl, sym, ◌∙◌}
use mathlib.Core.Bool.{Bool, true}
use native.Mathlib.Omega.{arith}
use lib.Dec.{ltb, leb}
use borrow.Author.Tests.{leb-true, lt-ltb}
use Rattle.counting.specs.Pick.{pick}
use Rattle.counting.specs.Lists.{seek, total, pre, it}
use Rattle.counting.specs.Search.{first, last, every}
use Rattle.counting.specs.Gcd.{divides, gcd}
use Rattle.counting.proofs.Below.{trichotomy, below_four}
use Rattle.counting.proofs.Search.{every_is}
use Rattle.slots.specs.Slots as slots
use Rattle.face.specs.Face as face
use Rattle.face.specs.Face.{is_level}
use Rattle.walk.specs.Darts.{half, rev}
use Rattle.walk.specs.claims.Claims.{Darts}
use Rattle.walk.specs.Step as steps
use Rattle.walk.specs.Walk as walk
use Rattle.walk.proofs.Once.{listed}
use Rattle.manifold.specs.claims.Piece.{Local, Piece, mate_of, onward, size_of}
use Rattle.manifold.proofs.Piece.{cell_darts}
use Rattle.cell.specs.declared.Cell.{Cell}
use Rattle.cell.specs.Cell.{crossings, ahead, base, holds, edge, index, answer_at, join_at, joined_to, mate}
use Rattle.cell.specs.Of.{count_of, start_of, edges_of}
use Rattle.cell.specs.claims.Polygons.{local_of}
use Rattle.cell.specs.Nodes.{joining, corner_from}
use Rattle.cell.specs.Level.{is_level_cell}
use Rattle.booking.specs.Booking.{median, corner_on, least_corner, left_between, larger, smaller, is_split}
use Rattle.booking.specs.Figures.{are_spiral, are_split}
use Rattle.split.specs.claims.Five.{name_of}
use Rattle.split.specs.examples.Examples.{lone_cell}
use Rattle.split.specs.claims.Owned.{Fit, SplitHappens, CurvesMix}
use Rattle.split.proofs.Grid.{piece_of}
use Rattle.split.proofs.Curves.{closes_live}

-- A cell is as is asked where the numbers of an earlier edge are lower, all are below 65,536, and its faces go by their slots
before : Cell → ℕ → ℕ → Bool
before c k j = pick (ltb j k) (leb (start_of c j + count_of c j) (start_of c k)) true

module _ (c : Cell) (in_order : every (λ k. every (before c k) 6) 6 ≡ true) (all-low : every (λ k. leb (start_of c k + count_of c k) 65536) 6 ≡ true)
    (name_is : (s : ℕ) → s < 4 → name_of c s ≡ s) where
  lower : (j k : ℕ) → j < k → k < 6 → start_of c j + count_of c j ≤ start_of c k
  unfolding before
  lower j k h l =
      leb-true (start_of c j + count_of c j) (start_of c k) (rw (lt-ltb j k h) at (every_is (before c k) 6 (every_is (λ k. every (before c k) 6) 6 in_order k l) j (omega arith)))

  fit : Fit c
  fit = record {
    separate = λ j k t u lj lk lt lu q.
        trichotomy j k (λ h. absurd (omega (arith, lower j k h lk, q, lt))) (λ h. absurd (omega (arith, lower k j h lj, q, lu))) (λ e. e);
    names = λ s r ls lr q. sym (name_is s ls) ∙ q ∙ name_is r lr;
    below = λ k t lk lt. omega (arith, leb-true (start_of c k + count_of c k) 65536 (every_is (λ k. leb (start_of c k + count_of c k) 65536) 6 all-low k lk));
    under = λ s ls. omega (arith, name_is s ls);
  }

-- the first example is split
abbrev spiral : Cell
spiral = lone_cell 4 2 6 6 2 4

spiral_fit : Fit spiral
unfolding every before lone_cell
spiral_fit = fit spiral refl refl (below_four (λ s. name_of spiral s ≡ s) refl refl refl refl)

is-split : is_split (count_of spiral) ≡ true
unfolding seek first last every divides gcd
    slots.lo slots.hi slots.position slots.lower slots.upper slots.edge_between slots.slot_edge
    face.half_above face.corner_count is_level joining corner_from is_level_cell median corner_on least_corner left_between larger smaller are_spiral are_split is_split lone_cell
is-split = refl

pub split_happens : SplitHappens
split_happens = (spiral, spiral_fit, is-split)

-- two curves round node 0 close, and the third, which comes to the face with an odd sum, does not
abbrev mixed : Cell
mixed = lone_cell 3 3 3 0 0 1

mixed_fit : Fit mixed
unfolding every before lone_cell
mixed_fit = fit mixed refl refl (below_four (λ s. name_of mixed s ≡ s) refl refl refl refl)

-- the loop from crossing 0, and the walk from crossing 2
computed : (size_of (local_of mixed) 0 ≡ 3) × (mate_of (local_of mixed) 4 ≡ 5) × (it (onward (local_of mixed)) 2 4 ≡ 20)
unfolding seek first last total pre
    slots.lo slots.hi slots.position slots.lower slots.upper slots.edge_between slots.slot_edge slots.edge_rank slots.contains slots.first_slot slots.second_slot
    face.other face.opposite face.half_above face.corner_count face.residual face.count_on face.others face.kth face.corner_count_at face.partner face.face_answer face.face_join
    it steps.face steps.land steps.step walk.status walk.turn walk.size ahead base holds edge index answer_at join_at joined_to mate lone_cell
computed = (refl, refl, refl)

many : crossings (edges_of mixed) ≡ 10
unfolding total pre lone_cell
many = refl

pub curves_mix : CurvesMix
curves_mix = (
  mixed,
  mixed_fit,
  (0, (size_of A 0, (listed A.N (onward A) rev D 0 (omega (arith, many)) (omega (arith, computed.0))).0)),
  (4, record { lt = omega (arith, many); joined = omega (arith, many, computed.1) }, λ u. omega (arith, many, computed.2, closes_live A P 4 2 u)),
)
  where
    A : Local
    A = local_of mixed

    P : Piece A
    P = piece_of mixed mixed_fit

    D : Darts (2 * A.N) A.N (onward A) rev half
    D = cell_darts A P
