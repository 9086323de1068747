-- What goes from the edges and faces of a cell with its corner triangles, and what remains of them, where only rule 1 is met in it.
use Prim.Native.Nat.{ℕ, ◌+◌, ◌≤◌, ◌<◌}
use mathlib.Core.Path.{◌≡◌, refl, sym, ap}
use mathlib.Core.Bool.{true}
use native.Mathlib.Omega.{arith}
use lib.ListN.{get_or}
use Rattle.counting.specs.Lists.{seek}
use Rattle.counting.specs.Search.{first}
use Rattle.counting.proofs.Below.{below_three, below_four}
use Rattle.slots.specs.Slots.{lo, hi, position, lower, upper, edge_between, slot_edge}
use Rattle.slots.specs.Limits.{most_count}
use Rattle.slots.proofs.Slots.{slot-edge, first-slot}
use Rattle.face.specs.work.Corners as face
use Rattle.face.specs.Face.{count_on}
use Rattle.face.specs.claims.Ends.{End, low, high, on_ab, on_ac, on_bc}
use Rattle.face.specs.claims.Level.{Level, less}
use Rattle.face.specs.work.Ends.{Off}
use Rattle.face.proofs.Gaps.{corner_node}
use Rattle.face.proofs.Shift.{level_less}
use Rattle.cell.specs.declared.Cell.{Cell}
use Rattle.cell.specs.Of.{count_of}
use Rattle.cell.specs.Nodes.{joining, corner_from}
use Rattle.cell.specs.Level.{is_level_cell}
use Rattle.cell.proofs.Nodes.{joining_ends, arranged}
use Rattle.cell.proofs.Levels.{slot_level}
use Rattle.booking.specs.Booking.{corner_on, least_corner, left_between}
use Rattle.booking.proofs.Counts.{fits}
use Rattle.split.specs.SubCell.{rest_of}
use Rattle.split.specs.work.Five.{rest_count}

module _ (w : ℕ → ℕ) (K : is_level_cell w ≡ true) where
  pub rest_sum : (e : ℕ) → e < 6 → rest_of w e + least_corner w (lo e) + least_corner w (hi e) ≡ w e
  unfolding left_between
  rest_sum e le =
      let j = joining_ends e le in
      omega (arith, fits w K (arranged le (first-slot e le)), ap w j)

  -- no more goes than the corners have
  own_le : (s v : ℕ) → s < 4 → v < 3 → least_corner w (position s v) ≤ get_or (face.corners (w (slot_edge s 0)) (w (slot_edge s 1)) (w (slot_edge s 2))) v 0
  unfolding least_corner corner_on corner_from joining slot_edge edge_between first seek position lower upper lo hi
  own_le s v ls lv =
      below_four (λ s. (v : ℕ) → v < 3 → least_corner w (position s v) ≤ get_or (face.corners (w (slot_edge s 0)) (w (slot_edge s 1)) (w (slot_edge s 2))) v 0)
      (below_three (λ v. least_corner w (position 0 v) ≤ get_or (face.corners (w 3) (w 4) (w 5)) v 0) (omega arith) (omega arith) (omega arith))
      (below_three (λ v. least_corner w (position 1 v) ≤ get_or (face.corners (w 1) (w 2) (w 5)) v 0) (omega arith) (omega arith) (omega arith))
      (below_three (λ v. least_corner w (position 2 v) ≤ get_or (face.corners (w 0) (w 2) (w 4)) v 0) (omega arith) (omega arith) (omega arith))
      (below_three (λ v. least_corner w (position 3 v) ≤ get_or (face.corners (w 0) (w 1) (w 3)) v 0) (omega arith) (omega arith) (omega arith))
      s ls v lv

  node_lt : {v e : ℕ} → End v e → v < 3
  unfolding lower upper
  node_lt (low on_ab) = omega arith
  node_lt (low on_ac) = omega arith
  node_lt (low on_bc) = omega arith
  node_lt (high on_ab) = omega arith
  node_lt (high on_ac) = omega arith
  node_lt (high on_bc) = omega arith

  pub off : (s : ℕ) → s < 4 → Off (w (slot_edge s 0)) (w (slot_edge s 1)) (w (slot_edge s 2)) (λ v. least_corner w (position s v))
  off s ls = record {
    level = slot_level w K s ls;
    few = λ v e d. rw (corner_node (w (slot_edge s 0)) (w (slot_edge s 1)) (w (slot_edge s 2)) d) (own_le s v ls (node_lt d));
  }

  pub count-at : (s j : ℕ) → j < 3 → count_on (w (slot_edge s 0)) (w (slot_edge s 1)) (w (slot_edge s 2)) j ≡ w (slot_edge s j)
  unfolding count_on
  count-at s = below_three (λ j. count_on (w (slot_edge s 0)) (w (slot_edge s 1)) (w (slot_edge s 2)) j ≡ w (slot_edge s j)) refl refl refl

  -- what remains of the face in slot s, as the shift law has it
  pub rest_less : (s j : ℕ) → s < 4 → j < 3 → less (w (slot_edge s 0)) (w (slot_edge s 1)) (w (slot_edge s 2)) (λ v. least_corner w (position s v)) j ≡ rest_of w (slot_edge s j)
  unfolding less
  rest_less s j ls lj =
      let u = slot-edge s j ls lj in
      let r = rest_sum (slot_edge s j) u.lt in
      let a = ap (least_corner w) u.lo_is in
      let b = ap (least_corner w) u.hi_is in
      let n = count-at s j lj in
      omega (arith, r, a, b, n)

  pub rest_level : (s : ℕ) → s < 4 → Level (rest_of w (slot_edge s 0)) (rest_of w (slot_edge s 1)) (rest_of w (slot_edge s 2))
  rest_level s ls =
      rw (sym (rest_less s 0 ls (omega arith)), sym (rest_less s 1 ls (omega arith)), sym (rest_less s 2 ls (omega arith)))
      (level_less (w (slot_edge s 0)) (w (slot_edge s 1)) (w (slot_edge s 2)) (λ v. least_corner w (position s v)) (off s ls))

pub rest_most : (c : Cell) → is_level_cell (count_of c) ≡ true → (e : ℕ) → e < 6 → rest_count c e ≤ most_count
rest_most c K e le = omega (arith, rest_sum (count_of c) K e le)
