-- The laws of the cells that are booked, together.
use Prim.Native.Nat.{ℕ}
use mathlib.Core.Path.{◌≡◌, refl, ◌∙◌}
use mathlib.Core.Bool.{true}
use mathlib.Core.List.{[], ◌∷◌}
use native.Mathlib.Omega.{arith}
use Rattle.std.specs.Prelude.{Option, Some, None}
use Rattle.answer.specs.Answer.{result_of}
use Rattle.answer.proofs.Answer.{no_nil}
use Rattle.cell.specs.Cell.{Edges}
use Rattle.cell.specs.Loop.{loop_size}
use Rattle.cell.specs.claims.Nodes.{Arranged}
use Rattle.cell.specs.Level.{is_level_cell}
use Rattle.cell.proofs.Mates.{laws}
use Rattle.cell.proofs.Turn.{turn}
use Rattle.booking.specs.declared.Booking.{Booking}
use Rattle.booking.specs.claims.Booking.{other_length}
use Rattle.booking.specs.claims.Claims.{OneToOne, Other, LoopLaws, CountLaws, StepLaws, Books, TrianglesBooked}
use Rattle.booking.proofs.Counts.{twice_corner, twice_least, fits, left_opposite, left_sum, numbers}
use Rattle.booking.proofs.Numbers.{gcd_none, long_four, long_more}
use Rattle.booking.proofs.Closed.{goes}
use Rattle.booking.proofs.Darts.{two_steps}
use Rattle.booking.proofs.Lengths.{corner_loop, left_loop}
use Rattle.booking.proofs.Corners.{on_loop, in_three, three_in}
use Rattle.booking.proofs.Count.{long_one}
use Rattle.booking.proofs.Triangles.{normal_all, tally_threes, tally_others, loops_booked, triangles-booked}

count_laws : (w : ℕ → ℕ) → is_level_cell w ≡ true → {a b c d : ℕ} → Arranged a b c d → CountLaws w a b c d
count_laws w K A = record {
  corner = omega (arith, twice_corner w K A);
  least_is = twice_least w K A;
  fit = fits w K A;
  opposite = left_opposite w K A;
  sum = left_sum w K;
  numbers = numbers w K;
}

module _ (w : Edges) (K : is_level_cell w.count ≡ true) where
  step_laws : {a b c d : ℕ} → Arranged a b c d → StepLaws w a b c d
  step_laws A = record {
    turn = turn w A;
    three = corner_loop w K A;
    two = λ L q l. two_steps w K L q l;
    other = left_loop w K A;
  }

  long : (p : ℕ) → Other w p → loop_size w p ≡ other_length w.count
  long p O = long_one w K p O.start (omega (arith, O.some)) O.no_three

  loop_laws : LoopLaws w
  unfolding other_length
  loop_laws = record {
    on = on_loop w K;
    once = λ x l. (laws w).exactly (goes w K) x l;
    in_three = in_three w K;
    three_in = three_in w K;
    threes = tally_threes w K;
    all_normal = normal_all w K;
    others = tally_others w K;
    other-length = long;
    quads = λ e. tally_others w K ∙ gcd_none w.count e;
    quad = λ e p O. (let f = long p O in f ∙ long_four w.count e (omega (arith, f, O.some)));
    longer = λ h p O. omega (arith, long p O, long_more w.count h);
    triangles = loops_booked w K;
  }

pub books : Books
books w K = record { counts = λ a b c d A. count_laws w.count K A; steps = λ a b c d A. step_laws w K A; goes = goes w K; loops = loop_laws w K }

pub triangles_booked : TrianglesBooked
triangles_booked c K = triangles-booked c K

same_booking : (t x y n u z v m : ℕ) → result_of (t ∷ x ∷ y ∷ n ∷ []) ≡ result_of (u ∷ z ∷ v ∷ m ∷ [])
    → ◌≡◌ {A = Option Booking} (Some (record { corners = t; d1 = x; d2 = y; triangles = n })) (Some (record { corners = u; d1 = z; d2 = v; triangles = m }))
same_booking t x y n u z v m e = cc

pub one_to_one : OneToOne
one_to_one (Some b) (Some c) e = same_booking b.corners b.d1 b.d2 b.triangles c.corners c.d1 c.d2 c.triangles e
one_to_one (Some b) None e = absurd (no_nil {a = b.corners} {l = b.d1 ∷ b.d2 ∷ b.triangles ∷ []} (cc))
one_to_one None (Some b) e = absurd (no_nil {a = b.corners} {l = b.d1 ∷ b.d2 ∷ b.triangles ∷ []} (cc))
one_to_one None None e = refl
