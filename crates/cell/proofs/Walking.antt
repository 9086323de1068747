-- What a walk from the crossing p keeps.
use Prim.Native.Nat.{ℕ, ◌+◌, ◌*◌, ◌/◌, ◌≤◌, ◌<◌}
use mathlib.Core.Path.{◌≡◌, refl, ap, ◌∙◌}
use mathlib.Core.Logic.{⊎_elim}
use mathlib.Core.List.{List}
use native.Mathlib.Nat.{eq-or-lt_of_le}
use native.Mathlib.Omega.{arith}
use native.Mathlib.Numerals.{add-one}
use native.Mathlib.Decide.{dec_lt}
use lib.ListN.{get_or, set, length}
use Rattle.counting.specs.Stored.{filled}
use Rattle.counting.proofs.Stored.{length_filled, filled_at}
use Rattle.counting.specs.Lists.{it}
use Rattle.walk.specs.Darts.{half, rev}
use Rattle.walk.proofs.Iterate.{it_suc}
use Rattle.walk.proofs.Curve.{closes}
use Rattle.walk.proofs.Rest.{rest, rest-start, rest_end, rest_low, rest_home, rest_on}
use Rattle.walk.proofs.Marks.{Marks, marks_more, met}
use Rattle.cell.specs.declared.Cell.{Cell}
use Rattle.cell.specs.Cell.{Edges, crossings, step}
use Rattle.cell.specs.Loop.{loop_size, dart}
use Rattle.cell.specs.Of.{edges_of}
use Rattle.cell.specs.work.Limits.{most_in_cell}
use Rattle.cell.specs.work.Scratch.{unmarked}
use Rattle.cell.specs.work.Walked.{Marked}
use Rattle.cell.proofs.Mates.{darts}

-- marks that are cleared say nothing
pub cleared : (c : Cell) (n : ℕ) (m : List ℕ) → n ≡ crossings (edges_of c) → n ≤ most_in_cell → n ≤ length m → Marked c (filled (λ i. unmarked) n m)
cleared c n m e l h = record {
  long = omega (arith, length_filled (λ i. unmarked) n m);
  by = λ x a b. absurd (omega (arith, filled_at (λ i. unmarked) n m 0 h x (omega arith)));
}

-- a walk from p that has come to its dart k, and was above p since it left
pub record Walking (w : Edges) (p k : ℕ) : Type 0 where
  pub start : p < crossings w
  pub live : (j : ℕ) → j ≤ k → dart w p j < 2 * crossings w
  pub up : (j : ℕ) → 0 < j → j ≤ k → p < dart w p j / 2
  pub left : loop_size w p ≡ rest (crossings w) (step w) p (k + 1) (step w (dart w p k))

pub dart_next : (w : Edges) (p k : ℕ) → dart w p (k + 1) ≡ step w (dart w p k)
unfolding dart
dart_next w p k = rw add-one (it_suc (step w) k (2 * p))

pub walking_start : (w : Edges) (p : ℕ) → p < crossings w → Walking w p 0
unfolding loop_size dart it
walking_start w p l = record {
  start = l;
  live = λ j h. let z : j ≡ 0 = omega arith in rw z (omega arith);
  up = λ j a h. absurd (omega arith);
  left = rest-start (crossings w) (step w) p (step w (2 * p)) refl;
}

module _ {w : Edges} {p k : ℕ} (W : Walking w p k) where
  abbrev N : ℕ
  N = crossings w

  -- where it goes on to
  abbrev y : ℕ
  y = step w (dart w p k)

  -- a walk that does not come home passes ever new crossings, so it stops in time
  pub walking_room : k < N
  unfolding dart
  walking_room =
      elim (dec_lt k N) [
        | yes h ↦ h
        | no h ↦
            let (j, jN, L) = closes (2 * N) N (step w) rev half (darts w) (2 * p) (λ j l. W.live j (omega arith)) in
            absurd (omega (arith, W.up j L.pos (omega arith), L.home))
      ]

  pub walking_end : y ≡ 2 * N → loop_size w p ≡ 0
  walking_end h = W.left ∙ rest_end N (step w) p (k + 1) y (omega (arith, walking_room)) (omega arith)

  module _ (on : y < 2 * N) where
    pub walking_low : y / 2 < p → loop_size w p ≡ 0
    walking_low h = W.left ∙ rest_low N (step w) p (k + 1) y (omega (arith, walking_room)) on h

    pub walking_home : y / 2 ≡ p → loop_size w p ≡ k + 1
    walking_home h = W.left ∙ rest_home N (step w) p (k + 1) y (omega (arith, walking_room)) on h

    lives : (j : ℕ) → j ≤ k + 1 → dart w p j < 2 * N
    lives j h = ⊎_elim (λ (q : j ≡ k + 1). rw (q, dart_next w p k) on) (λ (l : j < k + 1). W.live j (omega arith)) (eq-or-lt_of_le h)

    pub walking_on : p < y / 2 → Walking w p (k + 1)
    walking_on h = record {
      start = W.start;
      live = lives;
      up = λ j a l. ⊎_elim (λ (q : j ≡ k + 1). rw (q, dart_next w p k) h) (λ (g : j < k + 1). W.up j a (omega arith)) (eq-or-lt_of_le l);
      left = W.left ∙ rest_on N (step w) p (k + 1) y (omega (arith, walking_room)) on (step w y) h refl ∙ rw (dart_next w p k) refl;
    }

    pub walking_mark : {m : List ℕ} → Marks N (step w) m → Marks N (step w) (set m (y / 2) p)
    unfolding dart
    walking_mark M = marks_more M p (k + 1) (y / 2) (record { start = W.start; live = lives; is = ap half (dart_next w p k) })

    pub walking_met : {m : List ℕ} → Marks N (step w) m → get_or m (y / 2) 0 < p → loop_size w p ≡ 0
    unfolding loop_size dart
    walking_met {m} M h =
        let (i, P) = M.by (y / 2) (omega arith) (omega (arith, W.start)) in
        met N (step w) rev (darts w) p (k + 1) W.start P h (ap half (dart_next w p k))

pub start_met : (w : Edges) (m : List ℕ) (p : ℕ) → p < crossings w → Marks (crossings w) (step w) m → get_or m p 0 < p → loop_size w p ≡ 0
unfolding loop_size it
start_met w m p l M h =
    let (i, P) = M.by p l (omega arith) in
    met (crossings w) (step w) rev (darts w) p 0 l P h (omega arith)
