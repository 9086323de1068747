-- The walks from all crossings of a cell in turn: those from crossings below p are done.
use Prim.Native.Nat.{ℕ, ◌+◌, ◌-◌, ◌≤◌, ◌<◌}
use mathlib.Core.Path.{◌≡◌, sym, ap, ◌∙◌}
use mathlib.Core.Bool.{Bool}
use mathlib.Core.List.{List}
use native.Mathlib.Nat.{sub-zero}
use native.Mathlib.Omega.{arith}
use lib.ListN.{length, take}
use Rattle.counting.specs.Stored.{filled}
use Rattle.cell.specs.declared.Cell.{Cell}
use Rattle.cell.specs.Cell.{crossings}
use Rattle.cell.specs.Loop.{loop_size, normal}
use Rattle.cell.specs.Of.{edges_of}
use Rattle.cell.specs.work.Route.{Routed}
use Rattle.cell.specs.work.Limits.{most_in_cell}
use Rattle.cell.specs.work.Scratch.{unmarked, halves_from, points_from}
use Rattle.cell.specs.work.Walked.{Marked, Long, Used, Lent, Walked}
use Rattle.cell.proofs.Using.{kept_then, filled_same, kept_filled, used_none, used_then}
use Rattle.cell.proofs.Walking.{cleared}
use Rattle.cell.proofs.Loops.{size_le, length_halves, length_points}

-- hs and ps are the record of the loop from p, of m darts, and b tells whether it is normal
pub record Looped (c : Cell) (p m : ℕ) (b : Bool) (hs ps : List ℕ) : Type 0 where
  pub inside : p < crossings (edges_of c)
  pub size : m ≡ loop_size (edges_of c) p
  pub told : b ≡ normal (edges_of c) p
  pub few : m ≤ most_in_cell
  pub halves_are : hs ≡ halves_from c p
  pub points_are : ps ≡ points_from c p

module _ {c : Cell} {p m : ℕ} {b : Bool} {hs ps : List ℕ} (L : Looped c p m b hs ps) where
  pub looped_halves : length hs ≡ m
  looped_halves = ap length L.halves_are ∙ length_halves c p ∙ sym L.size

  pub looped_points : length ps ≡ m
  looped_points = ap length L.points_are ∙ length_points c p ∙ sym L.size

-- the arrays were ms₀, hs₀, ps₀ and are ms, hs, ps; the cell has n crossings
pub record Going (c : Cell) (n : ℕ) (routes ms₀ hs₀ ps₀ ms hs ps : List ℕ) (p : ℕ) : Type 0 where
  pub all : n ≡ crossings (edges_of c)
  pub few : n ≤ most_in_cell
  pub up : p ≤ n
  pub long : Long n ms₀ hs₀ ps₀
  pub routed : Routed c routes
  pub marked : Marked c ms
  pub used : Used n ms₀ hs₀ ps₀ ms hs ps

-- the marks are cleared
pub going_start : {c : Cell} {n : ℕ} {routes ms hs ps : List ℕ} (was : List ℕ) → (n ≡ crossings (edges_of c)) × (n ≤ most_in_cell) → Routed c routes
    → Long n was hs ps → ms ≡ filled (λ i. unmarked) n was → Going c n routes ms hs ps ms hs ps 0
going_start {c} {n} {routes} {ms} {hs} {ps} was e R L q = record {
  all = e.0;
  few = e.1;
  up = omega arith;
  long = record { marks_long = omega (arith, L.marks_long, filled_same (λ i. unmarked) n was q); halves_long = L.halves_long; points_long = L.points_long };
  routed = R;
  marked = rw q (cleared c n was e.0 e.1 L.marks_long);
  used = used_none n ms hs ps;
}

module _ {c : Cell} {n : ℕ} {routes ms₀ hs₀ ps₀ ms hs ps : List ℕ} {p : ℕ} (G : Going c n routes ms₀ hs₀ ps₀ ms hs ps p) where
  pub going_long : Long n ms hs ps
  going_long = record {
    marks_long = omega (arith, G.long.marks_long, G.used.marks_kept.long);
    halves_long = omega (arith, G.long.halves_long, G.used.halves_kept.long);
    points_long = omega (arith, G.long.points_long, G.used.points_kept.long);
  }

  -- what is kept of the arrays; the marks were cleared before the walks
  pub going_used : {was : List ℕ} → n ≤ length was → ms₀ ≡ filled (λ i. unmarked) n was → Used n was hs₀ ps₀ ms hs ps
  going_used {was} h q = record {
    marks_kept = kept_then (rw q (kept_filled (λ i. unmarked) n was h)) G.used.marks_kept;
    halves_kept = G.used.halves_kept;
    points_kept = G.used.points_kept;
  }

  -- the next walk is from p
  module _ (l : p < n) where
    pub going_in : p < crossings (edges_of c)
    going_in = omega (arith, G.all)

    pub going_lent : Lent c routes n p ms hs ps
    going_lent = record {
      routed = G.routed;
      all = G.all;
      inside = l;
      marked = G.marked;
      halves_long = going_long.halves_long;
      points_long = going_long.points_long;
    }

    module _ {m : ℕ} {b : Bool} {ms' hs' ps' : List ℕ} (W : Walked c n p ms hs ps m b ms' hs' ps') where
      pub going_more : Going c n routes ms₀ hs₀ ps₀ ms' hs' ps' (p + 1)
      going_more = record {
        all = G.all;
        few = G.few;
        up = omega arith;
        long = G.long;
        routed = G.routed;
        marked = W.marked;
        used = used_then G.used (record { marks_kept = W.marks_kept; halves_kept = W.halves_kept; points_kept = W.points_kept });
      }

      -- in the slices from 0 to m
      pub going_looped : Looped c p m b (take (m - 0) hs') (take (m - 0) ps')
      going_looped = record {
        inside = going_in;
        size = W.size;
        told = W.told;
        few = omega (arith, W.size, size_le (edges_of c) p going_in, G.all, G.few);
        halves_are = rw (sub-zero m) W.halves_are;
        points_are = rw (sub-zero m) W.points_are;
      }

      -- they are parts of the arrays
      pub going_part : (m ≤ length hs') × (m ≤ length ps')
      going_part =
          let s = size_le (edges_of c) p going_in in
          (omega (arith, W.size, s, G.all, W.halves_kept.long, going_long.halves_long), omega (arith, W.size, s, G.all, W.points_kept.long, going_long.points_long))
