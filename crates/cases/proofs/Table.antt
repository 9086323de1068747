-- One law takes the test over the table to each of its entries.
use Prim.Native.Nat.{ℕ, ◌+◌, ◌*◌, ◌<◌}
use mathlib.Core.Path.{◌≡◌, sym, ap, ◌∙◌}
use mathlib.Core.Bool.{true}
use mathlib.Core.List.{[], ◌∷◌}
use native.Mathlib.Nat.{add-zero}
use native.Mathlib.Omega.{arith}
use lib.ListN.{get_or, length}
use Rattle.counting.specs.Lists.{values}
use Rattle.counting.proofs.Fronts.{get_or_blocks}
use Rattle.cell.specs.Level.{by_edge}
use Rattle.cell.specs.Common.{is_common}
use Rattle.cell.specs.Triangles.{loop_count, triangle_count}
use Rattle.cases.specs.claims.Cases.{entries, entry_of}
use Rattle.cases.specs.Answer.{lone_edges}
use Rattle.cases.specs.claims.Table.{table}
use Rattle.cases.proofs.Quick as quick
use Rattle.cases.proofs.Both.{both_are}
use Rattle.cases.proofs.Test.{test}
use Rattle.cases.proofs.Digits.{entry_lt, digits_back}

-- an entry has two numbers: those of a cell alone with its digits as counts
two : (n : ℕ) → length (quick.entry_at n) ≡ 2
unfolding quick.entry_at quick.both_for
two n = ap length (both_are (lone_edges (by_edge (values (quick.digit n) 6))))

entry-at : (n i : ℕ) → n < entries → i < 2 → get_or table (2 * n + i) 0 ≡ get_or (quick.entry_at n) i 0
entry-at n i l h = rw (← test) (get_or_blocks quick.entry_at 2 entries (λ k _. two k) n i 0 l h)

module _ (w : ℕ → ℕ) (C : is_common w ≡ true) where
  abbrev same : ℕ → ℕ
  same = by_edge (values w 6)

  entry_is : (i : ℕ) → i < 2 → get_or table (2 * entry_of w + i) 0 ≡ get_or (loop_count (lone_edges same) ∷ triangle_count (lone_edges same) ∷ []) i 0
  unfolding quick.entry_at quick.both_for
  entry_is i h =
      entry-at (entry_of w) i (entry_lt w C) h ∙ ap (λ l. get_or (quick.both (lone_edges (by_edge l))) i 0) (digits_back w C) ∙ ap (λ l. get_or l i 0) (both_are (lone_edges same))

  pub loops_alone : get_or table (2 * entry_of w) 0 ≡ loop_count (lone_edges same)
  loops_alone = sym (ap (λ n. get_or table n 0) (add-zero (2 * entry_of w))) ∙ entry_is 0 (omega arith)

  pub triangles_alone : get_or table (2 * entry_of w + 1) 0 ≡ triangle_count (lone_edges same)
  triangles_alone = entry_is 1 (omega arith)
