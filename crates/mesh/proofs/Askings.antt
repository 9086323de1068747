-- A loop that is asked for, in a grid and in its tables.
use Prim.Native.Nat.{ℕ, ◌%◌, ◌≤◌, ◌<◌}
use mathlib.Core.Path.{◌≡◌, sym, ap, ◌∙◌}
use mathlib.Core.List.{List}
use native.Mathlib.Decide.{dec_lt}
use native.Mathlib.Omega.{arith}
use lib.ListN.{length, get_or}
use borrow.Author.Tests.{lt-ltb, le-ltb}
use Rattle.counting.proofs.Lists.{length_singles}
use Rattle.answer.specs.Answer.{refusal}
use Rattle.slots.specs.Limits.{most_cells}
use Rattle.cell.specs.declared.Cell.{Cell}
use Rattle.cell.specs.claims.Table.{short_limit, side, table_cell}
use Rattle.cell.specs.Of.{edges_of}
use Rattle.cell.specs.work.Route.{limited}
use Rattle.cell.specs.Loop.{loop_answer}
use Rattle.cell.proofs.Using.{table_near, limited_same}
use Rattle.mesh.specs.Asked.{cell_loop, asked_loop}

module _ (cell : ℕ → Cell) (n c k : ℕ) where
  pub asked_there : c < n → cell_loop (cell c) k ≡ asked_loop cell n c k
  unfolding asked_loop
  asked_there h = simp (lt-ltb c n h)

  pub asked_beyond : n ≤ c → refusal 11 c ≡ asked_loop cell n c k
  unfolding asked_loop
  asked_beyond h = simp (le-ltb c n h)

-- only the cell asked for counts
pub asked_ext : (f g : ℕ → Cell) (n c k : ℕ) → (c < n → f c ≡ g c) → asked_loop f n c k ≡ asked_loop g n c k
asked_ext f g n c k h = elim (dec_lt c n) [
  | yes l ↦ sym (asked_there f n c k l) ∙ ap (λ x. cell_loop x k) (h l) ∙ asked_there g n c k l
  | no l ↦ let m : n ≤ c = omega arith in sym (asked_beyond f n c k m) ∙ asked_beyond g n c k m
]

-- the starts of a cell of the tables are within their limit, so that its loops are told as they are
module _ (cells counts names sides starts : List ℕ) (c : ℕ) where
  six : length (table_cell cells counts names sides starts c).starts ≡ 6
  unfolding table_cell
  six = length_singles (λ k. get_or starts (side sides (c % most_cells) k) 0 % short_limit) 6 0

  pub loop_limited : (k : ℕ) {v : Cell} → v ≡ table_cell cells counts names sides starts c → loop_answer (edges_of (limited v)) v.nodes k ≡ cell_loop (table_cell cells counts names sides starts c) k
  loop_limited k {v} e =
      let t = table_cell cells counts names sides starts c in
      ap (λ v. loop_answer (edges_of (limited v)) v.nodes k) e
      ∙ ap (λ x. loop_answer (edges_of x) t.nodes k) (limited_same t (table_near cells counts names sides starts c) six)
