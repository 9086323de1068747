-- The claims, from the laws.
use Prim.Native.Nat.{ℕ, ◌+◌}
use mathlib.Core.Path.{◌≡◌, refl, sym, ap, ◌∙◌}
use mathlib.Core.Bool.{Bool, true, false}
use mathlib.Core.List.{List, [], ◌∷◌}
use Rattle.std.specs.Prelude.{Option, Some, None}
use native.Mathlib.Omega.{arith}
use lib.Dec.{ltb}
use lib.ListN.{length}
use borrow.Author.Tests.{lt-ltb}
use Rattle.counting.specs.Pick.{pick}
use Rattle.counting.specs.Lists.{total, over, values}
use Rattle.counting.proofs.Lists.{values_at}
use Rattle.counting.proofs.Range.{total_ext, total_add, length_over}
use Rattle.counting.proofs.Search.{count_sorted}
use Rattle.answer.specs.Answer.{result_of}
use Rattle.answer.proofs.Answer.{no_nil}
use Rattle.cell.specs.declared.Cell.{Cell}
use Rattle.cell.specs.Of.{count_of, edges_of}
use Rattle.cell.specs.Level.{by_edge}
use Rattle.cell.specs.Common.{is_common}
use Rattle.cell.specs.Loop.{leasts}
use Rattle.cell.specs.Triangles.{loop_count, triangle_count, cell_triangles}
use Rattle.cell.specs.claims.Table.{taken_counts, table_cell, drawn_cells, table_triangles}
use Rattle.cell.proofs.Taken.{cell-count}
use Rattle.cell.proofs.Values.{taken_is}
use Rattle.cases.specs.declared.Case.{Case}
use Rattle.cases.specs.claims.Cases.{entries, entry_of}
use Rattle.cases.specs.Answer.{lone_edges, case_numbers, case_answer}
use Rattle.cases.specs.claims.Table.{table_rows, table}
use Rattle.cases.specs.claims.Tally.{find_entry, triangles_at, find_entry_at, outside_at}
use Rattle.cases.specs.claims.Claims.{OneToOne, TableLength, EveryEntry, EntriesMet, LaidAnyhow, CellsRight, AnswerRight, TotalByEntry}
use Rattle.cases.proofs.Quick.{digit}
use Rattle.cases.proofs.Digits.{entry_lt, digits_common, digits_number}
use Rattle.cases.proofs.Table.{loops_alone, triangles_alone}
use Rattle.cases.proofs.Laid as laid

same_case : (l t m u : ℕ) → result_of (l ∷ t ∷ []) ≡ result_of (m ∷ u ∷ []) → ◌≡◌ {A = Option Case} (Some (record { loops = l; triangles = t })) (Some (record { loops = m; triangles = u }))
same_case l t m u e = cc

pub one-to-one : OneToOne
one-to-one (Some c) (Some d) e = same_case c.loops c.triangles d.loops d.triangles e
one-to-one (Some c) None e = absurd (no_nil {a = c.loops} {l = c.triangles ∷ []} (cc))
one-to-one None (Some c) e = absurd (no_nil {a = c.loops} {l = c.triangles ∷ []} (cc))
one-to-one None None e = refl

pub table_length : TableLength
unfolding over table_rows table
table_length = refl

pub laid_anyhow : LaidAnyhow
laid_anyhow = laid.laid_anyhow

pub every_entry : EveryEntry
every_entry w C =
    let S = laid_anyhow (lone_edges (by_edge (values w.count 6))) w (λ k l. values_at w.count 6 k 0 l) in
    record { within = entry_lt w.count C; loops = loops_alone w.count C ∙ S.0; triangles = triangles_alone w.count C ∙ S.1 }

pub entries_met : EntriesMet
entries_met e l = (lone_edges (digit e), digits_common e, digits_number e l)

pub cells_right : CellsRight
unfolding loop_count
cells_right c C = let E = every_entry (edges_of c) C in (E.loops, E.triangles ∙ sym (cell-count c))

pub entry_triangles : (c : Cell) → is_common (count_of c) ≡ true → triangles_at (entry_of (count_of c)) ≡ length (cell_triangles c)
unfolding triangles_at
entry_triangles c C = (cells_right c C).1

-- the triangles of a cell by the place of its entry
pub by_place : (w : ℕ → ℕ) → pick (ltb (find_entry w) entries) (triangles_at (find_entry w)) 0 ≡ pick (is_common w) (triangles_at (entry_of w)) 0
unfolding find_entry
by_place w = go (is_common w) refl
  where
    go : (b : Bool) → is_common w ≡ b → pick (ltb (pick b (entry_of w) entries) entries) (triangles_at (pick b (entry_of w) entries)) 0 ≡ pick b (triangles_at (entry_of w)) 0
    go true C = rw (lt-ltb (entry_of w) entries (entry_lt w C)) refl
    go false C = refl

-- a cell of a grid's tables
module _ (cells counts names sides starts : List ℕ) where
  abbrev at : ℕ → Cell
  at c = table_cell cells counts names sides starts c

  abbrev taken : ℕ → (ℕ → ℕ)
  taken c = by_edge (taken_counts counts sides c)

  pub common_triangles : (c : ℕ) → is_common (taken c) ≡ true → length (cell_triangles (at c)) ≡ triangles_at (entry_of (taken c))
  common_triangles c C =
      let e = taken_is cells counts names sides starts c in
      sym (entry_triangles (at c) (sym (ap is_common e) ∙ C)) ∙ sym (ap (λ w. triangles_at (entry_of w)) e)

  by_entry : (c : ℕ) → length (cell_triangles (at c)) ≡ pick (ltb (find_entry_at counts sides c) entries) (triangles_at (find_entry_at counts sides c)) 0 + outside_at cells counts names sides starts c
  unfolding find_entry_at outside_at
  by_entry c = rw (by_place (taken c)) (go (is_common (taken c)) refl)
    where
      go : (b : Bool) → is_common (taken c) ≡ b → length (cell_triangles (at c)) ≡ pick b (triangles_at (entry_of (taken c))) 0 + pick b 0 (length (cell_triangles (at c)))
      go true C = common_triangles c C ∙ omega arith
      go false C = omega arith

pub total_by_entry : TotalByEntry
unfolding table_triangles
total_by_entry cells counts names sides starts =
    length_over (λ c. cell_triangles (at cells counts names sides starts c)) n 0
    ∙ total_ext (λ c. length (cell_triangles (at cells counts names sides starts c))) (λ c. own c + outside_at cells counts names sides starts c) n 0 (λ c _ _. by_entry cells counts names sides starts c)
    ∙ total_add own (outside_at cells counts names sides starts) n 0
    ∙ ap (λ t. t + total (outside_at cells counts names sides starts) n 0) (sym (count_sorted (find_entry_at counts sides) triangles_at entries n))
  where
    n : ℕ
    n = drawn_cells cells

    own : ℕ → ℕ
    own c = pick (ltb (find_entry_at counts sides c) entries) (triangles_at (find_entry_at counts sides c)) 0

pub answer_right : AnswerRight
unfolding case_answer loop_count
answer_right c l t e = go (is_common w) e
  where
    w : ℕ → ℕ
    w = count_of c

    same : (loop_count (edges_of c) ≡ loop_count (lone_edges w)) × (triangle_count (edges_of c) ≡ triangle_count (lone_edges w))
    same = laid_anyhow (edges_of c) (lone_edges w) (λ k _. refl)

    go : (b : Bool) → case_numbers (Some (record { loops = l; triangles = t })) ≡ pick b (result_of (loop_count (lone_edges w) ∷ triangle_count (lone_edges w) ∷ [])) (result_of []) → (length (leasts (edges_of c)) ≡ l) × (length (cell_triangles c) ≡ t)
    go true f = (same.0 ∙ cc, cell-count c ∙ same.1 ∙ cc)
    go false f = absurd (no_nil {a = l} {l = t ∷ []} (cc))
