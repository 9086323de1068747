-- The rows in turn; what row 1 leaves, and what is left in the check's tables.
use Rattle.std.specs.Prelude.{Result, Ok, Err, Some, None}
use Prim.Native.Nat.{ℕ, ◌%◌, ◌*◌, ◌<◌, ◌≤◌}
use mathlib.Core.Path.{◌∙◌, ◌≡◌, ap, refl, sym}
use mathlib.Core.Bool.{Bool, ◌||◌, false, not, true}
use mathlib.Core.List.{List, [], ◌∷◌}
use native.Mathlib.Omega.{arith}
use lib.Dec.{eqb, ltb}
use lib.ListN.{length}
use borrow.Author.Tests.{eqb-false, eqb-true, ltb-false, not-false}
use Rattle.counting.specs.work.Search.{found}
use Rattle.counting.proofs.Bools.{or_none}
use Rattle.answer.specs.Answer.{refusal, result_of}
use Rattle.answer.specs.Rows.{answer_of, whole}
use Rattle.answer.specs.claims.Faults.{row_at}
use Rattle.answer.specs.work.Faults.{since}
use Rattle.answer.proofs.Rows.{row_clear, row_found, row_passes, row_refuses, whole_fault, whole_fine}
use Rattle.grid.specs.Grid.{Grid, built, cell_count, crossings}
use Rattle.slots.specs.Limits.{most_cells}
use Rattle.grid.specs.Rows.{bad_length, bad_lists, grid_answer, rows, too_many}
use Rattle.grid.specs.work.Work.{Early, Neighbours, WhereAccepted, Worked, answer_from, answer_with, listed_at}
use Rattle.counting.specs.work.Tables.{Table}
use Rattle.answer.specs.Refusal.{refusal_numbers}
use Rattle.answer.specs.declared.Refusal.{Refusal}
use Rattle.grid.proofs.Starts.{built_is, lists_fine}

-- row n, whose lowest fault is sought, and row m which follows it
module _ (G : Grid) (n m : ℕ) (follows : since n (rows G) ≡ row_at (since n (rows G)) 0 ∷ since m (rows G)) where
  pub answer_found : (p : ℕ) → Some p ≡ found (row_at (since n (rows G)) 0).fault (row_at (since n (rows G)) 0).places
      → refusal (row_at (since n (rows G)) 0).number p ≡ answer_from n G
  unfolding answer_from
  answer_found p e = row_found (row_at (since n (rows G)) 0) (since m (rows G)) _ p e ∙ ap (λ r. answer_of r (result_of (crossings G.counts ∷ []))) (sym follows)

  pub answer_clear : None ≡ found (row_at (since n (rows G)) 0).fault (row_at (since n (rows G)) 0).places → answer_from m G ≡ answer_from n G
  unfolding answer_from
  answer_clear e = row_clear (row_at (since n (rows G)) 0) (since m (rows G)) _ e ∙ ap (λ r. answer_of r (result_of (crossings G.counts ∷ []))) (sym follows)

-- the last row
pub answer_last : (G : Grid) → answer_of (whole 10 (too_many G.counts) ∷ []) (result_of (crossings G.counts ∷ [])) ≡ answer_from 10 G
unfolding answer_from since rows
answer_last G = refl

-- what row 1 leaves
pub length_fine : (cells : List ℕ) → bad_length cells ≡ false → (length cells ≡ 4 * cell_count cells) × (0 < cell_count cells) × (cell_count cells ≤ most_cells)
unfolding bad_length
length_fine cells e =
    let (a, b) = or_none (not (eqb (length cells % 4) 0)) (eqb (length cells) 0 || ltb most_cells (cell_count cells)) e in
    let (p, q) = or_none (eqb (length cells) 0) (ltb most_cells (cell_count cells)) b in
    let f : length cells % 4 ≡ 0 = eqb-true (length cells % 4) 0 (not-false (eqb (length cells % 4) 0) a) in
    let g = eqb-false (length cells) 0 p in
    (omega arith, omega arith, ltb-false most_cells (cell_count cells) q)

-- rows 1 and 2, with row 2's verdict at hand
module _ (wrong : Bool) (G : Grid) where
  pub with_1 : bad_length G.cells ≡ true → refusal 1 0 ≡ answer_with wrong G
  unfolding answer_with
  with_1 h = row_refuses (whole 1 (bad_length G.cells)) _ _ 0 (whole_fault _ h) (omega arith)

  pub with_2 : bad_length G.cells ≡ false → wrong ≡ true → refusal 2 0 ≡ answer_with wrong G
  unfolding answer_with
  with_2 h e =
      row_refuses (whole 2 wrong) (since 3 (rows G)) _ 0 (whole_fault _ e) (omega arith)
      ∙ row_passes (whole 1 (bad_length G.cells)) _ _ 1 (whole_fine _ h) (omega arith)

  pub with_3 : bad_length G.cells ≡ false → wrong ≡ false → answer_from 3 G ≡ answer_with wrong G
  unfolding answer_with answer_from
  with_3 h e =
      row_passes (whole 2 wrong) (since 3 (rows G)) _ 1 (whole_fine _ e) (omega arith)
      ∙ row_passes (whole 1 (bad_length G.cells)) _ _ 1 (whole_fine _ h) (omega arith)

-- the verdict by which the check judges
judged : (G : Grid) → answer_with (bad_lists G.edges G.counts G.starts) G ≡ grid_answer G
unfolding answer_with grid_answer rows since
judged G = refl

pub verdict : (G : Grid) (wrong : Bool) → wrong ≡ bad_lists G.edges G.counts G.starts
    → answer_with wrong (built G.cells G.edges G.counts) ≡ grid_answer G
verdict G wrong e = go wrong e (bad_length G.cells) refl ∙ ap (λ b. answer_with b G) e ∙ judged G
  where
    -- rows 1 and 2 refuse alike; else the two grids are one
    go : (b : Bool) → b ≡ bad_lists G.edges G.counts G.starts → (l : Bool) → bad_length G.cells ≡ l
        → answer_with b (built G.cells G.edges G.counts) ≡ answer_with b G
    go true q true h = sym (with_1 true (built G.cells G.edges G.counts) h) ∙ with_1 true G h
    go true q false h = sym (with_2 true (built G.cells G.edges G.counts) h refl) ∙ with_2 true G h refl
    go false q l h = let f = lists_fine G.edges G.counts G.starts (sym q) in ap (answer_with false) (sym (built_is G f.1 f.2))

-- a fact that holds anyway
pub where-accepted : {T : Type 0} (r : Result ℕ Refusal) → T → WhereAccepted r T
where-accepted (Ok n) t = t
where-accepted (Err refusal) t = tt

-- what `early_rows` leaves, by its answer
module _ (G : Grid) (near : List ℕ) (r : Result Unit Refusal) where
  pub early_clear : (t : Unit {0}) → r ≡ Ok t → Early G near r → (answer_from 6 G ≡ answer_from 4 G) × Neighbours G.cells near
  early_clear t e h = rw e at h

  pub early_refused : (refusal : Refusal) → r ≡ Err refusal → Early G near r → refusal_numbers refusal ≡ answer_from 4 G
  early_refused refusal e h = rw e at h

pub worked : (G : Grid) (near sides : List ℕ) (r : Result ℕ Refusal) → Neighbours G.cells near
    → WhereAccepted r (Table (listed_at G) (6 * cell_count G.cells) sides) → WhereAccepted r (Worked G near sides)
worked G near sides (Ok n) h t = record { near_is = h; sided = t }
worked G near sides (Err refusal) h t = tt
