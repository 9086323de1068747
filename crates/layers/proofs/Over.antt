-- The words of a run's triangles in the lent area, put over triangle by triangle, are those of its cells in the whole.
use Prim.Native.Nat.{ℕ, zero, suc, ◌+◌, ◌*◌, ◌<◌}
use mathlib.Core.Path.{◌≡◌, refl, sym, ap, ap₂, ◌∙◌}
use mathlib.Core.List.{List, [], ◌∷◌, ◌++◌}
use native.Mathlib.Nat.{zero-add}
use native.Mathlib.Omega.{arith}
use lib.ListN.{length, get_or, get_or-append}
use lib.Seq.{get_or-append-add}
use Rattle.counting.specs.Lists.{over, gather}
use Rattle.counting.proofs.Fronts.{over_shift}
use Rattle.counting.proofs.Lists.{values_ext, gather_over}
use Rattle.counting.proofs.Range.{over_ext}
use Rattle.grid.specs.Grid.{Grid, cell_count}
use Rattle.grid.specs.claims.Accepted.{Sound}
use Rattle.cell.specs.declared.Triangle.{Triangle}
use Rattle.cell.specs.Renaming.{Renaming}
use Rattle.cell.specs.claims.Renaming.{RenamedCell}
use Rattle.cell.specs.Words.{word_count, words, all_words}
use Rattle.cell.proofs.Storing.{length_words}
use Rattle.split.specs.Parts.{drawn_triangles}
use Rattle.mesh.specs.Mesh.{grid_cell, mesh_triangles}
use Rattle.layers.specs.Runs.{keep_inner, run_grid, run_triangles, run_renamed}
use Rattle.layers.specs.claims.Words.{renamed_words}
use Rattle.layers.specs.claims.Claims.{RunWithin}
use Rattle.layers.specs.work.Work.{word_over, word_before, triangle_over, triangles_over}
use Rattle.layers.proofs.Runs.{run-count}
use Rattle.layers.proofs.Joined.{runs_renamed, words_over}

-- word by word as `renamed_words` says
triangle-over : (r : Renaming) (l : List ℕ) → triangle_over r l 0 ≡ renamed_words r l
unfolding over word_over renamed_words
triangle-over r l = refl

-- wherever the words stand
pub over_there : (r : Renaming) (area l : List ℕ) (at i : ℕ) → ((j : ℕ) → j < word_count → get_or area (at + j) 0 ≡ get_or l (i + j) 0) → triangle_over r area at ≡ triangle_over r l i
over_there r area l at i h =
    values_ext (λ j. word_over r j (word_before area at j) (get_or area (at + j) 0)) (λ j. word_over r j (word_before l i j) (get_or l (i + j) 0)) word_count
    (λ j k. ap₂ (word_over r j) (before j k) (h j k))
  where
    before : (j : ℕ) → j < word_count → word_before area at j ≡ word_before l i j
    before zero k = refl
    before (suc j) k = h j (omega arith)

-- all triangles of a list, whose words stand in the area from the place `at` on
module _ (r : Renaming) (area : List ℕ) where
  abbrev put : Triangle → List ℕ
  put t = renamed_words r (words t)

  abbrev one : ℕ → List ℕ
  one at = triangle_over r area at

  first_over : (at : ℕ) (t : Triangle) → ((j : ℕ) → j < word_count → get_or area (at + j) 0 ≡ get_or (words t) j 0) → one at ≡ put t
  first_over at t h =
      over_there r area (words t) at 0 (λ j k. h j k ∙ ap (λ i. get_or (words t) i 0) (sym (zero-add j))) ∙ triangle-over r (words t)

  pub list_over : (l : List Triangle) (at : ℕ) → ((j : ℕ) → j < word_count * length l → get_or area (at + j) 0 ≡ get_or (all_words l) j 0)
      → triangles_over r area at (length l) ≡ gather put l
  unfolding triangles_over over gather
  list_over [] at h = refl
  list_over (t ∷ l) at h =
      let z : at + word_count * 0 ≡ at = omega arith in
      ap₂ (λ x y. x ++ y)
      (ap one z ∙ first_over at t (λ j k. h j (omega arith) ∙ get_or-append (words t) (all_words l) 0 j (omega (arith, length_words t))))
      (sym (over_shift (λ k. one (at + word_count * k)) 1 (length l) 0)
      ∙ over_ext (λ k. one (at + word_count * (1 + k))) (λ k. one (at + word_count + word_count * k)) (length l) 0
      (λ k a b. let e : at + word_count * (1 + k) ≡ at + word_count + word_count * k = omega arith in ap one e)
      ∙ list_over l (at + word_count) (λ j k.
      let e : at + word_count + j ≡ at + (word_count + j) = omega arith in
      let f : word_count + j ≡ length (words t) + j = omega (arith, length_words t) in
      ap (λ i. get_or area i 0) e ∙ h (word_count + j) (omega arith) ∙ ap (λ i. get_or (words t ++ all_words l) i 0) f ∙ get_or-append-add (words t) (all_words l) j 0))

-- so the mesh of a run becomes that of its cells in the whole, under any names that lead from the run's cells to those
pub run_over : (G : Grid) (from size : ℕ) (S : Sound G) (N : RunWithin G from size) (r : Renaming)
    → ((c : ℕ) → c < size → RenamedCell r (grid_cell (run_grid G from size) c) (grid_cell G (from + c)))
    → gather (λ t. renamed_words (keep_inner r) (words t)) (run_triangles G from size) ≡ all_words (run_renamed G from size)
unfolding run_triangles mesh_triangles
run_over G from size S N r same =
    let RG = run_grid G from size in
    let put : Triangle → List ℕ = λ t. renamed_words (keep_inner r) (words t) in
    gather_over (λ (t : Triangle). renamed_words (keep_inner r) (words t)) (λ c. drawn_triangles (grid_cell RG c)) (cell_count RG.cells) 0
    ∙ ap (λ n. over (λ c. gather put (drawn_triangles (grid_cell RG c))) n 0) (run-count G from size S N)
    ∙ over_ext (λ c. gather put (drawn_triangles (grid_cell RG c))) (λ c. all_words (drawn_triangles (grid_cell G (from + c)))) size 0
    (λ c a b. words_over G from size S N r c (omega arith) (same c (omega arith)))
    ∙ over_shift (λ c. all_words (drawn_triangles (grid_cell G c))) from size 0
    ∙ (let z : from + 0 ≡ from = omega arith in ap (over (λ c. all_words (drawn_triangles (grid_cell G c))) size) z)
    ∙ sym (gather_over words (λ c. drawn_triangles (grid_cell G c)) size from)
    ∙ ap all_words (sym (runs_renamed G from size S N))
