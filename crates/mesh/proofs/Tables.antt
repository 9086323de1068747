-- The tables of an accepted grid give its cells.
use Prim.Native.Nat.{ℕ, ◌+◌, ◌*◌, ◌/◌, ◌%◌, ◌<◌}
use mathlib.Core.Path.{◌≡◌, ap, ap₂, ◌∙◌}
use mathlib.Core.Bool.{true}
use mathlib.Core.List.{List}
use native.Mathlib.Omega.{arith}
use lib.ListN.{length, get_or}
use Rattle.counting.specs.Pick.{pick}
use Rattle.counting.specs.Lists.{values}
use Rattle.counting.specs.Stored.{filled}
use Rattle.counting.proofs.Lists.{values_ext}
use Rattle.counting.proofs.Stored.{filled_at}
use Rattle.counting.proofs.Range.{total_ext, over_ext}
use Rattle.counting.proofs.Pack.{pre_le}
use Rattle.cell.specs.claims.Table.{short_limit, table_counts, table_starts, of_four, side, drawn_cells, table_cell}
use Rattle.grid.specs.Grid.{Grid, cell_count, face_name, edge_number, count_of, start}
use Rattle.slots.specs.Limits.{most_cells, most_slots}
use Rattle.slots.specs.work.Limits.{most_edges}
use Rattle.grid.specs.claims.Accepted.{Sound}
use Rattle.grid.proofs.Sound.{edge_numbers}
use Rattle.grid.specs.Rows.{accepts}
use Rattle.grid.specs.work.Tables.{Laid, name_at, side_at}
use Rattle.split.specs.Parts.{drawn_triangles, splits_of}
use Rattle.split.specs.work.Table.{table_drawn, table_splits}
use Rattle.mesh.specs.Mesh.{grid_cell, mesh_triangles, mesh_splits}
use Rattle.mesh.specs.Asked.{asked_loop}
use Rattle.mesh.specs.work.Drawn.{table_loop}
use Rattle.mesh.proofs.Askings.{asked_ext}

-- the tables of an accepted grid, in arrays that are long enough
pub record Tabled (G : Grid) (names sides : List ℕ) : Type 0 where
  pub sound : Sound G
  pub name : (j : ℕ) → j < 4 * cell_count G.cells → get_or names j 0 ≡ name_at G.cells j
  pub edge : (j : ℕ) → j < 6 * cell_count G.cells → get_or sides j 0 ≡ side_at G j

module _ {G : Grid} {names sides : List ℕ} (T : Tabled G names sides) where
  side_is : (c k : ℕ) → c < cell_count G.cells → k < 6 → side sides c k ≡ edge_number G c k
  side_is c k lc lk =
      let a : (6 * c + k) / 6 ≡ c = omega arith in
      let b : (6 * c + k) % 6 ≡ k = omega arith in
      T.edge (6 * c + k) (omega arith) ∙ ap₂ (edge_number G) a b

  name_is : (c s : ℕ) → c < cell_count G.cells → s < 4 → get_or names (4 * c + s) 0 ≡ face_name G.cells c s
  name_is c s lc ls =
      let a : (4 * c + s) / 4 ≡ c = omega arith in
      let b : (4 * c + s) % 4 ≡ s = omega arith in
      T.name (4 * c + s) (omega arith) ∙ ap₂ (face_name G.cells) a b

  side_lt : (c k : ℕ) → c < cell_count G.cells → k < 6 → side sides c k < length G.counts
  side_lt c k lc lk = rw (side_is c k lc lk) ((edge_numbers G T.sound).listed c k lc lk)

  start_is : (c k : ℕ) → c < cell_count G.cells → k < 6 → get_or G.starts (side sides c k) 0 % short_limit ≡ start G.counts (edge_number G c k)
  unfolding start
  start_is c k lc lk =
      let e = edge_number G c k in
      let l : e < length G.counts = (edge_numbers G T.sound).listed c k lc lk in
      let q : get_or G.starts (side sides c k) 0 ≡ start G.counts e = T.sound.starts_are (side sides c k) (side_lt c k lc lk) ∙ ap (start G.counts) (side_is c k lc lk) in
      omega (arith, q, pre_le (count_of G.counts) 0 e (length G.counts) l, T.sound.few_crossings)

  pub cell_is : (c : ℕ) → c < cell_count G.cells → table_cell G.cells G.counts names sides G.starts c ≡ grid_cell G c
  unfolding table_cell grid_cell
  cell_is c lc =
      let m : c % most_cells ≡ c = omega (arith, T.sound.few_cells) in
      let a : table_counts G.counts sides c ≡ values (λ k. count_of G.counts (edge_number G c k)) 6 =
      values_ext (λ k. get_or G.counts (side sides c k) 0) (λ k. count_of G.counts (edge_number G c k)) 6 (λ k l. ap (count_of G.counts) (side_is c k lc l)) in
      let b : table_starts G.starts sides c ≡ values (λ k. start G.counts (edge_number G c k)) 6 =
      values_ext (λ k. get_or G.starts (side sides c k) 0 % short_limit) (λ k. start G.counts (edge_number G c k)) 6 (λ k l. start_is c k lc l) in
      let d : of_four names c ≡ values (face_name G.cells c) 4 = values_ext (λ s. get_or names (4 * c + s) 0) (face_name G.cells c) 4 (λ s l. name_is c s lc l) in
      rw m (ap₂ (λ x y. record { counts = x; starts = y; names = of_four names c; nodes = of_four G.cells c; index = c }) a b
      ∙ ap (λ z. record {
        counts = values (λ k. count_of G.counts (edge_number G c k)) 6;
        starts = values (λ k. start G.counts (edge_number G c k)) 6;
        names = z;
        nodes = of_four G.cells c;
        index = c;
      }) d)

  all_drawn : drawn_cells G.cells ≡ cell_count G.cells
  all_drawn = omega (arith, T.sound.few_cells)

  pub triangles_are : table_drawn G.cells G.counts names sides G.starts ≡ mesh_triangles G
  unfolding table_drawn mesh_triangles
  triangles_are =
      rw all_drawn
      (over_ext (λ c. drawn_triangles (table_cell G.cells G.counts names sides G.starts c)) (λ c. drawn_triangles (grid_cell G c)) (cell_count G.cells) 0
      (λ c a b. ap drawn_triangles (cell_is c (omega arith))))

  pub splits_are : table_splits G.cells G.counts names sides G.starts ≡ mesh_splits G
  unfolding table_splits mesh_splits
  splits_are =
      rw all_drawn
      (total_ext (λ c. splits_of (table_cell G.cells G.counts names sides G.starts c)) (λ c. splits_of (grid_cell G c)) (cell_count G.cells) 0
      (λ c a b. ap splits_of (cell_is c (omega arith))))

  pub loop_is : (c k : ℕ) → table_loop G.cells G.counts names sides G.starts c k ≡ asked_loop (grid_cell G) (cell_count G.cells) c k
  unfolding table_loop
  loop_is c k = asked_ext (table_cell G.cells G.counts names sides G.starts) (grid_cell G) (cell_count G.cells) c k (cell_is c)

-- what `lay` leaves where the grid is accepted
pub tabled : (G : Grid) (names₀ sides₀ names sides : List ℕ) → Sound G → accepts G ≡ true
    → length names₀ ≡ most_slots → length sides₀ ≡ most_edges → Laid G names₀ sides₀ names sides → Tabled G names sides
tabled G names₀ sides₀ names sides S e ln ls o = record {
  sound = S;
  name = λ j h. ap (λ l. get_or l j 0) (taken (filled (name_at G.cells) (4 * cell_count G.cells) names₀) names₀ names o.names_are) ∙ filled_at (name_at G.cells) (4 * cell_count G.cells) names₀ 0 (omega (arith, S.few_cells)) j h;
  edge = λ j h. ap (λ l. get_or l j 0) (taken (filled (side_at G) (6 * cell_count G.cells) sides₀) sides₀ sides o.sides_are) ∙ filled_at (side_at G) (6 * cell_count G.cells) sides₀ 0 (omega (arith, S.few_cells)) j h;
}
  where
    taken : (x y l : List ℕ) → l ≡ pick (accepts G) x y → l ≡ x
    taken x y l q = q ∙ ap (λ b. pick b x y) e
