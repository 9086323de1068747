-- The tables of a run give its cells.
use Prim.Native.Nat.{ℕ, ◌+◌, ◌*◌, ◌%◌, ◌<◌}
use mathlib.Core.Path.{◌≡◌, sym, ap, ap₂, ◌∙◌}
use mathlib.Core.List.{List}
use native.Mathlib.Omega.{arith}
use lib.ListN.{length, get_or}
use Rattle.counting.specs.Lists.{values}
use Rattle.counting.proofs.Lists.{values_ext}
use Rattle.counting.proofs.Pack.{pre_le}
use Rattle.cell.specs.claims.Table.{short_limit, side, table_counts, table_starts, of_four, table_cell}
use Rattle.grid.specs.Grid.{Grid, face_name, edge_number, count_of, start}
use Rattle.slots.specs.Limits.{most_cells}
use Rattle.grid.specs.claims.Accepted.{Sound}
use Rattle.mesh.specs.Mesh.{grid_cell}
use Rattle.layers.specs.Runs.{run_cells, run_counts, run_grid}
use Rattle.layers.specs.claims.Claims.{RunWithin}
use Rattle.layers.specs.claims.Tables.{RunTabled, RunsTabled}
use Rattle.layers.proofs.Runs.{run-sound, number_lt}
use Rattle.layers.proofs.Own.{runs_own}

module _ (G : Grid) (from size : ℕ) (names sides starts : List ℕ) (S : Sound G) (N : RunWithin G from size) (T : RunTabled G from size names sides starts) (c : ℕ) (l : c < size) where
  abbrev RG : Grid
  RG = run_grid G from size

  count_is : (k : ℕ) → k < 6 → get_or G.counts (side sides c k) 0 ≡ count_of (run_counts G from size) (edge_number RG c k)
  count_is k lk = ap (count_of G.counts) (T.side c k l lk) ∙ sym ((runs_own G from size S N).count c k l lk)

  start_is : (k : ℕ) → k < 6 → get_or starts (side sides c k) 0 % short_limit ≡ start (run_counts G from size) (edge_number RG c k)
  unfolding start
  start_is k lk =
      let q : get_or starts (side sides c k) 0 ≡ start (run_counts G from size) (edge_number RG c k) =
      ap (λ e. get_or starts e 0) (T.side c k l lk) ∙ T.first c k l lk ∙ sym ((runs_own G from size S N).first c k l lk) in
      omega (
        arith,
        q,
        pre_le (count_of (run_counts G from size)) 0 (edge_number RG c k) (length (run_counts G from size)) (number_lt G from size S N c k l lk),
        (run-sound G from size S N).few_crossings,
      )

  name_is : (s : ℕ) → s < 4 → get_or names (4 * c + s) 0 ≡ face_name (run_cells G from size) c s
  name_is s ls = T.name c s l ls ∙ sym ((runs_own G from size S N).name c s l ls)

  cell_is : table_cell (run_cells G from size) G.counts names sides starts c ≡ grid_cell RG c
  unfolding table_cell grid_cell
  cell_is =
      let m : c % most_cells ≡ c = omega (arith, S.few_cells, N.within) in
      let a : table_counts G.counts sides c ≡ values (λ k. count_of (run_counts G from size) (edge_number RG c k)) 6 =
      values_ext (λ k. get_or G.counts (side sides c k) 0) (λ k. count_of (run_counts G from size) (edge_number RG c k)) 6 count_is in
      let b : table_starts starts sides c ≡ values (λ k. start (run_counts G from size) (edge_number RG c k)) 6 =
      values_ext (λ k. get_or starts (side sides c k) 0 % short_limit) (λ k. start (run_counts G from size) (edge_number RG c k)) 6 start_is in
      let d : of_four names c ≡ values (face_name (run_cells G from size) c) 4 = values_ext (λ s. get_or names (4 * c + s) 0) (face_name (run_cells G from size) c) 4 name_is in
      rw m (ap₂ (λ x y. record { counts = x; starts = y; names = of_four names c; nodes = of_four (run_cells G from size) c; index = c }) a b
      ∙ ap (λ z. record {
        counts = values (λ k. count_of (run_counts G from size) (edge_number RG c k)) 6;
        starts = values (λ k. start (run_counts G from size) (edge_number RG c k)) 6;
        names = z;
        nodes = of_four (run_cells G from size) c;
        index = c;
      }) d)

pub runs_tabled : RunsTabled
runs_tabled G from size names sides starts S N T c l = cell_is G from size names sides starts S N T c l
