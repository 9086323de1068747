-- The tables that the code makes of a run are the run's.
use Prim.Native.Nat.{ℕ, ◌+◌, ◌-◌, ◌*◌, ◌/◌, ◌%◌, ◌≤◌, ◌<◌}
use mathlib.Core.Path.{◌≡◌, sym, ap, ap₂, ◌∙◌, subst}
use mathlib.Core.Bool.{true}
use mathlib.Core.List.{List}
use native.Mathlib.Omega.{arith}
use native.Mathlib.Decide.{dec_lt}
use lib.Dec.{eqb, leb}
use lib.ListN.{length, get_or, take, drop, replicate, length-replicate, get_or-replicate, get_or-eq_default}
use borrow.Author.Tests.{eq-eqb, eqb-true}
use Rattle.counting.specs.Pick.{pick}
use Rattle.counting.specs.Search.{some}
use Rattle.counting.specs.Lists.{pre}
use Rattle.counting.proofs.Bools.{bool_same}
use Rattle.counting.proofs.Search.{some_ext, some_blocks, some_found}
use Rattle.counting.proofs.Range.{total_ext, over_ext}
use Rattle.counting.proofs.Pack.{pre_le}
use Rattle.cell.specs.declared.Cell.{Cell}
use Rattle.cell.specs.Of as of
use Rattle.cell.specs.Words.{all_words}
use Rattle.counting.specs.Stored.{stored_in}
use Rattle.cell.specs.claims.Renaming.{RenamedCell}
use Rattle.cell.specs.claims.Table.{table_cell, drawn_cells}
use Rattle.grid.specs.Grid.{Grid, cell_count, face_name, edge_number, is_edge, has_edge, count_of, start}
use Rattle.slots.specs.Limits.{most_cells, most_slots}
use Rattle.grid.specs.claims.Accepted.{EdgeNumbers}
use Rattle.grid.proofs.Names.{name_lt}
use Rattle.grid.proofs.Sound.{edge_true, true_edge, edge_numbers}
use Rattle.split.specs.Parts.{drawn_triangles, splits_of}
use Rattle.split.specs.work.Table.{most_drawn, table_drawn, table_splits}
use Rattle.mesh.specs.Mesh.{grid_cell, mesh_triangles, mesh_splits}
use Rattle.mesh.proofs.Tables.{Tabled}
use Rattle.mesh.proofs.Complex.{start-of, name_of}
use Rattle.layers.specs.Runs.{in_run, run_cells, run_counts, run_grid, crossing_in_whole, face_in_whole, into_whole, run_triangles}
use Rattle.layers.specs.claims.Claims.{own_start, own_name, RunWithin}
use Rattle.layers.specs.claims.Tables.{RunTabled}
use Rattle.layers.specs.work.Work.{side_from, used_by, Layable, RunLaid, own_at, side_count, most_numbers, Leading, CrossingsNumbered, table_names, Tables, RunOf, RunDrawn}
use Rattle.layers.proofs.Runs.{run-count, run-sound, crossing-at, number_lt, number_at}
use Rattle.layers.proofs.Own.{runs_own}
use Rattle.layers.proofs.RunTables.{runs_tabled}
use Rattle.layers.proofs.Joined.{cell_at, count_le}

-- no mark is set yet
pub zero_below : (n e : ℕ) → get_or (replicate n 0) e 0 < 1
zero_below n e =
    elim (dec_lt e n) [
      | yes h ↦ omega (arith, get_or-replicate {A = ℕ} n e 0 0 h)
      | no h ↦ (let z : ◌≡◌ {A = ℕ} (get_or (replicate n 0) e 0) 0 = get_or-eq_default {A = ℕ} (replicate n 0) 0 (omega (arith, length-replicate {A = ℕ} n 0)) in omega (arith, z))
    ]

module _ {G : Grid} {names sides : List ℕ} (T : Tables G names sides) where
  pub tabled : Tabled G names sides
  tabled = record { sound = T.sound; name = T.name; edge = T.edge }

  abbrev E : EdgeNumbers G
  E = edge_numbers G T.sound

  module _ (from size : ℕ) (N : RunWithin G from size) where
    abbrev RG : Grid
    RG = run_grid G from size

    abbrev rn : List ℕ
    rn = run_counts G from size

    side_there : (c k : ℕ) → c < size → k < 6 → side_from sides from (6 * c + k) ≡ edge_number G (from + c) k
    side_there c k l lk =
        let a : (6 * from + (6 * c + k)) / 6 ≡ from + c = omega arith in
        let b : (6 * from + (6 * c + k)) % 6 ≡ k = omega arith in
        T.edge (6 * from + (6 * c + k)) (omega (arith, N.within)) ∙ ap₂ (edge_number G) a b

    name_there : (c s : ℕ) → c < size → s < 4 → get_or names (4 * from + (4 * c + s)) 0 ≡ face_name G.cells (from + c) s
    name_there c s l ls =
        let a : (4 * from + (4 * c + s)) / 4 ≡ from + c = omega arith in
        let b : (4 * from + (4 * c + s)) % 4 ≡ s = omega arith in
        T.name (4 * from + (4 * c + s)) (omega (arith, N.within)) ∙ ap₂ (face_name G.cells) a b

    -- an edge is used by the run exactly if a cell of the run has it
    has-edge : (d i e : ℕ) → d < size → i < 6 → e < length G.counts → eqb (side_from sides from (6 * d + i)) e ≡ is_edge G (from + d) i e
    has-edge d i e l li le =
        let E' = edge_number G (from + d) i in
        let lw : from + d < cell_count G.cells = omega (arith, N.within) in
        ap (λ n. eqb n e) (side_there d i l li)
        ∙ bool_same (eqb (edge_number G (from + d) i) e) (is_edge G (from + d) i e)
        (λ q. subst (λ x. is_edge G (from + d) i x ≡ true) (eqb-true (edge_number G (from + d) i) e q) (true_edge G (from + d) i (edge_number G (from + d) i) (E.is (from + d) i lw li)))
        (λ q. eq-eqb (edge_number G (from + d) i) e (E.only (from + d) i e lw li le (edge_true G (from + d) i e q)))

    used_is : (e : ℕ) → e < length G.counts → used_by sides from (6 * size) e ≡ in_run G from size e
    unfolding used_by in_run has_edge
    used_is e le =
        some_blocks (λ j. eqb (side_from sides from j) e) 6 size
        ∙ some_ext (λ d. some (λ i. eqb (side_from sides from (6 * d + i)) e) 6) (λ d. some (λ i. is_edge G (from + d) i e) 6) size
        (λ d l. some_ext (λ i. eqb (side_from sides from (6 * d + i)) e) (λ i. is_edge G (from + d) i e) 6 (λ i li. has-edge d i e l li le))

    -- so the edges of its cells are used
    found : (c k : ℕ) → c < size → k < 6 → used_by sides from (6 * size) (edge_number G (from + c) k) ≡ true
    unfolding used_by
    found c k l lk =
        some_found (λ j. eqb (side_from sides from j) (edge_number G (from + c) k)) (6 * size) (6 * c + k) (omega arith)
        (eq-eqb (side_from sides from (6 * c + k)) (edge_number G (from + c) k) (side_there c k l lk))

    pub few_edges : length G.counts ≤ 6 * most_cells
    few_edges = omega (arith, E.few, T.sound.few_cells)

    pub layable : (used : List ℕ) (m : ℕ) → ((e : ℕ) → get_or used e 0 < m) → Layable G.counts sides used from size m
    layable used m below = record {
      few = omega (arith, N.within, T.sound.few_cells);
      few_edges = few_edges;
      edge = λ j l. omega (arith, few_edges, T.edge (6 * from + j) (omega (arith, N.within)), E.listed ((6 * from + j) / 6) ((6 * from + j) % 6) (omega (arith, N.within)) (omega arith));
      below = below;
    }

    module _ {m : ℕ} {names' sides' starts' used : List ℕ} (L : RunLaid G.counts names sides from size m names' sides' starts' used) where
      run_tabled : RunTabled G from size names' sides' starts'
      unfolding own_name own_start pre
      run_tabled = record {
        name = λ c s l ls. L.copied.name (4 * c + s) (omega arith) ∙ ap (λ n. pick (leb (4 * from) n) (n - 4 * from) (4 * c + s)) (name_there c s l ls);
        side = λ c k l lk. L.copied.side (6 * c + k) (omega arith) ∙ side_there c k l lk;
        first = λ c k l lk.
            let e = edge_number G (from + c) k in
            let le = E.listed (from + c) k (omega (arith, N.within)) lk in
            L.started.first e le (found c k l lk)
            ∙ total_ext (λ d. pick (used_by sides from (6 * size) d) (get_or G.counts d 0) 0) (λ d. pick (in_run G from size d) (get_or G.counts d 0) 0) e 0
            (λ d a b. ap (λ u. pick u (get_or G.counts d 0) 0) (used_is d (omega (arith, le))));
      }

      cell_there : (c : ℕ) → c < size → table_cell (run_cells G from size) G.counts names' sides' starts' c ≡ grid_cell (run_grid G from size) c
      cell_there c l = runs_tabled G from size names' sides' starts' T.sound N run_tabled c l

      all_drawn : drawn_cells (run_cells G from size) ≡ cell_count (run_cells G from size)
      all_drawn = omega (arith, run-count G from size T.sound N, N.within, T.sound.few_cells)

      pub run-triangles : table_drawn (run_cells G from size) G.counts names' sides' starts' ≡ run_triangles G from size
      unfolding table_drawn run_triangles mesh_triangles
      run-triangles =
          rw all_drawn
          (over_ext (λ c. drawn_triangles (table_cell (run_cells G from size) G.counts names' sides' starts' c)) (λ c. drawn_triangles (grid_cell (run_grid G from size) c)) (cell_count (run_cells G from size)) 0
          (λ c a b. ap drawn_triangles (cell_there c (omega (arith, run-count G from size T.sound N)))))

      pub run-splits : table_splits (run_cells G from size) G.counts names' sides' starts' ≡ mesh_splits (run_grid G from size)
      unfolding table_splits mesh_splits
      run-splits =
          rw all_drawn
          (total_ext (λ c. splits_of (table_cell (run_cells G from size) G.counts names' sides' starts' c)) (λ c. splits_of (grid_cell (run_grid G from size) c)) (cell_count (run_cells G from size)) 0
          (λ c a b. ap splits_of (cell_there c (omega (arith, run-count G from size T.sound N)))))

      -- the run's first number on its side j, which is edge k of its cell c
      own_there : (c k : ℕ) → c < size → k < 6 → own_at sides from starts' (6 * c + k) ≡ start rn (edge_number RG c k)
      own_there c k l lk =
          ap (λ e. get_or starts' e 0) (side_there c k l lk) ∙ run_tabled.first c k l lk ∙ sym ((runs_own G from size T.sound N).first c k l lk)

      count_there : (c k : ℕ) → c < size → k < 6 → side_count G.counts sides from (6 * c + k) ≡ count_of rn (edge_number RG c k)
      count_there c k l lk = ap (count_of G.counts) (side_there c k l lk) ∙ sym ((runs_own G from size T.sound N).count c k l lk)

      -- the whole's number of a crossing of that side
      leads : (c k i : ℕ) → c < size → k < 6 → i < side_count G.counts sides from (6 * c + k)
          → crossing_in_whole G from size (own_at sides from starts' (6 * c + k) + i) ≡ get_or G.starts (side_from sides from (6 * c + k)) 0 + i
      leads c k i l lk h =
          let e = edge_number RG c k in
          ap (λ n. crossing_in_whole G from size (n + i)) (own_there c k l lk)
          ∙ crossing-at G from size (edge_number RG c k) i (number_lt G from size T.sound N c k l lk) (omega (arith, count_there c k l lk))
          ∙ ap (λ d. start G.counts d + i) (number_at G from size T.sound N c k l lk ∙ sym (side_there c k l lk))
          ∙ ap (λ n. n + i) (sym (T.sound.starts_are (side_from sides from (6 * c + k)) (omega (arith, side_there c k l lk, E.listed (from + c) k (omega (arith, N.within)) lk))))

      below : (c k : ℕ) → c < size → k < 6 → own_at sides from starts' (6 * c + k) + side_count G.counts sides from (6 * c + k) ≤ most_numbers
      unfolding start
      below c k l lk =
          omega (arith, own_there c k l lk, count_there c k l lk, pre_le (count_of rn) 0 (edge_number RG c k) (length rn) (number_lt G from size T.sound N c k l lk), (run-sound G from size T.sound N).few_crossings)

      small : (c k : ℕ) → c < size → k < 6 → get_or G.starts (side_from sides from (6 * c + k)) 0 + side_count G.counts sides from (6 * c + k) ≤ most_numbers
      unfolding start
      small c k l lk =
          let e = side_from sides from (6 * c + k) in
          let le : side_from sides from (6 * c + k) < length G.counts = omega (arith, side_there c k l lk, E.listed (from + c) k (omega (arith, N.within)) lk) in
          omega (arith, T.sound.starts_are e le, pre_le (count_of G.counts) 0 e (length G.counts) le, T.sound.few_crossings)

      -- a fact of every side
      each : (P : ℕ → Type 0) → ((c k : ℕ) → c < size → k < 6 → P (6 * c + k)) → (j : ℕ) → j < 6 * size → P j
      each P f j h =
          let e : 6 * (j / 6) + j % 6 ≡ j = omega arith in
          subst P e (f (j / 6) (j % 6) (omega arith) (omega arith))

      pub leading : Leading (crossing_in_whole G from size) G.counts G.starts sides from (6 * size) starts'
      leading = record {
        few = omega (arith, N.within, T.sound.few_cells);
        edge = λ j l. omega (arith, T.edge (6 * from + j) (omega (arith, N.within)), E.listed ((6 * from + j) / 6) ((6 * from + j) % 6) (omega (arith, N.within)) (omega arith));
        few_counts = few_edges;
        starts_long = T.sound.starts_long;
        leads = λ j i h. each
            (λ j. i < side_count G.counts sides from j → crossing_in_whole G from size (own_at sides from starts' j + i) ≡ get_or G.starts (side_from sides from j) 0 + i)
            (λ c k l lk. leads c k i l lk) j h;
        below = each (λ j. own_at sides from starts' j + side_count G.counts sides from j ≤ most_numbers) below;
        small = each (λ j. get_or G.starts (side_from sides from j) 0 + side_count G.counts sides from j ≤ most_numbers) small;
      }

      -- the names that the tables have lead from the run's cells to those of the whole
      module _ (table : List ℕ) (O : CrossingsNumbered (crossing_in_whole G from size) G.counts sides from (6 * size) starts' table) (c : ℕ) (l : c < size) where
        abbrev a : Cell
        a = grid_cell RG c

        abbrev b : Cell
        b = grid_cell G (from + c)

        abbrev H : RenamedCell (into_whole G from size) (grid_cell RG c) (grid_cell G (from + c))
        H = cell_at G from size T.sound N c l

        lc : c < cell_count RG.cells
        lc = omega (arith, run-count G from size T.sound N)

        face_is : (f : ℕ) → f < 4 * size → get_or names ((4 * from + f) % most_slots) 0 ≡ face_in_whole G from size f
        unfolding face_in_whole
        face_is f h =
            let m : (4 * from + f) % most_slots ≡ 4 * from + f = omega (arith, N.within, T.sound.few_cells) in
            let x : (4 * from + f) / 4 ≡ from + f / 4 = omega arith in
            let y : (4 * from + f) % 4 ≡ f % 4 = omega arith in
            ap (λ j. get_or names j 0) m ∙ T.name (4 * from + f) (omega (arith, N.within)) ∙ ap₂ (face_name G.cells) x y

        crossing_is : (k i : ℕ) → k < 6 → i < of.count_of (grid_cell RG c) k → get_or table (of.start_of (grid_cell RG c) k + i) 0 ≡ crossing_in_whole G from size (of.start_of (grid_cell RG c) k + i)
        crossing_is k i lk h =
            let s : own_at sides from starts' (6 * c + k) ≡ of.start_of (grid_cell RG c) k = own_there c k l lk ∙ sym (start-of RG c k lk) in
            ap (λ n. get_or table (n + i) 0) (sym s)
            ∙ O.number (6 * c + k) i (omega arith) (omega (arith, count_there c k l lk, count_le RG (run-sound G from size T.sound N) c lc k i lk h))
            ∙ ap (λ n. crossing_in_whole G from size (n + i)) s

        goes : (k i : ℕ) → k < 6 → i < of.count_of (grid_cell RG c) k → get_or table (of.start_of (grid_cell RG c) k + i) 0 ≡ of.start_of (grid_cell G (from + c)) k + i
        unfolding into_whole
        goes k i lk h = crossing_is k i lk h ∙ H.starts k i lk h

        pub table_renamed : RenamedCell (table_names names table from) (grid_cell RG c) (grid_cell G (from + c))
        unfolding into_whole grid_cell
        table_renamed = record {
          counts = H.counts;
          index = omega (arith, N.within, T.sound.few_cells);
          names = λ s ls. face_is (get_or (grid_cell RG c).names s 0) (omega (arith, name_of RG c s ls, name_lt RG.cells c s lc ls, run-count G from size T.sound N)) ∙ H.names s ls;
          starts = goes;
          order = λ j k s t lj lk hs ht h.
              omega (arith, goes j s lj hs, goes k t lk ht, H.order j k s t lj lk hs ht h, H.starts j s lj hs, H.starts k t lk ht);
        }

-- the run's cells as the part of the list that is lent
pub cells-part : (cells : List ℕ) (from size : ℕ) → take (4 * from + 4 * size - 4 * from) (drop (4 * from) cells) ≡ take (4 * size) (drop (4 * from) cells)
cells-part cells from size = let e : 4 * from + 4 * size - 4 * from ≡ 4 * size = omega arith in ap (λ m. take m (drop (4 * from) cells)) e

-- what is drawn from the tables that were made is the run
module _ {G : Grid} {names sides : List ℕ} {from size : ℕ} (R : RunOf G names sides from size) {m : ℕ} {names' sides' starts' used : List ℕ}
    (L : RunLaid G.counts names sides from size m names' sides' starts' used) where
  abbrev part : List ℕ
  part = take (4 * from + 4 * size - 4 * from) (drop (4 * from) G.cells)

  pub part-triangles : table_drawn part G.counts names' sides' starts' ≡ run_triangles G from size
  part-triangles = ap (λ cells. table_drawn cells G.counts names' sides' starts') (cells-part G.cells from size) ∙ run-triangles R.tables from size R.run L

  part_splits : table_splits part G.counts names' sides' starts' ≡ mesh_splits (run_grid G from size)
  part_splits = ap (λ cells. table_splits cells G.counts names' sides' starts') (cells-part G.cells from size) ∙ run-splits R.tables from size R.run L

  pub run_drawn : {before after : List ℕ} {t s : ℕ} → t ≡ length (table_drawn part G.counts names' sides' starts') → s ≡ table_splits part G.counts names' sides' starts' → t ≤ most_drawn
      → after ≡ stored_in before 0 (all_words (table_drawn part G.counts names' sides' starts')) → RunDrawn G from size before after t s
  run_drawn {before} {after} {t} {s} a b f d = record {
    triangles_are = a ∙ ap length part-triangles;
    splits_are = b ∙ part_splits;
    few = f;
    area = d ∙ ap (λ l. stored_in before 0 (all_words l)) part-triangles;
  }
