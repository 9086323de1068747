-- The cells of a run are those of the whole with other names; the runs' meshes joined are the mesh made undivided.
use Prim.Native.Nat.{ℕ, zero, suc, ◌+◌, ◌-◌, ◌≤◌, ◌<◌, min}
use mathlib.Core.Path.{◌≡◌, refl, sym, ap, ap₂, ◌∙◌}
use mathlib.Core.Logic.{◌≢◌, ⊎_elim}
use mathlib.Core.Bool.{Bool, true, false, not, ◌&&◌}
use mathlib.Core.List.{List, [], ◌∷◌, ◌++◌, map}
use native.Mathlib.Omega.{arith}
use lib.Dec.{ltb}
use lib.ListN.{length, get_or, get_or-append}
use lib.Seq.{get_or-append_seam}
use borrow.Author.Tests.{le-ltb, lt-ltb, ltb-true, not-false}
use Rattle.answer.specs.Rows.{Row, whole, or_refuse, Clear}
use Rattle.answer.specs.Answer.{is_result}
use Rattle.counting.specs.Pick.{pick}
use Rattle.counting.specs.Search.{some}
use Rattle.counting.specs.Lists.{total, over, gather}
use Rattle.counting.specs.Stored.{stored_in}
use Rattle.counting.specs.claims.Lists.{All}
use Rattle.counting.proofs.Bools.{or_none}
use Rattle.counting.proofs.Fronts.{over_shift, over_parts}
use Rattle.counting.proofs.Lists.{all_at, map_over, values_at, values_ext}
use Rattle.counting.proofs.Pack.{pack_lt}
use Rattle.counting.proofs.Range.{total_ext, over_ext, total_from, total_parts}
use Rattle.counting.proofs.Search.{below-or, none_first, none_some}
use Rattle.cell.specs.declared.Cell.{Cell}
use Rattle.cell.specs.declared.Triangle.{Triangle}
use Rattle.cell.specs.Of as of
use Rattle.cell.specs.Words.{words, all_words}
use Rattle.cell.specs.Renaming.{Renaming, renamed}
use Rattle.cell.specs.claims.Renaming.{RenamedCell}
use Rattle.slots.specs.Limits.{most_count}
use Rattle.booking.specs.Figures.{splits}
use Rattle.booking.specs.Booking.{larger, smaller, is_split}
use Rattle.split.specs.Parts.{drawn_triangles, splits_of}
use Rattle.grid.specs.Grid.{Grid, cell_count, count_of, start, crossings, edge_number}
use Rattle.grid.specs.Rows.{rows, grid_answer, accepts}
use Rattle.grid.specs.claims.Accepted.{Sound}
use Rattle.grid.proofs.Accepts.{acceptance_yields}
use Rattle.grid.proofs.Names.{name_lt}
use Rattle.grid.proofs.Sound.{edge_numbers, faultless}
use Rattle.mesh.specs.Mesh.{grid_cell, mesh_triangles, mesh_splits, mesh_words}
use Rattle.mesh.specs.Answer.{mesh_answer, mesh_area}
use Rattle.mesh.specs.Room.{room_answer}
use Rattle.mesh.proofs.Complex.{start-of, name_of}
use Rattle.layers.specs.Runs.{keep_inner, run_counts, run_grid, into_whole, crossing_in_whole, face_in_whole, run_triangles, run_renamed}
use Rattle.layers.specs.claims.Renaming.{OuterNames}
use Rattle.layers.specs.Cuts.{cut_at, run_count, run_start, run_size, bad_cut, cut_row, run_mesh, run_splits, joined_mesh, joined_splits}
use Rattle.layers.specs.claims.Words.{renamed_words, Named}
use Rattle.layers.specs.Answer.{cuts_accepted, cuts_answer, run_answer, run_area, joined_answer, joined_area}
use Rattle.layers.specs.claims.Claims.{RunWithin, RunClear, RunsRenamed, CutLaws, CutsCut, RunsMeshed}
use Rattle.layers.specs.Joined.{JoinedIsMesh}
use Rattle.layers.proofs.Parts.{drawn_renamed}
use Rattle.layers.proofs.Worded.{words_renamed}
use Rattle.layers.proofs.Named.{drawn_named}
use Rattle.layers.proofs.Own.{runs_own}
use Rattle.layers.proofs.Runs.{crossing-at, crossing_order, run-count, run-sound, number_lt, number_at, face_at}

-- a run passes every row but 9
pub run_clear : RunClear
unfolding rows All
run_clear G from size values e N =
    let F = faultless (run_grid G from size) (run-sound G from size (acceptance_yields G values e).sound N) in
    all_at (λ (row : Row). row.number ≢ 9 → Clear row) (whole 0 false) (rows (run_grid G from size)) (
      λ n p h. F.row_1,
      (
        λ n p h. F.row_2,
        (
          λ n. F.row_3,
          (
            λ n. F.row_4,
            (
              λ n. F.row_5,
              (
                λ n. F.row_6,
                (
                  λ n. F.row_18,
                  (
                    λ n. F.row_7,
                    (
                      λ n. F.row_8,
                      (λ n. absurd (n refl), (λ n p h. F.row_10, tt)),
                    ),
                  ),
                ),
              ),
            ),
          ),
        ),
      ),
    )

-- the counts, numbers and names of a cell of a sound grid
module _ (G : Grid) (S : Sound G) (c : ℕ) (l : c < cell_count G.cells) where
  pub count_le : (k i : ℕ) → k < 6 → i < of.count_of (grid_cell G c) k → i < count_of G.counts (edge_number G c k)
  unfolding grid_cell
  count_le k i lk h = omega (arith, values_at (λ k. count_of G.counts (edge_number G c k)) 6 k 0 lk)

  number_below : (k i : ℕ) → k < 6 → i < of.count_of (grid_cell G c) k → of.start_of (grid_cell G c) k + i < crossings G.counts
  unfolding start
  number_below k i lk h =
      omega (arith, start-of G c k lk, pack_lt (count_of G.counts) (length G.counts) (edge_number G c k) i ((edge_numbers G S).listed c k l lk) (count_le k i lk h))

  outer_names : OuterNames (grid_cell G c)
  unfolding grid_cell
  outer_names = record {
    index = omega (arith, S.few_cells);
    below = λ k i lk h. omega (arith, number_below k i lk h, S.few_crossings);
    under = λ s ls. omega (arith, name_of G c s ls, name_lt G.cells c s l ls, S.few_cells);
  }

module _ (G : Grid) (from size : ℕ) (S : Sound G) (N : RunWithin G from size) where
  abbrev RG : Grid
  RG = run_grid G from size

  abbrev rn : List ℕ
  rn = run_counts G from size

  SR : Sound (run_grid G from size)
  SR = run-sound G from size S N

  -- each cell of the run is one of the whole with other names
  module _ (c : ℕ) (l : c < size) where
    lc : c < cell_count RG.cells
    lc = omega (arith, run-count G from size S N)

    lw : from + c < cell_count G.cells
    lw = omega (arith, N.within)

    pub cell_at : RenamedCell (into_whole G from size) (grid_cell RG c) (grid_cell G (from + c))
    unfolding into_whole grid_cell
    cell_at = record {
      counts = values_ext (λ k. count_of rn (edge_number RG c k)) (λ k. count_of G.counts (edge_number G (from + c) k)) 6 (λ k lk. (runs_own G from size S N).count c k l lk);
      index = refl;
      names = λ s ls. ap (face_in_whole G from size) (name_of RG c s ls) ∙ face_at G from size S N c s l ls ∙ sym (name_of G (from + c) s ls);
      starts = λ k i lk h.
          ap (λ n. crossing_in_whole G from size (n + i)) (start-of RG c k lk)
          ∙ crossing-at G from size (edge_number RG c k) i (number_lt G from size S N c k l lk) (count_le RG SR c lc k i lk h)
          ∙ ap (λ e. start G.counts e + i) (number_at G from size S N c k l lk)
          ∙ ap (λ n. n + i) (sym (start-of G (from + c) k lk));
      order = λ j k s t lj lk hs ht h. crossing_order G from size (of.start_of (grid_cell RG c) j + s) (of.start_of (grid_cell RG c) k + t) h (number_below RG SR c lc k t lk ht);
    }

    drawn-at : map (renamed (keep_inner (into_whole G from size))) (drawn_triangles (grid_cell RG c)) ≡ drawn_triangles (grid_cell G (from + c))
    drawn-at = drawn_renamed (into_whole G from size) (grid_cell RG c) (grid_cell G (from + c)) cell_at (outer_names RG SR c lc) (outer_names G S (from + c) lw)

-- the words of renamed triangles
gather_words : (r : Renaming) (l : List Triangle) → All Named l → gather (λ t. renamed_words (keep_inner r) (words t)) l ≡ all_words (map (renamed (keep_inner r)) l)
unfolding gather All
gather_words r [] h = refl
gather_words r (t ∷ l) h = ap₂ (λ l m. l ++ m) (sym (words_renamed r t h.0)) (gather_words r l h.1)

-- so it is word by word, under any names that lead from the run's cells to those of the whole
pub words_over : (G : Grid) (from size : ℕ) (S : Sound G) (N : RunWithin G from size) (r : Renaming) (c : ℕ) → c < size → RenamedCell r (grid_cell (run_grid G from size) c) (grid_cell G (from + c))
    → gather (λ t. renamed_words (keep_inner r) (words t)) (drawn_triangles (grid_cell (run_grid G from size) c)) ≡ all_words (drawn_triangles (grid_cell G (from + c)))
words_over G from size S N r c l H =
    let a = grid_cell (run_grid G from size) c in
    let SR = run-sound G from size S N in
    let lc : c < cell_count (run_grid G from size).cells = omega (arith, run-count G from size S N) in
    gather_words r (drawn_triangles a) (drawn_named (run_grid G from size) c SR lc)
    ∙ ap all_words (drawn_renamed r a (grid_cell G (from + c)) H (outer_names (run_grid G from size) SR c lc) (outer_names G S (from + c) (omega (arith, N.within))))

pub runs_renamed : RunsRenamed
unfolding run_renamed run_triangles mesh_triangles
runs_renamed G from size S N =
    let r = keep_inner (into_whole G from size) in
    let RG = run_grid G from size in
    map_over (renamed r) (λ c. drawn_triangles (grid_cell RG c)) (cell_count RG.cells) 0
    ∙ ap (λ n. over (λ c. map (renamed r) (drawn_triangles (grid_cell RG c))) n 0) (run-count G from size S N)
    ∙ over_ext (λ c. map (renamed r) (drawn_triangles (grid_cell RG c))) (λ c. drawn_triangles (grid_cell G (from + c))) size 0 (λ c a h. drawn-at G from size S N c (omega arith))
    ∙ over_shift (λ c. drawn_triangles (grid_cell G c)) from size 0
    ∙ (let z : from + 0 ≡ from = omega arith in ap (over (λ c. drawn_triangles (grid_cell G c)) size) z)

-- the splits of a cell are told by its counts, and so those of a run are those of its cells in the whole
splits-by : (a b : Cell) → a.counts ≡ b.counts → splits_of a ≡ splits_of b
unfolding splits_of
splits-by a b e = ap (λ l. pick (is_split (λ e. min (get_or l e 0) most_count)) (splits (larger (λ e. min (get_or l e 0) most_count)) (smaller (λ e. min (get_or l e 0) most_count))) 0) e

run-splits : (G : Grid) (from size : ℕ) → Sound G → RunWithin G from size → mesh_splits (run_grid G from size) ≡ total (λ c. splits_of (grid_cell G c)) size from
unfolding mesh_splits
run-splits G from size S N =
    let RG = run_grid G from size in
    ap (λ n. total (λ c. splits_of (grid_cell RG c)) n 0) (run-count G from size S N)
    ∙ total_ext (λ c. splits_of (grid_cell RG c)) (λ c. splits_of (grid_cell G (from + c))) size 0 (λ c a h. splits-by (grid_cell RG c) (grid_cell G (from + c)) (cell_at G from size S N c (omega arith)).counts)
    ∙ total_from (λ c. splits_of (grid_cell G c)) from size 0
    ∙ (let z : from + 0 ≡ from = omega arith in ap (total (λ c. splits_of (grid_cell G c)) size) z)

-- the bounds of the runs
module _ (n : ℕ) (cuts : List ℕ) (some : 0 < n) (clear : (i : ℕ) → i < length cuts → bad_cut n cuts i ≡ false) where
  bound : ℕ → ℕ
  bound r = get_or (0 ∷ (cuts ++ (n ∷ []))) r 0

  cut_rises : (i : ℕ) → i < length cuts → (run_start cuts i < cut_at cuts i) × (cut_at cuts i < n)
  unfolding bad_cut
  cut_rises i l =
      let (a, b) = or_none (not (ltb (run_start cuts i) (cut_at cuts i))) (not (ltb (cut_at cuts i) n)) (clear i l) in
      (ltb-true (run_start cuts i) (cut_at cuts i) (not-false (ltb (run_start cuts i) (cut_at cuts i)) a), ltb-true (cut_at cuts i) n (not-false (ltb (cut_at cuts i) n) b))

  start_is : (r : ℕ) → r < run_count cuts → run_start cuts r ≡ bound r
  unfolding bound
  start_is r l = sym (get_or-append (0 ∷ cuts) (n ∷ []) 0 r l)

  end_cut : (i : ℕ) → i < length cuts → bound (suc i) ≡ cut_at cuts i
  unfolding bound
  end_cut i l = get_or-append cuts (n ∷ []) 0 i l

  end_last : bound (run_count cuts) ≡ n
  unfolding bound
  end_last = get_or-append_seam cuts n [] 0

  start_below : (r : ℕ) → r < run_count cuts → bound r < n
  unfolding bound
  start_below zero l = some
  start_below (suc i) l = omega (arith, end_cut i (omega arith), (cut_rises i (omega arith)).1)

  bound_rises : (r : ℕ) → r < run_count cuts → bound r < bound (suc r)
  bound_rises r l =
      ⊎_elim
      (λ (e : r ≡ length cuts). omega (arith, start_below r l, end_last, ap (λ k. bound (suc k)) e))
      (λ (h : r < length cuts). omega (arith, start_is r l, (cut_rises r h).0, end_cut r h))
      (below-or r (length cuts) l)

  end_within : (r : ℕ) → r < run_count cuts → bound (suc r) ≤ n
  end_within r l =
      ⊎_elim
      (λ (e : r ≡ length cuts). omega (arith, end_last, ap (λ k. bound (suc k)) e))
      (λ (h : r < length cuts). omega (arith, start_below (suc r) (omega arith)))
      (below-or r (length cuts) l)

  -- every cut is at least its place, so that there are fewer cuts than cells
  bound_least : (r : ℕ) → r < suc (run_count cuts) → r ≤ bound r
  bound_least zero l = omega arith
  bound_least (suc r) l = omega (arith, bound_least r (omega arith), bound_rises r (omega arith))

  pub few_cuts : length cuts < n
  few_cuts = omega (arith, bound_least (run_count cuts) (omega arith), end_last)

  cut_laws : CutLaws n cuts
  unfolding bound
  cut_laws = record {
    first = refl;
    some_cell = λ r l. omega (arith, start_is r l, bound_rises r l);
    next = λ r l. let e : r + 1 ≡ suc r = omega arith in sym (ap (run_start cuts) e ∙ start_is (suc r) (omega arith));
    end = end_last;
    within = end_within;
  }

pub cuts_cut : CutsCut
cuts_cut G cuts some clear = cut_laws (cell_count G.cells) cuts some clear

module _ (G : Grid) (cuts : List ℕ) (S : Sound G) (clear : Clear (cut_row G cuts)) where
  abbrev drawn : ℕ → List Triangle
  drawn c = drawn_triangles (grid_cell G c)

  abbrev s : ℕ → ℕ
  s = bound (cell_count G.cells) cuts S.some_cell clear

  run_r : (r : ℕ) → r < run_count cuts → RunWithin G (s r) (s (suc r) - s r)
  run_r r h =
      let up = bound_rises (cell_count G.cells) cuts S.some_cell clear r h in
      record { some_cell = omega (arith, up); within = omega (arith, up, end_within (cell_count G.cells) cuts S.some_cell clear r h) }

  pub joined_triangles : joined_mesh G cuts ≡ mesh_triangles G
  unfolding joined_mesh mesh_triangles bound
  joined_triangles =
      over_ext (λ r. run_renamed G (run_start cuts r) (run_size (cell_count G.cells) cuts r)) (λ r. over drawn (s (suc r) - s r) (s r)) (run_count cuts) 0
      (λ r a l.
      let h : r < run_count cuts = omega arith in
      ap (λ b. run_renamed G b (s (suc r) - b)) (start_is (cell_count G.cells) cuts S.some_cell clear r h)
      ∙ runs_renamed G (s r) (s (suc r) - s r) S (run_r r h))
      ∙ over_parts drawn s (run_count cuts) refl (λ r l. omega (arith, bound_rises (cell_count G.cells) cuts S.some_cell clear r l))
      ∙ ap (λ n. over drawn n 0) (end_last (cell_count G.cells) cuts S.some_cell clear)

  pub joined-splits : joined_splits G cuts ≡ mesh_splits G
  unfolding joined_splits run_splits mesh_splits bound
  joined-splits =
      total_ext (run_splits G cuts) (λ r. total (λ c. splits_of (grid_cell G c)) (s (suc r) - s r) (s r)) (run_count cuts) 0
      (λ r a l.
      let h : r < run_count cuts = omega arith in
      ap (λ b. mesh_splits (run_grid G b (s (suc r) - b))) (start_is (cell_count G.cells) cuts S.some_cell clear r h) ∙ run-splits G (s r) (s (suc r) - s r) S (run_r r h))
      ∙ total_parts (λ c. splits_of (grid_cell G c)) s (run_count cuts) refl (λ r l. omega (arith, bound_rises (cell_count G.cells) cuts S.some_cell clear r l))
      ∙ ap (λ n. total (λ c. splits_of (grid_cell G c)) n 0) (end_last (cell_count G.cells) cuts S.some_cell clear)

  passes : (rest : List ℕ) → or_refuse (cut_row G cuts) rest ≡ rest
  unfolding or_refuse
  passes rest = rw (none_first (bad_cut (cell_count G.cells) cuts) (length cuts) clear) (rw (le-ltb (length cuts) (length cuts) (omega arith)))

  joined-answer : (room : ℕ) → joined_answer G cuts room ≡ mesh_answer G room
  unfolding joined_answer cuts_answer mesh_answer
  joined-answer room =
      ap (λ l. pick (accepts G) l (grid_answer G)) (passes (room_answer (joined_mesh G cuts) (joined_splits G cuts) room) ∙ ap₂ (λ m n. room_answer m n room) joined_triangles joined-splits)

  joined-area : (before : List ℕ) → joined_area G cuts before ≡ mesh_area G before
  unfolding joined_area cuts_accepted mesh_area mesh_words
  joined-area before =
      ap₂ (λ b m. pick (accepts G && not b) (stored_in before 0 (all_words m)) before) (none_some (bad_cut (cell_count G.cells) cuts) (length cuts) clear) joined_triangles
      ∙ ap (λ b. pick b (stored_in before 0 (all_words (mesh_triangles G))) before) (whatever (accepts G))
    where
      whatever : (b : Bool) → (b && not false) ≡ b
      whatever true = refl
      whatever false = refl

pub joined_is_mesh : JoinedIsMesh
unfolding mesh_words
joined_is_mesh G cuts values e clear =
    let S = (acceptance_yields G values e).sound in
    let t = joined_triangles G cuts S clear in
    record { triangles = t; words = ap all_words t; splits = joined-splits G cuts S clear; answer = joined-answer G cuts S clear; area = joined-area G cuts S clear }

-- one run as the mesh call makes it
pub runs_meshed : RunsMeshed
unfolding run_answer run_area cuts_answer cuts_accepted mesh_answer mesh_area mesh_words run_mesh run_splits run_triangles
runs_meshed G cuts values alone r e clear h a =
    let S = (acceptance_yields G values e).sound in
    let R = run_grid G (run_start cuts r) (run_size (cell_count G.cells) cuts r) in
    let yes-whole : accepts G ≡ true = ap is_result e in
    let yes-run : accepts R ≡ true = ap is_result a in
    let there : ltb r (run_count cuts) ≡ true = lt-ltb r (run_count cuts) h in
    let none : some (bad_cut (cell_count G.cells) cuts) (length cuts) ≡ false = none_some (bad_cut (cell_count G.cells) cuts) (length cuts) clear in
    record {
      answer = λ room. rw (yes-whole, yes-run) (passes G cuts S clear _ ∙ rw there);
      area = λ before. rw (yes-whole, yes-run, none, there);
    }
