-- The two calls, where they are refused and where they are drawn.
use Rattle.std.specs.Prelude.{Some, None, Ok, Err}
use Prim.Native.Nat.{ℕ, ◌+◌, ◌*◌, ◌/◌, ◌≤◌, ◌<◌}
use mathlib.Core.Path.{◌≡◌, refl, sym, ap, ap₂, ◌∙◌}
use mathlib.Core.Bool.{Bool, true, false}
use mathlib.Core.List.{List, [], ◌∷◌}
use native.Mathlib.Omega.{arith}
use lib.ListN.{length, get_or, length-map}
use lib.Dec.{ltb}
use borrow.Author.Tests.{lt-ltb, le-ltb, ltb-true, ltb-false}
use Rattle.answer.specs.Answer.{result_of, refusal}
use Rattle.answer.specs.Refusal.{refusal_numbers}
use Rattle.answer.specs.declared.Refusal.{Refusal}
use Rattle.answer.specs.Rows.{or_refuse, Clear}
use Rattle.counting.specs.Pick.{pick}
use Rattle.counting.specs.Search.{first, some}
use Rattle.counting.specs.work.Search.{found}
use Rattle.counting.specs.Lists.{over}
use Rattle.counting.specs.Stored.{stored_in}
use Rattle.counting.specs.work.Stored.{Stored}
use Rattle.counting.proofs.Search.{first_is, first_none, found_first, found_none, some_found, none_some}
use Rattle.counting.proofs.Lists.{gather_over}
use Rattle.counting.proofs.Stored.{stored_as, stored_fits, stored_not, stored_room}
use Rattle.cell.specs.Words.{word_count, words, all_words}
use Rattle.cell.proofs.Storing.{length_all}
use Rattle.grid.specs.Grid.{Grid, cell_count}
use Rattle.slots.specs.Limits.{most_slots}
use Rattle.slots.specs.work.Limits.{most_edges}
use Rattle.grid.specs.Check.{check_numbers}
use Rattle.grid.specs.Rows.{grid_answer, accepts}
use Rattle.grid.specs.work.Tables.{Laid}
use Rattle.grid.proofs.Filled.{refused_keeps, told_accepts, told_sound}
use Rattle.cell.specs.Renaming.{renamed}
use Rattle.cell.specs.claims.Table.{drawn_cells}
use Rattle.booking.proofs.Totals.{all_few}
use Rattle.split.specs.work.Table.{most_drawn, table_drawn, table_splits}
use Rattle.split.specs.work.Gains.{AreSums}
use Rattle.split.proofs.Tables.{drawn_long}
use Rattle.mesh.specs.Mesh.{mesh_splits}
use Rattle.mesh.specs.Room.{room_answer}
use Rattle.mesh.proofs.Rooms.{answer_short, answer_fits}
use Rattle.mesh.proofs.Tables as mesh
use Rattle.mesh.proofs.Demand.{demand3}
use Rattle.layers.specs.Runs.{keep_inner, run_grid, into_whole, run_triangles, run_renamed}
use Rattle.layers.specs.Cuts.{run_count, run_start, run_size, bad_cut, cut_row, run_mesh, run_splits, joined_mesh, joined_splits}
use Rattle.layers.specs.Answer.{cuts_accepted, cuts_answer, run_answer, run_area, joined_answer, joined_area}
use Rattle.layers.specs.Done.{RunDone, JoinedDone}
use Rattle.layers.specs.work.Work.{RunOfCuts, Tables, lacking_in, RunOf, RunDrawn, JoinableRun, Joinable}
use Rattle.layers.proofs.Laying.{tabled}
use Rattle.layers.proofs.Joined.{cuts_cut, few_cuts, joined_triangles, joined-splits, joined_is_mesh}

-- THE CHECK OF THE WHOLE

module _ (G : Grid) where
  module _ (r : Refusal) (q : check_numbers (Err r) ≡ grid_answer G) where
    keeps : accepts G ≡ false
    keeps = refused_keeps G r q

    pub refused_run : (cuts : List ℕ) (run : ℕ) (area : List ℕ) → RunDone G cuts run area area (refusal_numbers r)
    unfolding run_answer run_area cuts_answer cuts_accepted
    refused_run cuts run area = record { answered = rw keeps q; area = rw keeps }

    pub refused_joined : (cuts area : List ℕ) → JoinedDone G cuts area area (refusal_numbers r)
    unfolding joined_answer joined_area cuts_answer cuts_accepted
    refused_joined cuts area = record { answered = rw keeps q; area = rw keeps; undivided = joined_is_mesh; demand = demand3 }

  pub tables : (n : ℕ) → check_numbers (Ok n) ≡ grid_answer G → (names₀ sides₀ names sides : List ℕ) → length names₀ ≡ most_slots → length sides₀ ≡ most_edges
      → Laid G names₀ sides₀ names sides → Tables G names sides
  tables n q names₀ sides₀ names sides ln ls o =
      let accepted = told_accepts G (Ok n) n refl q in
      let t = mesh.tabled G names₀ sides₀ names sides (told_sound G (Ok n) n refl q) accepted ln ls o in
      record { accepted = accepted; sound = t.sound; name = t.name; edge = t.edge }

-- ROOM

module _ (room len : ℕ) where
  pub lacking_some : {n : ℕ} → Some n ≡ lacking_in room len → (n ≡ len) × (room < word_count * len)
  unfolding lacking_in
  lacking_some {n} is = go (ltb room (word_count * len)) refl is
    where
      go : (b : Bool) → ltb room (word_count * len) ≡ b → Some n ≡ pick b (Some len) None → (n ≡ len) × (room < word_count * len)
      go true e q = let z : n ≡ len = cc in (z, ltb-true room (word_count * len) e)
      go false e q = absurd cc

  pub lacking_none : None ≡ lacking_in room len → word_count * len ≤ room
  unfolding lacking_in
  lacking_none is = go (ltb room (word_count * len)) refl is
    where
      go : (b : Bool) → ltb room (word_count * len) ≡ b → None ≡ pick b (Some len) None → word_count * len ≤ room
      go true e q = absurd cc
      go false e q = ltb-false room (word_count * len) e

  pub lacks : room < word_count * len → Some len ≡ lacking_in room len
  unfolding lacking_in
  lacks h = rw (lt-ltb room (word_count * len) h)

  pub lacks_none : word_count * len ≤ room → None ≡ lacking_in room len
  unfolding lacking_in
  lacks_none h = rw (le-ltb room (word_count * len) h)

-- no more triangles are drawn than the sums say
pub few_drawn : (cells counts names sides starts : List ℕ) {crossings splits more : ℕ} → AreSums counts sides (drawn_cells cells) crossings splits more
    → (length (table_drawn cells counts names sides starts) ≤ crossings + more) × (crossings + more ≤ most_drawn)
few_drawn cells counts names sides starts S =
    (omega (arith, S.crossings_are, S.more_is, drawn_long cells counts names sides starts, all_few cells counts names sides starts), omega (arith, S.few_crossings, S.few_more))

-- THE CUTS

module _ {G : Grid} {names sides : List ℕ} (T : Tables G names sides) (cuts : List ℕ) where
  abbrev n : ℕ
  n = cell_count G.cells

  module _ {b : ℕ} (is : Some b ≡ found (bad_cut (cell_count G.cells) cuts) (length cuts)) where
    bad : (b ≡ first (bad_cut n cuts) (length cuts)) × (b < length cuts)
    bad = found_first (bad_cut n cuts) (length cuts) b is

    bad_some : some (bad_cut n cuts) (length cuts) ≡ true
    bad_some = some_found (bad_cut n cuts) (length cuts) b bad.1 (ap (bad_cut n cuts) bad.0 ∙ first_is (bad_cut n cuts) (length cuts) (omega (arith, bad.0, bad.1)))

    refuses : (rest : List ℕ) → refusal 25 b ≡ cuts_answer G cuts rest
    unfolding cuts_answer or_refuse
    refuses rest = rw (T.accepted, lt-ltb (first (bad_cut n cuts) (length cuts)) (length cuts) (omega (arith, bad.0, bad.1))) (ap (refusal 25) bad.0)

    pub bad_run : (run : ℕ) (area : List ℕ) → RunDone G cuts run area area (refusal 25 b)
    unfolding run_answer run_area cuts_accepted
    bad_run run area = record { answered = refuses _; area = rw (T.accepted, bad_some) }

    pub bad_joined : (area : List ℕ) → JoinedDone G cuts area area (refusal 25 b)
    unfolding joined_answer joined_area cuts_accepted
    bad_joined area = record { answered = refuses _; area = rw (T.accepted, bad_some); undivided = joined_is_mesh; demand = demand3 }

  module _ (fine : None ≡ found (bad_cut (cell_count G.cells) cuts) (length cuts)) where
    none : first (bad_cut n cuts) (length cuts) ≡ length cuts
    none = found_none (bad_cut n cuts) (length cuts) fine

    pub clear : Clear (cut_row G cuts)
    clear = first_none (bad_cut n cuts) (length cuts) (omega (arith, none))

    passes : (rest : List ℕ) → cuts_answer G cuts rest ≡ rest
    unfolding cuts_answer or_refuse
    passes rest = rw (T.accepted, le-ltb (first (bad_cut n cuts) (length cuts)) (length cuts) (omega (arith, none)))

    cuts_pass : cuts_accepted G cuts ≡ true
    unfolding cuts_accepted
    cuts_pass = rw (T.accepted, none_some (bad_cut n cuts) (length cuts) clear)

    -- ONE RUN

    pub no_run : (run : ℕ) → length cuts < run → (area : List ℕ) → RunDone G cuts run area area (refusal 26 run)
    unfolding run_answer run_area
    no_run run k area = record { answered = sym (passes _ ∙ rw (le-ltb run (run_count cuts) k)); area = rw (cuts_pass, le-ltb run (run_count cuts) k) }

    pub cut_there : (run : ℕ) → run ≤ length cuts → RunOfCuts n cuts run
    cut_there run k = record {
      there = k;
      rises = omega (arith, (cuts_cut G cuts T.sound.some_cell clear).some_cell run (omega arith));
      few = omega (arith, few_cuts n cuts T.sound.some_cell clear, T.sound.few_cells);
    }

    module _ (run : ℕ) (k : run ≤ length cuts) (from size : ℕ) (e : from ≡ run_start cuts run) (f : size ≡ run_size n cuts run) where
      pub run_of : RunOf G names sides from size
      run_of =
          let L = cuts_cut G cuts T.sound.some_cell clear in
          record { tables = T; run = record { some_cell = omega (arith, L.some_cell run (omega arith)); within = omega (arith, L.some_cell run (omega arith), L.within run (omega arith)) } }

      module _ {before after : List ℕ} {t s : ℕ} (D : RunDrawn G from size before after t s) where
        same : run_triangles G from size ≡ run_mesh G cuts run
        unfolding run_mesh
        same = ap₂ (run_triangles G) e f

        same_splits : s ≡ run_splits G cuts run
        unfolding run_splits
        same_splits = D.splits_are ∙ ap₂ (λ x y. mesh_splits (run_grid G x y)) e f

        many : t ≡ length (run_mesh G cuts run)
        many = D.triangles_are ∙ ap length same

        run-area : after ≡ run_area G cuts run before
        unfolding run_area
        run-area = rw (cuts_pass, lt-ltb run (run_count cuts) (omega arith)) (D.area ∙ ap (λ m. stored_in before 0 (all_words m)) same)

        answers : (answer : List ℕ) → answer ≡ room_answer (run_mesh G cuts run) (run_splits G cuts run) (length before) → answer ≡ run_answer G cuts run (length before)
        unfolding run_answer
        answers answer q = q ∙ sym (passes _ ∙ rw (lt-ltb run (run_count cuts) (omega arith)))

        pub run_short : length before < word_count * t → RunDone G cuts run before after (refusal 12 t)
        run_short l = record {
          answered = answers (refusal 12 t) (ap (refusal 12) many ∙ answer_short (run_mesh G cuts run) (run_splits G cuts run) (length before) (omega (arith, many)));
          area = run-area;
        }

        pub run_fits : word_count * t ≤ length before → RunDone G cuts run before after (result_of (t ∷ s ∷ []))
        run_fits l = record {
          answered = answers (result_of (t ∷ s ∷ [])) (ap₂ (λ t s. result_of (t ∷ s ∷ [])) many same_splits ∙ answer_fits (run_mesh G cuts run) (run_splits G cuts run) (length before) (omega (arith, many)));
          area = run-area;
        }

    -- ALL RUNS

    abbrev drawn : ℕ
    drawn = length (table_drawn G.cells G.counts names sides G.starts)

    all_many : drawn ≡ length (joined_mesh G cuts)
    all_many = ap length (mesh.triangles_are (tabled T) ∙ sym (joined_triangles G cuts T.sound clear))

    joins : (before after answer : List ℕ) → answer ≡ room_answer (joined_mesh G cuts) (joined_splits G cuts) (length before) → after ≡ stored_in before 0 (all_words (joined_mesh G cuts)) → JoinedDone G cuts before after answer
    unfolding joined_answer joined_area
    joins before after answer q a = record { answered = q ∙ sym (passes _); area = rw cuts_pass a; undivided = joined_is_mesh; demand = demand3 }

    module _ (before : List ℕ) where
      pub joined_short : {lack : ℕ} → Some lack ≡ lacking_in (length before) (length (table_drawn G.cells G.counts names sides G.starts)) → JoinedDone G cuts before before (refusal 12 lack)
      joined_short {lack} known =
          let (e, l) = lacking_some (length before) drawn known in
          joins before before (refusal 12 lack) (ap (refusal 12) (e ∙ all_many) ∙ answer_short (joined_mesh G cuts) (joined_splits G cuts) (length before) (omega (arith, l, all_many)))
          (stored_not before 0 (all_words (joined_mesh G cuts)) (omega (arith, l, all_many, length_all (joined_mesh G cuts)))).0

      module _ (known : None ≡ lacking_in (length before) (length (table_drawn G.cells G.counts names sides G.starts))) where
        fits : word_count * length (joined_mesh G cuts) ≤ length before
        fits = omega (arith, lacking_none (length before) drawn known, all_many)

        pub joinable : Joinable G names sides cuts (length before)
        joinable = record { tables = T; clear = clear; fits = fits }

        pub joined_fits : {s : ℕ} → s ≡ table_splits G.cells G.counts names sides G.starts → {after : List ℕ} {end : ℕ} → Stored before 0 (all_words (joined_mesh G cuts)) after end
            → JoinedDone G cuts before after (result_of (end / word_count ∷ s ∷ []))
        joined_fits {s} se {after} {end} S =
            let t : end / word_count ≡ length (joined_mesh G cuts) = omega (arith, S.after, length_all (joined_mesh G cuts)) in
            let splits = se ∙ mesh.splits_are (tabled T) ∙ sym (joined-splits G cuts T.sound clear) in
            joins before after (result_of (end / word_count ∷ s ∷ []))
            (ap₂ (λ t s. result_of (t ∷ s ∷ [])) t splits ∙ answer_fits (joined_mesh G cuts) (joined_splits G cuts) (length before) fits)
            (S.area ∙ sym (stored_room before 0 (all_words (joined_mesh G cuts)) (omega (arith, fits, length_all (joined_mesh G cuts)))).area)

-- RUN AFTER RUN

-- the words of run r
abbrev pub words_of : Grid → List ℕ → ℕ → List ℕ
words_of G cuts r = all_words (run_renamed G (run_start cuts r) (run_size (cell_count G.cells) cuts r))

module _ {G : Grid} {names sides cuts : List ℕ} {room : ℕ} (J : Joinable G names sides cuts room) where
  abbrev run_words : ℕ → List ℕ
  run_words = words_of G cuts

  all-words : all_words (joined_mesh G cuts) ≡ over run_words (run_count cuts) 0
  unfolding joined_mesh
  all-words = gather_over words (λ r. run_renamed G (run_start cuts r) (run_size (cell_count G.cells) cuts r)) (run_count cuts) 0

  pub few_runs : length cuts < 2048
  few_runs = omega (arith, few_cuts (cell_count G.cells) cuts J.tables.sound.some_cell J.clear, J.tables.sound.few_cells)

  pub next_cut : (r : ℕ) → r ≤ length cuts → RunOfCuts (cell_count G.cells) cuts r
  next_cut r k = record { there = k; rises = omega (arith, (cuts_cut G cuts J.tables.sound.some_cell J.clear).some_cell r (omega arith)); few = few_runs }

  module _ (r : ℕ) (k : r ≤ length cuts) (from size : ℕ) (e : from ≡ run_start cuts r) (f : size ≡ run_size (cell_count G.cells) cuts r) where
    next_run : RunOf G names sides from size
    next_run =
        let L = cuts_cut G cuts J.tables.sound.some_cell J.clear in
        record {
          tables = J.tables;
          run = record { some_cell = omega (arith, L.some_cell r (omega arith)); within = omega (arith, L.some_cell r (omega arith), L.within r (omega arith)) };
        }

    pub next_words : all_words (run_renamed G from size) ≡ words_of G cuts r
    next_words = ap₂ (λ x y. all_words (run_renamed G x y)) e f

    long : length (run_words r) ≡ word_count * length (run_triangles G from size)
    unfolding run_renamed
    long =
        ap length (sym next_words) ∙ length_all (run_renamed G from size)
        ∙ ap (λ n. word_count * n) (length-map (run_triangles G from size) (renamed (keep_inner (into_whole G from size))))

    module _ {was area : List ℕ} {i m : ℕ} (S : Stored was 0 (over (words_of G cuts) r 0) area i) (lw : length was ≡ room) (u : List ℕ) (below : (e : ℕ) → get_or u e 0 < m) where
      pub next_joinable : JoinableRun G names sides from size m i (length area) u
      next_joinable = record {
        run_of = next_run;
        fits = omega (arith, long, stored_fits run_words (run_count cuts) r S (omega arith) (omega (arith, J.fits, ap length all-words, length_all (joined_mesh G cuts))));
        below = below;
      }

  pub all_joined : {was area : List ℕ} {i r : ℕ} → Stored was 0 (over (words_of G cuts) r 0) area i → r ≡ run_count cuts → Stored was 0 (all_words (joined_mesh G cuts)) area i
  all_joined S e = stored_as S (ap (λ n. over run_words n 0) e ∙ sym all-words) refl
