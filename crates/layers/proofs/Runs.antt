-- A run of a grid: its cells, edges, counts, crossing numbers and face names in terms of the whole; it is sound where the whole is.
use Prim.Native.Nat.{ℕ, zero, suc, ◌+◌, ◌*◌, ◌/◌, ◌%◌, ◌≤◌, ◌<◌}
use mathlib.Core.Path.{◌≡◌, refl, sym, ap, ap₂, ◌∙◌, subst}
use mathlib.Core.Bool.{true}
use mathlib.Core.List.{List, [], ◌∷◌}
use native.Mathlib.Omega.{arith}
use lib.ListN.{length, get_or, drop, length-take, length-drop}
use lib.Seq.{get_or-take, get_or-drop}
use Rattle.counting.specs.Pack.{row, col}
use Rattle.counting.proofs.Below.{trichotomy}
use Rattle.counting.proofs.Lists.{length_singles, values_at}
use Rattle.counting.proofs.Fronts.{get_or_blocks, length_blocks}
use Rattle.counting.proofs.Kept.{kept_is, kept_rise, kept_all}
use Rattle.counting.proofs.Pack.{row_lt, col_lt, row_pack, col_pack, pack_lt, pre_le, unpack}
use Rattle.counting.proofs.Search.{some_found, some_is}
use Rattle.slots.specs.Slots.{lo, hi, position}
use Rattle.slots.proofs.Slots.{two_slots, corner_lt}
use Rattle.grid.specs.Grid.{Grid, cell_count, node, face_name, low, high, is_edge, has_edge, edge_number, count_of, start, starts_of, crossings}
use Rattle.grid.specs.claims.Accepted.{SameFace, EdgeIs, Sound}
use Rattle.grid.proofs.Names.{name_lt, named, named_same, same_named}
use Rattle.grid.proofs.Sound.{edge_true, true_edge, edge_numbers}
use Rattle.mesh.proofs.Complex.{start_le}
use Rattle.layers.specs.Runs.{run_cells, in_run, run_numbers, in_whole, run_edges, run_counts, run_grid, crossing_in_whole, face_in_whole}
use Rattle.layers.specs.claims.Claims.{RunWithin, NamesLaws, RunSound, NamesKept}

module _ (G : Grid) (from size : ℕ) where
  abbrev rc : List ℕ
  rc = run_cells G from size

  abbrev re : List ℕ
  re = run_edges G from size

  abbrev rn : List ℕ
  rn = run_counts G from size

  abbrev RG : Grid
  RG = run_grid G from size

  -- how many edges the run has, and their numbers in the whole
  abbrev many : ℕ
  many = length (run_numbers G from size)

  abbrev at : ℕ → ℕ
  at = in_whole G from size

  pub many_counts : length rn ≡ many
  unfolding run_counts
  many_counts = length_singles (λ e. count_of G.counts (at e)) many 0

  pub at_lt : (e : ℕ) → e < length rn → at e < length G.counts
  unfolding run_numbers
  at_lt e l = omega (arith, (kept_is (in_run G from size) (length G.counts) 0 e (omega (arith, many_counts))).high)

  pub at_rises : (d e : ℕ) → d < e → e < length rn → at d < at e
  unfolding run_numbers
  at_rises d e h l = kept_rise (in_run G from size) (length G.counts) 0 d e h (omega (arith, many_counts))

  at_in : (e : ℕ) → e < length rn → in_run G from size (at e) ≡ true
  unfolding run_numbers
  at_in e l = (kept_is (in_run G from size) (length G.counts) 0 e (omega (arith, many_counts))).passes

  at_all : (e : ℕ) → e < length G.counts → in_run G from size e ≡ true → (d : ℕ) × (d < length rn) × (at d ≡ e)
  unfolding run_numbers
  at_all e l u =
      let (d, h, q) = kept_all (in_run G from size) (length G.counts) 0 e (omega arith) (omega arith) u in
      (d, omega (arith, h, many_counts), q)

  -- the run's lists
  many-edges : length re ≡ 2 * length rn
  unfolding run_edges
  many-edges = length_blocks (λ e. low G.edges (at e) ∷ high G.edges (at e) ∷ []) 2 many (λ k l. refl) ∙ omega (arith, many_counts)

  pub count-at : (e : ℕ) → e < length rn → count_of rn e ≡ count_of G.counts (at e)
  unfolding run_counts
  count-at e l = values_at (λ e. count_of G.counts (at e)) many e 0 (omega (arith, many_counts))

  high_at : (e : ℕ) → e < length rn → high re e ≡ high G.edges (at e)
  unfolding run_edges
  high_at e l = get_or_blocks (λ e. low G.edges (at e) ∷ high G.edges (at e) ∷ []) 2 many (λ k l. refl) e 1 0 (omega (arith, many_counts)) (omega arith)

  low_at : (e : ℕ) → e < length rn → low re e ≡ low G.edges (at e)
  unfolding run_edges
  low_at e l =
      let q : 2 * e ≡ 2 * e + 0 = omega arith in
      ap (λ k. get_or re k 0) q ∙ get_or_blocks (λ e. low G.edges (at e) ∷ high G.edges (at e) ∷ []) 2 many (λ k l. refl) e 0 0 (omega (arith, many_counts)) (omega arith)

  -- crossings: one with index i on edge e goes over to that with index i on the same edge of the whole
  pub crossing-at : (e i : ℕ) → e < length rn → i < count_of rn e → crossing_in_whole G from size (start rn e + i) ≡ start G.counts (at e) + i
  unfolding crossing_in_whole start
  crossing-at e i m h = ap₂ (λ r j. start G.counts (at r) + j) (row_pack (count_of rn) (length rn) e i m h) (col_pack (count_of rn) (length rn) e i m h)

  abbrev edge_of : ℕ → ℕ
  edge_of x = row (count_of rn) (length rn) x

  abbrev index_of : ℕ → ℕ
  index_of x = col (count_of rn) (length rn) x

  -- and they keep their order
  pub crossing_order : (x y : ℕ) → x < y → y < crossings rn → crossing_in_whole G from size x < crossing_in_whole G from size y
  unfolding crossing_in_whole start
  crossing_order x y h l =
      let lx : edge_of x < length rn = row_lt (count_of rn) (length rn) x (omega arith) in
      let ly : edge_of y < length rn = row_lt (count_of rn) (length rn) y l in
      let cx = col_lt (count_of rn) (length rn) x (omega arith) in
      let cy = col_lt (count_of rn) (length rn) y l in
      let ux = unpack (count_of rn) (length rn) x (omega arith) in
      let uy = unpack (count_of rn) (length rn) y l in
      trichotomy (edge_of x) (edge_of y)
      (λ q. omega (arith, start_le G (at (edge_of x)) (at (edge_of y)) (at_rises (edge_of x) (edge_of y) q ly), cx, count-at (edge_of x) lx))
      (λ q. absurd (omega (arith, pre_le (count_of rn) 0 (edge_of y) (edge_of x) q, cy, ux, uy)))
      (λ q. omega (arith, ap (λ e. start G.counts (at e)) q, ap (λ e. start rn e) q, ux, uy))

  pub crossing_lt : (x : ℕ) → x < crossings rn → crossing_in_whole G from size x < crossings G.counts
  unfolding crossing_in_whole start
  crossing_lt x h =
      let l = row_lt (count_of rn) (length rn) x h in
      pack_lt (count_of G.counts) (length G.counts) (at (edge_of x)) (index_of x) (at_lt (edge_of x) l) (omega (arith, col_lt (count_of rn) (length rn) x h, count-at (edge_of x) l))

  -- so the run has no more crossings than the whole
  crossing_le : (x : ℕ) → x < crossings rn → x ≤ crossing_in_whole G from size x
  crossing_le zero h = omega arith
  crossing_le (suc x) h = omega (arith, crossing_le x (omega arith), crossing_order x (suc x) (omega arith) h)

  crossings_le : crossings rn ≤ crossings G.counts
  crossings_le = go (crossings rn) refl
    where
      go : (n : ℕ) → crossings rn ≡ n → n ≤ crossings G.counts
      go zero e = omega arith
      go (suc n) e = omega (arith, crossing_le n (omega arith), crossing_lt n (omega arith))

  module _ (S : Sound G) (N : RunWithin G from size) where
    run_length : length rc ≡ 4 * size
    run_length = length-take (4 * size) (drop (4 * from) G.cells) ∙ omega (arith, length-drop (4 * from) G.cells, S.fours, N.within)

    pub run-count : cell_count rc ≡ size
    run-count = omega (arith, run_length)

    node_at : (c i : ℕ) → c < size → i < 4 → node rc c i ≡ node G.cells (from + c) i
    node_at c i l k =
        let q : 4 * from + (4 * c + i) ≡ 4 * (from + c) + i = omega arith in
        get_or-take (4 * size) (drop (4 * from) G.cells) (4 * c + i) 0 (omega arith)
        ∙ get_or-drop (4 * from) G.cells (4 * c + i) 0 ∙ ap (λ j. get_or G.cells j 0) q

    inside : (c : ℕ) → c < cell_count rc → c < size
    inside c l = omega (arith, run-count)

    pub below : (c : ℕ) → c < size → from + c < cell_count G.cells
    below c l = omega (arith, N.within)

    -- faces and edges of the run's cells are those of the whole
    pub face_there : (a r b s : ℕ) → a < size → b < size → SameFace rc a r b s → SameFace G.cells (from + a) r (from + b) s
    face_there a r b s la lb h i l = sym (node_at a (position r i) la (corner_lt r i l)) ∙ h i l ∙ node_at b (position s i) lb (corner_lt s i l)

    pub face_here : (a r b s : ℕ) → a < size → b < size → SameFace G.cells (from + a) r (from + b) s → SameFace rc a r b s
    face_here a r b s la lb h i l = node_at a (position r i) la (corner_lt r i l) ∙ h i l ∙ sym (node_at b (position s i) lb (corner_lt s i l))

    lo_lt : (k : ℕ) → k < 6 → lo k < 4
    lo_lt k l = let t = two_slots k l in omega (arith, t.rising, t.within)

    edge_here : (c k e : ℕ) → c < size → k < 6 → e < length rn → EdgeIs G (from + c) k (at e) → EdgeIs RG c k e
    edge_here c k e l lk le E = record {
      low_is = low_at e le ∙ E.low_is ∙ sym (node_at c (lo k) l (lo_lt k lk));
      high_is = high_at e le ∙ E.high_is ∙ sym (node_at c (hi k) l (two_slots k lk).within);
    }

    edge_there : (c k e : ℕ) → c < size → k < 6 → e < length rn → EdgeIs RG c k e → EdgeIs G (from + c) k (at e)
    edge_there c k e l lk le E = record {
      low_is = sym (low_at e le) ∙ E.low_is ∙ node_at c (lo k) l (lo_lt k lk);
      high_is = sym (high_at e le) ∙ E.high_is ∙ node_at c (hi k) l (two_slots k lk).within;
    }

    listed : (c k : ℕ) → c < size → k < 6 → (e : ℕ) × (e < length rn) × EdgeIs RG c k e
    unfolding in_run has_edge
    listed c k l lk =
        let (E, lE, is) = S.listed (from + c) k (below c l) lk in
        let (e, le, q) = at_all E lE (some_found (λ c. has_edge G E (from + c)) size c l (some_found (λ j. is_edge G (from + c) j E) 6 k lk (true_edge G (from + c) k E is))) in
        (e, le, edge_here c k e l lk le (subst (EdgeIs G (from + c) k) (sym q) is))

    used : (e : ℕ) → e < length rn → (c : ℕ) × (k : ℕ) × (c < cell_count rc) × (k < 6) × EdgeIs RG c k e
    unfolding in_run has_edge
    used e l =
        let (c, lc, h) = some_is (λ c. has_edge G (at e) (from + c)) size (at_in e l) in
        let (k, lk, q) = some_is (λ j. is_edge G (from + c) j (at e)) 6 h in
        (c, k, omega (arith, lc, run-count), lk, edge_here c k e lc lk l (edge_true G (from + c) k (at e) q))

    pub run-sound : Sound RG
    unfolding starts_of
    run-sound = record {
      fours = omega (arith, run_length);
      some_cell = omega (arith, run-count, N.some_cell);
      few_cells = omega (arith, run-count, S.few_cells, N.within);
      pairs = many-edges;
      starts_long = length_singles (start rn) (length rn) 0;
      starts_are = λ e l. values_at (start rn) (length rn) e 0 l;
      within = λ c i l h. omega (arith, node_at c i (inside c l) h, S.within (from + c) i (below c (inside c l)) h);
      increasing = λ c i j l h k. omega (arith, node_at c i (inside c l) (omega arith), node_at c j (inside c l) k, S.increasing (from + c) i j (below c (inside c l)) h k);
      distinct = λ c d lc ld h.
          omega (arith, S.distinct (from + c) (from + d) (below c (inside c lc)) (below d (inside d ld)) (λ i k. sym (node_at c i (inside c lc) k) ∙ h i k ∙ node_at d i (inside d ld) k));
      third = λ a b c r s t la lb lc lr ls lt f g ab ac bc.
          S.third (from + a) (from + b) (from + c) r s t (below a (inside a la)) (below b (inside b lb)) (below c (inside c lc)) lr ls lt
          (face_there a r b s (inside a la) (inside b lb) f) (face_there a r c t (inside a la) (inside c lc) g)
          (λ e. ab (omega arith)) (λ e. ac (omega arith)) (λ e. bc (omega arith));
      ends = λ e l. omega (arith, low_at e l, high_at e l, S.ends (at e) (at_lt e l));
      sorted = λ d e h l.
          rw (low_at d (omega arith), high_at d (omega arith), low_at e l, high_at e l) (S.sorted (at d) (at e) (at_rises d e h l) (at_lt e l));
      counts_within = λ e l. omega (arith, count-at e l, S.counts_within (at e) (at_lt e l));
      listed = λ c k l lk. listed c k (inside c l) lk;
      used = used;
      few_crossings = omega (arith, crossings_le, S.few_crossings);
    }

    -- edge k of a cell of the run has there the number of that in the whole
    module _ (c k : ℕ) (l : c < size) (lk : k < 6) where
      pub number_lt : edge_number RG c k < length rn
      number_lt = (edge_numbers RG run-sound).listed c k (omega (arith, run-count)) lk

      pub number_at : at (edge_number RG c k) ≡ edge_number G (from + c) k
      number_at =
          sym ((edge_numbers G S).only (from + c) k (at (edge_number RG c k)) (below c l) lk (at_lt (edge_number RG c k) number_lt)
          (edge_there c k (edge_number RG c k) l lk number_lt ((edge_numbers RG run-sound).is c k (omega (arith, run-count)) lk)))

    -- a face's name in the run leads to its name in the whole
    pub face_at : (c s : ℕ) → c < size → s < 4 → face_in_whole G from size (face_name rc c s) ≡ face_name G.cells (from + c) s
    unfolding face_in_whole
    face_at c s l ls =
        let f = face_name rc c s in
        let lc : c < cell_count rc = omega (arith, run-count) in
        let lf : face_name rc c s / 4 < size = omega (arith, name_lt rc c s lc ls, run-count) in
        named_same G.cells (from + face_name rc c s / 4) (face_name rc c s % 4) (from + c) s (face_there (face_name rc c s / 4) (face_name rc c s % 4) c s lf l (named rc c s lc ls))

    faces_once : (c s d t : ℕ) → c < size → d < size → s < 4 → t < 4
        → face_in_whole G from size (face_name rc c s) ≡ face_in_whole G from size (face_name rc d t) → face_name rc c s ≡ face_name rc d t
    faces_once c s d t lc ld ls lt e =
        named_same rc c s d t (face_here c s d t lc ld
        (same_named G.cells (from + c) s (from + d) t (below c lc) (below d ld) ls lt (sym (face_at c s lc ls) ∙ e ∙ face_at d t ld lt)))

    names : NamesLaws G from size
    names = record {
      edges_rise = at_rises;
      edge_within = at_lt;
      count = count-at;
      edge = number_at;
      crossing = crossing-at;
      crossings_rise = crossing_order;
      crossing_within = crossing_lt;
      face = face_at;
      faces_once = faces_once;
    }

pub run_sound : RunSound
run_sound G from size S N = run-sound G from size S N

pub names_kept : NamesKept
names_kept G from size S N = names G from size S N
