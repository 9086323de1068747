-- What each phase of the check leaves to the next; and new tables.
use Rattle.std.specs.Prelude.{None}
use Prim.Native.Nat.{ℕ, ◌*◌, ◌+◌, ◌/◌, ◌%◌, ◌<◌, ◌≤◌}
use mathlib.Core.Path.{◌≡◌, sym}
use mathlib.Core.Logic.{⊎_elim}
use mathlib.Core.List.{List}
use native.Mathlib.Omega.{arith}
use lib.Dec.{eqb}
use lib.ListN.{get_or, length, length-replicate, replicate}
use borrow.Author.Tests.{eqb-false}
use Rattle.counting.specs.work.Search.{found}
use Rattle.counting.proofs.Tables.{zeros}
use Rattle.counting.proofs.Search.{first_none, found_none, some_none}
use Rattle.grid.specs.Grid.{Before, Grid, cell_count, high, low}
use Rattle.grid.specs.Rows.{bad_edge, unlisted, unused}
use Rattle.grid.specs.work.Runs.{Blanked, SidesPlaceable, SidesPlaced, Tallied, Talliable}
use Rattle.grid.specs.work.Walks.{ChainTables, Fresh}
use Rattle.grid.specs.declared.scratch.Chain.{Chain}
use Rattle.grid.specs.work.Held.{NewChain, Sized}
use Rattle.grid.specs.work.Work.{Blank, Edging, Linkable, OneEach, Siding, Usable, Using, blank_in, listed_at}
use Rattle.counting.specs.work.Tables.{Table}
use Rattle.grid.proofs.Blocks.{found_same}
use Rattle.grid.proofs.Sides.{listed_table, placed_below, unlisted_blank}
use Rattle.grid.proofs.Sorted.{same-edge, sorted_edges}

-- new tables for N cells have room for n
pub fresh_zeros : (m N : ℕ) → m ≤ N → Fresh m (replicate N 0)
fresh_zeros m N h = record { room = omega (arith, length-replicate {A = ℕ} N 0); blank = zeros N }

-- a table that is cleared is new again
pub fresh_again : {m N : ℕ} {l : List ℕ} → m ≤ N → length l ≡ N → Blanked l → Fresh m l
fresh_again h e z = record { room = omega arith; blank = z }

pub fresh_less : {m N : ℕ} {l : List ℕ} → m ≤ N → Fresh N l → Fresh m l
fresh_less h f = record { room = omega (arith, f.room); blank = f.blank }

pub blank_tables : (n S E : ℕ) → 4 * n ≤ S → 6 * n ≤ E → Blank n (replicate S 0) (replicate E 0)
blank_tables n S E h l = record { near_new = fresh_zeros (4 * n) S h; sides_new = fresh_zeros (6 * n) E l }

pub chains_new : {cells slots labels edges n : ℕ} (a b d : Chain labels cells) → Sized cells slots labels edges → n ≤ cells
    → NewChain a → NewChain b → NewChain d → ChainTables n a.head a.next b.head b.next d.head d.next
chains_new a b d s h x y z = record {
  h0_new = fresh_less (omega (arith, s.labels_are)) x.0;
  h1_new = fresh_less (omega (arith, s.labels_are)) y.0;
  h2_new = fresh_less (omega (arith, s.labels_are)) z.0;
  x0_room = omega (arith, x.1.room);
  x1_room = omega (arith, y.1.room);
  x2_room = omega (arith, z.1.room);
}

-- rows 6 and 7
pub edging_siding : {G : Grid} {near ranks h0 x0 h1 x1 h2 x2 tab top degree marks sides : List ℕ} → Edging G near ranks h0 x0 h1 x1 h2 x2 tab top degree marks sides
    → None ≡ found (bad_edge G.edges) (length G.counts) → Siding G near ranks h0 x0 h1 x1 h2 x2 tab top degree marks sides
edging_siding {G} E h = record { edging = E; fine = first_none (bad_edge G.edges) (length G.counts) (omega (arith, found_none _ _ h)) }

module _ {G : Grid} {near ranks h0 x0 h1 x1 h2 x2 tab top degree marks sides : List ℕ} (S : Siding G near ranks h0 x0 h1 x1 h2 x2 tab top degree marks sides) where
  rising_edges : (d e : ℕ) → d < e → e < length G.counts → Before (low G.edges d) (high G.edges d) (low G.edges e) (high G.edges e)
  rising_edges = sorted_edges G.edges (length G.counts) S.fine

  one_each : OneEach G
  one_each = same-edge G.edges (length G.counts) rising_edges

  pub siding_placeable : SidesPlaceable G.cells G.edges (length G.counts) ranks h0 x0 h1 x1 h2 x2 tab sides
  siding_placeable = record {
    chained = S.edging.chained;
    few = S.edging.ordered.few;
    nodes = S.edging.ordered.nodes;
    ends = omega (arith, S.edging.pairs);
    sorted = λ d e h l. ⊎_elim (λ (p : low G.edges d < low G.edges e). omega arith)
        (λ (p : (low G.edges d ≡ low G.edges e) × (high G.edges d < high G.edges e)). omega (arith, p.0)) (rising_edges d e h l);
    tab_room = omega (arith, S.edging.tables.tab_new.room);
    tab_blank = S.edging.tables.tab_new.blank;
    room = S.edging.sides_new.room;
    blank = S.edging.sides_new.blank;
  }

  module _ {sides' : List ℕ} (w : SidesPlaced G.cells G.edges (length G.counts) sides') where
    pub siding_blank : found (blank_in sides') (cell_count G.cells) ≡ found (unlisted G) (cell_count G.cells)
    siding_blank = found_same _ _ _ (sym (unlisted_blank G one_each sides' w))

    pub siding_talliable : length sides' ≡ length sides → Talliable sides' (6 * cell_count G.cells) top degree
    siding_talliable el = record {
      keyed = omega (arith, el, S.edging.sides_new.room);
      small = omega (arith, S.edging.ordered.few);
      below = λ j h. omega (arith, placed_below G one_each sides' w j h, S.edging.tables.top_new.room);
      long = S.edging.tables.long;
      top_blank = S.edging.tables.top_new.blank;
      degree_blank = S.edging.tables.degree_new.blank;
    }

    pub siding_using : {top' degree' : List ℕ} → length sides' ≡ length sides → None ≡ found (blank_in sides') (cell_count G.cells)
        → Tallied sides' (length top) (6 * cell_count G.cells) top' degree' → Using G near sides' top' degree' marks
    unfolding blank_in
    siding_using el none T = record {
      ordered = S.edging.ordered;
      near_is = S.edging.near_is;
      room = omega (arith, el, S.edging.sides_new.room);
      placed = w;
      full = λ j h.
          let q : 6 * (j / 6) + j % 6 ≡ j = omega arith in
          let b = some_none (λ k. eqb (get_or sides' (6 * (j / 6) + k) 0) 0) 6 (first_none (blank_in sides') (cell_count G.cells) (omega (arith, found_none _ _ none)) (j / 6) (omega arith)) (j % 6) (omega arith) in
          let z = eqb-false (get_or sides' j 0) 0 (rw q at b) in
          omega arith;
      one = one_each;
      T = length top;
      within = omega (arith, S.edging.tables.top_new.room);
      tallied = T;
      marks_new = S.edging.tables.marks_new;
    }

-- rows 8 and 9
module _ {G : Grid} {near sides top degree marks : List ℕ} (U : Using G near sides top degree marks) where
  pub using_table : length G.counts ≤ 6 * cell_count G.cells → Table (listed_at G) (6 * cell_count G.cells) sides
  using_table h = listed_table G U.one sides U.placed U.room h

  pub using_usable : Usable G sides top
  using_usable = record {
    few = U.ordered.few;
    placed = U.placed;
    one = U.one;
    room = omega (arith, U.tallied.top_room, U.within);
    tops = λ t h. U.tallied.tops t (omega (arith, U.within));
  }

  pub using_linkable : None ≡ found (unused G) (length G.counts) → length G.counts ≤ 6 * cell_count G.cells → Linkable G near sides top degree marks
  using_linkable none h = record {
    ordered = U.ordered;
    near_is = U.near_is;
    sided = using_table h;
    full = U.full;
    one = U.one;
    few = h;
    T = U.T;
    within = omega (arith, U.within);
    tallied = U.tallied;
    used = first_none (unused G) (length G.counts) (omega (arith, found_none _ _ none));
    marks_new = U.marks_new;
  }
