-- The edges of the triangles in the list of edges: rows 7 and 8.
use Rattle.std.specs.Prelude.{Option}
use Prim.Native.Nat.{ℕ, ◌+◌, ◌*◌, ◌-◌, ◌/◌, ◌%◌, ◌<◌, ◌≤◌, min}
use mathlib.Core.Path.{◌∙◌, ◌≡◌, ap, sym}
use mathlib.Core.Bool.{not}
use mathlib.Core.List.{List}
use native.Mathlib.Omega.{arith}
use lib.Dec.{eqb}
use lib.ListN.{get_or, length, length-replicate, replicate}
use borrow.Author.Tests.{eqb-false}
use Rattle.counting.specs.Search.{first, some}
use Rattle.counting.specs.work.Search.{found}
use Rattle.counting.specs.Stored.{filled}
use Rattle.counting.proofs.Bools.{eqb_comm}
use Rattle.counting.proofs.Tables.{filled_table, zeros}
use Rattle.counting.proofs.Search.{first_blocks, first_ext, first_le, first_none, some_blocks, some_ext}
use Rattle.counting.proofs.Stored.{filled_at, length_filled}
use Rattle.slots.specs.Slots.{lower, upper}
use Rattle.grid.specs.Grid.{high, joins, low}
use Rattle.grid.specs.work.Shared.{key_room, keyless, placed_at, with_key, edge_key}
use Rattle.counting.specs.work.Tables.{Table, same_key}
use Rattle.grid.specs.work.Work.{found_at}
use Rattle.grid.proofs.Packed.{join_eqb}
use Rattle.grid.proofs.Sides.{found_more, found_zero}
use Rattle.flat.specs.FlatGrid.{FlatGrid, edge_number, has_edge, is_edge, node, triangles_in}
use Rattle.flat.specs.work.Work.{most_sides, PastRow3, RisingTriangles, SidesKnown, side_key}
use Rattle.flat.specs.Rows.{unlisted, unused}
use Rattle.flat.proofs.Accepts.{pairs_fine}
use Rattle.flat.proofs.Keys.{side-at}

module _ (G : FlatGrid) (good : RisingTriangles G.triangles) (small : (i : ℕ) → get_or G.edges i 0 < 65536)
    (keys : List ℕ) (w : Table (side_key G.triangles) (3 * triangles_in G.triangles) keys) where
  abbrev F : ℕ
  F = triangles_in G.triangles

  abbrev m : ℕ
  m = length G.counts

  is_side : (f k e : ℕ) → f < F → k < 3 → eqb (edge_key G.edges e) (get_or keys (3 * f + k) 0) ≡ is_edge G f k e
  unfolding is_edge joins edge_key
  is_side f k e h l =
      rw (w.at (3 * f + k) (omega arith), side-at G.triangles f k l)
      (join_eqb (low G.edges e) (high G.edges e) (node G.triangles f (lower k)) (node G.triangles f (upper k)) (small (2 * e + 1)) (good.small (3 * f + upper k)))

  -- row 8: an edge whose key is none of theirs
  unused_at : (e : ℕ) → keyless G.edges keys (3 * F) e ≡ unused G e
  unfolding keyless unused has_edge same_key
  unused_at e =
      ap not (some_blocks (λ j. eqb (get_or keys j 0) (edge_key G.edges e)) 3 F
      ∙ some_ext (λ f. some (λ k. eqb (get_or keys (3 * f + k) 0) (edge_key G.edges e)) 3) (λ f. some (λ k. is_edge G f k e) 3) F
      (λ f h. some_ext (λ k. eqb (get_or keys (3 * f + k) 0) (edge_key G.edges e)) (λ k. is_edge G f k e) 3
      (λ k l. eqb_comm (get_or keys (3 * f + k) 0) (edge_key G.edges e) ∙ is_side f k e h l)))

  pub unused_first : first (keyless G.edges keys (3 * F)) m ≡ first (unused G) m
  unused_first = first_ext (keyless G.edges keys (3 * F)) (unused G) m (λ e h. unused_at e)

  module _ (placed : List ℕ) (v : Table (placed_at G.edges m keys (replicate most_sides 0)) (3 * F) placed) where
    placed_is : (f k : ℕ) → f < F → k < 3 → get_or placed (3 * f + k) 0 ≡ found_at m (edge_number G f k)
    unfolding placed_at with_key edge_number
    placed_is f k h l =
        v.at (3 * f + k) (omega arith)
        ∙ rw (zeros most_sides (3 * f + k)) (ap (found_at m) (first_ext (λ e. eqb (edge_key G.edges e) (get_or keys (3 * f + k) 0)) (is_edge G f k) m (λ e z. is_side f k e h l)))

    unlisted_at : (f : ℕ) → f < F → some (λ k. eqb (get_or placed (3 * f + k) 0) 0) 3 ≡ unlisted G f
    unfolding unlisted edge_number
    unlisted_at f h =
        some_ext (λ k. eqb (get_or placed (3 * f + k) 0) 0) (λ k. not (some (is_edge G f k) m)) 3
        (λ k l. ap (λ x. eqb x 0) (placed_is f k h l) ∙ sym (found_zero (is_edge G f k) m))

    -- row 7: the first entry that is 0
    pub unlisted_first : first (λ j. eqb (get_or placed j 0) 0) (3 * F) / 3 ≡ first (unlisted G) F
    unlisted_first =
        first_blocks (λ j. eqb (get_or placed j 0) 0) 3 F (omega arith) ∙ first_ext (λ f. some (λ k. eqb (get_or placed (3 * f + k) 0) 0) 3) (unlisted G) F unlisted_at

    -- where none is, each less 1 is the edge's number
    pub sided : (r : ℕ) {sides : List ℕ} → r ≡ first (λ j. eqb (get_or placed j 0) 0) (3 * F) → F ≤ r / 3 → sides ≡ filled (λ j. get_or placed j 0 - 1) r placed → SidesKnown G sides
    sided r {sides} q l e = record { room = omega (arith, v.room, ap length e, length_filled (λ j. get_or placed j 0 - 1) r placed); at = at }
      where
        some_entry : (j : ℕ) → j < 3 * F → get_or placed j 0 ≡ 0 → ⊥
        some_entry j h = eqb-false (get_or placed j 0) 0 (first_none (λ j. eqb (get_or placed j 0) 0) (3 * F) (omega arith) j h)

        at : (j : ℕ) → j < 3 * F → get_or sides j 0 ≡ edge_number G (j / 3) (j % 3)
        at j h =
            let z : 3 * (j / 3) + j % 3 ≡ j = omega arith in
            let p : get_or placed j 0 ≡ found_at m (edge_number G (j / 3) (j % 3)) = rw z at (placed_is (j / 3) (j % 3) (omega arith) (omega arith)) in
            ap (λ l. get_or l j 0) e ∙ filled_at (λ j. get_or placed j 0 - 1) r placed 0 (omega (arith, v.room, first_le (λ j. eqb (get_or placed j 0) 0) (3 * F))) j (omega arith)
            ∙ found_more m (edge_number G (j / 3) (j % 3)) p (some_entry j h)

-- what `edge_places` answers and writes, over an empty table with room for all
module _ (G : FlatGrid) {empty : List ℕ} (P : PastRow3 G empty) (small : (i : ℕ) → get_or G.edges i 0 < 65536)
    (keys : List ℕ) (w : Table (side_key G.triangles) (3 * triangles_in G.triangles) keys) (all : length keys ≡ most_sides) where
  room_is : key_room (min (3 * triangles_in G.triangles) (length keys)) (length empty) ≡ 3 * triangles_in G.triangles
  unfolding key_room
  room_is = omega (arith, P.rising.few, ap length P.blank, length-replicate {A = ℕ} most_sides 0)

  half : length G.edges / 2 ≡ length G.counts
  half = omega (arith, pairs_fine G.edges G.counts P.pairs)

  pub row_8_is : {r : Option ℕ} → r ≡ found (keyless G.edges keys (key_room (min (3 * triangles_in G.triangles) (length keys)) (length empty))) (length G.edges / 2)
      → r ≡ found (unused G) (length G.counts)
  unfolding found
  row_8_is q = q ∙ rw (room_is, half, unused_first G P.rising small keys w)

  pub placed_table : {placed : List ℕ}
      → placed ≡ filled (placed_at G.edges (length G.edges / 2) keys empty) (key_room (min (3 * triangles_in G.triangles) (length keys)) (length empty)) empty
      → Table (placed_at G.edges (length G.counts) keys (replicate most_sides 0)) (3 * triangles_in G.triangles) placed
  placed_table q = filled_table _ _ (replicate most_sides 0) _ (q ∙ rw (room_is, half, P.blank)) (omega (arith, P.rising.few, length-replicate {A = ℕ} most_sides 0))
