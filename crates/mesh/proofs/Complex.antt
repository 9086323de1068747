-- An accepted grid is a complex whose cells share whole faces; and each of its cells is fit for a split.
use Prim.Native.Nat.{ℕ, ◌+◌, ◌*◌, ◌/◌, ◌≤◌, ◌<◌}
use mathlib.Core.Path.{◌≡◌, refl, sym, ap, ap₂, ◌∙◌, subst}
use mathlib.Core.Logic.{◌⊎◌, inl, inr, ⊎_elim}
use native.Mathlib.Omega.{arith}
use native.Mathlib.Decide.{dec_lt}
use lib.ListN.{length}
use Rattle.counting.proofs.Below.{rising_once}
use Rattle.counting.proofs.Lists.{values_at}
use Rattle.counting.proofs.Pack.{pre_le}
use Rattle.counting.proofs.Search.{first_ext}
use Rattle.slots.specs.Limits.{most_count}
use Rattle.slots.specs.Slots.{lo, hi, position, lower, upper, slot_edge, edge_rank, first_slot, second_slot}
use Rattle.slots.proofs.Slots.{slot-edge, face_ends, same_slot, corner_lt}
use Rattle.face.specs.claims.Claims.{unjoined}
use Rattle.face.specs.Face.{face_join}
use Rattle.walk.specs.Darts.{half}
use Rattle.walk.proofs.Step.{face_first, face_second}
use Rattle.cell.specs.Cell as cell
use Rattle.cell.specs.Cell.{Edges, crossings, edge, index, number, mate, join_at}
use Rattle.cell.specs.claims.Claims.{Separate}
use Rattle.cell.specs.Loop.{in_grid}
use Rattle.cell.proofs.Lay.{lay}
use Rattle.cell.proofs.Mates.{mate_joined}
use Rattle.cell.proofs.Route.{count_listed}
use Rattle.cell.proofs.Claims.{ordered, rising_separate}
use Rattle.mesh.proofs.Joins.{three, On, index_in, num_lt, num_edge, num_index, num_place, is_num, JoinFound, joined_or, on_dart}
use Rattle.cell.specs.Of as triangles
use Rattle.cell.specs.Triangles.{number_of}
use Rattle.cell.proofs.Polygons.{local_of, piece}
use Rattle.manifold.specs.claims.Piece.{Local, Piece, slot_of, mate_of}
use Rattle.manifold.specs.claims.Complex.{Complex}
use Rattle.manifold.specs.work.Faces.{Match, Faced}
use Rattle.grid.specs.Grid.{Grid, cell_count, node, face_name, joins, is_edge, edge_number, count_of, start}
use Rattle.grid.specs.claims.Accepted.{SameFace, Sound}
use Rattle.grid.proofs.Sound.{edge_numbers}
use Rattle.grid.proofs.Names.{name_lt, same_named}
use Rattle.mesh.specs.Mesh.{grid_cell}
use Rattle.cell.proofs.Values.{past_end}
use Rattle.split.specs.claims.Owned.{cell_complex, Fit}

module _ (G : Grid) where
  -- the number of edge k of cell c, and the edges of the cell
  abbrev pub en : ℕ → ℕ → ℕ
  en c k = edge_number G c k

  abbrev pub w : ℕ → Edges
  w c = triangles.edges_of (grid_cell G c)

  abbrev pub at : ℕ → Local
  at c = local_of (grid_cell G c)

  -- the cells as they are, whether they are split or not
  abbrev pub cells_of : Complex
  cells_of = cell_complex (cell_count G.cells) (grid_cell G)

  -- the start of an edge and the face name of a slot of cell c
  pub start-of : (c k : ℕ) → k < 6 → (w c).start k ≡ start G.counts (en c k)
  unfolding grid_cell
  start-of c k l = values_at (λ k. start G.counts (en c k)) 6 k 0 l

  pub name_of : (c s : ℕ) → s < 4 → (at c).name s ≡ face_name G.cells c s
  unfolding grid_cell
  name_of c s l = values_at (face_name G.cells c) 4 s 0 l

  -- the crossing number of crossing x of cell c
  pub number-of : (c x : ℕ) → x < crossings (w c) → (at c).number x ≡ start G.counts (en c (edge (w c) x)) + index (w c) x
  unfolding number_of in_grid
  number-of c x l = ap (λ n. n + index (w c) x) (start-of c (edge (w c) x) ((lay (w c)).edge_lt x l))

  pub start_le : (a b : ℕ) → a < b → start G.counts a + count_of G.counts a ≤ start G.counts b
  unfolding start
  start_le a b h = pre_le (count_of G.counts) 0 a b h

  module _ (S : Sound G) where
    -- no count is above the limit, so the count of an edge of cell c is the listed one
    few : (e : ℕ) → count_of G.counts e ≤ most_count
    few e = elim (dec_lt e (length G.counts)) [ yes h ↦ S.counts_within e h | no h ↦ omega (arith, past_end G.counts e (omega arith)) ]

    pub count-of : (c k : ℕ) → k < 6 → (w c).count k ≡ count_of G.counts (en c k)
    unfolding grid_cell
    count-of c k l =
        let q = values_at (λ k. count_of G.counts (en c k)) 6 k 0 l in
        count_listed (grid_cell G c) k (rw q (few (en c k))) ∙ q

    -- no crossing number belongs to two edges of a cell, so the crossing numbers of a cell rise
    pub separate : (c : ℕ) → c < cell_count G.cells → Separate (w c)
    separate c lc = rising_separate (w c)
        (λ j k h lk. omega (arith, start-of c j (omega arith), start-of c k lk, count-of c j (omega arith), start_le (en c j) (en c k) ((edge_numbers G S).rising c j k lc h lk)))

    number_rises : (c : ℕ) → c < cell_count G.cells → (x y : ℕ) → x < y → y < crossings (w c) → (at c).number x < (at c).number y
    unfolding number_of
    number_rises c lc = (ordered (w c) (separate c lc)).numbers

    pub number_once : (c : ℕ) → c < cell_count G.cells → (x y : ℕ) → x < crossings (w c) → y < crossings (w c) → (at c).number x ≡ (at c).number y → x ≡ y
    number_once c lc = rising_once (at c).number (crossings (w c)) (number_rises c lc)

    names_once : (c : ℕ) → c < cell_count G.cells → (s t : ℕ) → s < 4 → t < 4 → (at c).name s ≡ (at c).name t → s ≡ t
    names_once c lc s t ls lt e =
        let h = same_named G.cells c s c t lc lc ls lt (sym (name_of c s ls) ∙ e ∙ name_of c t lt) in
        same_slot s t ls lt (λ i l. rising_once (node G.cells c) 4 (λ a b. S.increasing c a b lc) (position s i) (position t i) (corner_lt s i l) (corner_lt t i l) (h i l))

    -- crossing numbers are below 65,536, and face names below 8,192
    pub fit : (c : ℕ) → c < cell_count G.cells → Fit (grid_cell G c)
    unfolding start
    fit c lc = record {
      separate = separate c lc;
      names = names_once c lc;
      below = λ k t lk lt.
          omega (arith, start-of c k lk, count-of c k lk, pre_le (count_of G.counts) 0 (en c k) (length G.counts) ((edge_numbers G S).listed c k lc lk), S.few_crossings);
      under = λ s ls. omega (arith, name_of c s ls, name_lt G.cells c s lc ls, S.few_cells);
    }

    piece_is : (c : ℕ) → c < cell_count G.cells → Piece (at c)
    piece_is c lc = piece (grid_cell G c) (record { numbers = number_once c lc; names = names_once c lc })

    -- two cells that share a face have the same edges there, and so the same counts and the same segments
    module _ (a b r s : ℕ) (lr : r < 4) (ls : s < 4) (h : SameFace G.cells a r b s) where
      same-edge : (j : ℕ) → j < 3 → en a (slot_edge r j) ≡ en b (slot_edge s j)
      unfolding edge_number is_edge
      same-edge j l =
          let u = slot-edge r j lr l in
          let v = slot-edge s j ls l in
          let e = face_ends j l in
          let x : node G.cells a (lo (slot_edge r j)) ≡ node G.cells b (lo (slot_edge s j)) = ap (node G.cells a) u.lo_is ∙ h (lower j) (omega arith) ∙ ap (node G.cells b) (sym v.lo_is) in
          let y : node G.cells a (hi (slot_edge r j)) ≡ node G.cells b (hi (slot_edge s j)) = ap (node G.cells a) u.hi_is ∙ h (upper j) (omega arith) ∙ ap (node G.cells b) (sym v.hi_is) in
          first_ext (is_edge G a (slot_edge r j)) (is_edge G b (slot_edge s j)) (length G.counts) (λ e m. ap₂ (λ p q. joins G.edges p q e) x y)

      same_count : (j : ℕ) → j < 3 → three (w a) r j ≡ three (w b) s j
      same_count j l =
          count-of a (slot_edge r j) (slot-edge r j lr l).lt ∙ ap (count_of G.counts) (same-edge j l) ∙ sym (count-of b (slot_edge s j) (slot-edge s j ls l).lt)

      same_join : (j i : ℕ) → face_join (three (w a) r 0) (three (w a) r 1) (three (w a) r 2) j i ≡ face_join (three (w b) s 0) (three (w b) s 1) (three (w b) s 2) j i
      same_join j i =
          ap (λ n. face_join n (three (w a) r 1) (three (w a) r 2) j i) (same_count 0 (omega arith))
          ∙ ap (λ n. face_join (three (w b) s 0) n (three (w a) r 2) j i) (same_count 1 (omega arith))
          ∙ ap (λ n. face_join (three (w b) s 0) (three (w b) s 1) n j i) (same_count 2 (omega arith))

      -- the crossing with index i on edge j of the face has one number in both
      same_number : (j i : ℕ) → j < 3 → i < three (w a) r j → (at b).number (number (w b) (slot_edge s j) i) ≡ (at a).number (number (w a) (slot_edge r j) i)
      same_number j i lj li =
          let lb : i < three (w b) s j = subst (λ n. i < n) (same_count j lj) li in
          number-of b (number (w b) (slot_edge s j) i) (num_lt (w b) s j i ls lj lb)
          ∙ ap₂ (λ k m. start G.counts (en b k) + m) (num_edge (w b) s j i ls lj lb) (num_index (w b) s j i ls lj lb)
          ∙ ap (λ e. start G.counts e + i) (sym (same-edge j lj))
          ∙ sym (number-of a (number (w a) (slot_edge r j) i) (num_lt (w a) r j i lr lj li)
          ∙ ap₂ (λ k m. start G.counts (en a k) + m) (num_edge (w a) r j i lr lj li) (num_index (w a) r j i lr lj li))

      -- crossing x of cell a stands in cell b as y
      module _ (x : ℕ) (o : On (w a) r x) where
        j : ℕ
        j = edge_rank r (edge (w a) x)

        i : ℕ
        i = index (w a) x

        lj : j < 3
        unfolding j
        lj = o.slot.place_lt

        li : i < three (w a) r j
        unfolding i j
        li = index_in (w a) o

        lb : i < three (w b) s j
        lb = subst (λ n. i < n) (same_count j lj) li

        y : ℕ
        unfolding i j
        y = number (w b) (slot_edge s j) i

        y_lt : y < crossings (w b)
        unfolding y
        y_lt = num_lt (w b) s j i ls lj lb

        y_edge : edge (w b) y ≡ slot_edge s j
        unfolding y
        y_edge = num_edge (w b) s j i ls lj lb

        y_number : (at b).number y ≡ (at a).number x
        unfolding y i j
        y_number = same_number j i lj li ∙ ap (at a).number (is_num (w a) o)

        y_join : join_at (w b) s y ≡ join_at (w a) r x
        unfolding join_at y
        y_join =
            ap₂ (face_join (three (w b) s 0) (three (w b) s 1) (three (w b) s 2)) (num_place (w b) s j i ls lj lb) (num_index (w b) s j i ls lj lb)
            ∙ sym (unfold i j in same_join j i)

        y_mate : mate (w a) r x < crossings (w a) → (mate (w b) s y < crossings (w b)) × ((at b).number (mate (w b) s y) ≡ (at a).number (mate (w a) r x))
        y_mate l = go (joined_or (w a) o)
          where
            go : JoinFound (w a) r x ⊎ ((join_at (w a) r x ≡ unjoined) × (mate (w a) r x ≡ crossings (w a)))
                → (mate (w b) s y < crossings (w b)) × ((at b).number (mate (w b) s y) ≡ (at a).number (mate (w a) r x))
            go (inr u) = absurd (omega (arith, u.1))
            go (inl g) =
                let m : mate (w b) s y ≡ number (w b) (slot_edge s g.j) g.i = mate_joined (w b) s y (y_join ∙ g.join) in
                let gb : g.i < three (w b) s g.j = subst (λ n. g.i < n) (same_count g.j g.j_lt) g.i_lt in
                (rw m (num_lt (w b) s g.j g.i ls g.j_lt gb), ap (at b).number m ∙ same_number g.j g.i g.j_lt g.i_lt ∙ ap (at a).number (sym g.is))

        match : (d : ℕ) → half d ≡ x → slot_of (at a) d ≡ r → Match (at a) (at b) s d
        match d hx hr =
            ⊎_elim
            (λ (u : first_slot (slot_edge s j) ≡ s). make (2 * y) (omega arith) (omega (arith, y_lt)) (face_first (crossings (w b)) (cell.first_slot_at (w b)) (cell.second_slot_at (w b)) (mate (w b)) y ∙ ap first_slot y_edge ∙ u))
            (λ (u : second_slot (slot_edge s j) ≡ s). make (2 * y + 1) (omega arith) (omega (arith, y_lt)) (face_second (crossings (w b)) (cell.first_slot_at (w b)) (cell.second_slot_at (w b)) (mate (w b)) y ∙ ap second_slot y_edge ∙ u))
            (slot-edge s j ls lj).on
          where
            make : (e : ℕ) → half e ≡ y → e < 2 * crossings (w b) → slot_of (at b) e ≡ s → Match (at a) (at b) s d
            make e he le fe =
                let ta : mate_of (at a) d ≡ mate (w a) r x = ap₂ (mate (w a)) hr hx in
                let tb : mate_of (at b) e ≡ mate (w b) s y = ap₂ (mate (w b)) fe he in
                record {
                  e = e;
                  lt = le;
                  slot = fe;
                  point = ap (at b).number he ∙ y_number ∙ ap (at a).number (sym hx);
                  mate = λ l. let (u, v) = y_mate (subst (λ z. z < crossings (w a)) ta l) in
                      (subst (λ z. z < crossings (w b)) (sym tb) u, ap (at b).number tb ∙ v ∙ ap (at a).number (sym ta));
                }

    pub faced : Faced cells_of
    faced = record {
      piece = piece_is;
      tags = λ a b la lb e. e;
      few = λ a b c r s t la lb lc lr ls lt p q. S.third a b c r s t la lb lc lr ls lt
          (same_named G.cells a r b s la lb lr ls (sym (name_of a r lr) ∙ p ∙ name_of b s ls))
          (same_named G.cells a r c t la lc lr lt (sym (name_of a r lr) ∙ q ∙ name_of c t lt));
      agree = λ a b s d la lb ls ld q.
          let o = on_dart (w a) d ld in
          let r = slot_of (at a) d in
          let lr = o.slot.lt in
          match a b r s lr ls (same_named G.cells a r b s la lb lr ls (sym (name_of a r lr) ∙ q ∙ name_of b s ls)) (d / 2) o d refl refl;
    }
