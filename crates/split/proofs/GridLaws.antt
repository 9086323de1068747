-- The complex of all drawn parts of a grid's cells.
use Prim.Native.Nat.{ℕ, zero, suc, ◌+◌, ◌*◌, ◌≤◌, ◌<◌}
use mathlib.Core.Path.{◌≡◌, refl, sym, ap, ap₂, ◌∙◌, subst}
use mathlib.Core.Bool.{Bool, true, false}
use mathlib.Core.List.{[], ◌∷◌}
use native.Mathlib.Omega.{arith}
use native.Mathlib.Decide.{dec_lt}
use lib.ListN.{length, get_or}
use Rattle.counting.specs.Lists.{tally, pre}
use Rattle.counting.specs.Pack.{row, col}
use Rattle.counting.proofs.Pack.{row_lt, col_lt, unpack, row_pack, col_pack, pack_lt}
use Rattle.walk.specs.Darts.{half}
use Rattle.manifold.specs.claims.Plain.{has_side}
use Rattle.manifold.specs.claims.Piece.{slot_of, segment_of}
use Rattle.manifold.specs.claims.Complex as complex
use Rattle.manifold.specs.claims.Complex.{Complex, Joins, Whole, Lawful, Shut, LinkedAt}
use Rattle.manifold.proofs.Piece.{whole_closes}
use Rattle.manifold.proofs.Claims.{manifold}
use Rattle.slots.specs.Limits.{most_cells}
use Rattle.cell.specs.declared.Cell.{Cell}
use Rattle.cell.specs.Of.{count_of}
use Rattle.cell.specs.claims.Polygons.{local_of}
use Rattle.booking.specs.Booking.{larger, smaller, is_split}
use Rattle.split.specs.Limits.{first_inner_crossing, first_inner_face, word_step}
use Rattle.booking.specs.Figures.{inner_crossings}
use Rattle.split.specs.Parts.{whole, all_parts, no_part, part_cell, drawn_parts}
use Rattle.split.specs.claims.Family.{Family, Meets, PiecesLinked}
use Rattle.split.specs.work.Family.{PiecesSound, Closed, fine}
use Rattle.split.specs.claims.Five.{name_of}
use Rattle.split.specs.claims.Claims.{part_local}
use Rattle.split.specs.Owned.{owned}
use Rattle.split.specs.claims.Owned.{Fit, cell_family, cell_complex, part_count, owned_part, InnerFaces, InnerCrossings, grid_complex, GridLaws, GridSplit}
use Rattle.split.proofs.Lengths.{split_is}
use Rattle.split.proofs.Parts.{parts_numbered, drawn_whole, drawn_all}
use Rattle.split.proofs.Family.{fine_sound, fine_closed, fine_linked}
use Rattle.split.proofs.Shows.{closed}
use Rattle.split.proofs.Grid.{owned_outer, owned_rises, number_below, ready_of, cells_refined}
use Rattle.split.proofs.Owned.{meets_to}
use Rattle.split.proofs.Inner.{inner_numbered}

-- word 0 of part j of a cell
pub word_is : (c : Cell) (j : ℕ) → j < length (drawn_parts c) → (part_cell (get_or (drawn_parts c) j no_part)).index ≡ c.index + word_step * j
unfolding all_parts
word_is c j l = go (is_split (count_of c)) refl
  where
    first : (j : ℕ) → j < 1 → (part_cell (get_or (whole c ∷ []) j no_part)).index ≡ c.index + word_step * j
    first zero h = omega arith
    first (suc j) h = absurd (omega arith)

    go : (s : Bool) → is_split (count_of c) ≡ s → (part_cell (get_or (drawn_parts c) j no_part)).index ≡ c.index + word_step * j
    go false e = subst (λ l. j < length l → (part_cell (get_or l j no_part)).index ≡ c.index + word_step * j) (sym (drawn_whole c e)) (first j) l
    go true e =
        let S = split_is (count_of c) e in
        subst (λ l. j < length l → (part_cell (get_or l j no_part)).index ≡ c.index + word_step * j) (sym (drawn_all c e))
        (λ h. (parts_numbered (larger (count_of c) + smaller (count_of c)) c.index 0 first_inner_crossing first_inner_face c S.level (omega arith) (omega arith)).words j h ∙ omega arith)
        l

-- a complex as a family of pieces
module _ (K : Complex) where
  abbrev pieces : Family
  pieces = record { size = K.pieces; at = K.at }

  sound_of : Lawful K → PiecesSound pieces
  sound_of W = record {
    piece = W.piece;
    few = λ σ a b c la lb lc u v w. W.few a b c u.d v.d w.d la lb lc u.on v.on w.on (u.is ∙ sym v.is) (u.is ∙ sym w.is);
    ends = W.ends;
  }

  closed_of : Shut K → Closed pieces
  closed_of S = record {
    whole = S.full;
    paired = λ a la σ u. let (b, lb, ne, e, on, q) = S.paired a u.d la u.on in (b, lb, ne, record { d = e; on = on; is = q ∙ u.is });
  }

  linked_of : (g : ℕ) → LinkedAt K g → PiecesLinked pieces g
  linked_of g L Q pass a b la lb u v q =
      L Q pass a b (record { lt = la; d = u.d; on = u.on; is = u.is }) (record { lt = lb; d = v.d; on = v.on; is = v.is }) q

module _ (size : ℕ) (cells : ℕ → Cell) (few : size ≤ most_cells) (T : (k : ℕ) → k < size → Fit (cells k)) (I : (k : ℕ) → k < size → (cells k).index ≡ k) where
  abbrev m : ℕ → ℕ
  m = part_count size cells

  tag_is : (x : ℕ) → x < pre (part_count size cells) size → (grid_complex size cells).tag x ≡ row (part_count size cells) size x + word_step * col (part_count size cells) size x
  tag_is x l =
      word_is (cells (row m size x)) (col m size x) (col_lt m size x l) ∙ ap (λ n. n + word_step * col m size x) (I (row m size x) (row_lt m size x l))

  tags : (x y : ℕ) → x < pre (part_count size cells) size → y < pre (part_count size cells) size → (grid_complex size cells).tag x ≡ (grid_complex size cells).tag y → x ≡ y
  tags x y lx ly q =
      let (a, b) = split (row m size x) (col m size x) (row m size y) (col m size y) (omega (arith, row_lt m size x lx)) (omega (arith, row_lt m size y ly)) (sym (tag_is x lx) ∙ q ∙ tag_is y ly) in
      sym (unpack m size x lx) ∙ ap₂ (λ r i. pre m r + i) a b ∙ unpack m size y ly
    where
      split : (a b c d : ℕ) → a < most_cells → c < most_cells → a + word_step * b ≡ c + word_step * d → (a ≡ c) × (b ≡ d)
      split a b c d la lc e = (omega arith, omega arith)

  module _ (S : PiecesSound (cell_family size cells)) where
    sound : PiecesSound (fine (cell_family size cells) (part_count size cells) (owned_part size cells))
    sound = fine_sound (cell_family size cells) (part_count size cells) (owned_part size cells) (InnerFaces size cells) (InnerCrossings size cells) (cells_refined size cells few T) S

    lawful : Lawful (grid_complex size cells)
    unfolding fine
    lawful = record {
      piece = sound.piece;
      tags = tags;
      few = λ a b c d e g la lb lc jd je jg q r x y z.
          sound.few (segment_of ((grid_complex size cells).at a) d) a b c la lb lc (record { d = d; on = jd; is = refl }) (record { d = e; on = je; is = sym q }) (record { d = g; on = jg; is = sym r }) x y z;
      ends = sound.ends;
    }

    shut : Closed (cell_family size cells) → Shut (grid_complex size cells)
    unfolding fine
    shut C =
        let D = fine_closed (cell_family size cells) (part_count size cells) (owned_part size cells) (InnerFaces size cells) (InnerCrossings size cells) (cells_refined size cells few T) S C in
        record {
          full = D.whole;
          paired = λ c d lc on.
              let (b, lb, ne, r) = D.paired c lc (segment_of ((grid_complex size cells).at c) d) (record { d = d; on = on; is = refl }) in
              (b, lb, ne, r.d, r.on, r.is);
        }

    linked : (g : ℕ) → PiecesLinked (cell_family size cells) g → LinkedAt (grid_complex size cells) g
    unfolding fine
    linked g L Q pass a b u v q =
        fine_linked (cell_family size cells) (part_count size cells) (owned_part size cells) (InnerFaces size cells) (InnerCrossings size cells) (cells_refined size cells few T) S g L Q
        pass a b u.lt v.lt (record { d = u.d; on = u.on; is = u.is }) (record { d = v.d; on = v.on; is = v.is }) q

  -- no cell as it is has an inner crossing
  no_cell : (g : ℕ) → first_inner_crossing ≤ g → PiecesLinked (cell_family size cells) g
  no_cell g h Q pass a b la lb u v q =
      let l = u.on.lt in
      absurd (omega (arith, h, u.is, number_below (cells a) (T a la) (half u.d) (omega arith)))

  -- an inner crossing of a split cell, in the complex
  inner_met : (k g : ℕ) (lk : k < size) → is_split (count_of (cells k)) ≡ true → first_inner_crossing ≤ g
      → g < first_inner_crossing + inner_crossings (larger (count_of (cells k))) (smaller (count_of (cells k)))
      → (j : ℕ) × (j < part_count size cells k) × Meets (owned_part size cells k j) (owned first_inner_crossing k g)
  unfolding all_parts
  inner_met k g lk e h l =
      let c = cells k in
      let S = split_is (count_of (cells k)) e in
      let (j, lj, v) = (inner_numbered (larger (count_of (cells k)) + smaller (count_of (cells k))) (cells k).index 0 first_inner_crossing first_inner_face (cells k)
      (ready_of (cells k) (T k lk) e) S.some (omega arith)).met g h l in
      let q = sym (drawn_all (cells k) e) in (
        j,
        subst (λ l. j < length l) (sym (drawn_all (cells k) e)) lj,
        meets_to (owned first_inner_crossing k) (owned first_inner_face k) (owned_rises first_inner_crossing k) (owned_rises first_inner_face k) (part_local (get_or (drawn_parts (cells k)) j no_part)) g
            (subst (λ l. Meets (part_local (get_or l j no_part)) g) (sym (drawn_all (cells k) e)) v),
      )

  -- what part j of cell k has, the complex has
  at_place : (k j g : ℕ) → k < size → j < part_count size cells k → Meets (owned_part size cells k j) g → (x : ℕ) × complex.Has (grid_complex size cells) g x
  at_place k j g lk lj v =
      let u : Meets ((grid_complex size cells).at (pre m k + j)) g =
      subst (λ A. Meets A g) (sym (ap₂ (owned_part size cells) (row_pack m size k j lk lj) (col_pack m size k j lk lj))) v in
      (pre m k + j, record { lt = pack_lt m size k j lk lj; d = u.d; on = u.on; is = u.is })

  inner_has : (k g : ℕ) → k < size → is_split (count_of (cells k)) ≡ true → first_inner_crossing ≤ g
      → g < first_inner_crossing + inner_crossings (larger (count_of (cells k))) (smaller (count_of (cells k))) → (x : ℕ) × complex.Has (grid_complex size cells) (owned first_inner_crossing k g) x
  inner_has k g lk e h l = let (j, lj, v) = inner_met k g lk e h l in at_place k j (owned first_inner_crossing k g) lk lj v

  -- a crossing of a cell, in the complex: one of its parts covers its segment there
  outer_has : (g k : ℕ) → complex.Has (cell_complex size cells) g k → (x : ℕ) × complex.Has (grid_complex size cells) g x
  outer_has g k h =
      let u = ((cells_refined size cells few T).parts k h.lt).cover h.d h.on in
      let v : Meets (owned_part size cells k u.j) g = record { d = u.e; on = u.on; is = u.point ∙ h.is } in
      at_place k u.j g h.lt u.j_lt v

  -- in a cell that is not split there is no inner face, and in one that is no curve ends
  no_inner : (k j s : ℕ) → k < size → is_split (count_of (cells k)) ≡ false → j < part_count size cells k → s < (owned_part size cells k j).slots
      → first_inner_face ≤ (owned_part size cells k j).name s → ⊥
  no_inner k j s lk e =
      subst (λ l. j < length l → s < (part_local (get_or l j no_part)).slots → first_inner_face ≤ owned first_inner_face k ((part_local (get_or l j no_part)).name s) → ⊥)
      (sym (drawn_whole (cells k) e)) (first j)
    where
      first : (j : ℕ) → j < 1 → s < (part_local (get_or (whole (cells k) ∷ []) j no_part)).slots
          → first_inner_face ≤ owned first_inner_face k ((part_local (get_or (whole (cells k) ∷ []) j no_part)).name s) → ⊥
      first zero l ls h = omega (arith, (T k lk).under s ls, owned_outer first_inner_face k (name_of (cells k) s) ((T k lk).under s ls))
      first (suc j) l ls h = absurd (omega arith)

  no_end : (k j s : ℕ) (lk : k < size) → j < part_count size cells k → s < (owned_part size cells k j).slots → first_inner_face ≤ (owned_part size cells k j).name s → Whole (local_of (cells k))
  no_end k j s lk lj ls h = go (is_split (count_of (cells k))) refl
    where
      go : (b : Bool) → is_split (count_of (cells k)) ≡ b → Whole (local_of (cells k))
      go true e = closed (cells k) (ready_of (cells k) (T k lk) e).firm
      go false e = absurd (no_inner k j s lk e lj ls h)

  -- a segment of an inner face is in a second part of its cell
  inner_two : Lawful (cell_complex size cells) → (x d : ℕ) → x < (grid_complex size cells).pieces → Joins ((grid_complex size cells).at x) d
      → first_inner_face ≤ ((grid_complex size cells).at x).name (slot_of ((grid_complex size cells).at x) d)
      → tally (has_side (segment_of ((grid_complex size cells).at x) d)) (complex.mesh (grid_complex size cells)) ≡ 2
  inner_two W x d lx on h =
      let K = grid_complex size cells in
      let L = lawful (sound_of (cell_complex size cells) W) in
      let k = row m size x in
      let j = col m size x in
      let lk = row_lt m size x lx in
      let lj = col_lt m size x lx in
      let R = (cells_refined size cells few T).parts k lk in
      let (i, li, ne, r) = R.inner_paired j d lj on (face-of k j (slot_of (owned_part size cells k j) d) h) in
      let y = pre m k + i in
      let u = col_pack m size k i lk li in
      let q : owned_part size cells (row m size y) (col m size y) ≡ owned_part size cells k i = ap₂ (owned_part size cells) (row_pack m size k i lk li) u in
      let v = no_end k j (slot_of (owned_part size cells k j) d) lk lj ((L.piece x lx).slot d on.lt) h in
      (manifold K L).shared x d y r.d lx (pack_lt m size k i lk li) (λ e. ne (sym u ∙ ap (col m size) e)) (whole_closes (K.at x) (L.piece x lx) (R.whole v j lj) d on)
      (whole_closes (K.at y) (L.piece y (pack_lt m size k i lk li)) (subst Whole (sym q) (R.whole v i li)) r.d (subst (λ A. Joins A r.d) (sym q) r.on))
      (subst (λ A. segment_of A r.d ≡ segment_of (owned_part size cells k j) d) (sym q) r.is)
    where
      face-of : (k j s : ℕ) → first_inner_face ≤ (owned_part size cells k j).name s → InnerFaces size cells k ((owned_part size cells k j).name s)
      face-of k j s h = ((part_local (get_or (drawn_parts (cells k)) j no_part)).name s, high ((part_local (get_or (drawn_parts (cells k)) j no_part)).name s) h, refl)
        where
          high : (f : ℕ) → first_inner_face ≤ owned first_inner_face k f → first_inner_face ≤ f
          high f h = elim (dec_lt f first_inner_face) [ yes a ↦ absurd (omega (arith, owned_outer first_inner_face k f a)) | no a ↦ omega arith ]

  pub grid_laws : GridLaws size cells
  grid_laws = record {
    lawful = λ W. lawful (sound_of (cell_complex size cells) W);
    shut = λ W C. shut (sound_of (cell_complex size cells) W) (closed_of (cell_complex size cells) C);
    linked = λ W g L. linked (sound_of (cell_complex size cells) W) g (linked_of (cell_complex size cells) g L);
    inner_linked = λ W g h. linked (sound_of (cell_complex size cells) W) g (no_cell g h);
    inner_has = inner_has;
    outer_has = outer_has;
    inner_two = inner_two;
  }

pub grid_split : GridSplit
grid_split size cells few T I = grid_laws size cells few T I
