-- Under the ring premises an accepted grid is a complex in which nothing is left open, and the cells at a crossing are linked.
use Prim.Native.Nat.{ℕ, ◌+◌, ◌*◌, ◌/◌, ◌%◌, ◌<◌}
use mathlib.Core.Path.{◌≡◌, sym, ap, ap₂, ◌∙◌, subst}
use mathlib.Core.Logic.{◌⊎◌, inl, inr, ◌≢◌, ⊎_elim}
use mathlib.Core.Bool.{Bool, true, false, not, ◌&&◌}
use lib.ListN.{length}
use native.Mathlib.Omega.{arith}
use lib.Dec.{eqb}
use borrow.Author.Tests.{eqb-true, eqb-false, not-true}
use Rattle.counting.specs.Search.{some}
use Rattle.counting.proofs.Bools.{clash, and_true, and_left, and_right, holds_or}
use Rattle.counting.specs.Pack.{row}
use Rattle.counting.proofs.Pack.{row_pack}
use Rattle.counting.proofs.Search.{Least, least, some_is, some_found}
use Rattle.slots.specs.Slots.{slot_edge, edge_rank, first_slot, second_slot}
use Rattle.slots.proofs.Slots.{slot-edge}
use Rattle.face.specs.claims.Claims.{unjoined}
use Rattle.walk.specs.Darts.{half}
use Rattle.walk.proofs.Step.{face_first, face_second}
use Rattle.cell.specs.Cell as cell
use Rattle.cell.specs.Cell.{Edges, crossings, edge, index, number, mate, join_at}
use Rattle.cell.proofs.Lay.{lay}
use Rattle.mesh.proofs.Joins.{three, On, index_in, num_lt, num_edge, num_index, JoinFound, joined_or, even_joined, on_dart}
use Rattle.manifold.specs.claims.Piece.{slot_of, mate_of}
use Rattle.manifold.specs.work.Faces.{FacesShut, SharesFace, FacesLinked}
use Rattle.grid.specs.Grid.{Grid, cell_count, count_of, start, same_face}
use Rattle.grid.specs.claims.Accepted.{SameFace, Linked, Sound}
use Rattle.grid.proofs.Sound.{edge_numbers}
use Rattle.grid.proofs.Packed.{same_true, true_same}
use Rattle.grid.proofs.Names.{named_same, outer_edge}
use Rattle.mesh.specs.Demand.{RingPremises, face_count}
use Rattle.mesh.proofs.Complex.{w, at, en, cells_of, count-of, name_of, number-of}

module _ (G : Grid) where
  module _ (S : Sound G) (H : RingPremises G) where
    -- a face with a crossing is in a second cell: an edge of a face that only one cell has is outer
    pub beyond : (c s j : ℕ) → c < cell_count G.cells → s < 4 → j < 3 → (i : ℕ) → i < face_count G c s j
        → (b : ℕ) × (b < cell_count G.cells) × (b ≢ c) × (t : ℕ) × (t < 4) × SameFace G.cells c s b t
    beyond c s j lc ls lj i li = go (least other (cell_count G.cells))
      where
        other : ℕ → Bool
        other b = some (λ t. same_face G.cells b t c s) 4 && not (eqb b c)

        go : Least other (cell_count G.cells) → (b : ℕ) × (b < cell_count G.cells) × (b ≢ c) × (t : ℕ) × (t < 4) × SameFace G.cells c s b t
        go (inl (b, lb, e, f)) =
            let (t, lt, q) = some_is (λ t. same_face G.cells b t c s) 4 (and_left (some (λ t. same_face G.cells b t c s) 4) (not (eqb b c)) e) in
            (b, lb, eqb-false b c (not-true (eqb b c) (and_right (some (λ t. same_face G.cells b t c s) 4) (not (eqb b c)) e)), t, lt, λ i l. sym (same_true G.cells b t c s q i l))
        go (inr none) =
            let z = H.outer_zero (en G c (slot_edge s j)) ((edge_numbers G S).listed c (slot_edge s j) lc (slot-edge s j ls lj).lt) (outer_edge G (edge_numbers G S) c s j lc ls lj alone) in
            absurd (omega (arith, z))
          where
            alone : (b t : ℕ) → b < cell_count G.cells → t < 4 → SameFace G.cells c s b t → b ≡ c
            alone b t lb lt h =
                ⊎_elim (λ (q : eqb b c ≡ true). eqb-true b c q)
                (λ (q : eqb b c ≡ false). clash (and_true (some (λ t. same_face G.cells b t c s) 4) (not (eqb b c))
                (some_found (λ t. same_face G.cells b t c s) 4 t lt (true_same G.cells b t c s (λ i l. sym (h i l)))) (ap not q)) (none b lb)) (holds_or (eqb b c))

    -- the three counts of a slot as the cell has them
    three_is : (c s j : ℕ) → s < 4 → j < 3 → three (w G c) s j ≡ face_count G c s j
    three_is c s j ls lj = count-of G S c (slot_edge s j) (slot-edge s j ls lj).lt

    even_slot : (c s : ℕ) → c < cell_count G.cells → s < 4
        → (three (w G c) s 0 + three (w G c) s 1 + three (w G c) s 2) % 2 ≡ 0
    even_slot c s lc ls =
        rw (three_is c s 0 ls (omega arith), three_is c s 1 ls (omega arith), three_is c s 2 ls (omega arith)) (H.even c s lc ls)

    pub faces_shut : FacesShut (cells_of G)
    faces_shut = record { full = full; paired = paired }
      where
        full : (c d : ℕ) → c < cell_count G.cells → d < 2 * crossings (w G c) → mate_of (at G c) d < crossings (w G c)
        full c d lc ld = go (joined_or v o)
          where
            v : Edges
            v = w G c

            s : ℕ
            s = slot_of (at G c) d

            o : On v s (d / 2)
            o = on_dart (w G c) d ld

            go : JoinFound v s (d / 2) ⊎ ((join_at v s (d / 2) ≡ unjoined) × (mate v s (d / 2) ≡ crossings v)) → mate v s (d / 2) < crossings v
            go (inl g) = rw g.is (num_lt v s g.j g.i o.slot.lt g.j_lt g.i_lt)
            go (inr u) = absurd (none u.0)
              where
                none : join_at v s (d / 2) ≡ unjoined → ⊥
                none e = even_joined v s (d / 2) (even_slot c s lc o.slot.lt) e

        paired : (c d : ℕ) → c < cell_count G.cells → d < 2 * crossings (w G c)
            → (b : ℕ) × (b < cell_count G.cells) × (b ≢ c) × (s : ℕ) × (s < 4) × ((at G c).name (slot_of (at G c) d) ≡ (at G b).name s)
        paired c d lc ld =
            let v = w G c in
            let s = slot_of (at G c) d in
            let o = on_dart (w G c) d ld in
            let j = edge_rank s (edge v (d / 2)) in
            let (b, lb, ne, t, lt, h) = beyond c s j lc o.slot.lt o.slot.place_lt (index v (d / 2)) (subst (λ n. index v (d / 2) < n) (three_is c s j o.slot.lt o.slot.place_lt) (index_in v o)) in
            (b, lb, ne, t, lt, name_of G c s o.slot.lt ∙ named_same G.cells c s b t h ∙ sym (name_of G b t lt))

    -- a crossing number tells its edge
    edge_of_number : (e f i j : ℕ) → e < length G.counts → f < length G.counts → i < count_of G.counts e → j < count_of G.counts f → start G.counts e + i ≡ start G.counts f + j → e ≡ f
    unfolding start
    edge_of_number e f i j le lf li lj q =
        sym (row_pack (count_of G.counts) (length G.counts) e i le li) ∙ ap (row (count_of G.counts) (length G.counts)) q ∙ row_pack (count_of G.counts) (length G.counts) f j lf lj

    -- the cells at a crossing are linked through faces on which it lies: those that contain its edge
    pub faces_linked : Linked G → (g : ℕ) → FacesLinked (cells_of G) g
    faces_linked link g Q pass a b ha hb =
        let va = w G a in
        let vb = w G b in
        let xa = half ha.d in
        let xb = half hb.d in
        let ja = ha.on.lt in
        let jb = hb.on.lt in
        let la : half ha.d < crossings va = omega arith in
        let lb : half hb.d < crossings vb = omega arith in
        let ka = edge va xa in
        let kb = edge vb xb in
        let lka = (lay va).edge_lt xa la in
        let lkb = (lay vb).edge_lt xb lb in
        let i = index va xa in
        let E = edge_numbers G S in
        let le = E.listed a ka ha.lt lka in
        let li : i < count_of G.counts (en G a ka) = subst (λ n. i < n) (count-of G S a ka lka) ((lay va).index_lt xa la) in
        let lj : index vb xb < count_of G.counts (en G b kb) = subst (λ n. index vb xb < n) (count-of G S b kb lkb) ((lay vb).index_lt xb lb) in
        let na : start G.counts (en G a ka) + i ≡ g = sym (number-of G a xa la) ∙ ha.is in
        let nb : start G.counts (en G b kb) + index vb xb ≡ g = sym (number-of G b xb lb) ∙ hb.is in
        let e : en G a ka ≡ en G b kb = edge_of_number (en G a ka) (en G b kb) i (index vb xb) le (E.listed b kb hb.lt lkb) li lj (na ∙ sym nb) in
        link (en G a ka) le Q
        (λ a' b' r s j la lb lr ls l h is q. pass a' b' (step i (en G a ka) li na a' b' r s j la lb lr ls l h (E.only a' (slot_edge r j) (en G a ka) la (slot-edge r j lr l).lt le is)) q)
        a b ka kb ha.lt hb.lt lka lkb (E.is a ka ha.lt lka) (rw e (E.is b kb hb.lt lkb))
      where
        step : (i e : ℕ) → i < count_of G.counts e → start G.counts e + i ≡ g → (a b r s j : ℕ) → a < cell_count G.cells → b < cell_count G.cells → r < 4 → s < 4 → j < 3
            → SameFace G.cells a r b s → en G a (slot_edge r j) ≡ e → SharesFace (cells_of G) g a b
        step i e li q a b r s j la lb lr ls lj h m =
            ⊎_elim
            (λ (u : first_slot (slot_edge r j) ≡ r). make (2 * x) (omega arith) (omega (arith, lx)) (face_first (crossings v) (cell.first_slot_at v) (cell.second_slot_at v) (mate v) x ∙ ap first_slot ex ∙ u))
            (λ (u : second_slot (slot_edge r j) ≡ r). make (2 * x + 1) (omega arith) (omega (arith, lx)) (face_second (crossings v) (cell.first_slot_at v) (cell.second_slot_at v) (mate v) x ∙ ap second_slot ex ∙ u))
            (slot-edge r j lr lj).on
          where
            v : Edges
            v = w G a

            x : ℕ
            x = number v (slot_edge r j) i

            li' : i < three v r j
            li' = subst (λ n. i < n) (sym (three_is a r j lr lj)) (subst (λ y. i < count_of G.counts y) (sym m) li)

            lx : x < crossings v
            lx = num_lt v r j i lr lj li'

            ex : edge v x ≡ slot_edge r j
            ex = num_edge v r j i lr lj li'

            make : (d : ℕ) → half d ≡ x → d < 2 * crossings v → slot_of (at G a) d ≡ r → SharesFace (cells_of G) g a b
            make d hd ld fd = record {
              a_lt = la;
              b_lt = lb;
              d = d;
              d_lt = ld;
              at_d = ap (at G a).number hd ∙ number-of G a x lx
                  ∙ ap₂ (λ k z. start G.counts (en G a k) + z) ex (num_index v r j i lr lj li') ∙ ap (λ y. start G.counts y + i) m ∙ q;
              s = s;
              s_lt = ls;
              face = ap (at G a).name fd ∙ name_of G a r lr ∙ named_same G.cells a r b s h ∙ sym (name_of G b s ls);
            }
