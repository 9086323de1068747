-- In a sound grid row 9 has no fault exactly where the cells of each edge are linked.
use Prim.Native.Nat.{ℕ, ◌<◌}
use mathlib.Core.Path.{◌∙◌, ◌≡◌, ap, refl, sym, subst}
use mathlib.Core.Bool.{Bool, ◌&&◌, false, not, true}
use lib.Dec.{eqb}
use lib.ListN.{length}
use native.Mathlib.Omega.{arith}
use borrow.Author.Tests.{eq-eqb, eqb-true, not-false}
use Rattle.counting.specs.Search.{first, some}
use Rattle.counting.proofs.Bools.{and_false_left, and_false_right, and_left, and_right, and_true}
use Rattle.counting.proofs.Reach.{reach_closed, reach_holds, reach_start}
use Rattle.counting.proofs.Search.{first_is, none_some, some_first, some_found, some_is, some_none}
use Rattle.slots.specs.Slots.{contains, lower, edge_rank, slot_edge, upper}
use Rattle.slots.proofs.Slots.{edge_slot, face_ends, slot-edge}
use Rattle.grid.specs.claims.Accepted.{EdgeIs, Linked, SameFace}
use Rattle.grid.specs.Grid.{Grid, cell_count, has_edge, has_face, is_edge, node, same_face}
use Rattle.grid.specs.Rows.{reached, linked, split}
use Rattle.grid.proofs.Packed.{same_true, true_same}
use Rattle.grid.proofs.Sound.{edge_true, flip, true_edge}

-- the edge j of a face, in either cell that has it
module _ (G : Grid) (a b r s j e : ℕ) (lr : r < 4) (ls : s < 4) (lj : j < 3) (face : SameFace G.cells a r b s) where
  across : EdgeIs G a (slot_edge r j) e → EdgeIs G b (slot_edge s j) e
  across is =
      let u = slot-edge r j lr lj in
      let v = slot-edge s j ls lj in
      let (x, y) = face_ends j lj in
      record {
        low_is = is.low_is ∙ ap (node G.cells a) u.lo_is ∙ face (lower j) (omega arith) ∙ ap (node G.cells b) (sym v.lo_is);
        high_is = is.high_is ∙ ap (node G.cells a) u.hi_is ∙ face (upper j) y ∙ ap (node G.cells b) (sym v.hi_is);
      }

-- cells that share a face with the edge e
record Shared (G : Grid) (e a b : ℕ) : Type 0 where
  r : ℕ
  s : ℕ
  j : ℕ
  r_lt : r < 4
  s_lt : s < 4
  j_lt : j < 3
  face : SameFace G.cells a r b s
  is : EdgeIs G a (slot_edge r j) e

module _ (G : Grid) (e a b : ℕ) where
  linked_shared : linked G e a b ≡ true → Shared G e a b
  unfolding linked has_face
  linked_shared l =
      let w = some_is (λ k. is_edge G a k e && some (λ s. contains k s && some (λ t. same_face G.cells b t a s) 4) 4) 6 l in
      let k = w.0 in
      let is = and_left (is_edge G a k e) (some (λ s. contains k s && some (λ t. same_face G.cells b t a s) 4) 4) w.2 in
      let u = some_is (λ s. contains k s && some (λ t. same_face G.cells b t a s) 4) 4 (and_right (is_edge G a k e) (some (λ s. contains k s && some (λ t. same_face G.cells b t a s) 4) 4) w.2) in
      let s = u.0 in
      let z = some_is (λ t. same_face G.cells b t a s) 4 (and_right (contains k s) (some (λ t. same_face G.cells b t a s) 4) u.2) in
      let g = edge_slot k s w.1 u.1 (and_left (contains k s) (some (λ t. same_face G.cells b t a s) 4) u.2) in
      record {
        r = s;
        s = z.0;
        j = edge_rank s k;
        r_lt = u.1;
        s_lt = z.1;
        j_lt = g.place_lt;
        face = flip G.cells b z.0 a s (same_true G.cells b z.0 a s z.2);
        is = rw g.edge_is (edge_true G a k e is);
      }

  shared_linked : Shared G e a b → linked G e a b ≡ true
  unfolding linked has_face
  shared_linked w =
      let u = slot-edge w.r w.j w.r_lt w.j_lt in
      let k = slot_edge w.r w.j in
      some_found (λ k. is_edge G a k e && some (λ s. contains k s && some (λ t. same_face G.cells b t a s) 4) 4) 6 k u.lt
      (and_true (is_edge G a k e) (some (λ s. contains k s && some (λ t. same_face G.cells b t a s) 4) 4) (true_edge G a k e w.is)
      (some_found (λ s. contains k s && some (λ t. same_face G.cells b t a s) 4) 4 w.r w.r_lt
      (and_true (contains k w.r) (some (λ t. same_face G.cells b t a w.r) 4) u.within
      (some_found (λ t. same_face G.cells b t a w.r) 4 w.s w.s_lt (true_same G.cells b w.s a w.r (flip G.cells a w.r b w.s w.face))))))

module _ (G : Grid) where
  -- the first cell of an edge
  origin : ℕ → ℕ
  origin e = first (has_edge G e) (cell_count G.cells)

  has : (e c k : ℕ) → k < 6 → EdgeIs G c k e → has_edge G e c ≡ true
  unfolding has_edge
  has e c k l is = some_found (λ k. is_edge G c k e) 6 k l (true_edge G c k e is)

  edge-of : (e c : ℕ) → has_edge G e c ≡ true → (k : ℕ) × (k < 6) × EdgeIs G c k e
  unfolding has_edge
  edge-of e c h = let w = some_is (λ k. is_edge G c k e) 6 h in (w.0, w.1, edge_true G c w.0 e w.2)

  module _ (clear : (e : ℕ) → e < length G.counts → split G e ≡ false) (e : ℕ) (le : e < length G.counts) (Q : ℕ → Type 0)
      (over : (a b r s j : ℕ) → a < cell_count G.cells → b < cell_count G.cells → r < 4 → s < 4 → j < 3 → SameFace G.cells a r b s → EdgeIs G a (slot_edge r j) e → Q a → Q b) where
    Both : ℕ → Type 0
    Both c = (Q (origin e) → Q c) × (Q c → Q (origin e))

    link_pass : (d c : ℕ) → d < cell_count G.cells → c < cell_count G.cells → Both d → linked G e d c ≡ true → Both c
    unfolding Both
    link_pass d c hd hc h l =
        let w = linked_shared G e d c l in
        let back = flip G.cells d w.r c w.s w.face in
        let is = across G d c w.r w.s w.j e w.r_lt w.s_lt w.j_lt w.face w.is in (
          λ q. over d c w.r w.s w.j hd hc w.r_lt w.s_lt w.j_lt w.face w.is (h.0 q),
          λ q. h.1 (over c d w.s w.r w.j hc hd w.s_lt w.r_lt w.j_lt back is q),
        )

    both : (c k : ℕ) → c < cell_count G.cells → k < 6 → EdgeIs G c k e → Both c
    unfolding split reached origin Both
    both c k h l is =
        let j = not-false (reached G e c) (sym (ap (λ (x : Bool). x && not (reached G e c)) (has e c k l is))
        ∙ some_none (λ c. has_edge G e c && not (reached G e c)) (cell_count G.cells) (clear e le) c h) in
        reach_holds (eqb (origin e)) (linked G e) (cell_count G.cells) Both
        (λ x t. subst (λ y. (Q (origin e) → Q y) × (Q y → Q (origin e))) (eqb-true (origin e) x t) (λ y. y, λ y. y))
        link_pass (cell_count G.cells) c h j

    all_linked : (a b k l : ℕ) → a < cell_count G.cells → b < cell_count G.cells → k < 6 → l < 6 → EdgeIs G a k e → EdgeIs G b l e → Q a → Q b
    unfolding Both
    all_linked a b k l ha hb lk ll p q x = (both b l hb ll q).0 ((both a k ha lk p).1 x)

  pub clear_links : ((e : ℕ) → e < length G.counts → split G e ≡ false) → Linked G
  clear_links clear e le Q over = all_linked clear e le Q over

  pub links_clear : Linked G → (e : ℕ) → e < length G.counts → split G e ≡ false
  unfolding split reached origin
  links_clear link e le = none_some (λ c. has_edge G e c && not (reached G e c)) (cell_count G.cells) (λ c h. clear c h (has_edge G e c) refl)
    where
      reaches : (c : ℕ) → c < cell_count G.cells → has_edge G e c ≡ true → reached G e c ≡ true
      reaches c h p =
          let lf = some_first (has_edge G e) (cell_count G.cells) (some_found (has_edge G e) (cell_count G.cells) c h p) in
          let (k, lk, is) = edge-of e c p in
          let (l, ll, fis) = edge-of e (origin e) (first_is (has_edge G e) (cell_count G.cells) lf) in
          link e le (λ d. reached G e d ≡ true)
          (λ a b r s j la lb lr ls lj face ai q. reach_closed (eqb (origin e)) (linked G e) (cell_count G.cells) a b la lb q
          (shared_linked G e a b (record { r = r; s = s; j = j; r_lt = lr; s_lt = ls; j_lt = lj; face = face; is = ai })))
          (origin e) c l k lf h ll lk fis is
          (reach_start (eqb (origin e)) (linked G e) (cell_count G.cells) (cell_count G.cells) (origin e) (eq-eqb (origin e) (origin e) refl))

      clear : (c : ℕ) → c < cell_count G.cells → (b : Bool) → has_edge G e c ≡ b → has_edge G e c && not (reached G e c) ≡ false
      clear c h true p = and_false_right (has_edge G e c) (not (reached G e c)) (ap not (reaches c h p))
      clear c h false p = and_false_left (has_edge G e c) (not (reached G e c)) p
