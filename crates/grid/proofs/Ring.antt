-- The cells of an edge: marks that spread over the slots across are what links lead to.
use Prim.Native.Nat.{ℕ, ◌%◌, ◌*◌, ◌+◌, ◌-◌, ◌/◌, ◌<◌, ◌≤◌}
use mathlib.Core.Path.{◌∙◌, ◌≡◌, ap, refl, sym}
use mathlib.Core.Logic.{◌≢◌, ◌⊎◌, inl, inr, ⊎_elim}
use mathlib.Core.Bool.{Bool, ◌&&◌, false, not, true}
use mathlib.Core.List.{List}
use native.Mathlib.Decide.{ℕ_discrete}
use native.Mathlib.Omega.{arith}
use lib.Dec.{eqb}
use lib.ListN.{get_or, length}
use borrow.Author.Tests.{eq-eqb, eqb-true, ltb-true, not-false, not-true}
use Rattle.counting.specs.Lists.{one}
use Rattle.counting.specs.Search.{first, last, some}
use Rattle.counting.proofs.Below.{trichotomy}
use Rattle.counting.proofs.Bools.{and_left, and_right, and_true, bool_same, clash, holds_or}
use Rattle.counting.proofs.Reach.{reach_closed, reach_holds, reach_start}
use Rattle.counting.proofs.Search.{first_is, last_ext, last_is, some_and, some_blocks, some_ext, some_first, some_found, some_is, some_last, some_none}
use Rattle.slots.specs.Slots.{contains, hi, lo, lower, edge_rank, slot_edge, upper}
use Rattle.slots.proofs.Slots.{edge_slot, face_ends, slot-edge, slot_rank}
use Rattle.grid.specs.Grid.{Grid, cell_count, has_edge, has_face, is_edge, node, same_face}
use Rattle.grid.specs.Rows.{reached, linked, split, unused}
use Rattle.grid.specs.work.Work.{PassesAcross, Linkable, OneEach, Reached, Neighbours, RisingCells, Paired, KeySlot, Splitting, listed_at, missing, rank}
use Rattle.counting.specs.work.Tables.{Table, same_key}
use Rattle.counting.proofs.Tables.{top_le}
use Rattle.grid.proofs.Marks.{single_split, top_key}
use Rattle.grid.proofs.Laying.{joined_high, joined_low}
use Rattle.grid.proofs.Packed.{rises, same_true}
use Rattle.grid.proofs.Sides.{is_place, listed_last}
use Rattle.grid.proofs.Sorted.{before_same}
use Rattle.grid.proofs.Sound.{ends_before}

-- each edge of a cell has the number of its place in the list, one more
module _ (G : Grid) (good : RisingCells G.cells) (sides near : List ℕ) (ts : Table (listed_at G) (6 * cell_count G.cells) sides)
    (full : (j : ℕ) → j < 6 * cell_count G.cells → 0 < get_or sides j 0) (one : OneEach G) (N : Neighbours G.cells near) where
  abbrev cells : List ℕ
  cells = G.cells

  side-at : (c k : ℕ) → c < cell_count cells → k < 6 → get_or sides (6 * c + k) 0 ≡ last (is_edge G c k) (length G.counts)
  unfolding listed_at
  side-at c k h l =
      let a : (6 * c + k) / 6 ≡ c = omega arith in
      let b : (6 * c + k) % 6 ≡ k = omega arith in
      ts.at (6 * c + k) (omega arith) ∙ rw (a, b) (listed_last G one c k)

  -- the listed edge of a cell's edge
  listed_is : (c k : ℕ) → c < cell_count cells → k < 6 → is_edge G c k (get_or sides (6 * c + k) 0 - 1) ≡ true
  listed_is c k h l = (let q = side-at c k h l in rw q (last_is (is_edge G c k) (length G.counts) (rw (← q) (full (6 * c + k) (omega arith)))))

  -- two edges of a cell are two edges
  one_edge : (c k m : ℕ) → c < cell_count cells → k < 6 → m < 6 → get_or sides (6 * c + k) 0 ≡ get_or sides (6 * c + m) 0 → k ≡ m
  unfolding is_edge
  one_edge c k m h lk lm e =
      trichotomy k m (λ l. absurd (before_same _ _ _ _ lows highs (ends_before (node cells c) (rises cells good c h) k m l lm)))
      (λ l. absurd (before_same _ _ _ _ (sym lows) (sym highs) (ends_before (node cells c) (rises cells good c h) m k l lk))) (λ q. q)
    where
      x : ℕ
      x = get_or sides (6 * c + m) 0 - 1

      at_k : is_edge G c k x ≡ true
      at_k = rw (← e) (listed_is c k h lk)

      at_m : is_edge G c m x ≡ true
      at_m = listed_is c m h lm

      lows : node cells c (lo k) ≡ node cells c (lo m)
      lows = sym (joined_low G.edges _ _ x at_k) ∙ joined_low G.edges _ _ x at_m

      highs : node cells c (hi k) ≡ node cells c (hi m)
      highs = sym (joined_high G.edges _ _ x at_k) ∙ joined_high G.edges _ _ x at_m

  -- an edge of a face is an edge of both its cells
  carried : (key d t c s k : ℕ) → d < cell_count cells → t < 4 → c < cell_count cells → s < 4 → k < 6 → same_face cells d t c s ≡ true
      → get_or sides (6 * c + k) 0 ≡ key → contains k s ≡ true → (m : ℕ) × (m < 6) × (get_or sides (6 * d + m) 0 ≡ key) × (contains m t ≡ true) × (rank m t ≡ rank k s)
  unfolding is_edge
  carried key d t c s k hd ht hc hs hk e is h =
      let g = edge_slot k s hk hs h in
      let j = edge_rank s k in
      let u = slot-edge s j hs g.place_lt in
      let v = slot-edge t j ht g.place_lt in
      let (a, b) = face_ends j g.place_lt in
      let same = same_true cells d t c s e in
      let f : node cells d (lo (slot_edge t j)) ≡ node cells c (lo k) =
      ap (node cells d) v.lo_is ∙ same (lower j) (omega arith) ∙ ap (node cells c) (sym u.lo_is ∙ ap lo g.edge_is) in
      let q : node cells d (hi (slot_edge t j)) ≡ node cells c (hi k) =
      ap (node cells d) v.hi_is ∙ same (upper j) b ∙ ap (node cells c) (sym u.hi_is ∙ ap hi g.edge_is) in (
        slot_edge t j,
        v.lt,
        side-at d (slot_edge t j) hd v.lt ∙ last_ext (is_edge G d (slot_edge t j)) (is_edge G c k) (length G.counts) (λ i l. rw (f, q)) ∙ sym (side-at c k hc hk) ∙ is,
        v.within,
        slot_rank t j ht g.place_lt ∙ sym (rw g.edge_is at (slot_rank s j hs g.place_lt)),
      )

  pub paired : Paired sides near (cell_count cells)
  paired =
      record {
        keyed = ts.room;
        room = N.room;
        few = good.few;
        back = λ j l p. ((N.pair j l p).lt, (N.pair j l p).back);
        side = λ key j l p s. (
            let g = N.pair j l p in
            let x = get_or near j 0 - 1 in
            let xl : x < 4 * cell_count cells = omega (arith, g.lt, p) in
            let w = carried key (x / 4) (x % 4) (j / 4) (j % 4) s.k (omega arith) (omega arith) (omega arith) (omega arith) s.lt g.same s.is s.holds in
            (record { k = w.0; lt = w.1; is = w.2; holds = w.3 }, w.4));
        one = one_edge;
      }

-- the cells of edge e of a grid
module _ (G : Grid) (good : RisingCells G.cells) (sides near : List ℕ) (ts : Table (listed_at G) (6 * cell_count G.cells) sides)
    (full : (j : ℕ) → j < 6 * cell_count G.cells → 0 < get_or sides j 0) (one : OneEach G) (N : Neighbours G.cells near)
    (e : ℕ) (e_lt : e < length G.counts) where
  side : (c k : ℕ) → c < cell_count G.cells → k < 6 → is_edge G c k e ≡ eqb (get_or sides (6 * c + k) 0) (e + 1)
  side c k h l = is_place G one c k e e_lt ∙ rw (side-at G good sides near ts full one N c k h l)

  has-side : (c : ℕ) → c < cell_count G.cells → has_edge G e c ≡ some (λ k. eqb (get_or sides (6 * c + k) 0) (e + 1)) 6
  unfolding has_edge
  has-side c h = some_ext (λ k. is_edge G c k e) (λ k. eqb (get_or sides (6 * c + k) 0) (e + 1)) 6 (λ k l. side c k h l)

  -- a cell across a slot of the edge is linked
  link_of : (j : ℕ) → j < 4 * cell_count G.cells → KeySlot sides (e + 1) j → 0 < get_or near j 0 → linked G e (j / 4) ((get_or near j 0 - 1) / 4) ≡ true
  unfolding linked has_face
  link_of j l s p =
      let x = get_or near j 0 - 1 in
      some_found (λ k. is_edge G (j / 4) k e && some (λ s. contains k s && some (λ t. same_face G.cells (x / 4) t (j / 4) s) 4) 4) 6 s.k s.lt
      (and_true _ _ (side (j / 4) s.k (omega arith) s.lt ∙ eq-eqb _ _ s.is)
      (some_found (λ u. contains s.k u && some (λ t. same_face G.cells (x / 4) t (j / 4) u) 4) 4 (j % 4) (omega arith)
      (and_true _ _ s.holds (some_found (λ t. same_face G.cells (x / 4) t (j / 4) (j % 4)) 4 (x % 4) (omega arith) (N.pair j l p).same))))

  -- and so is the cell that it is across from
  link_back : (j : ℕ) → j < 4 * cell_count G.cells → KeySlot sides (e + 1) j → 0 < get_or near j 0 → linked G e ((get_or near j 0 - 1) / 4) (j / 4) ≡ true
  link_back j l s p =
      let g = N.pair j l p in
      let x = get_or near j 0 - 1 in
      let q : j + 1 - 1 ≡ j = omega arith in
      rw (g.back, q) at (link_of x (omega (arith, g.lt, p)) ((paired G good sides near ts full one N).side (e + 1) j l p s).0 (omega (arith, g.back)))

  -- the slot of cell d across which cell c is
  pub record Crossed (d c : ℕ) : Type 0 where
    pub j : ℕ
    pub lt : j < 4 * cell_count G.cells
    pub cell : j / 4 ≡ d
    pub sided : KeySlot sides (e + 1) j
    pub there : 0 < get_or near j 0
    pub ends : (get_or near j 0 - 1) / 4 ≡ c

  -- a linked cell is the same, or across a slot of the edge
  of_link : (d c : ℕ) → d < cell_count G.cells → c < cell_count G.cells → linked G e d c ≡ true → (c ≡ d) ⊎ Crossed d c
  unfolding linked has_face
  of_link d c hd hc h =
      let w = some_is (λ k. is_edge G d k e && some (λ s. contains k s && some (λ t. same_face G.cells c t d s) 4) 4) 6 h in
      let k = w.0 in
      let v1 = and_left (is_edge G d k e) (some (λ s. contains k s && some (λ t. same_face G.cells c t d s) 4) 4) w.2 in
      let v2 = and_right (is_edge G d k e) (some (λ s. contains k s && some (λ t. same_face G.cells c t d s) 4) 4) w.2 in
      let u = some_is (λ s. contains k s && some (λ t. same_face G.cells c t d s) 4) 4 v2 in
      let s = u.0 in
      let y1 = and_left (contains k s) (some (λ t. same_face G.cells c t d s) 4) u.2 in
      let y2 = and_right (contains k s) (some (λ t. same_face G.cells c t d s) 4) u.2 in
      let z = some_is (λ t. same_face G.cells c t d s) 4 y2 in
      let t = z.0 in
      let ht = z.1 in
      let hs = u.1 in
      let a : (4 * d + s) / 4 ≡ d = omega arith in
      let b : (4 * d + s) % 4 ≡ s = omega arith in
      let sd : KeySlot sides (e + 1) (4 * d + s) =
      record { k = k; lt = w.1; is = rw a (eqb-true _ _ (sym (side d k hd w.1) ∙ v1)); holds = rw b y1 } in
      elim (ℕ_discrete c d) [
        | yes q ↦ inl q
        | no q ↦
            let m : get_or near (4 * d + s) 0 ≡ 4 * c + t + 1 = N.all c t d s hc ht hd hs q z.2 in
            inr (record { j = 4 * d + s; lt = omega arith; cell = omega arith; sided = sd; there = omega arith; ends = omega arith })
      ]

  module _ (top : ℕ) (et : top ≡ last (same_key sides (e + 1)) (6 * cell_count G.cells)) (pos-top : 0 < top)
      (mark : ℕ) (marks₀ marks : List ℕ) (F : Reached sides near (cell_count G.cells) (e + 1) mark ((top - 1) / 6) marks₀ marks) where
    n : ℕ
    n = cell_count G.cells

    tl : top ≤ 6 * cell_count G.cells
    tl = top_le sides (e + 1) (6 * cell_count G.cells) top et

    -- the cell where the marks start has the edge
    top_has : has_edge G e ((top - 1) / 6) ≡ true
    top_has =
        has-side ((top - 1) / 6) (omega (arith, tl))
        ∙ some_found (λ k. eqb (get_or sides (6 * ((top - 1) / 6) + k) 0) (e + 1)) 6 ((top - 1) % 6) (omega arith)
        (eq-eqb _ _ (top_key sides (e + 1) (6 * cell_count G.cells) top et pos-top))

    marked : ℕ → Bool
    marked c = eqb (get_or marks c 0) mark

    A : ℕ → Bool
    A = reached G e

    -- the first cell of the edge
    f : ℕ
    f = first (has_edge G e) (cell_count G.cells)

    f_lt : f < cell_count G.cells
    unfolding f
    f_lt = some_first (has_edge G e) (cell_count G.cells) (some_found (has_edge G e) (cell_count G.cells) ((top - 1) / 6) (omega (arith, tl)) top_has)

    f_has : has_edge G e f ≡ true
    unfolding f
    f_has = first_is (has_edge G e) (cell_count G.cells) f_lt

    f_in : A f ≡ true
    unfolding A reached f
    f_in = reach_start (eqb f) (linked G e) (cell_count G.cells) (cell_count G.cells) f (eq-eqb f f refl)

    on_link : (d c : ℕ) → d < cell_count G.cells → c < cell_count G.cells → A d ≡ true → linked G e d c ≡ true → A c ≡ true
    unfolding A reached
    on_link d c hd hc r l =
        reach_closed (eqb (first (has_edge G e) (cell_count G.cells))) (linked G e) (cell_count G.cells) d c hd hc r l

    across_lt : (j : ℕ) → j < 4 * cell_count G.cells → 0 < get_or near j 0 → (get_or near j 0 - 1) / 4 < cell_count G.cells
    across_lt j l p = omega (arith, (N.pair j l p).lt, p)

    -- what links lead to is closed, and so is the rest
    in_closed : PassesAcross sides near (cell_count G.cells) (e + 1) A
    in_closed j l s p r = on_link (j / 4) ((get_or near j 0 - 1) / 4) (omega arith) (across_lt j l p) r (link_of j l s p)

    out_closed : PassesAcross sides near (cell_count G.cells) (e + 1) (λ c. not (A c))
    out_closed j l s p r =
        ⊎_elim
        (λ (q : A ((get_or near j 0 - 1) / 4) ≡ true).
        clash (on_link ((get_or near j 0 - 1) / 4) (j / 4) (across_lt j l p) (omega arith) q (link_back j l s p)) (not-true _ r))
        (λ (q : A ((get_or near j 0 - 1) / 4) ≡ false). rw q) (holds_or (A ((get_or near j 0 - 1) / 4)))

    -- the marks are closed, and so is the rest
    marks_on : (d c : ℕ) → d < cell_count G.cells → c < cell_count G.cells → marked d ≡ true → linked G e d c ≡ true → marked c ≡ true
    unfolding marked
    marks_on d c hd hc m l =
        ⊎_elim (λ (q : c ≡ d). rw q m)
        (λ (w : Crossed d c). eq-eqb (get_or marks c 0) mark (rw (← w.ends) (F.closed w.j w.lt w.sided w.there (rw w.cell (eqb-true (get_or marks d 0) mark m)))))
        (of_link d c hd hc l)

    marks_off : (d c : ℕ) → d < cell_count G.cells → c < cell_count G.cells → not (marked d) ≡ true → linked G e d c ≡ true → not (marked c) ≡ true
    marks_off d c hd hc m l =
        ⊎_elim (λ (q : marked c ≡ true). clash (marks_on c d hc hd q (back q)) (not-true (marked d) m)) (λ (q : marked c ≡ false). rw q) (holds_or (marked c))
      where
        back : marked c ≡ true → linked G e c d ≡ true
        back q = ⊎_elim (λ (p : c ≡ d). rw p (rw p at l))
            (λ (w : Crossed d c). rw (w.ends, w.cell) at (link_back w.j w.lt w.sided w.there)) (of_link d c hd hc l)

    reach_in : (P : ℕ → Bool) → ((d c : ℕ) → d < cell_count G.cells → c < cell_count G.cells → P d ≡ true → linked G e d c ≡ true → P c ≡ true) → P f ≡ true
        → (c : ℕ) → c < cell_count G.cells → A c ≡ true → P c ≡ true
    unfolding A reached f
    reach_in P on start c h r =
        reach_holds (eqb f) (linked G e) (cell_count G.cells) (λ c. P c ≡ true) (λ d q. rw (← eqb-true f d q) start) on (cell_count G.cells) c h r

    -- a cell of the edge that is not linked, and one that is not marked
    unlinked : ℕ → Bool
    unlinked c = has_edge G e c && not (A c)

    unmarked : ℕ → Bool
    unmarked c = has_edge G e c && not (marked c)

    to_unmarked : (c : ℕ) → c < cell_count G.cells → unlinked c ≡ true → some unmarked (cell_count G.cells) ≡ true
    unfolding unlinked unmarked marked
    to_unmarked c h u =
        ⊎_elim (λ q. q)
        (λ (q : some unmarked (cell_count G.cells) ≡ false).
        let all : (d : ℕ) → d < cell_count G.cells → has_edge G e d ≡ true → marked d ≡ true =
        (λ d l k. not-false (marked d) (sym (ap (λ (x : Bool). x && not (marked d)) k) ∙ some_none unmarked (cell_count G.cells) q d l)) in
        let has = and_left (has_edge G e c) (not (A c)) u in
        let out = not-true (A c) (and_right (has_edge G e c) (not (A c)) u) in
        let m : (d : ℕ) → marked d ≡ true → get_or marks d 0 ≡ mark = (λ d k. eqb-true (get_or marks d 0) mark k) in
        ⊎_elim
        (λ (a : A ((top - 1) / 6) ≡ true). clash (F.within A in_closed a c (m c (all c h has))) out)
        (λ (a : A ((top - 1) / 6) ≡ false). clash f_in (not-true (A f) (F.within (λ c. not (A c)) out_closed (rw a) f (m f (all f f_lt f_has)))))
        (holds_or (A ((top - 1) / 6))))
        (holds_or (some unmarked (cell_count G.cells)))

    to_unlinked : (c : ℕ) → c < cell_count G.cells → unmarked c ≡ true → some unlinked (cell_count G.cells) ≡ true
    unfolding unlinked unmarked marked
    to_unlinked c h u =
        ⊎_elim (λ q. q)
        (λ (q : some unlinked (cell_count G.cells) ≡ false).
        let all : (d : ℕ) → d < cell_count G.cells → has_edge G e d ≡ true → A d ≡ true =
        (λ d l k. not-false (A d) (sym (ap (λ (x : Bool). x && not (A d)) k) ∙ some_none unlinked (cell_count G.cells) q d l)) in
        let has = and_left (has_edge G e c) (not (marked c)) u in
        let out = not-true (marked c) (and_right (has_edge G e c) (not (marked c)) u) in
        let tm : marked ((top - 1) / 6) ≡ true = eq-eqb _ _ F.has in
        ⊎_elim
        (λ (a : marked f ≡ true). clash (reach_in marked marks_on a c h (all c h has)) out)
        (λ (a : marked f ≡ false).
        clash tm (not-true (marked ((top - 1) / 6)) (reach_in (λ c. not (marked c)) marks_off (rw a) ((top - 1) / 6) (omega (arith, tl)) (all ((top - 1) / 6) (omega (arith, tl)) top_has))))
        (holds_or (marked f)))
        (holds_or (some unlinked (cell_count G.cells)))

    same_split : some unlinked (cell_count G.cells) ≡ some unmarked (cell_count G.cells)
    same_split =
        bool_same (some unlinked (cell_count G.cells)) (some unmarked (cell_count G.cells))
        (λ q. (let w = some_is unlinked (cell_count G.cells) q in to_unmarked w.0 w.1 w.2))
        (λ q. (let w = some_is unmarked (cell_count G.cells) q in to_unlinked w.0 w.1 w.2))

    -- what `split_at` answers
    pub split_missing : split G e ≡ some (missing sides (e + 1) marks mark) (6 * cell_count G.cells)
    unfolding split missing same_key unlinked unmarked marked A
    split_missing =
        same_split
        ∙ some_ext (λ c. has_edge G e c && not (eqb (get_or marks c 0) mark))
        (λ c. some (λ k. eqb (get_or sides (6 * c + k) 0) (e + 1) && not (eqb (get_or marks ((6 * c + k) / 6) 0) mark)) 6) (cell_count G.cells) each
        ∙ sym (some_blocks (λ j. eqb (get_or sides j 0) (e + 1) && not (eqb (get_or marks (j / 6) 0) mark)) 6 (cell_count G.cells))
      where
        each : (c : ℕ) → c < cell_count G.cells → (has_edge G e c && not (eqb (get_or marks c 0) mark))
            ≡ some (λ k. eqb (get_or sides (6 * c + k) 0) (e + 1) && not (eqb (get_or marks ((6 * c + k) / 6) 0) mark)) 6
        each c h =
            rw (has-side c h)
            (sym (some_and (λ k. eqb (get_or sides (6 * c + k) 0) (e + 1)) (not (eqb (get_or marks c 0) mark)) 6)
            ∙ some_ext (λ k. eqb (get_or sides (6 * c + k) 0) (e + 1) && not (eqb (get_or marks c 0) mark))
            (λ k. eqb (get_or sides (6 * c + k) 0) (e + 1) && not (eqb (get_or marks ((6 * c + k) / 6) 0) mark)) 6
            (λ k l. (let q : (6 * c + k) / 6 ≡ c = omega arith in rw q)))

-- all marks are at most e
pub record Under (marks : List ℕ) (e : ℕ) : Type 0 where
  pub at : (d : ℕ) → get_or marks d 0 ≤ e

pub under_fresh : {marks : List ℕ} {e : ℕ} → Under marks e → (d : ℕ) → get_or marks d 0 ≢ e + 1
under_fresh {marks} {e} u d q = omega (arith, u.at d, q)

pub under_more : {keys near : List ℕ} {n key e c : ℕ} {marks₀ marks : List ℕ} → Under marks₀ e → Reached keys near n key (e + 1) c marks₀ marks → Under marks (e + 1)
under_more {keys} {near} {n} {key} {e} {c} {marks₀} {marks} u f =
    record { at = λ d. ⊎_elim (λ (q : get_or marks d 0 ≡ get_or marks₀ d 0). omega (arith, u.at d, q)) (λ (q : get_or marks d 0 ≡ e + 1). omega (arith, q)) (f.only d) }

-- an edge by its number, in what row 9 starts from
module _ {G : Grid} {near sides top degree marks : List ℕ} (L : Linkable G near sides top degree marks) {e t : ℕ} (h : e < length G.counts) (et : t ≡ get_or top (e + 1) 0) where
  pub top_last : t ≡ last (same_key sides (e + 1)) (6 * cell_count G.cells)
  top_last = et ∙ L.tallied.tops (e + 1) (omega (arith, L.within))

  pub edge_found : 0 < t
  unfolding unused has_edge same_key
  edge_found = rw top_last (ltb-true 0 _ (sym (some_last (same_key sides (e + 1)) (6 * cell_count G.cells)) ∙ found))
    where
      found : some (same_key sides (e + 1)) (6 * cell_count G.cells) ≡ true
      found =
          some_blocks (λ j. eqb (get_or sides j 0) (e + 1)) 6 (cell_count G.cells)
          ∙ sym (some_ext (has_edge G e) (λ c. some (λ k. eqb (get_or sides (6 * c + k) 0) (e + 1)) 6) (cell_count G.cells)
          (λ c l. has-side G L.ordered sides near L.sided L.full L.one L.near_is e h c l))
          ∙ not-false (some (has_edge G e) (cell_count G.cells)) (L.used e h)

  pub split_told : {marks₀ marks₁ : List ℕ} {r : Bool} → Reached sides near (cell_count G.cells) (e + 1) (e + 1) ((t - 1) / 6) marks₀ marks₁
      → r ≡ some (missing sides (e + 1) marks₁ (e + 1)) (6 * cell_count G.cells) → split G e ≡ r
  split_told {marks₀} {marks₁} R a =
      split_missing G L.ordered sides near L.sided L.full L.one L.near_is e h t top_last edge_found (e + 1) marks₀ marks₁ R ∙ sym a

  pub may_split : (d : ℕ) → d ≡ get_or degree (e + 1) 0 → (marks₁ : List ℕ) → length marks₁ ≡ length marks → Under marks₁ e
      → Splitting sides near (cell_count G.cells) (e + 1) t d marks₁
  may_split d ed marks₁ el u = record {
    paired = paired G L.ordered sides near L.sided L.full L.one L.near_is;
    room = omega (arith, el, L.marks_new.room);
    top_is = top_last;
    degree_is = ed ∙ L.tallied.degrees (e + 1) (omega (arith, L.within));
    found = edge_found;
    fresh = under_fresh u;
  }

  pub split_single : (d : ℕ) → d ≡ get_or degree (e + 1) 0 → d ≡ 1 → (marks₁ : List ℕ) → length marks₁ ≡ length marks → Under marks₁ e → split G e ≡ false
  split_single d ed one marks₁ el u = let s = single_split (may_split d ed marks₁ el u) one in split_told s.0 s.1
