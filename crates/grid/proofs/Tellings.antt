-- The law used three times: pairs, faces and cells.
use Prim.Native.Nat.{ℕ, ◌+◌, ◌*◌, ◌-◌, ◌/◌, ◌%◌, ◌<◌, ◌≤◌}
use mathlib.Core.Path.{◌∙◌, ◌≡◌, refl, sym}
use mathlib.Core.List.{List}
use native.Mathlib.Decide.{dec_lt, ℕ_discrete}
use native.Mathlib.Numerals.{add-one}
use native.Mathlib.Omega.{arith}
use lib.ListN.{get_or, length, set}
use borrow.Author.Tests.{le-ltb, lt-ltb}
use Rattle.counting.specs.work.Tables.{Table}
use Rattle.counting.specs.Stored.{filled}
use Rattle.counting.proofs.Stored.{filled_more}
use Rattle.slots.specs.Limits.{most_cells}
use Rattle.slots.specs.Slots.{position}
use Rattle.grid.specs.work.Numbered.{Has}
use Rattle.grid.specs.work.Walks.{Cells, ChainTables, Comparable, Course, Coursed, Fresh, LabelChains, LowChains, Linkable, Linked, Labelling, Labels, Numerable, Pairable, Passable, Passed, SameEntry, SameFrom, SameNodes, Slots, Slotted, Tells, corner, entry, label_at}
use Rattle.grid.specs.work.Runs.{NodeChains}

pub position_below : (s r : ℕ) → r < s → position s r ≡ r
unfolding position
position_below s r h = rw (lt-ltb r s h)

pub position_above : (s r : ℕ) → s ≤ r → position s r ≡ r + 1
unfolding position
position_above s r h = rw (le-ltb r s h) (sym (add-one r))

pub position_lt : (s r : ℕ) → r < 3 → position s r < 4
position_lt s r h = elim (dec_lt r s) [ yes l ↦ omega (arith, position_below s r l) | no l ↦ omega (arith, position_above s r (omega arith)) ]

corner_below : (l : List ℕ) (r j : ℕ) → r < j % 4 → corner l r j ≡ label_at l r (j / 4)
corner_below l r j h = rw (position_below (j % 4) r h)

corner_above : (l : List ℕ) (r j : ℕ) → j % 4 ≤ r → corner l r j ≡ label_at l (r + 1) (j / 4)
corner_above l r j h = rw (position_above (j % 4) r h)

pub linked_less : {f : ℕ → ℕ} {T n : ℕ} {head next : List ℕ} → Linked f T n head next → (S : ℕ) → S ≤ T → Linked f S n head next
linked_less L S h = record { heads = record { room = omega (arith, L.heads.room); at = λ r l. L.heads.at r (omega arith) }; nexts = L.nexts }

module _ (labels : List ℕ) {n many : ℕ} (few : n ≤ most_cells) (below : (j : ℕ) → get_or labels j 0 < many) where
  -- a slot pass: the node at rank r by the chains of positions r and r + 1, the rest by keys
  module _ (r : ℕ) (r_lt : r < 2) where
    pub slot_course : {keys ha na hb nb at out : List ℕ} → Linked (label_at labels r) many n ha na → Linked (label_at labels (r + 1)) many n hb nb → 4 * n ≤ length keys → 4 * n ≤ length out
        → ((j : ℕ) → j < 4 * n → get_or keys j 0 < length at) → ((k : ℕ) → get_or at k 0 ≡ 0) → ((j : ℕ) → get_or out j 0 ≡ 0)
        → Course (label_at labels r) (label_at labels (r + 1)) (corner labels r) many n ha na (r + 1) 4 hb nb 0 (r + 1) keys many at out
    slot_course A B keyed room known za zo = record {
      linked_a = A;
      linked_b = B;
      within = omega arith;
      ordered_a = omega arith;
      ordered_b = omega arith;
      apart = omega arith;
      slots = omega arith;
      low_a = λ j h l. corner_below labels r j (omega arith);
      low_b = λ j h l. corner_above labels r j (omega arith);
      small = omega arith;
      keyed = keyed;
      room = room;
      known = known;
      at_blank = za;
      out_blank = zo;
    }

    -- keys that tell the ranks from r + 1 on make numbers that tell those from r on
    pub slot_tells : {keys out : List ℕ} → Tells (4 * n) (SameFrom (r + 1) labels) (entry keys) → (ids : ℕ) → 4 * n ≤ length out
        → Coursed (label_at labels r) (label_at labels (r + 1)) (corner labels r) n (r + 1) 4 0 (r + 1) keys many ids out → Slots n (SameFrom r labels) out
    slot_tells {keys} {out} K ids room D = record {
      room = room;
      has_one = has_number;
      tells = record {
        same = λ i j h l e. D.told.same i j (has_number i h) (has_number j l) (e r (omega arith) (omega arith)) (K.same i j h l (λ t a b. e t (omega arith) b));
        told = λ i j h l e t a b. elim (ℕ_discrete t r) [
          | yes q ↦ rw q (D.told.lows i j (has_number i h) (has_number j l) e)
          | no q ↦ K.told i j h l (D.told.keys_are i j (has_number i h) (has_number j l) e) t (omega arith) b
        ];
      };
      few = λ j. omega (arith, D.few j, D.bound);
    }
      where
        has_number : (j : ℕ) → j < 4 * n → Has out j
        has_number j h = elim (dec_lt (j % 4) (r + 1)) [
          | yes l ↦ D.done_b j (omega arith) (below _) (omega arith) l
          | no l ↦ D.done_a j (omega arith) (below _) (omega arith) (omega arith)
        ]

-- the third nodes of the slots of one cell more
pub thirds_more : (labels out₀ out : List ℕ) (c : ℕ) → out ≡ filled (corner labels 2) (4 * c) out₀
    → set (set (set (set out (4 * c) (get_or labels (4 * c + 3) 0)) (4 * c + 1) (get_or labels (4 * c + 3) 0)) (4 * c + 2) (get_or labels (4 * c + 3) 0)) (4 * c + 3) (get_or labels (4 * c + 2) 0)
    ≡ filled (corner labels 2) (4 * (c + 1)) out₀
thirds_more labels out₀ out c e = rw (← n4) (filled_more _ (4 * c + 3) out₀ _ y (rw n3 at (filled_more _ (4 * c + 2) out₀ _ z (rw n2 at two) (third 2 (omega arith)))) last)
  where
    z : ℕ
    z = get_or labels (4 * c + 3) 0

    y : ℕ
    y = get_or labels (4 * c + 2) 0

    n0 : 4 * c + 0 ≡ 4 * c
    n0 = omega arith

    n2 : 4 * c + 1 + 1 ≡ 4 * c + 2
    n2 = omega arith

    n3 : 4 * c + 2 + 1 ≡ 4 * c + 3
    n3 = omega arith

    n4 : 4 * c + 3 + 1 ≡ 4 * (c + 1)
    n4 = omega arith

    third : (s : ℕ) → s < 3 → z ≡ corner labels 2 (4 * c + s)
    third s h = let q : (4 * c + s) / 4 ≡ c = omega arith in let r : (4 * c + s) % 4 ≡ s = omega arith in rw (q, r, position_above s 2 (omega arith))

    last : y ≡ corner labels 2 (4 * c + 3)
    last = let q : (4 * c + 3) / 4 ≡ c = omega arith in let r : (4 * c + 3) % 4 ≡ 3 = omega arith in rw (q, r, position_below 3 2 (omega arith))

    two : set (set out (4 * c) z) (4 * c + 1) z ≡ filled (corner labels 2) (4 * c + 1 + 1) out₀
    two = filled_more _ (4 * c + 1) out₀ _ z (filled_more _ (4 * c) out₀ _ z e (rw n0 at (third 0 (omega arith)))) (third 1 (omega arith))

-- the first keys are the labels at rank 2
pub third_tells : (labels keys : List ℕ) (n : ℕ) → Table (corner labels 2) (4 * n) keys → Tells (4 * n) (SameFrom 2 labels) (entry keys)
third_tells labels keys n t = record {
  same = λ i j h l e. t.at i h ∙ e 2 (omega arith) (omega arith) ∙ sym (t.at j l);
  told = λ i j h l e r a b. (let q : r ≡ 2 = omega arith in rw q (sym (t.at i h) ∙ e ∙ t.at j l));
}

-- from labels to nodes
module _ (cells labels ranks : List ℕ) (n m long : ℕ) (W : Labels cells (4 * n) m long ranks labels) where
  L : Tells (4 * n) (SameEntry cells) (entry labels)
  L = W.tells

  corner_lt : (r j : ℕ) → r < 3 → j < 4 * n → 4 * (j / 4) + position (j % 4) r < 4 * n
  corner_lt r j a h = omega (arith, position_lt (j % 4) r a)

  pub faces_told : {out : List ℕ} → Slots n (SameFrom 0 labels) out → Slots n (SameFrom 0 cells) out
  faces_told F = record {
    room = F.room;
    has_one = F.has_one;
    tells = record {
      same = λ i j h l e. F.tells.same i j h l (λ r a b. L.same _ _ (corner_lt r i b h) (corner_lt r j b l) (e r a b));
      told = λ i j h l e r a b. L.told _ _ (corner_lt r i b h) (corner_lt r j b l) (F.tells.told i j h l e r a b);
    };
    few = F.few;
  }

-- `number_pairs`
module _ {labels : List ℕ} {n many : ℕ} {h1 x1 h2 x2 keys₀ at out : List ℕ} (P : Pairable labels n many h1 x1 h2 x2 keys₀ at out) where
  pub pairs_course : (keys : List ℕ) → Table (corner labels 2) (4 * n) keys
      → Course (label_at labels 1) (label_at labels 2) (corner labels 1) many n h1 x1 2 4 h2 x2 0 2 keys many at out
  pairs_course keys t = slot_course labels P.few P.below 1 (omega arith) P.by1 P.by2 t.room P.out_new.room
      (λ j h. (let e = t.at j h in let m = P.many_le in let r = P.at_new.room in omega (arith, P.below (4 * (j / 4) + position (j % 4) 2)))) P.at_new.blank P.out_new.blank

  pub pairs_told : (keys out' : List ℕ) (ids : ℕ) → Table (corner labels 2) (4 * n) keys
      → Passed h1 x1 2 4 h2 x2 0 2 keys many at out ids out' → Slots n (SameFrom 1 labels) out'
  pairs_told keys out' ids t D = slot_tells labels P.few P.below 1 (omega arith) (third_tells labels keys n t) ids (omega (arith, D.out_long, P.out_new.room))
      (D.over _ _ _ _ _ (pairs_course keys t))

  pub pairs_passable : (keys : List ℕ) → Table (corner labels 2) (4 * n) keys → Passable h1 x1 2 4 h2 x2 0 2 keys many at out
  pairs_passable keys t = record { f = label_at labels 1; g = label_at labels 2; low = corner labels 1; T = many; n = n; course = pairs_course keys t }

-- `number_slots`
module _ {labels : List ℕ} {n many : ℕ} {faces same : List ℕ} (S : Slotted labels n many faces same) where
  pub slots_linkable : (i : ℕ) → i < 4 → (head next : List ℕ) → Fresh (4 * n + 1) head → n ≤ length next → Linkable labels i n head next
  slots_linkable i h head next z ln = record {
    blank = z.blank;
    below = λ c l. (let m = S.many_le in let r = z.room in omega (arith, S.below (4 * c + i)));
    four = h;
    keyed = S.keyed;
    room = ln;
    small = omega (arith, S.few);
  }

  pub slots_less : {f : ℕ → ℕ} {T : ℕ} {head next : List ℕ} → Linked f T n head next → 4 * n + 1 ≤ T → Linked f many n head next
  slots_less L h = linked_less L many (omega (arith, S.many_le))

  -- with another new table
  pub slotted_faces : {faces' : List ℕ} → length faces' ≡ length faces → ((j : ℕ) → get_or faces' j 0 ≡ 0) → Slotted labels n many faces' same
  slotted_faces e z = record {
    few = S.few;
    keyed = S.keyed;
    below = S.below;
    many_le = S.many_le;
    faces_room = omega (arith, S.faces_room);
    same_room = S.same_room;
    faces_blank = z;
    same_blank = S.same_blank;
  }

  pub label-chains : {g0 y0 g1 y1 g2 y2 h0 x0 h1 x1 h2 x2 : List ℕ} → ChainTables n g0 y0 g1 y1 g2 y2
      → Linked (label_at labels 0) (length g0) n h0 x0 → Linked (label_at labels 1) (length g1) n h1 x1 → Linked (label_at labels 2) (length g2) n h2 x2
      → LabelChains labels n many h0 x0 h1 x1 h2 x2
  label-chains C A B D = record { by0 = slots_less A C.h0_new.room; by1 = slots_less B C.h1_new.room; by2 = slots_less D C.h2_new.room }

  pub slots_pairable : (h1 x1 h2 x2 keys at out : List ℕ) → Linked (label_at labels 1) many n h1 x1 → Linked (label_at labels 2) many n h2 x2 → 4 * n ≤ length keys
      → Fresh (4 * n + 1) at → Fresh (4 * n) out → Pairable labels n many h1 x1 h2 x2 keys at out
  slots_pairable h1 x1 h2 x2 keys at out A B k a o = record {
    few = S.few;
    keyed = S.keyed;
    below = S.below;
    many_le = S.many_le;
    by1 = A;
    by2 = B;
    keys_room = k;
    at_new = a;
    out_new = o;
  }

  module _ (h0 x0 h1 x1 pairs at : List ℕ) (A : Linked (label_at labels 0) many n h0 x0) (B : Linked (label_at labels 1) many n h1 x1) (K : Slots n (SameFrom 1 labels) pairs)
      (z : Fresh (4 * n + 1) at) where
    faces_course : Course (label_at labels 0) (label_at labels 1) (corner labels 0) many n h0 x0 1 4 h1 x1 0 1 pairs many at faces
    faces_course = slot_course labels S.few S.below 0 (omega arith) A B K.room S.faces_room
        (λ j h. (let r = z.room in omega (arith, K.few j))) z.blank S.faces_blank

    pub faces_passable : Passable h0 x0 1 4 h1 x1 0 1 pairs many at faces
    faces_passable = record { f = label_at labels 0; g = label_at labels 1; low = corner labels 0; T = many; n = n; course = faces_course }

    pub faces_tell : (faces' : List ℕ) (ids : ℕ) → Passed h0 x0 1 4 h1 x1 0 1 pairs many at faces ids faces' → Slots n (SameFrom 0 labels) faces'
    faces_tell faces' ids D = slot_tells labels S.few S.below 0 (omega arith) K.tells ids (omega (arith, D.out_long, S.faces_room)) (D.over _ _ _ _ _ faces_course)

-- `number_faces`
module _ {cells labels₀ ranks₀ faces same : List ℕ} (N : Numerable cells labels₀ ranks₀ faces same) where
  pub cells_labelling : Labelling cells (4 * (length cells / 4)) ranks₀ labels₀
  cells_labelling = record {
    keyed = omega arith;
    known = λ j h. omega (arith, N.nodes j h, N.ranks_new.room);
    room = N.labels_new.room;
    small = omega (arith, N.few);
    at_blank = N.ranks_new.blank;
    out_blank = N.labels_new.blank;
  }

  module _ {ranks labels : List ℕ} {m : ℕ} (L : Labels cells (4 * (length cells / 4)) m (length ranks₀) ranks labels) where
    pub cells_slotted : Slotted labels (length cells / 4) (m + 1) faces same
    cells_slotted = record {
      few = N.few;
      keyed = L.room;
      below = λ j. omega (arith, L.few j);
      many_le = omega (arith, L.bound);
      faces_room = N.faces_new.room;
      same_room = N.same_new.room;
      faces_blank = N.faces_new.blank;
      same_blank = N.same_new.blank;
    }

    pub node-chains : {h0 x0 h1 x1 h2 x2 : List ℕ} → LabelChains labels (length cells / 4) (m + 1) h0 x0 h1 x1 h2 x2 → NodeChains cells ranks h0 x0 h1 x1 h2 x2
    node-chains C = record {
      g = λ i c. label_at labels i c;
      T = m + 1;
      by0 = C.by0;
      by1 = C.by1;
      by2 = C.by2;
      ranks_room = omega (arith, L.at_long, N.ranks_new.room);
      rank_lt = λ u. omega (arith, L.top u);
      same = λ i c h l. sym (L.ranks (4 * c + i) (omega arith));
      told = λ i c u h l e.
          let r = L.ranks (4 * c + i) (omega arith) in
          let p = L.has_one (4 * c + i) (omega arith) in
          L.once (get_or cells (4 * c + i) 0) u (omega arith) (r ∙ e);
    }

    pub low-chains : {h0 x0 h1 x1 h2 x2 : List ℕ} → LabelChains labels (length cells / 4) (m + 1) h0 x0 h1 x1 h2 x2 → LowChains cells (m + 1) h0 x0
    low-chains C = record {
      f = label_at labels 0;
      linked = C.by0;
      below = λ c l. omega (arith, L.few (4 * c + 0));
      tells = record {
        same = λ c d h l e. L.tells.same (4 * c + 0) (4 * d + 0) (omega arith) (omega arith) e;
        told = λ c d h l e. L.tells.told (4 * c + 0) (4 * d + 0) (omega arith) (omega arith) e;
      };
    }

-- `number_cells`
module _ {cells : List ℕ} {many : ℕ} {h0 x0 faces at₀ same₀ at same : List ℕ} (L : LowChains cells many h0 x0) (C : Comparable cells faces at₀ same₀)
    (at_is : length at ≡ length at₀) (za : (k : ℕ) → get_or at k 0 ≡ 0) (same-is : length same ≡ length same₀) (zo : (j : ℕ) → get_or same j 0 ≡ 0) where
  cells_course : Course L.f L.f (λ j. L.f (j / 4)) many (length cells / 4) h0 x0 0 1 h0 x0 0 0 faces many at same
  cells_course = record {
    linked_a = L.linked;
    linked_b = L.linked;
    within = omega arith;
    ordered_a = omega arith;
    ordered_b = omega arith;
    apart = omega arith;
    slots = omega arith;
    low_a = λ j h l. refl;
    low_b = λ j h l. refl;
    small = omega (arith, C.few);
    keyed = C.told.room;
    room = omega (arith, C.same_room);
    known = λ j h. omega (arith, C.told.few j, C.at_room);
    at_blank = za;
    out_blank = zo;
  }

  pub cells_passable : Passable h0 x0 0 1 h0 x0 0 0 faces many at same
  cells_passable = record { f = L.f; g = L.f; low = λ j. L.f (j / 4); T = many; n = length cells / 4; course = cells_course }

  pub cells_tell : (out : List ℕ) (ids : ℕ) → Passed h0 x0 0 1 h0 x0 0 0 faces many at same ids out → Cells (length cells / 4) (SameNodes cells) out
  cells_tell out ids P = record {
    room = omega (arith, P.out_long, C.same_room);
    has_one = has_number;
    tells = record {
      same = λ c d h l e. D.told.same (4 * c) (4 * d) (has_number c h) (has_number d l)
          (rw (home c, home d) (L.tells.same c d h l (e 0 (omega arith))))
          (K.same (4 * c) (4 * d) (omega arith) (omega arith) (λ r a b. at_slot c r ∙ e (r + 1) (omega arith) ∙ sym (at_slot d r)));
      told = λ c d h l e i b. elim (ℕ_discrete i 0) [
        | yes q ↦ rw q (L.tells.told c d h l (rw (home c, home d) at (D.told.lows (4 * c) (4 * d) (has_number c h) (has_number d l) e)))
        | no q ↦ (let u : i - 1 + 1 ≡ i = omega arith in
            rw u at (sym (at_slot c (i - 1)) ∙ K.told (4 * c) (4 * d) (omega arith) (omega arith) (D.told.keys_are (4 * c) (4 * d) (has_number c h) (has_number d l) e) (i - 1) (omega arith) (omega arith) ∙ at_slot d (i - 1)))
      ];
    };
    few = λ j. omega (arith, D.few j, D.bound);
  }
    where
      D : Coursed L.f L.f (λ j. L.f (j / 4)) (length cells / 4) 0 1 0 0 faces many ids out
      D = P.over _ _ _ _ _ cells_course

      K : Tells (4 * (length cells / 4)) (SameFrom 0 cells) (entry faces)
      K = C.told.tells

      home : (c : ℕ) → 4 * c / 4 ≡ c
      home c = omega arith

      at_slot : (c r : ℕ) → corner cells r (4 * c) ≡ get_or cells (4 * c + (r + 1)) 0
      at_slot c r = corner_above cells r (4 * c) (omega arith) ∙ rw (home c)

      has_number : (c : ℕ) → c < length cells / 4 → Has out (4 * c)
      has_number c h = D.done_a (4 * c) (omega arith) (L.below (4 * c / 4) (omega arith)) (omega arith) (omega arith)
