-- What is drawn of a cell under other names: its parts, one by one, and their triangles.
use Prim.Native.Nat.{ℕ, ◌+◌, ◌*◌, ◌/◌, ◌%◌, ◌≤◌, ◌<◌}
use mathlib.Core.Path.{◌≡◌, refl, sym, ap, ap₂, ◌∙◌}
use mathlib.Core.Logic.{◌⊎◌, inl, inr, ⊎_elim}
use mathlib.Core.Bool.{true}
use mathlib.Core.List.{List}
use native.Mathlib.Omega.{arith}
use lib.ListN.{get_or}
use borrow.Author.Tests.{lt-ltb, le-ltb}
use Rattle.counting.specs.Pick.{pick}
use Rattle.counting.specs.Lists.{total, pre}
use Rattle.counting.proofs.Below.{below_three, below_four, below_six}
use Rattle.counting.proofs.Pack.{pack_lt}
use Rattle.slots.specs.Slots.{lo, position, slot_edge}
use Rattle.slots.proofs.Slots.{slot-edge, corner_lt}
use Rattle.cell.specs.declared.Cell.{Cell}
use Rattle.cell.specs.Of.{count_of, start_of}
use Rattle.cell.specs.Level.{is_level_cell}
use Rattle.cell.specs.Renaming.{Renaming}
use Rattle.cell.specs.claims.Renaming.{RenamedCell}
use Rattle.booking.specs.Booking.{least_corner, larger, smaller}
use Rattle.split.specs.Limits.{first_inner_crossing, first_inner_face, word_step}
use Rattle.split.specs.Labels.{labelled, label, spoke}
use Rattle.split.specs.SubCell.{rest_start, arm_start, inner_name, sub_at, sub}
use Rattle.split.proofs.Labels.{labelled_lt, at-label}
use Rattle.split.proofs.Rest.{rest_sum}
use Rattle.split.proofs.SubCells.{sub_omits}
use Rattle.layers.specs.Runs.{keep_inner}
use Rattle.layers.specs.claims.Renaming.{OuterNames}

-- what stays and what goes over
module _ (r : Renaming) where
  pub inner_crossing : (g : ℕ) → first_inner_crossing ≤ g → (keep_inner r).crossing g ≡ g
  unfolding keep_inner
  inner_crossing g h = ap (λ x. pick x (r.crossing g) g) (le-ltb g first_inner_crossing h)

  pub outer_crossing : (g : ℕ) → g < first_inner_crossing → (keep_inner r).crossing g ≡ r.crossing g
  unfolding keep_inner
  outer_crossing g h = ap (λ x. pick x (r.crossing g) g) (lt-ltb g first_inner_crossing h)

  pub inner_face : (f : ℕ) → first_inner_face ≤ f → (keep_inner r).face f ≡ f
  unfolding keep_inner
  inner_face f h = ap (λ x. pick x (r.face f) f) (le-ltb f first_inner_face h)

  pub outer_face : (f : ℕ) → f < first_inner_face → (keep_inner r).face f ≡ r.face f
  unfolding keep_inner
  outer_face f h = ap (λ x. pick x (r.face f) f) (lt-ltb f first_inner_face h)

  pub word_0 : (cell n : ℕ) → cell < word_step → (keep_inner r).cell (cell + word_step * n) ≡ r.cell cell + word_step * n
  unfolding keep_inner
  word_0 cell n h =
      let a : (cell + word_step * n) % word_step ≡ cell = omega arith in
      let b : (cell + word_step * n) / word_step ≡ n = omega arith in
      ap₂ (λ x y. r.cell x + word_step * y) a b

  -- a cell of a grid goes over as by r
  pub outer_cell : (a b : Cell) → RenamedCell r a b → OuterNames a → RenamedCell (keep_inner r) a b
  outer_cell a b H A = record {
    counts = H.counts;
    index = let z : a.index + word_step * 0 ≡ a.index = omega arith in ap (keep_inner r).cell (sym z) ∙ word_0 a.index 0 A.index ∙ omega (arith, H.index);
    names = λ s l. outer_face (get_or a.names s 0) (A.under s l) ∙ H.names s l;
    starts = λ k i lk h. outer_crossing (start_of a k + i) (A.below k i lk h) ∙ H.starts k i lk h;
    order = λ j k s t lj lk hs ht h.
        omega (arith, outer_crossing (start_of a j + s) (A.below j s lj hs), outer_crossing (start_of a k + t) (A.below k t lk ht), H.order j k s t lj lk hs ht h);
  }

-- all crossing numbers of a cell are below b
abbrev pub Below : ℕ → Cell → Type 0
Below b c = (k i : ℕ) → k < 6 → i < count_of c k → start_of c k + i < b

-- one split of c and of the same cell under other names
module _ (r : Renaming) (c : Cell) (starts names nodes : List ℕ) (at : ℕ) where
  abbrev d : Cell
  d = record { counts = c.counts; starts = starts; names = names; nodes = nodes; index = at }

  abbrev w : ℕ → ℕ
  w = count_of c

  module _ (K : is_level_cell (count_of c) ≡ true) (some : 0 < smaller (count_of c)) (apart : smaller (count_of c) < larger (count_of c)) (b f : ℕ) where
    abbrev top : ℕ
    top = b + 2 * (larger w + smaller w)

    spokes : pre (spoke w) 4 ≡ 2 * (larger w + smaller w)
    unfolding pre total spoke
    spokes = omega (arith, apart)

    module _ (word word' p : ℕ) (lp : p < 4) where
      abbrev S : Cell
      S = sub_at c b f word p

      abbrev S' : Cell
      S' = sub_at d b f word' p

      -- edge k of a sub-cell is a new one, or what remains of an edge of the cell
      record New (k : ℕ) : Type 0 where
        pub from : b ≤ start_of S k
        pub same : start_of S k ≡ start_of S' k
        pub below : (i : ℕ) → i < count_of S k → start_of S k + i < top

      record Old (k : ℕ) : Type 0 where
        pub e : ℕ
        pub lt : e < 6
        pub gone : ℕ
        pub start : start_of S k ≡ start_of c e + gone
        pub start' : start_of S' k ≡ start_of d e + gone
        pub within : (i : ℕ) → i < count_of S k → gone + i < w e

      arm : (q : ℕ) → q < 3 → (start_of S q ≡ arm_start c b (position p q)) × (start_of S' q ≡ arm_start c b (position p q))
      unfolding sub_at arm_start
      arm = below_three (λ q. (start_of S q ≡ arm_start c b (position p q)) × (start_of S' q ≡ arm_start c b (position p q))) (refl, refl) (refl, refl) (refl, refl)

      new : (q : ℕ) → q < 3 → New q
      unfolding arm_start
      new q l =
          let (x, y) = arm q l in
          let n = (at-label w K some apart (position p q) (corner_lt p q l)).0 in
          record {
            from = omega (arith, x);
            same = x ∙ sym y;
            below = λ i h. omega (arith, x, spokes, pack_lt (spoke w) 4 (label w (position p q)) i n (omega (arith, (sub_omits c K some apart b f word p lp).new q l)));
          }

      rest : (j : ℕ) → j < 3 → (start_of S (3 + j) ≡ rest_start c (slot_edge p j)) × (start_of S' (3 + j) ≡ rest_start d (slot_edge p j))
      unfolding sub_at
      rest = below_three (λ j. (start_of S (3 + j) ≡ rest_start c (slot_edge p j)) × (start_of S' (3 + j) ≡ rest_start d (slot_edge p j))) (refl, refl) (refl, refl) (refl, refl)

      old : (j : ℕ) → j < 3 → Old (3 + j)
      unfolding rest_start
      old j l =
          let (x, y) = rest j l in
          let e = slot_edge p j in
          let le = (slot-edge p j lp l).lt in
          record {
            e = e;
            lt = le;
            gone = least_corner w (lo e);
            start = x;
            start' = y;
            within = λ i h. omega (arith, (sub_omits c K some apart b f word p lp).old j l, rest_sum (count_of c) K e le);
          }

      kind : (k : ℕ) → k < 6 → New k ⊎ Old k
      kind = below_six (λ k. New k ⊎ Old k) (inl (new 0 (omega arith))) (inl (new 1 (omega arith))) (inl (new 2 (omega arith)))
          (inr (old 0 (omega arith))) (inr (old 1 (omega arith))) (inr (old 2 (omega arith)))

      below_at : Below b c → Below top S
      below_at u k i lk h = ⊎_elim (λ (q : New k). q.below i h)
          (λ (q : Old k). omega (arith, q.start, u q.e (q.gone + i) q.lt (q.within i h))) (kind k lk)

      module _ (H : RenamedCell (keep_inner r) c d) (u : Below b c) (v : Below b d) (hb : first_inner_crossing ≤ b) (hf : first_inner_face ≤ f) where
        stays : (k i : ℕ) → New k → (keep_inner r).crossing (start_of S k + i) ≡ start_of S k + i
        stays k i q = inner_crossing r (start_of S k + i) (omega (arith, q.from))

        goes : (k i : ℕ) (q : Old k) → i < count_of S k → (keep_inner r).crossing (start_of S k + i) ≡ start_of d q.e + (q.gone + i)
        goes k i q h =
            let z : start_of S k + i ≡ start_of c q.e + (q.gone + i) = omega (arith, q.start) in
            ap (keep_inner r).crossing z ∙ H.starts q.e (q.gone + i) q.lt (q.within i h)

        order : (j k s t : ℕ) → New j ⊎ Old j → New k ⊎ Old k → s < count_of S j → t < count_of S k → start_of S j + s < start_of S k + t
            → (keep_inner r).crossing (start_of S j + s) < (keep_inner r).crossing (start_of S k + t)
        order j k s t (inl x) (inl y) hs ht h = omega (arith, stays j s x, stays k t y)
        order j k s t (inl x) (inr y) hs ht h =
            absurd (omega (arith, x.from, y.start, u y.e (y.gone + t) y.lt (y.within t ht)))
        order j k s t (inr x) (inl y) hs ht h =
            omega (arith, goes j s x hs, v x.e (x.gone + s) x.lt (x.within s hs), stays k t y, y.from)
        order j k s t (inr x) (inr y) hs ht h =
            let o = H.order x.e y.e (x.gone + s) (y.gone + t) x.lt y.lt (x.within s hs) (y.within t ht) (omega (arith, x.start, y.start)) in
            omega (arith, goes j s x hs, goes k t y ht, o, H.starts x.e (x.gone + s) x.lt (x.within s hs), H.starts y.e (y.gone + t) y.lt (y.within t ht))

        sides : (e : ℕ) → (keep_inner r).face (inner_name c f e) ≡ inner_name d f e
        unfolding inner_name
        sides e = inner_face r (inner_name c f e) (omega arith)

        renamed_at : (keep_inner r).cell word ≡ word' → RenamedCell (keep_inner r) S S'
        unfolding sub_at
        renamed_at i = record {
          counts = refl;
          index = i;
          names = below_four (λ s. (keep_inner r).face (get_or S.names s 0) ≡ get_or S'.names s 0) (H.names p lp) (sides (slot_edge p 2)) (sides (slot_edge p 1)) (sides (slot_edge p 0));
          starts = λ k i lk h. ⊎_elim (λ (q : New k). stays k i q ∙ ap (λ x. x + i) q.same) (λ (q : Old k). goes k i q h ∙ omega (arith, q.start')) (kind k lk);
          order = λ j k s t lj lk. order j k s t (kind j lj) (kind k lk);
        }

    -- the same of the sub-cells by their labels
    module _ (m : ℕ) (l : m < 4) where
      pub sub_below : (word : ℕ) → Below b c → Below top (sub c b f word m)
      unfolding sub
      sub_below word u = below_at word 0 (labelled w m) (labelled_lt w K some apart m l) u

      pub sub_renamed : RenamedCell (keep_inner r) c d → Below b c → Below b d → first_inner_crossing ≤ b → first_inner_face ≤ f → (cell n : ℕ) → cell < word_step
          → RenamedCell (keep_inner r) (sub c b f (cell + word_step * n) m) (sub d b f (r.cell cell + word_step * n) m)
      unfolding sub
      sub_renamed H u v hb hf cell n h =
          renamed_at (cell + word_step * n) (r.cell cell + word_step * n) (labelled w m) (labelled_lt w K some apart m l) H u v hb hf (word_0 r cell n h)
