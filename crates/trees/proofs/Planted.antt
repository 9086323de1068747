-- Laws of a list's keys in trees: the place before each, and pairs that have a key. Assumes nothing.
use Rattle.std.specs.Prelude.{Some, None}
use Prim.Native.Nat.{ℕ, suc, ◌+◌, ◌-◌, ◌*◌, ◌/◌, ◌%◌, ◌≤◌, ◌<◌}
use mathlib.Core.Path.{◌≡◌, refl, sym, ap, ◌∙◌}
use mathlib.Core.Bool.{Bool, true, false, not}
use mathlib.Core.List.{List}
use native.Mathlib.Nat.{mul-add, mul-one, mul-le-mul_left}
use native.Mathlib.Numerals.{add-one}
use native.Mathlib.Decide.{dec_lt, ℕ_discrete}
use native.Mathlib.Omega.{arith}
use lib.Dec.{ltb}
use lib.ListN.{length, get_or, set, take, length-set, get_or-eq_default}
use lib.Seq.{ext_get_or, get_or-take, get_or-set_same, get_or-set_other}
use borrow.Author.Tests.{eq-eqb, ne_eqb, lt-ltb, le-ltb}
use Rattle.counting.specs.Pick.{pick}
use Rattle.counting.specs.Search.{last}
use Rattle.counting.specs.work.Search.{found}
use Rattle.counting.specs.Stored.{filled}
use Rattle.counting.proofs.Search.{last_none, last_hit, last_miss, seek_end, seek_hit, seek_miss, seek_start, some_last, last_ext, some_ext}
use Rattle.counting.proofs.Stored.{filled_at, filled_beyond, length_filled}
use Rattle.trees.specs.work.Trees.{trees, has_key, top_for, Tops, Tree}
use Rattle.trees.specs.work.Keys.{most_places, key_in, key_below, earlier_in, pair_in, pair_has, pair_lacks, below_or, paired_at}
use Rattle.trees.specs.work.Planted.{IsBlank, link_room, planted_of, top_at, KeyTops, Stepping, met, pair_from, PairsMarked, lowest_from, Topped, source_at, spread_at}
use Rattle.trees.proofs.Trees.{top_le, top_key, top_self, tops_none, tops_more}

-- the loop of `grow`
module _ (key : ℕ → ℕ) (n : ℕ) (was : List ℕ) where
  pub key_tops_none : n ≤ length was → KeyTops key n n was was
  key_tops_none r = record { tops_are = tops_none key n was r; same = refl; rest = λ i h. refl }

  pub key_tops_more : (tops : List ℕ) (i p : ℕ) → i < n → p ≡ top_for key n (key i) → KeyTops key n (i + 1) was tops → KeyTops key n i was (set tops i p)
  key_tops_more tops i p hi e w =
      record {
        tops_are = tops_more key n tops i p hi e w.tops_are;
        same = length-set tops i p ∙ w.same;
        rest = λ k h. get_or-set_other tops i k p 0 (λ q. omega arith) ∙ w.rest k h;
      }

-- the key at a place that there is, and at one that there is not
module _ (key : ℕ → ℕ) (n i : ℕ) where
  pub key_there : i < n → key_below n key i ≡ key i
  unfolding key_below
  key_there h = rw (lt-ltb i n h) refl

  pub key_beyond : n ≤ i → key_below n key i ≡ 0
  unfolding key_below
  key_beyond h = rw (le-ltb i n h) refl

-- links that have room
module _ (b l n : ℕ) where
  pub room_fits : n ≤ link_room b l → 0 < n → (0 < b) × (trees + b * n ≤ l)
  unfolding link_room
  room_fits h pos = elim (dec_lt 0 b) [
    | yes some ↦
        let within : n ≤ (l - trees) / b = rw (lt-ltb 0 b some) at h in
        (some, omega (arith, mul-le-mul_left b within, mul-le-mul_left b pos, mul-one b))
    | no none ↦ let e : link_room b l ≡ 0 = rw (le-ltb 0 b (omega arith)) in absurd (omega arith)
  ]

  pub fits_room : 0 < b → trees + b * n ≤ l → n ≤ link_room b l
  unfolding link_room
  fits_room some room = rw (lt-ltb 0 b some) (elim (dec_lt ((l - trees) / b) n) [
    | yes less ↦ absurd (omega (arith, mul-le-mul_left b less, mul-add b ((l - trees) / b) 1, mul-one b))
    | no more ↦ omega arith
  ])

  pub planted_all : 0 < b → trees + b * n ≤ l → n ≤ most_places → (tops : ℕ) → n ≤ tops → planted_of b n l tops ≡ n
  unfolding planted_of
  planted_all some room few tops fits = omega (arith, fits_room some room)

-- a tree of no places
pub tree_blank : (b : ℕ) (key : ℕ → ℕ) (n low : ℕ) (links : List ℕ) → Tree b key n low links → n ≡ 0 → IsBlank links
tree_blank b key n low links T z y = elim (dec_lt 0 (get_or links y 0)) [
  | yes h ↦ absurd (omega (arith, z, T.top y h, top_le key n (key (get_or links y 0 - 1))))
  | no h ↦ omega arith
]

-- a list of zeros
pub blank_all : (l : List ℕ) → ((i : ℕ) → i < length l → get_or l i 0 ≡ 0) → (y : ℕ) → get_or l y 0 ≡ 0
blank_all l zeros y = elim (dec_lt y (length l)) [
  | yes h ↦ zeros y h
  | no h ↦ get_or-eq_default l 0 (omega arith)
]

-- the first n keys, as a list of their own
module _ (keys : List ℕ) (n : ℕ) where
  key_take : (i : ℕ) → i < n → key_in (take n keys) i ≡ key_in keys i
  key_take i h = get_or-take n keys i 0 h

  pub earlier_take : (j : ℕ) → j < n → earlier_in (take n keys) j ≡ earlier_in keys j
  unfolding earlier_in has_key
  earlier_take j h = rw (key_take j h) (last_ext _ _ j (λ i l. rw (key_take i (omega arith))))

  pub lacks_take : (pairs : List ℕ) (e : ℕ) → pair_lacks pairs (take n keys) n e ≡ pair_lacks pairs keys n e
  unfolding pair_lacks has_key
  lacks_take pairs e = ap not (some_ext _ _ n (λ i l. rw (key_take i l)))

  pub paired_take : (pairs : List ℕ) (m : ℕ) (was : List ℕ) (j : ℕ) → j < n → paired_at pairs m (take n keys) was j ≡ paired_at pairs m keys was j
  unfolding paired_at
  paired_take pairs m was j h = rw (key_take j h)

-- equal tops are those of equal keys
module _ (keys : List ℕ) (n : ℕ) where
  pub same_top : (i j : ℕ) → i < n → top_at keys n i ≡ top_at keys n j → key_in keys i ≡ key_in keys j
  same_top i j h e =
      sym (top_key (key_in keys) n (key_in keys i) (omega (arith, top_self (key_in keys) n i h)))
      ∙ ap (λ t. key_in keys (t - 1)) e
      ∙ top_key (key_in keys) n (key_in keys j) (omega (arith, e, top_self (key_in keys) n i h))

-- the loop of `step` has come to j
pub record Stepped (keys : List ℕ) (n : ℕ) (was prev seen : List ℕ) (j : ℕ) : Type 0 where
  pub same : length prev ≡ length was
  pub room : n < length seen
  pub done : (i : ℕ) → i < j → get_or prev i 0 ≡ earlier_in keys i
  pub ahead : (i : ℕ) → j ≤ i → i < n → get_or prev i 0 ≡ top_at keys n i
  pub rest : (i : ℕ) → n ≤ i → get_or prev i 0 ≡ get_or was i 0
  pub seen_is : (i : ℕ) → i < n → get_or seen (top_at keys n i) 0 ≡ last (has_key (key_in keys) (key_in keys i)) j

module _ (keys : List ℕ) (n : ℕ) (was : List ℕ) where
  pub stepped_none : (seen : List ℕ) → Stepping keys n was seen → Stepped keys n was was seen 0
  stepped_none seen p =
      record {
        same = refl;
        room = p.room;
        done = λ i h. absurd (omega arith);
        ahead = λ i l h. p.tops_are.at i l h;
        rest = λ i h. refl;
        seen_is = λ i h. p.blank (top_at keys n i) (top_le (key_in keys) n (key_in keys i)) ∙ sym (last_none (has_key (key_in keys) (key_in keys i)));
      }

  module _ (prev seen : List ℕ) (j : ℕ) (h : j < n) (w : Stepped keys n was prev seen j) (room : n ≤ length was) (t : ℕ) (e : t ≡ get_or prev j 0) where
    at_top : t ≡ top_at keys n j
    at_top = e ∙ w.ahead j (omega arith) h

    pub step_top : t ≤ n
    step_top = omega (arith, at_top, top_le (key_in keys) n (key_in keys j))

    pub stepped_more : Stepped keys n was (set prev j (get_or seen t 0)) (set seen t (j + 1)) (j + 1)
    unfolding earlier_in has_key
    stepped_more =
        record {
          same = length-set prev j (get_or seen t 0) ∙ w.same;
          room = omega (arith, w.room, length-set seen t (j + 1));
          done = λ i l. elim (ℕ_discrete j i) [
            | yes q ↦ rw (← q, get_or-set_same prev j (get_or seen t 0) 0 (omega (arith, w.same))) (ap (λ t. get_or seen t 0) at_top ∙ w.seen_is j h)
            | no q ↦ get_or-set_other prev j i (get_or seen t 0) 0 (λ x. q (sym x)) ∙ w.done i (omega arith)
          ];
          ahead = λ i l k. get_or-set_other prev j i (get_or seen t 0) 0 (λ x. omega arith) ∙ w.ahead i (omega arith) k;
          rest = λ i l. get_or-set_other prev j i (get_or seen t 0) 0 (λ x. omega arith) ∙ w.rest i l;
          seen_is = λ i k. elim (ℕ_discrete t (top_at keys n i)) [
            | yes q ↦
                let s = same_top keys n i j k (sym q ∙ at_top) in
                rw (← q, get_or-set_same seen t (j + 1) 0 (omega (arith, w.room, step_top))) (sym (last_hit (has_key (key_in keys) (key_in keys i)) j (eq-eqb (key_in keys j) (key_in keys i) (sym s))))
            | no q ↦
                get_or-set_other seen t (top_at keys n i) (j + 1) 0 (λ x. q (sym x)) ∙ w.seen_is i k
                ∙ sym (last_miss (has_key (key_in keys) (key_in keys i)) j (ne_eqb (key_in keys j) (key_in keys i) (λ x. q (at_top ∙ ap (top_for (key_in keys) n) x))))
          ];
        }

  pub stepped_all : (prev seen : List ℕ) → n ≤ length was → Stepped keys n was prev seen n → prev ≡ filled (earlier_in keys) n was
  stepped_all prev seen room w =
      ext_get_or 0 prev (filled (earlier_in keys) n was) (w.same ∙ sym (length_filled (earlier_in keys) n was))
      (λ i h. elim (dec_lt i n) [
        | yes l ↦ w.done i l ∙ sym (filled_at (earlier_in keys) n was 0 room i l)
        | no l ↦ w.rest i (omega arith) ∙ sym (filled_beyond (earlier_in keys) n was 0 i (omega arith))
      ])

-- filled over a list that is the same beyond
pub filled_over : (f : ℕ → ℕ) (n : ℕ) (l m : List ℕ) → length m ≡ length l → n ≤ length l → ((i : ℕ) → n ≤ i → get_or m i 0 ≡ get_or l i 0) → filled f n m ≡ filled f n l
filled_over f n l m e room rest =
    ext_get_or 0 (filled f n m) (filled f n l) (length_filled f n m ∙ e ∙ sym (length_filled f n l))
    (λ i h. elim (dec_lt i n) [
      | yes k ↦ filled_at f n m 0 (omega arith) i k ∙ sym (filled_at f n l 0 room i k)
      | no k ↦ filled_beyond f n m 0 i (omega arith) ∙ rest i (omega arith) ∙ sym (filled_beyond f n l 0 i (omega arith))
    ])

-- the lowest that passes, from the end down
module _ (t : ℕ → Bool) (m : ℕ) where
  pub lowest_none : None ≡ lowest_from t m m
  lowest_none = sym (rw (seek_end t m m (omega arith), le-ltb m m (omega arith)))

  pub lowest_hit : (e : ℕ) → e < m → t e ≡ true → Some e ≡ lowest_from t m e
  lowest_hit e h p = sym (rw (seek_hit t m e h p, lt-ltb e m h))

  pub lowest_miss : (e : ℕ) → e < m → t e ≡ false → lowest_from t m (e + 1) ≡ lowest_from t m e
  lowest_miss e h p = sym (rw (seek_miss t m e h p))

  pub lowest_all : lowest_from t m 0 ≡ found t m
  unfolding found
  lowest_all = rw (seek_start t m)

-- the loop of `mark` has come to pair e
module _ (pairs : List ℕ) (m : ℕ) (keys : List ℕ) (n : ℕ) (was : List ℕ) where
  pub marked_none : (tops : List ℕ) → Tops (key_in keys) n 0 tops → PairsMarked pairs m keys n m was tops was
  marked_none tops t =
      record {
        room = t.room;
        same = refl;
        own = λ j h e. t.at j (omega arith) h ∙ sym e ∙ sym (rw (none j));
        own_place = λ j h e. sym (rw (none j));
        other = λ j h e. t.at j (omega arith) h;
        other_place = λ j h e. refl;
        rest = λ j h. refl;
      }
    where
      none : (j : ℕ) → ltb (pair_from pairs m keys m j) m ≡ false
      none j = rw (seek_end (pair_has pairs (key_in keys j)) m m (omega arith)) (le-ltb m m (omega arith))

  module _ (e : ℕ) (h : e < m) (tops places : List ℕ) (w : PairsMarked pairs m keys n (e + 1) was tops places) where
    -- a place with another key
    from_miss : (j : ℕ) → (key_in keys j ≡ pair_in pairs e → ⊥) → pair_from pairs m keys (e + 1) j ≡ pair_from pairs m keys e j
    unfolding pair_has
    from_miss j ne = sym (seek_miss (pair_has pairs (key_in keys j)) m e h (ne_eqb (pair_in pairs e) (key_in keys j) (λ q. ne (sym q))))

    from_hit : (j : ℕ) → key_in keys j ≡ pair_in pairs e → pair_from pairs m keys e j ≡ e
    unfolding pair_has
    from_hit j q = seek_hit (pair_has pairs (key_in keys j)) m e h (eq-eqb (pair_in pairs e) (key_in keys j) (sym q))

    -- no place has the pair's key
    pub marked_skip : top_for (key_in keys) n (pair_in pairs e) ≡ 0 → PairsMarked pairs m keys n e was tops places
    marked_skip z =
        record {
          room = w.room;
          same = w.same;
          own = λ j l q. w.own j l q ∙ rw (from_miss j (ne j l));
          own_place = λ j l q. w.own_place j l q ∙ rw (from_miss j (ne j l));
          other = w.other;
          other_place = w.other_place;
          rest = w.rest;
        }
      where
        ne : (j : ℕ) → j < n → key_in keys j ≡ pair_in pairs e → ⊥
        ne j l q = omega (arith, z, top_self (key_in keys) n j l, ap (top_for (key_in keys) n) q)

    -- p is the last with it
    module _ (room : n ≤ length was) (p : ℕ) (is : suc p ≡ top_for (key_in keys) n (pair_in pairs e)) where
      pub mark_in : p < n
      mark_in = omega (arith, is, top_le (key_in keys) n (pair_in pairs e))

      key_is : key_in keys p ≡ pair_in pairs e
      key_is = let q : p ≡ top_for (key_in keys) n (pair_in pairs e) - 1 = omega (arith, is) in ap (key_in keys) q ∙ top_key (key_in keys) n (pair_in pairs e) (omega (arith, is))

      -- a place with the key has its link for its top
      top_of : (j : ℕ) → key_in keys j ≡ pair_in pairs e → top_at keys n j ≡ suc p
      top_of j q = ap (top_for (key_in keys) n) q ∙ sym is

      pub marked_more : PairsMarked pairs m keys n e was (set tops p (p + 1 + met)) (set places p (e + 1))
      marked_more =
          record {
            room = omega (arith, w.room, length-set tops p (p + 1 + met));
            same = length-set places p (e + 1) ∙ w.same;
            own = λ j l q. elim (ℕ_discrete p j) [
              | yes x ↦ rw (← x, get_or-set_same tops p (p + 1 + met) 0 (omega (arith, w.room, mark_in)), from_hit p key_is, lt-ltb e m h) (omega arith)
              | no x ↦ get_or-set_other tops p j (p + 1 + met) 0 (λ y. x (sym y)) ∙ w.own j l q ∙ rw (from_miss j (ne j q x))
            ];
            own_place = λ j l q. elim (ℕ_discrete p j) [
              | yes x ↦ rw (← x, get_or-set_same places p (e + 1) 0 (omega (arith, w.same, room, mark_in)), from_hit p key_is, lt-ltb e m h) (add-one e)
              | no x ↦ get_or-set_other places p j (e + 1) 0 (λ y. x (sym y)) ∙ w.own_place j l q ∙ rw (from_miss j (ne j q x))
            ];
            other = λ j l q. get_or-set_other tops p j (p + 1 + met) 0 (λ y. apart j q (sym y)) ∙ w.other j l q;
            other_place = λ j l q. get_or-set_other places p j (e + 1) 0 (λ y. apart j q (sym y)) ∙ w.other_place j l q;
            rest = λ j l. get_or-set_other places p j (e + 1) 0 (λ y. omega (arith, mark_in)) ∙ w.rest j l;
          }
        where
          ne : (j : ℕ) → j + 1 ≡ top_at keys n j → (p ≡ j → ⊥) → key_in keys j ≡ pair_in pairs e → ⊥
          ne j q x y = x (omega (arith, q, top_of j y))

          apart : (j : ℕ) → j + 1 < top_at keys n j → p ≡ j → ⊥
          apart j q x = omega (arith, q, top_of j (rw (← x) key_is))

  -- all pairs have
  module _ (tops places : List ℕ) (few : n ≤ most_places) (room : n ≤ length was) (w : PairsMarked pairs m keys n 0 was tops places) where
    abbrev pair_of : ℕ → ℕ
    pair_of j = pair_from pairs m keys 0 j

    -- the top of place j, and what stands there
    module _ (j : ℕ) (h : j < n) where
      abbrev top : ℕ
      top = top_at keys n j

      top_up : j < top
      top_up = top_self (key_in keys) n j h

      top_in : top ≤ n
      top_in = top_le (key_in keys) n (key_in keys j)

      entry : get_or tops j 0 % met ≡ top
      entry = elim (ℕ_discrete (j + 1) top) [
        | yes q ↦ ap (λ x. x % met) (w.own j h q) ∙ go (ltb (pair_of j) m) q
        | no q ↦ ap (λ x. x % met) (w.other j h (omega (arith, top_up))) ∙ small top top_in
      ]
        where
          small : (t : ℕ) → t ≤ n → t % met ≡ t
          small t l = omega arith

          go : (c : Bool) → j + 1 ≡ top → pick c (j + 1 + met) (j + 1) % met ≡ top
          go true q = omega (arith, q, top_in)
          go false q = omega (arith, q, top_in)

      key_top : key_in keys (top - 1) ≡ key_in keys j
      key_top = top_key (key_in keys) n (key_in keys j) (omega (arith, top_up))

      own_top : top - 1 + 1 ≡ top_at keys n (top - 1)
      own_top = rw key_top (omega (arith, top_up))

      pair_top : pair_of (top - 1) ≡ pair_of j
      pair_top = rw key_top

      marks_top : get_or tops (top - 1) 0 ≡ pick (ltb (pair_of j) m) (top - 1 + 1 + met) (top - 1 + 1)
      marks_top = w.own (top - 1) (omega (arith, top_up, top_in)) own_top ∙ rw pair_top

      place_top : get_or places (top - 1) 0 ≡ below_or m (pair_of j) (get_or was (top - 1) 0)
      place_top = w.own_place (top - 1) (omega (arith, top_up, top_in)) own_top ∙ rw pair_top

      own_is : ltb (pair_of j) m ≡ false → get_or places j 0 ≡ get_or was j 0
      own_is e = elim (ℕ_discrete (j + 1) top) [
        | yes q ↦ w.own_place j h q ∙ rw e
        | no q ↦ w.other_place j h (omega (arith, top_up))
      ]

      pub spread_is : spread_at tops places j ≡ paired_at pairs m keys was j
      unfolding spread_at source_at paired_at
      spread_is = rw (entry, seek_start (pair_has pairs (key_in keys j)) m) (go (ltb (pair_of j) m) refl)
        where
          go : (c : Bool) → ltb (pair_of j) m ≡ c → get_or places (pick (ltb (get_or tops (top - 1) 0) met) j (top - 1)) 0 ≡ below_or m (pair_of j) (get_or was j 0)
          go true e = rw (marks_top, e) (rw (le-ltb (top - 1 + 1 + met) met (omega arith), place_top) (rw e))
          go false e = rw (marks_top, e) (rw (lt-ltb (top - 1 + 1) met (omega (arith, top_in, top_up))) (own_is e))

    pub topped : Topped n tops
    topped =
        record {
          room = w.room;
          up = λ j h. rw (entry j h) (top_up j h);
          within = λ j h. rw (entry j h) (top_in j h);
        }

    pub spread_all : filled (spread_at tops places) n places ≡ filled (paired_at pairs m keys was) n was
    spread_all =
        ext_get_or 0 (filled (spread_at tops places) n places) (filled (paired_at pairs m keys was) n was)
        (length_filled (spread_at tops places) n places ∙ w.same ∙ sym (length_filled (paired_at pairs m keys was) n was))
        (λ i h. elim (dec_lt i n) [
          | yes l ↦ filled_at (spread_at tops places) n places 0 (omega (arith, w.same)) i l ∙ spread_is i l ∙ sym (filled_at (paired_at pairs m keys was) n was 0 room i l)
          | no l ↦ filled_beyond (spread_at tops places) n places 0 i (omega arith) ∙ w.rest i (omega arith) ∙ sym (filled_beyond (paired_at pairs m keys was) n was 0 i (omega arith))
        ])

-- what `source` answers
module _ (n : ℕ) (tops : List ℕ) (w : Topped n tops) (j : ℕ) (h : j < n) where
  pub source_up : j ≤ source_at tops j
  unfolding source_at
  source_up = go (ltb (get_or tops (get_or tops j 0 % met - 1) 0) met)
    where
      go : (c : Bool) → j ≤ pick c j (get_or tops j 0 % met - 1)
      go true = omega arith
      go false = omega (arith, w.up j h)

  pub source_in : source_at tops j < n
  unfolding source_at
  source_in = go (ltb (get_or tops (get_or tops j 0 % met - 1) 0) met)
    where
      go : (c : Bool) → pick c j (get_or tops j 0 % met - 1) < n
      go true = h
      go false = omega (arith, w.up j h, w.within j h)

-- the lowest pair without a key
module _ (pairs keys : List ℕ) (n e : ℕ) where
  pub lacks : top_for (key_in keys) n (pair_in pairs e) ≡ 0 → pair_lacks pairs keys n e ≡ true
  unfolding pair_lacks
  lacks z = rw (some_last (has_key (key_in keys) (pair_in pairs e)) n, z)

  pub lacks_not : 0 < top_for (key_in keys) n (pair_in pairs e) → pair_lacks pairs keys n e ≡ false
  unfolding pair_lacks
  lacks_not h = rw (some_last (has_key (key_in keys) (pair_in pairs e)) n, lt-ltb 0 (top_for (key_in keys) n (pair_in pairs e)) h)
