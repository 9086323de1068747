-- A level cell edge by edge, in whatever order its edges are laid.
use Prim.Native.Nat.{ℕ, ◌+◌, ◌-◌, ◌*◌, ◌≤◌, ◌<◌}
use mathlib.Core.Path.{◌≡◌, refl, sym, ap, ◌∙◌, subst}
use mathlib.Core.Logic.{◌⊎◌, ◌≢◌, ⊎_elim}
use mathlib.Core.Bool.{Bool, true, false}
use mathlib.Core.List.{List, [], ◌∷◌, ◌++◌}
use native.Mathlib.Omega.{arith}
use native.Mathlib.Decide.{dec_lt}
use lib.Dec.{eqb, leb}
use lib.ListN.{length, get_or}
use borrow.Author.Tests.{eq-eqb, ne_eqb, leb-true}
use Rattle.counting.specs.Pick.{pick}
use Rattle.counting.specs.Lists.{over, values, pre, gather}
use Rattle.counting.specs.Search.{some}
use Rattle.counting.specs.work.Stored.{Stored}
use Rattle.counting.specs.Stored.{stored_in}
use Rattle.counting.specs.claims.Lists.{next_in}
use Rattle.counting.proofs.Below.{below_six}
use Rattle.counting.proofs.Bools.{clash}
use Rattle.counting.proofs.Fronts.{over_split, over_shift}
use Rattle.counting.proofs.Pack.{pre_most}
use Rattle.counting.proofs.Range.{total_ext}
use Rattle.counting.proofs.Stored.{stored_none, stored_as, stored_room}
use Rattle.slots.specs.Slots.{lo, hi, first_slot}
use Rattle.slots.specs.claims.Slots.{third_position}
use Rattle.slots.specs.Limits.{most_count}
use Rattle.slots.proofs.Slots.{first-slot}
use Rattle.cell.specs.declared.Cell.{Cell}
use Rattle.cell.specs.declared.Triangle.{Triangle}
use Rattle.cell.specs.Cell.{Edges, ahead, base, crossings, edge, index, number}
use Rattle.cell.specs.Of.{count_of, start_of, edges_of}
use Rattle.cell.specs.work.Route.{limited, Near, Firsts}
use Rattle.cell.specs.work.Limits.{most_in_cell, start_limit}
use Rattle.cell.specs.Level.{by_edge, is_level_cell}
use Rattle.cell.specs.claims.Nodes.{Arranged}
use Rattle.cell.specs.Nodes.{joining}
use Rattle.cell.specs.Triangles.{asked_triangles, triangles_with}
use Rattle.cell.specs.Words.{word_count, all_words}
use Rattle.cell.proofs.Lay.{lay, base_all}
use Rattle.cell.proofs.Nodes.{adbc, arranged, joining_ends}
use Rattle.cell.proofs.Storing.{length_all}
use Rattle.cell.proofs.Taken.{with_few}
use Rattle.cell.proofs.Using.{limited_same}
use Rattle.cell.proofs.Values.{six_taken}
use Rattle.booking.specs.Booking.{least_corner, left_between, smaller}
use Rattle.direct.specs.claims.Direct.{passed, outwards, inwards, acrosses, rounds}
use Rattle.direct.specs.work.Rows.{Listed, Parting}
use Rattle.direct.specs.work.Laid.{ring_on, parting_on, quads_on, laid_on, length_asked, Laying, Laid, AtStart}
use Rattle.direct.proofs.Numbers.{count_is}
use Rattle.direct.proofs.Edge.{one_none, laid_edge}
use Rattle.direct.proofs.Families.{room_first, room_next, both_stored}

-- one of two edges, or of three, is laid before edge k
module _ (before : ℕ → ℕ → Bool) (k : ℕ) where
  pub two_first : (i j : ℕ) → before k i ≡ true → true ≡ passed before k (i ∷ j ∷ [])
  unfolding passed some
  two_first i j e = rw e (go (before k j))
    where
      go : (t : Bool) → true ≡ pick t true true
      go true = refl
      go false = refl

  pub two_second : (i j : ℕ) → before k i ≡ false → before k j ≡ passed before k (i ∷ j ∷ [])
  unfolding passed some
  two_second i j e = rw e (go (before k j))
    where
      go : (t : Bool) → t ≡ pick t true false
      go true = refl
      go false = refl

  pub three_first : (h i j : ℕ) → before k h ≡ true → true ≡ passed before k (h ∷ i ∷ j ∷ [])
  unfolding passed some
  three_first h i j e = rw e (go (before k i) (before k j))
    where
      go : (s t : Bool) → true ≡ pick t true (pick s true true)
      go true true = refl
      go true false = refl
      go false true = refl
      go false false = refl

  pub three_rest : (h i j : ℕ) → before k h ≡ false → passed before k (i ∷ j ∷ []) ≡ passed before k (h ∷ i ∷ j ∷ [])
  unfolding passed some
  three_rest h i j e = rw e refl

none_either : (t : Bool) {l : List Triangle} → l ≡ [] → pick t [] l ≡ []
none_either true e = refl
none_either false e = e

module _ (c : Cell) (k : ℕ) where
  -- loops round a node
  module _ (up : Bool) (a b x d : ℕ) where
    pub ring_none : pick up (outwards c a b x d) (inwards c a b x d) ≡ [] → ring_on c k up a b x d ≡ []
    unfolding ring_on
    ring_none e = none_either (passed (ahead (edges_of c)) k (joining a x ∷ joining a d ∷ [])) e

    module _ {i j : ℕ} {r : Bool} (p : i ≡ joining a x) (q : j ≡ joining a d) (e : r ≡ passed (ahead (edges_of c)) k (i ∷ j ∷ [])) where
      is : r ≡ passed (ahead (edges_of c)) k (joining a x ∷ joining a d ∷ [])
      is = e ∙ rw (p, q) refl

      pub ring_passed : r ≡ true → ring_on c k up a b x d ≡ []
      unfolding ring_on
      ring_passed z = rw (sym is ∙ z) refl

      pub ring_kept : r ≡ false → ring_on c k up a b x d ≡ pick up (outwards c a b x d) (inwards c a b x d)
      unfolding ring_on
      ring_kept z = rw (sym is ∙ z) refl

  -- quads
  module _ (o : Bool) (a m u v : ℕ) {h i j : ℕ} {r : Bool} (p : h ≡ joining m u) (q : i ≡ joining m v) (s : j ≡ joining a v) (e : r ≡ passed (ahead (edges_of c)) k (h ∷ i ∷ j ∷ [])) where
    is_three : r ≡ passed (ahead (edges_of c)) k (joining m u ∷ joining m v ∷ joining a v ∷ [])
    is_three = e ∙ rw (p, q, s) refl

    pub parting_passed : r ≡ true → parting_on c k o a m u v ≡ []
    unfolding parting_on
    parting_passed z = rw (sym is_three ∙ z) refl

    pub parting_kept : r ≡ false → parting_on c k o a m u v ≡ pick o (acrosses c a m u v) (rounds c a m u v)
    unfolding parting_on
    parting_kept z = rw (sym is_three ∙ z) refl

-- the quads on an edge
module _ {c : Cell} {six own : List ℕ} {quads : Bool} (R : Laid c six own quads) {a b x d : ℕ} (A : Arranged a b x d) where
  abbrev w : ℕ → ℕ
  w = count_of c

  own_at : (p : ℕ) → p < 4 → get_or own p 0 ≡ least_corner w p
  own_at = R.laying.own_are

  -- what is left of an edge
  pub left_at : {e y p : ℕ} → p < 4 → e ≡ joining a p → e < 6 → y ≡ get_or six e 0 - get_or own a 0 - get_or own p 0 → y ≡ left_between w a p
  unfolding left_between
  left_at {e} {y} {p} h f l g = g ∙ rw (count_is R.listed e l, own_at a A.a_lt, own_at p h, f) refl

  module _ {y : ℕ} (e : y ≡ left_between w a b) where
    pub none_left : (k : ℕ) → y ≡ 0 → quads_on c k a b x d ≡ []
    unfolding quads_on parting_on acrosses rounds over
    none_left k z = rw (← e, z) (go (eqb (left_between w a x) 0) (passed (ahead (edges_of c)) k (joining x b ∷ joining x d ∷ joining a d ∷ [])) (passed (ahead (edges_of c)) k (joining d b ∷ joining d x ∷ joining a x ∷ [])))
      where
        go : (t p q : Bool) → pick {A = List Triangle} t (pick p [] []) (pick q [] []) ≡ []
        go true true q = refl
        go true false q = refl
        go false p true = refl
        go false p false = refl

    pub round_parting : quads ≡ true → 0 < y → left_between w a x ≢ 0 → Parting c y (get_or own a 0) (get_or own d 0) a d b x
    round_parting t h z = record {
      all = adbc A;
      level = R.laying.level;
      none = ⊎_elim (λ q. absurd (z q)) (λ q. q) (one_none w (record { level = R.laying.level; none = R.laying.none t }) A (omega arith));
      many = e;
      own_a = own_at a A.a_lt;
      own_m = own_at d A.d_lt;
    }

  pub quads_across : (k : ℕ) → quads ≡ true → left_between w a x ≡ 0 → pick quads (quads_on c k a b x d) [] ≡ parting_on c k true a x b d
  unfolding quads_on
  quads_across k t z = rw (t, eq-eqb (left_between w a x) 0 z) refl

  pub quads_round : (k : ℕ) → quads ≡ true → left_between w a x ≢ 0 → pick quads (quads_on c k a b x d) [] ≡ parting_on c k false a d b x
  unfolding quads_on
  quads_round k t z = rw (t, ne_eqb (left_between w a x) 0 z) refl

  pub quads_none : {y : ℕ} → y ≡ left_between w a b → (k : ℕ) → quads ≡ true → y ≡ 0 → pick quads (quads_on c k a b x d) [] ≡ []
  quads_none e k t z = rw t (none_left e k z)

pub quads_not : {quads : Bool} → quads ≡ false → (l : List Triangle) → pick quads l [] ≡ []
quads_not e l = rw e refl

-- the positions of an edge
pub third_first : (k : ℕ) → k ≡ 0 → 2 ≡ third_position k (first_slot k)
unfolding lo hi first_slot
third_first k e = rw e refl

pub third_low : (k : ℕ) → k ≢ 0 → k < 3 → 1 ≡ third_position k (first_slot k)
unfolding lo hi first_slot
third_low k n h = below_six (λ k. k ≢ 0 → k < 3 → 1 ≡ third_position k (first_slot k)) (λ n h. absurd (n refl)) (λ n h. refl) (λ n h. refl) (λ n h. absurd (omega arith)) (λ n h. absurd (omega arith)) (λ n h. absurd (omega arith)) k (omega arith) n h

pub third_high : (k : ℕ) → k < 6 → 3 ≤ k → 0 ≡ third_position k (first_slot k)
unfolding lo hi first_slot
third_high k l h = below_six (λ k. 3 ≤ k → 0 ≡ third_position k (first_slot k)) (λ h. absurd (omega arith)) (λ h. absurd (omega arith)) (λ h. absurd (omega arith)) (λ h. refl) (λ h. refl) (λ h. refl) k l h

pub record Positions (k a b x d : ℕ) : Type 0 where
  pub a_is : a ≡ lo k
  pub b_is : b ≡ hi k
  pub x_is : x ≡ third_position k (first_slot k)
  pub d_is : d ≡ first_slot k

pub positions : {k a b x : ℕ} → k < 6 → a ≡ lo k → b ≡ hi k → x ≡ third_position k (first_slot k) → (a + b + x ≤ 6) × Positions k a b x (6 - a - b - x)
unfolding lo hi first_slot
positions {k} {a} {b} {x} l p q r = (omega (arith, sums k l, p, q, r), record { a_is = p; b_is = q; x_is = r; d_is = rw (p, q, r) (last k l) })
  where
    sums : (k : ℕ) → k < 6 → lo k + hi k + third_position k (first_slot k) ≤ 6
    sums = below_six (λ k. lo k + hi k + third_position k (first_slot k) ≤ 6) (omega arith) (omega arith) (omega arith) (omega arith) (omega arith) (omega arith)

    last : (k : ℕ) → k < 6 → 6 - lo k - hi k - third_position k (first_slot k) ≡ first_slot k
    last = below_six (λ k. 6 - lo k - hi k - third_position k (first_slot k) ≡ first_slot k) refl refl refl refl refl refl

-- cells edge by edge: the crossings below p are done, and p is the first of its edge or there is none
pub record Reached (c : Cell) (quads : Bool) (was : List ℕ) (at p : ℕ) (is : List ℕ) (i : ℕ) : Type 0 where
  pub stored : Stored was at (all_words (over (asked_triangles c (length_asked quads)) p 0)) is i
  pub start : p < crossings (edges_of c) → index (edges_of c) p ≡ 0
  pub few : p ≤ crossings (edges_of c)

module _ (c : Cell) (quads : Bool) (was : List ℕ) (at : ℕ) where
  abbrev v : Edges
  v = edges_of c

  abbrev f : ℕ → List Triangle
  f = asked_triangles c (length_asked quads)

  pub reached_none : Reached c quads was at 0 was at
  unfolding over index gather
  reached_none = record { stored = stored_none was at; start = λ _. omega arith; few = omega arith }

  module _ {p : ℕ} {is : List ℕ} {i : ℕ} (R : Reached c quads was at p is i) (l : p < crossings v) where
    pub at_start : AtStart c p
    at_start = record { inside = l; first = R.start l }

    module _ {k : ℕ} (e : k ≡ edge v p) where
      k_lt : k < 6
      k_lt = rw e ((lay v).edge_lt p l)

      here : base v k ≡ p
      here = let b = (lay v).back p l in omega (arith, rw (← e, R.start l) at b)

      pub some_on : 0 < count_of c k
      some_on = rw e (omega (arith, (lay v).index_lt p l))

      end_few : p + count_of c k ≤ crossings v
      end_few = omega (arith, here, base_all v k k_lt)

      module _ (K : is_level_cell (count_of c) ≡ true) (Z : quads ≡ true → smaller (count_of c) ≡ 0) where
        on-edge : over f (count_of c k) p ≡ laid_on c quads k
        on-edge =
            let z : p ≡ base v k + 0 = omega (arith, here) in
            ap (over f (count_of c k)) z ∙ sym (over_shift f (base v k) (count_of c k) 0) ∙ laid_edge c K quads Z k k_lt

        in_parts : triangles_with c (length_asked quads) ≡ over f p 0 ++ (laid_on c quads k ++ over f (crossings v - p - count_of c k) (p + count_of c k))
        unfolding triangles_with
        in_parts =
            let e : crossings v ≡ p + (count_of c k + (crossings v - p - count_of c k)) = omega (arith, end_few) in
            let z : 0 + p ≡ p = omega arith in
            ap (λ n. over f n 0) e ∙ over_split f p (count_of c k + (crossings v - p - count_of c k)) 0
            ∙ ap (λ m. over f p 0 ++ m) (ap (over f (count_of c k + (crossings v - p - count_of c k))) z ∙ over_split f (count_of c k) (crossings v - p - count_of c k) p ∙ ap (λ m. m ++ over f (crossings v - p - count_of c k) (p + count_of c k)) on-edge)

        pub edge_room : at + length (all_words (triangles_with c (length_asked quads))) ≤ length was → i + length (all_words (laid_on c quads k)) ≤ length is
        edge_room h =
            room_first (laid_on c quads k) (over f (crossings v - p - count_of c k) (p + count_of c k)) i (length is)
            (room_next (over f p 0) (laid_on c quads k ++ over f (crossings v - p - count_of c k) (p + count_of c k)) R.stored (rw in_parts at h))

        pub reached_more : {m j : ℕ} {is' : List ℕ} → m ≡ count_of c k → Stored is i (all_words (laid_on c quads k)) is' j → Reached c quads was at (p + m) is' j
        reached_more {m} {j} {is'} g S = rw g (record { stored = next; start = first; few = end_few })
          where
            next : Stored was at (all_words (over f (p + count_of c k) 0)) is' j
            next =
                let z : 0 + p ≡ p = omega arith in
                stored_as (both_stored (over f p 0) (laid_on c quads k) R.stored S)
                (ap all_words (ap (λ m. over f p 0 ++ m) (sym on-edge ∙ ap (over f (count_of c k)) (sym z)) ∙ sym (over_split f p (count_of c k) 0))) refl

            -- a crossing after the last one of an edge is not on that edge
            first : p + count_of c k < crossings v → index v (p + count_of c k) ≡ 0
            first h =
                elim (dec_lt 0 (index v (p + count_of c k))) [
                  | no n ↦ omega arith
                  | yes y ↦ absurd (let t : ℕ = index v (p + count_of c k) in let r : ℕ = edge v (p + count_of c k) in
                      let b = (lay v).back (p + count_of c k) h in
                      let a : number v r (t - 1) ≡ number v k (count_of c k - 1) = omega (arith, b, here, some_on) in
                      let s : r ≡ k = sym ((lay v).number_edge r (t - 1) ((lay v).edge_lt (p + count_of c k) h) (omega (arith, (lay v).index_lt (p + count_of c k) h)))
                      ∙ ap (edge v) a ∙ (lay v).number_edge k (count_of c k - 1) k_lt (omega (arith, some_on)) in
                      omega (arith, b, here, ap (base v) s, ap (count_of c) s, (lay v).index_lt (p + count_of c k) h))
                ]

  pub reached_all : {p : ℕ} {is : List ℕ} {i : ℕ} → Reached c quads was at p is i → crossings v ≤ p → Stored was at (all_words (triangles_with c (length_asked quads))) is i
  unfolding triangles_with
  reached_all {p} R h = let e : p ≡ crossings v = omega (arith, R.few) in stored_as R.stored (ap (λ n. all_words (over f n 0)) e) refl

-- a count that is read
pub counted : {c : Cell} {six : List ℕ} → Listed c six → (j : ℕ) → j < 6 → {m : ℕ} → m ≡ get_or six j 0 → (m ≡ count_of c j) × (m ≤ most_count)
counted {c} L j l e = let f = e ∙ count_is L j l in (f, omega arith)

-- starts within their limit
pub false_true : false ≡ true → ⊥
false_true e = clash e refl

pub near_more : (c : Cell) (k : ℕ) → ((i : ℕ) → i < k → start_of c i < start_limit) → start_of c k < start_limit → (i : ℕ) → i < k + 1 → start_of c i < start_limit
near_more c k f h i l = elim (dec_lt i k) [ yes q ↦ f i q | no q ↦ (let e : i ≡ k = omega arith in rw e h) ]

-- edge j is not that of which p is the first crossing
abbrev pub OtherEdge : (six firsts : List ℕ) (p j : ℕ) → Type 0
OtherEdge six firsts p j = (get_or six j 0 ≡ 0) ⊎ (get_or firsts j 0 ≢ p)

pub other_more : (six firsts : List ℕ) (p k : ℕ) → ((j : ℕ) → j < k → OtherEdge six firsts p j) → OtherEdge six firsts p k → (j : ℕ) → j < k + 1 → OtherEdge six firsts p j
other_more six firsts p k f h j l = elim (dec_lt j k) [ yes q ↦ f j q | no q ↦ (let e : j ≡ k = omega arith in subst (OtherEdge six firsts p) (sym e) h) ]

module _ {c : Cell} {six : List ℕ} (firsts : List ℕ) {p : ℕ} (L : Listed c six) (F : Firsts c firsts) (S : AtStart c p) where
  pub edge_found : (k : ℕ) → k < 6 → get_or six k 0 ≢ 0 → get_or firsts k 0 ≡ p → (k ≡ edge (edges_of c) p) × (k < 6)
  edge_found k l n e =
      let b : base (edges_of c) k ≡ p = sym (F k l) ∙ e in
      let z : number (edges_of c) k 0 ≡ p = omega arith in
      (sym ((lay (edges_of c)).number_edge k 0 l (omega (arith, count_is L k l, n))) ∙ ap (edge (edges_of c)) z, l)

  -- the last, where no other is
  pub edge_last : (k : ℕ) → 5 ≤ k → k ≤ 5 → ((j : ℕ) → j < k → OtherEdge six firsts p j) → (k ≡ edge (edges_of c) p) × (k < 6)
  edge_last k a b f =
      let j : ℕ = edge (edges_of c) p in
      let l : j < 6 = (lay (edges_of c)).edge_lt p S.inside in
      let h : base (edges_of c) j ≡ p = (let q = (lay (edges_of c)).back p S.inside in omega (arith, q, S.first)) in (
        elim (dec_lt j k) [
          | yes g ↦ absurd (⊎_elim (λ z. omega (arith, (lay (edges_of c)).index_lt p S.inside, count_is L j l, z)) (λ z. z (F j l ∙ h)) (f j g))
          | no g ↦ omega arith
        ],
        omega arith,
      )

-- one edge
module _ {c : Cell} {six own : List ℕ} {quads : Bool} (R : Laid c six own quads) {k a b x d : ℕ} (l : k < 6) (Q : Positions k a b x d) where
  pub at_ends : Arranged a b x d
  at_ends = rw (Q.a_is, Q.b_is, Q.x_is, Q.d_is) (arranged l (first-slot k l))

  pub own_edge : k ≡ joining a b
  own_edge = rw (Q.a_is, Q.b_is) (sym (joining_ends k l))

  abbrev low : List Triangle
  low = ring_on c k true a b x d

  abbrev middle : List Triangle
  middle = pick quads (quads_on c k a b x d) []

  abbrev high : List Triangle
  high = ring_on c k false b a x d

  on_is : laid_on c quads k ≡ low ++ (middle ++ high)
  unfolding laid_on
  on_is = rw (Q.a_is, Q.b_is, Q.x_is, Q.d_is) refl

  module _ (was : List ℕ) (at : ℕ) (h : at + length (all_words (laid_on c quads k)) ≤ length was) where
    h' : at + length (all_words (low ++ (middle ++ high))) ≤ length was
    h' = rw on_is at h

    pub low_room : at + length (all_words low) ≤ length was
    low_room = room_first low (middle ++ high) at (length was) h'

    module _ {was₁ : List ℕ} {i : ℕ} (S : Stored was at (all_words low) was₁ i) where
      pub middle_room : i + length (all_words middle) ≤ length was₁
      middle_room = room_first middle high i (length was₁) (room_next low (middle ++ high) S h')

      module _ {was₂ : List ℕ} {j : ℕ} (T : Stored was₁ i (all_words middle) was₂ j) where
        pub high_room : j + length (all_words high) ≤ length was₂
        high_room = room_next middle high T (room_next low (middle ++ high) S h')

        pub on_stored : {is : List ℕ} {r : ℕ} → Stored was₂ j (all_words high) is r → Stored was at (all_words (laid_on c quads k)) is r
        on_stored U = stored_as (both_stored low (middle ++ high) S (both_stored middle high T U)) (ap all_words (sym on_is)) refl

-- a part is written as `cell` writes it
module _ (c : Cell) {six own : List ℕ} {only : ℕ} (e : six ≡ values (count_of c) 6) (six_starts : length c.starts ≡ 6) (six-counts : length c.counts ≡ 6) (N : Near c)
    (K : Laying (by_edge six) own (eqb only 0) × (only ≡ length_asked (eqb only 0))) where
  counts_are : by_edge six ≡ count_of c
  counts_are = ap by_edge e ∙ six_taken c six-counts

  pub part_laid : Laid c six own (eqb only 0)
  part_laid = record { listed = record { near = N; starts_six = six_starts; six_are = e }; laying = subst (λ w. Laying w own (eqb only 0)) counts_are K.0 }

  module _ (was : List ℕ) (at : ℕ) {n : ℕ} (f : n ≡ pre (by_edge six) 6) (h : leb (at + word_count * n) (length was) ≡ true) where
    pub part_room : at + length (all_words (triangles_with c (length_asked (eqb only 0)))) ≤ length was
    part_room =
        let g : n ≡ crossings (edges_of c) = f ∙ ap (λ w. pre w 6) counts_are in
        omega (arith, leb-true (at + word_count * n) (length was) h, length_all (triangles_with c (length_asked (eqb only 0))), with_few c (length_asked (eqb only 0)))

    pub part_stored : {is : List ℕ} {r : ℕ} → Stored was at (all_words (triangles_with c (length_asked (eqb only 0)))) is r
        → (r ≡ next_in was at (all_words (triangles_with (limited c) only))) × (is ≡ stored_in was at (all_words (triangles_with (limited c) only)))
    part_stored {is} {r} S =
        let q : all_words (triangles_with c (length_asked (eqb only 0))) ≡ all_words (triangles_with (limited c) only) = rw (limited_same c N six_starts, ← K.1) refl in
        let T = stored_room was at (all_words (triangles_with c (length_asked (eqb only 0)))) part_room in
        (S.after ∙ sym T.after ∙ ap (next_in was at) q, S.area ∙ sym T.area ∙ ap (stored_in was at) q)

pub crossings_are : {c : Cell} {six : List ℕ} → Listed c six → {n : ℕ} → n ≡ pre (by_edge six) 6 → n ≡ crossings (edges_of c)
unfolding pre
crossings_are {c} {six} L e = e ∙ total_ext (by_edge six) (count_of c) 6 0 (λ k _ h. count_is L k (omega arith))

pub part_few : (c : Cell) {six : List ℕ} → six ≡ values (count_of c) 6 → length c.counts ≡ 6 → {n : ℕ} → n ≡ pre (by_edge six) 6 → n ≤ most_in_cell
part_few c e h f = let g = f ∙ ap (λ l. pre (by_edge l) 6) e ∙ ap (λ w. pre w 6) (six_taken c h) in omega (arith, g, pre_most (count_of c) most_count (λ k. omega arith) 6)
