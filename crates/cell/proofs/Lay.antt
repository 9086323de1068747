-- The edges of a cell laid end to end: its crossings are numbered one to one, in the order in which the edges are laid.
use Prim.Native.Nat.{ℕ, ◌+◌, ◌-◌, ◌<◌, ◌≤◌}
use mathlib.Core.Path.{◌≡◌, refl, sym, ap, ap₂, ◌∙◌}
use mathlib.Core.Logic.{◌⊎◌, inl, inr, ◌≢◌, ⊎_elim}
use mathlib.Core.Bool.{Bool, true, false, ◌&&◌}
use native.Mathlib.Omega.{arith}
use native.Mathlib.Decide.{dec_lt, ℕ_discrete}
use lib.Dec.{eqb, ltb, leb}
use borrow.Author.Tests.{ltb-true, lt-ltb, le-ltb, leb-true, le-leb, eqb-true, eq-eqb, ne_eqb}
use Rattle.counting.specs.Pick.{pick}
use Rattle.counting.specs.Lists.{one, total, pre}
use Rattle.counting.specs.Search as search
use Rattle.counting.specs.Pack.{row, col}
use Rattle.counting.proofs.Bools.{and_left, and_right, and_true, or_left, or_right, or_cases, not_clash}
use Rattle.counting.proofs.Range.{total_mono, total_add, total_single, total_ext, total_split, total_zero}
use Rattle.counting.proofs.Search.{first_at, count_total, count_ext}
use Rattle.counting.proofs.Onto.{onto, total_onto}
use Rattle.counting.proofs.Rows.{count_rows}
use Rattle.counting.proofs.Pack.{row_lt, col_lt, unpack, row_pack, col_pack}
use Rattle.cell.specs.Cell.{Edges, ahead, base, crossings, number, holds, edge, index}
use Rattle.cell.specs.claims.Claims.{Lay, Separate, LaidSame}

module _ (w : Edges) where
  -- edge j is laid before edge k
  Before : ℕ → ℕ → Type 0
  Before j k = (w.start j < w.start k) ⊎ ((w.start j ≡ w.start k) × (j < k))

  ahead_is : (j k : ℕ) → ahead w k j ≡ true → Before j k
  unfolding ahead Before
  ahead_is j k h =
      ⊎_elim (λ e. inl (ltb-true (w.start j) (w.start k) e))
      (λ e. inr (eqb-true (w.start j) (w.start k) (and_left (eqb (w.start j) (w.start k)) (ltb j k) e), ltb-true j k (and_right (eqb (w.start j) (w.start k)) (ltb j k) e)))
      (or_cases (ltb (w.start j) (w.start k)) (eqb (w.start j) (w.start k) && ltb j k) h)

  is_ahead : (j k : ℕ) → Before j k → ahead w k j ≡ true
  unfolding ahead Before
  is_ahead j k (inl h) = or_left (ltb (w.start j) (w.start k)) (eqb (w.start j) (w.start k) && ltb j k) (lt-ltb (w.start j) (w.start k) h)
  is_ahead j k (inr (e, h)) =
      or_right (ltb (w.start j) (w.start k)) (eqb (w.start j) (w.start k) && ltb j k)
      (and_true (eqb (w.start j) (w.start k)) (ltb j k) (eq-eqb (w.start j) (w.start k) e) (lt-ltb j k h))

  not_ahead : (j k : ℕ) → (Before j k → ⊥) → ahead w k j ≡ false
  not_ahead j k n = not_clash (ahead w k j) (λ e. n (ahead_is j k e))

  not_self : (k : ℕ) → Before k k → ⊥
  unfolding Before
  not_self k (inl h) = omega arith
  not_self k (inr h) = omega (arith, h)

  via : (i j k : ℕ) → Before i j → Before j k → Before i k
  unfolding Before
  via i j k (inl a) (inl b) = inl (omega arith)
  via i j k (inl a) (inr (e, b)) = inl (omega arith)
  via i j k (inr (e, a)) (inl b) = inl (omega arith)
  via i j k (inr (e, a)) (inr (f, b)) = inr (omega arith, omega arith)

  either : (j k : ℕ) → j ≢ k → Before j k ⊎ Before k j
  unfolding Before
  either j k ne =
      elim (dec_lt (w.start j) (w.start k)) [
        | yes h ↦ inl (inl h)
        | no h ↦ elim (dec_lt (w.start k) (w.start j)) [
          | yes l ↦ inr (inl l)
          | no l ↦ elim (dec_lt j k) [
            | yes m ↦ inl (inr (omega arith, m))
            | no m ↦ inr (inr (omega arith, omega (arith, ne)))
          ]
        ]
      ]

  -- what edge i adds to the crossings before edge k
  abbrev adds : ℕ → ℕ → ℕ
  adds k i = pick (ahead w k i) (w.count i) 0

  -- the crossings before edge k and those of k have room in a sum with more at each edge
  room : (f : ℕ → ℕ) (k : ℕ) → k < 6 → w.count k ≤ f k → ((i : ℕ) → i < 6 → i ≢ k → adds k i ≤ f i) → base w k + w.count k ≤ total f 6 0
  unfolding base
  room f k l own others =
      omega (
        arith,
        total_add (adds k) at 6 0,
        total_single at 6 0 k (omega arith) (omega arith) (λ q a b n. rw (ne_eqb q k n)),
        total_mono (λ i. adds k i + at i) f 6 0 (λ i a b. below i (omega arith)),
        at_k,
      )
    where
      at : ℕ → ℕ
      at i = pick (eqb i k) (w.count i) 0

      at_k : at k ≡ w.count k
      at_k = rw (eq-eqb k k refl)

      below : (i : ℕ) → i < 6 → adds k i + at i ≤ f i
      below i li =
          elim (ℕ_discrete i k) [
            | yes e ↦ rw (e, eq-eqb k k refl, not_ahead k k (not_self k)) (omega arith)
            | no n ↦ rw (ne_eqb i k n) (omega (arith, others i li n))
          ]

  adds_le : (k i : ℕ) → adds k i ≤ w.count i
  adds_le k i = go (ahead w k i)
    where
      go : (b : Bool) → pick b (w.count i) 0 ≤ w.count i
      go true = omega arith
      go false = omega arith

  pub base_all : (k : ℕ) → k < 6 → base w k + w.count k ≤ crossings w
  unfolding pre
  base_all k l = room w.count k l (omega arith) (λ i li n. adds_le k i)

  base_le : (j k : ℕ) → j < 6 → Before j k → base w j + w.count j ≤ base w k
  unfolding base
  base_le j k l b = room (adds k) j l (rw (is_ahead j k b) (omega arith)) (λ i li n. go i (ahead w j i) refl)
    where
      go : (i : ℕ) (a : Bool) → ahead w j i ≡ a → pick a (w.count i) 0 ≤ adds k i
      go i true e = rw (is_ahead i k (via i j k (ahead_is i j e) b)) (omega arith)
      go i false e = omega arith

  -- a crossing is one of one edge only
  In : ℕ → ℕ → Type 0
  In x k = (base w k ≤ x) × (x < base w k + w.count k)

  once : (x j k : ℕ) → j < 6 → k < 6 → In x j → In x k → j ≡ k
  unfolding In
  once x j k lj lk a b =
      elim (ℕ_discrete j k) [
        | yes e ↦ e
        | no n ↦ absurd (⊎_elim (λ h. omega (arith, a, b, base_le j k lj h)) (λ h. omega (arith, a, b, base_le k j lk h)) (either j k n))
      ]

  module _ (k t : ℕ) (l : k < 6) (tl : t < w.count k) where
    here : In (number w k t) k
    unfolding In
    here = (omega arith, omega arith)

    number_edge : edge w (number w k t) ≡ k
    unfolding edge holds In
    number_edge =
        first_at (holds w (number w k t)) 6 k l
        (and_true (leb (base w k) (number w k t)) (ltb (number w k t) (base w k + w.count k)) (le-leb (base w k) (number w k t) (omega arith)) (lt-ltb (number w k t) (base w k + w.count k) (omega arith)))
        (λ j h. not_clash (holds w (number w k t) j) (λ e. omega (
          arith,
          once (number w k t) j k (omega arith) l (
            leb-true (base w j) (number w k t) (and_left (leb (base w j) (number w k t)) (ltb (number w k t) (base w j + w.count j)) e),
            ltb-true (number w k t) (base w j + w.count j) (and_right (leb (base w j) (number w k t)) (ltb (number w k t) (base w j + w.count j)) e),
          )
              here,
        )))

    number_index : index w (number w k t) ≡ t
    unfolding index
    number_index = rw number_edge (omega arith)

    number_lt : number w k t < crossings w
    number_lt = omega (arith, base_all k l)

  -- each number below the cell's crossings is that of a crossing
  record Of (x : ℕ) : Type 0 where
    k : ℕ
    t : ℕ
    lt : k < 6
    within : t < w.count k
    is : number w k t ≡ x

  -- the y-th crossing edge by edge, as it is laid: one to one
  abbrev r : ℕ → ℕ
  r y = row w.count 6 y

  abbrev c : ℕ → ℕ
  c y = col w.count 6 y

  abbrev laid : ℕ → ℕ
  laid y = number w (r y) (c y)

  r_lt : (y : ℕ) → y < crossings w → r y < 6
  r_lt y l = row_lt w.count 6 y l

  c_lt : (y : ℕ) → y < crossings w → c y < w.count (r y)
  c_lt y l = col_lt w.count 6 y l

  laid_lt : (y : ℕ) → y < crossings w → laid y < crossings w
  laid_lt y l = number_lt (r y) (c y) (r_lt y l) (c_lt y l)

  laid_apart : (i j : ℕ) → i < j → j < crossings w → laid i ≢ laid j
  unfolding In
  laid_apart i j h lj e =
      let li : i < crossings w = omega arith in
      let q : r i ≡ r j = once (laid i) (r i) (r j) (r_lt i li) (r_lt j lj) (here (r i) (c i) (r_lt i li) (c_lt i li)) (rw e (here (r j) (c j) (r_lt j lj) (c_lt j lj))) in
      omega (arith, ap (base w) q, ap (pre w.count) q, unpack w.count 6 i li, unpack w.count 6 j lj, e)

  of : (x : ℕ) → x < crossings w → Of x
  of x l =
      let (y, ly, e) = onto (crossings w) laid laid_lt laid_apart x l in
      record { k = r y; t = c y; lt = r_lt y ly; within = c_lt y ly; is = e }

  module _ (x : ℕ) (l : x < crossings w) where
    o : Of x
    o = of x l

    edge_is : edge w x ≡ o.k
    edge_is = ap (edge w) (sym o.is) ∙ number_edge o.k o.t o.lt o.within

    index_is : index w x ≡ o.t
    index_is = ap (index w) (sym o.is) ∙ number_index o.k o.t o.lt o.within

    edge_lt : edge w x < 6
    edge_lt = rw edge_is o.lt

    index_lt : index w x < w.count (edge w x)
    index_lt = rw (edge_is, index_is) o.within

    back : number w (edge w x) (index w x) ≡ x
    back = rw (edge_is, index_is) o.is

  later : (x y : ℕ) → x < y → y < crossings w → (ahead w (edge w y) (edge w x) ≡ true) ⊎ ((edge w x ≡ edge w y) × (index w x < index w y))
  later x y h ly =
      let lx : x < crossings w = omega arith in
      elim (ℕ_discrete (edge w x) (edge w y)) [
        | yes e ↦ inr (e, omega (arith, back x lx, back y ly, ap (base w) e))
        | no n ↦ ⊎_elim (λ b. inl (is_ahead (edge w x) (edge w y) b))
            (λ b. absurd (omega (arith, back x lx, back y ly, index_lt y ly, base_le (edge w y) (edge w x) (edge_lt y ly) b)))
            (either (edge w x) (edge w y) n)
      ]

  pub lay : Lay w
  lay = record { edge_lt = edge_lt; index_lt = index_lt; back = back; number_lt = number_lt; number_edge = number_edge; number_index = number_index; later = later }

  -- how many of the cell's crossings pass a test, edge by edge
  pub count_edges : (t : ℕ → Bool) → search.count t (crossings w) ≡ total (λ k. search.count (λ i. t (number w k i)) (w.count k)) 6 0
  count_edges t =
      count_total t (crossings w) ∙ sym (total_onto (crossings w) laid laid_lt laid_apart (λ x. one (t x))) ∙ sym (count_total (λ y. t (laid y)) (crossings w))
      ∙ count_rows w.count (λ y. t (laid y)) 6
      ∙ total_ext (λ r. search.count (λ i. t (laid (pre w.count r + i))) (w.count r)) (λ k. search.count (λ i. t (number w k i)) (w.count k)) 6 0
      (λ k a l. count_ext (λ i. t (laid (pre w.count k + i))) (λ i. t (number w k i)) (w.count k)
      (λ i h. ap t (ap₂ (number w) (row_pack w.count 6 k i (omega arith) h) (col_pack w.count 6 k i (omega arith) h))))

  -- an edge that is laid before another, both with crossings, has the lower numbers
  pub lower_numbers : Separate w → (j k : ℕ) → j < 6 → k < 6 → j ≢ k → 0 < w.count j → 0 < w.count k → ahead w k j ≡ true → w.start j + w.count j ≤ w.start k
  unfolding Before
  lower_numbers S j k lj lk n pj pk a =
      elim (dec_lt (w.start k) (w.start j + w.count j)) [
        | yes h ↦ absurd (n (S j k (w.start k - w.start j) 0 lj lk (⊎_elim (λ b. omega arith) (λ b. omega (arith, b)) (ahead_is j k a)) pk
            (⊎_elim (λ b. omega arith) (λ b. omega (arith, b)) (ahead_is j k a))))
        | no h ↦ omega arith
      ]

pub laid_same : LaidSame
unfolding base pre Before
laid_same w R k l =
    total_ext (adds w k) (λ i. pick (ltb i k) (w.count i) 0) 6 0 (λ i a b. ap (λ t. pick t (w.count i) 0) (same i (omega arith)))
    ∙ ap (λ n. total (λ i. pick (ltb i k) (w.count i) 0) n 0) six ∙ total_split (λ i. pick (ltb i k) (w.count i) 0) k (6 - k) 0
    ∙ omega (
      arith,
      total_ext (λ i. pick (ltb i k) (w.count i) 0) w.count k 0 (λ i a b. rw (lt-ltb i k (omega arith))),
      total_zero (λ i. pick (ltb i k) (w.count i) 0) (6 - k) (0 + k) (λ i a b. rw (le-ltb i k (omega arith))),
    )
  where
    six : 6 ≡ k + (6 - k)
    six = omega arith

    same : (i : ℕ) → i < 6 → ahead w k i ≡ ltb i k
    same i li =
        elim (dec_lt i k) [
          | yes h ↦ is_ahead w i k (elim (dec_lt (w.start i) (w.start k)) [
            | yes q ↦ inl q
            | no q ↦ inr (omega (arith, R i k h l), h)
          ]) ∙ sym (lt-ltb i k h)
          | no h ↦ not_ahead w i k (λ b. ⊎_elim (λ (q : w.start i < w.start k). below i li (omega arith) q) (λ (q : (w.start i ≡ w.start k) × (i < k)). omega (arith, q)) b) ∙ sym (le-ltb i k (omega arith))
        ]
      where
        below : (i : ℕ) → i < 6 → k ≤ i → w.start i < w.start k → ⊥
        below i li g q =
            elim (ℕ_discrete i k) [
              | yes e ↦ omega (arith, ap w.start e)
              | no n ↦ omega (arith, R k i (omega (arith, n)) li)
            ]
