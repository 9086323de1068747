-- The labels of a cell with d1 > d2 > 0 in which only rule 1 is met: they are the first labelling in node order, and the only one from the lowest node;
-- what remains between labels; the faces at the new node.
use Prim.Native.Nat.{ℕ, zero, suc, ◌+◌, ◌-◌, ◌*◌, ◌≤◌, ◌<◌}
use mathlib.Core.Path.{◌≡◌, refl, sym, ap, ap₂, ◌∙◌}
use mathlib.Core.Logic.{◌⊎◌, inl, inr, ◌≢◌, ⊎_elim}
use mathlib.Core.Bool.{true}
use mathlib.Core.List.{[], ◌∷◌}
use native.Mathlib.Omega.{arith}
use native.Mathlib.Decide.{dec_lt}
use lib.Dec.{eqb, ltb}
use lib.ListN.{get_or}
use borrow.Author.Tests.{eqb-true, eq-eqb, ne_eqb, ltb-true, lt-ltb, le-ltb}
use Rattle.counting.specs.Lists.{seek}
use Rattle.counting.proofs.Below.{trichotomy, below_four, below_six}
use Rattle.counting.proofs.Bools.{clash, and_left, and_right}
use Rattle.counting.proofs.Search.{Sought, sought, first_at}
use Rattle.slots.specs.Slots.{lo, hi, edge_between}
use Rattle.slots.proofs.Slots.{edge_pair, two_slots}
use Rattle.face.specs.claims.Level.{Level}
use Rattle.face.proofs.Level.{level_swap}
use Rattle.cell.specs.claims.Nodes.{Arranged}
use Rattle.cell.specs.Nodes.{joining}
use Rattle.cell.specs.Level.{is_level_cell}
use Rattle.cell.proofs.Nodes.{acbd, acdb, abdc, bcad, bdac, cdab, joining_ends}
use Rattle.booking.specs.Booking.{left_between, larger, smaller, is_spiral}
use Rattle.booking.specs.claims.Left.{pair_sum, largest_pair, Longest}
use Rattle.booking.proofs.Counts.{top_cases, left_sum, left_opposite, numbers}
use Rattle.booking.specs.Figures.{are_spiral}
use Rattle.split.specs.Labels.{remains_to, labelled, label, spoke}
use Rattle.split.specs.claims.Claims.{Labelling, FirstLabelling}
use Rattle.split.proofs.Orders.{at_apart, place_of}

-- the test as facts
pub spiral_is : (w : ℕ → ℕ) → is_spiral w ≡ true → (0 < smaller w) × (smaller w < larger w)
unfolding is_spiral are_spiral
spiral_is w e =
    (ltb-true 0 (smaller w) (and_left (ltb 0 (smaller w)) (ltb (smaller w) (larger w)) e), ltb-true (smaller w) (larger w) (and_right (ltb 0 (smaller w)) (ltb (smaller w) (larger w)) e))

-- an edge, and what remains of it, is the same either way round
pub joining_ways : (a b : ℕ) → a ≢ b → joining a b ≡ joining b a
unfolding joining
joining_ways a b ne =
    elim (dec_lt a b) [
      | yes h ↦ rw (lt-ltb a b h, le-ltb b a (omega arith))
      | no h ↦ rw (le-ltb a b (omega arith), lt-ltb b a (omega (arith, ne)))
    ]

pub left_ways : (w : ℕ → ℕ) (a b : ℕ) → a ≢ b → left_between w a b ≡ left_between w b a
unfolding left_between
left_ways w a b ne = let e = ap w (joining_ways a b ne) in omega (arith, e)

-- the edge between two positions, and its ends in one order or the other
pub joining_lt : (m n : ℕ) → m < 4 → n < 4 → m ≢ n → joining m n < 6
unfolding joining
joining_lt m n lm ln ne =
    elim (dec_lt m n) [
      | yes h ↦ rw (lt-ltb m n h) (edge_pair m n h ln).0
      | no h ↦ rw (le-ltb m n (omega arith)) (edge_pair n m (omega (arith, ne)) lm).0
    ]

joining_by : (m n : ℕ) → m < 4 → n < 4 → m ≢ n
    → ((lo (joining m n) ≡ m) × (hi (joining m n) ≡ n)) ⊎ ((lo (joining m n) ≡ n) × (hi (joining m n) ≡ m))
unfolding joining
joining_by m n lm ln ne =
    elim (dec_lt m n) [
      | yes h ↦ let (e, a, b) = edge_pair m n h ln in inl (rw (lt-ltb m n h) (a, b))
      | no h ↦ let (e, a, b) = edge_pair n m (omega (arith, ne)) lm in inr (rw (le-ltb m n (omega arith)) (a, b))
    ]

abbrev lowest : Arranged 0 1 2 3
lowest = omega arith

module _ (w : ℕ → ℕ) (K : is_level_cell w ≡ true) (some : 0 < smaller w) (more : smaller w < larger w) where
  -- there is a labelling from the lowest node
  from_longest : {b c d : ℕ} → Longest w 0 b c d → (j : ℕ) × (k : ℕ) × (l : ℕ) × Labelling w 0 j k l
  from_longest {b} {c} {d} L =
      let N = numbers w K L in
      let s = left_sum w K L in
      elim (dec_lt (left_between w 0 c) (left_between w 0 b)) [
        | yes h ↦ (b, c, d, record { all = L.all; ij = omega (arith, N.most); ik = omega (arith, N.least); il = omega (arith, N.most, N.least) })
        | no h ↦ (c, b, d, record { all = acbd L.all; ij = omega (arith, N.most); ik = omega (arith, N.least); il = omega (arith, N.most, N.least) })
      ]

  some_labelling : (j : ℕ) × (k : ℕ) × (l : ℕ) × Labelling w 0 j k l
  some_labelling =
      ⊎_elim
      (λ (t : pair_sum w 0 1 2 3 ≡ largest_pair w). from_longest {b = 2} {c = 3} {d = 1} (record { all = acdb lowest; sum = t }))
      (⊎_elim
      (λ (t : pair_sum w 0 2 1 3 ≡ largest_pair w). from_longest {b = 1} {c = 3} {d = 2} (record { all = abdc lowest; sum = t }))
      (λ (t : pair_sum w 0 3 1 2 ≡ largest_pair w). from_longest {b = 1} {c = 2} {d = 3} (record { all = lowest; sum = t })))
      (top_cases w lowest)

  module _ {j k l : ℕ} (G : Labelling w 0 j k l) where
    abbrev A : Arranged 0 j k l
    A = G.all

    -- the node at position p by what remains between it and the lowest
    pub data Found (p : ℕ) : Type 0 where
      at_i : p ≡ 0 → Found p
      at_j : p ≡ j → left_between w 0 p ≡ larger w → Found p
      at_k : p ≡ k → left_between w 0 p ≡ smaller w → Found p
      at_l : p ≡ l → left_between w 0 p ≡ larger w + smaller w → Found p

    found : (p : ℕ) → p < 4 → Found p
    found p lp =
        let (n, ln, e) = place_of A p lp in
        below_four (λ n. get_or (0 ∷ j ∷ k ∷ l ∷ []) n 0 ≡ p → Found p)
        (λ e. at_i (sym e))
        (λ e. at_j (sym e) (ap (left_between w 0) (sym e) ∙ G.ij))
        (λ e. at_k (sym e) (ap (left_between w 0) (sym e) ∙ G.ik))
        (λ e. at_l (sym e) (ap (left_between w 0) (sym e) ∙ G.il))
        n ln e

    is_j : (p : ℕ) → p < 4 → p ≢ 0 → left_between w 0 p ≡ larger w → p ≡ j
    is_j p lp ne e = go (found p lp)
      where
        go : Found p → p ≡ j
        go (at_i h) = absurd (ne h)
        go (at_j h q) = h
        go (at_k h q) = absurd (omega (arith, e, q, more))
        go (at_l h q) = absurd (omega (arith, e, q, some))

    is-k : (p : ℕ) → p < 4 → p ≢ 0 → left_between w 0 p ≡ smaller w → p ≡ k
    is-k p lp ne e = go (found p lp)
      where
        go : Found p → p ≡ k
        go (at_i h) = absurd (ne h)
        go (at_j h q) = absurd (omega (arith, e, q, more))
        go (at_k h q) = h
        go (at_l h q) = absurd (omega (arith, e, q, more))

    is_l : (p : ℕ) → p < 4 → p ≢ 0 → left_between w 0 p ≡ larger w + smaller w → p ≡ l
    is_l p lp ne e = go (found p lp)
      where
        go : Found p → p ≡ l
        go (at_i h) = absurd (ne h)
        go (at_j h q) = absurd (omega (arith, e, q, some))
        go (at_k h q) = absurd (omega (arith, e, q, more))
        go (at_l h q) = h

    -- the search finds them
    sought_at : (x q : ℕ) → q < 4 → 0 ≢ q → left_between w 0 q ≡ x → ((p : ℕ) → p < 4 → p ≢ 0 → left_between w 0 p ≡ x → p ≡ q)
        → seek (λ p. eqb (left_between w 0 p) x) 3 1 ≡ q
    sought_at x q lq nq e only =
        elim (dec_lt q r) [
          | yes h ↦ clash (eq-eqb (left_between w 0 q) x e) (S.none q (omega (arith, nq)) h)
          | no h ↦ only r (omega arith) (λ z. omega (arith, S.low, z)) (eqb-true (left_between w 0 r) x (S.is (omega arith)))
        ]
      where
        r : ℕ
        r = seek (λ p. eqb (left_between w 0 p) x) 3 1

        S : Sought (λ p. eqb (left_between w 0 p) x) 3 1 (seek (λ p. eqb (left_between w 0 p) x) 3 1)
        S = sought (λ p. eqb (left_between w 0 p) x) 3 1

    pub labelled_is : (n : ℕ) → n < 4 → labelled w n ≡ get_or (0 ∷ j ∷ k ∷ l ∷ []) n 0
    unfolding labelled remains_to
    labelled_is = below_four (λ n. labelled w n ≡ get_or (0 ∷ j ∷ k ∷ l ∷ []) n 0) refl
        (sought_at (larger w) j A.b_lt A.ab G.ij is_j)
        (sought_at (smaller w) k A.c_lt A.ac G.ik is-k)
        (sought_at (larger w + smaller w) l A.d_lt A.ad G.il is_l)

  -- the definition's labels are a labelling
  pub labelling : Labelling w (labelled w 0) (labelled w 1) (labelled w 2) (labelled w 3)
  labelling =
      let (j, k, l, G) = some_labelling in
      rw (labelled_is G 0 (omega arith), labelled_is G 1 (omega arith), labelled_is G 2 (omega arith), labelled_is G 3 (omega arith)) G

  pub at_i_is : labelled w 0 ≡ 0
  unfolding labelled
  at_i_is = refl

  pub from_lowest : Labelling w 0 (labelled w 1) (labelled w 2) (labelled w 3)
  from_lowest = rw at_i_is at labelling

  pub first_labelling : FirstLabelling w
  first_labelling = record { is = labelling; first = no_earlier }
    where
      no_earlier : (i j k l : ℕ) → Labelling w i j k l
          → (labelled w 0 < i) ⊎ ((labelled w 0 ≡ i) × (labelled w 1 ≡ j) × (labelled w 2 ≡ k) × (labelled w 3 ≡ l))
      no_earlier zero j k l G = inr (
        at_i_is,
        labelled_is G 1 (omega arith),
        labelled_is G 2 (omega arith),
        labelled_is G 3 (omega arith),
      )
      no_earlier (suc i) j k l G = inl (rw at_i_is (omega arith))

  -- labels and positions undo each other
  abbrev at : ℕ → ℕ
  at n = get_or (labelled w 0 ∷ labelled w 1 ∷ labelled w 2 ∷ labelled w 3 ∷ []) n 0

  at_is : (n : ℕ) → n < 4 → at n ≡ labelled w n
  at_is = below_four (λ n. at n ≡ labelled w n) refl refl refl refl

  pub labelled_lt : (n : ℕ) → n < 4 → labelled w n < 4
  labelled_lt = below_four (λ n. labelled w n < 4) labelling.all.a_lt labelling.all.b_lt labelling.all.c_lt labelling.all.d_lt

  pub labelled_once : (n m : ℕ) → n < 4 → m < 4 → labelled w n ≡ labelled w m → n ≡ m
  labelled_once n m ln lm e =
      trichotomy n m
      (λ h. absurd (at_apart labelling.all n m h lm (at_is n ln ∙ e ∙ sym (at_is m lm))))
      (λ h. absurd (at_apart labelling.all m n h ln (at_is m lm ∙ sym e ∙ sym (at_is n ln))))
      (λ q. q)

  pub label_at : (n : ℕ) → n < 4 → label w (labelled w n) ≡ n
  unfolding label
  label_at n ln =
      first_at (λ m. eqb (labelled w m) (labelled w n)) 4 n ln (eq-eqb (labelled w n) (labelled w n) refl)
      (λ m h. ne_eqb (labelled w m) (labelled w n) (λ e. omega (arith, h, labelled_once m n (omega arith) ln e)))

  pub at-label : (p : ℕ) → p < 4 → (label w p < 4) × (labelled w (label w p) ≡ p)
  at-label p lp =
      let (n, ln, e) = place_of labelling.all p lp in
      let f : labelled w n ≡ p = sym (at_is n ln) ∙ e in
      let g : label w p ≡ n = ap (label w) (sym f) ∙ label_at n ln in
      (rw g ln, ap (labelled w) g ∙ f)

  pub label_once : (p q : ℕ) → p < 4 → q < 4 → label w p ≡ label w q → p ≡ q
  label_once p q lp lq e = sym (at-label p lp).1 ∙ ap (labelled w) e ∙ (at-label q lq).1

  -- what remains between the nodes with the labels of each edge: opposite edges keep the same
  pub between : (e : ℕ) → e < 6
      → left_between w (labelled w (lo e)) (labelled w (hi e)) ≡ get_or (larger w ∷ smaller w ∷ (larger w + smaller w) ∷ (larger w + smaller w) ∷ smaller w ∷ larger w ∷ []) e 0
  unfolding lo hi
  between =
      let G = labelling in
      let A = labelling.all in
      below_six (λ e. left_between w (labelled w (lo e)) (labelled w (hi e)) ≡ get_or (larger w ∷ smaller w ∷ (larger w + smaller w) ∷ (larger w + smaller w) ∷ smaller w ∷ larger w ∷ []) e 0)
      labelling.ij labelling.ik labelling.il
      (left_opposite w K (bcad labelling.all) ∙ labelling.il)
      (left_opposite w K (bdac labelling.all) ∙ labelling.ik)
      (left_opposite w K (cdab labelling.all) ∙ labelling.ij)

  -- the faces at the new node follow rule 1: counts p, q, p + q in some order, and an even one with two equal ones
  sum_third : (p q o : ℕ) → o ≡ p + q → Level p q o
  sum_third p q o h = record { even = omega arith; first = omega arith; second = omega arith; third = omega arith }

  sum_first : (p q o : ℕ) → p ≡ q + o → Level p q o
  sum_first p q o h = record { even = omega arith; first = omega arith; second = omega arith; third = omega arith }

  two_equal : (p y : ℕ) → y ≤ p → Level (2 * y) p p
  two_equal p y h = record { even = omega arith; first = omega arith; second = omega arith; third = omega arith }

  spokes_level : (e : ℕ) → e < 6
      → Level (spoke w (lo e)) (spoke w (hi e)) (get_or (larger w ∷ smaller w ∷ (larger w + smaller w) ∷ (larger w + smaller w) ∷ smaller w ∷ larger w ∷ []) e 0)
  unfolding spoke lo hi
  spokes_level =
      below_six (λ e. Level (spoke w (lo e)) (spoke w (hi e)) (get_or (larger w ∷ smaller w ∷ (larger w + smaller w) ∷ (larger w + smaller w) ∷ smaller w ∷ larger w ∷ []) e 0))
      (two_equal (larger w) (smaller w) (omega arith))
      (sum_first (2 * smaller w) (smaller w) (smaller w) (omega arith))
      (sum_third (2 * smaller w) (larger w - smaller w) (larger w + smaller w) (omega arith))
      (sum_third (larger w) (smaller w) (larger w + smaller w) (omega arith))
      (sum_first (larger w) (larger w - smaller w) (smaller w) (omega arith))
      (sum_third (smaller w) (larger w - smaller w) (larger w) (omega arith))

  over_edge : (e : ℕ) → e < 6 → Level (spoke w (lo e)) (spoke w (hi e)) (left_between w (labelled w (lo e)) (labelled w (hi e)))
  over_edge e le = rw (between e le) (spokes_level e le)

  over_labels : (m n : ℕ) → m < 4 → n < 4 → m ≢ n → Level (spoke w m) (spoke w n) (left_between w (labelled w m) (labelled w n))
  over_labels m n lm ln ne =
      elim (dec_lt m n) [
        | yes h ↦ up m n h ln
        | no h ↦ rw (left_ways w (labelled w m) (labelled w n) (λ e. ne (labelled_once m n lm ln e))) (level_swap (up n m (omega (arith, ne)) lm))
      ]
    where
      up : (m n : ℕ) → m < n → n < 4 → Level (spoke w m) (spoke w n) (left_between w (labelled w m) (labelled w n))
      up m n h l = let (e, a, b) = edge_pair m n h l in rw (a, b) at (over_edge (edge_between m n) e)

  -- the inner face over edge e
  pub inner_level : (e : ℕ) → e < 6 → Level (spoke w (label w (lo e))) (spoke w (label w (hi e))) (left_between w (lo e) (hi e))
  inner_level e le =
      let t = two_slots e le in
      let ll : lo e < 4 = omega (arith, t.rising, t.within) in
      let (a, p) = at-label (lo e) ll in
      let (b, q) = at-label (hi e) t.within in
      rw (p, q) at (over_labels (label w (lo e)) (label w (hi e)) a b (λ z. omega (arith, t.rising, label_once (lo e) (hi e) ll t.within z)))

  -- edges by the labels of their ends
  ends_lt : (e : ℕ) → e < 6 → (lo e < 4) × (hi e < 4) × (lo e < hi e)
  ends_lt e le = let t = two_slots e le in (omega (arith, t.rising, t.within), t.within, t.rising)

  ends_apart : (e : ℕ) → e < 6 → label w (lo e) ≢ label w (hi e)
  ends_apart e le q = let (a, b, h) = ends_lt e le in omega (arith, h, label_once (lo e) (hi e) a b q)

  pub edge_labels_lt : (e : ℕ) → e < 6 → joining (label w (lo e)) (label w (hi e)) < 6
  edge_labels_lt e le =
      let (a, b, h) = ends_lt e le in
      joining_lt (label w (lo e)) (label w (hi e)) (at-label (lo e) a).0 (at-label (hi e) b).0 (ends_apart e le)

  abbrev Ends : ℕ → Type 0
  Ends e =
      ((lo (joining (label w (lo e)) (label w (hi e))) ≡ label w (lo e)) × (hi (joining (label w (lo e)) (label w (hi e))) ≡ label w (hi e)))
      ⊎ ((lo (joining (label w (lo e)) (label w (hi e))) ≡ label w (hi e)) × (hi (joining (label w (lo e)) (label w (hi e))) ≡ label w (lo e)))

  pub edge_labels_once : (e g : ℕ) → e < 6 → g < 6 → joining (label w (lo e)) (label w (hi e)) ≡ joining (label w (lo g)) (label w (hi g)) → e ≡ g
  edge_labels_once e g le lg q = go (by e le) (by g lg)
    where
      by : (e : ℕ) → e < 6 → Ends e
      by e le =
          let (a, b, h) = ends_lt e le in
          joining_by (label w (lo e)) (label w (hi e)) (at-label (lo e) a).0 (at-label (hi e) b).0 (ends_apart e le)

      same : label w (lo e) ≡ label w (lo g) → label w (hi e) ≡ label w (hi g) → e ≡ g
      same x y =
          let (a, b, h) = ends_lt e le in
          let (a', b', h') = ends_lt g lg in
          sym (joining_ends e le) ∙ ap₂ joining (label_once (lo e) (lo g) a a' x) (label_once (hi e) (hi g) b b' y) ∙ joining_ends g lg

      crossed : label w (lo e) ≡ label w (hi g) → label w (hi e) ≡ label w (lo g) → e ≡ g
      crossed x y =
          let (a, b, h) = ends_lt e le in
          let (a', b', h') = ends_lt g lg in
          absurd (omega (arith, h, h', label_once (lo e) (hi g) a b' x, label_once (hi e) (lo g) b a' y))

      go : Ends e → Ends g → e ≡ g
      go (inl (p, r)) (inl (p', r')) = same (sym p ∙ ap lo q ∙ p') (sym r ∙ ap hi q ∙ r')
      go (inl (p, r)) (inr (p', r')) = crossed (sym p ∙ ap lo q ∙ p') (sym r ∙ ap hi q ∙ r')
      go (inr (p, r)) (inl (p', r')) = crossed (sym r ∙ ap hi q ∙ r') (sym p ∙ ap lo q ∙ p')
      go (inr (p, r)) (inr (p', r')) = same (sym r ∙ ap hi q ∙ r') (sym p ∙ ap lo q ∙ p')
