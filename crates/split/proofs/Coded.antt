-- The parts of a sub-cell as code finds them, from the numbers of the cell.
use Prim.Native.Nat.{ℕ, ◌+◌, ◌-◌, ◌≤◌, ◌<◌}
use mathlib.Core.Path.{◌≡◌, refl, sym, ap, ap₂, ◌∙◌, subst}
use mathlib.Core.Bool.{true}
use mathlib.Core.List.{List, [], ◌∷◌}
use native.Mathlib.Omega.{arith}
use native.Mathlib.Decide.{ℕ_discrete}
use lib.ListN.{get_or}
use Rattle.counting.specs.Lists.{values, pre}
use Rattle.counting.proofs.Below.{below_four, below_six}
use Rattle.slots.specs.Slots.{lo, hi, edge_between}
use Rattle.slots.specs.Limits.{most_count}
use Rattle.cell.specs.declared.Cell.{Cell}
use Rattle.cell.specs.Of.{count_of, start_of}
use Rattle.cell.specs.Nodes.{joining}
use Rattle.cell.specs.Level.{by_edge, is_level_cell}
use Rattle.cell.proofs.Values.{six_taken}
use Rattle.booking.specs.Booking.{smallest, median, least_corner, left_between, larger, smaller}
use Rattle.split.specs.Labels.{labelled, label, spoke}
use Rattle.split.specs.work.Five.{rest_count, arm_count}
use Rattle.split.specs.SubCell.{rest_start, arm_start, inner_name}
use Rattle.split.specs.work.Working.{AreOwn, label_by, spoke_by, LevelSix, SpiralNumbers, Spiraling}
use Rattle.split.proofs.Labels.{spiral_is, at_i_is, labelled_lt, label_at, at-label, label_once}
use Rattle.split.proofs.Spirals.{label-by}
use Rattle.split.proofs.Rest.{rest_sum}
use Rattle.split.proofs.SubCells.{most-sum, arm_most}

-- two numbers taken off, each known by another name
taken_off : {x n a b m p q : ℕ} → x ≡ n - a - b → n ≡ m → a ≡ p → b ≡ q → x ≡ m - p - q
taken_off e f g h = e ∙ rw (f, g, h) refl

-- the numbers of a cell from its listed counts
module _ {c : Cell} (S : LevelSix c) {l : List ℕ} (e : l ≡ values (count_of c) 6) where
  counts_are : by_edge l ≡ count_of c
  counts_are = ap by_edge e ∙ six_taken c S.counts_six

  pub level_listed : is_level_cell (by_edge l) ≡ true
  level_listed = ap is_level_cell counts_are ∙ S.level

  pub numbers_are : {own : List ℕ} {x y z m s i j k : ℕ} → AreOwn (by_edge l) own
      → x ≡ by_edge l 0 - get_or own 0 0 - get_or own 1 0 → y ≡ by_edge l 1 - get_or own 0 0 - get_or own 2 0 → z ≡ by_edge l 2 - get_or own 0 0 - get_or own 3 0
      → m ≡ median x y z → s ≡ smallest x y z → i ≡ label_by m s x → j ≡ label_by m s y → k ≡ label_by m s z
      → SpiralNumbers c m s own (0 ∷ i ∷ j ∷ k ∷ [])
  unfolding larger smaller left_between joining edge_between
  numbers_are {own} {x} {y} {z} {m} {s} {i} {j} {k} O ex ey ez em es ei ej ek =
      let O' : AreOwn (count_of c) own = subst (λ w. AreOwn w own) counts_are O in
      let o0 = O' 0 (omega arith) in
      let o1 = O' 1 (omega arith) in
      let o2 = O' 2 (omega arith) in
      let o3 = O' 3 (omega arith) in
      let n : (e : ℕ) → by_edge l e ≡ count_of c e = λ e. ap (λ g. g e) counts_are in
      let a : x ≡ left_between (count_of c) 0 1 = taken_off ex (n 0) o0 o1 in
      let b : y ≡ left_between (count_of c) 0 2 = taken_off ey (n 1) o0 o2 in
      let d : z ≡ left_between (count_of c) 0 3 = taken_off ez (n 2) o0 o3 in
      let p : m ≡ larger (count_of c) = em ∙ rw (a, b, d) refl in
      let q : s ≡ smaller (count_of c) = es ∙ rw (a, b, d) refl in
      record {
        larger_is = p;
        smaller_is = q;
        own_are = O';
        labels_are = λ n h t. below_four (λ n. 0 < n → get_or (0 ∷ i ∷ j ∷ k ∷ []) n 0 ≡ label_by (larger (count_of c)) (smaller (count_of c)) (left_between (count_of c) 0 n))
            (λ h. absurd (omega arith)) (λ h. ei ∙ rw (p, q, a) refl) (λ h. ej ∙ rw (p, q, b) refl) (λ h. ek ∙ rw (p, q, d) refl) n t h;
        label_first = refl;
      }

module _ {c : Cell} {d1 d2 : ℕ} {own labels : List ℕ} (W : Spiraling c d1 d2 own labels) where
  abbrev w : ℕ → ℕ
  w = count_of c

  abbrev K : is_level_cell w ≡ true
  K = W.sound.level

  some : 0 < smaller w
  some = (spiral_is w W.spiral).0

  more : smaller w < larger w
  more = (spiral_is w W.spiral).1

  first_label : label w 0 ≡ 0
  first_label = ap (label w) (sym (at_i_is w K some more)) ∙ label_at w K some more 0 (omega arith)

  pub label_told : (p : ℕ) → p < 4 → get_or labels p 0 ≡ label w p
  label_told p lp =
      elim (ℕ_discrete p 0) [
        | yes e ↦ rw e (W.numbers.label_first ∙ sym first_label)
        | no e ↦ W.numbers.labels_are p (omega arith) lp ∙ sym (label-by w K some more p (omega arith) lp)
      ]

  pub told_lt : (p : ℕ) → p < 4 → get_or labels p 0 < 4
  told_lt p lp = omega (arith, label_told p lp, at-label w K some more p lp)

  pub sum_few : d1 + d2 ≤ most_count
  sum_few = omega (arith, W.numbers.larger_is, W.numbers.smaller_is, most-sum c K some more)

  pub arm_told : (p : ℕ) → p < 4 → spoke_by d1 d2 (get_or labels p 0) ≡ arm_count c p
  unfolding spoke_by spoke
  arm_told p lp = rw (W.numbers.larger_is, W.numbers.smaller_is, label_told p lp) refl

  pub arm_fits : (p : ℕ) → p < 4 → arm_count c p ≤ most_count
  arm_fits p lp = arm_most c K some more p lp

  spokes_same : spoke_by d1 d2 ≡ spoke w
  unfolding spoke_by spoke
  spokes_same = rw (W.numbers.larger_is, W.numbers.smaller_is) refl

  pub start_told : (b p : ℕ) → p < 4 → b + pre (spoke_by d1 d2) (get_or labels p 0) ≡ arm_start c b p
  unfolding arm_start
  start_told b p lp = ap₂ (λ f n. b + pre f n) spokes_same (label_told p lp)

  own_lo : (e : ℕ) → e < 6 → get_or own (lo e) 0 ≡ least_corner w (lo e)
  unfolding lo
  own_lo = below_six (λ e. get_or own (lo e) 0 ≡ least_corner w (lo e)) (o 0 (omega arith)) (o 0 (omega arith)) (o 0 (omega arith)) (o 1 (omega arith)) (o 1 (omega arith)) (o 2 (omega arith))
    where
      o : (p : ℕ) → p < 4 → get_or own p 0 ≡ least_corner w p
      o = W.numbers.own_are

  own_hi : (e : ℕ) → e < 6 → get_or own (hi e) 0 ≡ least_corner w (hi e)
  unfolding hi
  own_hi = below_six (λ e. get_or own (hi e) 0 ≡ least_corner w (hi e)) (o 1 (omega arith)) (o 2 (omega arith)) (o 3 (omega arith)) (o 2 (omega arith)) (o 3 (omega arith)) (o 3 (omega arith))
    where
      o : (p : ℕ) → p < 4 → get_or own p 0 ≡ least_corner w p
      o = W.numbers.own_are

  pub rest_told : (e : ℕ) → e < 6 → w e - get_or own (lo e) 0 - get_or own (hi e) 0 ≡ rest_count c e
  rest_told e le = omega (arith, own_lo e le, own_hi e le, rest_sum (count_of c) K e le)

  pub from_told : (e : ℕ) → e < 6 → get_or c.starts e 0 + get_or own (lo e) 0 ≡ rest_start c e
  unfolding rest_start
  from_told e le = ap (λ n. start_of c e + n) (own_lo e le)

  pub from_fits : (e : ℕ) → e < 6 → get_or c.starts e 0 + get_or own (lo e) 0 < 4294967296
  from_fits e le = omega (arith, W.sound.near e le, own_lo e le, rest_sum (count_of c) K e le)

  lo_lt : (e : ℕ) → e < 6 → lo e < 4
  unfolding lo
  lo_lt = below_six (λ e. lo e < 4) (omega arith) (omega arith) (omega arith) (omega arith) (omega arith) (omega arith)

  hi_lt : (e : ℕ) → e < 6 → hi e < 4
  unfolding hi
  hi_lt = below_six (λ e. hi e < 4) (omega arith) (omega arith) (omega arith) (omega arith) (omega arith) (omega arith)

  ends_differ : (e : ℕ) → e < 6 → lo e < hi e
  unfolding lo hi
  ends_differ = below_six (λ e. lo e < hi e) (omega arith) (omega arith) (omega arith) (omega arith) (omega arith) (omega arith)

  pub labels_apart : (e : ℕ) → e < 6 → get_or labels (lo e) 0 ≡ get_or labels (hi e) 0 → ⊥
  labels_apart e le q =
      let r : label w (lo e) ≡ label w (hi e) = sym (label_told (lo e) (lo_lt e le)) ∙ q ∙ label_told (hi e) (hi_lt e le) in
      absurd (omega (arith, ends_differ e le, label_once w K some more (lo e) (hi e) (lo_lt e le) (hi_lt e le) r))

  pub ends_lt : (e : ℕ) → e < 6 → (get_or labels (lo e) 0 < 4) × (get_or labels (hi e) 0 < 4)
  ends_lt e le = (told_lt (lo e) (lo_lt e le), told_lt (hi e) (hi_lt e le))

  pub name_told : (f e : ℕ) → e < 6 → f + joining (get_or labels (lo e) 0) (get_or labels (hi e) 0) ≡ inner_name c f e
  unfolding inner_name
  name_told f e le = ap₂ (λ x y. f + joining x y) (label_told (lo e) (lo_lt e le)) (label_told (hi e) (hi_lt e le))

  pub place-at : (p m : ℕ) → p < 4 → get_or labels p 0 ≡ m → p ≡ labelled w m
  place-at p m lp e = sym (at-label w K some more p lp).1 ∙ ap (labelled w) (sym (label_told p lp) ∙ e)

  pub place_left : (m : ℕ) → m < 4 → (get_or labels 1 0 ≡ m → ⊥) → (get_or labels 2 0 ≡ m → ⊥) → (get_or labels 3 0 ≡ m → ⊥) → 0 ≡ labelled w m
  place_left m lm a b d = sym (below_four (λ p. label w p ≡ m → p ≡ 0) (λ e. refl) (λ e. absurd (a (at 1 (omega arith) e))) (λ e. absurd (b (at 2 (omega arith) e))) (λ e. absurd (d (at 3 (omega arith) e)))
      (labelled w m) (labelled_lt w K some more m lm) (label_at w K some more m lm))
    where
      at : (p : ℕ) → p < 4 → label w p ≡ m → get_or labels p 0 ≡ m
      at p lp e = label_told p lp ∙ e
