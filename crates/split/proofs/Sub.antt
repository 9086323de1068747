-- The sub-cells of a ready cell with d1 > d2 > 0 are ready again, for the numbers and names that come after those of the split.
use Prim.Native.Nat.{ℕ, ◌+◌, ◌-◌, ◌*◌, ◌<◌}
use mathlib.Core.Path.{◌≡◌, refl, sym, ap, ◌∙◌, subst}
use mathlib.Core.Logic.{◌≢◌}
use mathlib.Core.Bool.{true}
use native.Mathlib.Omega.{arith}
use native.Mathlib.Decide.{dec_lt, ℕ_discrete}
use Rattle.counting.specs.Lists.{total, pre}
use Rattle.counting.specs.Pack.{row, col}
use Rattle.counting.proofs.Below.{below_three, trichotomy}
use Rattle.counting.proofs.Pack.{row_pack, col_pack, pack_lt}
use Rattle.slots.specs.Slots.{lo, position, slot_edge, edge_rank}
use Rattle.slots.proofs.Slots.{slot-edge, corner_lt, corners_rise}
use Rattle.cell.specs.declared.Cell.{Cell}
use Rattle.cell.specs.Of.{count_of, start_of}
use Rattle.cell.specs.Level.{is_level_cell}
use Rattle.booking.specs.Booking.{least_corner, larger, smaller}
use Rattle.split.specs.Labels.{labelled, label, spoke}
use Rattle.split.specs.work.Five.{rest_count, arm_count}
use Rattle.split.specs.SubCell.{rest_start, arm_start, inner_name, sub_at, sub}
use Rattle.split.specs.claims.Five.{name_of, Firm, FirmBelow}
use Rattle.split.proofs.Labels.{labelled_lt, at-label, label_once, edge_labels_lt, edge_labels_once}
use Rattle.split.proofs.Rest.{rest_sum}
use Rattle.split.proofs.SubCells.{sub_level, sub_omits}
use Rattle.split.proofs.Shows.{once}

position_once : (M i j : ℕ) → i < 3 → j < 3 → position M i ≡ position M j → i ≡ j
position_once M i j li lj q =
    trichotomy i j (λ h. absurd (omega (arith, corners_rise M i j h, q))) (λ h. absurd (omega (arith, corners_rise M j i h, q))) (λ e. e)

module _ (c : Cell) (b f : ℕ) (R : FirmBelow c b f) (some : 0 < smaller (count_of c)) (more : smaller (count_of c) < larger (count_of c)) where
  abbrev K : is_level_cell (count_of c) ≡ true
  K = R.firm.level

  abbrev own : ℕ → ℕ
  own = least_corner (count_of c)

  label_lt : (p : ℕ) → p < 4 → label (count_of c) p < 4
  label_lt p lp = (at-label (count_of c) K some more p lp).0

  -- new numbers and names are told apart, from each other and from those of the cell
  pub arm_once : (p q v u : ℕ) → p < 4 → q < 4 → v < arm_count c p → u < arm_count c q → arm_start c b p + v ≡ arm_start c b q + u → (p ≡ q) × (v ≡ u)
  unfolding arm_start
  arm_once p q v u lp lq lv lu e =
      let w = count_of c in
      let z : pre (spoke (count_of c)) (label (count_of c) p) + v ≡ pre (spoke (count_of c)) (label (count_of c) q) + u = omega arith in
      let x : label (count_of c) p ≡ label (count_of c) q =
      sym (row_pack (spoke (count_of c)) 4 (label (count_of c) p) v (label_lt p lp) lv) ∙ ap (row (spoke (count_of c)) 4) z ∙ row_pack (spoke (count_of c)) 4 (label (count_of c) q) u (label_lt q lq) lu in
      let y : v ≡ u = sym (col_pack (spoke (count_of c)) 4 (label (count_of c) p) v (label_lt p lp) lv) ∙ ap (col (spoke (count_of c)) 4) z ∙ col_pack (spoke (count_of c)) 4 (label (count_of c) q) u (label_lt q lq) lu in
      (label_once (count_of c) K some more p q lp lq x, y)

  pub arm_apart : (p v k t : ℕ) → p < 4 → v < arm_count c p → k < 6 → t < count_of c k → arm_start c b p + v ≢ start_of c k + t
  unfolding arm_start
  arm_apart p v k t lp lv lk lt q = omega (arith, R.below k t lk lt, q)

  pub inner_names : (e g : ℕ) → e < 6 → g < 6 → inner_name c f e ≡ inner_name c f g → e ≡ g
  unfolding inner_name
  inner_names e g le lg q = edge_labels_once (count_of c) K some more e g le lg (omega (arith, q))

  pub apart_names : (s e : ℕ) → s < 4 → e < 6 → name_of c s ≢ inner_name c f e
  unfolding inner_name
  apart_names s e ls le q = omega (arith, R.under s ls, q)

  -- what comes after them
  pub spokes : pre (spoke (count_of c)) 4 ≡ 2 * (larger (count_of c) + smaller (count_of c))
  unfolding pre total spoke
  spokes = omega (arith, more)

  arm_below : (p v : ℕ) → p < 4 → v < arm_count c p → arm_start c b p + v < b + 2 * (larger (count_of c) + smaller (count_of c))
  unfolding arm_start
  arm_below p v lp lv = omega (arith, pack_lt (spoke (count_of c)) 4 (label (count_of c) p) v (label_lt p lp) lv, spokes)

  name_below : (e : ℕ) → e < 6 → inner_name c f e < f + 6
  unfolding inner_name
  name_below e le = omega (arith, edge_labels_lt (count_of c) K some more e le)

  -- a crossing that remains of edge e, in the whole edge
  pub rest_lt : (e t : ℕ) → e < 6 → t < rest_count c e → own (lo e) + t < count_of c e
  rest_lt e t le h = omega (arith, rest_sum (count_of c) K e le)

  -- the sub-cell that omits position M
  module _ (word M : ℕ) (l_m : M < 4) where
    abbrev S : Cell
    S = sub_at c b f word M

    pub new_start : (q : ℕ) → q < 3 → start_of S q ≡ arm_start c b (position M q)
    unfolding sub_at
    new_start = below_three (λ q. start_of S q ≡ arm_start c b (position M q)) refl refl refl

    pub old_start : (j : ℕ) → j < 3 → start_of S (3 + j) ≡ rest_start c (slot_edge M j)
    unfolding sub_at
    old_start = below_three (λ j. start_of S (3 + j) ≡ rest_start c (slot_edge M j)) refl refl refl

    pub outer_name : name_of S 0 ≡ name_of c M
    unfolding sub_at
    outer_name = refl

    pub inner-name : (j : ℕ) → j < 3 → name_of S (3 - j) ≡ inner_name c f (slot_edge M j)
    unfolding sub_at
    inner-name = below_three (λ j. name_of S (3 - j) ≡ inner_name c f (slot_edge M j)) refl refl refl

    -- an edge of the sub-cell: new, or what remains of an old one
    pub data Kind (q t : ℕ) : Type 0 where
      new : q < 3 → t < arm_count c (position M q) → start_of S q + t ≡ arm_start c b (position M q) + t → Kind q t
      old : (j : ℕ) → q ≡ 3 + j → j < 3 → t < rest_count c (slot_edge M j) → start_of S q + t ≡ start_of c (slot_edge M j) + (own (lo (slot_edge M j)) + t) → Kind q t

    kind_of : (q t : ℕ) → q < 6 → t < count_of S q → Kind q t
    unfolding rest_start
    kind_of q t lq lt =
        elim (dec_lt q 3) [
          | yes h ↦ new h (subst (λ n. t < n) ((sub_omits c K some more b f word M l_m).new q h) lt) (ap (λ n. n + t) (new_start q h))
          | no h ↦ let e : 3 + (q - 3) ≡ q = omega arith in
              let l : q - 3 < 3 = omega arith in
              old (q - 3) (omega arith) l (subst (λ n. t < n) (ap (count_of S) (sym e) ∙ (sub_omits c K some more b f word M l_m).old (q - 3) l) lt)
              (ap (λ n. n + t) (ap (start_of S) (sym e) ∙ old_start (q - 3) l) ∙ omega arith)
        ]

    separate : (k l t u : ℕ) → k < 6 → l < 6 → t < count_of S k → u < count_of S l → start_of S k + t ≡ start_of S l + u → k ≡ l
    separate k l t u lk ll lt lu q = go (kind_of k t lk lt) (kind_of l u ll lu)
      where
        go : Kind k t → Kind l u → k ≡ l
        go (new h a e) (new i d g) =
            position_once M k l h i (arm_once (position M k) (position M l) t u (corner_lt M k h) (corner_lt M l i) a d (sym e ∙ q ∙ g)).0
        go (new h a e) (old j p i d g) =
            absurd (arm_apart (position M k) t (slot_edge M j) (own (lo (slot_edge M j)) + u) (corner_lt M k h) a (slot-edge M j l_m i).lt (rest_lt (slot_edge M j) u (slot-edge M j l_m i).lt d) (sym e ∙ q ∙ g))
        go (old j p i d g) (new h a e) =
            absurd (arm_apart (position M l) u (slot_edge M j) (own (lo (slot_edge M j)) + t) (corner_lt M l h) a (slot-edge M j l_m i).lt (rest_lt (slot_edge M j) t (slot-edge M j l_m i).lt d) (sym e ∙ sym q ∙ g))
        go (old j p i d g) (old j' p' i' d' g') =
            let (x, y) = once c R.firm (slot_edge M j) (own (lo (slot_edge M j)) + t) (slot_edge M j') (own (lo (slot_edge M j')) + u)
            (slot-edge M j l_m i).lt (rest_lt (slot_edge M j) t (slot-edge M j l_m i).lt d) (slot-edge M j' l_m i').lt (rest_lt (slot_edge M j') u (slot-edge M j' l_m i').lt d') (sym g ∙ q ∙ g') in
            let z : j ≡ j' = sym (slot-edge M j l_m i).place_is ∙ ap (edge_rank M) x ∙ (slot-edge M j' l_m i').place_is in
            omega arith

    other_name : (s : ℕ) → s < 4 → s ≢ 0 → name_of S s ≡ inner_name c f (slot_edge M (3 - s))
    other_name s ls ne =
        let e : 3 - (3 - s) ≡ s = omega arith in
        ap (name_of S) (sym e) ∙ inner-name (3 - s) (omega (arith, ne))

    names : (s r : ℕ) → s < 4 → r < 4 → name_of S s ≡ name_of S r → s ≡ r
    names s r ls lr q =
        elim (ℕ_discrete s 0) [
          | yes y ↦ elim (ℕ_discrete r 0) [
            | yes z ↦ omega arith
            | no z ↦ absurd (apart_names M (slot_edge M (3 - r)) l_m (in_lt r z) (sym (ap (name_of S) y ∙ outer_name) ∙ q ∙ other_name r lr z))
          ]
          | no y ↦ elim (ℕ_discrete r 0) [
            | yes z ↦ absurd (apart_names M (slot_edge M (3 - s)) l_m (in_lt s y) (sym (ap (name_of S) z ∙ outer_name) ∙ sym q ∙ other_name s ls y))
            | no z ↦
                let x = inner_names (slot_edge M (3 - s)) (slot_edge M (3 - r)) (in_lt s y) (in_lt r z) (sym (other_name s ls y) ∙ q ∙ other_name r lr z) in
                let v : 3 - s ≡ 3 - r = sym (slot-edge M (3 - s) l_m (omega (arith, y))).place_is ∙ ap (edge_rank M) x ∙ (slot-edge M (3 - r) l_m (omega (arith, z))).place_is in
                omega arith
          ]
        ]
      where
        in_lt : (s : ℕ) → s ≢ 0 → slot_edge M (3 - s) < 6
        in_lt s ne = (slot-edge M (3 - s) l_m (omega (arith, ne))).lt

    pub sub_firm : Firm S
    sub_firm = record { level = sub_level (count_of c) K some more l_m (sub_omits c K some more b f word M l_m); separate = separate; names = names }

    sub_below : (k t : ℕ) → k < 6 → t < count_of S k → start_of S k + t < b + 2 * (larger (count_of c) + smaller (count_of c))
    sub_below k t lk lt = go (kind_of k t lk lt)
      where
        go : Kind k t → start_of S k + t < b + 2 * (larger (count_of c) + smaller (count_of c))
        go (new h a e) = omega (arith, arm_below (position M k) t (corner_lt M k h) a, e)
        go (old j p h a e) =
            omega (arith, R.below (slot_edge M j) (own (lo (slot_edge M j)) + t) (slot-edge M j l_m h).lt (rest_lt (slot_edge M j) t (slot-edge M j l_m h).lt a), e)

    sub_under : (s : ℕ) → s < 4 → name_of S s < f + 6
    sub_under s ls =
        elim (ℕ_discrete s 0) [
          | yes z ↦ rw (z, outer_name) (omega (arith, R.under M l_m))
          | no z ↦ rw (other_name s ls z) (name_below (slot_edge M (3 - s)) (slot-edge M (3 - s) l_m (omega (arith, z))).lt)
        ]

    pub ready_at : FirmBelow S (b + 2 * (larger (count_of c) + smaller (count_of c))) (f + 6)
    ready_at = record { firm = sub_firm; below = sub_below; under = sub_under }

  pub sub_ready : (word m : ℕ) → m < 4 → FirmBelow (sub c b f word m) (b + 2 * (larger (count_of c) + smaller (count_of c))) (f + 6)
  unfolding sub
  sub_ready word m lm = ready_at word (labelled (count_of c) m) (labelled_lt (count_of c) K some more m lm)
