-- The sub-cells of a split: their counts, by edge, by slot and by the positions of the cell's nodes; and that only rule 1 is met in them. All of it goes
-- by counts; a sub-cell by value keeps them.
use Prim.Native.Nat.{ℕ, zero, suc, ◌+◌, ◌-◌, ◌≤◌, ◌<◌, min}
use mathlib.Core.Path.{◌≡◌, refl, sym, ap, ap₂, ◌∙◌, subst}
use mathlib.Core.Logic.{◌≢◌}
use mathlib.Core.Bool.{true}
use native.Mathlib.Omega.{arith}
use native.Mathlib.Decide.{dec_lt, ℕ_discrete}
use Rattle.counting.specs.Lists.{seek}
use Rattle.counting.specs.Search.{first}
use Rattle.counting.proofs.Below.{below_three, below_four}
use Rattle.counting.proofs.Search.{is_every}
use Rattle.slots.specs.Slots.{lo, hi, position, lower, upper, edge_between, slot_edge}
use Rattle.slots.specs.claims.Slots.{rank_in}
use Rattle.slots.specs.Limits.{most_count}
use Rattle.slots.proofs.Slots.{slot-edge, corner_lt, rank-of, face_ends}
use Rattle.face.specs.Face.{is_level}
use Rattle.face.specs.claims.Level.{Level}
use Rattle.face.proofs.Level.{is-level}
use Rattle.cell.specs.declared.Cell.{Cell}
use Rattle.cell.specs.Of.{count_of}
use Rattle.cell.specs.claims.Nodes.{Arranged}
use Rattle.cell.specs.Nodes.{joining, count_between}
use Rattle.cell.specs.Level.{is_level_cell}
use Rattle.booking.specs.Booking.{left_between, larger, smaller}
use Rattle.split.specs.Labels.{labelled, label, spoke}
use Rattle.split.specs.SubCell.{rest_of, arm_of, sub_at}
use Rattle.split.specs.work.Five.{rest_count, arm_count}
use Rattle.split.specs.claims.Counted.{sub_counts}
use Rattle.split.proofs.Labels.{joining_ways, left_ways, labelling, at-label, inner_level}
use Rattle.split.proofs.Rest.{rest_level, rest_most}

-- the edges of a sub-cell: of its slots, from the new node, and between the others
pub zero_edges : (j : ℕ) → j < 3 → slot_edge 0 j ≡ 3 + j
unfolding slot_edge edge_between first seek position lower upper lo hi
zero_edges = below_three (λ j. slot_edge 0 j ≡ 3 + j) refl refl refl

pub other_edges : (j : ℕ) → j < 3 → (slot_edge (3 - j) 0 ≡ lower j) × (slot_edge (3 - j) 1 ≡ upper j) × (slot_edge (3 - j) 2 ≡ 3 + j)
unfolding slot_edge edge_between first seek position lower upper lo hi
other_edges = below_three (λ j. (slot_edge (3 - j) 0 ≡ lower j) × (slot_edge (3 - j) 1 ≡ upper j) × (slot_edge (3 - j) 2 ≡ 3 + j)) (refl, refl, refl) (refl, refl, refl) (refl, refl, refl)

from_new : (r : ℕ) → r < 3 → joining 0 (suc r) ≡ r
unfolding joining edge_between first seek lo hi
from_new = below_three (λ r. joining 0 (suc r) ≡ r) refl refl refl

between_old : (j : ℕ) → j < 3 → joining (suc (lower j)) (suc (upper j)) ≡ 3 + j
unfolding joining edge_between first seek lower upper lo hi
between_old = below_three (λ j. joining (suc (lower j)) (suc (upper j)) ≡ 3 + j) refl refl refl

-- the positions but M, by rank
module _ {M : ℕ} (l_m : M < 4) where
  rank_once : (p q : ℕ) → p < 4 → q < 4 → p ≢ M → q ≢ M → rank_in M p ≡ rank_in M q → p ≡ q
  rank_once p q lp lq np nq e = sym (rank-of M p l_m lp np).1 ∙ ap (position M) e ∙ (rank-of M q l_m lq nq).1

  pub seats : {p q r : ℕ} → Arranged M p q r → Arranged 0 (suc (rank_in M p)) (suc (rank_in M q)) (suc (rank_in M r))
  seats {p} {q} {r} A = record {
    a_lt = omega arith;
    b_lt = omega (arith, (rank-of M p l_m A.b_lt (other A.ab)).0);
    c_lt = omega (arith, (rank-of M q l_m A.c_lt (other A.ac)).0);
    d_lt = omega (arith, (rank-of M r l_m A.d_lt (other A.ad)).0);
    ab = λ z. omega arith;
    ac = λ z. omega arith;
    ad = λ z. omega arith;
    bc = λ z. A.bc (rank_once p q A.b_lt A.c_lt (other A.ab) (other A.ac) (omega arith));
    bd = λ z. A.bd (rank_once p r A.b_lt A.d_lt (other A.ab) (other A.ad) (omega arith));
    cd = λ z. A.cd (rank_once q r A.c_lt A.d_lt (other A.ac) (other A.ad) (omega arith));
  }
    where
      other : {a b : ℕ} → a ≢ b → b ≢ a
      other n z = n (sym z)

-- v has the counts of the sub-cell of a cell with the counts w that omits position M
pub record Omits (w : ℕ → ℕ) (M : ℕ) (v : ℕ → ℕ) : Type 0 where
  pub new : (q : ℕ) → q < 3 → v q ≡ arm_of w (position M q)
  pub old : (j : ℕ) → j < 3 → v (3 + j) ≡ rest_of w (slot_edge M j)

module _ {w : ℕ → ℕ} {M : ℕ} (l_m : M < 4) {v : ℕ → ℕ} (O : Omits w M v) where
  -- the edges of its slots: slot 0 has what remains of slot M, slot 3 − j the inner face over edge j of slot M
  pub zero_slot : (j : ℕ) → j < 3 → v (slot_edge 0 j) ≡ rest_of w (slot_edge M j)
  zero_slot j h = ap v (zero_edges j h) ∙ O.old j h

  pub other-slot : (j : ℕ) → j < 3
      → (v (slot_edge (3 - j) 0) ≡ arm_of w (lo (slot_edge M j))) × (v (slot_edge (3 - j) 1) ≡ arm_of w (hi (slot_edge M j))) × (v (slot_edge (3 - j) 2) ≡ rest_of w (slot_edge M j))
  other-slot j h =
      let (p, q, r) = other_edges j h in
      let u = slot-edge M j l_m h in
      let e = face_ends j h in
      (ap v p ∙ O.new (lower j) (omega arith) ∙ ap (arm_of w) (sym u.lo_is), ap v q ∙ O.new (upper j) (omega arith) ∙ ap (arm_of w) (sym u.hi_is), ap v r ∙ O.old j h)

  -- its counts by the positions of the cell's nodes, p at suc (rank_in M p)
  to_new : (r : ℕ) → r < 3 → count_between v 0 (suc r) ≡ arm_of w (position M r)
  to_new r h = ap v (from_new r h) ∙ O.new r h

  to_old : (j : ℕ) → j < 3 → count_between v (suc (lower j)) (suc (upper j)) ≡ left_between w (position M (lower j)) (position M (upper j))
  to_old j h = let u = slot-edge M j l_m h in ap v (between_old j h) ∙ O.old j h ∙ ap₂ (left_between w) u.lo_is u.hi_is

  between_up : (r s : ℕ) → r < s → s < 3 → count_between v (suc r) (suc s) ≡ left_between w (position M r) (position M s)
  unfolding lower upper
  between_up zero (suc zero) h l = to_old 0 (omega arith)
  between_up zero (suc (suc zero)) h l = to_old 1 (omega arith)
  between_up (suc zero) (suc (suc zero)) h l = to_old 2 (omega arith)
  between_up r zero h l = absurd (omega arith)
  between_up (suc r) (suc zero) h l = absurd (omega arith)
  between_up (suc (suc r)) (suc (suc zero)) h l = absurd (omega arith)
  between_up r (suc (suc (suc s))) h l = absurd (omega arith)

  -- position p of the cell stands here
  abbrev seat : ℕ → ℕ
  seat p = suc (rank_in M p)

  pub seat_new : (p : ℕ) → p < 4 → p ≢ M → count_between v 0 (seat p) ≡ arm_of w p
  seat_new p lp np = let (r, e) = rank-of M p l_m lp np in to_new (rank_in M p) r ∙ ap (arm_of w) e

  pub seat_old : (p q : ℕ) → p < 4 → q < 4 → p ≢ M → q ≢ M → p ≢ q → count_between v (seat p) (seat q) ≡ left_between w p q
  seat_old p q lp lq np nq ne =
      let (r, e) = rank-of M p l_m lp np in
      let (s, g) = rank-of M q l_m lq nq in
      let apart : rank_in M p ≢ rank_in M q = λ z. ne (rank_once l_m p q lp lq np nq z) in
      elim (dec_lt (rank_in M p) (rank_in M q)) [
        | yes h ↦ between_up (rank_in M p) (rank_in M q) h s ∙ ap₂ (left_between w) e g
        | no h ↦ ap v (joining_ways (seat p) (seat q) (λ z. apart (omega arith)))
            ∙ between_up (rank_in M q) (rank_in M p) (omega (arith, apart)) r ∙ ap₂ (left_between w) g e ∙ left_ways w q p (λ z. ne (sym z))
      ]

-- only rule 1 is met in it
module _ (w : ℕ → ℕ) (K : is_level_cell w ≡ true) (some : 0 < smaller w) (more : smaller w < larger w) {M : ℕ} (l_m : M < 4) {v : ℕ → ℕ} (O : Omits w M v) where
  inner_levels : (j : ℕ) → j < 3 → Level (v (slot_edge (3 - j) 0)) (v (slot_edge (3 - j) 1)) (v (slot_edge (3 - j) 2))
  inner_levels j h = let (p, q, r) = other-slot l_m O j h in rw (p, q, r) (inner_level w K some more (slot_edge M j) (slot-edge M j l_m h).lt)

  slot_levels : (r : ℕ) → r < 4 → Level (v (slot_edge r 0)) (v (slot_edge r 1)) (v (slot_edge r 2))
  slot_levels r lr =
      elim (ℕ_discrete r 0) [
        | yes z ↦ rw (z, zero_slot l_m O 0 (omega arith), zero_slot l_m O 1 (omega arith), zero_slot l_m O 2 (omega arith)) (rest_level w K M l_m)
        | no z ↦ let e : 3 - (3 - r) ≡ r = omega arith in
            subst (λ r. Level (v (slot_edge r 0)) (v (slot_edge r 1)) (v (slot_edge r 2))) e (inner_levels (3 - r) (omega arith))
      ]

  pub sub_level : is_level_cell v ≡ true
  unfolding is_level_cell
  sub_level = is_every (λ s. is_level (v (slot_edge s 0)) (v (slot_edge s 1)) (v (slot_edge s 2))) 4 (λ s ls. is-level (slot_levels s ls))

-- the counts of the definition are such
pub counts_omit : (w : ℕ → ℕ) (m : ℕ) → Omits w (labelled w m) (sub_counts w m)
unfolding sub_counts
counts_omit w m = record {
  new = below_three (λ q. sub_counts w m q ≡ arm_of w (position (labelled w m) q)) refl refl refl;
  old = below_three (λ j. sub_counts w m (3 + j) ≡ rest_of w (slot_edge (labelled w m) j)) refl refl refl;
}

-- and those of the sub-cells of a cell by value: none is above the limit
module _ (c : Cell) (K : is_level_cell (count_of c) ≡ true) (some : 0 < smaller (count_of c)) (more : smaller (count_of c) < larger (count_of c)) where
  abbrev x : ℕ
  x = larger (count_of c)

  abbrev y : ℕ
  y = smaller (count_of c)

  spoke_le : (n : ℕ) → n < 4 → spoke (count_of c) n ≤ x + y
  unfolding spoke
  spoke_le = below_four (λ n. spoke (count_of c) n ≤ x + y) (omega arith) (omega arith) (omega arith) (omega arith)

  pub most-sum : x + y ≤ most_count
  unfolding left_between
  most-sum = omega (arith, (labelling (count_of c) K some more).il)

  pub arm_most : (p : ℕ) → p < 4 → arm_count c p ≤ most_count
  arm_most p lp = omega (arith, spoke_le (label (count_of c) p) (at-label (count_of c) K some more p lp).0, most-sum)

  pub sub_omits : (b f word M : ℕ) → M < 4 → Omits (count_of c) M (count_of (sub_at c b f word M))
  unfolding sub_at
  sub_omits b f word M l_m = record {
    new = below_three (λ q. count_of (sub_at c b f word M) q ≡ arm_count c (position M q)) (arm 0 (omega arith)) (arm 1 (omega arith)) (arm 2 (omega arith));
    old = below_three (λ j. count_of (sub_at c b f word M) (3 + j) ≡ rest_count c (slot_edge M j)) (rest 0 (omega arith)) (rest 1 (omega arith)) (rest 2 (omega arith));
  }
    where
      arm : (q : ℕ) → q < 3 → min (arm_count c (position M q)) most_count ≡ arm_count c (position M q)
      arm q h = omega (arith, arm_most (position M q) (corner_lt M q h))

      rest : (j : ℕ) → j < 3 → min (rest_count c (slot_edge M j)) most_count ≡ rest_count c (slot_edge M j)
      rest j h = omega (arith, rest_most c K (slot_edge M j) (slot-edge M j l_m h).lt)
