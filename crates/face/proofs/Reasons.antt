-- How a crossing is joined and why one is not: the laws of the face call's whole answer.
use Prim.Native.Nat.{ℕ, ◌+◌, ◌-◌, ◌%◌, ◌<◌, ◌≤◌}
use mathlib.Core.Path.{◌≡◌, refl, sym, ◌∙◌, ap, subst}
use mathlib.Core.List.{List}
use mathlib.Core.Logic.{◌⊎◌, inl, inr}
use native.Mathlib.Omega.{arith}
use native.Mathlib.Decide.{dec_lt, ℕ_discrete}
use Rattle.face.specs.Face.{round, along, left, skipped, joined_by, unjoined_by, bare, other, count_on, others, kth, corner_count_at, partner, face_answer, face_join}
use Rattle.face.specs.claims.Claims.{unjoined, ReasonLaws}
use Rattle.slots.specs.Slots.{lower, upper}
use Rattle.face.specs.claims.Ends.{Edge, on_ab, on_ac, on_bc, End, low, high}
use Rattle.face.specs.Rim.{Segment}
use Rattle.face.proofs.Corner.{Rule, first, second, third, level, rule}
use Rattle.face.proofs.Ends.{edge-of, edge_with, no_edge, end_other, other_other, other_differs}
use Rattle.face.proofs.Gaps.{gap, kth_lower, kth_upper, corner_fits, corner_other, gap_long, gap_excess, gap_short, gap_even, gap_odd}
use Rattle.face.proofs.Branches.{corners-of, answer_low, answer_high, answer_up, answer_down, answer_skip, answer_left}
use Rattle.face.proofs.Links.{Pair, Link, about, up, down, link}
use Rattle.face.proofs.Laws.{there_unjoined, unjoined_alone}

module _ (ab ac bc : ℕ) where
  abbrev n : ℕ → ℕ
  n e = count_on ab ac bc e

  abbrev lo : ℕ → ℕ
  lo e = corner_count_at ab ac bc (lower e) e

  without : (e t : ℕ) → face_join ab ac bc e t ≡ bare (face_answer ab ac bc e t)
  unfolding face_join
  without e t = refl

  -- the k-th from a corner
  pub corner_answer : {w e : ℕ} (k : ℕ) → End w e → k < corner_count_at ab ac bc w e → face_answer ab ac bc e (kth ab ac bc w e k) ≡ partner ab ac bc w e k
  corner_answer {e = e} k (low d) h = rw (kth_lower ab ac bc e k) (answer_low (corners-of ab ac bc d) k h)
  corner_answer {e = e} k (high d) h =
      let f = corner_fits ab ac bc (upper e) e in
      let b : n e - 1 - (n e - 1 - k) ≡ k = omega arith in
      rw (kth_upper ab ac bc k d) (rw b at (answer_high (corners-of ab ac bc d) (n e - 1 - k) (omega arith) (omega arith)))

  corner_told : {w e : ℕ} (k : ℕ) → End w e → k < corner_count_at ab ac bc w e →
      face_answer ab ac bc e (kth ab ac bc w e k) ≡ joined_by (other w e) (kth ab ac bc w (other w e) k) (round w)
  unfolding partner
  corner_told k d h = corner_answer k d h

  pair_up : {e t : ℕ} → Pair ab ac bc e t → face_answer ab ac bc e t ≡ joined_by e (t + 1) along
  pair_up {e} {t} p = answer_up (corners-of ab ac bc p.edge) t p.start (omega (arith, p.stop)) p.even

  pair_down : {e t : ℕ} → Pair ab ac bc e t → face_answer ab ac bc e (t + 1) ≡ joined_by e t along
  pair_down {e} {t} p =
      let b : t + 1 - 1 ≡ t = omega arith in
      let r = p.stop in
      let s = p.start in
      let h = p.even in
      answer_down (corners-of ab ac bc p.edge) (t + 1) (omega arith) r (omega arith) (omega arith) ∙ ap (λ m. joined_by e m along) b

  -- what the two ends of a segment tell
  data Told (e t e' t' : ℕ) : Type 0 where
    turned : {w : ℕ} (k : ℕ) → End w e → End w e' → k < corner_count_at ab ac bc w e → t ≡ kth ab ac bc w e k → t' ≡ kth ab ac bc w e' k
        → face_answer ab ac bc e t ≡ joined_by e' t' (round w) → face_answer ab ac bc e' t' ≡ joined_by e t (round w) → Told e t e' t'
    straight : e ≡ e' → face_answer ab ac bc e t ≡ joined_by e' t' along → Told e t e' t'

  tells : {e t e' t' : ℕ} → Link ab ac bc e t e' t' → Told e t e' t'
  tells {e} {t} {e'} {t'} (about {w = w} k d h p q r) =
      let d' : End w e' = rw q (end_other d) in
      let h' : k < corner_count_at ab ac bc w e' = rw q (rw (corner_other ab ac bc d) h) in
      let o : other w e' ≡ e = ap (other w) q ∙ other_other d in
      turned {w = w} k d d' h p r (cc (corner_told k d h)) (cc (corner_told k d' h'))
  tells (up d p q) = straight (sym p) (cc (pair_up d))
  tells (down d p q) = straight (sym p) (cc (pair_down d))

  told : {e t e' t' : ℕ} → Segment ab ac bc e t e' t' → Told e t e' t'
  told j = tells (link ab ac bc j)

  segment : (e t e' t' : ℕ) (h : List ℕ) → face_answer ab ac bc e t ≡ joined_by e' t' h → Segment ab ac bc e t e' t'
  segment e t e' t' h a = without e t ∙ ap bare a

  no_round : (e t e' t' w : ℕ) → face_answer ab ac bc e t ≡ joined_by e' t' along → face_answer ab ac bc e t ≡ joined_by e' t' (round w) → ⊥
  no_round e t e' t' w p q = let z : ◌≡◌ {A = ℕ} 1 0 = cc in omega arith

  -- a segment round a corner, with what both ends tell
  record Round (e t e' t' w : ℕ) : Type 0 where
    k : ℕ
    below : k < corner_count_at ab ac bc w e
    ends : End w e × End w e'
    ranks : (t ≡ kth ab ac bc w e k) × (t' ≡ kth ab ac bc w e' k)
    back : face_answer ab ac bc e' t' ≡ joined_by e t (round w)

  rounded : (e t e' t' w : ℕ) → face_answer ab ac bc e t ≡ joined_by e' t' (round w) → Round e t e' t' w
  rounded e t e' t' w a = go (told (segment e t e' t' (round w) a))
    where
      go : Told e t e' t' → Round e t e' t' w
      go (turned {w = v} k d d' h p r x y) =
          let z : v ≡ w = cc in
          let R : Round e t e' t' v = record { k = k; below = h; ends = (d, d'); ranks = (p, r); back = y } in
          subst (Round e t e' t') z R
      go (straight p x) = absurd (no_round e t e' t' w x a)

  how : (e t e' t' : ℕ) → Segment ab ac bc e t e' t' →
      ((w : ℕ) × (face_answer ab ac bc e t ≡ joined_by e' t' (round w))) ⊎ (face_answer ab ac bc e t ≡ joined_by e' t' along)
  how e t e' t' j = go (told j)
    where
      go : Told e t e' t' → ((w : ℕ) × (face_answer ab ac bc e t ≡ joined_by e' t' (round w))) ⊎ (face_answer ab ac bc e t ≡ joined_by e' t' along)
      go (turned {w = v} k d d' h p r x y) = inl (v, x)
      go (straight p x) = inr x

  along_one : (e t e' t' : ℕ) → face_answer ab ac bc e t ≡ joined_by e' t' along → e ≡ e'
  along_one e t e' t' a = go (told (segment e t e' t' along a))
    where
      go : Told e t e' t' → e ≡ e'
      go (turned {w = v} k d d' h p r x y) = absurd (no_round e t e' t' v a x)
      go (straight p x) = p

  one_along : (e t e' t' : ℕ) → Segment ab ac bc e t e' t' → e ≡ e' → face_answer ab ac bc e t ≡ joined_by e' t' along
  one_along e t e' t' j q = go (link ab ac bc j)
    where
      go : Link ab ac bc e t e' t' → face_answer ab ac bc e t ≡ joined_by e' t' along
      go (about k d h p o r) = absurd (other_differs d (sym (q ∙ o)))
      go (up d p r) = cc (pair_up d)
      go (down d p r) = cc (pair_down d)

  -- what an unjoined crossing is: the first past the lower corner of its edge, which has an odd number of crossings between its corners
  record Alone-by (e t : ℕ) : Type 0 where
    edge : Edge e
    first : t ≡ lo e
    odd : gap ab ac bc e % 2 ≡ 1

  alone_of : (e t : ℕ) → face_join ab ac bc e t ≡ unjoined → Alone-by e t
  alone_of e t u = let a = unjoined_alone ab ac bc e t u in record { edge = edge_with ab ac bc e t (there_unjoined ab ac bc e t u); first = a.first; odd = a.odd }

  module _ {e t : ℕ} (a : Alone-by e t) where
    long_skipped : others ab ac bc e < n e → face_answer ab ac bc e t ≡ unjoined_by skipped
    long_skipped l =
        let r = a.first in
        let h = a.odd in
        answer_skip (corners-of ab ac bc a.edge) t (omega arith) (omega arith) l (omega arith) r

    level_left : n e ≤ others ab ac bc e → face_answer ab ac bc e t ≡ unjoined_by left
    level_left l =
        let r = a.first in
        let h = a.odd in
        answer_left (corners-of ab ac bc a.edge) t (omega arith) (omega arith) l

  unjoined_is : (e t w : ℕ) → face_answer ab ac bc e t ≡ unjoined_by w → face_join ab ac bc e t ≡ unjoined
  unjoined_is e t w a = without e t ∙ ap bare a

  left_skipped : (e t : ℕ) → face_answer ab ac bc e t ≡ unjoined_by left → face_answer ab ac bc e t ≡ unjoined_by skipped → ⊥
  left_skipped e t p q = let z : ◌≡◌ {A = ℕ} 0 1 = cc in omega arith

  why : (e t : ℕ) → face_join ab ac bc e t ≡ unjoined → (face_answer ab ac bc e t ≡ unjoined_by left) ⊎ (face_answer ab ac bc e t ≡ unjoined_by skipped)
  why e t u =
      elim (dec_lt (others ab ac bc e) (n e)) [
        | yes l ↦ inr (long_skipped (alone_of e t u) l)
        | no l ↦ inl (level_left (alone_of e t u) (omega arith))
      ]

  skipped_odd : (e t : ℕ) → face_answer ab ac bc e t ≡ unjoined_by skipped →
      (others ab ac bc e < n e) × ((n e - others ab ac bc e) % 2 ≡ 1) × (t ≡ n (other (lower e) e))
  skipped_odd e t q =
      let a = alone_of e t (unjoined_is e t skipped q) in
      elim (dec_lt (others ab ac bc e) (n e)) [
        | yes l ↦ (l, omega (arith, a.odd, gap_excess ab ac bc a.edge l), a.first ∙ (gap_long ab ac bc a.edge l).0)
        | no l ↦ absurd (left_skipped e t (level_left a (omega arith)) q)
      ]

  odd_skipped : (e : ℕ) → others ab ac bc e < n e → (n e - others ab ac bc e) % 2 ≡ 1 → face_answer ab ac bc e (n (other (lower e) e)) ≡ unjoined_by skipped
  odd_skipped e l h =
      let d = edge_with ab ac bc e (others ab ac bc e) l in
      let g = gap_long ab ac bc d l in
      long_skipped (record { edge = d; first = sym g.0; odd = omega (arith, gap_excess ab ac bc d l) }) l

  -- the three counts as facts of rule 2, from any edge and for any
  abbrev NoneAbove : Type 0
  NoneAbove = (ab ≤ ac + bc) × (ac ≤ ab + bc) × (bc ≤ ab + ac)

  none_above : {e : ℕ} → Edge e → n e ≤ n (other (lower e) e) + n (other (upper e) e) → n (other (lower e) e) ≤ n e + n (other (upper e) e)
      → n (other (upper e) e) ≤ n e + n (other (lower e) e) → NoneAbove
  unfolding count_on lower upper other
  none_above on_ab h k l = (omega arith, omega arith, omega arith)
  none_above on_ac h k l = (omega arith, omega arith, omega arith)
  none_above on_bc h k l = (omega arith, omega arith, omega arith)

  for_edge : {e : ℕ} → Edge e → NoneAbove
      → (n e ≤ n (other (lower e) e) + n (other (upper e) e)) × (n (other (lower e) e) ≤ n e + n (other (upper e) e)) × (n (other (upper e) e) ≤ n e + n (other (lower e) e))
  unfolding count_on lower upper other
  for_edge on_ab h = (omega arith, omega arith, omega arith)
  for_edge on_ac h = (omega arith, omega arith, omega arith)
  for_edge on_bc h = (omega arith, omega arith, omega arith)

  for_all : NoneAbove → (u : ℕ) → n u ≤ others ab ac bc u
  unfolding others
  for_all h u =
      elim (dec_lt u 3) [
        | yes k ↦ (for_edge (edge-of u k) h).0
        | no k ↦ omega (arith, no_edge ab ac bc u (omega arith))
      ]

  from_all : ((u : ℕ) → n u ≤ others ab ac bc u) → NoneAbove
  unfolding others count_on lower upper other
  from_all h = (h 0, h 1, h 2)

  left_rule : (e t : ℕ) → face_answer ab ac bc e t ≡ unjoined_by left →
      ((ab + ac + bc) % 2 ≡ 1) × ((u : ℕ) → n u ≤ others ab ac bc u) × (t ≡ lo e)
  unfolding others
  left_rule e t q = go (rule (n e) (n (other (lower e) e)) (n (other (upper e) e)))
    where
      a : Alone-by e t
      a = alone_of e t (unjoined_is e t left q)

      go : Rule (n e) (n (other (lower e) e)) (n (other (upper e) e)) → ((ab + ac + bc) % 2 ≡ 1) × ((u : ℕ) → n u ≤ others ab ac bc u) × (t ≡ lo e)
      go (first h) = absurd (left_skipped e t q (long_skipped a h))
      go (second h) = absurd (omega (arith, a.odd, gap_short ab ac bc a.edge (inl h)))
      go (third h) = absurd (omega (arith, a.odd, gap_short ab ac bc a.edge (inr h)))
      go (level h k l) =
          elim (ℕ_discrete ((ab + ac + bc) % 2) 0) [
            | yes z ↦ absurd (omega (arith, a.odd, gap_even ab ac bc a.edge h k l z))
            | no z ↦ (omega arith, for_all (none_above a.edge h k l), a.first)
          ]

  rule_left : (ab + ac + bc) % 2 ≡ 1 → ((u : ℕ) → n u ≤ others ab ac bc u) → (e : ℕ) → e < 3 → face_answer ab ac bc e (lo e) ≡ unjoined_by left
  rule_left z h e l =
      let d = edge-of e l in
      let (i, j, k) = for_edge d (from_all h) in
      let g = gap_odd ab ac bc d i j k z in
      level_left (record { edge = d; first = refl; odd = omega arith }) (h e)

  pub reason_laws : ReasonLaws ab ac bc
  reason_laws = record {
    without = without;
    how = how;
    why = why;
    round_back = λ e t e' t' w a. (rounded e t e' t' w a).back;
    round_ends = λ e t e' t' w a. (rounded e t e' t' w a).ends;
    round_rank = λ e t e' t' w a. (let r = rounded e t e' t' w a in (r.k, r.below, r.ranks.0, r.ranks.1));
    along_one = along_one;
    one_along = one_along;
    skipped_odd = skipped_odd;
    odd_skipped = odd_skipped;
    left_rule = left_rule;
    rule_left = rule_left;
  }
