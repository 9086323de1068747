-- Rule 2 is rule 1 over the lessened counts, with the crossing that is left taken out: the face call gives the segments.
use Prim.Native.Nat.{ℕ, ◌+◌, ◌-◌, ◌<◌, ◌≤◌}
use mathlib.Core.Path.{◌≡◌, refl, sym, ◌∙◌, ap}
use mathlib.Core.Logic.{◌≢◌, inl, inr}
use mathlib.Core.Bool.{Bool, true, false, ◌&&◌}
use native.Mathlib.Omega.{arith}
use native.Mathlib.Decide.{dec_lt, ℕ_discrete}
use lib.Dec.{eqb}
use lib.ListN.{get_or}
use mathlib.Core.List.{List}
use borrow.Author.Tests.{eq-eqb, ne_eqb, lt-ltb, le-ltb, le-leb, lt-leb}
use Rattle.counting.specs.Pick.{pick}
use Rattle.counting.specs.Lists.{one}
use Rattle.face.specs.Face.{round, left, joined_by, unjoined_by, other, count_on, kth, corner_count_at, partner, face_answer}
use Rattle.slots.specs.Slots.{lower}
use Rattle.face.specs.work.Corners.{corners}
use Rattle.face.specs.claims.Ends.{Edge, on_ab, on_ac, on_bc, End, low, high}
use Rattle.face.proofs.Ends.{edge_lt, edge-of, end_other, no_edge}
use Rattle.face.proofs.Gaps.{kth_lower, kth_upper, corner_other}
use Rattle.face.proofs.Branches.{answer_off}
use Rattle.face.proofs.Laws.{joined_or, partner_there}
use Rattle.face.proofs.Reasons.{corner_answer, reason_laws}
use Rattle.flat.specs.Join.{rule_two, largest_edge, lessened, flat_corner_at, triangle_answer}
use Rattle.flat.specs.work.Work.{lessened_edge, squeezed, stretched_to, stretched, LessenedAt}
use Rattle.flat.proofs.Rule.{Two, two_is, is_two, not_two, less, less_full, count_lessened}
use Rattle.flat.proofs.Left.{told_off, full_at, full_else, told_gap, around, alone, Case, case_of, told_corner}

-- which edge is lessened
module _ (ab ac bc : ℕ) where
  pub lessened_three : (Two ab ac bc → ⊥) → lessened_edge ab ac bc ≡ 3
  unfolding lessened_edge
  lessened_three h = rw (not_two ab ac bc h)

  pub lessened_largest : Two ab ac bc → lessened_edge ab ac bc ≡ largest_edge ab ac bc
  unfolding lessened_edge
  lessened_largest t = rw (is_two ab ac bc t)

  pub three_rule : lessened_edge ab ac bc ≡ 3 → rule_two ab ac bc ≡ false
  unfolding lessened_edge
  three_rule q = go (rule_two ab ac bc) refl q
    where
      go : (b : Bool) → rule_two ab ac bc ≡ b → pick b (largest_edge ab ac bc) 3 ≡ 3 → rule_two ab ac bc ≡ false
      go true r p = absurd (omega (arith, edge_lt (less ab ac bc r).edge))
      go false r p = r

-- stretching
module _ (m g : ℕ) where
  pub stretched_joined : (e u : ℕ) (how : List ℕ) → stretched m g (joined_by e u how) ≡ joined_by e (stretched_to m g e u) how
  unfolding stretched
  stretched_joined e u how = refl

  pub to_else : (e u : ℕ) → e ≢ m → stretched_to m g e u ≡ u
  unfolding stretched_to
  to_else e u h = rw (ne_eqb e m h) (omega arith)

  pub to_before : (e u : ℕ) → u < g → stretched_to m g e u ≡ u
  unfolding stretched_to
  to_before e u h = rw (lt-leb g u h) (go (eqb e m))
    where
      go : (b : Bool) → u + one (b && false) ≡ u
      go true = omega arith
      go false = omega arith

  pub to_after : (e u : ℕ) → e ≡ m → g ≤ u → stretched_to m g e u ≡ u + 1
  unfolding stretched_to
  to_after e u q h = rw (eq-eqb e m q, le-leb g u h)

pub squeezed_after : (g t : ℕ) → g < t → squeezed g t ≡ t - 1
unfolding squeezed
squeezed_after g t h = rw (lt-ltb g t h)

pub squeezed_before : (g t : ℕ) → t ≤ g → squeezed g t ≡ t
unfolding squeezed
squeezed_before g t h = rw (le-ltb g t h) (omega arith)

module _ (ab ac bc : ℕ) (two : rule_two ab ac bc ≡ true) where
  abbrev n : ℕ → ℕ
  n e = count_on ab ac bc e

  abbrev m : ℕ
  m = largest_edge ab ac bc

  abbrev x : ℕ
  x = lessened ab ac bc 0

  abbrev y : ℕ
  y = lessened ab ac bc 1

  abbrev z : ℕ
  z = lessened ab ac bc 2

  abbrev g : ℕ
  g = flat_corner_at ab ac bc (lower m) m

  -- the k-th crossing from an end, over the lessened counts and over all
  kth_back : {w e : ℕ} (k : ℕ) → End w e → k < flat_corner_at ab ac bc w e → stretched_to m g e (kth x y z w e k) ≡ kth ab ac bc w e k
  kth_back {e = e} k (low d) h =
      rw (kth_lower x y z e k, kth_lower ab ac bc e k) (elim (ℕ_discrete e m) [
        | yes q ↦ to_before m g e k (rw q at h)
        | no q ↦ to_else m g e k q
      ])
  kth_back {e = e} k (high d) h =
      rw (kth_upper x y z k d, kth_upper ab ac bc k d, count_lessened ab ac bc d) (elim (ℕ_discrete e m) [
        | yes q ↦
            let f = full_at ab ac bc two d q in
            let l = less_full ab ac bc (less ab ac bc two) d in
            let r : flat_corner_at ab ac bc (lower e) e ≡ g = ap (λ (e : ℕ). flat_corner_at ab ac bc (lower e) e) q in
            to_after m g e (lessened ab ac bc e - 1 - k) q (omega arith) ∙ omega arith
        | no q ↦
            let f = full_else ab ac bc two d q in
            let l = less_full ab ac bc (less ab ac bc two) d in
            to_else m g e (lessened ab ac bc e - 1 - k) q ∙ omega arith
      ])

  -- the answer round a corner
  corner_back : {w e : ℕ} (k : ℕ) → End w e → k < flat_corner_at ab ac bc w e → stretched m g (face_answer x y z e (kth x y z w e k)) ≡ triangle_answer ab ac bc e (kth ab ac bc w e k)
  unfolding flat_corner_at partner
  corner_back {w} {e} k d h =
      ap (stretched m g) (corner_answer x y z k d h) ∙ stretched_joined m g (other w e) (kth x y z w (other w e) k) (round w)
      ∙ ap (λ (t : ℕ). joined_by (other w e) t (round w)) (kth_back k (end_other d) (rw (corner_other x y z d) h)) ∙ sym (told_corner ab ac bc k d h)

  count_le : (e : ℕ) → count_on x y z e ≤ n e
  count_le e =
      elim (dec_lt e 3) [
        | yes h ↦
            let d = edge-of e h in
            let c = count_lessened ab ac bc d in
            elim (ℕ_discrete e m) [
              | yes q ↦ let a = (less ab ac bc two).at in omega (arith, rw (← q) at a)
              | no q ↦ omega (arith, (less ab ac bc two).else e q)
            ]
        | no h ↦ omega (arith, no_edge x y z e (omega arith))
      ]

  none_back : (e t u : ℕ) → n e ≤ t → count_on x y z e ≤ u → stretched m g (face_answer x y z e u) ≡ triangle_answer ab ac bc e t
  unfolding stretched
  none_back e t u h k = rw (answer_off x y z e u k, told_off ab ac bc e t h)

  -- a crossing of another edge
  pub join_else : (e t : ℕ) → e ≢ m → stretched m g (face_answer x y z e t) ≡ triangle_answer ab ac bc e t
  join_else e t o =
      elim (dec_lt t (n e)) [
        | yes h ↦ go (case_of ab ac bc two e t h)
        | no h ↦ none_back e t t (omega arith) (omega (arith, count_le e))
      ]
    where
      go : Case ab ac bc two e t → stretched m g (face_answer x y z e t) ≡ triangle_answer ab ac bc e t
      go (around {w = w} k d l p) =
          let u : t ≡ kth x y z w e k = p ∙ sym (kth_back k d l) ∙ to_else m g e (kth x y z w e k) o in
          ap (λ (t : ℕ). stretched m g (face_answer x y z e t)) u ∙ corner_back k d l ∙ ap (triangle_answer ab ac bc e) (sym p)
      go (alone q p) = absurd (o q)

  squeezed_to : (t u : ℕ) → stretched_to m g m u ≡ t → squeezed g t ≡ u
  squeezed_to t u q =
      elim (dec_lt u g) [
        | yes h ↦ let r = to_before m g m u h in squeezed_before g t (omega arith) ∙ omega arith
        | no h ↦ let r = to_after m g m u refl (omega arith) in squeezed_after g t (omega arith) ∙ omega arith
      ]

  -- a crossing of the largest edge, but the one that is left
  pub join-at : (t : ℕ) → t ≢ g → stretched m g (face_answer x y z m (squeezed g t)) ≡ triangle_answer ab ac bc m t
  join-at t o =
      elim (dec_lt t (n m)) [
        | yes h ↦ go (case_of ab ac bc two m t h)
        | no h ↦
            let a = (less ab ac bc two).at in
            let c = count_lessened ab ac bc (less ab ac bc two).edge in
            let f = less_full ab ac bc (less ab ac bc two) (less ab ac bc two).edge in
            none_back m t (squeezed g t) (omega arith) (omega (arith, squeezed_after g t (omega arith)))
      ]
    where
      go : Case ab ac bc two m t → stretched m g (face_answer x y z m (squeezed g t)) ≡ triangle_answer ab ac bc m t
      go (around {w = w} k d l p) =
          let u : squeezed g t ≡ kth x y z w m k = squeezed_to t (kth x y z w m k) (kth_back k d l ∙ sym p) in
          ap (λ (t : ℕ). stretched m g (face_answer x y z m t)) u ∙ corner_back k d l ∙ ap (triangle_answer ab ac bc m) (sym p)
      go (alone q p) = absurd (o p)

  pub join_gap : triangle_answer ab ac bc m g ≡ unjoined_by left
  join_gap = told_gap ab ac bc two (less ab ac bc two).edge refl

-- the same as the code meets it
module _ (ab ac bc m : ℕ) (L : LessenedAt ab ac bc m) where
  rule-two : rule_two ab ac bc ≡ true
  unfolding lessened_edge
  rule-two = go (rule_two ab ac bc) refl L.is
    where
      go : (b : Bool) → rule_two ab ac bc ≡ b → m ≡ pick b (largest_edge ab ac bc) 3 → rule_two ab ac bc ≡ true
      go true r p = r
      go false r p = absurd (omega (arith, L.edge))

  is_largest : m ≡ largest_edge ab ac bc
  is_largest = L.is ∙ lessened_largest ab ac bc (two_is ab ac bc rule-two)

  lessened_by : (e : ℕ) → count_on ab ac bc e - one (eqb e m) ≡ lessened ab ac bc e
  unfolding lessened
  lessened_by e = rw (rule-two, is_largest)

  pub some_at : (e : ℕ) → e ≡ m → 0 < count_on ab ac bc e
  some_at e q = rw (q, is_largest) (omega (arith, (less ab ac bc rule-two).at))

  module _ (x y z g : ℕ) (a : x ≡ ab - one (eqb 0 m)) (b : y ≡ ac - one (eqb 1 m)) (c : z ≡ bc - one (eqb 2 m)) (q : g ≡ corner_count_at x y z (lower m) m) where
    x_is : x ≡ lessened ab ac bc 0
    unfolding count_on
    x_is = a ∙ lessened_by 0

    y_is : y ≡ lessened ab ac bc 1
    unfolding count_on
    y_is = b ∙ lessened_by 1

    z_is : z ≡ lessened ab ac bc 2
    unfolding count_on
    z_is = c ∙ lessened_by 2

    g_is : g ≡ flat_corner_at ab ac bc (lower (largest_edge ab ac bc)) (largest_edge ab ac bc)
    unfolding flat_corner_at
    g_is = q ∙ rw (x_is, y_is, z_is, is_largest)

    pub else_join : (e t : ℕ) → e ≢ m → stretched m g (face_answer x y z e t) ≡ triangle_answer ab ac bc e t
    else_join e t o = rw (x_is, y_is, z_is, g_is, is_largest) (join_else ab ac bc rule-two e t (λ r. o (r ∙ sym is_largest)))

    pub at_join : (e t : ℕ) → e ≡ m → t ≢ g → stretched m g (face_answer x y z e (squeezed g t)) ≡ triangle_answer ab ac bc e t
    at_join e t r o = rw (r, x_is, y_is, z_is, g_is, is_largest) (join-at ab ac bc rule-two t (λ r. o (r ∙ sym g_is)))

    pub gap_join : (e t : ℕ) → e ≡ m → t ≡ g → unjoined_by left ≡ triangle_answer ab ac bc e t
    gap_join e t r o = rw (r, o, g_is, is_largest) (sym (join_gap ab ac bc rule-two))

-- the index of an answer is below a count
low_edge : (x y z : ℕ) → x < 65536 → y < 65536 → z < 65536 → {e : ℕ} → Edge e → count_on x y z e < 65536
unfolding count_on
low_edge x y z a b c on_ab = a
low_edge x y z a b c on_ac = b
low_edge x y z a b c on_bc = c

pub index_low : (x y z e t : ℕ) → x < 65536 → y < 65536 → z < 65536 → get_or (face_answer x y z e t) 2 0 < 65536
index_low x y z e t a b c =
    elim (dec_lt t (count_on x y z e)) [
      | yes h ↦ elim (joined_or x y z e t h) [
        | inl j ↦
            let l : j.1 < 65536 = omega (arith, partner_there x y z e t j.0 j.1 j.2, low_count j.0) in
            elim ((reason_laws x y z).how e t j.0 j.1 j.2) [ inl q ↦ rw q.1 l | inr q ↦ rw q l ]
        | inr u ↦ elim ((reason_laws x y z).why e t u) [ inl q ↦ rw q (omega arith) | inr q ↦ rw q (omega arith) ]
      ]
      | no h ↦ rw (answer_off x y z e t (omega arith)) (omega arith)
    ]
  where
    low_count : (e : ℕ) → count_on x y z e < 65536
    low_count e = elim (dec_lt e 3) [
      | yes h ↦ low_edge x y z a b c (edge-of e h)
      | no h ↦ omega (arith, no_edge x y z e (omega arith))
    ]

pub less_else : (x : ℕ) {e m : ℕ} → e ≢ m → x ≡ x - one (eqb e m)
less_else x {e} {m} q = rw (ne_eqb e m q) (omega arith)

pub lessened_few : (ab ac bc : ℕ) {m : ℕ} → m ≡ lessened_edge ab ac bc → m ≢ 3 → m < 3
unfolding lessened_edge
lessened_few ab ac bc {m} q h = go (rule_two ab ac bc) refl q
  where
    go : (b : Bool) → rule_two ab ac bc ≡ b → m ≡ pick b (largest_edge ab ac bc) 3 → m < 3
    go true r p = omega (arith, edge_lt (less ab ac bc r).edge)
    go false r p = absurd (h p)

-- the counts as the corner counts take them, in every rule
module _ (ab ac bc : ℕ) {m : ℕ} (q : m ≡ lessened_edge ab ac bc) where
  pub some_less : (e : ℕ) → e < 3 → e ≡ m → 0 < count_on ab ac bc e
  some_less e h r =
      elim (ℕ_discrete m 3) [
        | yes z ↦ absurd (omega arith)
        | no z ↦ some_at ab ac bc m (record { is = q; edge = lessened_few ab ac bc q z }) e r
      ]

  less_by : (e : ℕ) → e < 3 → count_on ab ac bc e - one (eqb e m) ≡ lessened ab ac bc e
  unfolding lessened_edge lessened
  less_by e h = go (rule_two ab ac bc) refl q
    where
      go : (b : Bool) → rule_two ab ac bc ≡ b → m ≡ pick b (largest_edge ab ac bc) 3
          → count_on ab ac bc e - one (eqb e m) ≡ count_on ab ac bc e - one (rule_two ab ac bc && eqb e (largest_edge ab ac bc))
      go true r p = rw (r, p)
      go false r p = rw (r, p, ne_eqb e 3 (λ z. omega arith))

  pub corners_less : {x y z : ℕ} {l : List ℕ} → x ≡ ab - one (eqb 0 m) → y ≡ ac - one (eqb 1 m) → z ≡ bc - one (eqb 2 m) → l ≡ corners x y z
      → l ≡ corners (lessened ab ac bc 0) (lessened ab ac bc 1) (lessened ab ac bc 2)
  unfolding count_on
  corners_less {x} {y} {z} a b c r =
      let p : x ≡ lessened ab ac bc 0 = a ∙ less_by 0 (omega arith) in
      let s : y ≡ lessened ab ac bc 1 = b ∙ less_by 1 (omega arith) in
      let t : z ≡ lessened ab ac bc 2 = c ∙ less_by 2 (omega arith) in
      r ∙ rw (p, s, t)
