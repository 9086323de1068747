-- Rule 1 with corner segments taken off joins what it joins without, less those segments.
use Prim.Native.Nat.{ℕ, ◌+◌, ◌-◌, ◌%◌, ◌<◌, ◌≤◌}
use mathlib.Core.Path.{◌≡◌, refl, sym, ap, ap₂, ◌∙◌, subst}
use native.Mathlib.Omega.{arith}
use lib.ListN.{get_or}
use Rattle.face.specs.Face.{joined, other, opposite, corner_count, count_on, kth, corner_count_at, face_join}
use Rattle.slots.specs.Slots.{lower, upper}
use Rattle.face.specs.work.Corners.{corners}
use Rattle.face.specs.claims.Ends.{Edge, on_ab, on_ac, on_bc, End, low, high}
use Rattle.face.specs.Rim.{Segment}
use Rattle.face.specs.claims.Level.{Level, less, Remains, ShiftLaws}
use Rattle.face.specs.work.Ends.{Off}
use Rattle.face.proofs.Corner.{corner_swap}
use Rattle.face.proofs.Gaps.{kth_lower, kth_upper, corner_node, corner_fits}
use Rattle.face.proofs.Answers.{joined_same}
use Rattle.face.proofs.Ends.{edge_with, on, end_other}
use Rattle.face.proofs.Links.{Link, about, up, down, link, at_corner}
use Rattle.face.proofs.Laws.{partner_there}
use Rattle.face.proofs.Level.{level_turn, level_swap, level_corner, level_full, level_laws}

-- three counts; p', q', o' are what remains of them where u, v, z are taken off at their corners
module _ {p q o : ℕ} (L : Level p q o) (u v z : ℕ) (hu : u ≤ corner_count p q o) (hv : v ≤ corner_count p o q) (hz : z ≤ corner_count q o p) where
  module _ (p' q' o' : ℕ) (a : p' + u + v ≡ p) (b : q' + u + z ≡ q) (c : o' + v + z ≡ o) where
    even_left : (p' + q' + o') % 2 ≡ 0
    even_left = omega (arith, L.even)

    left : Level p' q' o'
    left =
        let cu = level_corner L in
        let cv = level_corner (level_turn L) in
        let cz = level_corner (level_turn (level_swap L)) in
        record { even = even_left; first = omega arith; second = omega arith; third = omega arith }

    left_corner : corner_count p' q' o' + u ≡ corner_count p q o
    left_corner = omega (arith, level_corner left, level_corner L)

-- the remaining counts by edge
pub count_less : (ab ac bc : ℕ) (off : ℕ → ℕ) {e : ℕ} → Edge e → count_on (less ab ac bc off 0) (less ab ac bc off 1) (less ab ac bc off 2) e ≡ less ab ac bc off e
unfolding count_on
count_less ab ac bc off on_ab = refl
count_less ab ac bc off on_ac = refl
count_less ab ac bc off on_bc = refl

module _ (ab ac bc : ℕ) (off : ℕ → ℕ) (O : Off ab ac bc off) where
  abbrev l : ℕ → ℕ
  l = less ab ac bc off

  -- what is taken off has room on its edge
  pub less_sum : {e : ℕ} → Edge e → l e + off (lower e) + off (upper e) ≡ count_on ab ac bc e
  unfolding less
  less_sum {e} d = omega (arith, O.few (lower e) e (low d), O.few (upper e) e (high d), level_full O.level d)

  few_a : off 0 ≤ corner_count ab ac bc
  unfolding corner_count_at lower upper other opposite count_on
  few_a = O.few 0 0 (low on_ab)

  few_b : off 1 ≤ corner_count ab bc ac
  unfolding corner_count_at lower upper other opposite count_on
  few_b = O.few 1 0 (high on_ab)

  few_c : off 2 ≤ corner_count ac bc ab
  unfolding corner_count_at lower upper other opposite count_on
  few_c = O.few 2 1 (high on_ac)

  sum_ab : l 0 + off 0 + off 1 ≡ ab
  unfolding lower upper count_on
  sum_ab = less_sum on_ab

  sum_ac : l 1 + off 0 + off 2 ≡ ac
  unfolding lower upper count_on
  sum_ac = less_sum on_ac

  sum_bc : l 2 + off 1 + off 2 ≡ bc
  unfolding lower upper count_on
  sum_bc = less_sum on_bc

  pub level_less : Level (l 0) (l 1) (l 2)
  level_less = left O.level (off 0) (off 1) (off 2) few_a few_b few_c (l 0) (l 1) (l 2) sum_ab sum_ac sum_bc

  at_a : corner_count (l 0) (l 1) (l 2) + off 0 ≡ corner_count ab ac bc
  at_a = left_corner O.level (off 0) (off 1) (off 2) few_a few_b few_c (l 0) (l 1) (l 2) sum_ab sum_ac sum_bc

  at_b : corner_count (l 0) (l 2) (l 1) + off 1 ≡ corner_count ab bc ac
  at_b = left_corner (level_turn O.level) (off 1) (off 0) (off 2) few_b few_a (rw corner_swap few_c) (l 0) (l 2) (l 1) (omega (arith, sum_ab)) (omega (arith, sum_bc)) (omega (arith, sum_ac))

  at_c : corner_count (l 1) (l 2) (l 0) + off 2 ≡ corner_count ac bc ab
  at_c = left_corner (level_turn (level_swap O.level)) (off 2) (off 0) (off 1) few_c (rw corner_swap few_a) (rw corner_swap few_b) (l 1) (l 2) (l 0) (omega (arith, sum_ac)) (omega (arith, sum_bc)) (omega (arith, sum_ab))

  pub corner_less : {w e : ℕ} → End w e → corner_count_at (l 0) (l 1) (l 2) w e + off w ≡ corner_count_at ab ac bc w e
  unfolding lower upper
  corner_less {w} {e} d = rw (corner_node (l 0) (l 1) (l 2) d, corner_node ab ac bc d) (node d)
    where
      node : {w e : ℕ} → End w e → get_or (corners (l 0) (l 1) (l 2)) w 0 + off w
          ≡ get_or (corners ab ac bc) w 0
      node (low on_ab) = at_a
      node (low on_ac) = at_a
      node (low on_bc) = at_b
      node (high on_ab) = at_b
      node (high on_ac) = at_c
      node (high on_bc) = at_c

  -- the k-th from a node among the remaining is the (off w + k)-th among all
  pub kth_less : {w e : ℕ} (k : ℕ) → End w e → k < l e → off (lower e) + kth (l 0) (l 1) (l 2) w e k ≡ kth ab ac bc w e (off w + k)
  kth_less {e = e} k (low d) h = rw (kth_lower (l 0) (l 1) (l 2) e k, kth_lower ab ac bc e (off (lower e) + k))
  kth_less {e = e} k (high d) h =
      rw (kth_upper (l 0) (l 1) (l 2) k d, kth_upper ab ac bc (off (upper e) + k) d, count_less ab ac bc off d) (omega (arith, less_sum d))

  pub kept : (e t e' t' : ℕ) → Segment (l 0) (l 1) (l 2) e t e' t' → Segment ab ac bc e (off (lower e) + t) e' (off (lower e') + t')
  kept e t e' t' j = go (link (l 0) (l 1) (l 2) j)
    where
      go : Link (l 0) (l 1) (l 2) e t e' t' → Segment ab ac bc e (off (lower e) + t) e' (off (lower e') + t')
      go (up d p q) = absurd (omega (arith, d.start, d.stop, level_full level_less d.edge))
      go (down d p q) = absurd (omega (arith, d.start, d.stop, level_full level_less d.edge))
      go (about {w = w} k d h p q r) =
          let f = corner_fits (l 0) (l 1) (l 2) w e in
          let k-e : k < l e = omega (arith, h, f, count_less ab ac bc off (on d)) in
          let k-o : k < l (other w e) = omega (arith, h, f, count_less ab ac bc off (on (end_other d))) in
          let a = at_corner ab ac bc (off w + k) d (omega (arith, h, corner_less d)) in
          let s : off (lower e) + t ≡ kth ab ac bc w e (off w + k) = ap (λ n. off (lower e) + n) p ∙ kth_less k d k-e in
          let u : off (lower e') + t' ≡ kth ab ac bc w (other w e) (off w + k) =
          ap (λ n. off (lower e') + n) r ∙ ap (λ f. off (lower f) + kth (l 0) (l 1) (l 2) w f k) q ∙ kth_less k (end_other d) k-o in
          ap (face_join ab ac bc e) s ∙ a ∙ ap₂ joined (sym q) (sym u)

  -- what is joined over the remaining counts is a remaining crossing
  remaining : (e t : ℕ) → t < count_on (l 0) (l 1) (l 2) e → Remains ab ac bc off e (off (lower e) + t)
  remaining e t h =
      let d = edge_with (l 0) (l 1) (l 2) e t h in
      record { low = omega arith; high = omega (arith, less_sum d, count_less ab ac bc off d, h) }

  pub back : (e t e' t' : ℕ) → Remains ab ac bc off e t → Segment ab ac bc e t e' t'
      → Remains ab ac bc off e' t' × Segment (l 0) (l 1) (l 2) e (t - off (lower e)) e' (t' - off (lower e'))
  back e t e' t' r j = go ((level_laws level_less).joined e (t - off (lower e)) inside)
    where
      d : Edge e
      d = edge_with ab ac bc e t (omega (arith, r.high))

      inside : t - off (lower e) < count_on (l 0) (l 1) (l 2) e
      inside = omega (arith, r.low, r.high, less_sum d, count_less ab ac bc off d)

      is_t : off (lower e) + (t - off (lower e)) ≡ t
      is_t = omega (arith, r.low)

      to : (f u : ℕ) → f ≡ e' → off (lower f) + u ≡ t' → Segment (l 0) (l 1) (l 2) e (t - off (lower e)) f u
          → Remains ab ac bc off e' t' × Segment (l 0) (l 1) (l 2) e (t - off (lower e)) e' (t' - off (lower e'))
      to f u p q i =
          let m = remaining f u (partner_there (l 0) (l 1) (l 2) e (t - off (lower e)) f u i) in
          let v : u ≡ t' - off (lower e') = omega (arith, q, ap (λ n. off (lower n)) p) in
          (subst (λ n. Remains ab ac bc off n t') p (subst (Remains ab ac bc off f) q m), i ∙ ap₂ joined p v)

      go : ((f : ℕ) × (u : ℕ) × Segment (l 0) (l 1) (l 2) e (t - off (lower e)) f u)
          → Remains ab ac bc off e' t' × Segment (l 0) (l 1) (l 2) e (t - off (lower e)) e' (t' - off (lower e'))
      go (f, u, i) =
          let (p, q) = joined_same (sym (kept e (t - off (lower e)) f u i) ∙ (ap (face_join ab ac bc e) is_t ∙ j)) in
          to f u p q i

  pub shift_laws : ShiftLaws ab ac bc off
  shift_laws = record {
    level = level_less;
    corner = λ w e d. corner_less d;
    kept = kept;
    back = back;
    gone = λ w e k d h. at_corner ab ac bc k d (omega (arith, O.few w e d));
  }
