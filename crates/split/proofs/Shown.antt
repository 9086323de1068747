-- A piece split in five is refined by its parts.
use Prim.Native.Nat.{ℕ, zero, suc, ◌+◌, ◌-◌, ◌<◌, min}
use mathlib.Core.Path.{◌≡◌, refl, sym, ap, ap₂, ◌∙◌, subst}
use mathlib.Core.Logic.{◌⊎◌, inl, inr, ◌≢◌, ⊎_elim}
use native.Mathlib.Omega.{arith}
use native.Mathlib.Decide.{ℕ_discrete}
use Rattle.slots.specs.Slots.{lo, hi, slot_edge}
use Rattle.slots.proofs.Slots.{slot-edge, two_slots}
use Rattle.walk.specs.Darts.{half}
use Rattle.manifold.specs.claims.Piece.{Local, Piece, slot_of, lower_of, segment_of}
use Rattle.manifold.specs.claims.Complex.{Joins, SameEnds, Whole, Shares}
use Rattle.split.specs.claims.Family.{HasSegment, Meets, PiecesLinked, Outer, Covered, Refines}
use Rattle.split.specs.work.Shown.{Facet, num, Segment, OnFace, DartAlong, Any, Split, InnerFace, InnerPoint, five, Order}
use Rattle.split.proofs.Facets.{same_name, same_lower, seg_on, two_ends, some, meet, alike}
use Rattle.split.proofs.Sits.{Sits, sits_at, not_three, another, end_not, meets_at}

module _ (A own : Local) (sub : ℕ → Local) (Φ Ψ : ℕ → Facet) (arm long : ℕ → ℕ) (Went Stays : ℕ → Type 0) (om : ℕ → ℕ)
    (Z : Split A own sub Φ Ψ arm long Went Stays) (O : Order om) where
  abbrev B : ℕ → Local
  B = five own sub om

  slot_lt : (d : ℕ) → Joins A d → slot_of A d < 4
  slot_lt d j = subst (λ n. slot_of A d < n) Z.slots (Z.piece.slot d j.lt)

  own_slot : (d : ℕ) → Joins own d → slot_of own d < 4
  own_slot d j = subst (λ n. slot_of own d < n) Z.own_slots (Z.own-piece.slot d j.lt)

  sub_slot : (M : ℕ) → M < 4 → (d : ℕ) → Joins (sub M) d → slot_of (sub M) d < 4
  sub_slot M l_m d j = subst (λ n. slot_of (sub M) d < n) (Z.sub_slots M l_m) ((Z.sub-piece M l_m).slot d j.lt)

  -- a segment of an outer face, shown by P, is one of A's
  outer_of : (s : ℕ) → s < 4 → (P : Local) (e j t j' t' : ℕ) → P.name (slot_of P e) ≡ (Φ s).name → DartAlong (Φ s) P e j t j' t' → Outer A P e
  outer_of s ls P e j t j' t' named a =
      let (d, sd, b) = (Z.shows s ls).from j t j' t' tt a.segment in
      record {
        d = d;
        on = b.on;
        is = alike (Φ s) P e A d j t j' t' named (ap A.name sd ∙ (Z.shows s ls).named) a b;
        ends = inl (a.from_is ∙ sym b.from_is, a.to_is ∙ sym b.to_is);
      }

  own_outer : (e : ℕ) → Joins own e → Outer A own e
  own_outer e on =
      let s = slot_of own e in
      let ls = own_slot e on in
      let (j, t, j', t', w, a) = (Z.own_shows (slot_of own e) ls).to e on refl in
      outer_of s ls own e j t j' t' (Z.own_shows (slot_of own e) ls).named a

  rest_outer : (M : ℕ) → M < 4 → (e : ℕ) → Joins (sub M) e → slot_of (sub M) e ≡ 0 → Outer A (sub M) e
  rest_outer M l_m e on z =
      let (j, t, j', t', w, a) = (Z.rest_shows M l_m).to e on z in
      outer_of M l_m (sub M) e j t j' t' (ap (sub M).name z ∙ (Z.rest_shows M l_m).named) a

  -- a segment of A that P has too, of the crossings T: so the ends are T
  keep : (s : ℕ) → s < 4 → (T : ℕ → Type 0) → ((j t j' t' : ℕ) → Segment (Φ s) j t j' t' → T (num (Φ s) j t) → T (num (Φ s) j' t'))
      → (P : Local) (e d : ℕ) → ((j : ℕ) × (t : ℕ) × (j' : ℕ) × (t' : ℕ) × T (num (Φ s) j t) × DartAlong (Φ s) P e j t j' t') → Joins A d → slot_of A d ≡ s
      → lower_of P e ≡ lower_of A d → T (A.number (half d))
  keep s ls T next P e d (j, t, j', t', w, a) on sd low = last ((Z.shows s ls).to d on sd)
    where
      last : ((u : ℕ) × (v : ℕ) × (u' : ℕ) × (v' : ℕ) × Any (num (Φ s) u v) × DartAlong (Φ s) A d u v u' v') → T (A.number (half d))
      last (u, v, u', v', z, b) =
          go (two_ends (Φ s) (Z.outer s ls) j t j' t' u v u' v' a.segment b.segment (sym (ap₂ min a.from_is a.to_is) ∙ low ∙ ap₂ min b.from_is b.to_is))
        where
          go : ((num (Φ s) j t ≡ num (Φ s) u v) × (num (Φ s) j' t' ≡ num (Φ s) u' v')) ⊎ ((num (Φ s) j t ≡ num (Φ s) u' v') × (num (Φ s) j' t' ≡ num (Φ s) u v))
              → T (A.number (half d))
          go (inl (x, y)) = subst T (x ∙ sym b.from_is) w
          go (inr (x, y)) = subst T (y ∙ sym b.from_is) (next j t j' t' a.segment w)

  own_went : (d : ℕ) → Joins A d → HasSegment own (segment_of A d) → Went (A.number (half d))
  own_went d on r =
      let ls = slot_lt d on in
      let lr = own_slot r.d r.on in
      let e : slot_of own r.d ≡ slot_of A d =
      Z.outer_names (slot_of own r.d) (slot_of A d) lr ls (sym (Z.own_shows (slot_of own r.d) lr).named ∙ same_name own r.d A d r.is ∙ (Z.shows (slot_of A d) ls).named) in
      keep (slot_of A d) ls Went (λ j t j' t'. Z.went_on (slot_of A d) j t j' t' ls) own r.d d ((Z.own_shows (slot_of A d) ls).to r.d r.on e) on refl (same_lower own r.d A d r.is)

  -- what a slot of a sub-cell is: the outer face, or an inner one
  slot_is : (M : ℕ) → M < 4 → (d : ℕ) → Joins (sub M) d → (slot_of (sub M) d ≡ 0) ⊎ ((i : ℕ) × (i < 3) × (slot_of (sub M) d ≡ 3 - i))
  slot_is M l_m d on =
      let l = sub_slot M l_m d on in
      elim (ℕ_discrete (slot_of (sub M) d) 0) [
        | yes z ↦ inl z
        | no z ↦ inr (3 - slot_of (sub M) d, omega arith, omega arith)
      ]

  rest_name : (M : ℕ) → M < 4 → (d : ℕ) → slot_of (sub M) d ≡ 0 → (sub M).name (slot_of (sub M) d) ≡ (Φ M).name
  rest_name M l_m d z = ap (sub M).name z ∙ (Z.rest_shows M l_m).named

  inner-name : (M i : ℕ) → M < 4 → i < 3 → (d : ℕ) → slot_of (sub M) d ≡ 3 - i → (sub M).name (slot_of (sub M) d) ≡ (Ψ (slot_edge M i)).name
  inner-name M i l_m li d z = ap (sub M).name z ∙ (Z.inner_shows M i l_m li).named

  sub_stays : (M : ℕ) → M < 4 → (d : ℕ) → Joins A d → HasSegment (sub M) (segment_of A d) → (M ≡ slot_of A d) × Stays (A.number (half d))
  sub_stays M l_m d on r = go (slot_is M l_m r.d r.on)
    where
      named : (sub M).name (slot_of (sub M) r.d) ≡ (Φ (slot_of A d)).name
      named = same_name (sub M) r.d A d r.is ∙ (Z.shows (slot_of A d) (slot_lt d on)).named

      go : (slot_of (sub M) r.d ≡ 0) ⊎ ((i : ℕ) × (i < 3) × (slot_of (sub M) r.d ≡ 3 - i)) → (M ≡ slot_of A d) × Stays (A.number (half d))
      go (inl z) =
          let e : M ≡ slot_of A d = Z.outer_names M (slot_of A d) l_m (slot_lt d on) (sym (rest_name M l_m r.d z) ∙ named) in
          (e, keep M l_m Stays (λ j t j' t'. Z.stays_on M j t j' t' l_m) (sub M) r.d d ((Z.rest_shows M l_m).to r.d r.on z) on (sym e) (same_lower (sub M) r.d A d r.is))
      go (inr (i, li, z)) =
          absurd (Z.apart_names (slot_of A d) (slot_edge M i) (slot_lt d on) (slot-edge M i l_m li).lt (sym named ∙ inner-name M i l_m li r.d z))

  -- each segment of A is in one part
  cover_at : (q : ℕ) → q < 4 → (d : ℕ) → Joins A d → slot_of A d ≡ om q → Covered A 5 B d
  cover_at q lq d on sd = go ((Z.shows (om q) (O.lt q lq)).to d on sd)
    where
      M : ℕ
      M = om q

      l_m : om q < 4
      l_m = O.lt q lq

      named : A.name (slot_of A d) ≡ (Φ (om q)).name
      named = ap A.name sd ∙ (Z.shows (om q) l_m).named

      go : ((j : ℕ) × (t : ℕ) × (j' : ℕ) × (t' : ℕ) × Any (num (Φ (om q)) j t) × DartAlong (Φ (om q)) A d j t j' t') → Covered A 5 B d
      go (j, t, j', t', z, a) = part (Z.either (om q) j t l_m (seg_on (Φ (om q)) j t j' t' a.segment))
        where
          part : Went (num (Φ (om q)) j t) ⊎ Stays (num (Φ (om q)) j t) → Covered A 5 B d
          part (inl w) =
              let (e, se, b) = (Z.own_shows (om q) l_m).from j t j' t' w a.segment in
              record {
                j = 0;
                j_lt = omega arith;
                e = e;
                on = b.on;
                is = alike (Φ (om q)) own e A d j t j' t' (ap own.name se ∙ (Z.own_shows (om q) l_m).named) named b a;
                point = b.from_is ∙ sym a.from_is;
              }
          part (inr w) =
              let (e, se, b) = (Z.rest_shows (om q) l_m).from j t j' t' w a.segment in
              record {
                j = suc q;
                j_lt = omega arith;
                e = e;
                on = b.on;
                is = alike (Φ (om q)) (sub (om q)) e A d j t j' t' (rest_name (om q) l_m e se) named b a;
                point = b.from_is ∙ sym a.from_is;
              }

  cover : (d : ℕ) → Joins A d → Covered A 5 B d
  cover d on = let (q, lq, e) = O.back (slot_of A d) (slot_lt d on) in cover_at q lq d on (sym e)

  once : (j k d : ℕ) → j < 5 → k < 5 → j ≢ k → Joins A d → HasSegment (B j) (segment_of A d) → HasSegment (B k) (segment_of A d) → ⊥
  once zero zero d lj lk ne on r s = ne refl
  once zero (suc q) d lj lk ne on r s = Z.never (A.number (half d)) (own_went d on r) (sub_stays (om q) (O.lt q (omega arith)) d on s).1
  once (suc q) zero d lj lk ne on r s = Z.never (A.number (half d)) (own_went d on s) (sub_stays (om q) (O.lt q (omega arith)) d on r).1
  once (suc q) (suc p) d lj lk ne on r s =
      ne (ap suc (O.once q p (omega arith) (omega arith) ((sub_stays (om q) (O.lt q (omega arith)) d on r).0 ∙ sym (sub_stays (om p) (O.lt p (omega arith)) d on s).0)))

  -- a dart of the sub-cell M on the inner face over e
  pub record InnerAt (M d e : ℕ) : Type 0 where
    pub i : ℕ
    pub sits : Sits M i e
    pub along : (j : ℕ) × (t : ℕ) × (j' : ℕ) × (t' : ℕ) × Any (num (Ψ e) j t) × DartAlong (Ψ e) (sub M) d j t j' t'

  inner-at : (M : ℕ) → M < 4 → (d e : ℕ) → Joins (sub M) d → e < 6 → (sub M).name (slot_of (sub M) d) ≡ (Ψ e).name → InnerAt M d e
  inner-at M l_m d e on le named = go (slot_is M l_m d on)
    where
      go : (slot_of (sub M) d ≡ 0) ⊎ ((i : ℕ) × (i < 3) × (slot_of (sub M) d ≡ 3 - i)) → InnerAt M d e
      go (inl z) = absurd (Z.apart_names M e l_m le (sym (rest_name M l_m d z) ∙ named))
      go (inr (i, li, z)) =
          let q : slot_edge M i ≡ e = Z.inner_names (slot_edge M i) e (slot-edge M i l_m li).lt le (sym (inner-name M i l_m li d z) ∙ named) in
          record {
            i = i;
            sits = record { M-lt = l_m; i_lt = li; e_lt = le; is = q };
            along = subst (λ e. (j : ℕ) × (t : ℕ) × (j' : ℕ) × (t' : ℕ) × Any (num (Ψ e) j t) × DartAlong (Ψ e) (sub M) d j t j' t') q ((Z.inner_shows M i l_m li).to d on z);
          }

  -- the inner face over e, shown by the sub-cell M
  inner_from : (M i e : ℕ) → Sits M i e → (j t j' t' : ℕ) → Segment (Ψ e) j t j' t' → (d : ℕ) × ((sub M).name (slot_of (sub M) d) ≡ (Ψ e).name) × DartAlong (Ψ e) (sub M) d j t j' t'
  inner_from M i e h j t j' t' =
      subst (λ e. Segment (Ψ e) j t j' t' → (d : ℕ) × ((sub M).name (slot_of (sub M) d) ≡ (Ψ e).name) × DartAlong (Ψ e) (sub M) d j t j' t') h.is
      (λ s. let (d, z, a) = (Z.inner_shows M i h.M-lt h.i_lt).from j t j' t' tt s in (d, inner-name M i h.M-lt h.i_lt d z, a))

  -- the first part has no inner face
  own_not : (d e : ℕ) → Joins own d → e < 6 → own.name (slot_of own d) ≡ (Ψ e).name → ⊥
  own_not d e on le named = Z.apart_names (slot_of own d) e (own_slot d on) le (sym (Z.own_shows (slot_of own d) (own_slot d on)).named ∙ named)

  kind : (k d : ℕ) → k < 5 → Joins (B k) d → Outer A (B k) d ⊎ InnerFace Ψ ((B k).name (slot_of (B k) d))
  kind zero d lk on = inl (own_outer d on)
  kind (suc q) d lk on = go (slot_is (om q) (O.lt q (omega arith)) d on)
    where
      go : (slot_of (sub (om q)) d ≡ 0) ⊎ ((i : ℕ) × (i < 3) × (slot_of (sub (om q)) d ≡ 3 - i)) → Outer A (sub (om q)) d ⊎ InnerFace Ψ ((sub (om q)).name (slot_of (sub (om q)) d))
      go (inl z) = inl (rest_outer (om q) (O.lt q (omega arith)) d on z)
      go (inr (i, li, z)) =
          inr (record { e = slot_edge (om q) i; lt = (slot-edge (om q) i (O.lt q (omega arith)) li).lt; is = inner-name (om q) i (O.lt q (omega arith)) li d z })

  -- a part with a segment of the inner face over e is a sub-cell with that edge
  pub record PartAt (k d e : ℕ) : Type 0 where
    pub q : ℕ
    pub lt : q < 4
    pub is : k ≡ suc q
    pub at : InnerAt (om q) d e

  part_at : (k d e : ℕ) → k < 5 → Joins (B k) d → e < 6 → (B k).name (slot_of (B k) d) ≡ (Ψ e).name → PartAt k d e
  part_at zero d e lk on le named = absurd (own_not d e on le named)
  part_at (suc q) d e lk on le named = record { q = q; lt = omega arith; is = refl; at = inner-at (om q) (O.lt q (omega arith)) d e on le named }

  inner_few : (j k l d : ℕ) → j < 5 → k < 5 → l < 5 → Joins (B j) d → InnerFace Ψ ((B j).name (slot_of (B j) d)) → HasSegment (B k) (segment_of (B j) d) → HasSegment (B l) (segment_of (B j) d)
      → j ≢ k → j ≢ l → k ≢ l → ⊥
  inner_few j k l d lj lk ll on f r s x y z =
      let e = f.e in
      let a = part_at j d f.e lj on f.lt f.is in
      let b = part_at k r.d f.e lk r.on f.lt (same_name (B k) r.d (B j) d r.is ∙ f.is) in
      let c = part_at l s.d f.e ll s.on f.lt (same_name (B l) s.d (B j) d s.is ∙ f.is) in
      not_three a.at.sits b.at.sits c.at.sits
      (λ p. x (a.is ∙ ap suc (O.once a.q b.q a.lt b.lt p) ∙ sym b.is))
      (λ p. y (a.is ∙ ap suc (O.once a.q c.q a.lt c.lt p) ∙ sym c.is))
      (λ p. z (b.is ∙ ap suc (O.once b.q c.q b.lt c.lt p) ∙ sym c.is))

  inner_ends : (j k d e : ℕ) → j < 5 → k < 5 → Joins (B j) d → Joins (B k) e → InnerFace Ψ ((B j).name (slot_of (B j) d)) → segment_of (B j) d ≡ segment_of (B k) e → SameEnds (B j) d (B k) e
  inner_ends zero k d e lj lk jd je f q = absurd (own_not d f.e jd f.lt f.is)
  inner_ends (suc p) zero d e lj lk jd je f q = absurd (own_not e f.e je f.lt (sym (same_name (sub (om p)) d own e q) ∙ f.is))
  inner_ends (suc p) (suc r) d e lj lk jd je f q =
      go (inner-at (om p) (O.lt p (omega arith)) d f.e jd f.lt f.is).along
      (inner-at (om r) (O.lt r (omega arith)) e f.e je f.lt (sym (same_name (sub (om p)) d (sub (om r)) e q) ∙ f.is)).along
    where
      go : ((j : ℕ) × (t : ℕ) × (j' : ℕ) × (t' : ℕ) × Any (num (Ψ f.e) j t) × DartAlong (Ψ f.e) (sub (om p)) d j t j' t')
          → ((j : ℕ) × (t : ℕ) × (j' : ℕ) × (t' : ℕ) × Any (num (Ψ f.e) j t) × DartAlong (Ψ f.e) (sub (om r)) e j t j' t') → SameEnds (sub (om p)) d (sub (om r)) e
      go (j, t, j', t', x, a) (u, v, u', v', y, b) =
          meet (Ψ f.e) (Z.inner f.e f.lt) (sub (om p)) d (sub (om r)) e j t j' t' u v u' v' a b (same_lower (sub (om p)) d (sub (om r)) e q)

  inner_paired : (j d : ℕ) → j < 5 → Joins (B j) d → InnerFace Ψ ((B j).name (slot_of (B j) d)) → (k : ℕ) × (k < 5) × (k ≢ j) × HasSegment (B k) (segment_of (B j) d)
  inner_paired zero d lj on f = absurd (own_not d f.e on f.lt f.is)
  inner_paired (suc q) d lj on f = go (inner-at (om q) (O.lt q (omega arith)) d f.e on f.lt f.is)
    where
      go : InnerAt (om q) d f.e → (k : ℕ) × (k < 5) × (k ≢ suc q) × HasSegment (B k) (segment_of (sub (om q)) d)
      go a = next a.along (another a.sits)
        where
          next : ((j : ℕ) × (t : ℕ) × (j' : ℕ) × (t' : ℕ) × Any (num (Ψ f.e) j t) × DartAlong (Ψ f.e) (sub (om q)) d j t j' t')
              → ((N : ℕ) × (N ≢ om q) × (i : ℕ) × Sits N i f.e) → (k : ℕ) × (k < 5) × (k ≢ suc q) × HasSegment (B k) (segment_of (sub (om q)) d)
          next (j, t, j', t', x, b) (N, ne, i, h) = last (O.back N h.M-lt)
            where
              last : ((p : ℕ) × (p < 4) × (om p ≡ N)) → (k : ℕ) × (k < 5) × (k ≢ suc q) × HasSegment (B k) (segment_of (sub (om q)) d)
              last (p, lp, ep) =
                  let (e, named, c) = inner_from (om p) i f.e (subst (λ N. Sits N i f.e) (sym ep) h) j t j' t' b.segment in
                  (suc p, omega arith, (λ z. ne (sym ep ∙ ap om (omega arith))), record { d = e; on = c.on; is = alike (Ψ f.e) (sub (om p)) e (sub (om q)) d j t j' t' named f.is c b })

  -- where a crossing of a sub-cell is
  pub data Spot (M g : ℕ) : Type 0 where
    on-edge : (i v : ℕ) → i < 3 → v < (Ψ (slot_edge M i)).size 2 → g ≡ num (Ψ (slot_edge M i)) 2 v → Spot M g
    on_arm : (a v : ℕ) → a < 4 → a ≢ M → v < long a → g ≡ arm a + v → Spot M g

  arm_spot : (M i g j t : ℕ) → Sits M i (slot_edge M i) → OnFace (Ψ (slot_edge M i)) j t → g ≡ num (Ψ (slot_edge M i)) j t → Spot M g
  arm_spot M i g zero t h o q =
      let e = slot_edge M i in
      let (a, b) = Z.arm_lo (slot_edge M i) h.e_lt in
      on_arm (lo (slot_edge M i)) t (omega (arith, (two_slots (slot_edge M i) h.e_lt).rising, (two_slots (slot_edge M i) h.e_lt).within)) (end_not h).0
      (omega (arith, o.index, b)) (q ∙ ap (λ n. n + t) a)
  arm_spot M i g (suc zero) t h o q =
      let (a, b) = Z.arm_hi (slot_edge M i) h.e_lt in
      on_arm (hi (slot_edge M i)) t (two_slots (slot_edge M i) h.e_lt).within (end_not h).1 (omega (arith, o.index, b)) (q ∙ ap (λ n. n + t) a)
  arm_spot M i g (suc (suc zero)) t h o q = on-edge i t h.i_lt o.index q
  arm_spot M i g (suc (suc (suc j))) t h o q = absurd (omega (arith, o.edge))

  spot : (M g : ℕ) → M < 4 → Meets (sub M) g → Spot M g
  spot M g l_m m = go (slot_is M l_m m.d m.on)
    where
      go : (slot_of (sub M) m.d ≡ 0) ⊎ ((i : ℕ) × (i < 3) × (slot_of (sub M) m.d ≡ 3 - i)) → Spot M g
      go (inl z) = rest ((Z.rest_shows M l_m).to m.d m.on z)
        where
          rest : ((j : ℕ) × (t : ℕ) × (j' : ℕ) × (t' : ℕ) × Stays (num (Φ M) j t) × DartAlong (Φ M) (sub M) m.d j t j' t') → Spot M g
          rest (j, t, j', t', w, a) =
              let o = seg_on (Φ M) j t j' t' a.segment in
              let (v, lv, q) = Z.up M j t l_m o w in
              on-edge j v o.edge lv (sym m.is ∙ a.from_is ∙ q)
      go (inr (i, li, z)) = face ((Z.inner_shows M i l_m li).to m.d m.on z)
        where
          face : ((j : ℕ) × (t : ℕ) × (j' : ℕ) × (t' : ℕ) × Any (num (Ψ (slot_edge M i)) j t) × DartAlong (Ψ (slot_edge M i)) (sub M) m.d j t j' t') → Spot M g
          face (j, t, j', t', w, a) =
              arm_spot M i g j t (sits_at M i l_m li) (seg_on (Ψ (slot_edge M i)) j t j' t' a.segment) (sym m.is ∙ a.from_is)

  -- a crossing of an outer face is one of A's
  outer_meets : (s j t : ℕ) → s < 4 → OnFace (Φ s) j t → Meets A (num (Φ s) j t)
  outer_meets s j t ls o =
      let (j', t', z) = some (Φ s) (Z.outer s ls) j t o in
      let (d, sd, a) = (Z.shows s ls).from j t j' t' tt z in
      record { d = d; on = a.on; is = a.from_is }

  own_meets : (g : ℕ) → Meets own g → Meets A g × Went g
  own_meets g m = go ((Z.own_shows (slot_of own m.d) (own_slot m.d m.on)).to m.d m.on refl)
    where
      s : ℕ
      s = slot_of own m.d

      go : ((j : ℕ) × (t : ℕ) × (j' : ℕ) × (t' : ℕ) × Went (num (Φ s) j t) × DartAlong (Φ s) own m.d j t j' t') → Meets A g × Went g
      go (j, t, j', t', w, a) =
          let q : num (Φ s) j t ≡ g = sym a.from_is ∙ m.is in
          (subst (Meets A) q (outer_meets s j t (own_slot m.d m.on) (seg_on (Φ s) j t j' t' a.segment)), subst Went q w)

  points : (k g : ℕ) → k < 5 → Meets (B k) g → Meets A g ⊎ InnerPoint arm long g
  points zero g lk m = inl (own_meets g m).0
  points (suc q) g lk m = go (spot (om q) g (O.lt q (omega arith)) m)
    where
      go : Spot (om q) g → Meets A g ⊎ InnerPoint arm long g
      go (on-edge i v li lv p) =
          let (t, o, w, e) = Z.down (om q) i v (O.lt q (omega arith)) li lv in
          inl (subst (Meets A) (e ∙ sym p) (outer_meets (om q) i t (O.lt q (omega arith)) o))
      go (on_arm a v la ne lv p) = inr (record { a = a; v = v; lt = la; v_lt = lv; is = p })

  -- two sub-cells with the edge e share a segment at each crossing of the inner face over it
  share : (M N i k e j t g : ℕ) → Sits M i e → Sits N k e → OnFace (Ψ e) j t → g ≡ num (Ψ e) j t → Shares (sub M) (sub N) g
  share M N i k e j t g h l o q = go (some (Ψ e) (Z.inner e h.e_lt) j t o)
    where
      go : ((j' : ℕ) × (t' : ℕ) × Segment (Ψ e) j t j' t') → Shares (sub M) (sub N) g
      go (j', t', s) =
          let (d, p, a) = inner_from M i e h j t j' t' s in
          let (f, r, b) = inner_from N k e l j t j' t' s in
          record { d = d; e = f; d_on = a.on; e_on = b.on; at_d = a.from_is ∙ sym q; at_e = b.from_is ∙ sym q; same = alike (Ψ e) (sub M) d (sub N) f j t j' t' p r a b }

  sub_stays_at : (M g : ℕ) → M < 4 → Meets (sub M) g → Went g → ⊥
  sub_stays_at M g l_m m w = go (spot M g l_m m)
    where
      go : Spot M g → ⊥
      go (on-edge i v li lv p) = let (t, o, s, e) = Z.down M i v l_m li lv in Z.never g w (subst Stays (e ∙ sym p) s)
      go (on_arm a v la ne lv p) = Z.arm_went a v la lv (subst Went p w)

  -- two sub-cells at a crossing share a segment there
  meet_at : (M N g : ℕ) → M < 4 → N < 4 → M ≢ N → Meets (sub M) g → Meets (sub N) g → Shares (sub M) (sub N) g
  meet_at M N g l_m lN ne m n = go (spot M g l_m m) (spot N g lN n)
    where
      go : Spot M g → Spot N g → Shares (sub M) (sub N) g
      go (on-edge i v li lv p) (on-edge k w lk lw q) =
          let (x, y) = Z.edge_once (slot_edge M i) (slot_edge N k) v w (slot-edge M i l_m li).lt (slot-edge N k lN lk).lt lv lw (sym p ∙ q) in
          share M N i k (slot_edge M i) 2 v g (sits_at M i l_m li) (record { M-lt = lN; i_lt = lk; e_lt = (slot-edge M i l_m li).lt; is = sym x }) (record { edge = omega arith; index = lv }) p
      go (on-edge i v li lv p) (on_arm a w la na lw q) = absurd (Z.arm_edge a (slot_edge M i) w v la (slot-edge M i l_m li).lt lw lv (sym q ∙ p))
      go (on_arm a v la na lv p) (on-edge k w lk lw q) = absurd (Z.arm_edge a (slot_edge N k) v w la (slot-edge N k lN lk).lt lv lw (sym p ∙ q))
      go (on_arm a v la na lv p) (on_arm b w lb nb lw q) =
          let (x, y) = Z.arm_once a b v w la lb lv lw (sym p ∙ q) in
          at_arm a v (λ r. nb (sym x ∙ r)) la na lv p
        where
          at_arm : (a v : ℕ) → a ≢ N → a < 4 → a ≢ M → v < long a → g ≡ arm a + v → Shares (sub M) (sub N) g
          at_arm a v an la am lv p = end (meets_at M N l_m lN ne)
            where
              end : ((e : ℕ) × (i : ℕ) × (k : ℕ) × Sits M i e × Sits N k e × ((a : ℕ) → a < 4 → a ≢ M → a ≢ N → (lo e ≡ a) ⊎ (hi e ≡ a))) → Shares (sub M) (sub N) g
              end (e, i, k, h, l, at) =
                  ⊎_elim
                  (λ (z : lo e ≡ a).
                  let (s, c) = Z.arm_lo e h.e_lt in
                  share M N i k e 0 v g h l (record { edge = omega arith; index = omega (arith, lv, c, ap long z) }) (p ∙ ap (λ n. n + v) (ap arm (sym z) ∙ sym s)))
                  (λ (z : hi e ≡ a).
                  let (s, c) = Z.arm_hi e h.e_lt in
                  share M N i k e 1 v g h l (record { edge = omega arith; index = omega (arith, lv, c, ap long z) }) (p ∙ ap (λ n. n + v) (ap arm (sym z) ∙ sym s)))
                  (at a la am an)

  linked : (g : ℕ) → PiecesLinked (record { size = 5; at = B }) g
  linked g Q pass zero zero la lb m n q = q
  linked g Q pass zero (suc r) la lb m n q = absurd (sub_stays_at (om r) g (O.lt r (omega arith)) n (own_meets g m).1)
  linked g Q pass (suc r) zero la lb m n q = absurd (sub_stays_at (om r) g (O.lt r (omega arith)) m (own_meets g n).1)
  linked g Q pass (suc p) (suc r) la lb m n q =
      elim (ℕ_discrete p r) [
        | yes e ↦ subst (λ r. Q (suc r)) e q
        | no e ↦ pass (suc p) (suc r) la lb
            (meet_at (om p) (om r) g (O.lt p (omega arith)) (O.lt r (omega arith)) (λ z. e (O.once p r (omega arith) (omega arith) z)) m n) q
      ]

  piece : (k : ℕ) → k < 5 → Piece (B k)
  piece zero l = Z.own-piece
  piece (suc q) l = Z.sub-piece (om q) (O.lt q (omega arith))

  whole : Whole A → (k : ℕ) → k < 5 → Whole (B k)
  whole w zero l = Z.own_whole
  whole w (suc q) l = Z.sub_whole (om q) (O.lt q (omega arith))

  pub split_refines : Refines A 5 B (InnerFace Ψ) (InnerPoint arm long)
  split_refines = record {
    piece = piece;
    whole = whole;
    cover = cover;
    once = once;
    kind = kind;
    inner_few = inner_few;
    inner_ends = inner_ends;
    inner_paired = inner_paired;
    points = points;
    linked = linked;
  }
