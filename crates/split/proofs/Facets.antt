-- The segments of a face of rule 1 whose crossings have numbers, and the darts of pieces along them.
use Prim.Native.Nat.{ℕ, zero, suc, ◌+◌, ◌<◌, min}
use mathlib.Core.Path.{◌≡◌, refl, sym, ap, ap₂, ◌∙◌, subst}
use mathlib.Core.Logic.{◌⊎◌, inl, inr}
use native.Mathlib.Omega.{arith}
use native.Mathlib.Decide.{dec_lt}
use Rattle.face.specs.Face.{count_on, face_join}
use Rattle.face.specs.claims.Ends.{Edge, on_ab, on_ac, on_bc}
use Rattle.face.proofs.Claims.{face_laws}
use Rattle.face.proofs.Ends.{edge_with}
use Rattle.face.proofs.Answers.{joined_same}
use Rattle.face.proofs.Level.{level_laws}
use Rattle.manifold.specs.Triangle.{Side, seg, inner}
use Rattle.manifold.specs.claims.Piece.{Local, slot_of, lower_of, segment_of}
use Rattle.manifold.specs.claims.Complex.{SameEnds}
use Rattle.split.specs.work.Shown.{Facet, num, Segment, OnFace, Plain, DartAlong, Shows}
use Rattle.split.proofs.Family.{face_of}

low_of : Side → ℕ
low_of (seg f l) = l
low_of (inner c p k) = 0

-- darts of one segment: their faces have one name, and the lower numbers are one
pub same_name : (A : Local) (d : ℕ) (B : Local) (e : ℕ) → segment_of A d ≡ segment_of B e → A.name (slot_of A d) ≡ B.name (slot_of B e)
unfolding face_of
same_name A d B e q = ap face_of q

pub same_lower : (A : Local) (d : ℕ) (B : Local) (e : ℕ) → segment_of A d ≡ segment_of B e → lower_of A d ≡ lower_of B e
unfolding low_of
same_lower A d B e q = ap low_of q

module _ (Φ : Facet) where
  count_size : {j : ℕ} → Edge j → (j < 3) × (count_on (Φ.size 0) (Φ.size 1) (Φ.size 2) j ≡ Φ.size j)
  unfolding count_on
  count_size on_ab = (omega arith, refl)
  count_size on_ac = (omega arith, refl)
  count_size on_bc = (omega arith, refl)

  -- the ends of a segment are crossings of the face
  pub seg_on : (j t j' t' : ℕ) → Segment Φ j t j' t' → OnFace Φ j t
  seg_on j t j' t' s =
      let h = ((face_laws (Φ.size 0) (Φ.size 1) (Φ.size 2)).there j t j' t' s).0 in
      let (l, c) = count_size (edge_with (Φ.size 0) (Φ.size 1) (Φ.size 2) j t h) in
      record { edge = l; index = omega (arith, h, c) }

  pub turned : (j t j' t' : ℕ) → Segment Φ j t j' t' → Segment Φ j' t' j t
  turned j t j' t' s = (face_laws (Φ.size 0) (Φ.size 1) (Φ.size 2)).back j t j' t' s

  module _ (P : Plain Φ) where
    -- a crossing has one partner
    partner : (j t j' t' u v u' v' : ℕ) → Segment Φ j t j' t' → Segment Φ u v u' v' → num Φ j t ≡ num Φ u v → num Φ j' t' ≡ num Φ u' v'
    partner j t j' t' u v u' v' s z e =
        let (p, q) = P.once j t u v (seg_on j t j' t' s) (seg_on u v u' v' z) e in
        let (x, y) = joined_same (sym s ∙ ap₂ (face_join (Φ.size 0) (Φ.size 1) (Φ.size 2)) p q ∙ z) in
        ap₂ (num Φ) x y

    -- the lower number tells both ends
    pub two_ends : (j t j' t' u v u' v' : ℕ) → Segment Φ j t j' t' → Segment Φ u v u' v' → min (num Φ j t) (num Φ j' t') ≡ min (num Φ u v) (num Φ u' v')
        → ((num Φ j t ≡ num Φ u v) × (num Φ j' t' ≡ num Φ u' v')) ⊎ ((num Φ j t ≡ num Φ u' v') × (num Φ j' t' ≡ num Φ u v))
    two_ends j t j' t' u v u' v' s z e =
        elim (dec_lt (num Φ j' t') (num Φ j t)) [
          | yes h ↦ elim (dec_lt (num Φ u' v') (num Φ u v)) [
            | yes k ↦ let q : num Φ j' t' ≡ num Φ u' v' = omega arith in
                inl (partner j' t' j t u' v' u v (turned j t j' t' s) (turned u v u' v' z) q, q)
            | no k ↦ let q : num Φ j' t' ≡ num Φ u v = omega arith in
                inr (partner j' t' j t u v u' v' (turned j t j' t' s) z q, q)
          ]
          | no h ↦ elim (dec_lt (num Φ u' v') (num Φ u v)) [
            | yes k ↦ let q : num Φ j t ≡ num Φ u' v' = omega arith in
                inr (q, partner j t j' t' u' v' u v s (turned u v u' v' z) q)
            | no k ↦ let q : num Φ j t ≡ num Φ u v = omega arith in
                inl (q, partner j t j' t' u v u' v' s z q)
          ]
        ]

    -- every crossing has a segment
    pub some : (j t : ℕ) → OnFace Φ j t → (j' : ℕ) × (t' : ℕ) × Segment Φ j t j' t'
    some j t o = (level_laws P.level).joined j t (omega (arith, o.index, count_is j o.edge))
      where
        count_is : (j : ℕ) → j < 3 → count_on (Φ.size 0) (Φ.size 1) (Φ.size 2) j ≡ Φ.size j
        count_is zero h = (count_size on_ab).1
        count_is (suc zero) h = (count_size on_ac).1
        count_is (suc (suc zero)) h = (count_size on_bc).1
        count_is (suc (suc (suc j))) h = absurd (omega arith)

    -- two darts along segments of one face, with one lower number
    pub meet : (A : Local) (d : ℕ) (B : Local) (e : ℕ) (j t j' t' u v u' v' : ℕ) → DartAlong Φ A d j t j' t' → DartAlong Φ B e u v u' v' → lower_of A d ≡ lower_of B e → SameEnds A d B e
    meet A d B e j t j' t' u v u' v' a b q =
        go (two_ends j t j' t' u v u' v' a.segment b.segment (sym (ap₂ min a.from_is a.to_is) ∙ q ∙ ap₂ min b.from_is b.to_is))
      where
        go : ((num Φ j t ≡ num Φ u v) × (num Φ j' t' ≡ num Φ u' v')) ⊎ ((num Φ j t ≡ num Φ u' v') × (num Φ j' t' ≡ num Φ u v)) → SameEnds A d B e
        go (inl (x, y)) = inl (a.from_is ∙ x ∙ sym b.from_is, a.to_is ∙ y ∙ sym b.to_is)
        go (inr (x, y)) = inr (a.from_is ∙ x ∙ sym b.to_is, a.to_is ∙ y ∙ sym b.from_is)

  -- two darts along one segment
  pub alike : (A : Local) (d : ℕ) (B : Local) (e : ℕ) (j t j' t' : ℕ) → A.name (slot_of A d) ≡ Φ.name → B.name (slot_of B e) ≡ Φ.name → DartAlong Φ A d j t j' t' → DartAlong Φ B e j t j' t'
      → segment_of A d ≡ segment_of B e
  alike A d B e j t j' t' p q a b = ap₂ seg (p ∙ sym q) (ap₂ min (a.from_is ∙ sym b.from_is) (a.to_is ∙ sym b.to_is))

-- a face shown by a slot is shown as another with the same numbers
pub shows_same : (Φ Ψ : Facet) (A : Local) (s : ℕ) (T : ℕ → Type 0) → ((j : ℕ) → j < 3 → Φ.size j ≡ Ψ.size j) → ((j : ℕ) → j < 3 → Φ.start j ≡ Ψ.start j) → Φ.name ≡ Ψ.name
    → Shows Φ A s T → Shows Ψ A s T
shows_same Φ Ψ A s T sizes starts named S = record {
  named = S.named ∙ named;
  to = λ d on e. let (j, t, j', t', x, a) = S.to d on e in (j, t, j', t', subst T (same j t j' t' a.segment) x, along d j t j' t' a);
  from = λ j t j' t' x z.
      let q = segment_back j t j' t' z in
      let (d, e, a) = S.from j t j' t' (subst T (sym (same j t j' t' q)) x) q in
      (d, e, along d j t j' t' a);
}
  where
    segment_on : (j t j' t' : ℕ) → Segment Φ j t j' t' → Segment Ψ j t j' t'
    segment_on j t j' t' z = rw (sym (sizes 0 (omega arith)), sym (sizes 1 (omega arith)), sym (sizes 2 (omega arith))) z

    segment_back : (j t j' t' : ℕ) → Segment Ψ j t j' t' → Segment Φ j t j' t'
    segment_back j t j' t' z = rw (sizes 0 (omega arith), sizes 1 (omega arith), sizes 2 (omega arith)) z

    same : (j t j' t' : ℕ) → Segment Φ j t j' t' → num Φ j t ≡ num Ψ j t
    same j t j' t' z = ap (λ n. n + t) (starts j (seg_on Φ j t j' t' z).edge)

    along : (d j t j' t' : ℕ) → DartAlong Φ A d j t j' t' → DartAlong Ψ A d j t j' t'
    along d j t j' t' a = record {
      on = a.on;
      segment = segment_on j t j' t' a.segment;
      from_is = a.from_is ∙ same j t j' t' a.segment;
      to_is = a.to_is ∙ same j' t' j t (turned Φ j t j' t' a.segment);
    }
