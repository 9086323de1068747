-- Refinements compose: the parts of a piece's parts refine the piece. And a piece refines itself.
use Prim.Native.Nat.{ℕ, ◌+◌, ◌≤◌, ◌<◌}
use mathlib.Core.Path.{◌≡◌, refl, sym, ap, ap₂, ◌∙◌, subst}
use mathlib.Core.Logic.{◌⊎◌, inl, inr, ◌≢◌, ⊎_elim}
use native.Mathlib.Omega.{arith}
use native.Mathlib.Decide.{ℕ_discrete}
use Rattle.counting.specs.Lists.{pre}
use Rattle.counting.specs.Pack.{row, col}
use Rattle.counting.proofs.Pack.{row_lt, col_lt, unpack, row_pack, col_pack, pack_lt}
use Rattle.walk.specs.Darts.{half}
use Rattle.manifold.specs.Triangle.{Side}
use Rattle.manifold.specs.claims.Piece.{Local, Piece, slot_of, mate_of, segment_of}
use Rattle.manifold.specs.claims.Complex.{Joins, SameEnds, Whole, Shares}
use Rattle.manifold.proofs.Piece.{segment_cases}
use Rattle.split.specs.claims.Family.{Family, HasSegment, Meets, Outer, Covered, Refines, Refined}
use Rattle.split.specs.work.Family.{PiecesSound, fine}
use Rattle.split.proofs.Family.{turn_ends, via_ends, face_of, fine_sound, fine_linked, kind}

-- darts of one segment in one piece have the same ends
own_ends : (A : Local) → Piece A → (d e : ℕ) → Joins A d → Joins A e → segment_of A d ≡ segment_of A e → SameEnds A d A e
own_ends A P d e jd je q = go (segment_cases A P d e jd je q)
  where
    go : (slot_of A d ≡ slot_of A e) × ((half d ≡ half e) ⊎ (half d ≡ mate_of A e)) → SameEnds A d A e
    go (f, inl h) = inl (ap A.number h, ap A.number (ap₂ A.mate f h))
    go (f, inr h) = inr (ap A.number h, ap A.number (ap₂ A.mate f h ∙ P.ports.both e je.lt je.joined))

-- the same parts, told in another way
module _ (A : Local) (m : ℕ) (B B' : ℕ → Local) (Face Point : ℕ → Type 0) (same : (j : ℕ) → j < m → B j ≡ B' j) (R : Refines A m B Face Point) where
  back_runs : (j : ℕ) → j < m → (σ : Side) → HasSegment (B' j) σ → HasSegment (B j) σ
  back_runs j l σ r = subst (λ X. HasSegment X σ) (sym (same j l)) r

  back_meets : (j g : ℕ) → j < m → Meets (B' j) g → Meets (B j) g
  back_meets j g l v = subst (λ X. Meets X g) (sym (same j l)) v

  -- a dart of X along the segment of the dart d of A, at the same crossing
  abbrev AlongIt : ℕ → Local → Type 0
  AlongIt d X = (e : ℕ) × Joins X e × (segment_of X e ≡ segment_of A d) × (X.number (half e) ≡ A.number (half d))

  ext_cover : (d : ℕ) → Joins A d → Covered A m B' d
  ext_cover d on =
      let u = R.cover d on in
      let (e, j, q, p) = subst (AlongIt d) (same u.j u.j_lt) (u.e, u.on, u.is, u.point) in
      record { j = u.j; j_lt = u.j_lt; e = e; on = j; is = q; point = p }

  ext_paired : (j e : ℕ) → j < m → Joins (B' j) e → Face ((B' j).name (slot_of (B' j) e)) → (k : ℕ) × (k < m) × (k ≢ j) × HasSegment (B' k) (segment_of (B' j) e)
  ext_paired j e l =
      subst (λ X. Joins X e → Face (X.name (slot_of X e)) → (k : ℕ) × (k < m) × (k ≢ j) × HasSegment (B' k) (segment_of X e)) (same j l)
      (λ on f. let (k, lk, ne, r) = R.inner_paired j e l on f in (k, lk, ne, subst (λ X. HasSegment X (segment_of (B j) e)) (same k lk) r))

  ext_ends : (j k d e : ℕ) → j < m → k < m → Joins (B' j) d → Joins (B' k) e → Face ((B' j).name (slot_of (B' j) d)) → segment_of (B' j) d ≡ segment_of (B' k) e
      → SameEnds (B' j) d (B' k) e
  ext_ends j k d e lj lk =
      subst (λ X. Joins X d → Joins (B' k) e → Face (X.name (slot_of X d)) → segment_of X d ≡ segment_of (B' k) e → SameEnds X d (B' k) e) (same j lj)
      (subst (λ Y. Joins (B j) d → Joins Y e → Face ((B j).name (slot_of (B j) d)) → segment_of (B j) d ≡ segment_of Y e → SameEnds (B j) d Y e) (same k lk)
      (R.inner_ends j k d e lj lk))

  pub refines_ext : Refines A m B' Face Point
  refines_ext = record {
    piece = λ j l. subst Piece (same j l) (R.piece j l);
    whole = λ h j l. subst Whole (same j l) (R.whole h j l);
    cover = ext_cover;
    once = λ j k d lj lk ne on r s. R.once j k d lj lk ne on (back_runs j lj (segment_of A d) r) (back_runs k lk (segment_of A d) s);
    kind = λ j e l. subst (λ X. Joins X e → Outer A X e ⊎ Face (X.name (slot_of X e))) (same j l) (R.kind j e l);
    inner_few = λ j k l e lj lk ll.
        subst (λ X. Joins X e → Face (X.name (slot_of X e)) → HasSegment (B' k) (segment_of X e) → HasSegment (B' l) (segment_of X e) → j ≢ k → j ≢ l → k ≢ l → ⊥) (same j lj)
        (λ on f r s. R.inner_few j k l e lj lk ll on f (back_runs k lk (segment_of (B j) e) r) (back_runs l ll (segment_of (B j) e) s));
    inner_ends = ext_ends;
    inner_paired = ext_paired;
    points = λ j g l v. R.points j g l (back_meets j g l v);
    linked = λ g Q pass a b la lb u v.
        R.linked g Q (λ x y lx ly s. pass x y lx ly (subst (λ X. Shares X (B' y) g) (same x lx) (subst (λ Y. Shares (B x) Y g) (same y ly) s))) a b la lb
        (back_meets a g la u) (back_meets b g lb v);
  }

-- inner faces and crossings by their names and numbers alone: those from f and from b on, where the piece's own names are below f
module _ (A : Local) (m : ℕ) (B : ℕ → Local) (Face Point : ℕ → Type 0) (P : Piece A) (R : Refines A m B Face Point) (b f : ℕ)
    (face_ge : (x : ℕ) → Face x → f ≤ x) (point_ge : (g : ℕ) → Point g → b ≤ g) (under : (s : ℕ) → s < A.slots → A.name s < f) where
  is_face : (j e : ℕ) → j < m → Joins (B j) e → f ≤ (B j).name (slot_of (B j) e) → Face ((B j).name (slot_of (B j) e))
  unfolding face_of
  is_face j e l on h =
      ⊎_elim
      (λ (o : Outer A (B j) e). absurd (let q = ap face_of o.is in omega (arith, h, q, under (slot_of A o.d) (P.slot o.d o.on.lt))))
      (λ (x : Face ((B j).name (slot_of (B j) e))). x)
      (R.kind j e l on)

  pub refines_above : Refines A m B (λ x. f ≤ x) (λ g. b ≤ g)
  refines_above = record {
    piece = R.piece;
    whole = R.whole;
    cover = R.cover;
    once = R.once;
    kind = λ j e l on. ⊎_elim (λ o. inl o) (λ x. inr (face_ge ((B j).name (slot_of (B j) e)) x)) (R.kind j e l on);
    inner_few = λ j k l e lj lk ll on h. R.inner_few j k l e lj lk ll on (is_face j e lj on h);
    inner_ends = λ j k d e lj lk jd je h. R.inner_ends j k d e lj lk jd je (is_face j d lj jd h);
    inner_paired = λ j e l on h. R.inner_paired j e l on (is_face j e l on h);
    points = λ j g l v. ⊎_elim (λ u. inl u) (λ p. inr (point_ge g p)) (R.points j g l v);
    linked = R.linked;
  }

-- a piece is its own only part
pub self : (A : Local) → Piece A → Refines A 1 (λ j. A) (λ f. ⊥) (λ g. ⊥)
self A P = record {
  piece = λ j l. P;
  whole = λ h j l. h;
  cover = λ d j. record { j = 0; j_lt = omega arith; e = d; on = j; is = refl; point = refl };
  once = λ j k d lj lk ne on r s. ne (omega arith);
  kind = λ j e l on. inl (record { d = e; on = on; is = refl; ends = inl (refl, refl) });
  inner_few = λ j k l e lj lk ll on f. absurd f;
  inner_ends = λ j k d e lj lk jd je f. absurd f;
  inner_paired = λ j e l on f. absurd f;
  points = λ j g l m. inl m;
  linked = λ g Q pass a b la lb m n q. subst Q (omega arith) q;
}

module _ (A : Local) (m : ℕ) (B : ℕ → Local) (Face Point : ℕ → Type 0) (P : Piece A) (R : Refines A m B Face Point)
    (apart : (s : ℕ) → s < A.slots → Face (A.name s) → ⊥) where
  abbrev level : Family
  level = record { size = m; at = B }

  outer_not : (B' : Local) (e : ℕ) → Outer A B' e → Face (B'.name (slot_of B' e)) → ⊥
  unfolding face_of
  outer_not B' e o f = apart (slot_of A o.d) (P.slot o.d o.on.lt) (subst (λ s. Face (face_of s)) o.is f)

  -- the parts of a piece are sound
  pub parts_sound : PiecesSound level
  unfolding face_of
  parts_sound = record {
    piece = R.piece;
    few = λ σ a b c la lb lc u v w. few σ a b c la lb lc u v w (R.kind a u.d la u.on);
    ends = λ a b d e la lb jd je q. ends a b d e la lb jd je q (R.kind a d la jd) (R.kind b e lb je);
  }
    where
      to : {σ τ : Side} {B' : Local} → HasSegment B' σ → σ ≡ τ → HasSegment B' τ
      to r q = record { d = r.d; on = r.on; is = r.is ∙ q }

      few : (σ : Side) (a b c : ℕ) → a < m → b < m → c < m → (u : HasSegment (B a) σ) → HasSegment (B b) σ → HasSegment (B c) σ
          → Outer A (B a) u.d ⊎ Face ((B a).name (slot_of (B a) u.d)) → a ≢ b → a ≢ c → b ≢ c → ⊥
      few σ a b c la lb lc u v w (inl o) x y z = R.once a b o.d la lb x o.on (to u (sym u.is ∙ o.is)) (to v (sym u.is ∙ o.is))
      few σ a b c la lb lc u v w (inr f) x y z = R.inner_few a b c u.d la lb lc u.on f (to v (sym u.is)) (to w (sym u.is)) x y z

      ends : (a b d e : ℕ) → a < m → b < m → Joins (B a) d → Joins (B b) e → segment_of (B a) d ≡ segment_of (B b) e
          → Outer A (B a) d ⊎ Face ((B a).name (slot_of (B a) d)) → Outer A (B b) e ⊎ Face ((B b).name (slot_of (B b) e)) → SameEnds (B a) d (B b) e
      ends a b d e la lb jd je q (inl o) (inl p) =
          via_ends (B a) d A p.d (B b) e
          (via_ends (B a) d A o.d A p.d o.ends (own_ends A P o.d p.d o.on p.on (sym o.is ∙ q ∙ p.is)))
          (turn_ends (B b) e A p.d p.ends)
      ends a b d e la lb jd je q (inl o) (inr f) = absurd (outer_not (B a) d o (subst (λ s. Face (face_of s)) (sym q) f))
      ends a b d e la lb jd je q (inr f) p = R.inner_ends a b d e la lb jd je f q

  -- each part in parts again
  module _ (k : ℕ → ℕ) (C : ℕ → ℕ → Local) (G H : ℕ → ℕ → Type 0) (Q : Refined level k C G H)
      (not-face : (j s : ℕ) → j < m → s < A.slots → G j (A.name s) → ⊥) where
    abbrev S : (j : ℕ) → j < m → Refines (B j) (k j) (C j) (G j) (H j)
    S = Q.parts

    abbrev AnyFace : ℕ → Type 0
    AnyFace f = Face f ⊎ ((j : ℕ) × (j < m) × G j f)

    abbrev AnyPoint : ℕ → Type 0
    AnyPoint g = Point g ⊎ ((j : ℕ) × (j < m) × H j g)

    sound : PiecesSound (fine level k C)
    sound = fine_sound level k C G H Q parts_sound

    -- a segment of a part of a part: the part's, or on a new face
    abbrev up : (j l : ℕ) → j < m → l < k j → (σ : Side) → HasSegment (C j l) σ → HasSegment (B j) σ ⊎ G j (face_of σ)
    up = kind level k C G H Q parts_sound

    -- a dart of B' along the segment of the dart d of A
    pub record Made (d x : ℕ) (B' : Local) : Type 0 where
      pub e : ℕ
      pub on : Joins B' e
      pub is : segment_of B' e ≡ segment_of A d
      pub point : B'.number (half e) ≡ A.number (half d)

    cover : (d : ℕ) → Joins A d → Covered A (pre k m) (λ x. C (row k m x) (col k m x)) d
    cover d on =
        let u = R.cover d on in
        let v = (S u.j u.j_lt).cover u.e u.on in
        let l = v.j_lt in
        let q : C (row k m (pre k u.j + v.j)) (col k m (pre k u.j + v.j)) ≡ C u.j v.j = ap₂ C (row_pack k m u.j v.j u.j_lt l) (col_pack k m u.j v.j u.j_lt l) in
        subst (λ B'. Made d (pre k u.j + v.j) B' → Covered A (pre k m) (λ x. C (row k m x) (col k m x)) d) q
        (λ z. record { j = pre k u.j + v.j; j_lt = pack_lt k m u.j v.j u.j_lt l; e = z.e; on = z.on; is = z.is; point = z.point })
        (record { e = v.e; on = v.on; is = v.is ∙ u.is; point = v.point ∙ u.point })

    abbrev D : ℕ → Local
    D x = C (row k m x) (col k m x)

    module _ {x : ℕ} (l : x < pre k m) where
      abbrev rl : row k m x < m
      rl = row_lt k m x l

      abbrev il : col k m x < k (row k m x)
      il = col_lt k m x l

    one_place : (x y : ℕ) → x < pre k m → y < pre k m → row k m x ≡ row k m y → col k m x ≡ col k m y → x ≡ y
    one_place x y lx ly p q = sym (unpack k m x lx) ∙ ap₂ (λ a b. pre k a + b) p q ∙ unpack k m y ly

    to : {σ τ : Side} {B' : Local} → HasSegment B' σ → σ ≡ τ → HasSegment B' τ
    to v q = record { d = v.d; on = v.on; is = v.is ∙ q }

    -- a part of a part with a segment of A: its part has the segment
    runs_up : (d : ℕ) → Joins A d → (j l : ℕ) → j < m → l < k j → HasSegment (C j l) (segment_of A d) → HasSegment (B j) (segment_of A d)
    unfolding face_of
    runs_up d on j l lj ll v = ⊎_elim (λ u. u) (λ (g : G j (A.name (slot_of A d))). absurd (not-face j (slot_of A d) lj (P.slot d on.lt) g)) (up j l lj ll (segment_of A d) v)

    once : (x y d : ℕ) → x < pre k m → y < pre k m → x ≢ y → Joins A d → HasSegment (D x) (segment_of A d) → HasSegment (D y) (segment_of A d) → ⊥
    once x y d lx ly ne on u v =
        elim (ℕ_discrete (row k m x) (row k m y)) [
          | no e ↦ R.once (row k m x) (row k m y) d (rl lx) (rl ly) e on (runs_up d on (row k m x) (col k m x) (rl lx) (il lx) u) (runs_up d on (row k m y) (col k m y) (rl ly) (il ly) v)
          | yes e ↦ same e (runs_up d on (row k m x) (col k m x) (rl lx) (il lx) u)
        ]
      where
        same : row k m x ≡ row k m y → HasSegment (B (row k m x)) (segment_of A d) → ⊥
        same e b =
            (S (row k m x) (rl lx)).once (col k m x) (col k m y) b.d (il lx) (subst (λ j. col k m y < k j) (sym e) (il ly)) (λ q. ne (one_place x y lx ly e q)) b.on
            (to u (sym b.is)) (to (subst (λ j. HasSegment (C j (col k m y)) (segment_of A d)) (sym e) v) (sym b.is))

    kind-at : (x e : ℕ) → x < pre k m → Joins (D x) e → Outer A (D x) e ⊎ AnyFace ((D x).name (slot_of (D x) e))
    unfolding face_of
    kind-at x e l on = first ((S (row k m x) (rl l)).kind (col k m x) e (il l) on)
      where
        first : Outer (B (row k m x)) (D x) e ⊎ G (row k m x) ((D x).name (slot_of (D x) e)) → Outer A (D x) e ⊎ AnyFace ((D x).name (slot_of (D x) e))
        first (inr g) = inr (inr (row k m x, rl l, g))
        first (inl o) = second (R.kind (row k m x) o.d (rl l) o.on)
          where
            second : Outer A (B (row k m x)) o.d ⊎ Face ((B (row k m x)).name (slot_of (B (row k m x)) o.d)) → Outer A (D x) e ⊎ AnyFace ((D x).name (slot_of (D x) e))
            second (inl p) = inl (record { d = p.d; on = p.on; is = o.is ∙ p.is; ends = via_ends (D x) e (B (row k m x)) o.d A p.d o.ends p.ends })
            second (inr f) = inr (inl (subst (λ s. Face (face_of s)) (sym o.is) f))

    -- the part at a place
    found : (j l : ℕ) → j < m → l < k j → (x : ℕ) × (x < pre k m) × (row k m x ≡ j) × (col k m x ≡ l)
    found j l lj ll = (pre k j + l, pack_lt k m j l lj ll, row_pack k m j l lj ll, col_pack k m j l lj ll)

    inner_paired : (x e : ℕ) → x < pre k m → Joins (D x) e → AnyFace ((D x).name (slot_of (D x) e)) → (y : ℕ) × (y < pre k m) × (y ≢ x) × HasSegment (D y) (segment_of (D x) e)
    unfolding face_of
    inner_paired x e l on f = go f ((S (row k m x) (rl l)).kind (col k m x) e (il l) on)
      where
        σ : Side
        σ = segment_of (D x) e

        put : (j a : ℕ) → j < m → a < k j → (row k m x ≡ j → col k m x ≡ a → ⊥) → HasSegment (C j a) (segment_of (D x) e) → (y : ℕ) × (y < pre k m) × (y ≢ x) × HasSegment (D y) (segment_of (D x) e)
        put j a lj la ne v =
            let (y, ly, p, q) = found j a lj la in
            (y, ly, (λ z. ne (ap (row k m) (sym z) ∙ p) (ap (col k m) (sym z) ∙ q)), subst (λ B'. HasSegment B' (segment_of (D x) e)) (sym (ap₂ C p q)) v)

        go : AnyFace ((D x).name (slot_of (D x) e)) → Outer (B (row k m x)) (D x) e ⊎ G (row k m x) ((D x).name (slot_of (D x) e))
            → (y : ℕ) × (y < pre k m) × (y ≢ x) × HasSegment (D y) (segment_of (D x) e)
        go h (inr g) =
            let (a, la, ne, v) = (S (row k m x) (rl l)).inner_paired (col k m x) e (il l) on g in
            put (row k m x) a (rl l) la (λ p q. ne (sym q)) v
        go (inr (j, lj, g)) (inl o) =
            absurd (Q.inner j (row k m x) (slot_of (B (row k m x)) o.d) lj (rl l) ((R.piece (row k m x) (rl l)).slot o.d o.on.lt) (subst (λ s. G j (face_of s)) o.is g))
        go (inl h) (inl o) =
            let (j, lj, ne, v) = R.inner_paired (row k m x) o.d (rl l) o.on (subst (λ s. Face (face_of s)) o.is h) in
            let u = (S j lj).cover v.d v.on in
            put j u.j lj u.j_lt (λ p q. ne (sym p)) (record { d = u.e; on = u.on; is = u.is ∙ v.is ∙ sym o.is })

    points : (x g : ℕ) → x < pre k m → Meets (D x) g → Meets A g ⊎ AnyPoint g
    points x g l v = first ((S (row k m x) (rl l)).points (col k m x) g (il l) v)
      where
        first : Meets (B (row k m x)) g ⊎ H (row k m x) g → Meets A g ⊎ AnyPoint g
        first (inr h) = inr (inr (row k m x, rl l, h))
        first (inl b) = ⊎_elim (λ a. inl a) (λ p. inr (inl p)) (R.points (row k m x) g (rl l) b)

    -- the parts of the parts refine the piece
    pub compose : Refines A (pre k m) (λ x. C (row k m x) (col k m x)) AnyFace AnyPoint
    unfolding fine
    compose = record {
      piece = λ x l. (S (row k m x) (rl l)).piece (col k m x) (il l);
      whole = λ h x l. (S (row k m x) (rl l)).whole (R.whole h (row k m x) (rl l)) (col k m x) (il l);
      cover = cover;
      once = once;
      kind = kind-at;
      inner_few = λ x y z e lx ly lz on f u v. sound.few (segment_of (D x) e) x y z lx ly lz (record { d = e; on = on; is = refl }) u v;
      inner_ends = λ x y d e lx ly jd je f q. sound.ends x y d e lx ly jd je q;
      inner_paired = inner_paired;
      points = points;
      linked = λ g. fine_linked level k C G H Q parts_sound g (R.linked g);
    }
