-- Refinements with other numbers and names for the parts: numbers in the same order, names told apart, and both as before on the piece that is refined.
use Prim.Native.Nat.{ℕ, ◌<◌, min}
use mathlib.Core.Path.{◌≡◌, refl, sym, ap, ap₂, ◌∙◌, subst}
use mathlib.Core.Logic.{◌⊎◌, inl, inr, ⊎_elim}
use native.Mathlib.Omega.{arith}
use Rattle.counting.proofs.Below.{trichotomy}
use Rattle.walk.specs.Step.{face}
use Rattle.walk.specs.Darts.{half}
use Rattle.manifold.specs.Triangle.{seg}
use Rattle.manifold.specs.claims.Piece.{Local, Piece, slot_of, mate_of, lower_of, segment_of}
use Rattle.manifold.specs.claims.Complex.{Joins, SameEnds, Whole, Shares}
use Rattle.split.specs.claims.Family.{HasSegment, Meets, PiecesLinked, Outer, Covered, Refines}
use Rattle.split.specs.claims.Owned.{renamed_piece}

-- numbers that keep their order
abbrev pub Rises : (ℕ → ℕ) → Type 0
Rises r = (x y : ℕ) → x < y → r x < r y

pub rises_once : (r : ℕ → ℕ) → Rises r → (x y : ℕ) → r x ≡ r y → x ≡ y
rises_once r up x y e = trichotomy x y (λ h. absurd (omega (arith, up x y h, e))) (λ h. absurd (omega (arith, up y x h, e))) (λ q. q)

pub rises_min : (r : ℕ → ℕ) → Rises r → (x y : ℕ) → min (r x) (r y) ≡ r (min x y)
rises_min r up x y =
    trichotomy x y
    (λ h. let e : min x y ≡ x = omega arith in rw e (omega (arith, up x y h)))
    (λ h. let e : min x y ≡ y = omega arith in rw e (omega (arith, up y x h)))
    (λ q. let e : min x y ≡ x = omega arith in rw e (let f = ap r q in omega (arith, f)))

-- a segment by its two numbers
two_of : {f g x y : ℕ} → seg f x ≡ seg g y → (f ≡ g) × (x ≡ y)
two_of q = (cc, cc)

module _ (r n : ℕ → ℕ) (up : Rises r) (apart : Rises n) where
  abbrev R : Local → Local
  R = renamed_piece r n

  -- the same darts, slots and mates
  joins_to : (B : Local) (d : ℕ) → Joins B d → Joins (R B) d
  unfolding face
  joins_to B d j = record { lt = j.lt; joined = j.joined }

  joins_from : (B : Local) (d : ℕ) → Joins (R B) d → Joins B d
  unfolding face
  joins_from B d j = record { lt = j.lt; joined = j.joined }

  -- the segment of a dart
  segment_is : (B : Local) (d : ℕ) → segment_of (R B) d ≡ seg (n (B.name (slot_of B d))) (r (lower_of B d))
  unfolding face
  segment_is B d = ap (seg (n (B.name (slot_of B d)))) (rises_min r up (B.number (half d)) (B.number (mate_of B d)))

  segment_once : (B C : Local) (d e : ℕ) → segment_of (R B) d ≡ segment_of (R C) e → segment_of B d ≡ segment_of C e
  segment_once B C d e q =
      let (a, b) = two_of (sym (segment_is B d) ∙ q ∙ segment_is C e) in
      ap₂ seg (rises_once n apart (B.name (slot_of B d)) (C.name (slot_of C e)) a) (rises_once r up (lower_of B d) (lower_of C e) b)

  segment_same : (B C : Local) (d e : ℕ) → segment_of B d ≡ segment_of C e → segment_of (R B) d ≡ segment_of (R C) e
  segment_same B C d e q =
      let (a, b) = two_of q in
      segment_is B d ∙ ap₂ (λ f x. seg (n f) (r x)) a b ∙ sym (segment_is C e)

  ends_to : (B C : Local) (d e : ℕ) → SameEnds B d C e → SameEnds (R B) d (R C) e
  unfolding face
  ends_to B C d e (inl (p, q)) = inl (ap r p, ap r q)
  ends_to B C d e (inr (p, q)) = inr (ap r p, ap r q)

  runs_from : (B C : Local) (d : ℕ) → HasSegment (R C) (segment_of (R B) d) → HasSegment C (segment_of B d)
  runs_from B C d u = record { d = u.d; on = joins_from C u.d u.on; is = segment_once C B u.d d u.is }

  piece_to : (B : Local) → Piece B → Piece (R B)
  unfolding face
  piece_to B P = record {
    ports = P.ports;
    numbers = λ x y lx ly q. P.numbers x y lx ly (rises_once r up (B.number x) (B.number y) q);
    slot = P.slot;
    names = λ s t ls lt q. P.names s t ls lt (rises_once n apart (B.name s) (B.name t) q);
  }

  whole_to : (B : Local) → Whole B → Whole (R B)
  unfolding face
  whole_to B h d j l = h d (joins_from B _ j) l

  -- a crossing of R B has the number r g, for a crossing g of B
  meets_from : (B : Local) (g : ℕ) → Meets (R B) g → (x : ℕ) × Meets B x × (g ≡ r x)
  meets_from B g v = (B.number (half v.d), record { d = v.d; on = joins_from B v.d v.on; is = refl }, sym v.is)

  pub meets_to : (B : Local) (g : ℕ) → Meets B g → Meets (R B) (r g)
  meets_to B g v = record { d = v.d; on = joins_to B v.d v.on; is = ap r v.is }

  shares_to : (B C : Local) (x : ℕ) → Shares B C x → Shares (R B) (R C) (r x)
  shares_to B C x s = record {
    d = s.d;
    e = s.e;
    d_on = joins_to B s.d s.d_on;
    e_on = joins_to C s.e s.e_on;
    at_d = ap r s.at_d;
    at_e = ap r s.at_e;
    same = segment_same B C s.d s.e s.same;
  }

  -- the refined piece keeps its numbers and names
  module _ (A : Local) (m : ℕ) (B : ℕ → Local) (Face Point : ℕ → Type 0) (P : Piece A) (F : Refines A m B Face Point)
      (number-kept : (x : ℕ) → x < A.N → r (A.number x) ≡ A.number x) (name-kept : (s : ℕ) → s < A.slots → n (A.name s) ≡ A.name s) where
    abbrev pub NewFace : ℕ → Type 0
    NewFace f = (x : ℕ) × Face x × (f ≡ n x)

    abbrev pub NewPoint : ℕ → Type 0
    NewPoint g = (x : ℕ) × Point x × (g ≡ r x)

    kept : (d : ℕ) → Joins A d → segment_of (R A) d ≡ segment_of A d
    unfolding face
    kept d on =
        let l = on.lt in
        ap₂ seg (name-kept (slot_of A d) (P.slot d on.lt)) (ap₂ min (number-kept (half d) (omega arith)) (number-kept (mate_of A d) on.joined))

    runs_a : (C : Local) (d : ℕ) → Joins A d → HasSegment (R C) (segment_of A d) → HasSegment C (segment_of A d)
    runs_a C d on u = runs_from A C d (record { d = u.d; on = u.on; is = u.is ∙ sym (kept d on) })

    ends_a : (C : Local) (e d : ℕ) → Joins A d → SameEnds C e A d → SameEnds (R C) e A d
    unfolding face
    ends_a C e d on (inl (p, q)) = let l = on.lt in inl (ap r p ∙ number-kept (half d) (omega arith), ap r q ∙ number-kept (mate_of A d) on.joined)
    ends_a C e d on (inr (p, q)) = let l = on.lt in inr (ap r p ∙ number-kept (mate_of A d) on.joined, ap r q ∙ number-kept (half d) (omega arith))

    cover : (d : ℕ) → Joins A d → Covered A m (λ j. R (B j)) d
    cover d on =
        let u = F.cover d on in
        let l = on.lt in
        record {
          j = u.j;
          j_lt = u.j_lt;
          e = u.e;
          on = joins_to (B u.j) u.e u.on;
          is = segment_same (B u.j) A u.e d u.is ∙ kept d on;
          point = ap r u.point ∙ number-kept (half d) (omega arith);
        }

    kind : (j e : ℕ) → j < m → Joins (R (B j)) e → Outer A (R (B j)) e ⊎ NewFace ((R (B j)).name (slot_of (R (B j)) e))
    unfolding face
    kind j e l on =
        ⊎_elim
        (λ (o : Outer A (B j) e). inl (record { d = o.d; on = o.on; is = segment_same (B j) A e o.d o.is ∙ kept o.d o.on; ends = ends_a (B j) e o.d o.on o.ends }))
        (λ (f : Face ((B j).name (slot_of (B j) e))). inr ((B j).name (slot_of (B j) e), f, refl))
        (F.kind j e l (joins_from (B j) e on))

    face_from : (j e : ℕ) → NewFace ((R (B j)).name (slot_of (R (B j)) e)) → Face ((B j).name (slot_of (B j) e))
    unfolding face
    face_from j e (x, f, q) = subst Face (sym (rises_once n apart ((B j).name (slot_of (B j) e)) x q)) f

    points : (j g : ℕ) → j < m → Meets (R (B j)) g → Meets A g ⊎ NewPoint g
    points j g l v =
        let (x, u, q) = meets_from (B j) g v in
        ⊎_elim
        (λ (a : Meets A x). let h = a.on.lt in
        inl (record { d = a.d; on = a.on; is = sym (number-kept (half a.d) (omega arith)) ∙ ap r a.is ∙ sym q }))
        (λ (p : Point x). inr (x, p, q))
        (F.points j x l u)

    linked : (g : ℕ) → PiecesLinked (record { size = m; at = λ j. R (B j) }) g
    linked g Q pass a b la lb u v =
        let (x, s, p) = meets_from (B a) g u in
        let (y, t, q) = meets_from (B b) g v in
        let e : y ≡ x = rises_once r up y x (sym q ∙ p) in
        F.linked x Q (λ j k lj lk h. pass j k lj lk (subst (Shares (R (B j)) (R (B k))) (sym p) (shares_to (B j) (B k) x h))) a b la lb s (subst (Meets (B b)) e t)

    pub refines_renamed : Refines A m (λ j. R (B j)) NewFace NewPoint
    refines_renamed = record {
      piece = λ j l. piece_to (B j) (F.piece j l);
      whole = λ h j l. whole_to (B j) (F.whole h j l);
      cover = cover;
      once = λ j k d lj lk ne on u v. F.once j k d lj lk ne on (runs_a (B j) d on u) (runs_a (B k) d on v);
      kind = kind;
      inner_few = λ j k l e lj lk ll on f u v. F.inner_few j k l e lj lk ll (joins_from (B j) e on) (face_from j e f) (runs_from (B j) (B k) e u) (runs_from (B j) (B l) e v);
      inner_ends = λ j k d e lj lk jd je f q. ends_to (B j) (B k) d e (F.inner_ends j k d e lj lk (joins_from (B j) d jd) (joins_from (B k) e je) (face_from j d f) (segment_once (B j) (B k) d e q));
      inner_paired = λ j e l on f.
          let (k, lk, ne, u) = F.inner_paired j e l (joins_from (B j) e on) (face_from j e f) in
          (k, lk, ne, record { d = u.d; on = joins_to (B k) u.d u.on; is = segment_same (B k) (B j) u.d e u.is });
      points = points;
      linked = linked;
    }
