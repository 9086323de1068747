-- Step 3: in a piece each segment is on at most one loop, once; on exactly one where every crossing is joined on both of its faces.
use Prim.Native.Nat.{ℕ, zero, suc, ◌*◌, ◌/◌, ◌≤◌, ◌<◌, min}
use mathlib.Core.Path.{◌≡◌, refl, sym, ap, ap₂, ◌∙◌, subst}
use mathlib.Core.Logic.{◌⊎◌, inl, inr, ◌≢◌, ⊎_elim}
use mathlib.Core.Bool.{Bool, true, false}
use native.Mathlib.Nat.{eq-zero-or-pos, min_comm, le_of_eq}
use native.Mathlib.Omega.{arith}
use lib.Dec.{eqb, leb}
use borrow.Author.Tests.{eqb-true, leb-true, leb-false}
use Rattle.counting.specs.Pick.{pick}
use Rattle.counting.specs.Lists.{one, total, after, it}
use Rattle.counting.specs.claims.Lists.{before}
use Rattle.counting.proofs.Range.{total_zero, total_one, total_pos, after_last, after_lt, before_lt, after_before}
use Rattle.walk.specs.Darts.{half, rev, Loop, On}
use Rattle.walk.specs.claims.Claims.{Darts}
use Rattle.walk.specs.Step.{step}
use Rattle.walk.proofs.Iterate.{it_suc}
use Rattle.walk.proofs.Curve.{loop_distinct, closes, Next, on_walk}
use Rattle.walk.proofs.Found.{size_live}
use Rattle.walk.proofs.Once.{listed, same_start, closed_in}
use Rattle.walk.proofs.Step.{rev_first, rev_second, by_parity, same_half, darts, live, land_half, land_face, face_first, face_second}
use Rattle.manifold.specs.Triangle.{Side, seg, same}
use Rattle.manifold.specs.claims.Piece.{Local, Piece, slot_of, mate_of, lower_of, segment_of, onward, dart, size_of}
use Rattle.manifold.specs.claims.Complex.{Joins, Closes, Whole}
use Rattle.manifold.proofs.Triangle.{eq_same, ne_same, one_same}

module _ (A : Local) where
  -- the i-th dart of the loop from p, where there is one
  pub record Listed (p i : ℕ) : Type 0 where
    pub start : p < A.N
    pub lt : i < size_of A p

  -- σ is the segment of a listed dart
  pub record Passed (σ : Side) : Type 0 where
    pub p : ℕ
    pub i : ℕ
    pub on : Listed p i
    pub is : σ ≡ segment_of A (dart A p i)

  -- the segment of the dart e is that of the i-th dart of the loop from p, which runs the same way or the other
  pub record Covers (e : ℕ) : Type 0 where
    pub p : ℕ
    pub i : ℕ
    pub on : Listed p i
    pub slot : slot_of A (dart A p i) ≡ slot_of A e
    pub ends : ((half (dart A p i) ≡ half e) × (mate_of A (dart A p i) ≡ mate_of A e)) ⊎ ((half (dart A p i) ≡ mate_of A e) × (mate_of A (dart A p i) ≡ half e))

  pub covers_segment : (e : ℕ) (w : Covers e) → segment_of A (dart A w.p w.i) ≡ segment_of A e
  covers_segment e w =
      ap₂ seg (ap A.name w.slot)
      (⊎_elim (λ (u : (half (dart A w.p w.i) ≡ half e) × (mate_of A (dart A w.p w.i) ≡ mate_of A e)). ap₂ (λ a b. min (A.number a) (A.number b)) u.0 u.1)
      (λ (u : (half (dart A w.p w.i) ≡ mate_of A e) × (mate_of A (dart A w.p w.i) ≡ half e)).
      ap₂ (λ a b. min (A.number a) (A.number b)) u.0 u.1 ∙ min_comm (A.number (mate_of A e)) (A.number (e / 2))) w.ends)

  -- how often σ is a segment of the loop from p
  abbrev pub counts : Side → ℕ → ℕ
  counts σ p = total (λ i. one (same σ (segment_of A (dart A p i)))) (size_of A p) 0

  module _ (K : Piece A) where
    pub cell_darts : Darts (2 * A.N) A.N (onward A) rev half
    cell_darts = darts A.N A.fa A.fb A.mate K.ports

    slot_rev : (d : ℕ) → d < 2 * A.N → slot_of A (rev d) ≢ slot_of A d
    slot_rev = by_parity A.N (λ d. slot_of A (rev d) ≢ slot_of A d)
        (λ c l. rw (rev_first, face_first A.N A.fa A.fb A.mate c, face_second A.N A.fa A.fb A.mate c) (λ e. K.ports.apart c l (sym e)))
        (λ c l. rw (rev_second, face_first A.N A.fa A.fb A.mate c, face_second A.N A.fa A.fb A.mate c) (K.ports.apart c l))

    -- a step that goes on: to where, and by which slot it came
    step_mate : (d : ℕ) → mate_of A d < A.N → half (onward A d) ≡ mate_of A d
    unfolding step
    step_mate d l = land_half A.N A.fa A.fb A.mate (slot_of A d) (mate_of A d) l

    step_slot : (d : ℕ) → d < 2 * A.N → mate_of A d < A.N → slot_of A (rev (onward A d)) ≡ slot_of A d
    unfolding step
    step_slot d h l = land_face A.N A.fa A.fb A.mate (slot_of A d) (mate_of A d) l (K.ports.lies d h l)

    -- darts of the same segment
    pub segment_cases : (d e : ℕ) → Joins A d → Joins A e → segment_of A d ≡ segment_of A e → (slot_of A d ≡ slot_of A e) × ((half d ≡ half e) ⊎ (half d ≡ mate_of A e))
    segment_cases d e jd je q =
        let f : slot_of A d ≡ slot_of A e = K.names (slot_of A d) (slot_of A e) (K.slot d jd.lt) (K.slot e je.lt) (cc) in
        let m : lower_of A d ≡ lower_of A e = cc in
        (f, go f m (leb (A.number x) (A.number (mate_of A d))) (leb (A.number y) (A.number (mate_of A e))) refl refl)
      where
        x : ℕ
        x = d / 2

        y : ℕ
        y = e / 2

        lx : d / 2 < A.N
        lx = omega (arith, jd.lt)

        ly : e / 2 < A.N
        ly = omega (arith, je.lt)

        go : slot_of A d ≡ slot_of A e → lower_of A d ≡ lower_of A e → (u v : Bool) → leb (A.number x) (A.number (mate_of A d)) ≡ u → leb (A.number y) (A.number (mate_of A e)) ≡ v
            → (x ≡ y) ⊎ (x ≡ mate_of A e)
        go f m true true u v =
            inl (K.numbers x y lx ly (omega (arith, m, leb-true (A.number x) (A.number (mate_of A d)) u, leb-true (A.number y) (A.number (mate_of A e)) v)))
        go f m true false u v =
            inr (K.numbers x (mate_of A e) lx je.joined (omega (arith, m, leb-true (A.number x) (A.number (mate_of A d)) u, leb-false (A.number y) (A.number (mate_of A e)) v)))
        go f m false true u v =
            let h : mate_of A d ≡ y = K.numbers (mate_of A d) y jd.joined ly (omega (arith, m, leb-false (A.number x) (A.number (mate_of A d)) u, leb-true (A.number y) (A.number (mate_of A e)) v)) in
            inr (sym (K.ports.both d jd.lt jd.joined) ∙ ap₂ A.mate f h)
        go f m false false u v =
            let h : mate_of A d ≡ mate_of A e = K.numbers (mate_of A d) (mate_of A e) jd.joined je.joined
            (omega (arith, m, leb-false (A.number x) (A.number (mate_of A d)) u, leb-false (A.number y) (A.number (mate_of A e)) v)) in
            inl (sym (K.ports.both d jd.lt jd.joined) ∙ ap₂ A.mate f h ∙ K.ports.both e je.lt je.joined)

    loop : {p i : ℕ} → Listed p i → Loop (2 * A.N) (onward A) (2 * p) (size_of A p)
    loop {p} {i} h = (listed A.N (onward A) rev cell_darts p h.start (omega (arith, h.lt))).0

    pub dart_lt : {p i : ℕ} → Listed p i → dart A p i < 2 * A.N
    dart_lt {p} {i} h = size_live A.N (onward A) p i h.start h.lt

    -- the dart after the i-th is the next of the round
    dart_after : {p i : ℕ} → Listed p i → dart A p (after (size_of A p) i) ≡ onward A (dart A p i)
    unfolding it
    dart_after {p} {i} h = go (eqb (suc i) (size_of A p)) refl
      where
        go : (b : Bool) → eqb (suc i) (size_of A p) ≡ b → dart A p (pick b 0 (suc i)) ≡ onward A (dart A p i)
        go true e = sym (sym (it_suc (onward A) i (2 * p)) ∙ ap (dart A p) (eqb-true (suc i) (size_of A p) e) ∙ (loop h).home)
        go false e = it_suc (onward A) i (2 * p)

    pub listed_after : {p i : ℕ} → Listed p i → Listed p (after (size_of A p) i)
    listed_after {p} {i} h = record { start = h.start; lt = after_lt (size_of A p) i h.lt }

    pub joins : {p i : ℕ} → Listed p i → Joins A (dart A p i)
    joins {p} {i} h = record {
      lt = dart_lt h;
      joined = live A.N A.fa A.fb A.mate K.ports (dart A p i) (subst (λ x. x < 2 * A.N) (dart_after h) (dart_lt (listed_after h)));
    }

    -- the next point is where a dart goes
    pub point_after : {p i : ℕ} → Listed p i → half (dart A p (after (size_of A p) i)) ≡ mate_of A (dart A p i)
    point_after {p} {i} h = ap half (dart_after h) ∙ step_mate (dart A p i) (joins h).joined

    -- a crossing is on one listed loop, once
    pub dart_once : {p i q j : ℕ} → Listed p i → Listed q j → half (dart A p i) ≡ half (dart A q j) → (p ≡ q) × (i ≡ j)
    dart_once {p} {i} {q} {j} h k e =
        let same : p ≡ q = same_start A.N (onward A) rev cell_darts p q (half (dart A q j)) h.start k.start
        (record { at = i; at_lt = h.lt; is = e }) (record { at = j; at_lt = k.lt; is = refl }) in (
          same,
          loop_distinct (2 * A.N) A.N (onward A) rev half cell_darts (loop k) i j (subst (λ x. i < size_of A x) same h.lt) k.lt
              (subst (λ x. half (dart A x i) ≡ half (dart A q j)) same e),
        )

    -- and so is a segment
    pub segment_once : {p i q j : ℕ} → Listed p i → Listed q j → segment_of A (dart A p i) ≡ segment_of A (dart A q j) → (p ≡ q) × (i ≡ j)
    segment_once {p} {i} {q} {j} h k e =
        let (f, o) = segment_cases (dart A p i) (dart A q j) (joins h) (joins k) e in
        ⊎_elim (λ w. dart_once h k w)
        (λ (w : half (dart A p i) ≡ mate_of A (dart A q j)).
        let (a, b) = dart_once h (listed_after k) (w ∙ sym (point_after k)) in
        let s : dart A p i ≡ onward A (dart A q j) = ap₂ (dart A) a b ∙ dart_after k in
        absurd (slot_rev (onward A (dart A q j)) (subst (λ x. x < 2 * A.N) s (dart_lt h))
        (step_slot (dart A q j) (dart_lt k) (joins k).joined ∙ sym f ∙ ap (slot_of A) s)))
        o

    counted_in : (σ : Side) (q : ℕ) → q < A.N → 0 < counts σ q → (i : ℕ) × Listed q i × (σ ≡ segment_of A (dart A q i))
    counted_in σ q l h =
        let w = total_pos (λ i. one (same σ (segment_of A (dart A q i)))) (size_of A q) 0 h in
        (w.0, record { start = l; lt = omega (arith, w.2) }, one_same σ (segment_of A (dart A q w.0)) w.3)

    pub counted : (σ : Side) → 0 < total (counts σ) A.N 0 → Passed σ
    counted σ h =
        let w = total_pos (counts σ) A.N 0 h in
        let u = counted_in σ w.0 (omega (arith, w.2)) w.3 in
        record { p = w.0; i = u.0; on = u.1; is = u.2 }

    pub count_one : (σ : Side) → Passed σ → total (counts σ) A.N 0 ≡ 1
    count_one σ w =
        total_one (counts σ) A.N 0 w.p (omega arith) (omega (arith, w.on.start))
        (total_one (λ i. one (same σ (segment_of A (dart A w.p i)))) (size_of A w.p) 0 w.i (omega arith) (omega (arith, w.on.lt))
        (ap one (eq_same σ (segment_of A (dart A w.p w.i)) w.is))
        (λ i u v ne. ap one (ne_same σ (segment_of A (dart A w.p i)) (λ e.
        ne (segment_once (record { start = w.on.start; lt = omega arith }) w.on (sym e ∙ w.is)).1))))
        (λ q u v ne. total_zero (λ i. one (same σ (segment_of A (dart A q i)))) (size_of A q) 0
        (λ i a b. ap one (ne_same σ (segment_of A (dart A q i)) (λ e.
        ne (segment_once (record { start = omega arith; lt = omega arith }) w.on (sym e ∙ w.is)).0))))

    -- at most one loop, once
    pub count_le : (σ : Side) → total (counts σ) A.N 0 ≤ 1
    count_le σ = ⊎_elim (λ (e : total (counts σ) A.N 0 ≡ 0). omega arith)
        (λ (h : 0 < total (counts σ) A.N 0). le_of_eq (count_one σ (counted σ h))) (eq-zero-or-pos (total (counts σ) A.N 0))

    -- no loop has one segment
    pub size_ne : (p : ℕ) → p < A.N → size_of A p ≢ 1
    unfolding it
    size_ne p l e =
        let h : Listed p 0 = record { start = l; lt = omega (arith, e) } in
        let b : onward A (2 * p) ≡ 2 * p = sym (dart_after h) ∙ ap (dart A p) (after_last (size_of A p) 0 (sym e)) in
        K.ports.other (2 * p) (omega arith) (sym (step_mate (2 * p) (joins h).joined) ∙ ap half b)

    -- a curve that closes does not end, and where no curve ends each closes
    step_lt : (d : ℕ) → mate_of A d < A.N → onward A d < 2 * A.N
    step_lt d l = omega (arith, l, step_mate d l)

    -- a step to a crossing that is joined on the face by which it is come to
    step_joined : (d : ℕ) → Joins A d → Joins A (rev (onward A d))
    step_joined d j =
        let l = step_lt d j.joined in
        let m : mate_of A (rev (onward A d)) ≡ half d =
        ap₂ A.mate (step_slot d j.lt j.joined) (cell_darts.cr_rv (onward A d) l ∙ step_mate d j.joined) ∙ K.ports.both d j.lt j.joined in
        record { lt = cell_darts.rv_lt (onward A d) l; joined = rw m (omega (arith, j.lt)) }

    steps : Whole A → (i e : ℕ) → Joins A e → it (onward A) i e < 2 * A.N
    unfolding it
    steps full zero e j = j.lt
    steps full (suc i) e j =
        let l = step_lt e j.joined in
        steps full i (onward A e) (record { lt = l; joined = full (onward A e) (step_joined e j) l })

    pub closes_joins : (e : ℕ) → Closes A e → Joins A e
    unfolding it
    closes_joins e (k, L) = record { lt = L.live 0 (omega arith); joined = live A.N A.fa A.fb A.mate K.ports e (L.live 1 L.pos) }

    pub whole_closes : Whole A → (e : ℕ) → Joins A e → Closes A e
    whole_closes full e on = let (k, le, L) = closes (2 * A.N) A.N (onward A) rev half cell_darts e (λ i h. steps full i e on) in (k, L)

    -- the segments of the curves that close are those of the listed loops
    pub passed_closes : (e : ℕ) → Joins A e → Passed (segment_of A e) → Closes A e
    unfolding Next
    passed_closes e on w =
        let (k, le, L) = closes (2 * A.N) A.N (onward A) rev half cell_darts e
        (λ n h. (on_walk (2 * A.N) A.N (onward A) rev half cell_darts (loop w.on) n e on.lt (met (segment_cases e (dart A w.p w.i) on (joins w.on) w.is).1)).0) in
        (k, L)
      where
        met : (half e ≡ half (dart A w.p w.i)) ⊎ (half e ≡ mate_of A (dart A w.p w.i)) → On (onward A) half (2 * w.p) (size_of A w.p) (half e)
        met (inl q) = record { at = w.i; at_lt = w.on.lt; is = sym q }
        met (inr q) = record { at = after (size_of A w.p) w.i; at_lt = after_lt (size_of A w.p) w.i w.on.lt; is = point_after w.on ∙ sym q }

    pub covers : (e : ℕ) → Closes A e → Covers e
    covers e (k, L) =
        let (p, lp, o) = closed_in A.N (onward A) rev cell_darts e k L in
        ⊎_elim (forth p o.at (record { start = lp; lt = o.at_lt }))
        (back p o.at (record { start = lp; lt = o.at_lt }))
        (same_half (dart A p o.at) e o.is)
      where
        forth : (p i : ℕ) → Listed p i → dart A p i ≡ e → Covers e
        forth p i h q = record { p = p; i = i; on = h; slot = ap (slot_of A) q; ends = inl (ap half q, ap (mate_of A) q) }

        back : (p i : ℕ) → Listed p i → dart A p i ≡ rev e → Covers e
        back p i h q =
            let j = before (size_of A p) i in
            let g : Listed p j = record { start = h.start; lt = before_lt (size_of A p) i h.lt } in
            let s : onward A (dart A p j) ≡ rev e = sym (dart_after g) ∙ ap (dart A p) (after_before (size_of A p) i h.lt) ∙ q in
            let f : slot_of A (dart A p j) ≡ slot_of A e =
            sym (step_slot (dart A p j) (dart_lt g) (joins g).joined) ∙ ap (λ x. slot_of A (rev x)) s ∙ ap (slot_of A) (cell_darts.rv_rv e (closes_joins e (k, L)).lt) in
            let t : mate_of A (dart A p j) ≡ half e = sym (step_mate (dart A p j) (joins g).joined) ∙ ap half s ∙ cell_darts.cr_rv e (closes_joins e (k, L)).lt in
            record { p = p; i = j; on = g; slot = f; ends = inr (sym (K.ports.both (dart A p j) (dart_lt g) (joins g).joined) ∙ ap₂ A.mate f t, t) }
