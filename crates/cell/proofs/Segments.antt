-- Each segment is on at most one loop, once; where no curve ends, on exactly one.
use Prim.Native.Nat.{ℕ, zero, suc, ◌+◌, ◌*◌, ◌-◌, ◌≤◌, ◌<◌}
use mathlib.Core.Path.{◌≡◌, refl, sym, ap, ◌∙◌}
use mathlib.Core.Logic.{◌≢◌, ⊎_elim}
use mathlib.Core.Bool.{Bool, true, false, ◌||◌}
use mathlib.Core.List.{List, [], ◌∷◌}
use native.Mathlib.Nat.{not-suc-le-zero, eq-or-lt_of_le, eq-zero-or-pos}
use native.Mathlib.Omega.{arith}
use lib.Dec.{eqb}
use borrow.Author.Tests.{eqb-true, eqb-false, eq-eqb, ne_eqb}
use Rattle.counting.specs.Lists.{one, total, tally, it}
use Rattle.counting.proofs.Bools.{clash}
use Rattle.counting.proofs.Range.{total_pos, total_has}
use Rattle.counting.proofs.Lists.{tally_over}
use Rattle.walk.specs.claims.Claims.{Darts, flat}
use Rattle.walk.specs.Darts.{Loop, half, rev, of_crossing}
use Rattle.walk.specs.Walk.{size, loop_at}
use Rattle.walk.proofs.Step.{same_half, half_rev}
use Rattle.walk.proofs.Iterate.{it_suc, tally_orbit}
use Rattle.walk.proofs.Curve.{inj}
use Rattle.walk.proofs.Once.{listed, at_most_once, each-once}

-- two tests that do not hold together
tally_or : (p q : ℕ → Bool) → ((d : ℕ) → p d ≡ true → q d ≡ false) → (l : List ℕ) → tally (λ d. p d || q d) l ≡ tally p l + tally q l
unfolding tally
tally_or p q apart [] = refl
tally_or p q apart (d ∷ l) = go (p d) (q d) refl refl (tally_or p q apart l)
  where
    go : (a b : Bool) → p d ≡ a → q d ≡ b → tally (λ d. p d || q d) l ≡ tally p l + tally q l → one (a || b) + tally (λ d. p d || q d) l ≡ one a + tally p l + (one b + tally q l)
    go true true e f ih = clash f (apart d e)
    go true false e f ih = omega arith
    go false true e f ih = omega arith
    go false false e f ih = omega arith

pub tally_ext : (p q : ℕ → Bool) → ((d : ℕ) → p d ≡ q d) → (l : List ℕ) → tally p l ≡ tally q l
unfolding tally
tally_ext p q e [] = refl
tally_ext p q e (d ∷ l) = rw (e d, tally_ext p q e l) refl

-- of the darts of a crossing, one and the other
rev_ne : (d : ℕ) → rev d ≢ d
unfolding rev
rev_ne d e = omega arith

crossing_darts : (a : ℕ) (l : List ℕ) → tally (of_crossing (half a)) l ≡ tally (λ d. eqb d a) l + tally (λ d. eqb d (rev a)) l
crossing_darts a l =
    tally_ext (of_crossing (half a)) (λ d. eqb d a || eqb d (rev a)) same l
    ∙ tally_or (λ d. eqb d a) (λ d. eqb d (rev a)) (λ d e. ne_eqb d (rev a) (λ q. rev_ne a (sym q ∙ eqb-true d a e))) l
  where
    same : (d : ℕ) → of_crossing (half a) d ≡ (eqb d a || eqb d (rev a))
    same d = go (eqb (half d) (half a)) (eqb d a) (eqb d (rev a)) refl refl refl
      where
        go : (x y z : Bool) → eqb (half d) (half a) ≡ x → eqb d a ≡ y → eqb d (rev a) ≡ z → x ≡ (y || z)
        go true true z e f g = refl
        go true false true e f g = refl
        go true false false e f g = ⊎_elim (λ q. absurd (eqb-false d a f q)) (λ q. absurd (eqb-false d (rev a) g q)) (same_half d a (eqb-true (half d) (half a) e))
        go false true z e f g = absurd (eqb-false (half d) (half a) e (ap half (eqb-true d a f)))
        go false false true e f g = absurd (eqb-false (half d) (half a) e (ap half (eqb-true d (rev a) g) ∙ half_rev a))
        go false false false e f g = refl

module _ (N : ℕ) (s : ℕ → ℕ) (D : Darts (2 * N) N s rev half) where
  -- the dart a is one of a listed loop
  record In (a : ℕ) : Type 0 where
    p : ℕ
    i : ℕ
    p_lt : p < N
    i_lt : i < size N s p
    is : it s i (2 * p) ≡ a

  counted : (a : ℕ) → In a → 0 < tally (λ d. eqb d a) (flat N s)
  unfolding flat loop_at
  counted a I =
      let here : tally (λ d. eqb d a) (loop_at N s I.p) ≤ tally (λ d. eqb d a) (flat N s) =
      rw (tally_over (λ d. eqb d a) (loop_at N s) N 0) (total_has (λ q. tally (λ d. eqb d a) (loop_at N s q)) N 0 I.p (omega arith) (omega (arith, I.p_lt))) in
      let g : one (eqb (it s I.i (2 * I.p)) a) ≤ total (λ k. one (eqb (it s k (2 * I.p)) a)) (size N s I.p) 0 =
      total_has (λ k. one (eqb (it s k (2 * I.p)) a)) (size N s I.p) 0 I.i (omega arith) (omega (arith, I.i_lt)) in
      omega (arith, here, g, ap one (eq-eqb (it s I.i (2 * I.p)) a I.is), tally_orbit (λ d. eqb d a) s (size N s I.p) (2 * I.p))

  counts : (a : ℕ) → 0 < tally (λ d. eqb d a) (flat N s) → In a
  unfolding flat loop_at
  counts a h =
      let (p, p0, pN, hp) = total_pos (λ q. tally (λ d. eqb d a) (loop_at N s q)) N 0 (rw (tally_over (λ d. eqb d a) (loop_at N s) N 0) at h) in
      let (i, i0, iN, hi) = total_pos (λ k. one (eqb (it s k (2 * p)) a)) (size N s p) 0 (rw (tally_orbit (λ d. eqb d a) s (size N s p) (2 * p)) at hp) in
      record { p = p; i = i; p_lt = omega arith; i_lt = omega arith; is = at p i (eqb (it s i (2 * p)) a) refl hi }
    where
      at : (p i : ℕ) (b : Bool) → eqb (it s i (2 * p)) a ≡ b → 0 < one b → it s i (2 * p) ≡ a
      at p i true e l = eqb-true (it s i (2 * p)) a e
      at p i false e l = absurd (not-suc-le-zero l)

  loop-in : {a : ℕ} (I : In a) → Loop (2 * N) s (2 * I.p) (size N s I.p)
  loop-in I = (listed N s rev D I.p I.p_lt (omega (arith, I.i_lt))).0

  -- with a dart, the next one and the one before are on its loop
  next-in : {a : ℕ} → In a → In (s a)
  unfolding it
  next-in {a} I =
      let n : it s (suc I.i) (2 * I.p) ≡ s a = it_suc s I.i (2 * I.p) ∙ ap s I.is in
      ⊎_elim
      (λ (e : suc I.i ≡ size N s I.p). (let home : it s (suc I.i) (2 * I.p) ≡ 2 * I.p = ap (λ k. it s k (2 * I.p)) e ∙ (loop-in I).home in
      record { p = I.p; i = 0; p_lt = I.p_lt; i_lt = omega (arith, I.i_lt); is = sym home ∙ n }))
      (λ (g : suc I.i < size N s I.p). record { p = I.p; i = suc I.i; p_lt = I.p_lt; i_lt = g; is = n })
      (eq-or-lt_of_le I.i_lt)

  prev_in : {a : ℕ} → In a → (b : ℕ) × In b × (s b ≡ a) × (b < 2 * N)
  unfolding it
  prev_in {a} I = go I.i I.i_lt I.is
    where
      at : (j : ℕ) → j < size N s I.p → s (it s j (2 * I.p)) ≡ a → (b : ℕ) × In b × (s b ≡ a) × (b < 2 * N)
      at j l e = (it s j (2 * I.p), record { p = I.p; i = j; p_lt = I.p_lt; i_lt = l; is = refl }, e, (loop-in I).live j (omega arith))

      go : (i : ℕ) → i < size N s I.p → it s i (2 * I.p) ≡ a → (b : ℕ) × In b × (s b ≡ a) × (b < 2 * N)
      go zero l e =
          let k = size N s I.p - 1 in
          let q : suc k ≡ size N s I.p = omega arith in
          at k (omega arith) (sym (it_suc s k (2 * I.p)) ∙ ap (λ m. it s m (2 * I.p)) q ∙ (loop-in I).home ∙ e)
      go (suc i) l e = at i (omega arith) (sym (it_suc s i (2 * I.p)) ∙ e)

  module _ (a : ℕ) (l : a < 2 * N) (on : s a < 2 * N) where
    abbrev b : ℕ
    b = rev (s a)

    abbrev A : ℕ → ℕ
    A x = tally (λ d. eqb d x) (flat N s)

    back_on : s b ≡ rev a
    back_on = D.back a l on

    rev_b : rev b ≡ s a
    rev_b = D.rv_rv (s a) on

    differ : b ≢ a
    differ e = D.s_ne a l (sym rev_b ∙ ap rev e)

    sum : tally (λ d. eqb d a || eqb d b) (flat N s) ≡ A a + A b
    sum = tally_or (λ d. eqb d a) (λ d. eqb d b) (λ d e. ne_eqb d b (λ q. differ (sym q ∙ eqb-true d a e))) (flat N s)

    at_a : A a + A (rev a) ≤ 1
    at_a = rw (crossing_darts a (flat N s)) at (at_most_once N s rev D (half a))

    at_b : A b + A (s a) ≤ 1
    at_b = let h = at_most_once N s rev D (half b) in omega (arith, crossing_darts b (flat N s), ap A rev_b)

    pub segment_most : tally (λ d. eqb d a || eqb d b) (flat N s) ≤ 1
    segment_most =
        ⊎_elim (λ (e : A b ≡ 0). omega (arith, sum, at_a))
        (λ (h : 0 < A b). (let r = counted (s b) (next-in (counts b h)) in omega (arith, sum, at_a, at_b, r, ap A back_on)))
        (eq-zero-or-pos (A b))

    pub segment_once : ((d : ℕ) → d < 2 * N → s d < 2 * N) → tally (λ d. eqb d a || eqb d b) (flat N s) ≡ 1
    segment_once total =
        let one-a : A a + A (rev a) ≡ 1 = sym (crossing_darts a (flat N s)) ∙ each-once N s rev D total (half a) (D.cr_lt a l) in
        ⊎_elim
        (λ (e : A (rev a) ≡ 0). omega (arith, sum, one-a, segment_most))
        (λ (h : 0 < A (rev a)).
        (let (c, I, q, cl) = prev_in (counts (rev a) h) in
        let same : c ≡ b = inj (2 * N) N s rev half D c b cl (D.rv_lt (s a) on) (omega (arith, q, D.rv_lt a l)) (q ∙ sym back_on) in
        omega (arith, sum, segment_most, rw same at (counted c I))))
        (eq-zero-or-pos (A (rev a)))
