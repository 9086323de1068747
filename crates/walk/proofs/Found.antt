-- The walk finds a loop from its least crossing, and every one.
use Prim.Native.Nat.{ℕ, zero, suc, ◌+◌, ◌*◌, ◌/◌, ◌≤◌, ◌<◌}
use mathlib.Core.Path.{◌≡◌, refl, sym, ap, ◌∙◌, subst}
use mathlib.Core.Logic.{◌≢◌, ⊎_elim}
use mathlib.Core.Bool.{Bool, true, false}
use native.Mathlib.Nat.{not-suc-le-zero, eq-or-lt_of_le, zero-add}
use native.Mathlib.Omega.{arith}
use lib.Dec.{eqb, ltb}
use borrow.Author.Tests.{eqb-true, eqb-false, ltb-true, ltb-false, lt-ltb, le-ltb, eq-eqb, ne_eqb}
use Rattle.counting.specs.Lists.{it}
use Rattle.walk.specs.Darts.{half, Loop}
use Rattle.walk.specs.claims.Claims.{Darts, Lowest}
use Rattle.walk.specs.Walk.{Status, home, off, on, status, judge, turn, size}
use Rattle.walk.proofs.Iterate.{it_suc}
use Rattle.walk.proofs.Curve.{no_return, distinct}

module _ (s : ℕ → ℕ) (at : ℕ → Status) where
  pub turn_home : (n k d : ℕ) → at d ≡ home → turn s at (suc n) k d ≡ k
  unfolding turn
  turn_home n k d e = rw (e, turn)

  pub turn_off : (n k d : ℕ) → at d ≡ off → turn s at (suc n) k d ≡ 0
  unfolding turn
  turn_off n k d e = rw (e, turn)

  pub turn_on : (n k d : ℕ) → at d ≡ on → turn s at (suc n) k d ≡ turn s at n (suc k) (s d)
  unfolding turn
  turn_on n k d e = rw (e, turn)

module _ (s : ℕ → ℕ) (at : ℕ → Status) where
  -- a walk from d that comes home after j steps, within n
  pub record Came (n d j : ℕ) : Type 0 where
    pub within : j < n
    pub last : at (it s j d) ≡ home
    pub way : (i : ℕ) → i < j → at (it s i d) ≡ on

  pub came : (n k d r : ℕ) → turn s at n k d ≡ suc r → (j : ℕ) × (suc r ≡ k + j) × Came n d j
  unfolding turn it
  came zero k d r e = absurd (omega (arith, e))
  came (suc n) k d r e = go (came n (suc k) (s d) r) (at d) refl
    where
      go : (turn s at n (suc k) (s d) ≡ suc r → (j : ℕ) × (suc r ≡ suc k + j) × Came n (s d) j)
          → (x : Status) → at d ≡ x → (j : ℕ) × (suc r ≡ k + j) × Came (suc n) d j
      go ih home q = (0, omega (arith, e, turn_home s at n k d q), record { within = omega arith; last = q; way = λ i h. absurd (not-suc-le-zero h) })
      go ih off q = absurd (omega (arith, e, turn_off s at n k d q))
      go ih on q =
          let (j, f, w) = ih (sym (turn_on s at n k d q) ∙ e) in
          (suc j, omega arith, record { within = omega (arith, w.within); last = w.last; way = way q w.way })
        where
          way : {j : ℕ} → at d ≡ on → ((i : ℕ) → i < j → at (it s i (s d)) ≡ on) → (i : ℕ) → i < suc j → at (it s i d) ≡ on
          way q h zero l = q
          way q h (suc i) l = h i (omega arith)

  pub comes : (n k d j : ℕ) → Came n d j → turn s at n k d ≡ k + j
  unfolding it
  comes zero k d j c = absurd (not-suc-le-zero c.within)
  comes (suc n) k d zero c = turn_home s at n k d c.last ∙ omega arith
  comes (suc n) k d (suc j) c =
      turn_on s at n k d (c.way 0 (omega arith))
      ∙ comes n (suc k) (s d) j (record { within = omega (arith, c.within); last = c.last; way = λ i h. c.way (suc i) (omega arith) })
      ∙ omega arith

-- what a place says, both ways
abbrev Says : ℕ → ℕ → ℕ → Status → Type 0
Says M p d home = (d < M) × (d / 2 ≡ p)
Says M p d off = Unit {0}
Says M p d on = (d < M) × (p < d / 2)

says : (M p d : ℕ) (x : Status) → status M p d ≡ x → Says M p d x
unfolding status
says M p d x e = subst (Says M p d) e (go (ltb d M) (ltb (d / 2) p) (eqb (d / 2) p) refl refl refl)
  where
    go : (a b c : Bool) → ltb d M ≡ a → ltb (d / 2) p ≡ b → eqb (d / 2) p ≡ c → Says M p d (judge a b c)
    go false b c u v w = tt
    go true true c u v w = tt
    go true false true u v w = (ltb-true d M u, eqb-true (d / 2) p w)
    go true false false u v w = (ltb-true d M u, omega (arith, ltb-false (d / 2) p v, eqb-false (d / 2) p w))

pub home_place : (M p d : ℕ) → d < M → d / 2 ≡ p → status M p d ≡ home
unfolding status
home_place M p d l q = rw (lt-ltb d M l, le-ltb (d / 2) p (omega arith), eq-eqb (d / 2) p q)

pub on_place : (M p d : ℕ) → d < M → p < d / 2 → status M p d ≡ on
unfolding status
on_place M p d l q = rw (lt-ltb d M l, le-ltb (d / 2) p (omega arith), ne_eqb (d / 2) p (λ e. omega arith))

module _ (N : ℕ) (s rv : ℕ → ℕ) (D : Darts (2 * N) N s rv half) where
  -- a curve that is above p's crossing until it is back there is a loop, with p the least
  loop-of : (p r : ℕ) → p < N → it s (suc r) (2 * p) < 2 * N → it s (suc r) (2 * p) / 2 ≡ p
      → ((i : ℕ) → i < r → (it s (suc i) (2 * p) < 2 * N) × (p < it s (suc i) (2 * p) / 2))
      → Loop (2 * N) s (2 * p) (suc r) × Lowest s half (2 * p) (suc r)
  unfolding it
  loop-of p r l le end way = (record { pos = omega arith; live = live; home = back; first = first }, λ x o. lowest o.at x o.at_lt o.is)
    where
      live : (i : ℕ) → i ≤ suc r → it s i (2 * p) < 2 * N
      live zero h = omega arith
      live (suc i) h = ⊎_elim (λ (q : i ≡ r). rw q le) (λ (g : i < r). (way i g).0) (eq-or-lt_of_le (omega arith))

      back : it s (suc r) (2 * p) ≡ 2 * p
      back =
          ⊎_elim (λ q. q) (λ (q : it s (suc r) (2 * p) ≡ rv (2 * p)). absurd (no_return (2 * N) N s rv half D (2 * p) 0 (suc r)
          (λ i h. live i (omega arith)) (rw zero-add q)))
          (D.same (it s (suc r) (2 * p)) (2 * p) le (omega arith) (omega arith))

      first : (i : ℕ) → 0 < i → i < suc r → it s i (2 * p) ≢ 2 * p
      first zero z h e = absurd (not-suc-le-zero z)
      first (suc i) z h e = omega (arith, (way i (omega arith)).1, e)

      lowest : (i x : ℕ) → i < suc r → half (it s i (2 * p)) ≡ x → half (2 * p) ≤ x
      lowest zero x h e = omega (arith, e)
      lowest (suc i) x h e = omega (arith, (way i (omega arith)).1, e)

  -- where the walk from p answers k and not 0, p's curve is a loop of k crossings with p the least
  pub found : (p r : ℕ) → p < N → size N s p ≡ suc r → Loop (2 * N) s (2 * p) (suc r) × Lowest s half (2 * p) (suc r)
  unfolding size it
  found p r l e = go (came s (status (2 * N) p) N 1 (s (2 * p)) r e)
    where
      at_end : (j : ℕ) → suc r ≡ 1 + j → status (2 * N) p (it s j (s (2 * p))) ≡ home → status (2 * N) p (it s r (s (2 * p))) ≡ home
      at_end j f h = let same : j ≡ r = omega arith in subst (λ x. status (2 * N) p (it s x (s (2 * p))) ≡ home) same h

      go : (j : ℕ) × (suc r ≡ 1 + j) × Came s (status (2 * N) p) N (s (2 * p)) j
          → Loop (2 * N) s (2 * p) (suc r) × Lowest s half (2 * p) (suc r)
      go w =
          let end = says (2 * N) p (it s r (s (2 * p))) home (at_end w.0 w.1 w.2.last) in
          loop-of p r l end.0 end.1 (λ i h. says (2 * N) p (it s i (s (2 * p))) on (w.2.way i (omega (arith, w.1))))

  -- and the walk finds each such loop
  pub finds : (p k : ℕ) → k ≤ N → p < N → Loop (2 * N) s (2 * p) k → Lowest s half (2 * p) k → size N s p ≡ k
  unfolding size it
  finds p zero h l L low = absurd (not-suc-le-zero L.pos)
  finds p (suc r) h l L low =
      comes s (status (2 * N) p) N 1 (s (2 * p)) r (record {
        within = h;
        last = rw L.home (home_place (2 * N) p (2 * p) (omega arith) (omega arith));
        way = λ i g. on_place (2 * N) p (it s i (s (2 * p))) (L.live (suc i) (omega arith)) (above i g);
      })
      ∙ omega arith
    where
      above : (i : ℕ) → i < r → p < it s i (s (2 * p)) / 2
      above i g =
          omega (
            arith,
            low (half (it s (suc i) (2 * p))) (record { at = suc i; at_lt = omega arith; is = refl }),
            distinct (2 * N) N s rv half D (2 * p) r (λ j a. L.live j (omega arith)) (λ j z a. L.first j z (omega arith)) 0 (suc i) (omega arith) g,
          )

-- the darts of a loop that the walk finds are live
pub size_live : (N : ℕ) (s : ℕ → ℕ) (p i : ℕ) → p < N → i < size N s p → it s i (2 * p) < 2 * N
unfolding size it
size_live N s p zero l h = omega arith
size_live N s p (suc i) l h = go (size N s p) refl h
  where
    go : (k : ℕ) → size N s p ≡ k → suc i < k → it s i (s (2 * p)) < 2 * N
    go zero e g = absurd (not-suc-le-zero g)
    go (suc r) e g =
        let (j, f, c) = came s (status (2 * N) p) N 1 (s (2 * p)) r e in
        (says (2 * N) p (it s i (s (2 * p))) on (c.way i (omega arith))).0

-- steps that agree on the darts below 2 * N take the same walks, and find the same loops
module _ (N : ℕ) (s t : ℕ → ℕ) (same : (d : ℕ) → d < 2 * N → s d ≡ t d) where
  pub it_ext : (k d : ℕ) → ((i : ℕ) → i < k → it s i d < 2 * N) → it s k d ≡ it t k d
  unfolding it
  it_ext zero d h = refl
  it_ext (suc k) d h =
      it_suc s k d ∙ same (it s k d) (h k (omega arith)) ∙ ap t (it_ext k d (λ i l. h i (omega arith))) ∙ sym (it_suc t k d)

  turn_ext : (p n k d : ℕ) → turn s (status (2 * N) p) n k d ≡ turn t (status (2 * N) p) n k d
  unfolding turn
  turn_ext p zero k d = refl
  turn_ext p (suc n) k d = go (turn_ext p n (suc k) (s d)) (status (2 * N) p d) refl
    where
      go : turn s (status (2 * N) p) n (suc k) (s d) ≡ turn t (status (2 * N) p) n (suc k) (s d)
          → (x : Status) → status (2 * N) p d ≡ x → turn s (status (2 * N) p) (suc n) k d ≡ turn t (status (2 * N) p) (suc n) k d
      go ih home e = turn_home s (status (2 * N) p) n k d e ∙ sym (turn_home t (status (2 * N) p) n k d e)
      go ih off e = turn_off s (status (2 * N) p) n k d e ∙ sym (turn_off t (status (2 * N) p) n k d e)
      go ih on e =
          turn_on s (status (2 * N) p) n k d e ∙ ih ∙ ap (turn t (status (2 * N) p) n (suc k)) (same d (says (2 * N) p d on e).0)
          ∙ sym (turn_on t (status (2 * N) p) n k d e)

  pub size_ext : (p : ℕ) → p < N → size N s p ≡ size N t p
  unfolding size
  size_ext p l = turn_ext p N 1 (s (2 * p)) ∙ ap (turn t (status (2 * N) p) N 1) (same (2 * p) (omega arith))
