-- A cell's step is undone by turning round.
use Prim.Native.Nat.{ℕ, ◌+◌, ◌*◌, ◌/◌, ◌%◌, ◌≤◌, ◌<◌}
use mathlib.Core.Path.{◌≡◌, refl, sym, ap, ◌∙◌, subst}
use mathlib.Core.Logic.{◌⊎◌, inl, inr, ◌≢◌, ⊎_elim}
use mathlib.Core.Bool.{Bool, true, false}
use native.Mathlib.Omega.{arith}
use lib.Dec.{eqb, ltb}
use borrow.Author.Tests.{eqb-true, eqb-false, ltb-true, ltb-false, lt-ltb, le-ltb, eq-eqb, ne_eqb}
use Rattle.walk.specs.Darts.{half, rev}
use Rattle.walk.specs.claims.Claims.{Darts}
use Rattle.walk.specs.Step.{face, land, step}
use Rattle.walk.specs.claims.Step.{Ports}

pub rev_first : (c : ℕ) → rev (2 * c) ≡ 2 * c + 1
unfolding rev
rev_first c = omega arith

pub rev_second : (c : ℕ) → rev (2 * c + 1) ≡ 2 * c
unfolding rev
rev_second c = omega arith

-- what holds of each crossing's two darts holds of every dart
pub by_parity : (N : ℕ) (P : ℕ → Type 0) → ((c : ℕ) → c < N → P (2 * c)) → ((c : ℕ) → c < N → P (2 * c + 1)) → (d : ℕ) → d < 2 * N → P d
by_parity N P even odd d l = go (eqb (d % 2) 0) refl
  where
    go : (b : Bool) → eqb (d % 2) 0 ≡ b → P d
    go true e = let h : 2 * (d / 2) ≡ d = omega (arith, eqb-true (d % 2) 0 e) in subst P h (even (d / 2) (omega arith))
    go false e = let h : 2 * (d / 2) + 1 ≡ d = omega (arith, eqb-false (d % 2) 0 e) in subst P h (odd (d / 2) (omega arith))

pub same_half : (d e : ℕ) → half d ≡ half e → (d ≡ e) ⊎ (d ≡ rev e)
unfolding rev
same_half d e h = go (eqb d e) refl
  where
    go : (b : Bool) → eqb d e ≡ b → (d ≡ e) ⊎ (d ≡ rev e)
    go true q = inl (eqb-true d e q)
    go false q = inr (omega (arith, eqb-false d e q))

pub rev_rev : (d : ℕ) → rev (rev d) ≡ d
unfolding rev
rev_rev d = omega arith

pub rev_lt : (N d : ℕ) → d < 2 * N → rev d < 2 * N
unfolding rev
rev_lt N d l = omega arith

pub half_rev : (d : ℕ) → half (rev d) ≡ half d
unfolding rev
half_rev d = omega arith

-- a step on them, of N crossings, that is undone by turning round and never comes back to its crossing
pub rev_darts : (N : ℕ) (s : ℕ → ℕ) → ((d : ℕ) → d < 2 * N → s d < 2 * N → s (rev (s d)) ≡ rev d) → ((d : ℕ) → d < 2 * N → s d ≢ rev d)
    → Darts (2 * N) N s rev half
unfolding rev
rev_darts N s back ne = record {
  rv_lt = λ d l. rev_lt N d l;
  rv_rv = λ d l. rev_rev d;
  rv_ne = λ d l e. omega (arith, e);
  back = back;
  s_ne = ne;
  cr_lt = λ d l. omega arith;
  cr_rv = λ d l. half_rev d;
  same = λ d e a b h. same_half d e h;
}

module _ (N : ℕ) (fa fb : ℕ → ℕ) (mate : ℕ → ℕ → ℕ) where
  abbrev fc : ℕ → ℕ
  fc = face N fa fb mate

  abbrev ld : ℕ → ℕ → ℕ
  ld = land N fa fb mate

  abbrev st : ℕ → ℕ
  st = step N fa fb mate

  -- come to by its first face, a crossing is left by its second, and the other way
  pub land_first : (f c : ℕ) → c < N → fa c ≡ f → ld f c ≡ 2 * c + 1
  unfolding land
  land_first f c l e = rw (lt-ltb c N l, eq-eqb (fa c) f e)

  pub land_second : (f c : ℕ) → c < N → fa c ≢ f → ld f c ≡ 2 * c
  unfolding land
  land_second f c l e = rw (lt-ltb c N l, ne_eqb (fa c) f e)

  land_end : (f c : ℕ) → N ≤ c → ld f c ≡ 2 * N
  unfolding land
  land_end f c l = rw (le-ltb c N l)

  pub face_first : (c : ℕ) → fc (2 * c) ≡ fa c
  unfolding face
  face_first c = let e : 2 * c / 2 ≡ c = omega arith in rw (eq-eqb (2 * c % 2) 0 (omega arith), e)

  pub face_second : (c : ℕ) → fc (2 * c + 1) ≡ fb c
  unfolding face
  face_second c = let e : (2 * c + 1) / 2 ≡ c = omega arith in rw (ne_eqb ((2 * c + 1) % 2) 0 (λ z. omega arith), e)

  pub land_half : (f c : ℕ) → c < N → ld f c / 2 ≡ c
  land_half f c l = go (eqb (fa c) f) refl
    where
      go : (b : Bool) → eqb (fa c) f ≡ b → ld f c / 2 ≡ c
      go true e = rw (land_first f c l (eqb-true (fa c) f e)) (omega arith)
      go false e = rw (land_second f c l (eqb-false (fa c) f e)) (omega arith)

  -- the other dart of the one that goes on leaves by the face come by
  pub land_face : (f c : ℕ) → c < N → (fa c ≡ f) ⊎ (fb c ≡ f) → fc (rev (ld f c)) ≡ f
  land_face f c l o = go (eqb (fa c) f) refl
    where
      go : (b : Bool) → eqb (fa c) f ≡ b → fc (rev (ld f c)) ≡ f
      go true e = rw (land_first f c l (eqb-true (fa c) f e), rev_second, face_first) (eqb-true (fa c) f e)
      go false e = rw (land_second f c l (eqb-false (fa c) f e), rev_first, face_second) (⊎_elim (λ q. absurd (eqb-false (fa c) f e q)) (λ q. q) o)

  module _ (C : Ports N fa fb mate) where
    -- a crossing come to by the face that a dart leaves by is left by its other dart
    land_back : (d : ℕ) → d < 2 * N → ld (fc d) (d / 2) ≡ rev d
    land_back = by_parity N (λ d. ld (fc d) (d / 2) ≡ rev d)
        (λ c l. let h : 2 * c / 2 ≡ c = omega arith in rw (h, face_first, rev_first) (land_first (fa c) c l refl))
        (λ c l. let h : (2 * c + 1) / 2 ≡ c = omega arith in rw (h, face_second, rev_second) (land_second (fb c) c l (C.apart c l)))

    -- where a step goes on, it goes on at the mate
    pub live : (d : ℕ) → st d < 2 * N → mate (fc d) (d / 2) < N
    unfolding step
    live d h = go (ltb (mate (fc d) (d / 2)) N) refl
      where
        go : (b : Bool) → ltb (mate (fc d) (d / 2)) N ≡ b → mate (fc d) (d / 2) < N
        go true e = ltb-true (mate (fc d) (d / 2)) N e
        go false e = absurd (omega (arith, land_end (fc d) (mate (fc d) (d / 2)) (ltb-false (mate (fc d) (d / 2)) N e), h))

    back : (d : ℕ) → d < 2 * N → st d < 2 * N → st (rev (st d)) ≡ rev d
    unfolding step
    back d l h =
        let m = live d h in
        let f : fc (rev (st d)) ≡ fc d = land_face (fc d) (mate (fc d) (d / 2)) m (C.lies d l m) in
        let c : rev (st d) / 2 ≡ mate (fc d) (d / 2) = half_rev (st d) ∙ land_half (fc d) (mate (fc d) (d / 2)) m in
        rw (f, c, C.both d l m) (land_back d l)

    step_ne : (d : ℕ) → d < 2 * N → st d ≢ rev d
    unfolding step rev
    step_ne d l e =
        let h : st d < 2 * N = omega (arith, e) in
        C.other d l (sym (land_half (fc d) (mate (fc d) (d / 2)) (live d h)) ∙ ap half e ∙ half_rev d)

    pub darts : Darts (2 * N) N st rev half
    darts = rev_darts N st back step_ne
