-- Places glued in pairs. Place q is a corner and the side from it to the corner of `nxt q`; each side is that of two places, q and `tw q`, with
-- the same ends. A corner then has two darts, its own side and the side before: crossing a side to the other place at the same point, and
-- leaving by the other side there, is a step of `walk`'s kind. So the corners at a point close up in rings, in one where they are all joined.
use Prim.Native.Nat.{ℕ, zero, suc, ◌+◌, ◌*◌, ◌/◌, ◌%◌, ◌<◌}
use mathlib.Core.Path.{◌≡◌, refl, sym, ap, ◌∙◌, subst}
use mathlib.Core.Logic.{◌⊎◌, inl, inr, ◌≢◌, ⊎_elim}
use mathlib.Core.Bool.{Bool, true, false}
use native.Mathlib.Omega.{arith}
use lib.Dec.{eqb}
use borrow.Author.Tests.{eq-eqb, ne_eqb}
use Rattle.counting.specs.Pick.{pick}
use Rattle.counting.specs.Lists.{it}
use Rattle.walk.specs.Darts.{half, rev, Loop, On}
use Rattle.walk.specs.claims.Claims.{Darts}
use Rattle.walk.proofs.Curve.{all_close, on_step}
use Rattle.walk.proofs.Step.{by_parity, rev_rev, rev_lt, half_rev, rev_darts}
use Rattle.manifold.specs.Triangle.{Corner, Side}
use Rattle.manifold.specs.work.Triangle.{alike}
use Rattle.manifold.proofs.Triangle.{alike_true, alike_false}

pub record Glued (N : ℕ) (nxt prv : ℕ → ℕ) (sd : ℕ → Side) (cn : ℕ → Corner) (tw : ℕ → ℕ) : Type 0 where
  pub nxt_lt : (q : ℕ) → q < N → nxt q < N
  pub prv_lt : (q : ℕ) → q < N → prv q < N
  pub nxt_prv : (q : ℕ) → q < N → nxt (prv q) ≡ q
  pub prv_nxt : (q : ℕ) → q < N → prv (nxt q) ≡ q
  pub differ : (q : ℕ) → q < N → cn q ≢ cn (nxt q)
  pub tw_lt : (q : ℕ) → q < N → tw q < N
  pub tw_ne : (q : ℕ) → q < N → tw q ≢ q
  pub tw_tw : (q : ℕ) → q < N → tw (tw q) ≡ q
  pub sd_tw : (q : ℕ) → q < N → sd (tw q) ≡ sd q
  pub only : (q r : ℕ) → q < N → r < N → sd r ≡ sd q → (r ≡ q) ⊎ (r ≡ tw q)
  pub ends : (q : ℕ) → q < N → ((cn (tw q) ≡ cn q) × (cn (nxt (tw q)) ≡ cn (nxt q))) ⊎ ((cn (tw q) ≡ cn (nxt q)) × (cn (nxt (tw q)) ≡ cn q))

-- the place of the side that a dart leaves its corner by: its own, or the one before
unfoldable pub exit : (ℕ → ℕ) → ℕ → ℕ
exit prv d = pick (eqb (d % 2) 0) (d / 2) (prv (d / 2))

pub exit_even : (prv : ℕ → ℕ) (q : ℕ) → exit prv (2 * q) ≡ q
unfolding exit
exit_even prv q = rw (eq-eqb (2 * q % 2) 0 (omega arith)) (omega arith)

pub exit_odd : (prv : ℕ → ℕ) (q : ℕ) → exit prv (2 * q + 1) ≡ prv q
unfolding exit
exit_odd prv q = let e : (2 * q + 1) / 2 ≡ q = omega arith in rw (ne_eqb ((2 * q + 1) % 2) 0 (λ z. omega arith), e)

-- two corners meet: a side of one is a side of the other
abbrev pub Meet : (ℕ → ℕ) → (ℕ → Side) → ℕ → ℕ → Type 0
Meet prv sd q r = (d : ℕ) × (e : ℕ) × (d / 2 ≡ q) × (e / 2 ≡ r) × (sd (exit prv d) ≡ sd (exit prv e))

-- what holds of one corner at g, and passes on where two meet, holds of all
abbrev pub CornersLinked : ℕ → (ℕ → ℕ) → (ℕ → Side) → (ℕ → Corner) → Corner → Type 1
CornersLinked N prv sd cn g =
    (Q : ℕ → Type 0) → ((q r : ℕ) → q < N → r < N → cn q ≡ g → cn r ≡ g → Meet prv sd q r → Q q → Q r)
    → (q r : ℕ) → q < N → r < N → cn q ≡ g → cn r ≡ g → Q q → Q r

module _ (N : ℕ) (nxt prv : ℕ → ℕ) (sd : ℕ → Side) (cn : ℕ → Corner) (tw : ℕ → ℕ) where
  -- the dart of the other place of the same side that is at the same point
  unfoldable pub partner : ℕ → ℕ
  unfolding exit
  partner d = pick (alike (cn (tw (exit prv d))) (cn (d / 2))) (2 * tw (exit prv d)) (2 * nxt (tw (exit prv d)) + 1)

  -- over that side, and on to the other side of the corner there
  unfoldable pub turn : ℕ → ℕ
  unfolding partner
  turn d = rev (partner d)

  module _ (G : Glued N nxt prv sd cn tw) where
    exit_lt : (d : ℕ) → d < 2 * N → exit prv d < N
    exit_lt = by_parity N (λ d. exit prv d < N) (λ q l. rw (exit_even prv q) l) (λ q l. rw (exit_odd prv q) (G.prv_lt q l))

    -- a dart is at one end of the side that it leaves by
    End : ℕ → Type 0
    End d = ((d ≡ 2 * exit prv d) × (cn (d / 2) ≡ cn (exit prv d))) ⊎ ((d ≡ 2 * nxt (exit prv d) + 1) × (cn (d / 2) ≡ cn (nxt (exit prv d))))

    end : (d : ℕ) → d < 2 * N → End d
    unfolding End
    end = by_parity N End
        (λ q l. let e : 2 * q / 2 ≡ q = omega arith in inl (rw (exit_even prv q) (refl, ap cn e)))
        (λ q l. let e : (2 * q + 1) / 2 ≡ q = omega arith in inr (rw (exit_odd prv q, G.nxt_prv q l) (refl, ap cn e)))

    -- and is the only one of that place and point
    unique : (d e : ℕ) → d < 2 * N → e < 2 * N → exit prv d ≡ exit prv e → cn (d / 2) ≡ cn (e / 2) → d ≡ e
    unfolding End
    unique d e l m s p = go (end d l) (end e m)
      where
        go : End d → End e → d ≡ e
        go (inl a) (inl b) = a.0 ∙ ap (λ x. 2 * x) s ∙ sym b.0
        go (inl a) (inr b) = absurd (G.differ (exit prv e) (exit_lt e m) (ap cn (sym s) ∙ sym a.1 ∙ p ∙ b.1))
        go (inr a) (inl b) = absurd (G.differ (exit prv d) (exit_lt d l) (ap cn s ∙ sym b.1 ∙ sym p ∙ a.1))
        go (inr a) (inr b) = a.0 ∙ ap (λ x. 2 * nxt x + 1) s ∙ sym b.0

    -- the point of a dart that is not the first end of the other place is its second
    far : (d : ℕ) → d < 2 * N → cn (tw (exit prv d)) ≢ cn (d / 2) → cn (nxt (tw (exit prv d))) ≡ cn (d / 2)
    unfolding End
    far d l ne = go (end d l) (G.ends (exit prv d) (exit_lt d l))
      where
        r : ℕ
        r = exit prv d

        go : End d → ((cn (tw r) ≡ cn r) × (cn (nxt (tw r)) ≡ cn (nxt r))) ⊎ ((cn (tw r) ≡ cn (nxt r)) × (cn (nxt (tw r)) ≡ cn r)) → cn (nxt (tw r)) ≡ cn (d / 2)
        go (inl a) (inl b) = absurd (ne (b.0 ∙ sym a.1))
        go (inl a) (inr b) = b.1 ∙ sym a.1
        go (inr a) (inl b) = b.1 ∙ sym a.1
        go (inr a) (inr b) = absurd (ne (b.0 ∙ sym a.1))

    Partner : ℕ → ℕ → Type 0
    Partner d e = (e < 2 * N) × (exit prv e ≡ tw (exit prv d)) × (cn (e / 2) ≡ cn (d / 2))

    partner_is : (d : ℕ) → d < 2 * N → Partner d (partner d)
    unfolding Partner partner
    partner_is d l = go (alike (cn (tw (exit prv d))) (cn (d / 2))) refl
      where
        r : ℕ
        r = tw (exit prv d)

        lr : tw (exit prv d) < N
        lr = G.tw_lt (exit prv d) (exit_lt d l)

        go : (b : Bool) → alike (cn (tw (exit prv d))) (cn (d / 2)) ≡ b → Partner d (pick b (2 * tw (exit prv d)) (2 * nxt (tw (exit prv d)) + 1))
        go true e =
            let h : 2 * r / 2 ≡ r = omega arith in
            (omega (arith, lr), exit_even prv r, ap cn h ∙ alike_true (cn r) (cn (d / 2)) e)
        go false e =
            let h : (2 * nxt r + 1) / 2 ≡ nxt r = omega arith in
            (omega (arith, G.nxt_lt r lr), exit_odd prv (nxt r) ∙ G.prv_nxt r lr, ap cn h ∙ far d l (alike_false (cn r) (cn (d / 2)) e))

    partner_twice : (d : ℕ) → d < 2 * N → partner (partner d) ≡ d
    unfolding Partner
    partner_twice d l =
        let (m, s, p) = partner_is d l in
        let (m', s', p') = partner_is (partner d) m in
        unique (partner (partner d)) d m' l (s' ∙ ap tw s ∙ G.tw_tw (exit prv d) (exit_lt d l)) (p' ∙ p)

    partner_ne : (d : ℕ) → d < 2 * N → partner d ≢ d
    unfolding Partner
    partner_ne d l e = G.tw_ne (exit prv d) (exit_lt d l) (sym (partner_is d l).1 ∙ ap (exit prv) e)

    pub corner_darts : Darts (2 * N) N turn rev half
    unfolding turn Partner
    corner_darts = rev_darts N turn (λ d l h. rw (rev_rev (partner d), partner_twice d l))
        (λ d l e. partner_ne d l (sym (rev_rev (partner d)) ∙ ap rev e ∙ rev_rev d))

    turn_lt : (d : ℕ) → d < 2 * N → turn d < 2 * N
    unfolding turn Partner
    turn_lt d l = rev_lt N (partner d) (partner_is d l).0

    turn_point : (d : ℕ) → d < 2 * N → cn (turn d / 2) ≡ cn (d / 2)
    unfolding turn Partner
    turn_point d l = ap cn (half_rev (partner d)) ∙ (partner_is d l).2

    -- the side by which a dart leaves is the one by which the next corner is entered
    pub turn_side : (d : ℕ) → d < 2 * N → sd (exit prv (rev (turn d))) ≡ sd (exit prv d)
    unfolding turn Partner
    turn_side d l = rw (rev_rev (partner d), (partner_is d l).1) (G.sd_tw (exit prv d) (exit_lt d l))

    pub point_on : (i d : ℕ) → d < 2 * N → (it turn i d < 2 * N) × (cn (it turn i d / 2) ≡ cn (d / 2))
    unfolding it
    point_on zero d l = (l, refl)
    point_on (suc i) d l = let (m, p) = point_on i (turn d) (turn_lt d l) in (m, p ∙ turn_point d l)

    -- what meets a corner of a ring is on it
    meets : {d k : ℕ} → Loop (2 * N) turn d k → (q r : ℕ) → q < N → r < N → cn q ≡ cn r → Meet prv sd q r → On turn half d k q → On turn half d k r
    unfolding turn Partner
    meets {d} {k} L q r lq lr c (a, b, ea, eb, e) o =
        let la : a < 2 * N = omega arith in
        let lb : b < 2 * N = omega arith in
        let p : cn (b / 2) ≡ cn (a / 2) = ap cn eb ∙ sym c ∙ ap cn (sym ea) in
        ⊎_elim
        (λ (w : exit prv b ≡ exit prv a). subst (λ x. On turn half d k x) (sym ea ∙ ap half (sym (unique b a lb la w p)) ∙ eb) o)
        (λ (w : exit prv b ≡ tw (exit prv a)).
        let same : b ≡ partner a = unique b (partner a) lb (partner_is a la).0 (w ∙ sym (partner_is a la).1) (p ∙ sym (partner_is a la).2) in
        subst (λ x. On turn half d k x) (half_rev (partner a) ∙ ap half (sym same) ∙ eb)
        (on_step (2 * N) N turn rev half corner_darts L a la (subst (λ x. On turn half d k x) (sym ea) o)))
        (G.only (exit prv a) (exit prv b) (exit_lt a la) (exit_lt b lb) (sym e))

    -- so where all corners at g are joined, the ring from any of them has all
    pub ring_of : (g : Corner) → CornersLinked N prv sd cn g → (d : ℕ) → d < 2 * N → cn (d / 2) ≡ g
        → (k : ℕ) × Loop (2 * N) turn d k × ((r : ℕ) → r < N → cn r ≡ g → On turn half d k r)
    unfolding it
    ring_of g j d l at =
        let (k, le, L) = all_close (2 * N) N turn rev half corner_darts turn_lt d l in (
          k,
          L,
          λ r lr e. j (λ q. On turn half d k q) (λ q r' a b u v m o. meets L q r' a b (u ∙ sym v) m o) (d / 2) r (omega arith) lr at e
              (record { at = 0; at_lt = L.pos; is = refl }),
        )
