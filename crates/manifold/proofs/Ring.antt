-- A list of triangles in which each side occurs twice: where the triangles at a point are joined, they form one ring there (for steps 6 and 7).
use Prim.Native.Nat.{ℕ, suc, ◌+◌, ◌*◌, ◌/◌, ◌%◌, ◌<◌}
use mathlib.Core.Path.{◌≡◌, refl, sym, ap, ◌∙◌, subst}
use mathlib.Core.Bool.{Bool, true, false}
use mathlib.Core.List.{List}
use native.Mathlib.Omega.{arith}
use lib.Dec.{eqb}
use lib.ListN.{length}
use borrow.Author.Tests.{eqb-true, eqb-false}
use Rattle.counting.specs.Lists.{one, total, it}
use Rattle.counting.specs.work.Stored.{weigh}
use Rattle.counting.proofs.Range.{total_ext, total_three}
use Rattle.counting.proofs.Lists.{weigh_get_d}
use Rattle.walk.specs.Darts.{half, rev, Loop}
use Rattle.walk.proofs.Iterate.{it_suc}
use Rattle.walk.proofs.Curve.{loop_distinct}
use Rattle.walk.proofs.Step.{rev_first, rev_second, by_parity}
use Rattle.manifold.specs.Triangle.{Corner, Side, prev, same}
use Rattle.manifold.specs.work.Triangle.{next}
use Rattle.manifold.specs.claims.Plain.{Tri, corner_of, side_of, no_tri, nth, OneRing}
use Rattle.manifold.specs.work.Plain.{Passes}
use Rattle.manifold.proofs.Triangle.{hits, hits_is}
use Rattle.manifold.proofs.Sound.{Member, member, Sound, corner_once, forward, backward}
use Rattle.manifold.proofs.Together.{port, Here, Spreads, Together}
use Rattle.manifold.proofs.Glue.{Glued, exit, exit_even, exit_odd, CornersLinked, turn, corner_darts, turn_side, point_on, ring_of}
use Rattle.manifold.proofs.Twin.{twin, twin_is, twin_only, twin_twice}

-- each side of a triangle occurs twice
pub record Closed (mesh : List Tri) : Type 0 where
  pub sound : Sound mesh
  pub twice : (v : Tri) (i : ℕ) → Member mesh v → i < 3 → weigh (hits (side_of v i)) mesh ≡ 2

-- places: three to a triangle
abbrev side_at : List Tri → ℕ → Side
side_at mesh q = side_of (nth mesh (q / 3)) (q % 3)

abbrev corner_at : List Tri → ℕ → Corner
corner_at mesh q = corner_of (nth mesh (q / 3)) (q % 3)

abbrev nxt : ℕ → ℕ
nxt q = 3 * (q / 3) + next (q % 3)

abbrev prv : ℕ → ℕ
prv q = 3 * (q / 3) + prev (q % 3)

module _ (mesh : List Tri) where
  -- what stands at place j of triangle t
  side-at : (t j : ℕ) → j < 3 → side_at mesh (3 * t + j) ≡ side_of (nth mesh t) j
  side-at t j l = let a : (3 * t + j) / 3 ≡ t = omega arith in let b : (3 * t + j) % 3 ≡ j = omega arith in rw (a, b)

  corner-at : (t j : ℕ) → j < 3 → corner_at mesh (3 * t + j) ≡ corner_of (nth mesh t) j
  corner-at t j l = let a : (3 * t + j) / 3 ≡ t = omega arith in let b : (3 * t + j) % 3 ≡ j = omega arith in rw (a, b)

  count : (σ : Side) → weigh (hits σ) mesh ≡ total (λ r. one (same σ (side_at mesh r))) (3 * length mesh) 0
  count σ =
      weigh_get_d (hits σ) no_tri mesh
      ∙ total_ext (λ t. hits σ (nth mesh t)) (λ t. f (3 * t) + f (3 * t + 1) + f (3 * t + 2)) (length mesh) 0 (λ t a b. at t)
      ∙ sym (total_three f (length mesh) 0)
    where
      f : ℕ → ℕ
      f r = one (same σ (side_at mesh r))

      at : (t : ℕ) → hits σ (nth mesh t) ≡ f (3 * t) + f (3 * t + 1) + f (3 * t + 2)
      at t =
          let a : (3 * t) / 3 ≡ t = omega arith in let b : (3 * t) % 3 ≡ 0 = omega arith in
          hits_is σ (nth mesh t) ∙ rw (a, b, side-at t 1 (omega arith), side-at t 2 (omega arith))

  module _ (S : Closed mesh) where
    two : (q : ℕ) → q < 3 * length mesh → total (λ r. one (same (side_at mesh q) (side_at mesh r))) (3 * length mesh) 0 ≡ 2
    two q l = sym (count (side_at mesh q)) ∙ S.twice (nth mesh (q / 3)) (q % 3) (member mesh (q / 3) (omega arith)) (omega arith)

    tw : ℕ → ℕ
    tw = twin (3 * length mesh) (side_at mesh)

    corner_nxt : (q : ℕ) → corner_at mesh (nxt q) ≡ corner_of (nth mesh (q / 3)) (next (q % 3))
    corner_nxt q = corner-at (q / 3) (next (q % 3)) (omega arith)

    glued : Glued (3 * length mesh) nxt prv (side_at mesh) (corner_at mesh) tw
    unfolding tw
    glued = record {
      nxt_lt = λ q l. omega arith;
      prv_lt = λ q l. omega arith;
      nxt_prv = λ q l. omega arith;
      prv_nxt = λ q l. omega arith;
      differ = λ q l e. S.sound.corners (nth mesh (q / 3)) (q % 3) (member mesh (q / 3) (omega arith)) (omega arith) (e ∙ corner_nxt q);
      tw_lt = λ q l. (twin_is (3 * length mesh) (side_at mesh) two q l).0;
      tw_ne = λ q l. (twin_is (3 * length mesh) (side_at mesh) two q l).1;
      tw_tw = λ q l. twin_twice (3 * length mesh) (side_at mesh) two q l;
      sd_tw = λ q l. (twin_is (3 * length mesh) (side_at mesh) two q l).2;
      only = λ q r l m e. twin_only (3 * length mesh) (side_at mesh) two q r l m e;
      ends = λ q l.
          let h = twin_is (3 * length mesh) (side_at mesh) two q l in
          let r = twin (3 * length mesh) (side_at mesh) q in
          rw (corner_nxt r, corner_nxt q) (S.sound.ends (nth mesh (r / 3)) (r % 3) (nth mesh (q / 3)) (q % 3)
          (member mesh (r / 3) (omega (arith, h.0))) (member mesh (q / 3) (omega arith)) (omega arith) (omega arith) h.2);
    }

    -- the dart of corner i of triangle t that leaves by the side that `port` names
    dart_of : Bool → ℕ → ℕ → ℕ
    dart_of true t i = 2 * (3 * t + i)
    dart_of false t i = 2 * (3 * t + i) + 1

    dart_half : (a : Bool) (t i : ℕ) → dart_of a t i / 2 ≡ 3 * t + i
    unfolding dart_of
    dart_half true t i = omega arith
    dart_half false t i = omega arith

    port-at : (a : Bool) (t i : ℕ) → i < 3 → side_at mesh (exit prv (dart_of a t i)) ≡ port a (nth mesh t) i
    unfolding dart_of
    port-at true t i l = rw (exit_even prv (3 * t + i)) (side-at t i l)
    port-at false t i l =
        let e : prv (3 * t + i) ≡ 3 * t + prev i = omega arith in
        ap (side_at mesh) (exit_odd prv (3 * t + i) ∙ e) ∙ side-at t (prev i) (omega arith)

    joined : (g : Corner) → Together mesh g → CornersLinked (3 * length mesh) prv (side_at mesh) (corner_at mesh) g
    joined g T Q close q r lq lr cq cr h =
        let e : 3 * (r / 3) + r % 3 ≡ r = omega arith in
        subst Q e (T Q' pass (nth mesh (q / 3)) (q % 3) (nth mesh (r / 3)) (r % 3)
        (record { member = member mesh (q / 3) (omega arith); lt = omega arith; is = cq })
        (record { member = member mesh (r / 3) (omega arith); lt = omega arith; is = cr })
        start (r / 3) (omega arith) refl)
      where
        -- at each place of the list where v stands
        Q' : Tri → ℕ → Type 0
        Q' v i = (t : ℕ) → t < length mesh → nth mesh t ≡ v → Q (3 * t + i)

        at_g : (t i : ℕ) (v : Tri) → i < 3 → nth mesh t ≡ v → corner_of v i ≡ g → corner_at mesh (3 * t + i) ≡ g
        at_g t i v l e c = corner-at t i l ∙ ap (λ w. corner_of w i) e ∙ c

        pass : Spreads mesh g Q'
        pass v i w j hv hw (a, b, e) f = λ t l q.
            let s = hv.member.at in
            close (3 * s + i) (3 * t + j) (omega (arith, hv.member.lt, hv.lt)) (omega (arith, hw.lt))
            (at_g s i v hv.lt hv.member.is hv.is) (at_g t j w hw.lt q hw.is) (
              dart_of a s i,
              dart_of b t j,
              dart_half a s i,
              dart_half b t j,
              port-at a s i hv.lt ∙ ap (λ x. port a x i) hv.member.is ∙ e ∙ ap (λ x. port b x j) (sym q) ∙ sym (port-at b t j hw.lt),
            )
            (f s hv.member.lt hv.member.is)

        start : Q' (nth mesh (q / 3)) (q % 3)
        start = λ t l e.
            close q (3 * t + q % 3) lq (omega arith) cq (at_g t (q % 3) (nth mesh (q / 3)) (omega arith) e cq) (
              dart_of true (q / 3) (q % 3),
              dart_of true t (q % 3),
              dart_half true (q / 3) (q % 3) ∙ omega arith,
              dart_half true t (q % 3),
              port-at true (q / 3) (q % 3) (omega arith) ∙ ap (λ x. side_of x (q % 3)) (sym e) ∙ sym (port-at true t (q % 3) (omega arith)),
            ) h

    -- a dart enters its triangle by the side of the corner's other dart
    passed : (d : ℕ) → d < 2 * (3 * length mesh)
        → Passes (nth mesh (d / 2 / 3)) (corner_at mesh (d / 2)) (side_at mesh (exit prv (rev d))) (side_at mesh (exit prv d))
    passed = by_parity (3 * length mesh) (λ d. Passes (nth mesh (d / 2 / 3)) (corner_at mesh (d / 2)) (side_at mesh (exit prv (rev d))) (side_at mesh (exit prv d)))
        (λ q l. let e : 2 * q / 2 ≡ q = omega arith in
        rw (e, rev_first, exit_even, exit_odd, side-at (q / 3) (prev (q % 3)) (omega arith))
        (forward S.sound (nth mesh (q / 3)) (q % 3) (member mesh (q / 3) (omega arith)) (omega arith) refl))
        (λ q l. let e : (2 * q + 1) / 2 ≡ q = omega arith in
        rw (e, rev_second, exit_even, exit_odd, side-at (q / 3) (prev (q % 3)) (omega arith))
        (backward S.sound (nth mesh (q / 3)) (q % 3) (member mesh (q / 3) (omega arith)) (omega arith) refl))

    pub one_ring : (g : Corner) → Together mesh g → (v : Tri) (j : ℕ) → Here mesh g v j → OneRing mesh g
    unfolding it
    one_ring g T v j here =
        let (k, L, all) = ring_of M nxt prv (side_at mesh) (corner_at mesh) tw glued g (joined g T) d₀ (omega (arith, here.member.lt, here.lt)) start in
        record {
          chain = record {
            n = k;
            visit = who;
            side = over;
            within = λ i l. omega (arith, live i);
            passes = λ i l. passes i;
            every = λ t' j' lt' lj' c. let o = all (3 * t' + j') (omega arith) (corner-at t' j' lj' ∙ c) in (o.at, o.at_lt, omega (arith, o.is));
            once = λ a b la lb w. loop_distinct (2 * M) M s rev half (corner_darts M nxt prv (side_at mesh) (corner_at mesh) tw glued) L a b la lb (same_place a b w);
          };
          more = more L (eqb k 1) refl;
          home = ap (λ d. side_at mesh (exit prv (rev d))) L.home;
        }
      where
        M : ℕ
        M = 3 * length mesh

        q₀ : ℕ
        q₀ = 3 * here.member.at + j

        d₀ : ℕ
        d₀ = 2 * (3 * here.member.at + j)

        s : ℕ → ℕ
        s = turn M nxt prv (side_at mesh) (corner_at mesh) tw

        start : corner_at mesh (d₀ / 2) ≡ g
        start = let h : d₀ / 2 ≡ q₀ = omega arith in
            ap (corner_at mesh) h ∙ corner-at here.member.at j here.lt ∙ ap (λ w. corner_of w j) here.member.is ∙ here.is

        on : (i : ℕ) → (it s i d₀ < 2 * M) × (corner_at mesh (it s i d₀ / 2) ≡ corner_at mesh (d₀ / 2))
        on i = point_on M nxt prv (side_at mesh) (corner_at mesh) tw glued i d₀ (omega (arith, here.member.lt, here.lt))

        live : (i : ℕ) → it s i d₀ < 2 * M
        live i = (on i).0

        point : (i : ℕ) → corner_at mesh (it s i d₀ / 2) ≡ g
        point i = (on i).1 ∙ start

        who : ℕ → ℕ
        who i = it s i d₀ / 2 / 3

        over : ℕ → Side
        over i = side_at mesh (exit prv (rev (it s i d₀)))

        leave : (i : ℕ) → over (suc i) ≡ side_at mesh (exit prv (it s i d₀))
        leave i = ap (λ d. side_at mesh (exit prv (rev d))) (it_suc s i d₀) ∙ turn_side M nxt prv (side_at mesh) (corner_at mesh) tw glued (it s i d₀) (live i)

        passes : (i : ℕ) → Passes (nth mesh (who i)) g (over i) (over (suc i))
        passes i = rw (leave i) (subst (λ x. Passes (nth mesh (who i)) x (over i) (side_at mesh (exit prv (it s i d₀)))) (point i) (passed (it s i d₀) (live i)))

        same_place : (a b : ℕ) → who a ≡ who b → half (it s a d₀) ≡ half (it s b d₀)
        same_place a b w =
            let x = it s a d₀ / 2 in
            let y = it s b d₀ / 2 in
            let c : corner_of (nth mesh (x / 3)) (x % 3) ≡ corner_of (nth mesh (x / 3)) (y % 3) =
            point a ∙ sym (point b) ∙ ap (λ u. corner_of (nth mesh u) (y % 3)) (sym w) in
            omega (arith, w, corner_once S.sound (nth mesh (x / 3)) (x % 3) (y % 3) (member mesh (x / 3) (omega (arith, live a))) (omega arith) (omega arith) c)

        more : {k : ℕ} → Loop (2 * M) s d₀ k → (b : Bool) → eqb k 1 ≡ b → 1 < k
        more {k} L false q = omega (arith, L.pos, eqb-false k 1 q)
        more {k} L true q =
            let stay : over 1 ≡ over 0 = ap over (sym (eqb-true k 1 q)) ∙ ap (λ d. side_at mesh (exit prv (rev d))) L.home in
            absurd ((passes 0).apart (sym stay))
