-- Step 2, chains: at a point of a loop its triangles are a chain of one or two, and a fan is a ring round its middle.
use Prim.Native.Nat.{ℕ, zero, suc, ◌-◌, ◌≤◌, ◌<◌}
use mathlib.Core.Path.{◌≡◌, refl, sym, ap, ◌∙◌, subst}
use mathlib.Core.Logic.{◌⊎◌, inl, inr, ◌≢◌, ⊎_elim}
use native.Mathlib.Omega.{arith}
use lib.Dec.{eqb}
use lib.ListN.{length}
use borrow.Author.Tests.{eq-eqb, ne_eqb}
use Rattle.counting.specs.Pick.{pick}
use Rattle.counting.specs.Lists.{after}
use Rattle.counting.specs.claims.Lists.{before}
use Rattle.counting.proofs.Range.{after_lt, after_ne, after_once, before_lt, after_before}
use Rattle.manifold.specs.Triangle.{Corner, Side, prev}
use Rattle.manifold.specs.claims.Plain.{corner_of, side_of, nth, OneRing}
use Rattle.manifold.specs.work.Plain.{Passes}
use Rattle.manifold.specs.claims.Polygon.{Polygon, shape, corner, centre, segment, inner_side, inners, triangles}
use Rattle.manifold.specs.Shape.{Shape, single, double, fan}
use Rattle.manifold.specs.work.Polygon.{triangle_at, many, Simple}
use Rattle.manifold.specs.claims.Claims.{AtPoint}
use Rattle.manifold.proofs.Triangle.{cross_middle}
use Rattle.manifold.proofs.Sound.{Sound, forward, backward}
use Rattle.manifold.proofs.Polygon.{Fits, fits, triangles_length, triangles_nth, triangles_member, point_apart, polygon_sound}

module _ (G : Polygon) where
  -- corner j of triangle t is point k, between the sides σ and τ
  pub record Turns (sh : Shape) (k t j : ℕ) (σ τ : Side) : Type 0 where
    pub t_lt : t < many G sh
    pub j_lt : j < 3
    pub here : corner_of (triangle_at G sh t) j ≡ corner G k
    pub enter : side_of (triangle_at G sh t) (prev j) ≡ σ
    pub leave : side_of (triangle_at G sh t) j ≡ τ

  -- no triangle but t, or but t and u, has the corner k
  abbrev Only : Shape → ℕ → (ℕ → Type 0) → Type 0
  Only sh k P = (t j : ℕ) → t < many G sh → j < 3 → corner_of (triangle_at G sh t) j ≡ corner G k → P t

  -- one triangle at point k, from segment k − 1 to segment k
  pub record One (sh : Shape) (k : ℕ) : Type 0 where
    pub t : ℕ
    pub j : ℕ
    pub turns : Turns sh k t j (segment G (before G.n k)) (segment G k)
    pub only : Only sh k (λ s. s ≡ t)

  -- two, with the inner side m between
  pub record Two (sh : Shape) (k : ℕ) : Type 0 where
    pub t : ℕ
    pub i : ℕ
    pub u : ℕ
    pub j : ℕ
    pub m : ℕ
    pub m_lt : m < inners G sh
    pub ne : t ≢ u
    pub first : Turns sh k t i (segment G (before G.n k)) (inner_side G m)
    pub second : Turns sh k u j (inner_side G m) (segment G k)
    pub only : Only sh k (λ s. (s ≡ t) ⊎ (s ≡ u))

  module _ (h : G.n ≢ 1) (D : Simple G) where
    away : {P : Type 0} (i j : ℕ) → i < G.n → j < G.n → i ≢ j → corner G i ≡ corner G j → P
    away i j a b ne e = absurd (point_apart G h D i j a b ne e)

    one : (sh : Shape) (k t j : ℕ) → t < many G sh → j < 3 → corner_of (triangle_at G sh t) j ≡ corner G k
        → side_of (triangle_at G sh t) (prev j) ≡ segment G (before G.n k) → side_of (triangle_at G sh t) j ≡ segment G k → Only sh k (λ s. s ≡ t)
        → One sh k ⊎ Two sh k
    one sh k t j lt lj here enter leave only =
        inl (record { t = t; j = j; turns = record { t_lt = lt; j_lt = lj; here = here; enter = enter; leave = leave }; only = only })

    two : (sh : Shape) (k t i u j m : ℕ) → m < inners G sh → t ≢ u → Turns sh k t i (segment G (before G.n k)) (inner_side G m)
        → Turns sh k u j (inner_side G m) (segment G k) → Only sh k (λ s. (s ≡ t) ⊎ (s ≡ u)) → One sh k ⊎ Two sh k
    two sh k t i u j m lm ne first second only =
        inr (record { t = t; i = i; u = u; j = j; m = m; m_lt = lm; ne = ne; first = first; second = second; only = only })

    -- what stands at each point
    table : (sh : Shape) → Fits sh G.n → (k : ℕ) → k < G.n → One sh k ⊎ Two sh k
    table single f zero l =
        let e : 2 ≡ G.n - 1 = omega arith in
        one single 0 0 0 (omega arith) (omega arith) refl (ap (segment G) e) refl (λ t j a b q. omega arith)
    table single f (suc zero) l = one single 1 0 1 (omega arith) (omega arith) refl refl refl (λ t j a b q. omega arith)
    table single f (suc (suc zero)) l = one single 2 0 2 (omega arith) (omega arith) refl refl refl (λ t j a b q. omega arith)
    table single f (suc (suc (suc k))) l = absurd (omega arith)
    table double f zero l =
        let e : 3 ≡ G.n - 1 = omega arith in
        two double 0 1 0 0 0 0 (omega arith) (λ q. omega arith)
        (record { t_lt = omega arith; j_lt = omega arith; here = refl; enter = ap (segment G) e; leave = refl })
        (record { t_lt = omega arith; j_lt = omega arith; here = refl; enter = refl; leave = refl })
        both
      where
        both : Only double 0 (λ s. (s ≡ 1) ⊎ (s ≡ 0))
        both zero j a b e = inr refl
        both (suc t) j a b e = inl (omega arith)
    table double f (suc zero) l = one double 1 0 1 (omega arith) (omega arith) refl refl refl lone
      where
        lone : Only double 1 (λ s. s ≡ 0)
        lone zero j a b e = refl
        lone (suc t) zero a b e = away 0 1 (omega arith) (omega arith) (omega arith) e
        lone (suc t) (suc zero) a b e = away 2 1 (omega arith) (omega arith) (omega arith) e
        lone (suc t) (suc (suc j)) a b e = away 3 1 (omega arith) (omega arith) (omega arith) e
    table double f (suc (suc zero)) l =
        two double 2 0 2 1 1 0 (omega arith) (λ q. omega arith)
        (record { t_lt = omega arith; j_lt = omega arith; here = refl; enter = refl; leave = refl })
        (record { t_lt = omega arith; j_lt = omega arith; here = refl; enter = refl; leave = refl })
        both
      where
        both : Only double 2 (λ s. (s ≡ 0) ⊎ (s ≡ 1))
        both zero j a b e = inl refl
        both (suc t) j a b e = inr (omega arith)
    table double f (suc (suc (suc zero))) l = one double 3 1 2 (omega arith) (omega arith) refl refl refl lone
      where
        lone : Only double 3 (λ s. s ≡ 1)
        lone zero zero a b e = away 0 3 (omega arith) (omega arith) (omega arith) e
        lone zero (suc zero) a b e = away 1 3 (omega arith) (omega arith) (omega arith) e
        lone zero (suc (suc j)) a b e = away 2 3 (omega arith) (omega arith) (omega arith) e
        lone (suc t) j a b e = omega arith
    table double f (suc (suc (suc (suc k)))) l = absurd (omega arith)
    table fan f k l =
        let e = after_before G.n k l in
        two fan k (before G.n k) 1 k 0 k l (λ q. after_ne G.n k l h (ap (after G.n) (sym q) ∙ e))
        (record { t_lt = before_lt G.n k l; j_lt = omega arith; here = ap (corner G) e; enter = refl; leave = ap (inner_side G) e })
        (record { t_lt = l; j_lt = omega arith; here = refl; enter = refl; leave = refl })
        both
      where
        both : Only fan k (λ s. (s ≡ before G.n k) ⊎ (s ≡ k))
        both t zero a b e = inr (D.points t k a l (cc))
        both t (suc zero) a b e =
            let q : after G.n t ≡ k = D.points (after G.n t) k (after_lt G.n t a) l (cc) in
            inl (after_once G.n t (before G.n k) a (before_lt G.n k l) (q ∙ sym (after_before G.n k l)))
        both t (suc (suc j)) a b e = absurd (cross_middle (sym e))

    S : Sound (triangles G)
    S = polygon_sound G h D

    short : {t : ℕ} → t < length (triangles G) → t < many G (shape G)
    short l = omega (arith, triangles_length G)

    long : {t : ℕ} → t < many G (shape G) → t < length (triangles G)
    long l = omega (arith, triangles_length G)

    pass : {k t j : ℕ} {σ τ : Side} → Turns (shape G) k t j σ τ → Passes (nth (triangles G) t) (corner G k) σ τ
    pass {k} {t} {j} {σ} {τ} w =
        let v = triangle_at G (shape G) t in
        subst (λ x. Passes x (corner G k) σ τ) (sym (triangles_nth G t w.t_lt))
        (subst (λ x. Passes v (corner G k) x τ) w.enter (subst (λ x. Passes v (corner G k) (side_of v (prev j)) x) w.leave
        (forward S v j (triangles_member G t w.t_lt) w.j_lt w.here)))

    at_nth : {g : Corner} (t j : ℕ) → t < length (triangles G) → corner_of (nth (triangles G) t) j ≡ g → corner_of (triangle_at G (shape G) t) j ≡ g
    at_nth t j l e = ap (λ v. corner_of v j) (sym (triangles_nth G t (short l))) ∙ e

    -- the chain at a point
    from_one : (k : ℕ) → One (shape G) k → AtPoint G k
    from_one k w = record {
      chain = record {
        n = 1;
        visit = λ i. w.t;
        side = side;
        within = λ i l. long w.turns.t_lt;
        passes = passes;
        every = λ t j l lj e. (0, omega arith, sym (w.only t j (short l) lj (at_nth t j l e)));
        once = λ i j a b e. omega arith;
      };
      some = omega arith;
      few = omega arith;
      start = refl;
      end = refl;
      through = λ i a b. absurd (omega arith);
    }
      where
        side : ℕ → Side
        side zero = segment G (before G.n k)
        side (suc i) = segment G k

        passes : (i : ℕ) → i < 1 → Passes (nth (triangles G) w.t) (corner G k) (side i) (side (suc i))
        passes zero l = pass w.turns
        passes (suc i) l = absurd (omega arith)

    from_two : (k : ℕ) → Two (shape G) k → AtPoint G k
    from_two k w = record {
      chain = record {
        n = 2;
        visit = visit;
        side = side;
        within = within;
        passes = passes;
        every = λ t j l lj e. find t (w.only t j (short l) lj (at_nth t j l e));
        once = once;
      };
      some = omega arith;
      few = omega arith;
      start = refl;
      end = refl;
      through = through;
    }
      where
        visit : ℕ → ℕ
        visit zero = w.t
        visit (suc i) = w.u

        side : ℕ → Side
        side zero = segment G (before G.n k)
        side (suc zero) = inner_side G w.m
        side (suc (suc i)) = segment G k

        within : (i : ℕ) → i < 2 → visit i < length (triangles G)
        within zero l = long w.first.t_lt
        within (suc i) l = long w.second.t_lt

        passes : (i : ℕ) → i < 2 → Passes (nth (triangles G) (visit i)) (corner G k) (side i) (side (suc i))
        passes zero l = pass w.first
        passes (suc zero) l = pass w.second
        passes (suc (suc i)) l = absurd (omega arith)

        find : (t : ℕ) → (t ≡ w.t) ⊎ (t ≡ w.u) → (i : ℕ) × (i < 2) × (visit i ≡ t)
        find t (inl e) = (0, omega arith, sym e)
        find t (inr e) = (1, omega arith, sym e)

        once : (i j : ℕ) → i < 2 → j < 2 → visit i ≡ visit j → i ≡ j
        once zero zero a b e = refl
        once zero (suc j) a b e = absurd (w.ne e)
        once (suc i) zero a b e = absurd (w.ne (sym e))
        once (suc i) (suc j) a b e = omega arith

        through : (i : ℕ) → 1 ≤ i → i < 2 → (m : ℕ) × (m < inners G (shape G)) × (side i ≡ inner_side G m)
        through zero a b = absurd (omega arith)
        through (suc zero) a b = (w.m, w.m_lt, refl)
        through (suc (suc i)) a b = absurd (omega arith)

    pub at_point : (k : ℕ) → k < G.n → AtPoint G k
    at_point k l = ⊎_elim (from_one k) (from_two k) (table (shape G) (fits G) k l)

    -- the ring round the middle
    pub fan_ring : shape G ≡ fan → 2 ≤ G.n → OneRing (triangles G) (centre G)
    fan_ring is two = record {
      chain = record {
        n = G.n;
        visit = λ i. i;
        side = λ i. inner_side G (round i);
        within = λ i l. long (omega (arith, count));
        passes = passes;
        every = λ t j l lj e. (t, omega (arith, count, short l), refl);
        once = λ i j a b e. e;
      };
      more = two;
      home = ap (inner_side G) (round_n ∙ sym (round_lt 0 (omega arith)));
    }
      where
        -- the number of the inner side after i − 1
        round : ℕ → ℕ
        round i = pick (eqb i G.n) 0 i

        count : many G (shape G) ≡ G.n
        count = ap (many G) is

        round_lt : (i : ℕ) → i < G.n → round i ≡ i
        round_lt i l = rw (ne_eqb i G.n (λ e. omega arith))

        round_n : round G.n ≡ 0
        round_n = rw (eq-eqb G.n G.n refl)

        nth_fan : (i : ℕ) → i < G.n → nth (triangles G) i ≡ triangle_at G fan i
        nth_fan i l = triangles_nth G i (omega (arith, count)) ∙ ap (λ s. triangle_at G s i) is

        passes : (i : ℕ) → i < G.n → Passes (nth (triangles G) i) (centre G) (inner_side G (round i)) (inner_side G (round (suc i)))
        passes i l =
            let v = triangle_at G fan i in
            subst (λ x. Passes (nth (triangles G) i) (centre G) (inner_side G x) (inner_side G (round (suc i)))) (sym (round_lt i l))
            (subst (λ x. Passes x (centre G) (inner_side G i) (inner_side G (round (suc i)))) (sym (nth_fan i l))
            (backward S v 2 (record { at = i; lt = long (omega (arith, count)); is = nth_fan i l }) (omega arith) refl))
