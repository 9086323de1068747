-- A guide leads each crossing of an edge to where the segments of the triangle lead it.
use Prim.Native.Nat.{ℕ, ◌+◌, ◌*◌, ◌-◌, ◌/◌, ◌%◌, ◌≤◌, ◌<◌}
use mathlib.Core.Path.{◌≡◌, refl, sym, ap, ◌∙◌, subst}
use mathlib.Core.Logic.{◌≢◌}
use mathlib.Core.Bool.{Bool, true, false, not}
use mathlib.Core.List.{List}
use native.Mathlib.Omega.{arith}
use native.Mathlib.Decide.{dec_lt, ℕ_discrete}
use lib.Dec.{eqb, ltb}
use borrow.Author.Tests.{eq-eqb, ne_eqb, lt-ltb, le-ltb, le-leb, lt-leb}
use Rattle.counting.specs.Pick.{pick}
use Rattle.counting.proofs.Bools.{clash}
use lib.ListN.{get_or}
use Rattle.face.specs.Face.{along, skipped, joined_by, unjoined_by, joined, no_crossing, bare, other, count_on, others, kth, partner, residual}
use Rattle.face.specs.work.Corners.{corners}
use Rattle.face.specs.claims.Claims.{unjoined}
use Rattle.slots.specs.Slots.{lower, upper}
use Rattle.face.specs.claims.Ends.{Edge, on_ab, on_ac, on_bc, End, low, high}
use Rattle.face.proofs.Ends.{edge_lt, edge-of, end_other, on}
use Rattle.face.proofs.Gaps.{corner_fits, corner_read}
use Rattle.grid.specs.Grid.{crossings}
use Rattle.flat.specs.Join.{lessened, flat_corner_at, flat_join}
use Rattle.flat.specs.declared.guides.Guide.{Guide}
use Rattle.flat.specs.declared.guides.Lane.{Lane}
use Rattle.flat.specs.work.Work.{GuideFits, Guides, LaneOf, PortGuides, Tabled, arrive_by, corners_at, count_at_place, guide_step, land_at, lane_step, leave_by, port_step}
use Rattle.flat.proofs.Rule.{apart, count_lessened, lessened_le}
use Rattle.flat.proofs.Left.{above_corner, below_corner, between_long, between_short, corners_most, corners_others, flat_is, flat_off}
use Rattle.flat.proofs.Tables.{count_few}

-- a corner count is at most the count of the other edge at the corner
pub corner_le : (ab ac bc : ℕ) {w e : ℕ} → End w e → flat_corner_at ab ac bc w e ≤ count_on ab ac bc (other w e)
unfolding flat_corner_at
corner_le ab ac bc {w} {e} d =
    omega (
      arith,
      (corner_fits (lessened ab ac bc 0) (lessened ab ac bc 1) (lessened ab ac bc 2) w e).1,
      count_lessened ab ac bc (on (end_other d)),
      lessened_le ab ac bc (other w e),
    )

-- r residuals joined in pairs from the lower node, the first skipped if r is odd: the same by how many are left from s on
module _ (r s : ℕ) (l : s < r) where
  pairs_up : (r - s) % 2 ≡ 0 → (r % 2 ≤ s) × ((s - r % 2) % 2 ≡ 0)
  pairs_up i = (omega arith, omega arith)

  pairs_skip : (r - s) % 2 ≢ 0 → s ≡ 0 → s < r % 2
  pairs_skip i z = omega arith

  pairs_down : (r - s) % 2 ≢ 0 → s ≢ 0 → (r % 2 ≤ s) × ((s - r % 2) % 2 ≢ 0)
  pairs_down i z = (omega arith, λ k. omega arith)

module _ (counts sides : List ℕ) (n b : ℕ) where
  abbrev ab : ℕ
  ab = count_at_place counts sides b

  abbrev ac : ℕ
  ac = count_at_place counts sides (b + 1)

  abbrev bc : ℕ
  bc = count_at_place counts sides (b + 2)

  pub count_is : {k : ℕ} → Edge k → count_on ab ac bc k ≡ count_at_place counts sides (b + k)
  unfolding count_on
  count_is on_ab = let z : b + 0 ≡ b = omega arith in ap (count_at_place counts sides) (sym z)
  count_is on_ac = refl
  count_is on_bc = refl

  -- the crossings that a lane leads to
  pub lane_is : {w e k : ℕ} {l : Lane} → End w e → LaneOf counts sides n b w e l → k < l.size
      → land_at counts sides n (b + other w e) (kth ab ac bc w (other w e) k) ≡ lane_step l k
  unfolding lane_step kth land_at
  lane_is {w} {e} {k} {l} d L h = go (eqb w (lower (other w e))) refl
    where
      go : (x : Bool) → eqb w (lower (other w e)) ≡ x
          → land_at counts sides n (b + other w e) (kth ab ac bc w (other w e) k) ≡ lane_step l k
      go true r =
          let q : l.down ≡ false = L.down_is ∙ ap not r in
          let f : l.from ≡ land_at counts sides n (b + other w e) 0 =
          L.from_is ∙ ap (λ x. land_at counts sides n (b + other w e) (pick x (count_at_place counts sides (b + other w e)) 0)) q in
          rw (r, q) (omega (arith, f))
      go false r =
          let q : l.down ≡ true = L.down_is ∙ ap not r in
          let f : l.from ≡ land_at counts sides n (b + other w e) (count_at_place counts sides (b + other w e)) =
          L.from_is ∙ ap (λ x. land_at counts sides n (b + other w e) (pick x (count_at_place counts sides (b + other w e)) 0)) q in
          let c = corner_le ab ac bc d in
          let m = count_is (on (end_other d)) in
          let s = L.size_is in
          rw (r, q) (omega (arith, f))

  arrive_joined : (k u : ℕ) → arrive_by counts sides n b (joined k u) ≡ land_at counts sides n (b + k) u
  unfolding arrive_by
  arrive_joined k u = refl

  arrive_unjoined : arrive_by counts sides n b unjoined ≡ 2 * crossings counts
  unfolding arrive_by
  arrive_unjoined = refl

  arrive_none : arrive_by counts sides n b no_crossing ≡ 2 * crossings counts
  unfolding arrive_by
  arrive_none = refl

  land_on : (j t : ℕ) → land_at counts sides n j t ≡ land_at counts sides n j 0 + 2 * t
  unfolding land_at
  land_on j t = omega arith

  -- what a guide of edge e is made of
  module _ (e : ℕ) (d : Edge e) (g : Guide) (lo : LaneOf counts sides n b (lower e) e g.low) (hi : LaneOf counts sides n b (upper e) e g.high)
      (cs : g.count ≡ count_on ab ac bc e) (os : g.own ≡ land_at counts sides n (b + e) 0) (t : ℕ) where
    abbrev goal : Type 0
    goal = guide_step g (2 * crossings counts) t ≡ arrive_by counts sides n b (flat_join ab ac bc e t)

    guide_off : g.count ≤ t → goal
    unfolding guide_step
    guide_off h = rw (le-leb g.count t h, flat_off ab ac bc e t (omega arith)) (sym arrive_none)

    module _ (h : t < g.count) where
      there : t < count_on ab ac bc e
      there = omega arith

      guide_low : t < g.low.size → goal
      unfolding guide_step partner
      guide_low a =
          rw (lt-leb g.count t h, lt-ltb t g.low.size a, flat_is ab ac bc e t (below_corner ab ac bc e t there (omega (arith, lo.size_is))))
          (sym (lane_is (low d) lo a) ∙ sym (arrive_joined _ _))

      module _ (a : g.low.size ≤ t) where
        guide_high : g.count - g.high.size ≤ t → goal
        unfolding guide_step partner
        guide_high z =
            let k : g.count - 1 - t < g.high.size = omega arith in
            rw (
              lt-leb g.count t h,
              le-ltb t g.low.size a,
              le-leb (g.count - g.high.size) t z,
              flat_is ab ac bc e t (above_corner ab ac bc e t there (omega (arith, lo.size_is)) (omega (arith, hi.size_is))),
              ← cs,
            )
            (sym (lane_is (high d) hi k) ∙ sym (arrive_joined _ _))

        module _ (z : t < g.count - g.high.size) where
          guide_between : guide_step g (2 * crossings counts) t
              ≡ pick (eqb ((g.count - g.high.size - t) % 2) 0) (g.own + 2 * (t + 1)) (pick (eqb t g.low.size) (2 * crossings counts) (g.own + 2 * (t - 1)))
          unfolding guide_step
          guide_between = rw (lt-leb g.count t h, le-ltb t g.low.size a, lt-leb (g.count - g.high.size) t z)

          -- one crossing at most is between the corners
          between_alone : count_on ab ac bc e ≤ others ab ac bc e → goal
          between_alone o =
              let m = corners_most ab ac bc d o in
              let p = lo.size_is in
              let q = hi.size_is in
              let i : t ≡ g.low.size = omega arith in
              guide_between
              ∙ rw (
                ne_eqb ((g.count - g.high.size - t) % 2) 0 (λ j. omega arith),
                eq-eqb t g.low.size i,
                flat_is ab ac bc e t (between_short ab ac bc e t there (omega arith) (omega arith) o),
              ) (sym arrive_unjoined)

          -- as many as the edge has above the other two
          between_some : others ab ac bc e < count_on ab ac bc e
              → flat_corner_at ab ac bc (lower e) e + flat_corner_at ab ac bc (upper e) e ≡ others ab ac bc e
              → g.low.size ≡ flat_corner_at ab ac bc (lower e) e → g.high.size ≡ flat_corner_at ab ac bc (upper e) e
              → t - g.low.size < count_on ab ac bc e - others ab ac bc e
          between_some o m p q = omega arith

          between_pairs : others ab ac bc e < count_on ab ac bc e → goal
          unfolding residual
          between_pairs o =
              let m = corners_others ab ac bc d o in
              let p = lo.size_is in
              let q = hi.size_is in
              let u = between_long ab ac bc e t there (omega arith) (omega arith) o in
              let w : g.count - g.high.size - t ≡ count_on ab ac bc e - others ab ac bc e - (t - g.low.size) = omega arith in
              guide_between
              ∙ rw (w, flat_is ab ac bc e t u, ← p)
              (go (count_on ab ac bc e - others ab ac bc e) (t - g.low.size) refl (between_some o m p q))
            where
              go : (r s : ℕ) → s ≡ t - g.low.size → s < r
                  → pick (eqb ((r - s) % 2) 0) (g.own + 2 * (t + 1)) (pick (eqb t g.low.size) (2 * crossings counts) (g.own + 2 * (t - 1)))
                  ≡ arrive_by counts sides n b (bare (pick (ltb s (r % 2)) (unjoined_by skipped) (joined_by e (pick (eqb ((s - r % 2) % 2) 0) (t + 1) (t - 1)) along)))
              go r s f l =
                  elim (ℕ_discrete ((r - s) % 2) 0) [
                    | yes i ↦
                        rw (eq-eqb ((r - s) % 2) 0 i, le-ltb s (r % 2) (pairs_up r s l i).0, eq-eqb ((s - r % 2) % 2) 0 (pairs_up r s l i).1)
                        (omega (arith, os, land_on (b + e) (t + 1), arrive_joined e (t + 1)))
                    | no i ↦ elim (ℕ_discrete t g.low.size) [
                      | yes j ↦
                          rw (ne_eqb ((r - s) % 2) 0 i, eq-eqb t g.low.size j, lt-ltb s (r % 2) (pairs_skip r s l i (omega arith))) (sym arrive_unjoined)
                      | no j ↦
                          rw (
                            ne_eqb ((r - s) % 2) 0 i,
                            ne_eqb t g.low.size j,
                            le-ltb s (r % 2) (pairs_down r s l i (λ k. omega arith)).0,
                            ne_eqb ((s - r % 2) % 2) 0 (pairs_down r s l i (λ k. omega arith)).1,
                          )
                          (omega (arith, os, land_on (b + e) (t - 1), arrive_joined e (t - 1)))
                    ]
                  ]

    pub guide_is : goal
    guide_is =
        elim (dec_lt t g.count) [
          | no h ↦ guide_off (omega arith)
          | yes h ↦ elim (dec_lt t g.low.size) [
            | yes a ↦ guide_low h a
            | no a ↦ elim (dec_lt t (g.count - g.high.size)) [
              | no z ↦ guide_high h (omega arith) (omega arith)
              | yes z ↦ elim (dec_lt (others ab ac bc e) (count_on ab ac bc e)) [
                | yes o ↦ between_pairs h (omega arith) z o
                | no o ↦ between_alone h (omega arith) z (omega arith)
              ]
            ]
          ]
        ]

-- THE STEPS as the code takes them
module _ (g : Guide) (darts t : ℕ) where
  pub step_off : g.count ≤ t → darts ≡ guide_step g darts t
  unfolding guide_step
  step_off h = rw (le-leb g.count t h)

  module _ (h : t < g.count) where
    pub step_low : t < g.low.size → lane_step g.low t ≡ guide_step g darts t
    unfolding guide_step
    step_low a = rw (lt-leb g.count t h, lt-ltb t g.low.size a)

    module _ (a : g.low.size ≤ t) where
      pub step_high : g.count - g.high.size ≤ t → lane_step g.high (g.count - 1 - t) ≡ guide_step g darts t
      unfolding guide_step
      step_high z = rw (lt-leb g.count t h, le-ltb t g.low.size a, le-leb (g.count - g.high.size) t z)

      module _ (z : t < g.count - g.high.size) where
        pub step_up : (g.count - g.high.size - t) % 2 ≡ 0 → g.own + 2 * (t + 1) ≡ guide_step g darts t
        unfolding guide_step
        step_up i =
            rw (
              lt-leb g.count t h,
              le-ltb t g.low.size a,
              lt-leb (g.count - g.high.size) t z,
              eq-eqb ((g.count - g.high.size - t) % 2) 0 i,
            )

        module _ (i : (g.count - g.high.size - t) % 2 ≡ 1) where
          odd : eqb ((g.count - g.high.size - t) % 2) 0 ≡ false
          odd = ne_eqb ((g.count - g.high.size - t) % 2) 0 (λ j. omega arith)

          pub step_down : g.low.size < t → g.own + 2 * (t - 1) ≡ guide_step g darts t
          unfolding guide_step
          step_down j =
              rw (lt-leb g.count t h, le-ltb t g.low.size a, lt-leb (g.count - g.high.size) t z, odd, ne_eqb t g.low.size (λ k. omega arith))

          pub step_alone : t ≡ g.low.size → darts ≡ guide_step g darts t
          unfolding guide_step
          step_alone j =
              rw (lt-leb g.count t h, le-ltb t g.low.size a, lt-leb (g.count - g.high.size) t z, odd, eq-eqb t g.low.size j)

-- THE GUIDE of a place, as it is made
pub other_lt : {w e : ℕ} → End w e → w + 1 - e < 3
unfolding other
other_lt d = edge_lt (on (end_other d))

module _ {counts sides : List ℕ} {n : ℕ} {ports starts : List ℕ} (T : Tabled counts sides n ports starts) where
  module _ (b : ℕ) (lb : b + 2 < n) {w e : ℕ} (d : End w e) (l : Lane) (c : List ℕ) (qc : c ≡ corners_at counts sides b) (qs : l.size ≡ get_or c w 0)
      (Near-by : l.from ≤ 2 * crossings counts + 1) where
    size_of : l.size ≡ flat_corner_at (count_at_place counts sides b) (count_at_place counts sides (b + 1)) (count_at_place counts sides (b + 2)) w e
    unfolding flat_corner_at
    size_of = corner_read _ _ _ d qc refl qs

    size_le : l.size ≤ count_at_place counts sides (b + other w e)
    size_le =
        omega (
          arith,
          size_of,
          corner_le (count_at_place counts sides b) (count_at_place counts sides (b + 1)) (count_at_place counts sides (b + 2)) d,
          count_is counts sides n b (on (end_other d)),
        )

    size_few : l.size < 65536
    size_few = omega (arith, size_le, count_few T (b + other w e) (omega (arith, edge_lt (on (end_other d)))))

    pub made_up : l.down ≡ false → {v : ℕ} → w ≡ v → v ≡ lower (w + 1 - e) → l.from ≡ land_at counts sides n (b + (w + 1 - e)) 0 → LaneOf counts sides n b w e l
    unfolding other
    made_up q {v} p r f =
        record {
          size_is = size_of;
          down_is = q ∙ ap not (sym (eq-eqb w (lower (w + 1 - e)) (p ∙ r)));
          from_is = f ∙ ap (λ x. land_at counts sides n (b + (w + 1 - e)) (pick x (count_at_place counts sides (b + (w + 1 - e))) 0)) (sym q);
          fits = record { few = size_few; near = omega (arith, T.places.few_crossings); ends = λ z. absurd (clash z q) };
        }

    pub made_down : l.down ≡ true → {v t : ℕ} → w ≢ v → v ≡ lower (w + 1 - e) → l.from ≡ land_at counts sides n (b + (w + 1 - e)) t
        → t ≡ count_at_place counts sides (b + (w + 1 - e)) → LaneOf counts sides n b w e l
    unfolding other land_at
    made_down q {v} p r h m =
        let f : l.from ≡ land_at counts sides n (b + (w + 1 - e)) (count_at_place counts sides (b + (w + 1 - e))) =
        h ∙ ap (land_at counts sides n (b + (w + 1 - e))) m in
        record {
          size_is = size_of;
          down_is = q ∙ ap not (sym (ne_eqb w (lower (w + 1 - e)) (λ z. p (z ∙ sym r))));
          from_is = f ∙ ap (λ x. land_at counts sides n (b + (w + 1 - e)) (pick x (count_at_place counts sides (b + (w + 1 - e))) 0)) (sym q);
          fits = record { few = size_few; near = omega (arith, T.places.few_crossings); ends = λ z. omega (arith, f, size_le) };
        }

  module _ (j : ℕ) (lj : j < n) where
    pub place_edge : Edge (j % 3)
    place_edge = edge-of (j % 3) (omega arith)

    pub guide_made : (g : Guide) {v u : ℕ} → v ≡ lower (j % 3) → LaneOf counts sides n (3 * (j / 3)) v (j % 3) g.low → u ≡ upper (j % 3)
        → LaneOf counts sides n (3 * (j / 3)) u (j % 3) g.high → g.count ≡ count_at_place counts sides j → g.own ≡ land_at counts sides n j 0 → g.own ≤ 2 * crossings counts + 1 → Guides counts sides n j g
    unfolding leave_by
    guide_made g qv lo qu hi qc qo Near-by =
        let p : 3 * (j / 3) + j % 3 ≡ j = omega arith in
        let m = count_is counts sides n (3 * (j / 3)) place_edge in
        let c = qc ∙ ap (count_at_place counts sides) (sym p) ∙ sym m in
        let H = subst (λ u. LaneOf counts sides n (3 * (j / 3)) u (j % 3) g.high) qu hi in
        record {
          fits = record {
            low = lo.fits;
            high = hi.fits;
            few = omega (arith, count_few T j lj);
            upper = omega (
              arith,
              c,
              H.size_is,
              apart (count_at_place counts sides (3 * (j / 3))) (count_at_place counts sides (3 * (j / 3) + 1)) (count_at_place counts sides (3 * (j / 3) + 2)) place_edge,
            );
            near = omega (arith, T.places.few_crossings);
          };
          steps = guide_is counts sides n (3 * (j / 3)) (j % 3) place_edge g (subst (λ v. LaneOf counts sides n (3 * (j / 3)) v (j % 3) g.low) qv lo)
              H c (qo ∙ ap (λ (j : ℕ). land_at counts sides n j 0) (sym p));
        }

  pub corners_with : (b : ℕ) {x y z : ℕ} {l : List ℕ} → x ≡ count_at_place counts sides b → y ≡ count_at_place counts sides (b + 1) → z ≡ count_at_place counts sides (b + 2)
      → l ≡ corners (lessened x y z 0) (lessened x y z 1) (lessened x y z 2) → l ≡ corners_at counts sides b
  corners_with b qx qy qz r = r ∙ rw (qx, qy, qz)

-- by a port
module _ (counts sides : List ℕ) (n q : ℕ) where
  pub port_none : (g : Guide) → q ≡ 0 → g.count ≡ 0 → GuideFits g → PortGuides counts sides n q g
  unfolding port_step
  port_none g z c f = record { fits = f; steps = λ t. sym (step_off g (2 * crossings counts) t (omega arith)) ∙ rw (eq-eqb q 0 z) }

  pub port_some : (g : Guide) → q ≢ 0 → Guides counts sides n (q - 1) g → PortGuides counts sides n q g
  unfolding port_step
  port_some g z G = record { fits = G.fits; steps = λ t. G.steps t ∙ rw (ne_eqb q 0 z) }

  -- a step by the guide is the step by the port
  pub port_led : (g : Guide) (darts t : ℕ) {v p : ℕ} → PortGuides counts sides n q g → q ≡ p → darts ≡ 2 * crossings counts → v ≡ guide_step g darts t
      → v ≡ port_step counts sides n p t
  port_led g darts t P r b a =
      a ∙ ap (λ (d : ℕ). guide_step g d t) b ∙ P.steps t ∙ ap (λ (q : ℕ). port_step counts sides n q t) r
