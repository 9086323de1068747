-- The loops through the darts of the pair with the largest sum: each closes after 4 * (x + y) / gcd x y steps.
use Prim.Native.Nat.{ℕ, zero, suc, ◌+◌, ◌*◌, ◌-◌, ◌/◌, ◌%◌, ◌≤◌, ◌<◌}
use mathlib.Core.Path.{◌≡◌, refl, sym, ap, ◌∙◌}
use mathlib.Core.Logic.{◌≢◌}
use mathlib.Core.Bool.{true}
use native.Mathlib.Omega.{arith}
use native.Mathlib.Decide.{dec_lt}
use Rattle.counting.proofs.Gcd.{Order}
use Rattle.counting.specs.Lists.{it}
use Rattle.walk.specs.Darts.{Loop}
use Rattle.walk.proofs.Iterate.{it_add}
use Rattle.cell.specs.Cell.{Edges, crossings, edge, index, slot, step}
use Rattle.cell.specs.claims.Nodes.{Arranged}
use Rattle.cell.specs.Nodes.{joining}
use Rattle.cell.specs.Level.{is_level_cell}
use Rattle.cell.proofs.Nodes.{adcb, adbc, across_edge}
use Rattle.cell.proofs.Turn.{kth_once, dart_index}
use Rattle.booking.specs.Booking.{least_corner, left_between}
use Rattle.booking.specs.claims.Left.{left_dart, round_dart, further, Longest, TwoSteps}
use Rattle.booking.proofs.Counts.{longest_second, left_sum}
use Rattle.booking.proofs.Darts.{left_lt, left_edge, left_slot, room, round_up, round_down, two_steps, left_ba, left_bd}
use Rattle.booking.proofs.Rounds.{furthers_lt, further_lt, back_if, if_back}
use Rattle.booking.proofs.Closed.{lives}

module _ (w : Edges) (K : is_level_cell w.count ≡ true) where
  left_once : {a b c d : ℕ} → Arranged a b c d → (r u : ℕ) → r < left_between w.count a b → u < left_between w.count a b → left_dart w a b d r ≡ left_dart w a b d u → r ≡ u
  unfolding left_dart
  left_once {a} {b} A r u hr hu e =
      let f = kth_once w a b (least_corner w.count a + r) (least_corner w.count a + u) (room w K A r hr) (room w K A u hu)
      (sym (dart_index w A (least_corner w.count a + r) (room w K A r hr)) ∙ ap (λ m. index w (m / 2)) e ∙ dart_index w A (least_corner w.count a + u) (room w K A u hu)) in
      omega arith

  module _ {a b c d : ℕ} (L : Longest w.count a b c d) where
    abbrev A : Arranged a b c d
    A = L.all

    abbrev x : ℕ
    x = left_between w.count a b

    abbrev y : ℕ
    y = left_between w.count a c

    abbrev n : ℕ
    n = 2 * (x + y)

    -- a dart of the round
    module _ (q : ℕ) (l : q < n) where
      round_lt : round_dart w a b c d q < 2 * crossings w
      round_lt =
          elim (dec_lt q (x + y)) [
            | yes h ↦ rw (round_up w a b c d q h) (left_lt w K (adcb A) q (omega (arith, left_sum w.count K L)))
            | no h ↦ rw (round_down w a b c d q (omega arith)) (left_lt w K (adbc A) (n - 1 - q) (omega (arith, left_sum w.count K L)))
          ]

      round_edge : edge w (round_dart w a b c d q / 2) ≡ joining a d
      round_edge =
          elim (dec_lt q (x + y)) [
            | yes h ↦ rw (round_up w a b c d q h) (left_edge w K (adcb A) q (omega (arith, left_sum w.count K L)))
            | no h ↦ rw (round_down w a b c d q (omega arith)) (left_edge w K (adbc A) (n - 1 - q) (omega (arith, left_sum w.count K L)))
          ]

      slot_up : q < x + y → slot w (round_dart w a b c d q) ≡ b
      slot_up h = rw (round_up w a b c d q h) (left_slot w K (adcb A) q (omega (arith, left_sum w.count K L)))

      slot_down : x + y ≤ q → slot w (round_dart w a b c d q) ≡ c
      slot_down h = rw (round_down w a b c d q h) (left_slot w K (adbc A) (n - 1 - q) (omega (arith, left_sum w.count K L)))

    round_once : (q r : ℕ) → q < n → r < n → round_dart w a b c d q ≡ round_dart w a b c d r → q ≡ r
    round_once q r lq lr e =
        let S = left_sum w.count K L in
        elim (dec_lt q (x + y)) [
          | yes h ↦ elim (dec_lt r (x + y)) [
            | yes g ↦ left_once (adcb A) q r (omega arith) (omega arith) (sym (round_up w a b c d q h) ∙ e ∙ round_up w a b c d r g)
            | no g ↦ absurd (A.bc (sym (slot_up q lq h) ∙ ap (slot w) e ∙ slot_down r lr (omega arith)))
          ]
          | no h ↦ elim (dec_lt r (x + y)) [
            | yes g ↦ absurd (A.bc (sym (slot_up r lr g) ∙ ap (slot w) (sym e) ∙ slot_down q lq (omega arith)))
            | no g ↦
                let f = left_once (adbc A) (n - 1 - q) (n - 1 - r) (omega arith) (omega arith)
                (sym (round_down w a b c d q (omega arith)) ∙ e ∙ round_down w a b c d r (omega arith)) in
                omega arith
          ]
        ]

    -- four steps: over crossings that are not on ad, and 2 * x places on
    pub record Four (q : ℕ) : Type 0 where
      pub away : (r : ℕ) → 0 < r → r < 4 → edge w (it (step w) r (round_dart w a b c d q) / 2) ≢ joining a d
      pub to : it (step w) 4 (round_dart w a b c d q) ≡ round_dart w a b c d (it (further n x) 2 q)

  module _ {a b c d : ℕ} (L : Longest w.count a b c d) where
    pub four : (q : ℕ) → q < n L → Four L q
    unfolding it
    four q l =
        let L' = longest_second w.count K L in
        let sl : further (n L) (x L) q < n L = further_lt (n L) (x L) q l in
        let nx : left_between w.count b a ≡ x L = left_ba w K L in
        let ny : left_between w.count b d ≡ y L = left_bd w K L in
        let D = two_steps w K L q l in
        let E = two_steps w K L' (further (n L) (x L) q) (omega arith) in
        record {
          away = away D E (round_edge L' (further (n L) (x L) q) (omega arith));
          to = ap (λ m. step w (step w m)) D.to ∙ rw (nx, ny) at E.to;
        }
      where
        away : TwoSteps w a b c d q → TwoSteps w b a d c (further (n L) (x L) q) → edge w (round_dart w b a d c (further (n L) (x L) q) / 2) ≡ joining b c
            → (r : ℕ) → 0 < r → r < 4 → edge w (it (step w) r (round_dart w a b c d q) / 2) ≢ joining a d
        away D E R zero z h e = omega arith
        away D E R (suc zero) z h e = D.away e
        away D E R (suc (suc zero)) z h e = across_edge (adbc L.all) (sym (rw (D.to, R) at e))
        away D E R (suc (suc (suc zero))) z h e = E.apart (rw D.to at e)
        away D E R (suc (suc (suc (suc r)))) z h e = omega arith

    fours : (j q : ℕ) → q < n L → it (step w) (4 * j) (round_dart w a b c d q) ≡ round_dart w a b c d (it (further (n L) (x L)) (2 * j) q)
    unfolding it
    fours zero q l = refl
    fours (suc j) q l =
        let e : 4 * suc j ≡ 4 + 4 * j = omega arith in
        let f : 2 * suc j ≡ 2 + 2 * j = omega arith in
        ap (λ m. it (step w) m (round_dart w a b c d q)) e ∙ it_add (step w) 4 (4 * j) (round_dart w a b c d q)
        ∙ ap (it (step w) (4 * j)) (four q l).to
        ∙ fours j (it (further (n L) (x L)) 2 q) (furthers_lt (n L) (x L) 2 q l)
        ∙ ap (round_dart w a b c d) (sym (ap (λ m. it (further (n L) (x L)) m q) f ∙ it_add (further (n L) (x L)) 2 (2 * j) q))

    -- the loop of each dart of the round
    pub round_loop : (o : ℕ) → Order (x L) (x L + y L) o → (q : ℕ) → q < n L → Loop (2 * crossings w) (step w) (round_dart w a b c d q) (4 * o)
    round_loop o O q l = record {
      pos = omega (arith, O.pos);
      live = λ i h. lives w K i (round_dart w a b c d q) (round_lt L q l);
      home = fours o q l ∙ ap (round_dart w a b c d) (back_if (x L) (y L) o q l O.back);
      first = λ i z h e. go (i / 4) (i % 4) (omega arith) i (omega arith) z h e;
    }
      where
        go : (j r : ℕ) → r < 4 → (i : ℕ) → i ≡ 4 * j + r → 0 < i → i < 4 * o → it (step w) i (round_dart w a b c d q) ≢ round_dart w a b c d q
        go j zero hr i s z h e =
            let f : 4 * j ≡ i = omega arith in
            let g = round_once L (it (further (n L) (x L)) (2 * j) q) q (furthers_lt (n L) (x L) (2 * j) q l) l
            (sym (fours j q l) ∙ ap (λ m. it (step w) m (round_dart w a b c d q)) f ∙ e) in
            O.first j (omega arith) (omega arith) (if_back (x L) (y L) j q l g)
        go j (suc r) hr i s z h e =
            let f : it (step w) i (round_dart w a b c d q) ≡ it (step w) (suc r) (round_dart w a b c d (it (further (n L) (x L)) (2 * j) q)) =
            ap (λ m. it (step w) m (round_dart w a b c d q)) s ∙ it_add (step w) (4 * j) (suc r) (round_dart w a b c d q) ∙ ap (it (step w) (suc r)) (fours j q l) in
            (four (it (further (n L) (x L)) (2 * j) q) (furthers_lt (n L) (x L) (2 * j) q l)).away (suc r) (omega arith) hr
            (ap (λ m. edge w (m / 2)) (sym f ∙ e) ∙ round_edge L q l)
