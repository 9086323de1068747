-- Cells without fans passed over: none is counted, and nothing is written among the points.
use Prim.Native.Nat.{ℕ, zero, suc, ◌+◌, ◌-◌, ◌≤◌, ◌<◌}
use mathlib.Core.Path.{◌≡◌, refl, sym, ap, ap₂, ◌∙◌}
use mathlib.Core.List.{List}
use native.Mathlib.Omega.{arith}
use native.Mathlib.Nat.{add-zero}
use native.Mathlib.Decide.{dec_lt}
use lib.Ieee.{Float}
use Rattle.counting.proofs.Range.{total_zero}
use Rattle.cell.specs.declared.Cell.{Cell}
use Rattle.cell.specs.Level.{by_edge}
use Rattle.cell.specs.claims.Middles.{fan_count, points_then, next_point}
use Rattle.cell.specs.claims.Table.{table_cell, taken_counts, drawn_cells}
use Rattle.cell.specs.work.Table.{table_fans, middles_written}
use Rattle.cell.proofs.Values.{taken_is}
use Rattle.direct.specs.claims.Direct.{Plain}
use Rattle.direct.specs.work.Cells.{PassedOver}
use Rattle.direct.proofs.Fans.{no_fans, no_middles}

module _ (counts sides : List ℕ) (c end : ℕ) where
  pub over_none : c ≤ end → PassedOver counts sides c end c
  over_none h = record { from = omega arith; upto = h; none = λ k a b. absurd (omega arith) }

  pub over_one : {k : ℕ} → PassedOver counts sides c end k → k < end → Plain (by_edge (taken_counts counts sides k)) → PassedOver counts sides c end (k + 1)
  over_one {k} P h Q = record {
    from = omega (arith, P.from);
    upto = omega arith;
    none = λ j a b. elim (dec_lt j k) [ yes l ↦ P.none j a l | no l ↦ (let e : j ≡ k = omega arith in rw e Q) ];
  }

module _ (cells counts names sides starts : List ℕ) where
  abbrev at : ℕ → Cell
  at k = table_cell cells counts names sides starts k

  module _ {c end p : ℕ} (P : PassedOver counts sides c end p) where
    no-fans : (k : ℕ) → c ≤ k → k < p → fan_count (at k) ≡ 0
    no-fans k a b = no_fans (at k) (rw (taken_is cells counts names sides starts k) at (P.none k a b))

  -- where all are passed over, there is no fan
  pub fans_over : {n : ℕ} → n ≡ drawn_cells cells → {p : ℕ} → PassedOver counts sides 0 n p → p ≡ n → 0 ≡ table_fans cells counts names sides starts
  unfolding table_fans
  fans_over {n} e {p} P q = sym (total_zero (λ k. fan_count (at k)) (drawn_cells cells) 0 (λ k a b. no-fans P k a (omega arith)))

  module _ (nodes : List Float) where
    abbrev written : ℕ → List Float → ℕ → ℕ → List Float × ℕ
    written = middles_written cells counts names sides starts nodes

    after : Cell → List Float × ℕ → List Float × ℕ
    after v w = (points_then nodes v w.0 w.1, next_point nodes v w.0 w.1)

    -- of cells without fans nothing is written
    pub none_written : (first : ℕ) (area : List Float) (i n : ℕ) → ((k : ℕ) → first ≤ k → k < first + n → fan_count (at k) ≡ 0) → written first area i n ≡ (area, i)
    unfolding middles_written after
    none_written first area i zero h = refl
    none_written first area i (suc n) h =
        let N = no_middles nodes (at (first + n)) area i (h (first + n) (omega arith) (omega arith)) in
        ap (after (at (first + n))) (none_written first area i n (λ k a b. h k a (omega arith))) ∙ ap₂ (λ (x : List Float) (y : ℕ). (x, y)) N.same_area N.same_point

    -- some cells and then others
    written_then : (first : ℕ) (area : List Float) (i n m : ℕ) → written (first + n) (written first area i n).0 (written first area i n).1 m ≡ written first area i (n + m)
    unfolding middles_written after
    written_then first area i n zero = ap (written first area i) (sym (add-zero n))
    written_then first area i n (suc m) =
        let e : n + suc m ≡ suc (n + m) = omega arith in
        let f : first + n + m ≡ first + (n + m) = omega arith in
        ap₂ after (ap at f) (written_then first area i n m) ∙ ap (written first area i) (sym e)

    pub written_on : (first : ℕ) (area : List Float) (i : ℕ) {k e : ℕ} {mid out : List Float} {j m : ℕ} → first ≤ k → k ≤ e
        → (mid, j) ≡ written first area i (k - first) → (out, m) ≡ written k mid j (e - k) → (out, m) ≡ written first area i (e - first)
    written_on first area i {k} {e} {mid} {out} {j} {m} l h p q =
        let f : first + (k - first) ≡ k = omega arith in
        let g : (k - first) + (e - k) ≡ e - first = omega arith in
        let w = written first area i (k - first) in
        q ∙ ap (λ (x : List Float × ℕ). written k x.0 x.1 (e - k)) p ∙ ap (λ n. written n w.0 w.1 (e - k)) (sym f)
        ∙ written_then first area i (k - first) (e - k) ∙ ap (written first area i) g

    pub written-over : (first : ℕ) (area : List Float) (i : ℕ) {k end p : ℕ} {mid : List Float} {j : ℕ} → first ≤ k → PassedOver counts sides k end p
        → (mid, j) ≡ written first area i (k - first) → (mid, j) ≡ written first area i (p - first)
    written-over first area i {k} {end} {p} {mid} {j} l P q =
        written_on first area i l P.from q (sym (none_written k mid j (p - k) (λ n a b. no-fans P n a (omega (arith, P.from)))))
