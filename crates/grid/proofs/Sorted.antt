-- Edges in order, by the lower end and then the higher: row 6 of the check, for any list of edges.
use Prim.Native.Nat.{ℕ, zero, suc, ◌-◌, ◌<◌}
use mathlib.Core.Path.{◌∙◌, ◌≡◌, refl, sym}
use mathlib.Core.Logic.{inl, inr}
use mathlib.Core.Bool.{Bool, ◌&&◌, false, not, true}
use mathlib.Core.List.{List}
use native.Mathlib.Omega.{arith}
use lib.Dec.{eqb, ltb}
use borrow.Author.Tests.{eq-eqb, eqb-true, lt-ltb, ltb-true, ne_eqb, not-false}
use Rattle.counting.specs.Pick.{pick}
use Rattle.counting.proofs.Below.{climb, trichotomy}
use Rattle.counting.proofs.Bools.{or_false, or_none}
use Rattle.grid.specs.Grid.{Before, high, low}
use Rattle.grid.specs.Rows.{bad_edge, is_after}

-- earlier and later ends
pub before_trans : (a b c d e f : ℕ) → Before a b c d → Before c d e f → Before a b e f
before_trans a b c d e f (inl h) (inl k) = inl (omega arith)
before_trans a b c d e f (inl h) (inr k) = inl (omega (arith, k.0))
before_trans a b c d e f (inr h) (inl k) = inl (omega (arith, h.0))
before_trans a b c d e f (inr h) (inr k) = inr (h.0 ∙ k.0, omega (arith, h.1, k.1))

pub before_not : (a b c d : ℕ) → Before a b c d → Before c d a b → ⊥
before_not a b c d (inl h) (inl k) = omega arith
before_not a b c d (inl h) (inr k) = omega (arith, k.0)
before_not a b c d (inr h) (inl k) = omega (arith, h.0)
before_not a b c d (inr h) (inr k) = omega (arith, h.1, k.1)

pub before_same : (a b c d : ℕ) → a ≡ c → b ≡ d → Before a b c d → ⊥
before_same a b c d e f (inl h) = omega arith
before_same a b c d e f (inr h) = omega (arith, h.1)

module _ (edges : List ℕ) (d e : ℕ) where
  after_before : is_after edges d e ≡ true → Before (low edges d) (high edges d) (low edges e) (high edges e)
  unfolding is_after
  after_before h = go (eqb (low edges d) (low edges e)) refl h
    where
      go : (b : Bool) → eqb (low edges d) (low edges e) ≡ b → pick b (ltb (high edges d) (high edges e)) (ltb (low edges d) (low edges e)) ≡ true
          → Before (low edges d) (high edges d) (low edges e) (high edges e)
      go true q k = inr (eqb-true (low edges d) (low edges e) q, ltb-true (high edges d) (high edges e) k)
      go false q k = inl (ltb-true (low edges d) (low edges e) k)

  before_after : Before (low edges d) (high edges d) (low edges e) (high edges e) → is_after edges d e ≡ true
  unfolding is_after
  before_after (inl h) = rw (ne_eqb (low edges d) (low edges e) (λ q. omega arith)) (lt-ltb (low edges d) (low edges e) h)
  before_after (inr h) = rw (eq-eqb (low edges d) (low edges e) h.0) (lt-ltb (high edges d) (high edges e) h.1)

module _ (edges : List ℕ) (n : ℕ) where
  -- n edges without a fault rise
  module _ (clear : (e : ℕ) → e < n → bad_edge edges e ≡ false) where
    pub edge-ends : (e : ℕ) → e < n → low edges e < high edges e
    unfolding bad_edge
    edge-ends e h =
        ltb-true (low edges e) (high edges e) (not-false (ltb (low edges e) (high edges e))
        (or_none (not (ltb (low edges e) (high edges e))) (ltb 0 e && not (is_after edges (e - 1) e)) (clear e h)).0)

    next_edge : (e : ℕ) → suc e < n → Before (low edges e) (high edges e) (low edges (suc e)) (high edges (suc e))
    unfolding bad_edge
    next_edge e h =
        let b = (or_none (not (ltb (low edges (suc e)) (high edges (suc e)))) (ltb 0 (suc e) && not (is_after edges (suc e - 1) (suc e))) (clear (suc e) h)).1 in
        let z : suc e - 1 ≡ e = omega arith in
        after_before edges e (suc e) (not-false (is_after edges e (suc e)) (rw (lt-ltb 0 (suc e) (omega arith), z) at b))

    pub sorted_edges : (d e : ℕ) → d < e → e < n → Before (low edges d) (high edges d) (low edges e) (high edges e)
    sorted_edges =
        climb (λ d e. Before (low edges d) (high edges d) (low edges e) (high edges e)) n
        (λ i j k a b. before_trans (low edges i) (high edges i) (low edges j) (high edges j) (low edges k) (high edges k) a b) next_edge

  module _ (sorted : (d e : ℕ) → d < e → e < n → Before (low edges d) (high edges d) (low edges e) (high edges e)) where
    -- no two have the same ends
    pub same-edge : (d e : ℕ) → d < n → e < n → low edges d ≡ low edges e → high edges d ≡ high edges e → d ≡ e
    same-edge d e ld le p q = trichotomy d e
        (λ l. absurd (before_same (low edges d) (high edges d) (low edges e) (high edges e) p q (sorted d e l le)))
        (λ l. absurd (before_same (low edges e) (high edges e) (low edges d) (high edges d) (sym p) (sym q) (sorted e d l ld))) (λ e. e)

  -- and n edges that rise are without a fault
  pub clear_edge : ((e : ℕ) → e < n → low edges e < high edges e) → ((d e : ℕ) → d < e → e < n → Before (low edges d) (high edges d) (low edges e) (high edges e))
      → (e : ℕ) → e < n → bad_edge edges e ≡ false
  unfolding bad_edge
  clear_edge ends sorted e h =
      or_false (not (ltb (low edges e) (high edges e))) (ltb 0 e && not (is_after edges (e - 1) e)) (rw (lt-ltb (low edges e) (high edges e) (ends e h))) (later e h)
    where
      later : (e : ℕ) → e < n → ltb 0 e && not (is_after edges (e - 1) e) ≡ false
      later zero h = refl
      later (suc d) h =
          let z : suc d - 1 ≡ d = omega arith in
          rw (z, before_after edges d (suc d) (sorted d (suc d) (omega arith) h), lt-ltb 0 (suc d) (omega arith))
