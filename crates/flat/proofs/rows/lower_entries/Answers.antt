use Prim.Native.Nat.{ℕ, ◌-◌}
use mathlib.Core.Path.{◌∙◌, ◌≡◌, ap, sym}
use mathlib.Core.List.{List}
use native.Mathlib.Omega.{arith}
use native.Mathlib.Nat.{not-suc-le-zero}
use lib.ListN.{get_or}
use borrow.Author.Count.{below_more}
use borrow.Author.Tests.{eq-eqb, ne_eqb}
use Rattle.counting.specs.Stored.{filled}
use Rattle.counting.proofs.Search.{found_end, found_hit}
use Rattle.counting.proofs.Stored.{filled_beyond, filled_more, filled_none}
use Rattle.flat.proofs.rows.lower_entries.Goals as goal

-- the entry at j is still as it was
entry : (was : List ℕ) (j : ℕ) {sides : List ℕ} → sides ≡ filled (λ j. get_or was j 0 - 1) j was → get_or sides j 0 ≡ get_or was j 0
entry was j e = ap (λ (l : List ℕ). get_or l j 0) e ∙ filled_beyond (λ j. get_or was j 0 - 1) j was 0 j (omega arith)

pub loop-j-init : goal.loop-j-init
loop-j-init c = record { none = λ i h. absurd (not-suc-le-zero h); lowered = filled_none _ _ }

pub returns-then-p-eq0 : goal.returns-then-p-eq0
returns-then-p-eq0 c =
    let L = c.loop-j in
    record {
      result_value = found_hit _ _ L.j (omega arith) (eq-eqb _ 0 (sym (entry c.args.sides.now L.j L.invariant.lowered) ∙ c.if-p-eq0.true)) L.invariant.none;
      sides_after = L.invariant.lowered;
    }

pub loop-j-preserved : goal.loop-j-preserved
loop-j-preserved c =
    let L = c.loop-j in
    let e = entry c.args.sides.now L.j L.invariant.lowered in
    record {
      none = below_more _ _ L.invariant.none (ne_eqb _ 0 (λ q. c.if-p-eq0.false (e ∙ q)));
      lowered = filled_more _ _ _ _ _ L.invariant.lowered (ap (λ (x : ℕ). x - 1) e);
    }

pub returns : goal.returns
returns c =
    let L = c.loop-j in
    let A = c.args in
    let e : L.j ≡ A.n = omega arith in
    record {
      result_value = found_end _ _ (λ i h. L.invariant.none i (omega arith));
      sides_after = L.invariant.lowered ∙ ap (λ (k : ℕ). filled (λ j. get_or A.sides.now j 0 - 1) k A.sides.now) e;
    }
