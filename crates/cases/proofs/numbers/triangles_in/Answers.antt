use Prim.Native.Nat.{ℕ, ◌+◌, ◌*◌, ◌/◌, ◌%◌, ◌≤◌, ◌<◌}
use mathlib.Core.Path.{◌≡◌, ap, ◌∙◌}
use mathlib.Core.List.{[]}
use native.Mathlib.Nat.{mul-le-mul}
use native.Mathlib.Omega.{arith}
use lib.ListN.{get_or}
use Rattle.counting.proofs.Stored.{summed_none, summed_more, summed_all}
use Rattle.cases.specs.claims.Cases.{entries}
use Rattle.cases.specs.claims.Tally.{triangles_at}
use Rattle.cases.specs.work.Tally.{triangles_for, most_for}
use Rattle.cases.proofs.Rows.{triangles-at, triangles-few}
use Rattle.cases.proofs.numbers.triangles_in.Goals as goal

product : (a b : ℕ) → a ≤ 65535 → b ≤ 255 → a * b ≤ most_for
product a b h l = mul-le-mul h l

pub loop-n-init : goal.loop-n-init
loop-n-init c = summed_none _ _

pub loop-n-preserved : goal.loop-n-preserved
unfolding triangles_at triangles_for
loop-n-preserved c = let L = c.loop-n in
    let h : L.n < entries = omega arith in
    let e = ap (λ l. get_or (get_or l (L.n / 9) []) (2 * (L.n % 9) + 1) 0) c.table_rows-rows.ensures ∙ triangles-at L.n h in
    summed_more _ _ L.invariant _ (ap (λ b. get_or c.args.cells.now L.n 0 * b) e) (product _ _ (omega (arith, c.fits-cells L.n)) (rw e (triangles-few L.n h)))

pub returns : goal.returns
returns c = let I = c.loop-n.invariant in (summed_all _ _ I (omega arith), omega (arith, I.few))
