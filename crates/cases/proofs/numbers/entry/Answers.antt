use Prim.Native.Nat.{◌+◌, ◌*◌, ◌/◌, ◌%◌}
use mathlib.Core.Path.{ap, ap₂, ◌∙◌}
use mathlib.Core.List.{[], ◌∷◌}
use native.Mathlib.Omega.{arith}
use lib.ListN.{get_or}
use Rattle.cases.proofs.Rows.{loops-at, triangles-at}
use Rattle.cases.proofs.numbers.entry.Goals as goal

pub table_rows-rows-requires : goal.table_rows-rows-requires
table_rows-rows-requires c = tt

pub returns : goal.returns
returns c = let n = c.args.n in
    let e = c.table_rows-rows.ensures in
    ap₂ (λ a b. a ∷ b ∷ []) (ap (λ l. get_or (get_or l (n / 9) []) (2 * (n % 9)) 0) e ∙ loops-at n (omega arith)) (ap (λ l. get_or (get_or l (n / 9) []) (2 * (n % 9) + 1) 0) e ∙ triangles-at n (omega arith))
