use Prim.Native.Nat.{◌/◌}
use mathlib.Core.Path.{◌∙◌}
use native.Mathlib.Omega.{arith}
use lib.ListN.{length}
use Rattle.flat.specs.FlatGrid.{most_flat_triangles}
use Rattle.counting.proofs.Tables.{filled_table}
use Rattle.grid.proofs.Blocks.{found_same}
use Rattle.flat.proofs.Keys.{earlier_table, entry_found, repeats_first}
use Rattle.flat.proofs.triangles.row_4.Goals as goal

pub returns : goal.returns
returns c = let n = length c.args.triangles.now / 3 in
    let k = filled_table _ n _ _ c.triangle_keys.ensures (omega arith) in
    let v = earlier_table k most_flat_triangles c.earlier_places.ensures (omega arith) (omega arith) in
    c.first_entry.ensures ∙ entry_found _ n v.room ∙ found_same _ _ n (repeats_first _ (λ i. omega (arith, c.type_inv.triangles i)) n _ _ k v)
