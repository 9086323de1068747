use Rattle.std.specs.Prelude.{option_map}
use Rattle.std.proofs.Common.{rules}
use Prim.Native.Nat.{◌*◌, ◌/◌}
use mathlib.Core.Path.{◌≡◌, ◌∙◌, ap}
use native.Mathlib.Omega.{arith}
use lib.ListN.{length}
use Rattle.flat.specs.work.Work.{most_sides}
use Rattle.counting.proofs.Tables.{filled_table}
use Rattle.flat.proofs.Keys.{earlier_table, entry_le, third_first, third_found, twice_first}
use Rattle.flat.proofs.triangles.row_5.Goals as goal

pub first_third-requires : goal.first_third-requires
first_third-requires c = let n = 3 * (length c.args.triangles.now / 3) in
    let k = filled_table _ n _ _ c.side_keys.ensures (omega (arith, c.requires.few)) in
    let v = earlier_table k most_sides c.earlier_places.ensures (omega (arith, c.requires.few)) (omega (arith, c.requires.few)) in
    record { n_in_bounds = v.room; by_index = entry_le _ _ n v }

pub returns : goal.returns
returns c = let n = 3 * (length c.args.triangles.now / 3) in
    let k = filled_table _ n _ _ c.side_keys.ensures (omega (arith, c.requires.few)) in
    let v = earlier_table k most_sides c.earlier_places.ensures (omega (arith, c.requires.few)) (omega (arith, c.requires.few)) in
    let e : c.map.result ≡ option_map (λ j. j / 3) c.first_third.result = search rules in
    e ∙ third_found _ _ (length c.args.triangles.now / 3) (ap (λ x. x / 3) (twice_first _ _ n v) ∙ third_first _ c.requires _ k) _ c.first_third.ensures
