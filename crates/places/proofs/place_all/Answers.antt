use Rattle.std.proofs.lemmas.Result.{err_from_is_err_and}
use Prim.Native.Nat.{◌+◌}
use native.Mathlib.Omega.{arith}
use Rattle.places.proofs.Whole.{refused_in, placeable, points_in}
use Rattle.places.proofs.place_all.Goals as goal

pub overflow_add-fans : goal.overflow_add-fans
overflow_add-fans c = omega (arith, c.requires.few, c.count_fans-own.ensures.1, c.extra_of-more.ensures.few_inner, c.extra_of-more.ensures.few_fans)

pub overflow_add-all : goal.overflow_add-all
overflow_add-all c = omega (arith, c.requires.few, c.count_fans-own.ensures.1, c.extra_of-more.ensures.few_inner, c.extra_of-more.ensures.few_fans)

pub overflow_add-all-2 : goal.overflow_add-all-2
overflow_add-all-2 c = omega (arith, c.requires.few, c.count_fans-own.ensures.1, c.extra_of-more.ensures.few_inner, c.extra_of-more.ensures.few_fans)

pub judge-requires : goal.judge-requires
judge-requires c = record { judgeable = c.requires.judged; points_le_most_points = omega (arith, c.requires.few, c.count_fans-own.ensures.1, c.extra_of-more.ensures.few_inner, c.extra_of-more.ensures.few_fans) }

pub returns-in_err-many : goal.returns-in_err-many
returns-in_err-many c = let a = c.args in
    let R = c.requires in
    let j = c.judge in
    let t = c.count_fans-own in
    let x = c.extra_of-more in
    let m = a.n + x.result.inner + (t.result + x.result.fans) in
    let p = err_from_is_err_and c.from_residual.result c.from_residual.ensures.1 in
    rw (p.1, p.2) (refused_in a.tables.cells.now a.edges.now a.tables.counts.now a.tables.names.now a.tables.sides.now a.tables.starts.now a.nodes.now a.fractions.now a.n R a.area.now j.result m (omega (arith, t.ensures.0, x.ensures.inner_are, x.ensures.fans_are)) j.ensures _ c.in_err-many.was)

pub place_crossings-requires : goal.place_crossings-requires
place_crossings-requires c = let a = c.args in
    let R = c.requires in
    let j = c.judge in
    let t = c.count_fans-own in
    let x = c.extra_of-more in
    let m = a.n + x.result.inner + (t.result + x.result.fans) in
    placeable a.tables.cells.now a.edges.now a.tables.counts.now a.tables.names.now a.tables.sides.now a.tables.starts.now a.nodes.now a.fractions.now a.n R a.area.now j.result m (omega (arith, t.ensures.0, x.ensures.inner_are, x.ensures.fans_are)) j.ensures _ c.in_ok-many.was

pub place_rest-requires : goal.place_rest-requires
place_rest-requires c = (c.extra_of-more.ensures.inner_are, c.count_fans-own.ensures.0)

pub returns : goal.returns
returns c = let a = c.args in
    let R = c.requires in
    let j = c.judge in
    let t = c.count_fans-own in
    let x = c.extra_of-more in
    let m = a.n + x.result.inner + (t.result + x.result.fans) in
    points_in a.tables.cells.now a.edges.now a.tables.counts.now a.tables.names.now a.tables.sides.now a.tables.starts.now a.nodes.now a.fractions.now a.n R a.area.now j.result m (omega (arith, t.ensures.0, x.ensures.inner_are, x.ensures.fans_are)) j.ensures _ c.in_ok-many.was _ c.place_crossings.ensures _ c.place_rest.ensures
