use Prim.Native.Nat.{ℕ}
use mathlib.Core.Path.{◌≡◌, ap, ◌∙◌}
use mathlib.Core.List.{List}
use native.Mathlib.Omega.{arith}
use lib.ListN.{length, get_or}
use Rattle.counting.proofs.Stored.{filled_none, filled_more, filled_beyond, length_filled}
use Rattle.trees.specs.work.Planted.{source_at, spread_at}
use Rattle.trees.proofs.Planted.{source_up, source_in}
use Rattle.trees.proofs.pairs.spread.Goals as goal

pub loop-j-init : goal.loop-j-init
loop-j-init c = (omega arith, filled_none _ _)

pub offset_bounds-places-source : goal.offset_bounds-places-source
offset_bounds-places-source c = omega (arith, c.source.ensures, source_in _ _ c.requires.topped c.loop-j.j (omega arith), c.requires.n_in_bounds)

pub bounds-places-source : goal.bounds-places-source
bounds-places-source c = omega (arith, c.source.ensures, source_in _ _ c.requires.topped c.loop-j.j (omega arith), c.requires.n_in_bounds, simp length_filled at (ap length c.loop-j.invariant.1))

pub loop-j-preserved : goal.loop-j-preserved
unfolding spread_at
loop-j-preserved c = let a = c.args in
    let l = c.loop-j in
    let s = source_at a.tops.now l.j in
    let e : get_or l.places c.source.result 0 ≡ get_or a.places.now s 0 =
    ap (λ i. get_or l.places i 0) c.source.ensures
    ∙ ap (λ (x : List ℕ). get_or x s 0) l.invariant.1
    ∙ filled_beyond (spread_at a.tops.now a.places.now) l.j a.places.now 0 s (source_up _ _ c.requires.topped l.j (omega arith)) in
    (omega arith, filled_more (spread_at a.tops.now a.places.now) _ _ _ _ l.invariant.1 e)
