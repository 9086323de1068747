use Prim.Native.Nat.{◌+◌, ◌-◌}
use mathlib.Core.Path.{◌∙◌, ◌≡◌, ap, refl}
use mathlib.Core.List.{[], ◌∷◌}
use native.Mathlib.Omega.{arith}
use lib.ListN.{set}
use Rattle.answer.specs.Answer.{result_of}
use Rattle.grid.specs.Grid.{count_of, crossings}
use Rattle.grid.proofs.Settings.{Settable, change_10, change_18, change_21, change_made, change_refused, change_starting, change_total, change_written, count_below}
use Rattle.grid.proofs.change.Goals as goal

pub returns-then-counts-edge : goal.returns-then-counts-edge
returns-then-counts-edge c = change_refused _ _ _ _ c.at.result (rw c.at.ensures (change_21 _ _ _ c.if-counts-edge.true))

pub returns-then-count-gt-MOST_COUNT : goal.returns-then-count-gt-MOST_COUNT
returns-then-count-gt-MOST_COUNT c = change_refused _ _ _ _ c.at-then-count-gt-MOST_COUNT.result (rw c.at-then-count-gt-MOST_COUNT.ensures (change_18 _ _ _ c.if-counts-edge.false c.if-count-gt-MOST_COUNT.true))

pub overflow_sub-m : goal.overflow_sub-m
overflow_sub-m c = let a = c.args in
    omega (arith, count_below a.counts.now a.edge a.count c.if-counts-edge.false, c.requires.all)

pub returns-then-m-gt-MOST_CROSSINGS : goal.returns-then-m-gt-MOST_CROSSINGS
returns-then-m-gt-MOST_CROSSINGS c = let a = c.args in
    let l = c.if-counts-edge.false in
    change_refused _ _ _ _ c.at-then-m-gt-MOST_CROSSINGS.result
    (rw c.at-then-m-gt-MOST_CROSSINGS.ensures (change_10 _ _ _ l c.if-count-gt-MOST_COUNT.false (omega (arith, change_total a.counts.now a.edge a.count a.n l c.requires.all))))

pub write_starts-requires : goal.write_starts-requires
write_starts-requires c = let a = c.args in
    let p = c.requires in
    let l = c.if-counts-edge.false in
    change_starting a.counts.now a.edge a.count a.starts.now a.n p
    (record {
      listed = l;
      within = c.if-count-gt-MOST_COUNT.false;
      few = omega (arith, change_total a.counts.now a.edge a.count a.n l p.all, c.if-m-gt-MOST_CROSSINGS.false);
    })

pub returns : goal.returns
returns c = let a = c.args in
    let p = c.requires in
    let l = c.if-counts-edge.false in
    let total = change_total a.counts.now a.edge a.count a.n l p.all in
    let s : Settable a.counts.now a.edge a.count = record {
      listed = l;
      within = c.if-count-gt-MOST_COUNT.false;
      few = omega (arith, total, c.if-m-gt-MOST_CROSSINGS.false);
    } in
    let m : c.args.n - count_of a.counts.now a.edge + a.count ≡ crossings (set a.counts.now a.edge a.count) = omega (arith, total) in
    record {
      answered = ap (λ k. result_of (k ∷ [])) m ∙ change_made a.counts.now a.edge a.count s;
      counts_are = refl;
      starts_are = c.write_starts.ensures ∙ change_written a.counts.now a.edge a.count a.starts.now a.n p s;
    }
