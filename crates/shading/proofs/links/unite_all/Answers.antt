use mathlib.Core.Path.{◌≡◌, refl, subst}
use native.Mathlib.Omega.{arith}
use lib.ListN.{length}
use Rattle.counting.proofs.Bools.{clash}
use Rattle.shading.specs.work.Work.{TiedAll}
use Rattle.shading.proofs.Ties.{tied_none, tied_more, tied_not}
use Rattle.shading.proofs.links.unite_all.Goals as goal

pub loop-e-init : goal.loop-e-init
loop-e-init c = tied_none _ _ _ c.requires

pub unite-requires : goal.unite-requires
unite-requires c = let l = c.loop-e in
    let P = c.requires in
    let N = l.invariant.nodes in
    record {
      unitable = record {
        forest = l.invariant.forest;
        low_linked = (N.kept _ (P.low_linked l.e (omega arith)));
        high_linked = (N.kept _ (P.high_linked l.e (omega arith)));
      };
      count_bound = omega arith;
    }

pub returns-then-not-unite : goal.returns-then-not-unite
returns-then-not-unite c = let l = c.loop-e in
    let a = c.args in
    record {
      tied = λ e. clash e refl;
      none = λ e. tied_not a.edges.now a.counts.now a.links.now l.e l.links l.invariant (omega arith) _ _ _
          refl refl refl _ _ c.unite.ensures c.if-not-unite.true;
    }

pub loop-e-preserved : goal.loop-e-preserved
loop-e-preserved c = let l = c.loop-e in
    let a = c.args in
    tied_more a.edges.now a.counts.now a.links.now l.e l.links l.invariant (omega arith) _ _ _
    refl refl refl _ _ c.unite.ensures c.if-not-unite.false

pub returns : goal.returns
returns c = let l = c.loop-e in
    let a = c.args in
    let e : l.e ≡ length a.counts.now = omega arith in
    record { tied = λ r. subst (λ k. TiedAll a.edges.now a.counts.now a.links.now k l.links) e l.invariant; none = λ r. clash refl r }
