use Prim.Native.Nat.{ℕ}
use mathlib.Core.Path.{◌≡◌, sym, subst}
use mathlib.Core.List.{List}
use lib.Ieee.{Float}
use borrow.Author.Rules.{rules}
use Rattle.cell.specs.declared.Cell.{Cell}
use Rattle.cell.specs.work.Route.{Near}
use Rattle.cell.specs.claims.Middles.{points_then, next_point}
use Rattle.cell.proofs.Using.{limited_near}
use Rattle.cell.proofs.part_middles.write_fans.Goals as goal

-- what is written of the cell within its limits
of_limited : (nodes was : List Float) (at : ℕ) {v w : Cell} → v ≡ w → {r : ℕ} {is : List Float} → (r ≡ next_point nodes v was at) × (is ≡ points_then nodes v was at)
    → (r ≡ next_point nodes w was at) × (is ≡ points_then nodes w was at)
of_limited nodes was at e p = rw (← e) p

pub put_each-requires : goal.put_each-requires
put_each-requires c = record { near = subst Near (sym c.within-v.ensures) (limited_near _); all = search rules; few = search rules; long = search rules }

pub returns-then-n-le-SOME_IN_CELL : goal.returns-then-n-le-SOME_IN_CELL
returns-then-n-le-SOME_IN_CELL c = let a = c.args in of_limited a.nodes.now a.area.now a.at c.within-v.ensures c.put_each.ensures.value

pub put_each-requires-then-n-le-FEW_IN_CELL : goal.put_each-requires-then-n-le-FEW_IN_CELL
put_each-requires-then-n-le-FEW_IN_CELL c = record { near = subst Near (sym c.within-v.ensures) (limited_near _); all = search rules; few = search rules; long = search rules }

pub returns-then-n-le-FEW_IN_CELL : goal.returns-then-n-le-FEW_IN_CELL
returns-then-n-le-FEW_IN_CELL c = let a = c.args in of_limited a.nodes.now a.area.now a.at c.within-v.ensures c.put_each-then-n-le-FEW_IN_CELL.ensures.value

pub put_each-requires-2 : goal.put_each-requires-2
put_each-requires-2 c = record { near = subst Near (sym c.within-v.ensures) (limited_near _); all = search rules; few = search rules; long = search rules }

pub returns : goal.returns
returns c = let a = c.args in of_limited a.nodes.now a.area.now a.at c.within-v.ensures c.put_each-2.ensures.value
