use Prim.Native.Nat.{ℕ}
use mathlib.Core.Path.{◌≡◌, sym, ap, ◌∙◌, subst}
use mathlib.Core.List.{List}
use borrow.Author.Rules.{rules}
use Rattle.counting.specs.Stored.{stored_in}
use Rattle.counting.specs.claims.Lists.{next_in}
use Rattle.cell.specs.declared.Cell.{Cell}
use Rattle.cell.specs.work.Route.{Near, limited}
use Rattle.cell.specs.Words.{all_words}
use Rattle.cell.specs.Triangles.{triangles_with}
use Rattle.cell.proofs.Using.{limited_near}
use Rattle.cell.proofs.parts.write_loops.Goals as goal

-- the cell with its starts within the limit
near : (c : Cell) {v : Cell} → v ≡ limited c → Near v
near c e = subst Near (sym e) (limited_near c)

as_limited : (c : Cell) {v : Cell} (only : ℕ) (area : List ℕ) (at : ℕ) {is : List ℕ} {r : ℕ} → v ≡ limited c
    → (r ≡ next_in area at (all_words (triangles_with v only))) × (is ≡ stored_in area at (all_words (triangles_with v only)))
    → (r ≡ next_in area at (all_words (triangles_with (limited c) only))) × (is ≡ stored_in area at (all_words (triangles_with (limited c) only)))
as_limited c only area at e (p, q) = (p ∙ ap (λ v. next_in area at (all_words (triangles_with v only))) e, q ∙ ap (λ v. stored_in area at (all_words (triangles_with v only))) e)

pub put_part-requires : goal.put_part-requires
put_part-requires c = record { near = near c.args.c c.within-v.ensures; all = search rules; few = search rules; long = search rules }

pub returns-then-n-le-SOME_IN_CELL : goal.returns-then-n-le-SOME_IN_CELL
returns-then-n-le-SOME_IN_CELL c = let A = c.args in
    as_limited A.c A.only A.area.now A.at c.within-v.ensures c.put_part.ensures.value

pub put_part-requires-then-n-le-FEW_IN_CELL : goal.put_part-requires-then-n-le-FEW_IN_CELL
put_part-requires-then-n-le-FEW_IN_CELL c = record { near = near c.args.c c.within-v.ensures; all = search rules; few = search rules; long = search rules }

pub returns-then-n-le-FEW_IN_CELL : goal.returns-then-n-le-FEW_IN_CELL
returns-then-n-le-FEW_IN_CELL c = let A = c.args in
    as_limited A.c A.only A.area.now A.at c.within-v.ensures c.put_part-then-n-le-FEW_IN_CELL.ensures.value

pub put_part-requires-then-n-le-MANY_IN_CELL : goal.put_part-requires-then-n-le-MANY_IN_CELL
put_part-requires-then-n-le-MANY_IN_CELL c = record { near = near c.args.c c.within-v.ensures; all = search rules; few = search rules; long = search rules }

pub returns-then-n-le-MANY_IN_CELL : goal.returns-then-n-le-MANY_IN_CELL
returns-then-n-le-MANY_IN_CELL c = let A = c.args in
    as_limited A.c A.only A.area.now A.at c.within-v.ensures c.put_part-then-n-le-MANY_IN_CELL.ensures.value

pub put_part-requires-2 : goal.put_part-requires-2
put_part-requires-2 c = record { near = near c.args.c c.within-v.ensures; all = search rules; few = search rules; long = search rules }

pub returns : goal.returns
returns c = let A = c.args in
    as_limited A.c A.only A.area.now A.at c.within-v.ensures c.put_part-2.ensures.value
