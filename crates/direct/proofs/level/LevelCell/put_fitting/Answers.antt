use Prim.Native.Nat.{◌+◌, ◌*◌}
use mathlib.Core.Path.{sym, ◌∙◌}
use borrow.Author.Tests.{leb-false}
use lib.ListN.{length}
use Rattle.cell.specs.Words.{word_count}
use Rattle.direct.proofs.Cells.{few_triangles, has_place, placed, unplaced}
use Rattle.direct.proofs.level.LevelCell.put_fitting.Goals as goal

pub fits-requires : goal.fits-requires
fits-requires c = few_triangles c.args.self.now.cell c.requires.2

pub put_all-requires : goal.put_all-requires
put_all-requires c = let A = c.args in
    let P = c.requires in
    record { plain = (P.0, P.1); self_in_bounds = has_place A.self.now.cell A.area.now A.at P.2 (sym c.fits.ensures ∙ c.if-fits.true) }

pub returns-then-fits : goal.returns-then-fits
returns-then-fits c = let A = c.args in
    placed A.self.now.cell A.area.now A.at c.requires.2 (sym c.fits.ensures ∙ c.if-fits.true) c.put_all.ensures

pub returns : goal.returns
returns c = let A = c.args in
    unplaced A.self.now.cell A.area.now A.at c.requires.2 (leb-false (A.at + word_count * A.n) (length A.area.now) (sym c.fits.ensures ∙ c.if-fits.false))
