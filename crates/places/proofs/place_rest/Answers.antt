use Prim.Native.Nat.{ℕ}
use mathlib.Core.Path.{sym, ap, ◌∙◌}
use mathlib.Core.List.{List}
use native.Mathlib.Omega.{arith}
use lib.Ieee.{Float}
use Rattle.cell.specs.claims.Table.{drawn_cells}
use Rattle.cell.specs.work.Table.{middles_written}
use Rattle.split.specs.work.Spots.{cells_stored, middles_at_cell}
use Rattle.places.specs.work.Work.{rest_written}
use Rattle.places.proofs.Middles.{rest_same, rest_none}
use Rattle.places.proofs.place_rest.Goals as goal

pub returns-then-fans-eq0 : goal.returns-then-fans-eq0
returns-then-fans-eq0 c = let A = c.args in
    let P = c.requires in
    sym (rest_none A.tables.cells.now A.tables.counts.now A.tables.names.now A.tables.sides.now A.tables.starts.now (sym P.0 ∙ c.if-inner-eq0.true) A.nodes.now A.area.now A.at (sym P.1 ∙ c.if-fans-eq0.true))

pub returns-then-inner-eq0 : goal.returns-then-inner-eq0
returns-then-inner-eq0 c = let A = c.args in
    c.write_middles.ensures
    ∙ ap (middles_written A.tables.cells.now A.tables.counts.now A.tables.names.now A.tables.sides.now A.tables.starts.now A.nodes.now 0 A.area.now A.at) (omega (arith, c.drawn-n.ensures))
    ∙ rest_same A.tables.cells.now A.tables.counts.now A.tables.names.now A.tables.sides.now A.tables.starts.now (sym c.requires.0 ∙ c.if-inner-eq0.true) A.nodes.now A.area.now A.at

pub returns : goal.returns
unfolding rest_written
returns c = let A = c.args in
    c.write_drawn_middles.ensures
    ∙ ap (λ (w : List Float × ℕ). cells_stored (middles_at_cell A.tables.cells.now A.tables.counts.now A.tables.names.now A.tables.sides.now A.tables.starts.now A.nodes.now) w.0 w.1 (drawn_cells A.tables.cells.now)) c.write_inner-i.ensures
