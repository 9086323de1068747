use mathlib.Core.Path.{◌∙◌, sym}
use native.Mathlib.Omega.{arith}
use Rattle.places.proofs.Judged.{end_small, table_reaches, short_nodes, other_fractions, short_area, bad_number_found, bad_fraction_found, none_found}
use Rattle.places.proofs.rows.judge.Goals as goal
use Rattle.places.proofs.rows.judge.Goals.{then-nodes-end-via-then-nodes-end, then-nodes-end-via-else-nodes-end+then-fractions-n, then-nodes-end-via-else-nodes-end+else-fractions-n+then-room-points}

pub overflow_mul-end : goal.overflow_mul-end
overflow_mul-end c = let a = c.args in
    let m = c.mark.ensures in
    let e = c.marked_end-end.ensures in
    let J = c.requires.judgeable in
    omega (arith, end_small a.cells.now a.counts.now a.n J _ m c.marked_end-end.result e)

pub returns-then-nodes-end : goal.returns-then-nodes-end
returns-then-nodes-end c = let a = c.args in
    let m = c.mark.ensures in
    let e = c.marked_end-end.ensures in
    let J = c.requires.judgeable in
    rw c.at.ensures (elim c.then-nodes-end.branch [
      | then-nodes-end-via-then-nodes-end w ↦ short_nodes a.cells.now a.counts.now a.n J _ m c.marked_end-end.result e a.nodes.now a.fractions.now a.points a.room w.if-nodes-end.true
      | then-nodes-end-via-else-nodes-end+then-fractions-n w ↦ other_fractions a.cells.now a.counts.now a.n J _ m c.marked_end-end.result e a.nodes.now a.fractions.now a.points a.room w.if-nodes-end.false w.if-fractions-n.true
      | then-nodes-end-via-else-nodes-end+else-fractions-n+then-room-points w ↦ short_area a.cells.now a.counts.now a.n J _ m c.marked_end-end.result e a.nodes.now a.fractions.now a.points a.room w.if-nodes-end.false w.if-fractions-n.false w.if-room-points.true
    ])

pub row_16-requires : goal.row_16-requires
row_16-requires c = let a = c.args in
    let m = c.mark.ensures in
    let e = c.marked_end-end.ensures in
    let J = c.requires.judgeable in
    table_reaches a.cells.now a.counts.now a.n J _ m c.marked_end-end.result e a.nodes.now c.if-nodes-end.false

pub returns-in-Some : goal.returns-in-Some
returns-in-Some c = let a = c.args in
    let m = c.mark.ensures in
    let e = c.marked_end-end.ensures in
    let J = c.requires.judgeable in
    rw c.at-in-Some.ensures (bad_number_found a.cells.now a.counts.now a.n J _ m c.marked_end-end.result e a.nodes.now a.fractions.now a.points a.room c.if-nodes-end.false c.if-fractions-n.false c.if-room-points.false _ (sym c.in-Some.is ∙ c.row_16.ensures))

pub returns-in-Some-row_17 : goal.returns-in-Some-row_17
returns-in-Some-row_17 c = let a = c.args in
    let m = c.mark.ensures in
    let e = c.marked_end-end.ensures in
    let J = c.requires.judgeable in
    rw c.at-in-Some-row_17.ensures (bad_fraction_found a.cells.now a.counts.now a.n J _ m c.marked_end-end.result e a.nodes.now a.fractions.now a.points a.room c.if-nodes-end.false c.if-fractions-n.false c.if-room-points.false (sym c.in_default.is ∙ c.row_16.ensures) _ (sym c.in-Some-row_17.is ∙ c.row_17.ensures))

pub returns : goal.returns
returns c = let a = c.args in
    let m = c.mark.ensures in
    let e = c.marked_end-end.ensures in
    let J = c.requires.judgeable in
    none_found a.cells.now a.counts.now a.n J _ m c.marked_end-end.result e a.nodes.now a.fractions.now a.points a.room c.if-nodes-end.false c.if-fractions-n.false c.if-room-points.false (sym c.in_default.is ∙ c.row_16.ensures) (sym c.in_default-row_17.is ∙ c.row_17.ensures)
