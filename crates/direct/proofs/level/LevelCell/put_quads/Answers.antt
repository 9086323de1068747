use mathlib.Core.Path.{refl, sym, ap, ◌∙◌}
use native.Mathlib.Omega.{arith}
use Rattle.cell.specs.Words.{all_words}
use Rattle.counting.proofs.Stored.{stored_as}
use Rattle.direct.proofs.Rows.{none_stored}
use Rattle.direct.proofs.Families.{some_second, left_first, left_second, with3, quads_none, quads_across, quads_round}
use Rattle.direct.proofs.LevelCells.{ready_of}
use Rattle.direct.proofs.level.LevelCell.put_quads.Goals as goal

pub returns-then-n-eq0 : goal.returns-then-n-eq0
returns-then-n-eq0 c = let R = ready_of c.args.self.now c.requires.plain in none_stored (quads_none R (left_first R c.left_of-n.ensures) c.if-n-eq0.true) _ _

pub put_across-requires : goal.put_across-requires
put_across-requires c = let R = ready_of c.args.self.now c.requires.plain in
    let z = sym (left_second R c.left_of.ensures) ∙ c.if-left_of-eq0.true in
    record { parting = (z, left_first R c.left_of-n.ensures); nodes_in_bounds = rw (quads_across R z) at c.requires.self_in_bounds }

pub returns-then-left_of-eq0 : goal.returns-then-left_of-eq0
returns-then-left_of-eq0 c = let R = ready_of c.args.self.now c.requires.plain in
    let z = sym (left_second R c.left_of.ensures) ∙ c.if-left_of-eq0.true in
    stored_as c.put_across.ensures (ap all_words (sym (quads_across R z))) refl

pub put_rounds-requires : goal.put_rounds-requires
put_rounds-requires c = let R = ready_of c.args.self.now c.requires.plain in
    let z = some_second R c.left_of.ensures (λ q. c.if-left_of-eq0.false q) in
    let n = left_first R c.left_of-n.ensures in
    record { parting = ((with3 R n (omega (arith, c.if-n-eq0.false)) z).none, n); nodes_in_bounds = rw (quads_round R z) at c.requires.self_in_bounds }

pub returns : goal.returns
returns c = let R = ready_of c.args.self.now c.requires.plain in
    let z = some_second R c.left_of.ensures (λ q. c.if-left_of-eq0.false q) in
    stored_as c.put_rounds.ensures (ap all_words (sym (quads_round R z))) refl
