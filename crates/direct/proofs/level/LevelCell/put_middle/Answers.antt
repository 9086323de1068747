use native.Mathlib.Omega.{arith}
use mathlib.Core.Path.{refl, sym, ap, ◌∙◌}
use mathlib.Core.Logic.{◌≢◌}
use Rattle.cell.specs.Of.{count_of}
use Rattle.cell.specs.Words.{all_words}
use Rattle.counting.proofs.Stored.{stored_as}
use Rattle.booking.specs.Booking.{left_between}
use Rattle.direct.specs.work.Laid.{quads_on}
use Rattle.direct.proofs.Rows.{none_stored}
use Rattle.direct.proofs.Laying.{left_at, round_parting, quads_across, quads_round, quads_none, quads_not}
use Rattle.direct.proofs.LevelCells.{laid_of}
use Rattle.direct.proofs.level.LevelCell.put_middle.Goals as goal

pub returns-then-not-quads : goal.returns-then-not-quads
returns-then-not-quads c = let A = c.args in
    let N = A.nodes in
    none_stored (quads_not {quads = A.quads} c.if-not-quads.true (quads_on A.self.now.cell A.k N.a N.b N.c N.d)) _ _

pub returns-then-n-eq0 : goal.returns-then-n-eq0
returns-then-n-eq0 c = let P = c.requires in
    let R = laid_of c.args.self.now P.plain in
    let B = c.args.nodes.all in
    none_stored (quads_none R B (left_at R B B.b_lt P.k_is.0 P.k_is.1 c.left_of-n.ensures) _ c.if-not-quads.false c.if-n-eq0.true) _ _

pub put_started-requires : goal.put_started-requires
put_started-requires c = let P = c.requires in
    let R = laid_of c.args.self.now P.plain in
    let B = c.args.nodes.all in
    let t = c.if-not-quads.false in
    let n = left_at R B B.b_lt P.k_is.0 P.k_is.1 c.left_of-n.ensures in
    let z = sym (left_at R B B.c_lt c.joining_of.ensures.0 c.joining_of.ensures.1 c.left_of.ensures) ∙ c.if-left_of-eq0.true in
    record { parting = (z, n, P.k_is.1); nodes_in_bounds = rw (quads_across R B _ t z) at P.nodes_in_bounds }

pub returns-then-left_of-eq0 : goal.returns-then-left_of-eq0
returns-then-left_of-eq0 c = let P = c.requires in
    let R = laid_of c.args.self.now P.plain in
    let B = c.args.nodes.all in
    let t = c.if-not-quads.false in
    let z = sym (left_at R B B.c_lt c.joining_of.ensures.0 c.joining_of.ensures.1 c.left_of.ensures) ∙ c.if-left_of-eq0.true in
    stored_as c.put_started.ensures (ap all_words (sym (quads_across R B _ t z))) refl

pub put_started-requires-2 : goal.put_started-requires-2
put_started-requires-2 c = let P = c.requires in
    let R = laid_of c.args.self.now P.plain in
    let N = c.args.nodes in
    let B = N.all in
    let t = c.if-not-quads.false in
    let n = left_at R B B.b_lt P.k_is.0 P.k_is.1 c.left_of-n.ensures in
    let z : left_between (count_of c.args.self.now.cell) N.a N.c ≢ 0 = λ q. c.if-left_of-eq0.false (left_at R B B.c_lt c.joining_of.ensures.0 c.joining_of.ensures.1 c.left_of.ensures ∙ q) in
    record { parting = ((round_parting R B n t (omega (arith, c.if-n-eq0.false)) z).none, n, P.k_is.1); nodes_in_bounds = rw (quads_round R B _ t z) at P.nodes_in_bounds }

pub returns : goal.returns
returns c = let P = c.requires in
    let R = laid_of c.args.self.now P.plain in
    let N = c.args.nodes in
    let B = N.all in
    let t = c.if-not-quads.false in
    let z : left_between (count_of c.args.self.now.cell) N.a N.c ≢ 0 = λ q. c.if-left_of-eq0.false (left_at R B B.c_lt c.joining_of.ensures.0 c.joining_of.ensures.1 c.left_of.ensures ∙ q) in
    stored_as c.put_started-2.ensures (ap all_words (sym (quads_round R B _ t z))) refl
