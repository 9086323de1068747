use mathlib.Core.Path.{refl, ap}
use native.Mathlib.Omega.{arith}
use Rattle.counting.proofs.Stored.{stored_as}
use Rattle.cell.specs.Words.{all_words}
use Rattle.cell.proofs.Nodes.{acdb, adbc}
use Rattle.direct.proofs.Rows.{round_crosses, round_long, round_are, round_none, round_words, none_stored}
use Rattle.direct.proofs.LevelCells.{round_of}
use Rattle.direct.proofs.level.LevelCell.put_round.Goals as goal

pub returns-then-n-eq0 : goal.returns-then-n-eq0
returns-then-n-eq0 c = let T = c.args.self.now in
    none_stored (round_none T.listed (round_of T c.args.nodes.all) c.args.up c.if-n-eq0.true) _ _

pub row_of-requires : goal.row_of-requires
row_of-requires c = let T = c.args.self.now in
    let A = c.args.nodes.all in
    round_crosses T.listed (round_of T A) A _ c.start_of-k.ensures.1

pub row_of-requires-2 : goal.row_of-requires-2
row_of-requires-2 c = let T = c.args.self.now in
    let A = c.args.nodes.all in
    round_crosses T.listed (round_of T A) (acdb A) _ c.start_of-k.ensures.1

pub row_of-requires-3 : goal.row_of-requires-3
row_of-requires-3 c = let T = c.args.self.now in
    let A = c.args.nodes.all in
    round_crosses T.listed (round_of T A) (adbc A) _ c.start_of-k.ensures.1

pub put_threes-requires : goal.put_threes-requires
put_threes-requires c = let T = c.args.self.now in
    let R = round_of T c.args.nodes.all in
    record {
      long = round_long T.listed R _ c.start_of-k.ensures.0 c.row_of.ensures c.row_of-2.ensures c.row_of-3.ensures;
      n_in_bounds = omega (arith, round_words T.listed R c.args.up, c.requires);
    }

pub returns : goal.returns
returns c = let T = c.args.self.now in
    let R = round_of T c.args.nodes.all in
    stored_as c.put_threes.ensures (ap all_words (round_are T.listed R _ c.start_of-k.ensures.0 c.row_of.ensures c.row_of-2.ensures c.row_of-3.ensures)) refl
