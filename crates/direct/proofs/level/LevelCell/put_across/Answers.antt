use native.Mathlib.Omega.{arith}
use mathlib.Core.Path.{refl, ap}
use Rattle.cell.specs.Words.{all_words}
use Rattle.counting.proofs.Stored.{stored_as}
use Rattle.direct.proofs.Rows.{crosses_au, crosses_av, crosses_mu, crosses_mv, across_long, across_are, across_none, across_words, none_stored}
use Rattle.direct.proofs.LevelCells.{parting_of}
use Rattle.direct.proofs.level.LevelCell.put_across.Goals as goal

pub returns-then-n-eq0 : goal.returns-then-n-eq0
returns-then-n-eq0 c = let T = c.args.self.now in none_stored (across_none T.listed (parting_of T c.args.nodes.all c.requires.parting) c.if-n-eq0.true) _ _

pub row_of-requires : goal.row_of-requires
row_of-requires c = let T = c.args.self.now in crosses_au T.listed (parting_of T c.args.nodes.all c.requires.parting) (omega arith)

pub row_of-requires-2 : goal.row_of-requires-2
row_of-requires-2 c = let T = c.args.self.now in crosses_mu T.listed (parting_of T c.args.nodes.all c.requires.parting) (omega arith)

pub row_of-requires-3 : goal.row_of-requires-3
row_of-requires-3 c = let T = c.args.self.now in crosses_mv T.listed (parting_of T c.args.nodes.all c.requires.parting) (omega arith)

pub row_of-requires-4 : goal.row_of-requires-4
row_of-requires-4 c = let T = c.args.self.now in crosses_av T.listed (parting_of T c.args.nodes.all c.requires.parting) (omega arith)

pub put_fours-requires : goal.put_fours-requires
put_fours-requires c = let T = c.args.self.now in
    let P = parting_of T c.args.nodes.all c.requires.parting in
    record {
      long = across_long T.listed P c.row_of.ensures c.row_of-4.ensures c.row_of-2.ensures c.row_of-3.ensures;
      n_in_bounds = omega (arith, across_words T.listed P, c.requires.nodes_in_bounds);
    }

pub returns : goal.returns
returns c = let T = c.args.self.now in
    let P = parting_of T c.args.nodes.all c.requires.parting in
    stored_as c.put_fours.ensures (ap all_words (across_are T.listed P c.row_of.ensures c.row_of-4.ensures c.row_of-2.ensures c.row_of-3.ensures)) refl
