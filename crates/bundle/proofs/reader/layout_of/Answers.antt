use Rattle.bundle.proofs.Answers.{laid}
use Rattle.bundle.proofs.reader.layout_of.Goals as goal

pub returns : goal.returns
returns c = let a = c.run_from-cells.ensures in
    let b = c.run_from-edges.ensures in
    let d = c.run_from-looks.ensures in
    laid _ _ _ _ _ _ _ a.0 a.1 b.0 b.1 d.0 d.1
