use native.Mathlib.Omega.{arith}
use Rattle.layers.proofs.Steps.{started_run}
use Rattle.layers.proofs.Span.start.Goals as goal

pub returns : goal.returns
returns c = let A = c.args in
    started_run A.counts.now A.sides.now A.own_starts.now A.used.now A.self.from A.self.size A.self.mark c.requires (omega arith) c.mark.ensures c.write_starts.ensures
