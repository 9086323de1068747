use native.Mathlib.Omega.{arith}
use Rattle.layers.proofs.Steps.{copied_run}
use Rattle.layers.proofs.Span.copy.Goals as goal

pub returns : goal.returns
returns c = let A = c.args in
    copied_run A.names.now A.sides.now A.own_names.now A.own_sides.now A.self.from A.self.size c.requires (omega arith) (omega arith) c.write_names.ensures c.write_sides.ensures
