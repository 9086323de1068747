use Prim.Native.Nat.{ℕ}
use mathlib.Core.Path.{ap, ◌∙◌}
use mathlib.Core.List.{List}
use lib.ListN.{get_or}
use Rattle.bundle.proofs.Answers.{accepted, accepted_cells, accepted_edges, rejected}
use Rattle.host.proofs.numbers_of.Goals as goal

pub returns-in-Ok : goal.returns-in-Ok
returns-in-Ok c =
    let t = c.in-Ok.ensures in
    let b = accepted _ _ _ t in
    (ap (λ (x : List ℕ). get_or x 0 0) t, (accepted_cells _ _ _ t ∙ simp b, accepted_edges _ _ _ t ∙ simp b))

pub returns-in-Err : goal.returns-in-Err
returns-in-Err c =
    let t = c.in-Err.ensures in
    let b = rejected _ _ _ t in
    (c.number.ensures ∙ ap (λ (x : List ℕ). get_or x 0 0) t, (simp b, simp b))
