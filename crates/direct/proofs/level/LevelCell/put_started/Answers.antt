use mathlib.Core.Path.{refl, sym, ap, ◌∙◌}
use Rattle.cell.specs.Words.{all_words}
use Rattle.counting.specs.Pick.{pick}
use Rattle.counting.proofs.Stored.{stored_as}
use Rattle.direct.specs.work.Loops.{across_loops, rounds_loops}
use Rattle.direct.proofs.Rows.{none_stored}
use Rattle.direct.proofs.Laying.{parting_passed, parting_kept}
use Rattle.direct.proofs.level.LevelCell.put_started.Goals as goal

pub returns-then-passes_three : goal.returns-then-passes_three
returns-then-passes_three c = let A = c.args in
    let N = A.nodes in
    none_stored (parting_passed A.self.now.cell A.k A.over N.a N.b N.c N.d c.joining_of-h.ensures.0 c.joining_of-i.ensures.0 c.joining_of-j.ensures.0 c.passes_three.ensures c.if-passes_three.true) _ _

pub put_across-requires : goal.put_across-requires
put_across-requires c = let A = c.args in
    let N = A.nodes in
    let e = parting_kept A.self.now.cell A.k A.over N.a N.b N.c N.d c.joining_of-h.ensures.0 c.joining_of-i.ensures.0 c.joining_of-j.ensures.0 c.passes_three.ensures c.if-passes_three.false in
    record { parting = (c.requires.parting.0, c.requires.parting.1); nodes_in_bounds = rw (e, c.if-over.true) at c.requires.nodes_in_bounds }

pub returns-then-over : goal.returns-then-over
returns-then-over c = let A = c.args in
    let N = A.nodes in
    let e = parting_kept A.self.now.cell A.k A.over N.a N.b N.c N.d c.joining_of-h.ensures.0 c.joining_of-i.ensures.0 c.joining_of-j.ensures.0 c.passes_three.ensures c.if-passes_three.false in
    stored_as c.put_across.ensures (ap all_words (sym (e ∙ ap (λ t. pick t (across_loops A.self.now.cell N) (rounds_loops A.self.now.cell N)) c.if-over.true))) refl

pub put_rounds-requires : goal.put_rounds-requires
put_rounds-requires c = let A = c.args in
    let N = A.nodes in
    let e = parting_kept A.self.now.cell A.k A.over N.a N.b N.c N.d c.joining_of-h.ensures.0 c.joining_of-i.ensures.0 c.joining_of-j.ensures.0 c.passes_three.ensures c.if-passes_three.false in
    record { parting = (c.requires.parting.0, c.requires.parting.1); nodes_in_bounds = rw (e, c.if-over.false) at c.requires.nodes_in_bounds }

pub returns : goal.returns
returns c = let A = c.args in
    let N = A.nodes in
    let e = parting_kept A.self.now.cell A.k A.over N.a N.b N.c N.d c.joining_of-h.ensures.0 c.joining_of-i.ensures.0 c.joining_of-j.ensures.0 c.passes_three.ensures c.if-passes_three.false in
    stored_as c.put_rounds.ensures (ap all_words (sym (e ∙ ap (λ t. pick t (across_loops A.self.now.cell N) (rounds_loops A.self.now.cell N)) c.if-over.false))) refl
