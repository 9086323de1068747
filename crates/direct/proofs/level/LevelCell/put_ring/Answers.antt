use mathlib.Core.Path.{refl, sym, ap}
use Rattle.cell.specs.Words.{all_words}
use Rattle.counting.proofs.Stored.{stored_as}
use Rattle.direct.proofs.Rows.{round_none, none_stored}
use Rattle.direct.proofs.Laying.{ring_none, ring_passed, ring_kept}
use Rattle.direct.proofs.LevelCells.{round_of}
use Rattle.direct.proofs.level.LevelCell.put_ring.Goals as goal
use Rattle.direct.proofs.level.LevelCell.put_ring.Goals.{then-self-nodes-eq0-via-then-self-nodes-eq0, then-self-nodes-eq0-via-else-self-nodes-eq0+then-passes}

pub returns-then-self-nodes-eq0 : goal.returns-then-self-nodes-eq0
returns-then-self-nodes-eq0 c = let A = c.args in
    let N = A.nodes in
    let T = A.self.now in
    elim c.then-self-nodes-eq0.branch [
      | then-self-nodes-eq0-via-then-self-nodes-eq0 w ↦ none_stored (ring_none T.cell A.k A.up N.a N.b N.c N.d (round_none T.listed (round_of T N.all) A.up w.if-self-nodes-eq0.true)) _ _
      | then-self-nodes-eq0-via-else-self-nodes-eq0+then-passes w ↦ none_stored (ring_passed T.cell A.k A.up N.a N.b N.c N.d c.joining_of-h.ensures.0 c.joining_of-i.ensures.0 w.passes.ensures w.if-passes.true) _ _
    ]

pub put_round-requires : goal.put_round-requires
put_round-requires c = let A = c.args in
    let N = A.nodes in
    rw (ring_kept A.self.now.cell A.k A.up N.a N.b N.c N.d c.joining_of-h.ensures.0 c.joining_of-i.ensures.0 c.passes.ensures c.if-passes.false) at c.requires.nodes_in_bounds

pub returns : goal.returns
returns c = let A = c.args in
    let N = A.nodes in
    stored_as c.put_round.ensures
    (ap all_words (sym (ring_kept A.self.now.cell A.k A.up N.a N.b N.c N.d c.joining_of-h.ensures.0 c.joining_of-i.ensures.0 c.passes.ensures c.if-passes.false))) refl
