use mathlib.Core.Path.{◌∙◌}
use native.Mathlib.Omega.{arith}
use Rattle.layers.specs.Runs.{keep_inner}
use Rattle.layers.proofs.Namings.{word_cell, word_crossing, word_face, word_inner, word_lower}
use Rattle.layers.proofs.words.word_over.Goals as goal

pub returns-then-j-eq0 : goal.returns-then-j-eq0
unfolding keep_inner
returns-then-j-eq0 c = c.cell_over.ensures ∙ word_cell _ _ _ _ c.if-j-eq0.true

pub returns-then-j-lt5 : goal.returns-then-j-lt5
unfolding keep_inner
returns-then-j-lt5 c = c.crossing_over.ensures ∙ word_crossing _ _ _ _ c.if-j-eq0.false c.if-j-lt5.true

pub returns-then-j-eq1 : goal.returns-then-j-eq1
unfolding keep_inner
returns-then-j-eq1 c = c.face_over.ensures ∙ word_face _ _ _ _ c.if-j-eq0.false (omega arith) c.if-j-eq1.true

pub returns-then-f-eq-NO_NAME : goal.returns-then-f-eq-NO_NAME
returns-then-f-eq-NO_NAME c = word_inner _ _ _ _ c.if-j-eq0.false (omega arith) c.if-j-eq1.false c.if-f-eq-NO_NAME.true

pub returns-else-f-eq-NO_NAME : goal.returns-else-f-eq-NO_NAME
unfolding keep_inner
returns-else-f-eq-NO_NAME c = c.crossing_over-else-f-eq-NO_NAME.ensures ∙ word_lower _ _ _ _ c.if-j-eq0.false (omega arith) c.if-j-eq1.false c.if-f-eq-NO_NAME.false
