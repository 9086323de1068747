use Rattle.bundle.specs.Record.{may_have, count_at}
use Rattle.bundle.proofs.OneRecord.{may_other}
use Rattle.bundle.proofs.records.may_have.Goals as goal

pub returns-in-Wide : goal.returns-in-Wide
unfolding may_have count_at
returns-in-Wide c = rw (c.in-Wide.is, c.word_at.ensures)

pub returns-in_default : goal.returns-in_default
returns-in_default c = may_other _ _ c.in_default.not-Wide
