use mathlib.Core.Path.{sym}
use borrow.Author.Tests.{lt-ltb}
use Rattle.cell.proofs.Recording.{met_low, met_mark}
use Rattle.cell.proofs.walks.met.Goals as goal

pub returns-then-x-p : goal.returns-then-x-p
returns-then-x-p c = rw (lt-ltb _ _ c.if-x-p.true) (sym (met_low _ _ _ c.if-x-p.true))

pub returns-else-x-p : goal.returns-else-x-p
returns-else-x-p c = sym (met_mark _ _ _ c.if-x-p.false)
