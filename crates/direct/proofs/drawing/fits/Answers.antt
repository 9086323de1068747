use Prim.Native.Nat.{◌+◌, ◌*◌}
use mathlib.Core.Path.{sym, ◌∙◌}
use native.Mathlib.Omega.{arith}
use borrow.Author.Tests.{lt-leb}
use Rattle.cell.specs.Words.{word_count}
use Rattle.cell.proofs.Fits.{room_left}
use Rattle.direct.proofs.drawing.fits.Goals as goal

pub returns-then-at-room : goal.returns-then-at-room
returns-then-at-room c = room_left (word_count * c.args.n) c.args.at c.args.room c.if-at-room.true

pub returns-else-at-room : goal.returns-else-at-room
returns-else-at-room c = lt-leb _ _ c.if-at-room.false ∙ sym (lt-leb (c.args.at + word_count * c.args.n) c.args.room (omega arith))
