use Prim.Native.Nat.{◌+◌, ◌*◌}
use mathlib.Core.Path.{sym}
use native.Mathlib.Omega.{arith}
use lib.ListN.{length}
use borrow.Author.Tests.{le-leb, lt-leb}
use Rattle.cell.specs.Words.{word_count}
use Rattle.cell.specs.Triangles.{triangles_with}
use Rattle.cell.proofs.Taken.{with_few}
use Rattle.cell.proofs.Fits.{room_left}
use Rattle.cell.proofs.Using.{used_none}
use Rattle.cell.proofs.triangles.has_room.Goals as goal

pub returns-then-room-at : goal.returns-then-room-at
returns-then-room-at c = let A = c.args in record { value = sym (lt-leb (A.at + word_count * length (triangles_with A.c A.only)) A.room (omega arith)); used = used_none _ _ _ _ }

pub returns-then-n-room : goal.returns-then-n-room
returns-then-n-room c = let A = c.args in record { value = sym (le-leb (A.at + word_count * length (triangles_with A.c A.only)) A.room (omega (arith, with_few A.c A.only, c.requires.all))); used = used_none _ _ _ _ }

pub returns : goal.returns
returns c = let A = c.args in
    let n = c.count_in.ensures in
    record { value = rw n.value.0 (room_left _ A.at A.room (omega arith)); used = n.used }
