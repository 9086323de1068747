use Prim.Native.Nat.{ℕ, ◌-◌, ◌/◌, ◌<◌}
use mathlib.Core.Path.{◌≡◌, ◌∙◌}
use native.Mathlib.Omega.{arith}
use lib.Dec.{ltb}
use lib.ListN.{length}
use borrow.Author.Tests.{lt-ltb, le-ltb}
use Rattle.std.specs.Prelude.{Option, Some, None, SomeIff}
use Rattle.std.specs.Option.{unwrap_or}
use Rattle.counting.specs.Pick.{pick}
use Rattle.trees.specs.work.Trees.{trees}
use Rattle.trees.specs.work.Planted.{link_room}
use Rattle.trees.proofs.planting.room.Goals as goal

-- a quotient, or 0 where nothing divides
quotient : (n b : ℕ) (r : Option ℕ) → SomeIff r (0 < b) (n / b) → unwrap_or r 0 ≡ pick (ltb 0 b) (n / b) 0
quotient n b None h = rw (le-ltb 0 b (omega arith))
quotient n b (Some x) h = rw (lt-ltb 0 b h.0) h.1

pub returns : goal.returns
unfolding link_room
returns g c =
    let e : c.saturating_sub.result ≡ length c.args.links.now - trees = omega arith in
    c.unwrap_or.ensures ∙ rw e at (quotient _ g.row.B _ c.checked_div.ensures)
