-- The numbers of a level cell as its laws take them.
use Prim.Native.Nat.{ℕ}
use mathlib.Core.Path.{◌≡◌}
use mathlib.Core.Bool.{Bool, true}
use lib.ListN.{get_or}
use Rattle.cell.specs.Of.{count_of}
use Rattle.cell.specs.claims.Nodes.{Arranged}
use Rattle.booking.specs.Booking.{left_between, smaller}
use Rattle.direct.specs.declared.level.LevelCell.{LevelCell}
use Rattle.direct.specs.work.Rows.{Round, Parting, Ready}
use Rattle.direct.specs.work.Laid.{Laid}

module _ (t : LevelCell) where
  pub ready_of : smaller (count_of t.cell) ≡ 0 → Ready t.cell t.six t.own
  ready_of z = record { listed = t.listed; plain = record { level = t.level; none = z }; own_are = t.own_are }

  pub laid_of : {quads : Bool} → (quads ≡ true → smaller (count_of t.cell) ≡ 0) → Laid t.cell t.six t.own quads
  laid_of z = record { listed = t.listed; laying = record { level = t.level; own_are = t.own_are; none = z } }

  module _ {a b c d : ℕ} (A : Arranged a b c d) where
    pub round_of : Round t.cell (get_or t.own a 0) a b c d
    round_of = record { all = A; level = t.level; many = t.own_are a A.a_lt }

    pub parting_of : {n : ℕ} → (left_between (count_of t.cell) a b ≡ 0) × (n ≡ left_between (count_of t.cell) a c) → Parting t.cell n (get_or t.own a 0) (get_or t.own b 0) a b c d
    parting_of (z, e) = record { all = A; level = t.level; none = z; many = e; own_a = t.own_are a A.a_lt; own_m = t.own_are b A.b_lt }
