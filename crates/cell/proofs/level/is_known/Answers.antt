use Prim.Native.Nat.{ℕ}
use mathlib.Core.Path.{◌≡◌, refl, sym, ap₂, ◌∙◌}
use mathlib.Core.Bool.{Bool, true, false, ◌||◌}
use Rattle.cell.specs.Level.{by_edge, is_level_cell}
use Rattle.cell.specs.Common.{is_common}
use Rattle.cell.specs.work.Table.{is_known}
use Rattle.cell.proofs.level.is_known.Goals as goal

either : (w : ℕ → ℕ) (a b : Bool) → a ≡ is_common w → b ≡ is_level_cell w → (a || b) ≡ is_known w
unfolding is_known
either w a b e f = ap₂ ◌||◌ e f

common : (w : ℕ → ℕ) → true ≡ is_common w → true ≡ is_known w
common w e = either w true (is_level_cell w) e refl

pub returns-then-is_common : goal.returns-then-is_common
returns-then-is_common c = c.if-is_common.true ∙ common (by_edge c.args.counts) (sym c.if-is_common.true ∙ c.is_common.ensures)

pub returns-else-is_common : goal.returns-else-is_common
returns-else-is_common c = either (by_edge c.args.counts) false c.is_level.result (sym c.if-is_common.false ∙ c.is_common.ensures) c.is_level.ensures
