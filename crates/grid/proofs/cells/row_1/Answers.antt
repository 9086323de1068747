use mathlib.Core.Logic.{inl, inr}
use mathlib.Core.Path.{◌≡◌, sym}
use mathlib.Core.Bool.{true}
use Rattle.grid.specs.Rows.{bad_length}
use Rattle.grid.proofs.Packed.{length_many, length_none, length_odd}
use Rattle.grid.proofs.cells.row_1.Goals as goal

pub returns-then-n-eq0 : goal.returns-then-n-eq0
returns-then-n-eq0 c = let h : bad_length c.args.cells.now ≡ true = elim c.if-n-eq0.either [ inl p ↦ length_odd _ p | inr p ↦ length_none _ p.1 ] in cc

pub returns-else-n-eq0 : goal.returns-else-n-eq0
returns-else-n-eq0 c = sym (length_many _ c.if-n-eq0.false.0 c.if-n-eq0.false.1)
