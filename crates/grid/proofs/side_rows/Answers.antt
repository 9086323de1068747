use native.Mathlib.Omega.{arith}
use mathlib.Core.Path.{◌∙◌, refl, sym}
use Rattle.answer.specs.work.Faults.{since}
use Rattle.grid.specs.Rows.{rows}
use Rattle.grid.proofs.Answers.{answer_clear, answer_found}
use Rattle.grid.proofs.Working.{siding_blank, siding_placeable, siding_talliable, siding_using}
use Rattle.grid.proofs.side_rows.Goals as goal

pub place_sides-requires : goal.place_sides-requires
place_sides-requires g c = (omega (arith, c.well_formed), siding_placeable c.requires)

pub row_7-requires : goal.row_7-requires
row_7-requires g c = siding_talliable c.requires c.place_sides.ensures c.place_sides.auto.sides

pub returns-in-Some : goal.returns-in-Some
unfolding since rows
returns-in-Some g c = record { result_value = rw c.at.ensures (answer_found _ 7 8 refl _ (sym c.in-Some.is ∙ c.row_7.ensures.value ∙ siding_blank c.requires c.place_sides.ensures)); where_accepted = tt }

pub used_rows-requires : goal.used_rows-requires
used_rows-requires g c = (omega (arith, c.well_formed), siding_using c.requires c.place_sides.ensures c.place_sides.auto.sides (sym c.in_default.is ∙ c.row_7.ensures.value) (c.row_7.ensures.tallied c.in_default.is))

pub returns : goal.returns
unfolding since rows
returns g c = let U = c.used_rows.ensures in record { result_value = U.result_value ∙ answer_clear _ 7 8 refl (sym c.in_default.is ∙ c.row_7.ensures.value ∙ siding_blank c.requires c.place_sides.ensures); where_accepted = U.where_accepted }
