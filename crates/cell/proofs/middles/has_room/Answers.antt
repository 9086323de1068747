use native.Mathlib.Omega.{arith}
use mathlib.Core.Path.{sym, ◌∙◌}
use Rattle.cell.proofs.Using.{used_none}
use Rattle.cell.proofs.Fans.{fits_short, fits_not, fits_count, fits_most}
use Rattle.cell.proofs.middles.has_room.Goals as goal

pub returns-then-all-at : goal.returns-then-all-at
returns-then-all-at c = record { value = fits_short c.args.c c.args.room c.args.at c.if-all-at.true; used = used_none _ _ _ _ }

pub is_placeable-requires : goal.is_placeable-requires
is_placeable-requires c = c.requires.all

pub returns-then-not-is_placeable : goal.returns-then-not-is_placeable
returns-then-not-is_placeable c = record { value = fits_not c.args.c c.args.room c.args.at (sym c.is_placeable.ensures ∙ c.if-not-is_placeable.true); used = used_none _ _ _ _ }

pub returns-then-n-all : goal.returns-then-n-all
returns-then-n-all c = record { value = fits_most c.args.c c.args.room c.args.at (sym c.is_placeable.ensures ∙ c.if-not-is_placeable.false) (omega arith) c.requires.all c.if-n-all.true; used = used_none _ _ _ _ }

pub count-t-requires : goal.count-t-requires
count-t-requires c = c.requires

pub shape_of-marks : goal.shape_of-marks
shape_of-marks c = c.count-t.ensures.used.marks_kept.long

pub shape_of-halves : goal.shape_of-halves
shape_of-halves c = c.count-t.ensures.used.halves_kept.long

pub shape_of-points : goal.shape_of-points
shape_of-points c = c.count-t.ensures.used.points_kept.long

pub returns : goal.returns
returns c = record { value = fits_count c.args.c c.args.room c.args.at (sym c.is_placeable.ensures ∙ c.if-not-is_placeable.false) (omega arith) c.count-t.ensures.value.0; used = c.count-t.ensures.used }
