use mathlib.Core.Path.{sym, ◌∙◌}
use Rattle.direct.proofs.Laying.{part_laid, part_room, part_stored, part_few}
use Rattle.direct.proofs.laid.put_asked.Goals as goal

pub fits-requires : goal.fits-requires
fits-requires c = part_few c.args.c c.taken_of-six.ensures c.requires.counts_six c.crossings_in.ensures.0

pub invariant_of-level : goal.invariant_of-level
invariant_of-level c = let A = c.args in
    let S = c.requires in
    let R = part_laid A.c c.taken_of-six.ensures S.starts_six S.counts_six (c.is_near.ensures c.if-is_near.true) c.in-Some.ensures in
    record { listed = R.listed; level = R.laying.level; own_are = R.laying.own_are }

pub put_laid-requires : goal.put_laid-requires
put_laid-requires c = let A = c.args in
    let S = c.requires in
    let e = c.taken_of-six.ensures in
    let K = c.in-Some.ensures in
    let N = c.is_near.ensures c.if-is_near.true in
    let h = sym c.fits.ensures ∙ c.if-fits.true in
    record { plain = (part_laid A.c e S.starts_six S.counts_six N K).laying.none; quads_in_bounds = part_room A.c e S.starts_six S.counts_six N K A.area.now A.at c.crossings_in.ensures.0 h }

pub returns-then-fits : goal.returns-then-fits
returns-then-fits c = let A = c.args in
    let S = c.requires in
    let e = c.taken_of-six.ensures in
    let K = c.in-Some.ensures in
    let N = c.is_near.ensures c.if-is_near.true in
    let h = sym c.fits.ensures ∙ c.if-fits.true in
    part_stored A.c e S.starts_six S.counts_six N K A.area.now A.at c.crossings_in.ensures.0 h c.put_laid.ensures
