use native.Mathlib.Omega.{arith}
use lib.ListN.{length-set}
use Rattle.flat.specs.work.Along.{along, crossings_in}
use Rattle.flat.proofs.Walked.{chain_room, chain_stored}
use Rattle.flat.proofs.walks.Steps.put_chain.Goals as goal

pub bounds-area-at : goal.bounds-area-at
bounds-area-at c = let c-args = c.args in
    let c-pre = c.requires in
    omega (arith, chain_room (crossings_in c-args.self) (along c-args.self) c-args.c c-args.at _ c-pre.start_in_bounds)

pub bounds-area-at-2 : goal.bounds-area-at-2
bounds-area-at-2 c = let c-args = c.args in
    let c-pre = c.requires in
    simp length-set (omega (arith, chain_room (crossings_in c-args.self) (along c-args.self) c-args.c c-args.at _ c-pre.start_in_bounds))

pub put_crossings-requires : goal.put_crossings-requires
put_crossings-requires c = let c-args = c.args in
    let c-pre = c.requires in
    record { darts_from = c-pre.darts_from; m_in_bounds = simp length-set (omega (arith, chain_room (crossings_in c-args.self) (along c-args.self) c-args.c c-args.at _ c-pre.start_in_bounds)); n_in_bounds = c-pre.n_in_bounds }

pub returns : goal.returns
returns c = record { stored = chain_stored _ _ _ _ _ _ (rw c.closed_word.ensures at c.put_crossings.ensures.area_after); marked_on = c.put_crossings.ensures.marked_on }
