use native.Mathlib.Omega.{arith}
use Rattle.slots.specs.Slots.{slot_edge}
use Rattle.cell.proofs.Route.{link_table, written_none, written_slot, written_all}
use Rattle.cell.proofs.routes.routes_of.Goals as goal

pub put_slot-requires : goal.put_slot-requires
unfolding slot_edge
put_slot-requires c = record { s_bound = omega arith; slot_runs = record { of_ab = c.run_of-e12.ensures; of_ac = c.run_of-e13.ensures; of_bc = c.run_of-e23.ensures } }

pub put_slot-requires-2 : goal.put_slot-requires-2
unfolding slot_edge
put_slot-requires-2 c = record { s_bound = omega arith; slot_runs = record { of_ab = c.run_of-e02.ensures; of_ac = c.run_of-e03.ensures; of_bc = c.run_of-e23.ensures } }

pub put_slot-requires-3 : goal.put_slot-requires-3
unfolding slot_edge
put_slot-requires-3 c = record { s_bound = omega arith; slot_runs = record { of_ab = c.run_of-e01.ensures; of_ac = c.run_of-e03.ensures; of_bc = c.run_of-e13.ensures } }

pub put_slot-requires-4 : goal.put_slot-requires-4
unfolding slot_edge
put_slot-requires-4 c = record { s_bound = omega arith; slot_runs = record { of_ab = c.run_of-e01.ensures; of_ac = c.run_of-e02.ensures; of_bc = c.run_of-e12.ensures } }

pub returns : goal.returns
unfolding link_table slot_edge
returns c = let w0 = written_slot {s = 0} (written_none c.args.c) (omega arith) (record { of_ab = c.run_of-e12.ensures; of_ac = c.run_of-e13.ensures; of_bc = c.run_of-e23.ensures }) _ c.put_slot.ensures in
    let w1 = written_slot {s = 1} w0 (omega arith) (record { of_ab = c.run_of-e02.ensures; of_ac = c.run_of-e03.ensures; of_bc = c.run_of-e23.ensures }) _ c.put_slot-2.ensures in
    let w2 = written_slot {s = 2} w1 (omega arith) (record { of_ab = c.run_of-e01.ensures; of_ac = c.run_of-e03.ensures; of_bc = c.run_of-e13.ensures }) _ c.put_slot-3.ensures in
    let w3 = written_slot {s = 3} w2 (omega arith) (record { of_ab = c.run_of-e01.ensures; of_ac = c.run_of-e02.ensures; of_bc = c.run_of-e12.ensures }) _ c.put_slot-4.ensures in
    written_all {s = 4} w3 (omega arith)
