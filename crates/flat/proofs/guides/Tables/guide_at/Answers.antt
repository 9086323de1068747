use native.Mathlib.Omega.{arith}
use Rattle.face.proofs.Ends.{high_end, low_end}
use Rattle.flat.proofs.Tables.{place_in, place_read}
use Rattle.flat.proofs.Guided.{corners_with, guide_made, place_edge}
use Rattle.flat.proofs.guides.Tables.guide_at.Goals as goal

pub count_at-ab-requires : goal.count_at-ab-requires
count_at-ab-requires c = record { j_in_bounds = (place_read c.args.self.tabled _ (omega (arith, c.requires.j_lt_n))).0; j_in_bounds_2 = (place_read c.args.self.tabled _ (omega (arith, c.requires.j_lt_n))).1 }

pub count_at-ac-requires : goal.count_at-ac-requires
count_at-ac-requires c = let c-pre = c.requires in record { j_in_bounds = (place_read c.args.self.tabled _ (place_in c.args.self.tabled _ 1 c-pre.j_lt_n (omega arith))).0; j_in_bounds_2 = (place_read c.args.self.tabled _ (place_in c.args.self.tabled _ 1 c-pre.j_lt_n (omega arith))).1 }

pub count_at-bc-requires : goal.count_at-bc-requires
count_at-bc-requires c = let c-pre = c.requires in record { j_in_bounds = (place_read c.args.self.tabled _ (place_in c.args.self.tabled _ 2 c-pre.j_lt_n (omega arith))).0; j_in_bounds_2 = (place_read c.args.self.tabled _ (place_in c.args.self.tabled _ 2 c-pre.j_lt_n (omega arith))).1 }

pub lane_at-low-requires : goal.lane_at-low-requires
lane_at-low-requires c = let c-count-at2 = c.count_at-ac in
    let c-count-at = c.count_at-ab in
    let c-pre = c.requires in
    record { b_bound = place_in c.args.self.tabled _ 2 c-pre.j_lt_n (omega arith); c_value = corners_with c.args.self.tabled _ c-count-at.ensures c-count-at2.ensures c.count_at-bc.ensures c.flat_corners-c.ensures; end = low_end c.lower_end.ensures.0 (place_edge c.args.self.tabled _ c-pre.j_lt_n) }

pub lane_at-high-requires : goal.lane_at-high-requires
lane_at-high-requires c = let c-flat-corners = c.flat_corners-c in
    let c-count-at3 = c.count_at-bc in
    let c-count-at2 = c.count_at-ac in
    let c-count-at = c.count_at-ab in
    let c-pre = c.requires in
    record { b_bound = place_in c.args.self.tabled _ 2 c-pre.j_lt_n (omega arith); c_value = corners_with c.args.self.tabled _ c-count-at.ensures c-count-at2.ensures c-count-at3.ensures c-flat-corners.ensures; end = high_end c.upper_end.ensures.0 (place_edge c.args.self.tabled _ c-pre.j_lt_n) }

pub count_at-count-requires : goal.count_at-count-requires
count_at-count-requires c = let c-pre = c.requires in record { j_in_bounds = (place_read c.args.self.tabled _ c-pre.j_lt_n).0; j_in_bounds_2 = (place_read c.args.self.tabled _ c-pre.j_lt_n).1 }

pub land-own-requires : goal.land-own-requires
land-own-requires c = let c-pre = c.requires in record { j_lt_n = c-pre.j_lt_n; t_bound = omega arith }

pub returns : goal.returns
returns c = let c-count-at4 = c.count_at-count in
    let c-lane-at2 = c.lane_at-high in
    let c-upper-end = c.upper_end in
    let c-lane-at = c.lane_at-low in
    let c-lower-end = c.lower_end in
    let c-pre = c.requires in
    guide_made c.args.self.tabled _ c-pre.j_lt_n _ c-lower-end.ensures.0 c-lane-at.ensures c-upper-end.ensures.0 c-lane-at2.ensures (c-count-at4.ensures) c.land-own.ensures.value c.land-own.ensures.upper_bound
