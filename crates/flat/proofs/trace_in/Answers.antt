use Prim.Native.Nat.{ℕ, ◌*◌, ◌≤◌}
use Rattle.std.proofs.lemmas.List.{length-take}
use mathlib.Core.Path.{◌∙◌, ap}
use native.Mathlib.Omega.{arith}
use lib.ListN.{length, length-replicate, replicate}
use lib.Seq.{length-sets}
use Rattle.flat.specs.Lent.{lent}
use Rattle.flat.proofs.Calls.{front_known, front_sides, front_steps, front_filled, is_linked, made_few, made_fits, made_short, words_few}
use Rattle.flat.proofs.trace_in.Goals as goal

pub put_steps-requires-clause-sides : goal.put_steps-requires-clause-sides
put_steps-requires-clause-sides g c = front_sides (lent c.args.grid) _ c.requires.sides_known c.requires.accepted

pub put_words-m-requires : goal.put_words-m-requires
put_words-m-requires g c =
    let P = c.requires in
    let l = length-replicate {A = ℕ} g.row.ROOM 0 in
    let r : 2 * c.args.n ≤ length (replicate {A = ℕ} g.row.ROOM 0) = omega (arith, l, P.n_in_bounds) in
    omega (arith, l, words_few (lent c.args.grid) P.accepted _ (front_known _ _ P.sides_known) _ _ _ P.n_value r (front_steps (lent c.args.grid) _ P.sides_known _ _ _ c.put_steps.ensures), P.n_in_bounds)

pub invariant_of-table : goal.invariant_of-table
invariant_of-table g c =
    let P = c.requires in
    let l = length-replicate {A = ℕ} g.row.ROOM 0 in
    let r : 2 * c.args.n ≤ length (replicate {A = ℕ} g.row.ROOM 0) = omega (arith, l, P.n_in_bounds) in
    record { table = is_linked (lent c.args.grid) P.accepted _ (front_known _ _ P.sides_known) _ _ _ P.n_value r (front_steps (lent c.args.grid) _ P.sides_known _ _ _ c.put_steps.ensures) }

pub returns-then-area-m : goal.returns-then-area-m
returns-then-area-m g c =
    let P = c.requires in
    let W = c.put_words-m.ensures in
    let l = length-replicate {A = ℕ} g.row.ROOM 0 in
    let r : 2 * c.args.n ≤ length (replicate {A = ℕ} g.row.ROOM 0) = omega (arith, l, P.n_in_bounds) in
    rw c.at.ensures (made_short (lent c.args.grid) P.accepted _ (front_known _ _ P.sides_known) _ _ _ P.n_value r (front_steps (lent c.args.grid) _ P.sides_known _ _ _ c.put_steps.ensures) _ _ _ r W.area_after W.value _ c.if-area-m.true)

pub copy_words-requires : goal.copy_words-requires
copy_words-requires g c = omega (arith, length-take c.put_words-m.result c.put_words-m.new.area, c.if-area-m.false)

pub returns : goal.returns
returns g c =
    let P = c.requires in
    let W = c.put_words-m.ensures in
    let l = length-replicate {A = ℕ} g.row.ROOM 0 in
    let r : 2 * c.args.n ≤ length (replicate {A = ℕ} g.row.ROOM 0) = omega (arith, l, P.n_in_bounds) in
    made_fits (lent c.args.grid) P.accepted _ (front_known _ _ P.sides_known) _ _ _ P.n_value r (front_steps (lent c.args.grid) _ P.sides_known _ _ _ c.put_steps.ensures) _ _ _ r W.area_after W.value _ (omega (arith, c.if-area-m.false)) (c.copy_words.ensures ∙ front_filled _ _ _ (omega (arith, made_few (lent c.args.grid) P.accepted _ (front_known _ _ P.sides_known) _ _ _ P.n_value r (front_steps (lent c.args.grid) _ P.sides_known _ _ _ c.put_steps.ensures) _ _ _ r W.area_after W.value, r, simp length-sets at (ap length W.area_after))))

pub shared_whole_as_front-copy_words : goal.shared_whole_as_front-copy_words
shared_whole_as_front-copy_words g c =
    let P = c.requires in
    let W = c.put_words-m.ensures in
    let l = length-replicate {A = ℕ} g.row.ROOM 0 in
    let r : 2 * c.args.n ≤ length (replicate {A = ℕ} g.row.ROOM 0) = omega (arith, l, P.n_in_bounds) in
    (omega (arith, made_few (lent c.args.grid) P.accepted _ (front_known _ _ P.sides_known) _ _ _ P.n_value r (front_steps (lent c.args.grid) _ P.sides_known _ _ _ c.put_steps.ensures) _ _ _ r W.area_after W.value, P.n_in_bounds), omega (arith, P.room_small))
