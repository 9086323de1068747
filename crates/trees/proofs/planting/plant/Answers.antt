use Rattle.std.proofs.Common.{◌≡◌, ℕ, ◌<◌, ◌≤◌, length, get_or, arith, rules}
use Rattle.std.proofs.lemmas.List.{places}
use Rattle.trees.specs.work.Planted.{link_room, planted_of}
use Rattle.trees.proofs.Planted.{room_fits, key_tops_none, blank_all}
use Rattle.trees.proofs.planting.plant.Goals as goal
use Rattle.trees.proofs.planting.plant.Goals.{then-count-gt0, else-count-gt0}

pub grow-requires : goal.grow-requires
grow-requires g c =
    let long : length c.fill.new.self ≡ length c.args.links.now = search rules in
    let zeros : (i : ℕ) → i < length c.fill.new.self → get_or c.fill.new.self i 0 ≡ 0 = search (rules, places) in
    let within : c.min-count.result ≤ link_room g.row.B (length c.args.links.now) = omega arith in
    let fits = room_fits g.row.B (length c.args.links.now) c.min-count.result within c.if-count-gt0.true in
    record { some = fits.0; few = omega arith; room = omega (arith, fits.1, long); blank = blank_all _ zeros; tops_room = omega arith }

pub invariant_of-result : goal.invariant_of-result
invariant_of-result g c =
    let within : c.min-count.result ≤ link_room g.row.B (length c.args.links.now) = omega arith in
    let zeros : (i : ℕ) → i < length c.fill.new.self → get_or c.fill.new.self i 0 ≡ 0 = search (rules, places) in
    record {
      within = omega arith;
      grown = λ h. elim c.if-count-gt0.branch [
        | then-count-gt0 w ↦ rw w.links-is (record { some = (room_fits g.row.B (length c.args.links.now) c.min-count.result within h).0; tree = w.grow.ensures.tree })
        | else-count-gt0 w ↦ absurd (omega arith)
      ];
      blank = λ z. elim c.if-count-gt0.branch [
        | then-count-gt0 w ↦ absurd (omega (arith, z, w.if-count-gt0.true))
        | else-count-gt0 w ↦ rw w.links-is (blank_all _ zeros)
      ];
    }

pub returns-clause-count : goal.returns-clause-count
unfolding planted_of
returns-clause-count g c = omega arith

pub returns-clause-key_tops : goal.returns-clause-key_tops
returns-clause-key_tops g c = elim c.if-count-gt0.branch [
  | then-count-gt0 w ↦ rw w.tops-is w.grow.ensures.key_tops
  | else-count-gt0 w ↦ let z : c.min-count.result ≡ 0 = omega arith in rw (z, w.tops-is) (key_tops_none (g.K.Keys.key_at c.args.keys.now) 0 c.args.tops.now (omega arith))
]
