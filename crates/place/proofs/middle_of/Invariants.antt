use Rattle.std.proofs.Common.{◌≡◌, ◌-◌, length, get_or}
use Rattle.place.specs.Place.{place_at, sum_to}
use Rattle.place.proofs.middle_of.Given as goal

abbrev pub invariant-loop-i : goal.invariant-loop-i
invariant-loop-i l = (l.n ≡ length l.points) × (l.p ≡ sum_to (λ k. place_at l.list (get_or l.points k 0)) (l.i - 1))
