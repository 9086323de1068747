use Prim.Native.Nat.{ℕ, ◌<◌}
use native.Mathlib.Omega.{arith}
use mathlib.Core.Path.{◌≡◌, refl, sym, ap, ◌∙◌}
use Rattle.slots.specs.Slots.{first_slot}
use Rattle.cell.specs.work.Half.{half_edges, half_of}
use Rattle.cell.proofs.half_edges.first_of.Goals as goal

-- the half-edge in the first slot of the edge i
first_is : {e i h : ℕ} → half_of (first_slot i) i ≡ h → h < half_edges → e ≡ i → (h ≡ half_of (first_slot e) e) × (h < half_edges)
first_is p l is = (sym (ap (λ k. half_of (first_slot k) k) is ∙ p), l)

pub returns-in-0 : goal.returns-in-0
unfolding half_of first_slot
returns-in-0 c = first_is refl (omega arith) c.in-0.is

pub returns-in-1 : goal.returns-in-1
unfolding half_of first_slot
returns-in-1 c = first_is refl (omega arith) c.in-1.is

pub returns-in-2 : goal.returns-in-2
unfolding half_of first_slot
returns-in-2 c = first_is refl (omega arith) c.in-2.is

pub returns-in-3 : goal.returns-in-3
unfolding half_of first_slot
returns-in-3 c = first_is refl (omega arith) c.in-3.is

pub returns-in-4 : goal.returns-in-4
unfolding half_of first_slot
returns-in-4 c = first_is refl (omega arith) c.in-4.is

pub returns-in_default : goal.returns-in_default
unfolding half_of first_slot
returns-in_default c = let l = c.requires in
    let r = c.in_default.in_default-own.rest in
    let is : c.args.e ≡ 5 = omega (arith, l, r.0.0.0.0.1, r.0.0.0.1, r.0.0.1, r.0.1, r.1) in
    first_is refl (omega arith) is
