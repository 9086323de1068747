-- The three edges of a face and their six ends.
use Prim.Native.Nat.{ℕ, zero, suc, ◌+◌, ◌<◌, ◌≤◌}
use mathlib.Core.Path.{◌≡◌, refl}
use native.Mathlib.Omega.{arith}
use native.Mathlib.Decide.{dec_lt}
use borrow.Author.Tests.{ne_eqb}
use Rattle.slots.specs.Slots.{lower, upper}
use Rattle.face.specs.Face.{other, opposite, count_on, others}
use Rattle.face.specs.claims.Ends.{Edge, on_ab, on_ac, on_bc, End, low, high}

pub edge-of : (e : ℕ) → e < 3 → Edge e
edge-of zero h = on_ab
edge-of (suc zero) h = on_ac
edge-of (suc (suc zero)) h = on_bc
edge-of (suc (suc (suc n))) h = absurd (omega arith)

pub edge_lt : {e : ℕ} → Edge e → e < 3
edge_lt on_ab = omega arith
edge_lt on_ac = omega arith
edge_lt on_bc = omega arith

-- an edge with a crossing is one of the three
pub no_edge : (ab ac bc e : ℕ) → 2 < e → count_on ab ac bc e ≡ 0
unfolding count_on
no_edge ab ac bc e h = simp (ne_eqb e 0 (omega arith), ne_eqb e 1 (omega arith), ne_eqb e 2 (omega arith))

pub edge_with : (ab ac bc e t : ℕ) → t < count_on ab ac bc e → Edge e
edge_with ab ac bc e t h =
    elim (dec_lt e 3) [
      | yes k ↦ edge-of e k
      | no k ↦ absurd (omega (arith, no_edge ab ac bc e (omega arith)))
    ]

pub edge_counted : (ab ac bc e t : ℕ) {x : ℕ} → x ≡ count_on ab ac bc e → t < x → Edge e
edge_counted ab ac bc e t q h = edge_with ab ac bc e t (omega arith)

pub on : {w e : ℕ} → End w e → Edge e
on (low d) = d
on (high d) = d

pub near : {w e : ℕ} → End w e → (e ≤ w + 1) × (w < 3)
unfolding lower upper
near (low on_ab) = omega arith
near (low on_ac) = omega arith
near (low on_bc) = omega arith
near (high on_ab) = omega arith
near (high on_ac) = omega arith
near (high on_bc) = omega arith

pub ends_differ : {e : ℕ} → Edge e → upper e ≡ lower e → ⊥
unfolding lower upper
ends_differ on_ab h = omega arith
ends_differ on_ac h = omega arith
ends_differ on_bc h = omega arith

-- the edge opposite an end is the other edge at the other end
pub opposite_lower : {e : ℕ} → Edge e → opposite (lower e) ≡ other (upper e) e
unfolding lower upper other opposite
opposite_lower on_ab = refl
opposite_lower on_ac = refl
opposite_lower on_bc = refl

pub opposite_upper : {e : ℕ} → Edge e → opposite (upper e) ≡ other (lower e) e
unfolding lower upper other opposite
opposite_upper on_ab = refl
opposite_upper on_ac = refl
opposite_upper on_bc = refl

-- an end of an edge is an end of the other edge there, which is another edge, whose other edge is the first
pub end_other : {w e : ℕ} → End w e → End w (other w e)
unfolding lower upper other
end_other (low on_ab) = low on_ac
end_other (low on_ac) = low on_ab
end_other (low on_bc) = high on_ab
end_other (high on_ab) = low on_bc
end_other (high on_ac) = high on_bc
end_other (high on_bc) = high on_ac

pub other_differs : {w e : ℕ} → End w e → other w e ≡ e → ⊥
unfolding lower upper other
other_differs (low on_ab) h = omega arith
other_differs (low on_ac) h = omega arith
other_differs (low on_bc) h = omega arith
other_differs (high on_ab) h = omega arith
other_differs (high on_ac) h = omega arith
other_differs (high on_bc) h = omega arith

pub other_other : {w e : ℕ} → End w e → other w (other w e) ≡ e
unfolding lower upper other
other_other (low on_ab) = refl
other_other (low on_ac) = refl
other_other (low on_bc) = refl
other_other (high on_ab) = refl
other_other (high on_ac) = refl
other_other (high on_bc) = refl

pub all_three : (ab ac bc : ℕ) {e : ℕ} → Edge e → count_on ab ac bc e + others ab ac bc e ≡ ab + ac + bc
unfolding lower upper other count_on others
all_three ab ac bc on_ab = omega arith
all_three ab ac bc on_ac = omega arith
all_three ab ac bc on_bc = omega arith

-- a node that is known to be an end
pub low_end : {w e : ℕ} → w ≡ lower e → Edge e → End w e
low_end q d = rw q (low d)

pub high_end : {w e : ℕ} → w ≡ upper e → Edge e → End w e
high_end q d = rw q (high d)
