-- A loop of as many crossings as there are has all of them.
use Prim.Native.Nat.{ℕ, ◌<◌}
use native.Mathlib.Omega.{arith}
use Rattle.counting.proofs.Onto.{onto}
use Rattle.counting.specs.Lists.{it}
use Rattle.walk.specs.claims.Claims.{Darts}
use Rattle.walk.specs.Darts.{Loop, On}
use Rattle.walk.proofs.Curve.{loop_distinct}

pub ring_all : (M N : ℕ) (s rv cr : ℕ → ℕ) → Darts M N s rv cr → {p : ℕ} → Loop M s p N → (x : ℕ) → x < N → On s cr p N x
ring_all M N s rv cr D {p} L x l =
    let w = onto N (λ i. cr (it s i p)) (λ i h. D.cr_lt (it s i p) (L.live i (omega arith)))
    (λ i j a h e. omega (arith, loop_distinct M N s rv cr D L i j (omega arith) h e)) x l in
    record { at = w.0; at_lt = w.1; is = w.2 }
