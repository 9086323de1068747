use Prim.Native.Nat.{ℕ, ◌<◌}
use native.Mathlib.Omega.{arith}
use native.Mathlib.Decide.{dec_lt}
use mathlib.Core.Path.{◌≡◌, refl, sym, ap, ◌∙◌}
use mathlib.Core.Logic.{◌⊎◌, inl, inr, ⊎_elim, ◌≢◌}
use Rattle.cell.specs.claims.Half.{edge_of}
use Rattle.cell.proofs.half_edges.edge_of.Goals as goal

-- the edge of both of its half-edges
of_both : {h a b e : ℕ} → edge_of a ≡ e → edge_of b ≡ e → e < 6 → (h ≡ a) ⊎ (h ≡ b) → (e ≡ edge_of h) × (e < 6)
of_both p q l is = (sym (⊎_elim (λ r. ap edge_of r ∙ p) (λ r. ap edge_of r ∙ q) is), l)

neither : {h a b : ℕ} → ((h ≡ a) ⊎ (h ≡ b) → ⊥) → (h ≢ a) × (h ≢ b)
neither n = (λ q. n (inl q), λ q. n (inr q))

-- which half-edges are left
left : (h : ℕ) → h < 12 → (h ≢ 6) × (h ≢ 9) → (h ≢ 3) × (h ≢ 10) → (h ≢ 4) × (h ≢ 7) → (h ≢ 0) × (h ≢ 11) → (h ≢ 1) × (h ≢ 8) → (h ≡ 2) ⊎ (h ≡ 5)
left h l a b c d e =
    elim (dec_lt h 3) [
      | yes s ↦ inl (omega (arith, d.0, e.0))
      | no s ↦ elim (dec_lt h 6) [
        | yes t ↦ inr (omega (arith, b.0, c.0))
        | no t ↦ elim (dec_lt h 9) [
          | yes u ↦ absurd (omega (arith, a.0, c.1, e.1))
          | no u ↦ absurd (omega (arith, a.1, b.1, d.1))
        ]
      ]
    ]

pub returns-in-6 : goal.returns-in-6
unfolding edge_of
returns-in-6 c = of_both refl refl (omega arith) c.in-6.is

pub returns-in-3 : goal.returns-in-3
unfolding edge_of
returns-in-3 c = of_both refl refl (omega arith) c.in-3.is

pub returns-in-4 : goal.returns-in-4
unfolding edge_of
returns-in-4 c = of_both refl refl (omega arith) c.in-4.is

pub returns-in-0 : goal.returns-in-0
unfolding edge_of
returns-in-0 c = of_both refl refl (omega arith) c.in-0.is

pub returns-in-1 : goal.returns-in-1
unfolding edge_of
returns-in-1 c = of_both refl refl (omega arith) c.in-1.is

pub returns-in_default : goal.returns-in_default
unfolding edge_of
returns-in_default c = let r = c.in_default.in_default-own.rest in
    of_both refl refl (omega arith)
    (left _ c.requires (neither r.0.0.0.0.1) (neither r.0.0.0.1) (neither r.0.0.1) (neither r.0.1) (neither r.1))
