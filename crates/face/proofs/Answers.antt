-- The answers of the face call: three cases, each told by its numbers.
use Prim.Native.Nat.{ℕ}
use mathlib.Core.Path.{◌≡◌, refl}
use mathlib.Core.List.{List}
use native.Mathlib.Omega.{arith}
use Rattle.face.specs.declared.How.{How}
use Rattle.face.specs.declared.How.TheVariants.{Round, Along}
use Rattle.face.specs.declared.Why.{Why}
use Rattle.face.specs.declared.Why.TheVariants.{Left, Skipped}
use Rattle.face.specs.declared.Join.TheVariants.{Joined, Unjoined, NoCrossing}
use Rattle.face.specs.Face.{joined, no_crossing}
use Rattle.face.specs.claims.Claims.{unjoined, OneToOne}
use Rattle.face.specs.Join.{how_numbers, why_number}

-- the numbers tell the cases apart, and give the partner
pub joined_same : {e t e' t' : ℕ} → joined e t ≡ joined e' t' → (e ≡ e') × (t ≡ t')
joined_same q = (cc, cc)

pub joined_unjoined : {e t : ℕ} {l : List ℕ} → l ≡ joined e t → l ≡ unjoined → ⊥
joined_unjoined p q = let z : ◌≡◌ {A = ℕ} 0 1 = cc in omega arith

pub joined_none : {e t : ℕ} {l : List ℕ} → l ≡ joined e t → l ≡ no_crossing → ⊥
joined_none p q = let z : ◌≡◌ {A = ℕ} 0 2 = cc in omega arith

pub unjoined_none : {l : List ℕ} → l ≡ unjoined → l ≡ no_crossing → ⊥
unjoined_none p q = let z : ◌≡◌ {A = ℕ} 1 2 = cc in omega arith

-- the reading of the enums is one to one
how_same : (h k : How) → how_numbers h ≡ how_numbers k → h ≡ k
how_same (Round v) (Round w) q = let r : v ≡ w = cc in cc
how_same (Round v) Along q = absurd (let z : ◌≡◌ {A = ℕ} 0 1 = cc in omega arith)
how_same Along (Round w) q = absurd (let z : ◌≡◌ {A = ℕ} 1 0 = cc in omega arith)
how_same Along Along q = refl

why_same : (h k : Why) → why_number h ≡ why_number k → h ≡ k
why_same Left Left q = refl
why_same Left Skipped q = absurd (omega arith)
why_same Skipped Left q = absurd (omega arith)
why_same Skipped Skipped q = refl

pub numbers_same : OneToOne
numbers_same (Joined e t h) (Joined e' t' k) q = let r : how_numbers h ≡ how_numbers k = cc in let s = how_same h k r in cc
numbers_same (Joined e t h) (Unjoined w) q = absurd (let z : ◌≡◌ {A = ℕ} 0 1 = cc in omega arith)
numbers_same (Joined e t h) NoCrossing q = absurd (let z : ◌≡◌ {A = ℕ} 0 2 = cc in omega arith)
numbers_same (Unjoined v) (Joined e t h) q = absurd (let z : ◌≡◌ {A = ℕ} 1 0 = cc in omega arith)
numbers_same (Unjoined v) (Unjoined w) q = let r : why_number v ≡ why_number w = cc in let s = why_same v w r in cc
numbers_same (Unjoined v) NoCrossing q = absurd (let z : ◌≡◌ {A = ℕ} 1 2 = cc in omega arith)
numbers_same NoCrossing (Joined e t h) q = absurd (let z : ◌≡◌ {A = ℕ} 2 0 = cc in omega arith)
numbers_same NoCrossing (Unjoined w) q = absurd (let z : ◌≡◌ {A = ℕ} 2 1 = cc in omega arith)
numbers_same NoCrossing NoCrossing q = refl
