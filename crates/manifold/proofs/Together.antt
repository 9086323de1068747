-- Triangles at a point that are joined over sides there. A chain joins all of its triangles (for steps 6 and 7).
use Prim.Native.Nat.{ℕ, zero, suc, ◌<◌}
use mathlib.Core.Path.{◌≡◌, sym, ap, ◌∙◌, subst}
use mathlib.Core.Logic.{◌⊎◌, inl, inr}
use mathlib.Core.Bool.{Bool, true, false}
use mathlib.Core.List.{List}
use native.Mathlib.Omega.{arith}
use Rattle.manifold.specs.Triangle.{Corner, Side, prev}
use Rattle.manifold.specs.claims.Plain.{Tri, corner_of, side_of, nth, Chain}
use Rattle.manifold.specs.work.Plain.{Passes}
use Rattle.manifold.proofs.Sound.{Member, member, turned}

-- the two sides at corner j
abbrev pub port : Bool → Tri → ℕ → Side
port true v j = side_of v j
port false v j = side_of v (prev j)

-- two corners have a side in common
abbrev pub Touch : Tri → ℕ → Tri → ℕ → Type 0
Touch v i w j = (a : Bool) × (b : Bool) × (port a v i ≡ port b w j)

-- corner i of v, a triangle of the list, is g
pub record Here (mesh : List Tri) (g : Corner) (v : Tri) (i : ℕ) : Type 0 where
  pub member : Member mesh v
  pub lt : i < 3
  pub is : corner_of v i ≡ g

-- Q passes from corner to corner over the sides at g
abbrev pub Spreads : List Tri → Corner → (Tri → ℕ → Type 0) → Type 0
Spreads mesh g Q = (v : Tri) (i : ℕ) (w : Tri) (j : ℕ) → Here mesh g v i → Here mesh g w j → Touch v i w j → Q v i → Q w j

-- what holds of one corner at g and so passes on holds of all
abbrev pub Together : List Tri → Corner → Type 1
Together mesh g = (Q : Tri → ℕ → Type 0) → Spreads mesh g Q → (v : Tri) (i : ℕ) (w : Tri) (j : ℕ) → Here mesh g v i → Here mesh g w j → Q v i → Q w j

-- the sides by which a triangle is entered and left
pub entered : {v : Tri} {g : Corner} {σ τ : Side} (p : Passes v g σ τ) → (b : Bool) × (port b v p.at ≡ σ)
entered {v} {g} {σ} {τ} p = go p.ways
  where
    go : ((σ ≡ side_of v p.at) × (τ ≡ side_of v (prev p.at))) ⊎ ((σ ≡ side_of v (prev p.at)) × (τ ≡ side_of v p.at)) → (b : Bool) × (port b v p.at ≡ σ)
    go (inl q) = (true, sym q.0)
    go (inr q) = (false, sym q.0)

pub left : {v : Tri} {g : Corner} {σ τ : Side} (p : Passes v g σ τ) → (b : Bool) × (port b v p.at ≡ τ)
unfolding turned
left p = entered (turned p)

pub chain_together : {l : List Tri} {g : Corner} → Chain l g → Together l g
chain_together {l} {g} C Q pass v i w j hv hw q =
    let (a, la, ea) = C.every hv.member.at i hv.member.lt hv.lt (ap (λ x. corner_of x i) hv.member.is ∙ hv.is) in
    let (b, lb, eb) = C.every hw.member.at j hw.member.lt hw.lt (ap (λ x. corner_of x j) hw.member.is ∙ hw.is) in
    let va : nth l (C.visit a) ≡ v = ap (nth l) ea ∙ hv.member.is in
    let wb : nth l (C.visit b) ≡ w = ap (nth l) eb ∙ hw.member.is in
    subst (λ x. Q x j) wb (climb b lb (fall a la (at a i la hv.lt (ap (λ x. corner_of x i) va ∙ hv.is) (subst (λ x. Q x i) (sym va) q)))
    j hw.lt (ap (λ x. corner_of x j) wb ∙ hw.is))
  where
    tr : ℕ → Tri
    tr a = nth l (C.visit a)

    -- the corner at g of the a-th triangle has Q
    Held : ℕ → Type 0
    Held a = (j : ℕ) → j < 3 → corner_of (tr a) j ≡ g → Q (tr a) j

    at : (a i : ℕ) → a < C.n → i < 3 → corner_of (tr a) i ≡ g → Q (tr a) i → Held a
    at a i la li e q j lj f = let p = C.passes a la in subst (Q (tr a)) (p.only i li e ∙ sym (p.only j lj f)) q

    here : (a : ℕ) (la : a < C.n) → Here l g (tr a) (C.passes a la).at
    here a la = let p = C.passes a la in record { member = member l (C.visit a) (C.within a la); lt = p.at_lt; is = p.is }

    move : (a b : ℕ) (la : a < C.n) (lb : b < C.n) → Touch (tr a) (C.passes a la).at (tr b) (C.passes b lb).at → Held a → Held b
    move a b la lb t f =
        let p = C.passes a la in
        let r = C.passes b lb in
        at b r.at lb r.at_lt r.is (pass (tr a) p.at (tr b) r.at (here a la) (here b lb) t (f p.at p.at_lt p.is))

    -- to the next, over the side between, and back
    up : (a : ℕ) → suc a < C.n → Held a → Held (suc a)
    up a h =
        let la : a < C.n = omega arith in
        let (x, ex) = left (C.passes a la) in
        let (y, ey) = entered (C.passes (suc a) h) in
        move a (suc a) la h (x, y, ex ∙ sym ey)

    down : (a : ℕ) → suc a < C.n → Held (suc a) → Held a
    down a h =
        let la : a < C.n = omega arith in
        let (x, ex) = left (C.passes a la) in
        let (y, ey) = entered (C.passes (suc a) h) in
        move (suc a) a h la (y, x, ey ∙ sym ex)

    climb : (a : ℕ) → a < C.n → Held 0 → Held a
    climb zero h f = f
    climb (suc a) h f = up a h (climb a (omega arith) f)

    fall : (a : ℕ) → a < C.n → Held a → Held 0
    fall zero h f = f
    fall (suc a) h f = fall a (omega arith) (down a h f)
