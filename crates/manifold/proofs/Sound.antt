-- Lists of triangles in which the name of a side tells its ends, and these differ.
use Prim.Native.Nat.{ℕ, ◌<◌}
use mathlib.Core.Path.{◌≡◌, refl, sym, ap, ◌∙◌}
use mathlib.Core.Logic.{◌⊎◌, inl, inr, ◌≢◌, ⊎_elim}
use mathlib.Core.Bool.{Bool, true, false}
use mathlib.Core.List.{List}
use native.Mathlib.Omega.{arith}
use lib.Dec.{eqb}
use lib.ListN.{length}
use borrow.Author.Tests.{eqb-true, eqb-false}
use Rattle.counting.specs.Lists.{one, tally}
use Rattle.counting.specs.work.Stored.{weigh}
use Rattle.counting.proofs.Lists.{Stands, tally_weigh, weigh_ext}
use Rattle.manifold.specs.Triangle.{Corner, Side, prev}
use Rattle.manifold.specs.work.Triangle.{next}
use Rattle.manifold.specs.claims.Plain.{Tri, corner_of, side_of, has_side, no_tri, nth}
use Rattle.manifold.specs.work.Plain.{Passes}
use Rattle.manifold.proofs.Triangle.{hits, hits_one}

-- v is a triangle of the list
abbrev pub Member : List Tri → Tri → Type 0
Member l v = Stands no_tri l v

pub member : (l : List Tri) (t : ℕ) → t < length l → Member l (nth l t)
member l t h = record { at = t; lt = h; is = refl }

-- the pairs a b and x y are the same
abbrev pub Ends : Corner → Corner → Corner → Corner → Type 0
Ends a b x y = ((a ≡ x) × (b ≡ y)) ⊎ ((a ≡ y) × (b ≡ x))

pub via : (a b x y u v : Corner) → Ends a b u v → Ends x y u v → Ends a b x y
via a b x y u v (inl p) (inl q) = inl (p.0 ∙ sym q.0, p.1 ∙ sym q.1)
via a b x y u v (inl p) (inr q) = inr (p.0 ∙ sym q.1, p.1 ∙ sym q.0)
via a b x y u v (inr p) (inl q) = inr (p.0 ∙ sym q.1, p.1 ∙ sym q.0)
via a b x y u v (inr p) (inr q) = inl (p.0 ∙ sym q.0, p.1 ∙ sym q.1)

-- a triangle is passed both ways
unfoldable pub turned : {v : Tri} {g : Corner} {σ τ : Side} → Passes v g σ τ → Passes v g τ σ
turned {v} {g} {σ} {τ} p = record {
  at = p.at;
  at_lt = p.at_lt;
  is = p.is;
  only = p.only;
  ways = ⊎_elim (λ (q : (σ ≡ side_of v p.at) × (τ ≡ side_of v (prev p.at))). inr (q.1, q.0))
      (λ (q : (σ ≡ side_of v (prev p.at)) × (τ ≡ side_of v p.at)). inl (q.1, q.0)) p.ways;
  apart = λ e. p.apart (sym e);
}

pub record Sound (l : List Tri) : Type 0 where
  pub ends : (v : Tri) (i : ℕ) (w : Tri) (j : ℕ) → Member l v → Member l w → i < 3 → j < 3 → side_of v i ≡ side_of w j
      → Ends (corner_of v i) (corner_of v (next i)) (corner_of w j) (corner_of w (next j))
  pub corners : (v : Tri) (i : ℕ) → Member l v → i < 3 → corner_of v i ≢ corner_of v (next i)

module _ {l : List Tri} (S : Sound l) where
  -- a triangle has three corners and three sides
  pub corner_once : (v : Tri) (a b : ℕ) → Member l v → a < 3 → b < 3 → corner_of v a ≡ corner_of v b → a ≡ b
  corner_once v a b m la lb e = go (eqb a b) (eqb b (next a)) refl refl
    where
      go : (x y : Bool) → eqb a b ≡ x → eqb b (next a) ≡ y → a ≡ b
      go true y p q = eqb-true a b p
      go false true p q = absurd (S.corners v a m la (e ∙ ap (corner_of v) (eqb-true b (next a) q)))
      go false false p q =
          let f : a ≡ next b = omega (arith, eqb-false a b p, eqb-false b (next a) q) in
          absurd (S.corners v b m lb (sym e ∙ ap (corner_of v) f))

  pub sides_differ : (v : Tri) (i : ℕ) → Member l v → i < 3 → side_of v i ≢ side_of v (next i)
  sides_differ v i m h e =
      let r : i ≡ next (next (next i)) = omega arith in
      ⊎_elim (λ (p : (corner_of v i ≡ corner_of v (next i)) × (corner_of v (next i) ≡ corner_of v (next (next i)))). S.corners v i m h p.0)
      (λ (p : (corner_of v i ≡ corner_of v (next (next i))) × (corner_of v (next i) ≡ corner_of v (next i))).
      S.corners v (next (next i)) m (omega arith) (sym p.0 ∙ ap (corner_of v) r))
      (S.ends v i v (next i) m m h (omega arith) e)

  -- so how often a side occurs is how many triangles have it
  pub tally_exact : (σ : Side) → tally (has_side σ) l ≡ weigh (hits σ) l
  tally_exact σ =
      sym (tally_weigh (has_side σ) l)
      ∙ weigh_ext no_tri (λ v. one (has_side σ v)) (hits σ) l (λ t h. hits_one σ (nth l t) (λ i k. sides_differ (nth l t) i (member l t h) k))

  -- a triangle passed at its corner j, by the sides before and after it, or the other way
  module _ (v : Tri) (j : ℕ) (m : Member l v) (lj : j < 3) {g : Corner} (here : corner_of v j ≡ g) where
    two : side_of v (prev j) ≢ side_of v j
    two e = let r : next (prev j) ≡ j = omega arith in sides_differ v (prev j) m (omega arith) (e ∙ ap (side_of v) (sym r))

    pub forward : Passes v g (side_of v (prev j)) (side_of v j)
    forward = record {
      at = j;
      at_lt = lj;
      is = here;
      only = λ i h e. corner_once v i j m h lj (e ∙ sym here);
      ways = inr (refl, refl);
      apart = two;
    }

    pub backward : Passes v g (side_of v j) (side_of v (prev j))
    backward = turned forward
