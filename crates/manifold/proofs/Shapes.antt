-- Laws of the triangles of a loop by its shape, whatever a triangle is.
use Prim.Native.Nat.{ℕ, zero, suc, ◌≤◌, ◌<◌}
use mathlib.Core.Path.{◌≡◌, refl, ap, ◌∙◌}
use mathlib.Core.Logic.{◌≢◌}
use mathlib.Core.Bool.{Bool, true, false, ◌&&◌}
use mathlib.Core.List.{[], ◌∷◌, map}
use native.Mathlib.Nat.{zero-add}
use native.Mathlib.Omega.{arith}
use lib.Dec.{eqb}
use lib.ListN.{length, get_or}
use borrow.Author.Tests.{eq-eqb, ne_eqb, eqb-true}
use Rattle.counting.specs.Lists.{after}
use Rattle.counting.proofs.Bools.{clash}
use Rattle.counting.proofs.Range.{after_lt, over_ext}
use Rattle.counting.proofs.Lists.{length_singles, get_or_singles, map_over}
use Rattle.manifold.specs.Shape.{Shape, single, double, fan, shape_by, shape_of, many_of, middle_by, has_middle, triangle_of, triangles_of}

-- what a shape says of the number of points of a loop
abbrev pub Fits : Shape → ℕ → Type 0
Fits single n = n ≡ 3
Fits double n = n ≡ 4
Fits fan n = Unit {0}

module _ (n : ℕ) (normal : Bool) where
  pub shape_three : n ≡ 3 → shape_of n normal ≡ single
  shape_three e = rw (eq-eqb n 3 e)

  pub shape_four : n ≡ 4 → normal ≡ true → shape_of n normal ≡ double
  shape_four e h = rw (ne_eqb n 3 (λ q. omega arith), eq-eqb n 4 e, h)

  pub shape_else : n ≢ 3 → (n ≡ 4 → normal ≡ false) → shape_of n normal ≡ fan
  shape_else h f = rw (ne_eqb n 3 h) (go (eqb n 4) normal refl refl)
    where
      go : (a b : Bool) → eqb n 4 ≡ a → normal ≡ b → shape_by false a b ≡ fan
      go true true e q = clash q (f (eqb-true n 4 e))
      go true false e q = refl
      go false b e q = refl

  -- it is asked whether a loop is normal only where n is 4
  pub shape_two : shape_of n (eqb n 4 && normal) ≡ shape_of n normal
  shape_two = go (eqb n 3) (eqb n 4)
    where
      go : (a b : Bool) → shape_by a b (b && normal) ≡ shape_by a b normal
      go true b = refl
      go false true = refl
      go false false = refl

  pub fits : Fits (shape_of n normal) n
  fits = go (eqb n 3) (eqb n 4) normal refl refl
    where
      go : (a b c : Bool) → eqb n 3 ≡ a → eqb n 4 ≡ b → Fits (shape_by a b c) n
      go true b c u v = eqb-true n 3 u
      go false true true u v = eqb-true n 4 v
      go false true false u v = tt
      go false false c u v = tt

-- a loop has a middle exactly where it is drawn as a fan
pub middle_fan : (n : ℕ) (normal : Bool) → has_middle n normal ≡ true → (0 < n) × (shape_of n normal ≡ fan)
unfolding has_middle
middle_fan n normal = go (shape_of n normal) n
  where
    go : (sh : Shape) (n : ℕ) → middle_by sh n ≡ true → (0 < n) × (sh ≡ fan)
    go single n e = clash e refl
    go double n e = clash e refl
    go fan zero e = clash e refl
    go fan (suc n) e = (omega arith, refl)

pub fan-middle : (n : ℕ) (normal : Bool) → 0 < n → shape_of n normal ≡ fan → has_middle n normal ≡ true
unfolding has_middle
fan-middle zero normal l e = absurd (omega arith)
fan-middle (suc n) normal l e = ap (λ sh. middle_by sh (suc n)) e

-- at most one triangle a point
pub many_le : (sh : Shape) (n : ℕ) → Fits sh n → many_of sh n ≤ n
many_le single n e = omega arith
many_le double n e = omega arith
many_le fan n e = omega arith

module _ {C S T : Type 0} (make : C → C → C → S → S → S → T) (point : ℕ → C) (centre : C) (segment inner : ℕ → S) (n : ℕ) where
  pub length_triangles : (sh : Shape) → length (triangles_of make point centre segment inner n sh) ≡ many_of sh n
  length_triangles sh = length_singles (triangle_of make point centre segment inner n sh) (many_of sh n) 0

  pub get_or_triangles : (d : T) (sh : Shape) (k : ℕ) → k < many_of sh n
      → get_or (triangles_of make point centre segment inner n sh) k d ≡ triangle_of make point centre segment inner n sh k
  get_or_triangles d sh k l =
      get_or_singles (triangle_of make point centre segment inner n sh) d (many_of sh n) 0 k l ∙ ap (triangle_of make point centre segment inner n sh) (zero-add k)

  -- they are determined by the points and segments below n, and by what a triangle is where there are points
  pub triangles_ext : (make' : C → C → C → S → S → S → T) (point' : ℕ → C) (segment' : ℕ → S) → (0 < n → make ≡ make')
      → ((k : ℕ) → k < n → point k ≡ point' k) → ((k : ℕ) → k < n → segment k ≡ segment' k)
      → (sh : Shape) → Fits sh n → triangles_of make point centre segment inner n sh ≡ triangles_of make' point' centre segment' inner n sh
  triangles_ext make' point' segment' m p s sh f =
      over_ext (λ k. triangle_of make point centre segment inner n sh k ∷ []) (λ k. triangle_of make' point' centre segment' inner n sh k ∷ []) (many_of sh n) 0
      (λ k a b. ap (λ t. t ∷ []) (go sh f k (omega arith)))
    where
      go : (sh : Shape) → Fits sh n → (k : ℕ) → k < many_of sh n
          → triangle_of make point centre segment inner n sh k ≡ triangle_of make' point' centre segment' inner n sh k
      go single e k l = rw (m (omega arith), p 0 (omega arith), p 1 (omega arith), p 2 (omega arith), s 0 (omega arith), s 1 (omega arith), s 2 (omega arith))
      go double e zero l = rw (m (omega arith), p 0 (omega arith), p 1 (omega arith), p 2 (omega arith), s 0 (omega arith), s 1 (omega arith))
      go double e (suc k) l = rw (m (omega arith), p 0 (omega arith), p 2 (omega arith), p 3 (omega arith), s 2 (omega arith), s 3 (omega arith))
      go fan e k l = let h : k < n = omega arith in rw (m (omega arith), p k h, p (after n k) (after_lt n k h), s k h)

  -- a map of them, by maps of corners and sides
  pub map_triangles : {D R U : Type 0} (f : T → U) (corner : C → D) (side : S → R) (make' : D → D → D → R → R → R → U)
      → ((a b c : C) (r s t : S) → f (make a b c r s t) ≡ make' (corner a) (corner b) (corner c) (side r) (side s) (side t)) → (sh : Shape)
      → map f (triangles_of make point centre segment inner n sh)
      ≡ triangles_of make' (λ k. corner (point k)) (corner centre) (λ k. side (segment k)) (λ k. side (inner k)) n sh
  map_triangles {U = U} f corner side make' e sh =
      map_over f (λ k. triangle_of make point centre segment inner n sh k ∷ []) (many_of sh n) 0
      ∙ over_ext (λ k. f (triangle_of make point centre segment inner n sh k) ∷ []) (λ k. image sh k ∷ []) (many_of sh n) 0 (λ k a b. ap (λ u. u ∷ []) (go sh k))
    where
      image : Shape → ℕ → U
      image sh k = triangle_of make' (λ k. corner (point k)) (corner centre) (λ k. side (segment k)) (λ k. side (inner k)) n sh k

      go : (sh : Shape) (k : ℕ) → f (triangle_of make point centre segment inner n sh k) ≡ image sh k
      go single k = e _ _ _ _ _ _
      go double zero = e _ _ _ _ _ _
      go double (suc k) = e _ _ _ _ _ _
      go fan k = e _ _ _ _ _ _
