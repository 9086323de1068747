-- The triangles of a loop (01, "Triangles"), by its length and whether it is normal: one, two, or a fan.
use Rattle.std.specs.Prelude.{ℕ, zero, suc, Bool, true, false, List, [], ◌∷◌, eqb}
use Rattle.counting.specs.Lists.{over, after}

pub data Shape : Type 0 where
  single double fan : Shape

-- by three tests: n = 3, n = 4, normal
abbrev pub shape_by : Bool → Bool → Bool → Shape
shape_by true four normal = single
shape_by false true true = double
shape_by false true false = fan
shape_by false false normal = fan

abbrev pub shape_of : ℕ → Bool → Shape
shape_of n normal = shape_by (eqb n 3) (eqb n 4) normal

-- how many triangles a loop of n points has, and how many inner sides
abbrev pub many_of : Shape → ℕ → ℕ
many_of single n = 1
many_of double n = 2
many_of fan n = n

-- a loop of n points has a middle: it is drawn as a fan, and without points there is no loop
abbrev pub middle_by : Shape → ℕ → Bool
middle_by single n = false
middle_by double n = false
middle_by fan zero = false
middle_by fan (suc n) = true

unfoldable pub has_middle : ℕ → Bool → Bool
has_middle n normal = middle_by (shape_of n normal) n

-- its triangles, whatever a triangle is: `make` takes three corners and three sides; point k, the middle, segment g(k), inner side k
module _ {C S T : Type 0} (make : C → C → C → S → S → S → T) (point : ℕ → C) (centre : C) (segment inner : ℕ → S) (n : ℕ) where
  abbrev pub triangle_of : Shape → ℕ → T
  triangle_of single k = make (point 0) (point 1) (point 2) (segment 0) (segment 1) (segment 2)
  triangle_of double zero = make (point 0) (point 1) (point 2) (segment 0) (segment 1) (inner 0)
  triangle_of double (suc k) = make (point 0) (point 2) (point 3) (inner 0) (segment 2) (segment 3)
  triangle_of fan k = make (point k) (point (after n k)) centre (segment k) (inner (after n k)) (inner k)

  abbrev pub triangles_of : Shape → List T
  triangles_of sh = over (λ k. triangle_of sh k ∷ []) (many_of sh n) 0
