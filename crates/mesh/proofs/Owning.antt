-- The names of corners and sides in the mesh tell them apart as 02 says (W12).
use Prim.Native.Nat.{ℕ, zero, suc, ◌%◌, ◌≤◌, ◌<◌}
use mathlib.Core.Path.{◌≡◌, sym, ap, ap₂, ◌∙◌}
use mathlib.Core.Logic.{inl, inr, ⊎_elim}
use native.Mathlib.Omega.{arith}
use native.Mathlib.Decide.{dec_lt}
use Rattle.manifold.specs.Triangle as names
use Rattle.manifold.specs.Triangle.{cross, middle, seg, inner}
use Rattle.slots.specs.Limits.{most_cells}
use Rattle.cell.specs.declared.Corner.{Corner}
use Rattle.cell.specs.declared.Corner.TheVariants.{Crossing, Middle}
use Rattle.cell.specs.declared.Side.{Side}
use Rattle.cell.specs.declared.Side.TheVariants.{Segment, Inner}
use Rattle.cell.specs.declared.Triangle.{Triangle}
use Rattle.cell.specs.Names.{corner_name, side_name, corner_name_at, side_name_at}
use Rattle.split.specs.Limits.{first_inner_crossing, first_inner_face, word_step}
use Rattle.split.specs.Owned.{owned, owned_corner, owned_side}
use Rattle.split.proofs.Grid.{owned_outer, owned_inner, owned_ge, owned_cell}
use Rattle.mesh.specs.Names.{cell_of}
use Rattle.mesh.specs.claims.Claims.{OneCorner, OneSide, NamesTold}

-- numbers of two cells, where inner ones start at `first`
module _ (first c d g h : ℕ) (lc : c < most_cells) (ld : d < most_cells) where
  -- outer ones keep their numbers, and are below every inner one
  number_told : owned first c g ≡ owned first d h → g ≡ h
  number_told e =
      elim (dec_lt g first) [
        | yes a ↦ elim (dec_lt h first) [
          | yes b ↦ sym (owned_outer first c g a) ∙ e ∙ owned_outer first d h b
          | no b ↦ absurd (omega (arith, e, owned_outer first c g a, owned_ge first d h (omega arith)))
        ]
        | no a ↦ elim (dec_lt h first) [
          | yes b ↦ absurd (omega (arith, e, owned_outer first d h b, owned_ge first c g (omega arith)))
          | no b ↦ omega (arith, e, owned_inner first c g (omega arith), owned_inner first d h (omega arith))
        ]
      ]

  cell_told : owned first c g ≡ owned first d h → first ≤ g → c ≡ d
  cell_told e l = owned_cell first c d g h lc ld l (omega (arith, number_told e)) e

  same_owned : g ≡ h → (first ≤ g → c ≡ d) → owned first c g ≡ owned first d h
  same_owned q k =
      elim (dec_lt g first) [
        | yes a ↦ owned_outer first c g a ∙ q ∙ sym (owned_outer first d h (omega arith))
        | no a ↦ ap (owned first c) q ∙ ap (λ x. owned first x h) (k (omega arith))
      ]

-- what a name has in it
cross_of : {g h : ℕ} → cross g ≡ cross h → g ≡ h
cross_of e = cc

middle_of : {w p v q : ℕ} → middle w p ≡ middle v q → (w ≡ v) × (p ≡ q)
middle_of e = (cc, cc)

no_middle : {g v q : ℕ} → cross g ≡ middle v q → ⊥
no_middle e = let z : ◌≡◌ {A = ℕ} 0 1 = cc in absurd (omega arith)

seg_of : {e g f h : ℕ} → seg e g ≡ seg f h → (e ≡ f) × (g ≡ h)
seg_of q = (cc, cc)

inner_of : {w p k v q l : ℕ} → inner w p k ≡ inner v q l → (w ≡ v) × (p ≡ q) × (k ≡ l)
inner_of e = (cc, cc, cc)

no_inner : {e g v q l : ℕ} → seg e g ≡ inner v q l → ⊥
no_inner e = let z : ◌≡◌ {A = ℕ} 0 1 = cc in absurd (omega arith)

cell_lt : (t : Triangle) → cell_of t < most_cells
cell_lt t = low t.cell
  where
    low : (n : ℕ) → n % word_step < most_cells
    low n = omega arith

-- each of the three corners, and each of the three sides, is one of the triangle
at_corner : (t : Triangle) (i : ℕ) (P : names.Corner → Type 0) → ((k : Corner) → P (corner_name t.cell t.p0 k)) → P (corner_name_at t i)
at_corner t zero P f = f t.corner0
at_corner t (suc zero) P f = f t.corner1
at_corner t (suc (suc i)) P f = f t.corner2

at_side : (t : Triangle) (i : ℕ) (P : names.Side → Type 0) → ((k : Side) → P (side_name t.cell t.p0 k)) → P (side_name_at t i)
at_side t zero P f = f t.side0
at_side t (suc zero) P f = f t.side1
at_side t (suc (suc i)) P f = f t.side2

module _ (s t : Triangle) where
  abbrev C : ℕ
  C = cell_of s

  abbrev D : ℕ
  D = cell_of t

  -- names of corners as they are in the cells, told both ways
  abbrev CornerTold : names.Corner → names.Corner → Type 0
  CornerTold x y = (owned_corner C x ≡ owned_corner D y → OneCorner s t x y) × (OneCorner s t x y → owned_corner C x ≡ owned_corner D y)

  corner_told : (k l : Corner) → CornerTold (corner_name s.cell s.p0 k) (corner_name t.cell t.p0 l)
  corner_told (Crossing g) (Crossing h) = (
    λ e. (number_told first_inner_crossing C D g h (cell_lt s) (cell_lt t) (cross_of e), cell_told first_inner_crossing C D g h (cell_lt s) (cell_lt t) (cross_of e)),
    λ o. ap cross (same_owned first_inner_crossing C D g h (cell_lt s) (cell_lt t) o.0 o.1),
  )
  corner_told (Crossing g) Middle = (λ e. no_middle e, λ o. absurd o)
  corner_told Middle (Crossing h) = (λ e. no_middle (sym e), λ o. absurd o)
  corner_told Middle Middle = (
    λ e. let (a, b) = middle_of e in (a, number_told first_inner_crossing C D s.p0 t.p0 (cell_lt s) (cell_lt t) b),
    λ o. ap₂ (λ w p. middle w (owned first_inner_crossing (w % word_step) p)) o.0 o.1,
  )

  abbrev SideTold : names.Side → names.Side → Type 0
  SideTold x y = (owned_side C x ≡ owned_side D y → OneSide s t x y) × (OneSide s t x y → owned_side C x ≡ owned_side D y)

  side_told : (k l : Side) → SideTold (side_name s.cell s.p0 k) (side_name t.cell t.p0 l)
  side_told (Segment e g) (Segment f h) = (
    λ q. let (a, b) = seg_of q in (
      number_told first_inner_face C D e f (cell_lt s) (cell_lt t) a,
      number_told first_inner_crossing C D g h (cell_lt s) (cell_lt t) b,
      λ i. ⊎_elim (λ (l : first_inner_face ≤ e). cell_told first_inner_face C D e f (cell_lt s) (cell_lt t) a l)
          (λ (l : first_inner_crossing ≤ g). cell_told first_inner_crossing C D g h (cell_lt s) (cell_lt t) b l) i,
    ),
    λ o. ap₂ seg (same_owned first_inner_face C D e f (cell_lt s) (cell_lt t) o.0 (λ l. o.2 (inl l)))
        (same_owned first_inner_crossing C D g h (cell_lt s) (cell_lt t) o.1 (λ l. o.2 (inr l))),
  )
  side_told (Segment e g) (Inner l) = (λ q. no_inner q, λ o. absurd o)
  side_told (Inner k) (Segment f h) = (λ q. no_inner (sym q), λ o. absurd o)
  side_told (Inner k) (Inner l) = (
    λ q. let (a, b, c) = inner_of q in (a, number_told first_inner_crossing C D s.p0 t.p0 (cell_lt s) (cell_lt t) b, c),
    λ o. ap₂ (λ w p. inner w (owned first_inner_crossing (w % word_step) p) k) o.0 o.1 ∙ ap (inner t.cell (owned first_inner_crossing D t.p0)) o.2,
  )

  corners_told : (i j : ℕ) → CornerTold (corner_name_at s i) (corner_name_at t j)
  corners_told i j = at_corner s i (λ x. CornerTold x (corner_name_at t j)) (λ k. at_corner t j (λ y. CornerTold (corner_name s.cell s.p0 k) y) (corner_told k))

  sides_told : (i j : ℕ) → SideTold (side_name_at s i) (side_name_at t j)
  sides_told i j = at_side s i (λ x. SideTold x (side_name_at t j)) (λ k. at_side t j (λ y. SideTold (side_name s.cell s.p0 k) y) (side_told k))

pub names_told : NamesTold
names_told = record {
  corner = λ s t i j. (corners_told s t i j).0;
  same_corner = λ s t i j. (corners_told s t i j).1;
  side = λ s t i j. (sides_told s t i j).0;
  same_side = λ s t i j. (sides_told s t i j).1;
}
