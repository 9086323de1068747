-- An answer's numbers tell the answer.
use Rattle.std.specs.Prelude.{Result, Ok, Err}
use Prim.Native.Nat.{ℕ, ◌-◌}
use mathlib.Core.Path.{◌≡◌, refl, sym, ap, ◌∙◌}
use mathlib.Core.Bool.{false}
use mathlib.Core.List.{List, [], ◌∷◌}
use native.Mathlib.Omega.{arith}
use lib.ListN.{get_or}
use borrow.Author.Tests.{ne_eqb}
use Rattle.answer.specs.Answer.{is_result}
use Rattle.answer.specs.Refusal.{row_number, refusal_numbers, answer_numbers}
use Rattle.answer.specs.declared.Refusal.{Refusal}
use Rattle.answer.specs.declared.Row.{Row}
use Rattle.answer.specs.declared.Row.TheVariants.{CellList, EdgeList, CellNodes, CellRepeated, FaceCrowded, EdgeOrder, EdgeMissing, EdgeStray, EdgeUnlinked, Crossings, NoCell, MeshArea, Records, BundleArea, PlaceLists, NodePlace, Fraction, Count, ShadingArea, NoShading, NoEdge, Look, Points, ChainArea, Cuts, NoRun}

-- the rows in the order of their numbers
abbrev rows : List Row
rows = CellList ∷ EdgeList ∷ CellNodes ∷ CellRepeated ∷ FaceCrowded ∷ EdgeOrder ∷ EdgeMissing ∷ EdgeStray ∷ EdgeUnlinked ∷ Crossings ∷ NoCell ∷ MeshArea ∷ Records ∷ BundleArea ∷ PlaceLists ∷ NodePlace ∷ Fraction ∷ Count ∷ ShadingArea ∷ NoShading ∷ NoEdge ∷ Look ∷ Points ∷ ChainArea ∷ Cuts ∷ NoRun ∷ []

-- a row by its number
row_back : (r : Row) → get_or rows (row_number r - 1) CellList ≡ r
row_back CellList = refl
row_back EdgeList = refl
row_back CellNodes = refl
row_back CellRepeated = refl
row_back FaceCrowded = refl
row_back EdgeOrder = refl
row_back EdgeMissing = refl
row_back EdgeStray = refl
row_back EdgeUnlinked = refl
row_back Crossings = refl
row_back NoCell = refl
row_back MeshArea = refl
row_back Records = refl
row_back BundleArea = refl
row_back PlaceLists = refl
row_back NodePlace = refl
row_back Fraction = refl
row_back Count = refl
row_back ShadingArea = refl
row_back NoShading = refl
row_back NoEdge = refl
row_back Look = refl
row_back Points = refl
row_back ChainArea = refl
row_back Cuts = refl
row_back NoRun = refl

pub row_tells : (r s : Row) → row_number r ≡ row_number s → r ≡ s
row_tells r s e = sym (row_back r) ∙ ap (λ n. get_or rows (n - 1) CellList) e ∙ row_back s

-- no row has the number 0
pub row_not : (r : Row) → row_number r ≡ 0 → ⊥
row_not r e =
    let q : r ≡ CellList = sym (row_back r) ∙ ap (λ n. get_or rows (n - 1) CellList) e in
    let z : row_number r ≡ 1 = ap row_number q in
    omega arith

-- a refusal is no result
pub refusal_not : (r : Refusal) → is_result (refusal_numbers r) ≡ false
refusal_not r = ne_eqb (row_number r.row) 0 (row_not r.row)

pub refusal_tells : (r s : Refusal) → refusal_numbers r ≡ refusal_numbers s → r ≡ s
refusal_tells r s e =
    let n : row_number r.row ≡ row_number s.row = cc in
    let p : r.place ≡ s.place = cc in
    let q = row_tells r.row s.row n in
    let z : record { row = r.row; place = r.place } ≡ record { row = s.row; place = s.place } = rw (q, p) in
    z

-- where a value's numbers tell the value
pub answer_tells : {A : Type 0} (values : A → List ℕ) → ((x y : A) → values x ≡ values y → x ≡ y) → (r s : Result A Refusal)
    → answer_numbers values r ≡ answer_numbers values s → r ≡ s
answer_tells values h (Ok x) (Ok y) e = let q : values x ≡ values y = cc in ap Ok (h x y q)
answer_tells values h (Ok x) (Err r) e = absurd (row_not r.row cc)
answer_tells values h (Err r) (Ok x) e = absurd (row_not r.row cc)
answer_tells values h (Err r) (Err s) e = ap Err (refusal_tells r s e)
