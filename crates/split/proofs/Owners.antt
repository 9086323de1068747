-- Word 0 of a drawn triangle tells its cell.
use Prim.Native.Nat.{ℕ, zero, suc, ◌+◌, ◌*◌, ◌%◌, ◌<◌}
use mathlib.Core.Path.{◌≡◌, refl, sym, ◌∙◌, subst}
use mathlib.Core.Bool.{Bool, true, false}
use mathlib.Core.List.{List, [], ◌∷◌}
use native.Mathlib.Omega.{arith}
use lib.Dec.{eqb}
use lib.ListN.{length, get_or}
use Rattle.counting.specs.Pick.{pick}
use Rattle.counting.specs.claims.Lists.{All}
use Rattle.counting.specs.Lists.{gather}
use Rattle.counting.proofs.Lists.{all_append, all_over}
use Rattle.manifold.specs.Shape.{Shape, single, double, fan, shape_of, many_of, triangle_of, triangles_of}
use Rattle.slots.specs.Limits.{most_cells}
use Rattle.cell.specs.declared.Cell.{Cell}
use Rattle.cell.specs.declared.Triangle.{Triangle}
use Rattle.cell.specs.declared.Corner.TheVariants.{Middle}
use Rattle.cell.specs.declared.Side.TheVariants.{Inner}
use Rattle.cell.specs.Cell.{crossings}
use Rattle.cell.specs.Of.{edges_of}
use Rattle.cell.specs.Loop.{loop_size, normal}
use Rattle.cell.specs.Triangles.{triangle, number_of, point, segment, loop_triangles, cell_triangles, asked_triangles, triangles_with}
use Rattle.split.specs.Limits.{word_step}
use Rattle.split.specs.Parts.{Part, whole, corners, own_corners, part_triangles, drawn_triangles, no_part, part_cell, drawn_parts}
use Rattle.split.specs.claims.Owned.{DrawnOwned}
use Rattle.split.proofs.GridLaws.{word_is}

-- what holds of each entry, from what does; and of each entry of joined lists
all_from : {A : Type 0} (P Q : A → Type 0) → ((x : A) → P x → Q x) → (l : List A) → All P l → All Q l
unfolding All
all_from P Q h [] a = tt
all_from P Q h (x ∷ l) a = (h x a.0, all_from P Q h l a.1)

all_gather : {A B : Type 0} (P : B → Type 0) (d : A) (f : A → List B) (l : List A) → ((x : ℕ) → x < length l → All P (f (get_or l x d))) → All P (gather f l)
unfolding All gather
all_gather P d f [] h = tt
all_gather P d f (y ∷ l) h = all_append P (f y) (gather f l) (h 0 (omega arith)) (all_gather P d f l (λ x k. h (suc x) (omega arith)))

-- what holds of each triangle that can be made holds of those of a loop
module _ {C S T : Type 0} (P : T → Type 0) (make : C → C → C → S → S → S → T) (every : (a b c : C) (r s t : S) → P (make a b c r s t))
    (point : ℕ → C) (centre : C) (segment inner : ℕ → S) (n : ℕ) where
  all_triangles : (sh : Shape) → All P (triangles_of make point centre segment inner n sh)
  unfolding All
  all_triangles sh = all_over P (λ k. triangle_of make point centre segment inner n sh k ∷ []) (many_of sh n) 0 (λ k a b. (go sh k, tt))
    where
      go : (sh : Shape) (k : ℕ) → P (triangle_of make point centre segment inner n sh k)
      go single k = every _ _ _ _ _ _
      go double zero = every _ _ _ _ _ _
      go double (suc k) = every _ _ _ _ _ _
      go fan k = every _ _ _ _ _ _

-- a triangle has word 0 of its cell or sub-cell
abbrev Of : ℕ → Triangle → Type 0
Of word t = t.cell ≡ word

loop-words : (c : Cell) (p : ℕ) → All (Of c.index) (loop_triangles c p)
unfolding loop_triangles triangle
loop-words c p =
    all_triangles (Of c.index) (triangle c.index (number_of c p)) (λ x y z r s t. refl) (point c p) Middle (segment c p) Inner (loop_size (edges_of c) p)
    (shape_of (loop_size (edges_of c) p) (normal (edges_of c) p))

part_words : (p : Part) → All (Of (part_cell p).index) (part_triangles p)
unfolding cell_triangles own_corners triangles_with asked_triangles All
part_words (whole c) = all_over (Of c.index) (loop_triangles c) (crossings (edges_of c)) 0 (λ p a b. loop-words c p)
part_words (corners c) =
    all_over (Of c.index) (λ p. pick (eqb (loop_size (edges_of c) p) 3) (loop_triangles c p) []) (crossings (edges_of c)) 0 (λ p a b. go (eqb (loop_size (edges_of c) p) 3) p)
  where
    go : (b : Bool) (p : ℕ) → All (Of c.index) (pick b (loop_triangles c p) [])
    go true p = loop-words c p
    go false p = tt

-- the triangles drawn of a cell are those of its drawn parts
pub drawn_gathered : (c : Cell) → drawn_triangles c ≡ gather part_triangles (drawn_parts c)
unfolding drawn_triangles
drawn_gathered c = refl

pub drawn_owned : DrawnOwned
drawn_owned c l =
    subst (All (λ t. t.cell % most_cells ≡ c.index)) (sym (drawn_gathered c))
    (all_gather (λ t. t.cell % most_cells ≡ c.index) no_part part_triangles (drawn_parts c)
    (λ x lx. all_from (Of (part_cell (get_or (drawn_parts c) x no_part)).index) (λ t. t.cell % most_cells ≡ c.index) (λ t e. low c.index x t.cell l (e ∙ word_is c x lx))
    (part_triangles (get_or (drawn_parts c) x no_part)) (part_words (get_or (drawn_parts c) x no_part))))
  where
    low : (i x w : ℕ) → i < most_cells → w ≡ i + word_step * x → w % most_cells ≡ i
    low i x w l e = omega arith
