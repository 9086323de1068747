-- The cells of a grid, each refined by its drawn parts, with inner crossings and faces told apart by their cells.
use Prim.Native.Nat.{ℕ, ◌+◌, ◌-◌, ◌*◌, ◌≤◌, ◌<◌}
use mathlib.Core.Path.{◌≡◌, refl, sym, ap, ap₂, ◌∙◌, subst}
use mathlib.Core.Bool.{Bool, true, false}
use native.Mathlib.Omega.{arith}
use native.Mathlib.Decide.{dec_lt}
use lib.ListN.{length, get_or}
use borrow.Author.Tests.{lt-ltb, le-ltb}
use Rattle.walk.specs.Darts.{half}
use Rattle.manifold.specs.claims.Piece.{Piece}
use Rattle.slots.specs.Limits.{most_cells}
use Rattle.cell.specs.declared.Cell.{Cell}
use Rattle.cell.specs.Cell.{crossings, edge, index, number}
use Rattle.cell.specs.Of.{count_of, start_of, edges_of}
use Rattle.cell.specs.Loop.{in_grid}
use Rattle.cell.specs.Triangles.{number_of}
use Rattle.cell.specs.claims.Polygons.{local_of}
use Rattle.cell.proofs.Lay.{lay}
use Rattle.cell.proofs.Polygons as polygons
use Rattle.booking.specs.Booking.{larger, smaller, is_split}
use Rattle.split.specs.Limits.{first_inner_crossing, first_inner_face}
use Rattle.split.specs.Parts.{all_parts, no_part, drawn_parts}
use Rattle.split.specs.claims.Five.{name_of, FirmBelow}
use Rattle.split.specs.claims.Claims.{part_local, RefinedBy}
use Rattle.split.specs.Owned.{owned}
use Rattle.split.specs.claims.Owned.{Fit, CellsRefined}
use Rattle.split.proofs.Lengths.{split_is}
use Rattle.split.proofs.Parts.{drawn_whole, drawn_all}
use Rattle.split.proofs.Whole.{leaf, parts_refine}
use Rattle.split.proofs.Owned.{Rises, refines_renamed}

-- numbers with their cells
module _ (first : ℕ) where
  pub owned_outer : (cell g : ℕ) → g < first → owned first cell g ≡ g
  unfolding owned
  owned_outer cell g h = rw (lt-ltb g first h)

  pub owned_inner : (cell g : ℕ) → first ≤ g → owned first cell g ≡ first + (g - first) * most_cells + cell
  unfolding owned
  owned_inner cell g h = rw (le-ltb g first h)

  pub owned_ge : (cell g : ℕ) → first ≤ g → first ≤ owned first cell g
  owned_ge cell g h = omega (arith, owned_inner cell g h)

  pub owned_rises : (cell : ℕ) → Rises (owned first cell)
  owned_rises cell x y h =
      elim (dec_lt x first) [
        | yes a ↦ elim (dec_lt y first) [
          | yes b ↦ omega (arith, owned_outer cell x a, owned_outer cell y b)
          | no b ↦ omega (arith, owned_outer cell x a, owned_inner cell y (omega arith))
        ]
        | no a ↦ omega (arith, owned_inner cell x (omega arith), owned_inner cell y (omega arith))
      ]

  pub owned_cell : (c b x y : ℕ) → c < most_cells → b < most_cells → first ≤ x → first ≤ y → owned first c x ≡ owned first b y → c ≡ b
  owned_cell c b x y lc lb hx hy e = omega (arith, owned_inner c x hx, owned_inner b y hy, e)

module _ (c : Cell) (T : Fit c) where
  pub number_below : (x : ℕ) → x < crossings (edges_of c) → number_of c x < first_inner_crossing
  unfolding number_of in_grid
  number_below x l = T.below (edge (edges_of c) x) (index (edges_of c) x) ((lay (edges_of c)).edge_lt x l) ((lay (edges_of c)).index_lt x l)

  pub piece_of : Piece (local_of c)
  unfolding number_of in_grid
  piece_of = polygons.piece c (record {
    numbers = λ x y lx ly q.
        let a : edge (edges_of c) x ≡ edge (edges_of c) y = T.separate (edge (edges_of c) x) (edge (edges_of c) y) (index (edges_of c) x) (index (edges_of c) y)
        ((lay (edges_of c)).edge_lt x lx) ((lay (edges_of c)).edge_lt y ly) ((lay (edges_of c)).index_lt x lx) ((lay (edges_of c)).index_lt y ly) q in
        let b : index (edges_of c) x ≡ index (edges_of c) y = omega (arith, q, ap (start_of c) a) in
        sym ((lay (edges_of c)).back x lx) ∙ ap₂ (number (edges_of c)) a b ∙ (lay (edges_of c)).back y ly;
    names = T.names;
  })

  pub ready_of : is_split (count_of c) ≡ true → FirmBelow c first_inner_crossing first_inner_face
  ready_of e = record { firm = record { level = (split_is (count_of c) e).level; separate = T.separate; names = T.names }; below = T.below; under = T.under }

  -- the drawn parts of the cell refine it
  cell_refined : RefinedBy c first_inner_crossing first_inner_face (drawn_parts c)
  unfolding all_parts
  cell_refined = go (is_split (count_of c)) refl
    where
      go : (s : Bool) → is_split (count_of c) ≡ s → RefinedBy c first_inner_crossing first_inner_face (drawn_parts c)
      go false e = subst (RefinedBy c first_inner_crossing first_inner_face) (sym (drawn_whole c e)) (leaf c first_inner_crossing first_inner_face piece_of T.under)
      go true e =
          subst (RefinedBy c first_inner_crossing first_inner_face) (sym (drawn_all c e))
          (parts_refine (larger (count_of c) + smaller (count_of c)) c.index 0 first_inner_crossing first_inner_face c (ready_of e) (omega arith))

pub cells_refined : CellsRefined
cells_refined size cells few T = record {
  parts = λ k lk. refines_renamed (owned first_inner_crossing k) (owned first_inner_face k) (owned_rises first_inner_crossing k) (owned_rises first_inner_face k)
      (local_of (cells k)) (length (drawn_parts (cells k))) (λ j. part_local (get_or (drawn_parts (cells k)) j no_part)) (λ x. first_inner_face ≤ x) (λ g. first_inner_crossing ≤ g)
      (piece_of (cells k) (T k lk)) (cell_refined (cells k) (T k lk))
      (λ x l. owned_outer first_inner_crossing k (number_of (cells k) x) (number_below (cells k) (T k lk) x l))
      (λ s ls. owned_outer first_inner_face k (name_of (cells k) s) ((T k lk).under s ls));
  faces = λ c b f lc lb u v. owned_cell first_inner_face c b u.0 v.0 (omega arith) (omega arith) u.1 v.1 (sym u.2 ∙ v.2);
  inner = λ c b s lc lb ls u. omega (arith, owned_ge first_inner_face c u.0 u.1, u.2, (T b lb).under s ls);
  points = λ c b g lc lb u v. owned_cell first_inner_crossing c b u.0 v.0 (omega arith) (omega arith) u.1 v.1 (sym u.2 ∙ v.2);
  apart = λ c b g lc lb u v.
      let l = v.on.lt in
      omega (arith, owned_ge first_inner_crossing c u.0 u.1, u.2, v.is, number_below (cells b) (T b lb) (half v.d) (omega arith));
}
