-- The mesh of the complex of all drawn parts is the triangles drawn of all cells.
use Prim.Native.Nat.{ℕ, zero, suc, ◌+◌, ◌<◌}
use mathlib.Core.Path.{◌≡◌, refl, sym, ap, ◌∙◌}
use mathlib.Core.Bool.{Bool, true, false}
use mathlib.Core.List.{List, [], ◌∷◌, map}
use native.Mathlib.Omega.{arith}
use lib.ListN.{length, get_or}
use Rattle.counting.specs.Lists.{over, gather}
use Rattle.counting.proofs.Range.{over_ext}
use Rattle.counting.proofs.Lists.{map_over}
use Rattle.counting.proofs.Rows.{over_rows}
use Rattle.walk.specs.Step.{face}
use Rattle.manifold.specs.Triangle.{seg}
use Rattle.manifold.specs.claims.Plain.{Tri, tri}
use Rattle.manifold.specs.claims.Polygon.{shape, triangles, corner, centre, segment, inner_side}
use Rattle.manifold.specs.claims.Piece.{Local, slot_of, mate_of, dart, size_of}
use Rattle.manifold.specs.claims.Complex.{loop_of, mesh}
use Rattle.manifold.proofs.Polygon.{fits}
use Rattle.manifold.proofs.Shapes.{map_triangles, triangles_ext}
use Rattle.walk.specs.Darts.{half}
use Rattle.cell.specs.declared.Cell.{Cell}
use Rattle.cell.specs.Of.{count_of, edges_of}
use Rattle.cell.specs.Loop.{normal}
use Rattle.cell.specs.Triangles.{cell_triangles}
use Rattle.cell.specs.claims.Polygons.{named}
use Rattle.booking.specs.Booking.{larger, smaller, is_split}
use Rattle.split.specs.Limits.{first_inner_crossing, first_inner_face}
use Rattle.split.specs.Parts.{whole, all_parts, part_triangles, drawn_triangles, no_part, part_cell, drawn_parts}
use Rattle.split.specs.claims.Claims.{part_local, parts_complex, loop_in, LevelCorners}
use Rattle.split.specs.Owned.{owned, owned_corner, owned_side}
use Rattle.split.specs.claims.Owned.{owned_tri, of_cell, part_count, owned_part, GridMeshed}
use Rattle.split.proofs.Lengths.{split_is, drawn_not, whole_alone, drawn_is}
use Rattle.split.proofs.Parts.{parts_numbered, drawn_whole, drawn_all}
use Rattle.split.proofs.Meshed.{level_corners, parts_meshed}
use Rattle.split.proofs.Owned.{rises_min}
use Rattle.split.proofs.Grid.{owned_rises}

-- the triangles of a loop with the names of its cell
loop_owned : (k : ℕ) (A : Local) (tag : ℕ) (normal : ℕ → Bool) (p : ℕ) → map (owned_tri k) (triangles (loop_in A tag normal p)) ≡ triangles (loop_in (of_cell k A) tag normal p)
unfolding triangles shape face
loop_owned k A tag normal p =
    map_triangles tri (corner (loop_in A tag normal p)) (centre (loop_in A tag normal p)) (segment (loop_in A tag normal p)) (inner_side (loop_in A tag normal p)) (size_of A p)
    (owned_tri k) (owned_corner k) (owned_side k) tri (λ a b c r s t. refl) (shape (loop_in A tag normal p))
    ∙ triangles_ext tri (λ i. owned_corner k (corner (loop_in A tag normal p) i)) (owned_corner k (centre (loop_in A tag normal p)))
    (λ i. owned_side k (segment (loop_in A tag normal p) i)) (λ i. owned_side k (inner_side (loop_in A tag normal p) i)) (size_of A p)
    tri (corner (loop_in (of_cell k A) tag normal p)) (segment (loop_in (of_cell k A) tag normal p)) (λ h. refl) (λ i l. refl)
    (λ i l. ap (seg (owned first_inner_face k (A.name (slot_of A (dart A p i)))))
    (sym (rises_min (owned first_inner_crossing k) (owned_rises first_inner_crossing k) (A.number (half (dart A p i))) (A.number (mate_of A (dart A p i))))))
    (shape (loop_in A tag normal p)) (fits (loop_in A tag normal p))

-- the triangles drawn of a cell are those of its parts
pub drawn_mesh : (c : Cell) → map named (drawn_triangles c) ≡ mesh (parts_complex (drawn_parts c))
unfolding all_parts
drawn_mesh c = go (is_split (count_of c)) refl
  where
    one : gather part_triangles (whole c ∷ []) ≡ cell_triangles c
    one = whole_alone c

    here : (x : ℕ) → x < 1 → LevelCorners (get_or (whole c ∷ []) x no_part)
    here zero h = tt
    here (suc x) h = absurd (omega arith)

    go : (s : Bool) → is_split (count_of c) ≡ s → map named (drawn_triangles c) ≡ mesh (parts_complex (drawn_parts c))
    go false e = ap (map named) (drawn_not c e ∙ sym one) ∙ parts_meshed (whole c ∷ []) here ∙ ap (λ l. mesh (parts_complex l)) (sym (drawn_whole c e))
    go true e =
        let S = split_is (count_of c) e in
        ap (map named) (drawn_is c e)
        ∙ parts_meshed (all_parts c)
        (λ x l. level_corners (get_or (all_parts c) x no_part)
        ((parts_numbered (larger (count_of c) + smaller (count_of c)) c.index 0 first_inner_crossing first_inner_face c S.level (omega arith) (omega arith)).levels x l))
        ∙ ap (λ l. mesh (parts_complex l)) (sym (drawn_all c e))

-- cell by cell
cell_owned : (k : ℕ) (c : Cell)
    → map (owned_tri k) (map named (drawn_triangles c))
    ≡ over (λ j. over (λ p. triangles (loop_in (of_cell k (part_local (get_or (drawn_parts c) j no_part))) (part_cell (get_or (drawn_parts c) j no_part)).index
    (normal (edges_of (part_cell (get_or (drawn_parts c) j no_part)))) p)) (part_local (get_or (drawn_parts c) j no_part)).N 0) (length (drawn_parts c)) 0
unfolding mesh
cell_owned k c =
    let G = parts_complex (drawn_parts c) in
    ap (map (owned_tri k)) (drawn_mesh c)
    ∙ map_over (owned_tri k) (λ j. over (λ p. triangles (loop_of (parts_complex (drawn_parts c)) j p)) ((parts_complex (drawn_parts c)).at j).N 0) (length (drawn_parts c)) 0
    ∙ over_ext (λ j. map (owned_tri k) (over (λ p. triangles (loop_of (parts_complex (drawn_parts c)) j p)) ((parts_complex (drawn_parts c)).at j).N 0)) _ (length (drawn_parts c)) 0
    (λ j a b.
    map_over (owned_tri k) (λ p. triangles (loop_of (parts_complex (drawn_parts c)) j p)) ((parts_complex (drawn_parts c)).at j).N 0
    ∙ over_ext (λ p. map (owned_tri k) (triangles (loop_of (parts_complex (drawn_parts c)) j p))) _ ((parts_complex (drawn_parts c)).at j).N 0
    (λ p u v. loop_owned k (part_local (get_or (drawn_parts c) j no_part)) (part_cell (get_or (drawn_parts c) j no_part)).index (normal (edges_of (part_cell (get_or (drawn_parts c) j no_part)))) p))

pub grid_meshed : GridMeshed
unfolding mesh
grid_meshed size cells =
    over_ext (λ k. map (owned_tri k) (map named (drawn_triangles (cells k)))) (λ k. over (F k) (part_count size cells k) 0) size 0 (λ k a b. cell_owned k (cells k))
    ∙ sym (over_rows (part_count size cells) size F size (omega arith))
  where
    F : ℕ → ℕ → List Tri
    F k j =
        over (λ p. triangles (loop_in (owned_part size cells k j) (part_cell (get_or (drawn_parts (cells k)) j no_part)).index
        (normal (edges_of (part_cell (get_or (drawn_parts (cells k)) j no_part)))) p)) (part_local (get_or (drawn_parts (cells k)) j no_part)).N 0
