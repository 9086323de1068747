-- Demand 3 from what acceptance yields: the mesh of an accepted grid is that of the complex of all that is drawn of its cells. And what of it needs no premise
-- of the rings.
use Prim.Native.Nat.{ℕ, zero, suc, ◌+◌, ◌*◌, ◌/◌, ◌≤◌, ◌<◌}
use mathlib.Core.Path.{◌≡◌, refl, sym, ap, ap₂, ◌∙◌, subst}
use mathlib.Core.Logic.{◌⊎◌, inl, inr}
use mathlib.Core.Bool.{Bool, true, false, ◌||◌}
use native.Mathlib.Omega.{arith}
use mathlib.Core.List.{List, [], ◌∷◌, map}
use lib.ListN.{length, get_or, length-map}
use Rattle.counting.specs.Lists.{tally, pre}
use Rattle.counting.specs.claims.Lists.{All}
use Rattle.counting.specs.Pack.{row, col}
use Rattle.counting.proofs.Lists.{get_or_map, tally_map, map_over}
use Rattle.counting.proofs.Range.{over_ext}
use Rattle.counting.proofs.Pack.{row_lt, col_lt, unpack, pack_lt, row_pack, col_pack}
use Rattle.face.proofs.Claims.{face_laws}
use Rattle.cell.specs.Cell as cell
use Rattle.cell.specs.Of.{edges_of}
use Rattle.cell.specs.Loop.{loop_size, normal}
use Rattle.cell.proofs.Lay.{lay}
use Rattle.manifold.specs.claims.Plain as names
use Rattle.manifold.specs.Triangle.{Corner, Side, cross, middle, seg, inner, same}
use Rattle.manifold.specs.claims.Plain.{Tri, no_tri, nth}
use Rattle.manifold.specs.claims.Piece.{slot_of, segment_of, size_of}
use Rattle.manifold.specs.Shape.{fan, shape_of}
use Rattle.manifold.specs.claims.Polygon.{shape}
use Rattle.manifold.specs.claims.Complex as complex
use Rattle.manifold.specs.claims.Complex.{Complex, Joins, Lawful, Shut, Has}
use Rattle.manifold.specs.Ring.{RingIn}
use Rattle.manifold.specs.claims.Claims.{Manifold}
use Rattle.manifold.proofs.Claims.{manifold}
use Rattle.manifold.proofs.Faces.{faces_lawful, faces-shut, faces-linked}
use Rattle.manifold.proofs.Named.{ring_named}
use Rattle.cell.specs.declared.Triangle.{Triangle}
use Rattle.cell.specs.Names.{side_name_at}
use Rattle.cell.specs.claims.Polygons.{named}
use Rattle.grid.specs.Grid.{Grid, cell_count, count_of, start, crossings}
use Rattle.grid.specs.claims.Accepted.{Accepted}
use Rattle.answer.specs.Answer.{is_result, result_of}
use Rattle.grid.specs.Rows.{grid_answer}
use Rattle.grid.proofs.Claims.{accepted_is}
use Rattle.grid.proofs.Sound.{edge_numbers}
use Rattle.grid.proofs.Accepts.{acceptance_yields}
use Rattle.split.specs.Limits.{first_inner_crossing, first_inner_face}
use Rattle.split.specs.Parts.{Part, whole, drawn_triangles, no_part, part_cell, drawn_parts}
use Rattle.split.specs.claims.Claims.{part_local}
use Rattle.split.specs.Owned.{owned, owned_side}
use Rattle.split.specs.claims.Owned.{owned_tri, of_cell, part_count, part_at, grid_complex, GridLaws}
use Rattle.split.proofs.Grid.{owned_ge, ready_of}
use Rattle.split.proofs.Claims.{sides_counted, curves_counted, grid_split, grid_meshed, drawn_owned}
use Rattle.mesh.specs.Mesh.{grid_cell, mesh_triangles}
use Rattle.mesh.specs.Names.{cell_of, mesh_corner, mesh_side, has_mesh_side}
use Rattle.mesh.specs.claims.Claims.{IsInner, SidesInside}
use Rattle.mesh.specs.Demand.{none, NoneAlternate, face_count, inner_count, RingPremises, OneRing, InnerCrossing, MeshLaws, Demand3}
use Rattle.mesh.proofs.Complex.{w, en, cells_of, count-of, number-of, fit, faced}
use Rattle.mesh.proofs.Shut.{faces_shut, faces_linked}

-- a triangle by its names in the mesh
abbrev name_in : Triangle → Tri
name_in t = owned_tri (cell_of t) (named t)

corner-in : (t : Triangle) (i : ℕ) → names.corner_of (name_in t) i ≡ mesh_corner t i
corner-in t zero = refl
corner-in t (suc zero) = refl
corner-in t (suc (suc i)) = refl

side_in : (t : Triangle) (i : ℕ) → names.side_of (name_in t) i ≡ mesh_side t i
side_in t zero = refl
side_in t (suc zero) = refl
side_in t (suc (suc i)) = refl

-- a triangle has a side exactly where its names have it
has_named : (σ : Side) (t : Triangle) → names.has_side σ (name_in t) ≡ has_mesh_side σ t
unfolding has_mesh_side
has_named σ t = go (same σ (mesh_side t 0)) (same σ (mesh_side t 1)) (same σ (mesh_side t 2))
  where
    go : (x y z : Bool) → (x || y || z) ≡ (x || (y || z))
    go true y z = refl
    go false y z = refl

-- a map in two steps, where each entry goes the same way
map_two : {A B C : Type 0} (P : A → Type 0) (f : A → B) (g : B → C) (h : A → C) → ((x : A) → P x → h x ≡ g (f x)) → (l : List A) → All P l → map h l ≡ map g (map f l)
unfolding All
map_two P f g h e [] a = refl
map_two P f g h e (x ∷ l) a = ap₂ ◌∷◌ (e x a.0) (map_two P f g h e l a.1)

-- a segment by its face; and no inner side is one
face-of : {f g x y : ℕ} → seg f x ≡ seg g y → f ≡ g
face-of q = cc

no_segment : {a p k f x : ℕ} → inner a p k ≡ seg f x → ⊥
no_segment q = let z : ◌≡◌ {A = ℕ} 0 1 = cc in absurd (omega arith)

half_of : (x : ℕ) → 2 * x / 2 ≡ x
half_of x = omega arith

faces_apart : (ab ac bc : ℕ) → NoneAlternate ab ac bc
faces_apart ab ac bc = (face_laws ab ac bc).no_alternation

module _ (G : Grid) where
  index_of : (c : ℕ) → (grid_cell G c).index ≡ c
  unfolding grid_cell
  index_of c = refl

  module _ (A : Accepted G) where
    abbrev size : ℕ
    size = cell_count G.cells

    -- all that is drawn, as one complex
    abbrev K : Complex
    K = grid_complex (cell_count G.cells) (grid_cell G)

    -- word 0 tells the cell of a triangle
    cell_named : (c : ℕ) → c < cell_count G.cells → map name_in (drawn_triangles (grid_cell G c)) ≡ map (owned_tri c) (map named (drawn_triangles (grid_cell G c)))
    cell_named c l =
        map_two (λ t. cell_of t ≡ (grid_cell G c).index) named (owned_tri c) name_in (λ t e. ap (λ k. owned_tri k (named t)) (e ∙ index_of c)) (drawn_triangles (grid_cell G c))
        (drawn_owned (grid_cell G c) (omega (arith, index_of c, A.sound.few_cells)))

    mesh_named : map name_in (mesh_triangles G) ≡ complex.mesh (grid_complex (cell_count G.cells) (grid_cell G))
    unfolding mesh_triangles
    mesh_named =
        map_over name_in (λ c. drawn_triangles (grid_cell G c)) size 0
        ∙ over_ext (λ c. map name_in (drawn_triangles (grid_cell G c))) (λ c. map (owned_tri c) (map named (drawn_triangles (grid_cell G c)))) size 0 (λ c a b. cell_named c (omega arith))
        ∙ grid_meshed size (grid_cell G)

    -- a count of the complex's triangles is one of the mesh's
    tally_named : (σ : Side) → tally (names.has_side σ) (complex.mesh K) ≡ tally (has_mesh_side σ) (mesh_triangles G)
    tally_named σ =
        ap (tally (names.has_side σ)) (sym mesh_named) ∙ tally_map name_in (names.has_side σ) (mesh_triangles G)
        ∙ ap (λ f. tally f (mesh_triangles G)) (λ i t. has_named σ t i)

    ring_of : (g : Corner) → names.OneRing (complex.mesh K) g → OneRing G g
    ring_of g r =
        subst (λ f. RingIn none f mesh_side (mesh_triangles G) g) (λ k t i. corner-in t i k)
        (subst (λ f. RingIn none (λ t i. names.corner_of (name_in t) i) f (mesh_triangles G) g) (λ k t i. side_in t i k)
        (ring_named none name_in (mesh_triangles G) g (rw mesh_named r)))

    lawful : Lawful (cells_of G)
    lawful = faces_lawful (cells_of G) (faced G A.sound)

    laws : GridLaws (cell_count G.cells) (grid_cell G)
    laws = grid_split size (grid_cell G) A.sound.few_cells (fit G A.sound) (λ k l. index_of k)

    claims : Manifold (grid_complex (cell_count G.cells) (grid_cell G))
    claims = manifold K (laws.lawful lawful)

    closed : RingPremises G → Shut (grid_complex (cell_count G.cells) (grid_cell G))
    closed H = laws.shut lawful (faces-shut (cells_of G) (faced G A.sound) (faces_shut G A.sound H))

    -- each crossing number is that of a crossing of a cell
    has : RingPremises G → (g : ℕ) → g < crossings G.counts → (c : ℕ) × Has (cells_of G) g c
    unfolding start
    has H g l =
        let n = length G.counts in
        let e = row (count_of G.counts) n g in
        let i = col (count_of G.counts) n g in
        let (c, k, lc, lk, q) = (edge_numbers G A.sound).used e (row_lt (count_of G.counts) n g l) in
        let v = w G c in
        let li : i < v.count k = rw (count-of G A.sound c k lk, q) (col_lt (count_of G.counts) n g l) in
        let x = cell.number v k i in
        let lx : x < cell.crossings v = (lay v).number_lt k i lk li in (
          c,
          record {
            lt = lc;
            d = 2 * x;
            on = record { lt = omega arith; joined = (faces_shut G A.sound H).full c (2 * x) lc (omega arith) };
            is = ap ((cells_of G).at c).number (half_of x) ∙ number-of G c x lx
                ∙ ap₂ (λ a b. start G.counts (en G c a) + b) ((lay v).number_edge k i lk li) ((lay v).number_index k i lk li)
                ∙ ap (λ a. start G.counts a + i) q ∙ unpack (count_of G.counts) n g l;
          },
        )

    -- side i of triangle t in the complex, and how many triangles have it
    module _ (t : ℕ) (lt : t < length (mesh_triangles G)) (i : ℕ) where
      here : t < length (complex.mesh (grid_complex (cell_count G.cells) (grid_cell G)))
      here = rw (sym mesh_named, length-map) lt

      side-at : names.side_of (nth (complex.mesh (grid_complex (cell_count G.cells) (grid_cell G))) t) i ≡ mesh_side (get_or (mesh_triangles G) t none) i
      side-at =
          ap (λ l. names.side_of (nth l t) i) (sym mesh_named)
          ∙ ap (λ v. names.side_of v i) (get_or_map name_in none no_tri (mesh_triangles G) t lt) ∙ side_in (get_or (mesh_triangles G) t none) i

      counted : tally (names.has_side (names.side_of (nth (complex.mesh K) t) i)) (complex.mesh K) ≡ 2
          → tally (has_mesh_side (mesh_side (get_or (mesh_triangles G) t none) i)) (mesh_triangles G) ≡ 2
      counted e = sym (tally_named (mesh_side (get_or (mesh_triangles G) t none) i)) ∙ ap (λ σ. tally (names.has_side σ) (complex.mesh K)) (sym side-at) ∙ e

    -- each inner side and each segment of an inner face is in two triangles, whatever the counts
    pub twice : (t i : ℕ) → t < length (mesh_triangles G) → i < 3 → IsInner (side_name_at (get_or (mesh_triangles G) t none) i)
        → tally (has_mesh_side (mesh_side (get_or (mesh_triangles G) t none) i)) (mesh_triangles G) ≡ 2
    twice t i lt li h = counted t lt i (go (cell_of (get_or (mesh_triangles G) t none)) (side_name_at (get_or (mesh_triangles G) t none) i) h (side-at t lt i) (claims.sides t i (here t lt i) li))
      where
        go : (c : ℕ) (σ : Side) → IsInner σ → names.side_of (nth (complex.mesh K) t) i ≡ owned_side c σ
            → ((x : ℕ) × (d : ℕ) × (x < K.pieces) × Joins (K.at x) d × (names.side_of (nth (complex.mesh K) t) i ≡ segment_of (K.at x) d))
            ⊎ ((a : ℕ) × (p : ℕ) × (k : ℕ) × (names.side_of (nth (complex.mesh K) t) i ≡ inner a p k)
            × (tally (names.has_side (names.side_of (nth (complex.mesh K) t) i)) (complex.mesh K) ≡ 2))
            → tally (names.has_side (names.side_of (nth (complex.mesh K) t) i)) (complex.mesh K) ≡ 2
        go c σ h q (inr (a, p, k, e, n)) = n
        go c (seg f g) h q (inl (x, d, lx, on, e)) =
            let z : owned first_inner_face c f ≡ (K.at x).name (slot_of (K.at x) d) = face-of (sym q ∙ e) in
            ap (λ σ. tally (names.has_side σ) (complex.mesh K)) e ∙ laws.inner_two lawful x d lx on (omega (arith, z, owned_ge first_inner_face c f h))
        go c (inner a p k) h q (inl (x, d, lx, on, e)) = absurd (no_segment (sym q ∙ e))

    -- each side of each triangle, under the premises
    two : RingPremises G → (t i : ℕ) → t < length (mesh_triangles G) → i < 3
        → tally (has_mesh_side (mesh_side (get_or (mesh_triangles G) t none) i)) (mesh_triangles G) ≡ 2
    two H t i lt li = counted t lt i (claims.two (closed H) t i (here t lt i) li)

    -- one ring at a crossing, outer or inner
    ring : RingPremises G → (g : ℕ) → g < crossings G.counts → OneRing G (cross g)
    ring H g l =
        let (c, h) = has H g l in
        let (x, u) = laws.outer_has g c h in
        ring_of (cross g) (claims.ring (closed H) g x u (laws.linked lawful g (faces-linked (cells_of G) (faced G A.sound) (faces_shut G A.sound H) g (faces_linked G A.sound H A.linked g))))

    ring_inside : RingPremises G → (c g : ℕ) → InnerCrossing G c g → OneRing G (cross (owned first_inner_crossing c g))
    ring_inside H c g I =
        let (x, u) = laws.inner_has c g I.cell_lt I.is-split I.from I.below in
        let h = owned first_inner_crossing c g in
        ring_of (cross h) (claims.ring (closed H) h x u (laws.inner_linked lawful h (owned_ge first_inner_crossing c g I.from)))

    -- what holds of each piece of the complex, by its cell and its part, holds of each part of each cell
    at_part : (P : ℕ → Part → Type 0) → ((x : ℕ) → x < K.pieces → P (row (part_count size (grid_cell G)) size x) (part_at size (grid_cell G) x))
        → (c j : ℕ) → c < cell_count G.cells → j < length (drawn_parts (grid_cell G c)) → P c (get_or (drawn_parts (grid_cell G c)) j no_part)
    at_part P all c j lc lj =
        let m = part_count size (grid_cell G) in
        subst (λ k. P k (get_or (drawn_parts (grid_cell G k)) j no_part)) (row_pack m size c j lc lj)
        (subst (λ i. P (row m size (pre m c + j)) (get_or (drawn_parts (grid_cell G (row m size (pre m c + j)))) i no_part)) (col_pack m size c j lc lj)
        (all (pre m c + j) (pack_lt m size c j lc lj)))

    -- one ring at the middle of a fan of the part v of cell c
    abbrev Round : ℕ → ℕ → Part → Type 0
    Round p c v = p < (part_local v).N → 0 < size_of (of_cell c (part_local v)) p → shape_of (size_of (of_cell c (part_local v)) p) (normal (edges_of (part_cell v)) p) ≡ fan
        → names.OneRing (complex.mesh (grid_complex (cell_count G.cells) (grid_cell G))) (middle (part_cell v).index (owned first_inner_crossing c ((part_local v).number p)))

    ring_middle : RingPremises G → (c j p : ℕ) → c < cell_count G.cells → j < length (drawn_parts (grid_cell G c)) → Round p c (get_or (drawn_parts (grid_cell G c)) j no_part)
    unfolding shape
    ring_middle H c j p lc lj = at_part (Round p) (λ x l a s e. claims.round (closed H) x p l a s e) c j lc lj

    -- a segment of an inner face, of the part v of cell c, is in two triangles
    abbrev Twice : ℕ → ℕ → Part → Type 0
    Twice d c v = Joins (of_cell c (part_local v)) d → first_inner_face ≤ (of_cell c (part_local v)).name (slot_of (of_cell c (part_local v)) d)
        → tally (has_mesh_side (segment_of (of_cell c (part_local v)) d)) (mesh_triangles G) ≡ 2

    pub none_out : (c j d : ℕ) → c < cell_count G.cells → j < length (drawn_parts (grid_cell G c)) → Twice d c (get_or (drawn_parts (grid_cell G c)) j no_part)
    none_out c j d lc lj = at_part (Twice d) (λ x l on h. sym (tally_named (segment_of (K.at x) d)) ∙ laws.inner_two lawful x d l on h) c j lc lj

    pub accepted_laws : MeshLaws G (crossings G.counts)
    unfolding loop_size cell.step
    accepted_laws = record {
      no_alternation = λ c s lc ls. faces_apart (face_count G c s 0) (face_count G c s 1) (face_count G c s 2);
      none_inside = λ c x s lc lx ls. faces_apart (inner_count G c x s 0) (inner_count G c x s 1) (inner_count G c x s 2);
      at_most_two = λ σ. rw (sym (tally_named σ)) (claims.most σ);
      exactly_two = two;
      ring_at_crossing = ring;
      ring_inside = ring_inside;
      ring_at_middle = λ H c x b p F.
          ring_of (middle b.index (owned first_inner_crossing c ((part_local (whole b)).number p)))
          (subst (Round p c) F.part_is (ring_middle H c x p F.cell_lt F.part_lt) F.start_lt F.some F.is);
    }

-- the answer of an accepted grid is its number of crossings
total_is : (G : Grid) (total : ℕ) → grid_answer G ≡ result_of (total ∷ []) → crossings G.counts ≡ total
total_is G total e = let f = accepted_is G (ap is_result e) in cc

pub demand3 : Demand3
demand3 G total e =
    subst (MeshLaws G) (total_is G total e)
    (accepted_laws G (acceptance_yields G (total ∷ []) e))

pub sides_inside : SidesInside
sides_inside G total e =
    let A = acceptance_yields G (total ∷ []) e in
    record {
      curves = λ c l. curves_counted (grid_cell G c) (fit G A.sound c l);
      one = λ c l q. sides_counted (grid_cell G c) q (ready_of (grid_cell G c) (fit G A.sound c l) q);
      two = twice G A;
      each = λ c x d lc lx on h. none_out G A c x d lc lx on h;
    }
