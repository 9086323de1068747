-- The part of a cell that keeps the crossings that go draws the loops of length 3, and no other. Asked is only that rule 1 alone is met in the cell.
use Prim.Native.Nat.{ℕ, zero, suc, ◌*◌, ◌/◌, ◌<◌, min}
use mathlib.Core.Path.{◌≡◌, refl, sym, ap, ◌∙◌, subst}
use mathlib.Core.Logic.{◌≢◌, ⊎_elim}
use mathlib.Core.Bool.{Bool, true, false}
use mathlib.Core.List.{[], ◌∷◌, map}
use native.Mathlib.Omega.{arith}
use native.Mathlib.Nat.{eq-zero-or-pos}
use lib.Dec.{eqb}
use borrow.Author.Tests.{eqb-true, eqb-false, eq-eqb, le-ltb}
use Rattle.counting.specs.Pick.{pick}
use Rattle.counting.specs.Lists.{over, it}
use Rattle.counting.proofs.Range.{over_ext}
use Rattle.counting.proofs.Lists.{map_over}
use Rattle.walk.specs.Darts.{Loop, half, rev}
use Rattle.walk.specs.Step as walk
use Rattle.walk.specs.Walk.{Status, home, off, on, status, turn, size}
use Rattle.walk.proofs.Iterate.{it_suc}
use Rattle.walk.proofs.Curve.{loop_length, loop_next}
use Rattle.walk.proofs.Found.{turn_home, turn_off, turn_on}
use Rattle.walk.proofs.Rest.{rest-start, rest_end}
use Rattle.manifold.specs.Triangle.{Corner, cross, Side, seg}
use Rattle.manifold.specs.claims.Plain.{tri}
use Rattle.manifold.specs.claims.Polygon.{Polygon, shape, corner, segment, triangles}
use Rattle.manifold.specs.claims.Piece as pieces
use Rattle.manifold.specs.claims.Piece.{slot_of, mate_of, lower_of, onward, size_of}
use Rattle.cell.specs.declared.Cell.{Cell}
use Rattle.cell.specs.Cell.{Edges, crossings, step}
use Rattle.cell.specs.Of.{count_of, edges_of}
use Rattle.cell.specs.Loop.{loop_size, normal}
use Rattle.cell.specs.Triangles.{number_of, loop_triangles, asked_triangles, triangles_with}
use Rattle.cell.specs.Level.{is_level_cell}
use Rattle.cell.specs.claims.Polygons.{local_of, polygon_of, named}
use Rattle.cell.proofs.Mates.{darts}
use Rattle.cell.proofs.Polygons.{loop_named}
use Rattle.booking.specs.claims.Booking.{other_length}
use Rattle.booking.proofs.Numbers.{not_three}
use Rattle.booking.proofs.Closed as closed
use Rattle.booking.proofs.Corners.{is_in, loop-of, same_corner, size_is}
use Rattle.split.specs.Parts.{own_corners}
use Rattle.split.specs.claims.Five.{goes, own_piece}
use Rattle.split.specs.claims.Claims.{loop_in}

module _ (c : Cell) (K : is_level_cell (count_of c) ≡ true) where
  abbrev E : Edges
  E = edges_of c

  abbrev N : ℕ
  N = crossings (edges_of c)

  abbrev s : ℕ → ℕ
  s = step (edges_of c)

  abbrev t : ℕ → ℕ
  t = onward (own_piece c)

  -- a crossing goes exactly if it is in a corner triangle
  pub goes_is : (x : ℕ) → goes c x ≡ is_in E x
  unfolding goes
  goes_is x = refl

  -- the part's step: as in the cell where the crossing goes, and none where it stays
  step_goes : (d : ℕ) → goes c (d / 2) ≡ true → t d ≡ s d
  unfolding step walk.step walk.land walk.face
  step_goes d h = rw h

  step_stays : (d : ℕ) → goes c (d / 2) ≡ false → t d ≡ 2 * N
  unfolding walk.step walk.land walk.face
  step_stays d h = rw (h, le-ltb N N (omega arith))

  -- from a crossing that goes a step leads to one that goes
  goes_on : (d : ℕ) → d < 2 * N → goes c (d / 2) ≡ true → goes c (s d / 2) ≡ true
  goes_on d l h =
      let f : is_in E (d / 2) ≡ true = sym (goes_is (d / 2)) ∙ h in
      let L : Loop (2 * N) s d 3 = rw f at (loop-of E K d l) in
      go (is_in E (s d / 2)) refl
      (loop_length (2 * N) N s rev half (darts E) (loop_next (2 * N) N s rev half (darts E) L) (loop-of E K (s d) (closed.goes E K d l)))
    where
      go : (b : Bool) → is_in E (s d / 2) ≡ b → 3 ≡ pick (is_in E (s d / 2)) 3 (other_length (count_of c)) → goes c (s d / 2) ≡ true
      go true e q = goes_is (s d / 2) ∙ e
      go false e q = absurd (not_three (count_of c) (sym (q ∙ ap (λ b. pick b 3 (other_length (count_of c))) e)))

  pub record Gone (k d : ℕ) : Type 0 where
    pub same : it t k d ≡ it s k d
    pub goes_too : goes c (it s k d / 2) ≡ true
    pub live : it s k d < 2 * N

  gone : (k d : ℕ) → d < 2 * N → goes c (d / 2) ≡ true → Gone k d
  unfolding it
  gone zero d l h = record { same = refl; goes_too = h; live = l }
  gone (suc k) d l h =
      let G = gone k d l h in
      let e = it_suc s k d in
      record {
        same = it_suc t k d ∙ ap t G.same ∙ step_goes (it s k d) G.goes_too ∙ sym e;
        goes_too = subst (λ x. goes c (x / 2) ≡ true) (sym e) (goes_on (it s k d) G.live G.goes_too);
        live = subst (λ x. x < 2 * N) (sym e) (closed.goes E K (it s k d) G.live);
      }

  turn_same : (p n k d : ℕ) → d < 2 * N → goes c (d / 2) ≡ true → turn t (status (2 * N) p) n k d ≡ turn s (status (2 * N) p) n k d
  unfolding turn
  turn_same p zero k d l h = refl
  turn_same p (suc n) k d l h = go (turn_same p n (suc k) (s d) (closed.goes E K d l) (goes_on d l h)) (status (2 * N) p d) refl
    where
      go : turn t (status (2 * N) p) n (suc k) (s d) ≡ turn s (status (2 * N) p) n (suc k) (s d)
          → (x : Status) → status (2 * N) p d ≡ x → turn t (status (2 * N) p) (suc n) k d ≡ turn s (status (2 * N) p) (suc n) k d
      go ih home e = turn_home t (status (2 * N) p) n k d e ∙ sym (turn_home s (status (2 * N) p) n k d e)
      go ih off e = turn_off t (status (2 * N) p) n k d e ∙ sym (turn_off s (status (2 * N) p) n k d e)
      go ih on e =
          turn_on t (status (2 * N) p) n k d e ∙ ap (turn t (status (2 * N) p) n (suc k)) (step_goes d h) ∙ ih
          ∙ sym (turn_on s (status (2 * N) p) n k d e)

  module _ (p : ℕ) (l : p < N) where
    at_p : 2 * p / 2 ≡ p
    at_p = omega arith

    first_goes : goes c p ≡ true → goes c (2 * p / 2) ≡ true
    first_goes h = subst (λ x. goes c x ≡ true) (sym at_p) h

    -- the loop from p: of length 3 where p goes and is its least crossing, else none
    size_goes : goes c p ≡ true → size_of (own_piece c) p ≡ loop_size E p
    unfolding size loop_size
    size_goes h =
        let g = first_goes h in
        ap (turn t (status (2 * N) p) N 1) (step_goes (2 * p) g)
        ∙ turn_same p N 1 (s (2 * p)) (closed.goes E K (2 * p) (omega arith)) (goes_on (2 * p) (omega arith) g)

    size_stays : goes c p ≡ false → size_of (own_piece c) p ≡ 0
    size_stays h =
        rest-start N t p (t (2 * p)) refl ∙ rest_end N t p 1 (t (2 * p)) (omega arith) (omega (arith, step_stays (2 * p) (subst (λ x. goes c x ≡ false) (sym at_p) h)))

    three_goes : loop_size E p ≡ 3 → goes c p ≡ true
    unfolding it
    three_goes e = goes_is p ∙ sym (ap (is_in E) at_p) ∙ same_corner E K p l (omega arith) 0 (omega arith) ∙ eq-eqb (loop_size E p) 3 e

    pub size_three : loop_size E p ≡ 3 → size_of (own_piece c) p ≡ 3
    size_three e = size_goes (three_goes e) ∙ e

    pub size_none : loop_size E p ≢ 3 → size_of (own_piece c) p ≡ 0
    size_none ne = go (goes c p) refl
      where
        go : (b : Bool) → goes c p ≡ b → size_of (own_piece c) p ≡ 0
        go false e = size_stays e
        go true e =
            size_goes e
            ∙ ⊎_elim (λ (z : loop_size E p ≡ 0). z)
            (λ (z : 0 < loop_size E p). absurd (ne (size_is E K p l z ∙ ap (λ b. pick b 3 (other_length (count_of c))) (sym (goes_is p) ∙ e))))
            (eq-zero-or-pos (loop_size E p))

-- the triangles of a loop of three, and of none
three_triangle : (G : Polygon) → G.n ≡ 3 → triangles G ≡ tri (corner G 0) (corner G 1) (corner G 2) (segment G 0) (segment G 1) (segment G 2) ∷ []
unfolding triangles shape over
three_triangle G e = rw e

none_triangle : (G : Polygon) → G.n ≡ 0 → triangles G ≡ []
unfolding triangles shape over
none_triangle G e = rw e

tri_same : (x y z x' y' z' : Corner) (r q o r' q' o' : Side) → x ≡ x' → y ≡ y' → z ≡ z' → r ≡ r' → q ≡ q' → o ≡ o' → tri x y z r q o ∷ [] ≡ tri x' y' z' r' q' o' ∷ []
tri_same x y z x' y' z' r q o r' q' o' a b c d e f = cc

module _ (c : Cell) (K : is_level_cell (count_of c) ≡ true) where
  abbrev drawn_loop : ℕ → Polygon
  drawn_loop = loop_in (own_piece c) c.index (normal (edges_of c))

  -- a loop of length 3 is drawn as in the cell
  module _ (p : ℕ) (l : p < crossings (edges_of c)) (e : loop_size (edges_of c) p ≡ 3) where
    at_dart : (k : ℕ) → Gone c K k (2 * p)
    at_dart k = gone c K k (2 * p) (omega arith) (first_goes c K p l (three_goes c K p l e))

    dart_same : (k : ℕ) → pieces.dart (own_piece c) p k ≡ pieces.dart (local_of c) p k
    unfolding step
    dart_same k = (at_dart k).same

    point_same : (k : ℕ) → corner (drawn_loop p) k ≡ corner (polygon_of c p) k
    point_same k = ap (λ d. cross (number_of c (d / 2))) (dart_same k)

    mate_same : (k : ℕ) → mate_of (own_piece c) (pieces.dart (local_of c) p k) ≡ mate_of (local_of c) (pieces.dart (local_of c) p k)
    unfolding step walk.face
    mate_same k = let h = (at_dart k).goes_too in rw h

    side_same : (k : ℕ) → segment (drawn_loop p) k ≡ segment (polygon_of c p) k
    unfolding walk.face
    side_same k =
        ap (λ d. seg ((own_piece c).name (slot_of (own_piece c) d)) (lower_of (own_piece c) d)) (dart_same k)
        ∙ ap (λ x. seg ((local_of c).name (slot_of (local_of c) (pieces.dart (local_of c) p k))) (min (number_of c (pieces.dart (local_of c) p k / 2)) (number_of c x))) (mate_same k)

    loop_same : triangles (polygon_of c p) ≡ triangles (drawn_loop p)
    unfolding loop_size step
    loop_same =
        three_triangle (polygon_of c p) e
        ∙ tri_same _ _ _ _ _ _ _ _ _ _ _ _ (sym (point_same 0)) (sym (point_same 1)) (sym (point_same 2)) (sym (side_same 0)) (sym (side_same 1)) (sym (side_same 2))
        ∙ sym (three_triangle (drawn_loop p) (size_three c K p l e))

  loop_drawn : (p : ℕ) → p < crossings (edges_of c) → map named (pick (eqb (loop_size (edges_of c) p) 3) (loop_triangles c p) []) ≡ triangles (drawn_loop p)
  loop_drawn p l = go (eqb (loop_size (edges_of c) p) 3) refl
    where
      go : (b : Bool) → eqb (loop_size (edges_of c) p) 3 ≡ b → map named (pick b (loop_triangles c p) []) ≡ triangles (drawn_loop p)
      go true e = loop_named c p ∙ loop_same p l (eqb-true (loop_size (edges_of c) p) 3 e)
      go false e = sym (none_triangle (drawn_loop p) (size_none c K p l (eqb-false (loop_size (edges_of c) p) 3 e)))

  pub own_named : map named (own_corners c) ≡ over (λ p. triangles (drawn_loop p)) (crossings (edges_of c)) 0
  unfolding own_corners triangles_with asked_triangles
  own_named =
      map_over named (λ p. pick (eqb (loop_size (edges_of c) p) 3) (loop_triangles c p) []) (crossings (edges_of c)) 0
      ∙ over_ext (λ p. map named (pick (eqb (loop_size (edges_of c) p) 3) (loop_triangles c p) [])) (λ p. triangles (drawn_loop p)) (crossings (edges_of c)) 0 (λ p a h. loop_drawn p (omega arith))
