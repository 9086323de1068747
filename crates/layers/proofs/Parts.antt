-- The parts of a renamed cell are the renamed parts, and its triangles the renamed triangles.
use Prim.Native.Nat.{ℕ, zero, suc, ◌+◌, ◌*◌, ◌≤◌, ◌<◌}
use mathlib.Core.Path.{◌≡◌, refl, sym, ap, ap₂, ◌∙◌, subst}
use mathlib.Core.Bool.{Bool, true, false, ◌&&◌}
use mathlib.Core.List.{List, [], ◌∷◌, ◌++◌, map, map-append}
use native.Mathlib.Omega.{arith}
use lib.Dec.{eqb}
use Rattle.counting.specs.Pick.{pick}
use Rattle.counting.specs.Lists.{over, gather}
use Rattle.counting.proofs.Bools.{and_left}
use Rattle.counting.proofs.Lists.{gather_over}
use Rattle.counting.proofs.Range.{over_ext}
use Rattle.manifold.specs.Shape.{fan, shape_by, triangle_of, triangles_of}
use Rattle.cell.specs.declared.Cell.{Cell}
use Rattle.cell.specs.declared.Side.{Side}
use Rattle.cell.specs.declared.Side.TheVariants.{Segment, Inner}
use Rattle.cell.specs.declared.Corner.TheVariants.{Middle}
use Rattle.cell.specs.declared.Triangle.{Triangle}
use Rattle.cell.specs.Cell.{crossings}
use Rattle.cell.specs.Of.{count_of, edges_of}
use Rattle.cell.specs.Level.{is_level_cell}
use Rattle.cell.specs.Loop.{loop_size, normal}
use Rattle.cell.specs.Triangles.{triangle, number_of, segment_of, point, segment, loop_triangles, cell_triangles, asked_triangles, triangles_with}
use Rattle.cell.specs.Renaming.{Renaming, renamed_side, renamed}
use Rattle.cell.specs.claims.Renaming.{RenamedCell}
use Rattle.cell.proofs.Renaming.{cells_renamed}
use Rattle.booking.specs.Booking.{larger, smaller, is_spiral, is_split}
use Rattle.split.specs.Limits.{first_inner_crossing, first_inner_face, word_step}
use Rattle.split.specs.SubCell.{sub}
use Rattle.split.specs.Parts.{Part, whole, corners, splits_within, parts, all_parts, own_corners, part_triangles, drawn_parts}
use Rattle.split.proofs.Labels.{spiral_is}
use Rattle.split.proofs.SubNumbers.{sub_cells}
use Rattle.split.proofs.Parts.{stop, more, drawn_whole, drawn_all}
use Rattle.split.proofs.Owners.{drawn_gathered}
use Rattle.layers.specs.Runs.{keep_inner}
use Rattle.layers.specs.claims.Renaming.{OuterNames, RenamedPart, RenamedParts, PartsRenamed, DrawnRenamed}
use Rattle.layers.proofs.Renaming.{Below, outer_cell, sub_below, sub_renamed}

renamed_append : (r : Renaming) (l m l' m' : List Part) → RenamedParts r l m → RenamedParts r l' m' → RenamedParts r (l ++ l') (m ++ m')
unfolding RenamedParts
renamed_append r [] [] l' m' h k = k
renamed_append r (a ∷ l) (b ∷ m) l' m' h k = (h.0, renamed_append r l m l' m' h.1 k)
renamed_append r [] (b ∷ m) l' m' h k = absurd h
renamed_append r (a ∷ l) [] l' m' h k = absurd h

pub last : (cell n b f : ℕ) (c : Cell) → parts 0 cell n b f c ≡ whole c ∷ []
unfolding parts
last cell n b f c = refl

module _ (r : Renaming) where
  parts-renamed : (fuel cell n b f : ℕ) (c d : Cell) → is_level_cell (count_of c) ≡ true → RenamedCell (keep_inner r) c d → Below b c → Below b d
      → first_inner_crossing ≤ b → first_inner_face ≤ f → cell < word_step
      → RenamedParts (keep_inner r) (parts fuel cell n b f c) (parts fuel (r.cell cell) n b f d)
  unfolding RenamedParts RenamedPart
  parts-renamed zero cell n b f c d K H u v hb hf hc = rw (last cell n b f c, last (r.cell cell) n b f d) (H, tt)
  parts-renamed (suc fuel) cell n b f c d K H u v hb hf hc =
      subst (λ l. RenamedParts (keep_inner r) (parts (suc fuel) cell n b f c) (parts (suc fuel) (r.cell cell) n b f (with l))) H.counts
      (go (is_spiral (count_of c)) refl
      (λ L h u v. parts-renamed fuel cell (n + 2) top (f + 6) (sub c b f (cell + word_step * (n + 2)) 2) (sub (with c.counts) b f (r.cell cell + word_step * (n + 2)) 2)
      L h u v (omega arith) (omega arith) hc))
    where
      -- d, with these counts
      with : List ℕ → Cell
      with l = record { counts = l; starts = d.starts; names = d.names; nodes = d.nodes; index = d.index }

      top : ℕ
      top = b + 2 * (larger (count_of c) + smaller (count_of c))

      here : RenamedCell (keep_inner r) c (with c.counts)
      here = record { counts = refl; index = H.index; names = H.names; starts = H.starts; order = H.order }

      under : Below b (with c.counts)
      under = subst (λ l. Below b (with l)) (sym H.counts) v

      go : (s : Bool) → is_spiral (count_of c) ≡ s
          → (is_level_cell (count_of (sub c b f (cell + word_step * (n + 2)) 2)) ≡ true
          → RenamedCell (keep_inner r) (sub c b f (cell + word_step * (n + 2)) 2) (sub (with c.counts) b f (r.cell cell + word_step * (n + 2)) 2)
          → Below top (sub c b f (cell + word_step * (n + 2)) 2) → Below top (sub (with c.counts) b f (r.cell cell + word_step * (n + 2)) 2)
          → RenamedParts (keep_inner r) (parts fuel cell (n + 2) top (f + 6) (sub c b f (cell + word_step * (n + 2)) 2))
          (parts fuel (r.cell cell) (n + 2) top (f + 6) (sub (with c.counts) b f (r.cell cell + word_step * (n + 2)) 2)))
          → RenamedParts (keep_inner r) (parts (suc fuel) cell n b f c) (parts (suc fuel) (r.cell cell) n b f (with c.counts))
      go false e i = rw (stop fuel cell n b f c e, stop fuel (r.cell cell) n b f (with c.counts) e) (here, tt)
      go true e i = rw (more fuel cell n b f c e, more fuel (r.cell cell) n b f (with c.counts) e) (
        here,
        (
          S 1 3 (omega arith),
          renamed_append (keep_inner r) (parts fuel cell (n + 2) top (f + 6) (sub c b f (cell + word_step * (n + 2)) 2))
              (parts fuel (r.cell cell) (n + 2) top (f + 6) (sub (with c.counts) b f (r.cell cell + word_step * (n + 2)) 2)) (ends cell c) (ends (r.cell cell) (with c.counts))
              (i (sub_cells c K some apart b f (cell + word_step * (n + 2))).omits_k.level (S 2 2 (omega arith)) under_c under_d)
              (after 3 1 (omega arith), (after 4 0 (omega arith), tt)),
        ),
      )
        where
          ends : ℕ → Cell → List Part
          ends cell c = whole (sub c b f (cell + word_step * (n + 3 + 4 * splits_within (count_of c))) 1) ∷ whole (sub c b f (cell + word_step * (n + 4 + 4 * splits_within (count_of c))) 0) ∷ []

          some : 0 < smaller (count_of c)
          some = (spiral_is (count_of c) e).0

          apart : smaller (count_of c) < larger (count_of c)
          apart = (spiral_is (count_of c) e).1

          S : (x m : ℕ) → m < 4 → RenamedCell (keep_inner r) (sub c b f (cell + word_step * (n + x)) m) (sub (with c.counts) b f (r.cell cell + word_step * (n + x)) m)
          S x m l = sub_renamed r c d.starts d.names d.nodes d.index K some apart b f m l here u under hb hf cell (n + x) hc

          after : (x m : ℕ) → m < 4 → RenamedCell (keep_inner r) (sub c b f (cell + word_step * (n + x + 4 * splits_within (count_of c))) m)
              (sub (with c.counts) b f (r.cell cell + word_step * (n + x + 4 * splits_within (count_of c))) m)
          after x m l = sub_renamed r c d.starts d.names d.nodes d.index K some apart b f m l here u under hb hf cell (n + x + 4 * splits_within (count_of c)) hc

          under_c : Below top (sub c b f (cell + word_step * (n + 2)) 2)
          under_c = sub_below r c d.starts d.names d.nodes d.index K some apart b f 2 (omega arith) (cell + word_step * (n + 2)) u

          under_d : Below top (sub (with c.counts) b f (r.cell cell + word_step * (n + 2)) 2)
          under_d = sub_below r (with c.counts) d.starts d.names d.nodes d.index K some apart b f 2 (omega arith) (r.cell cell + word_step * (n + 2)) under

  module _ (a b : Cell) (H : RenamedCell r a b) (A : OuterNames a) (B : OuterNames b) where
    outer : RenamedCell (keep_inner r) a b
    outer = outer_cell r a b H A

    all_renamed : is_split (count_of a) ≡ true → RenamedParts (keep_inner r) (all_parts a) (all_parts b)
    unfolding all_parts is_split
    all_renamed e =
        subst (λ i. RenamedParts (keep_inner r) (all_parts a) (parts (fuel b.counts) i 0 first_inner_crossing first_inner_face b)) H.index
        (subst (λ l. RenamedParts (keep_inner r) (all_parts a) (parts (fuel l) (r.cell a.index) 0 first_inner_crossing first_inner_face b)) H.counts
        (parts-renamed (fuel a.counts) a.index 0 first_inner_crossing first_inner_face a b (and_left (is_level_cell (count_of a)) _ e) outer A.below B.below (omega arith) (omega arith) A.index))
      where
        fuel : List ℕ → ℕ
        fuel l = larger (count_of (record { counts = l; starts = []; names = []; nodes = []; index = 0 })) + smaller (count_of (record { counts = l; starts = []; names = []; nodes = []; index = 0 }))

pub parts_renamed : PartsRenamed
unfolding RenamedParts RenamedPart
parts_renamed r a b H A B = go (is_split (count_of a)) refl
  where
    same : is_split (count_of a) ≡ is_split (count_of b)
    same = ap (λ l. is_split (count_of (record { counts = l; starts = []; names = []; nodes = []; index = 0 }))) H.counts

    go : (x : Bool) → is_split (count_of a) ≡ x → RenamedParts (keep_inner r) (drawn_parts a) (drawn_parts b)
    go true e = rw (drawn_all a e, drawn_all b (sym same ∙ e)) (all_renamed r a b H A B e)
    go false e = rw (drawn_whole a e, drawn_whole b (sym same ∙ e)) (outer r a b H A B, tt)

-- The own corner triangles of a cell are its triangles without an inner side.
is_segment : Side → Bool
is_segment (Segment f g) = true
is_segment (Inner k) = false

is_plain : Triangle → Bool
is_plain t = is_segment t.side0 && (is_segment t.side1 && is_segment t.side2)

plain : Triangle → List Triangle
plain t = pick (is_plain t) (t ∷ []) []

empty : {A : Type 0} (f : ℕ → List A) (n p : ℕ) → ((q : ℕ) → f q ≡ []) → over f n p ≡ []
unfolding over
empty f zero p h = refl
empty f (suc n) p h = ap₂ (λ l m. l ++ m) (h p) (empty f n (suc p) h)

module _ (c : Cell) where
  loop_plain : (p : ℕ) → gather plain (loop_triangles c p) ≡ pick (eqb (loop_size (edges_of c) p) 3) (loop_triangles c p) []
  unfolding loop_triangles gather over plain is_plain is_segment triangle segment segment_of
  loop_plain p = go (eqb (loop_size (edges_of c) p) 3) (eqb (loop_size (edges_of c) p) 4) (normal (edges_of c) p)
    where
      of : Bool → Bool → Bool → List Triangle
      of x y q = triangles_of (triangle c.index (number_of c p)) (point c p) Middle (segment c p) Inner (loop_size (edges_of c) p) (shape_by x y q)

      fanned : (n : ℕ) → (f : ℕ → Triangle) → ((k : ℕ) → is_plain (f k) ≡ false) → gather plain (over (λ k. f k ∷ []) n 0) ≡ []
      fanned n f h = gather_over plain (λ k. f k ∷ []) n 0 ∙ empty (λ k. gather plain (f k ∷ [])) n 0 (λ k. ap (λ x. pick x (f k ∷ []) [] ++ []) (h k))

      go : (x y q : Bool) → gather plain (of x y q) ≡ pick x (of x y q) []
      go true y q = refl
      go false true true = refl
      go false true false = fanned (loop_size (edges_of c) p) (triangle_of (triangle c.index (number_of c p)) (point c p) Middle (segment c p) Inner (loop_size (edges_of c) p) fan) (λ k. refl)
      go false false q = fanned (loop_size (edges_of c) p) (triangle_of (triangle c.index (number_of c p)) (point c p) Middle (segment c p) Inner (loop_size (edges_of c) p) fan) (λ k. refl)

  own_plain : own_corners c ≡ gather plain (cell_triangles c)
  unfolding own_corners triangles_with asked_triangles cell_triangles
  own_plain =
      sym (gather_over plain (loop_triangles c) (crossings (edges_of c)) 0
      ∙ over_ext (λ p. gather plain (loop_triangles c p)) (λ p. pick (eqb (loop_size (edges_of c) p) 3) (loop_triangles c p) []) (crossings (edges_of c)) 0 (λ p _ _. loop_plain p))

module _ (r : Renaming) where
  same_side : (s : Side) → is_segment (renamed_side r s) ≡ is_segment s
  unfolding is_segment
  same_side (Segment f g) = refl
  same_side (Inner k) = refl

  plain_renamed : (t : Triangle) → map (renamed r) (plain t) ≡ plain (renamed r t)
  unfolding plain is_plain
  plain_renamed t = go (is_plain t) ∙ ap (λ x. pick x (renamed r t ∷ []) []) (sym (ap₂ (λ x y. x && y) (same_side t.side0) (ap₂ (λ x y. x && y) (same_side t.side1) (same_side t.side2))))
    where
      go : (x : Bool) → map (renamed r) (pick x (t ∷ []) []) ≡ pick x (renamed r t ∷ []) []
      go true = refl
      go false = refl

  map_plain : (l : List Triangle) → map (renamed r) (gather plain l) ≡ gather plain (map (renamed r) l)
  unfolding gather
  map_plain [] = refl
  map_plain (t ∷ l) = map-append (renamed r) (plain t) (gather plain l) ∙ ap₂ (λ l m. l ++ m) (plain_renamed t) (map_plain l)

  -- the triangles of a renamed part, and of renamed parts
  part-triangles : (x y : Part) → RenamedPart r x y → map (renamed r) (part_triangles x) ≡ part_triangles y
  unfolding RenamedPart
  part-triangles (whole a) (whole b) H = cells_renamed r a b H
  part-triangles (corners a) (corners b) H = ap (map (renamed r)) (own_plain a) ∙ map_plain (cell_triangles a) ∙ ap (gather plain) (cells_renamed r a b H) ∙ sym (own_plain b)
  part-triangles (whole a) (corners b) H = absurd H
  part-triangles (corners a) (whole b) H = absurd H

  triangles : (l m : List Part) → RenamedParts r l m → map (renamed r) (gather part_triangles l) ≡ gather part_triangles m
  unfolding RenamedParts gather
  triangles [] [] h = refl
  triangles (x ∷ l) (y ∷ m) h = map-append (renamed r) (part_triangles x) (gather part_triangles l) ∙ ap₂ (λ l m. l ++ m) (part-triangles x y h.0) (triangles l m h.1)
  triangles [] (y ∷ m) h = absurd h
  triangles (x ∷ l) [] h = absurd h

pub drawn_renamed : DrawnRenamed
drawn_renamed r a b H A B =
    ap (map (renamed (keep_inner r))) (drawn_gathered a) ∙ triangles (keep_inner r) (drawn_parts a) (drawn_parts b) (parts_renamed r a b H A B) ∙ sym (drawn_gathered b)
