-- No face of a drawn triangle goes by the word that stands for none.
use Prim.Native.Nat.{ℕ, zero, suc, ◌+◌, ◌*◌, ◌≤◌, ◌<◌}
use mathlib.Core.Path.{◌≡◌, refl, sym, subst}
use mathlib.Core.Bool.{Bool, true, false, ◌&&◌}
use mathlib.Core.List.{List, [], ◌∷◌}
use native.Mathlib.Omega.{arith}
use lib.Dec.{eqb, ltb}
use lib.ListN.{get_or}
use Rattle.counting.specs.Pick.{pick}
use Rattle.counting.specs.Lists.{over, gather}
use Rattle.counting.specs.claims.Lists.{All}
use Rattle.counting.proofs.Lists.{all_append, all_over}
use Rattle.counting.proofs.Search.{first_le}
use Rattle.slots.specs.Limits.{most_count}
use Rattle.slots.specs.Slots.{lo, hi, edge_between, slot_edge}
use Rattle.manifold.specs.Shape.{Shape, single, double, fan, shape_of, many_of, triangle_of}
use Rattle.cell.specs.declared.Cell.{Cell}
use Rattle.cell.specs.declared.Corner.TheVariants.{Middle}
use Rattle.cell.specs.declared.Side.TheVariants.{Inner}
use Rattle.cell.specs.Cell.{crossings, slot}
use Rattle.cell.specs.Of.{count_of, edges_of}
use Rattle.cell.specs.Loop.{loop_size, dart, normal}
use Rattle.cell.specs.Nodes.{joining}
use Rattle.cell.specs.Triangles.{triangle, number_of, segment_of, point, segment, loop_triangles, cell_triangles, asked_triangles, triangles_with}
use Rattle.cell.specs.Words.{no_name}
use Rattle.booking.specs.Booking.{median, left_between, larger, smaller, is_spiral, is_split}
use Rattle.grid.specs.Grid.{face_name}
use Rattle.grid.proofs.Names.{name_lt}
use Rattle.split.specs.Limits.{first_inner_crossing, first_inner_face, word_step}
use Rattle.split.specs.Labels.{label, labelled}
use Rattle.split.specs.SubCell.{inner_name, sub_at, sub}
use Rattle.split.specs.Parts.{Part, whole, corners, splits_within, parts, all_parts, own_corners, part_triangles, part_cell, drawn_parts}
use Rattle.split.proofs.Parts.{in_order, stop, more, drawn_whole, drawn_all}
use Rattle.split.proofs.Owners.{drawn_gathered}
use Rattle.mesh.specs.Mesh.{grid_cell}
use Rattle.layers.specs.claims.Words.{FaceNamed, Named, DrawnNamed}
use Rattle.layers.proofs.Parts.{last}

-- all face names of the cell are below that word
abbrev Low : Cell → Type 0
Low c = (s : ℕ) → get_or c.names s 0 < no_name

module _ (c : Cell) (L : Low c) where
  -- each segment of a loop has the name of a face of the cell
  seg : (p k : ℕ) → FaceNamed (segment c p k)
  unfolding FaceNamed segment segment_of
  seg p k = L (slot (edges_of c) (dart (edges_of c) p k))

  loop_named : (p : ℕ) → All Named (loop_triangles c p)
  unfolding loop_triangles All triangle FaceNamed
  loop_named p = go (shape_of (loop_size (edges_of c) p) (normal (edges_of c) p))
    where
      at : (sh : Shape) (k : ℕ) → Named (triangle_of (triangle c.index (number_of c p)) (point c p) Middle (segment c p) Inner (loop_size (edges_of c) p) sh k)
      at single k = record { side0 = seg p 0; side1 = seg p 1; side2 = seg p 2 }
      at double zero = record { side0 = seg p 0; side1 = seg p 1; side2 = tt }
      at double (suc k) = record { side0 = tt; side1 = seg p 2; side2 = seg p 3 }
      at fan k = record { side0 = seg p k; side1 = tt; side2 = tt }

      go : (sh : Shape) → All Named (over (λ k. triangle_of (triangle c.index (number_of c p)) (point c p) Middle (segment c p) Inner (loop_size (edges_of c) p) sh k ∷ []) (many_of sh (loop_size (edges_of c) p)) 0)
      go sh = all_over Named (λ k. triangle_of (triangle c.index (number_of c p)) (point c p) Middle (segment c p) Inner (loop_size (edges_of c) p) sh k ∷ []) (many_of sh (loop_size (edges_of c) p)) 0 (λ k _ _. (at sh k, tt))

  cell_named : All Named (cell_triangles c)
  unfolding cell_triangles
  cell_named = all_over Named (loop_triangles c) (crossings (edges_of c)) 0 (λ p _ _. loop_named p)

  corners_named : All Named (own_corners c)
  unfolding own_corners triangles_with asked_triangles All
  corners_named = all_over Named (λ p. pick (eqb (loop_size (edges_of c) p) 3) (loop_triangles c p) []) (crossings (edges_of c)) 0 (λ p _ _. go p (eqb (loop_size (edges_of c) p) 3))
    where
      go : (p : ℕ) (x : Bool) → All Named (pick x (loop_triangles c p) [])
      go p true = loop_named p
      go p false = tt

-- the names within a split rise by six
edge_le : (a b : ℕ) → edge_between a b ≤ 6
unfolding edge_between
edge_le a b = first_le (λ k. eqb (lo k) a && eqb (hi k) b) 6

joining_le : (a b : ℕ) → joining a b ≤ 6
unfolding joining
joining_le a b = go (ltb a b)
  where
    go : (x : Bool) → pick x (edge_between a b) (edge_between b a) ≤ 6
    go true = edge_le a b
    go false = edge_le b a

sub_low : (c : Cell) (b f word m : ℕ) → Low c → f + 6 < no_name → Low (sub c b f word m)
unfolding sub sub_at inner_name
sub_low c b f word m L h zero = L (labelled (count_of c) m)
sub_low c b f word m L h (suc zero) = let e = slot_edge (labelled (count_of c) m) 2 in omega (arith, joining_le (label (count_of c) (lo e)) (label (count_of c) (hi e)))
sub_low c b f word m L h (suc (suc zero)) = let e = slot_edge (labelled (count_of c) m) 1 in omega (arith, joining_le (label (count_of c) (lo e)) (label (count_of c) (hi e)))
sub_low c b f word m L h (suc (suc (suc zero))) = let e = slot_edge (labelled (count_of c) m) 0 in omega (arith, joining_le (label (count_of c) (lo e)) (label (count_of c) (hi e)))
sub_low c b f word m L h (suc (suc (suc (suc s)))) = omega arith

abbrev LowPart : Part → Type 0
LowPart x = Low (part_cell x)

parts_low : (fuel cell n b f : ℕ) (c : Cell) → Low c → f + 6 * fuel < no_name → All LowPart (parts fuel cell n b f c)
unfolding All
parts_low zero cell n b f c L h = subst (All LowPart) (sym (last cell n b f c)) (L, tt)
parts_low (suc fuel) cell n b f c L h =
    go (is_spiral (count_of c)) refl
    (λ l. parts_low fuel cell (n + 2) (b + 2 * (larger (count_of c) + smaller (count_of c))) (f + 6) (sub c b f (cell + word_step * (n + 2)) 2) l (omega arith))
  where
    S : (word m : ℕ) → Low (sub c b f word m)
    S word m = sub_low c b f word m L (omega arith)

    go : (s : Bool) → is_spiral (count_of c) ≡ s
        → (Low (sub c b f (cell + word_step * (n + 2)) 2)
        → All LowPart (parts fuel cell (n + 2) (b + 2 * (larger (count_of c) + smaller (count_of c))) (f + 6) (sub c b f (cell + word_step * (n + 2)) 2)))
        → All LowPart (parts (suc fuel) cell n b f c)
    go false e i = subst (All LowPart) (sym (stop fuel cell n b f c e)) (L, tt)
    go true e i = subst (All LowPart) (sym (more fuel cell n b f c e)) (
      L,
      (
        S (cell + word_step * (n + 1)) 3,
        all_append LowPart (parts fuel cell (n + 2) (b + 2 * (larger (count_of c) + smaller (count_of c))) (f + 6) (sub c b f (cell + word_step * (n + 2)) 2))
            (whole (sub c b f (cell + word_step * (n + 3 + 4 * splits_within (count_of c))) 1) ∷ whole (sub c b f (cell + word_step * (n + 4 + 4 * splits_within (count_of c))) 0) ∷ [])
            (i (S (cell + word_step * (n + 2)) 2)) (S (cell + word_step * (n + 3 + 4 * splits_within (count_of c))) 1, (S (cell + word_step * (n + 4 + 4 * splits_within (count_of c))) 0, tt)),
      ),
    )

-- d1 and d2 are no more than a count
left_le : (c : Cell) (a b : ℕ) → left_between (count_of c) a b ≤ most_count
unfolding left_between
left_le c a b = omega arith

median_le : (p q r n : ℕ) → p ≤ n → q ≤ n → r ≤ n → median p q r ≤ n
unfolding median
median_le p q r n a b d = omega arith

few : (c : Cell) → larger (count_of c) + smaller (count_of c) ≤ 2 * most_count
unfolding larger
few c =
    omega (arith, in_order (count_of c), median_le (left_between (count_of c) 0 1) (left_between (count_of c) 0 2) (left_between (count_of c) 0 3) most_count (left_le c 0 1) (left_le c 0 2) (left_le c 0 3))

drawn_low : (c : Cell) → Low c → All LowPart (drawn_parts c)
unfolding All all_parts
drawn_low c L = go (is_split (count_of c)) refl
  where
    go : (x : Bool) → is_split (count_of c) ≡ x → All LowPart (drawn_parts c)
    go true e = subst (All LowPart) (sym (drawn_all c e))
        (parts_low (larger (count_of c) + smaller (count_of c)) c.index 0 first_inner_crossing first_inner_face c L (omega (arith, few c)))
    go false e = subst (All LowPart) (sym (drawn_whole c e)) (L, tt)

gather_named : (l : List Part) → All LowPart l → All Named (gather part_triangles l)
unfolding All gather
gather_named [] h = tt
gather_named (whole c ∷ l) h = all_append Named (cell_triangles c) (gather part_triangles l) (cell_named c h.0) (gather_named l h.1)
gather_named (corners c ∷ l) h = all_append Named (own_corners c) (gather part_triangles l) (corners_named c h.0) (gather_named l h.1)

pub drawn_named : DrawnNamed
unfolding grid_cell over
drawn_named G c S l = subst (All Named) (sym (drawn_gathered (grid_cell G c))) (gather_named (drawn_parts (grid_cell G c)) (drawn_low (grid_cell G c) low))
  where
    name : (s : ℕ) → s < 4 → face_name G.cells c s < no_name
    name s h = omega (arith, name_lt G.cells c s l h, S.few_cells)

    low : Low (grid_cell G c)
    low zero = name 0 (omega arith)
    low (suc zero) = name 1 (omega arith)
    low (suc (suc zero)) = name 2 (omega arith)
    low (suc (suc (suc zero))) = name 3 (omega arith)
    low (suc (suc (suc (suc s)))) = omega arith
