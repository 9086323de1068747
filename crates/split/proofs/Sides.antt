-- The sides of the triangles of a split cell: each segment of the cell's faces in one, each segment of an inner face and each inner side in two.
use Prim.Native.Nat.{ℕ, ◌+◌, ◌*◌, ◌≤◌, ◌<◌}
use mathlib.Core.Path.{◌≡◌, sym, ap, ◌∙◌, subst}
use mathlib.Core.Logic.{◌⊎◌, inl, inr}
use mathlib.Core.Bool.{true}
use mathlib.Core.List.{List, map}
use native.Mathlib.Omega.{arith}
use lib.ListN.{length, get_or}
use Rattle.counting.specs.Lists.{tally}
use Rattle.manifold.specs.Triangle.{Side, seg, inner}
use Rattle.manifold.specs.claims.Plain.{Tri, side_of, has_side, nth}
use Rattle.manifold.specs.claims.Piece.{slot_of, lower_of, segment_of}
use Rattle.manifold.specs.claims.Complex.{Complex, Joins, Closes, Lawful, mesh}
use Rattle.manifold.proofs.Piece.{whole_closes}
use Rattle.manifold.proofs.Claims.{manifold}
use Rattle.cell.specs.declared.Cell.{Cell}
use Rattle.cell.specs.Of.{count_of}
use Rattle.cell.specs.claims.Polygons.{local_of, named}
use Rattle.booking.specs.Booking.{larger, smaller, is_split}
use Rattle.split.specs.Limits.{first_inner_crossing, first_inner_face, word_step}
use Rattle.split.specs.Parts.{Part, parts, all_parts, drawn_triangles, no_part}
use Rattle.split.specs.claims.Family.{Outer}
use Rattle.split.specs.claims.Five.{FirmBelow}
use Rattle.split.specs.claims.Claims.{parts_complex, RefinedBy, SplitSides, SidesCounted}
use Rattle.split.proofs.Shows.{all_joined, closed}
use Rattle.split.proofs.Parts.{parts_numbered}
use Rattle.split.proofs.Whole.{parts_refine}
use Rattle.split.proofs.Meshed.{level_corners, parts_meshed, parts_lawful}
use Rattle.split.proofs.Lengths.{drawn_is}

-- the parts of a ready cell, whatever its numbers
module _ (fuel cell n b f : ℕ) (c : Cell) (R : FirmBelow c b f) (h : larger (count_of c) + smaller (count_of c) ≤ fuel) (i : c.index ≡ cell + word_step * n) where
  abbrev l : List Part
  l = parts fuel cell n b f c

  abbrev K : Complex
  K = parts_complex (parts fuel cell n b f c)

  F : RefinedBy c b f (parts fuel cell n b f c)
  F = parts_refine fuel cell n b f c R h

  W : Lawful (parts_complex (parts fuel cell n b f c))
  W = parts_lawful fuel cell n b f c R h i

  -- every curve of a part closes
  closes : (x d : ℕ) → x < length (parts fuel cell n b f c) → Joins (K.at x) d → Closes (K.at x) d
  closes x d lx on = whole_closes (K.at x) (W.piece x lx) (F.whole (closed c R.firm) x lx) d on

  -- a segment of the cell is in one part
  outer_one : (d : ℕ) → Joins (local_of c) d → tally (has_side (segment_of (local_of c) d)) (mesh K) ≡ 1
  outer_one d on =
      let u = F.cover d on in
      let m = (manifold K W).alone u.j u.e u.j_lt (closes u.j u.e u.j_lt u.on)
      (λ k e lk ne on' q. F.once k u.j d lk u.j_lt ne on (record { d = e; on = on'; is = q ∙ u.is }) (record { d = u.e; on = u.on; is = u.is })) in
      subst (λ σ. tally (has_side σ) (mesh K) ≡ 1) u.is m

  -- a segment of a part is the cell's, or on an inner face and in two parts
  part_side : (j d : ℕ) → j < length (parts fuel cell n b f c) → Joins (K.at j) d
      → ((e : ℕ) × Joins (local_of c) e × (segment_of (K.at j) d ≡ segment_of (local_of c) e))
      ⊎ ((f ≤ (K.at j).name (slot_of (K.at j) d)) × (tally (has_side (segment_of (K.at j) d)) (mesh K) ≡ 2))
  part_side j d lj on = go (F.kind j d lj on)
    where
      go : Outer (local_of c) (K.at j) d ⊎ (f ≤ (K.at j).name (slot_of (K.at j) d))
          → ((e : ℕ) × Joins (local_of c) e × (segment_of (K.at j) d ≡ segment_of (local_of c) e))
          ⊎ ((f ≤ (K.at j).name (slot_of (K.at j) d)) × (tally (has_side (segment_of (K.at j) d)) (mesh K) ≡ 2))
      go (inl o) = inl (o.d, o.on, o.is)
      go (inr u) =
          let (k, lk, ne, r) = F.inner_paired j d lj on u in
          inr (u, (manifold K W).shared j d k r.d lj lk ne (closes j d lj on) (closes k r.d lk r.on) r.is)

-- of a split cell
module _ (c : Cell) (e : is_split (count_of c) ≡ true) (R : FirmBelow c first_inner_crossing first_inner_face) where
  abbrev fuel : ℕ
  fuel = larger (count_of c) + smaller (count_of c)

  abbrev parted : List Part
  parted = parts (larger (count_of c) + smaller (count_of c)) c.index 0 first_inner_crossing first_inner_face c

  enough : larger (count_of c) + smaller (count_of c) ≤ larger (count_of c) + smaller (count_of c)
  enough = omega arith

  number : c.index ≡ c.index + word_step * 0
  number = omega arith

  abbrev M : Complex
  M = parts_complex (parts (larger (count_of c) + smaller (count_of c)) c.index 0 first_inner_crossing first_inner_face c)

  meshed : map named (drawn_triangles c) ≡ mesh M
  unfolding all_parts
  meshed =
      ap (map named) (drawn_is c e)
      ∙ parts_meshed parted
      (λ x l. level_corners (get_or parted x no_part) ((parts_numbered fuel c.index 0 first_inner_crossing first_inner_face c R.firm.level enough number).levels x l))

  -- a side of a triangle of the list m, by its kind
  abbrev OfKind : List Tri → Side → Type 0
  OfKind m σ =
      ((d : ℕ) × Joins (local_of c) d × (σ ≡ segment_of (local_of c) d))
      ⊎ (((g : ℕ) × (x : ℕ) × (first_inner_face ≤ g) × (σ ≡ seg g x) × (tally (has_side (seg g x)) m ≡ 2))
      ⊎ ((a : ℕ) × (p : ℕ) × (k : ℕ) × (σ ≡ inner a p k) × (tally (has_side (inner a p k)) m ≡ 2)))

  abbrev Sides : List Tri → Type 0
  Sides m = (t i : ℕ) → t < length m → i < 3 → OfKind m (side_of (nth m t) i)

  mesh_sides : Sides (mesh M)
  mesh_sides t i lt li = go ((manifold M (W fuel c.index 0 first_inner_crossing first_inner_face c R enough number)).sides t i lt li)
    where
      segment : (j d : ℕ) → side_of (nth (mesh M) t) i ≡ segment_of (M.at j) d
          → ((x : ℕ) × Joins (local_of c) x × (segment_of (M.at j) d ≡ segment_of (local_of c) x))
          ⊎ ((first_inner_face ≤ (M.at j).name (slot_of (M.at j) d)) × (tally (has_side (segment_of (M.at j) d)) (mesh M) ≡ 2)) → OfKind (mesh M) (side_of (nth (mesh M) t) i)
      segment j d q (inl (x, on, z)) = inl (x, on, q ∙ z)
      segment j d q (inr (h, n)) = inr (inl ((M.at j).name (slot_of (M.at j) d), lower_of (M.at j) d, h, q, n))

      go : ((j : ℕ) × (d : ℕ) × (j < M.pieces) × Joins (M.at j) d × (side_of (nth (mesh M) t) i ≡ segment_of (M.at j) d))
          ⊎ ((a : ℕ) × (p : ℕ) × (k : ℕ) × (side_of (nth (mesh M) t) i ≡ inner a p k) × (tally (has_side (side_of (nth (mesh M) t) i)) (mesh M) ≡ 2))
          → OfKind (mesh M) (side_of (nth (mesh M) t) i)
      go (inl (j, d, lj, on, q)) = segment j d q (part_side fuel c.index 0 first_inner_crossing first_inner_face c R enough number j d lj on)
      go (inr (a, p, k, q, n)) = inr (inr (a, p, k, q, subst (λ s. tally (has_side s) (mesh M) ≡ 2) q n))

  pub split_sides : SplitSides c
  split_sides = record {
    joined = λ d l. all_joined c R.firm d l;
    outer = λ d on. subst (λ m. tally (has_side (segment_of (local_of c) d)) m ≡ 1) (sym meshed) (outer_one fuel c.index 0 first_inner_crossing first_inner_face c R enough number d on);
    sides = subst Sides (sym meshed) mesh_sides;
  }

pub sides_counted : SidesCounted
sides_counted c e R = split_sides c e R
