-- The triangles of a list of parts are the mesh of the complex whose pieces they are; and where the parts refine a cell, this complex is lawful.
use Prim.Native.Nat.{ℕ, ◌+◌, ◌*◌, ◌≤◌, ◌<◌}
use mathlib.Core.Path.{◌≡◌, refl, sym, ap, ◌∙◌}
use mathlib.Core.Bool.{true}
use mathlib.Core.List.{List, map}
use native.Mathlib.Omega.{arith}
use lib.ListN.{length, get_or}
use Rattle.counting.specs.Lists.{over}
use Rattle.counting.proofs.Range.{over_ext}
use Rattle.counting.proofs.Lists.{map_over, gather_places}
use Rattle.manifold.specs.claims.Polygon.{triangles}
use Rattle.manifold.specs.claims.Piece.{segment_of}
use Rattle.manifold.specs.claims.Complex.{Lawful, loop_of, mesh}
use Rattle.cell.specs.Of.{count_of, edges_of}
use Rattle.cell.specs.Loop.{normal}
use Rattle.cell.specs.Level.{is_level_cell}
use Rattle.cell.specs.claims.Polygons.{local_of, named}
use Rattle.cell.proofs.Polygons.{cell_named}
use Rattle.split.specs.Limits.{word_step}
use Rattle.split.specs.Parts.{Part, whole, corners, parts, part_triangles, no_part, part_cell}
use Rattle.split.specs.work.Family.{PiecesSound}
use Rattle.split.specs.claims.Claims.{part_local, parts_complex, loop_in, LevelCorners, PartsMeshed, PartsLawful}
use Rattle.split.proofs.Shows.{piece}
use Rattle.split.proofs.Compose.{parts_sound}
use Rattle.split.proofs.Corners.{own_named}
use Rattle.split.proofs.Parts.{parts_numbered}
use Rattle.split.proofs.Whole.{parts_refine}

pub level_corners : (p : Part) → is_level_cell (count_of (part_cell p)) ≡ true → LevelCorners p
level_corners (whole c) K = tt
level_corners (corners c) K = K

-- the triangles of a part
part_named : (p : Part) → LevelCorners p
    → map named (part_triangles p) ≡ over (λ q. triangles (loop_in (part_local p) (part_cell p).index (normal (edges_of (part_cell p))) q)) (part_local p).N 0
part_named (whole c) K = cell_named c
part_named (corners c) K = own_named c K

pub parts_meshed : PartsMeshed
unfolding mesh
parts_meshed l K =
    ap (map named) (gather_places no_part part_triangles l)
    ∙ map_over named (λ x. part_triangles (get_or l x no_part)) (length l) 0
    ∙ over_ext (λ x. map named (part_triangles (get_or l x no_part))) (λ x. over (λ q. triangles (loop_of (parts_complex l) x q)) ((parts_complex l).at x).N 0) (length l) 0
    (λ x a h. part_named (get_or l x no_part) (K x (omega arith)))

-- a sound family with its own tags is lawful
pub lawful_of : (l : List Part) → PiecesSound (record { size = length l; at = λ x. part_local (get_or l x no_part) })
    → ((a b : ℕ) → a < length l → b < length l → (parts_complex l).tag a ≡ (parts_complex l).tag b → a ≡ b) → Lawful (parts_complex l)
lawful_of l S tags = record {
  piece = S.piece;
  tags = tags;
  few = λ a b c d e g la lb lc jd je jg q r x y z.
      S.few (segment_of ((parts_complex l).at a) d) a b c la lb lc (record { d = d; on = jd; is = refl }) (record { d = e; on = je; is = sym q }) (record { d = g; on = jg; is = sym r }) x y z;
  ends = S.ends;
}

pub parts_lawful : PartsLawful
parts_lawful fuel cell n b f c R h i =
    let F = parts_refine fuel cell n b f c R h in
    let W = (parts_numbered fuel cell n b f c R.firm.level h i).words in
    lawful_of (parts fuel cell n b f c)
    (parts_sound (local_of c) (length (parts fuel cell n b f c)) (λ x. part_local (get_or (parts fuel cell n b f c) x no_part)) (λ x. f ≤ x) (λ g. b ≤ g) (piece c R.firm) F
    (λ s ls u. omega (arith, R.under s ls, u)))
    (λ x y lx ly q. place cell n x y (sym (W x lx) ∙ q ∙ W y ly))
  where
    place : (cell n x y : ℕ) → cell + word_step * (n + x) ≡ cell + word_step * (n + y) → x ≡ y
    place cell n x y e = omega arith
