-- The segments of the faces of any cell of a grid: those of the curves that close there are in one triangle of the cell, the others in none.
use Prim.Native.Nat.{ℕ, suc, ◌*◌, ◌≤◌, ◌<◌}
use mathlib.Core.Path.{◌≡◌, refl, sym, ap, ◌∙◌, subst}
use mathlib.Core.Logic.{◌⊎◌, inl, inr}
use mathlib.Core.Bool.{Bool, true, false}
use mathlib.Core.List.{List, [], ◌∷◌}
use native.Mathlib.Omega.{arith}
use lib.Dec.{leb}
use lib.ListN.{get_or}
use borrow.Author.Tests.{leb-true, leb-false}
use Rattle.counting.specs.Lists.{tally, it}
use Rattle.counting.proofs.Search.{Least, least}
use Rattle.walk.specs.Darts.{half, rev}
use Rattle.walk.proofs.Curve.{Next, closes, on_it, on_walk}
use Rattle.manifold.specs.claims.Plain.{Tri, has_side}
use Rattle.manifold.specs.claims.Piece.{Local, Piece, segment_of, onward}
use Rattle.manifold.specs.claims.Complex.{Complex, Joins, Closes, Lawful, mesh}
use Rattle.manifold.proofs.Piece.{cell_darts, closes_joins, whole_closes}
use Rattle.manifold.proofs.Claims.{manifold}
use Rattle.cell.specs.declared.Cell.{Cell}
use Rattle.cell.specs.Of.{count_of}
use Rattle.cell.specs.claims.Polygons.{local_of}
use Rattle.booking.specs.Booking.{is_split}
use Rattle.split.specs.Limits.{first_inner_crossing, first_inner_face}
use Rattle.split.specs.Parts.{whole, no_part}
use Rattle.split.specs.claims.Claims.{part_local, parts_complex, WalkEnds, CurveSides}
use Rattle.split.specs.claims.Owned.{Fit, CurvesCounted}
use Rattle.split.proofs.Shows.{closed}
use Rattle.split.proofs.Compose.{parts_sound}
use Rattle.split.proofs.Whole.{leaf}
use Rattle.split.proofs.Meshed.{lawful_of}
use Rattle.split.proofs.Sides.{sides_counted}
use Rattle.split.proofs.Parts.{drawn_whole}
use Rattle.split.proofs.Grid.{piece_of, ready_of}
use Rattle.split.proofs.GridMesh.{drawn_mesh}

-- A walk along a curve that closes does not end; and a walk that has not ended after as many steps as there are crossings comes back
module _ (A : Local) (P : Piece A) (d : ℕ) where
  pub closes_live : (n : ℕ) → Closes A d → it (onward A) n d < 2 * A.N
  unfolding Next it
  closes_live n (k, L) =
      (on_walk (2 * A.N) A.N (onward A) rev half (cell_darts A P) L n d (L.live 0 (omega arith))
      (on_it (2 * A.N) A.N (onward A) rev half (cell_darts A P) L 0 (omega arith))).0

  walk_tells : Closes A d ⊎ WalkEnds A d
  walk_tells = go (least (λ i. leb (2 * A.N) (it (onward A) i d)) (suc A.N))
    where
      go : Least (λ i. leb (2 * A.N) (it (onward A) i d)) (suc A.N) → Closes A d ⊎ WalkEnds A d
      go (inl w) = inr (w.0, omega (arith, w.1), leb-true (2 * A.N) (it (onward A) w.0 d) w.2)
      go (inr none) =
          let (k, le, L) = closes (2 * A.N) A.N (onward A) rev half (cell_darts A P) d
          (λ i h. leb-false (2 * A.N) (it (onward A) i d) (none i (omega arith))) in
          inl (k, L)

  not_closed : WalkEnds A d → Closes A d → ⊥
  not_closed w u = omega (arith, w.2, closes_live w.0 u)

module _ (c : Cell) (T : Fit c) where
  -- a cell that is not split is a complex of one piece
  abbrev K : Complex
  K = parts_complex (whole c ∷ [])

  lawful : Lawful (parts_complex (whole c ∷ []))
  lawful =
      lawful_of (whole c ∷ [])
      (parts_sound (local_of c) 1 (λ x. part_local (get_or (whole c ∷ []) x no_part)) (λ x. first_inner_face ≤ x) (λ g. first_inner_crossing ≤ g) (piece_of c T)
      (leaf c first_inner_crossing first_inner_face (piece_of c T) T.under) (λ s ls u. omega (arith, T.under s ls, u)))
      (λ a b la lb q. omega arith)

  abbrev Sides : List Tri → Type 0
  Sides m =
      ((d : ℕ) → Closes (local_of c) d → tally (has_side (segment_of (local_of c) d)) m ≡ 1)
      × ((d : ℕ) → Joins (local_of c) d → (Closes (local_of c) d → ⊥) → tally (has_side (segment_of (local_of c) d)) m ≡ 0)

  alone : Sides (mesh K)
  alone = (
    λ d cl. (manifold K lawful).alone 0 d (omega arith) cl (λ b e lb ne. absurd (ne (omega arith))),
    λ d on no_loop. (manifold K lawful).unclosed 0 d (omega arith) on no_loop (λ b e lb ne. absurd (ne (omega arith))),
  )

  pub curve_sides : CurveSides c
  curve_sides = go (is_split (count_of c)) refl
    where
      told : (d : ℕ) → Joins (local_of c) d → Closes (local_of c) d ⊎ WalkEnds (local_of c) d
      told d on = walk_tells (local_of c) (piece_of c T) d

      ends : (d : ℕ) → WalkEnds (local_of c) d → Closes (local_of c) d → ⊥
      ends d = not_closed (local_of c) (piece_of c T) d

      go : (s : Bool) → is_split (count_of c) ≡ s → CurveSides c
      go false e =
          let S = subst Sides (sym (drawn_mesh c ∙ ap (λ l. mesh (parts_complex l)) (drawn_whole c e))) alone in
          record { closed = S.0; unclosed = S.1; decided = told; ended = ends }
      go true e =
          let R = ready_of c T e in
          record {
            closed = λ d cl. (sides_counted c e R).outer d (closes_joins (local_of c) (piece_of c T) d cl);
            unclosed = λ d on no_loop. absurd (no_loop (whole_closes (local_of c) (piece_of c T) (closed c R.firm) d on));
            decided = told;
            ended = ends;
          }

pub curves_counted : CurvesCounted
curves_counted c T = curve_sides c T
