-- In each part that is drawn of a cell no crossing number belongs to two edges; so its loops are ordered by p0.
use Prim.Native.Nat.{ℕ, zero, suc, ◌+◌, ◌*◌}
use mathlib.Core.Path.{◌≡◌, refl, sym, subst}
use mathlib.Core.Bool.{Bool, true, false}
use mathlib.Core.List.{List, [], ◌∷◌}
use native.Mathlib.Omega.{arith}
use Rattle.counting.specs.claims.Lists.{All}
use Rattle.counting.proofs.Lists.{all_append, all_at}
use Rattle.cell.specs.declared.Cell.{Cell}
use Rattle.cell.specs.Of.{count_of, edges_of}
use Rattle.cell.specs.claims.Claims.{Separate}
use Rattle.cell.proofs.Claims.{ordered}
use Rattle.booking.specs.Booking.{larger, smaller, is_spiral, is_split}
use Rattle.split.specs.Limits.{first_inner_crossing, first_inner_face, word_step}
use Rattle.split.specs.SubCell.{sub}
use Rattle.split.specs.Parts.{Part, whole, splits_within, parts, all_parts, no_part, part_cell, drawn_parts}
use Rattle.split.specs.claims.Five.{FirmBelow}
use Rattle.split.specs.claims.Owned.{Fit, DrawnOrdered}
use Rattle.split.proofs.Labels.{spiral_is}
use Rattle.split.proofs.Parts.{stop, more as recurse, drawn_whole, drawn_all}
use Rattle.split.proofs.Sub.{sub_ready}
use Rattle.split.proofs.Grid.{ready_of}

-- no crossing number of a part belongs to two edges
abbrev Apart : Part → Type 0
Apart p = Separate (edges_of (part_cell p))

all_apart : (fuel cell n b f : ℕ) (c : Cell) → FirmBelow c b f → All Apart (parts fuel cell n b f c)
unfolding parts All
all_apart zero cell n b f c R = (R.firm.separate, tt)
all_apart (suc fuel) cell n b f c R =
    go (is_spiral (count_of c)) refl (λ Q. all_apart fuel cell (n + 2) (b + 2 * (larger (count_of c) + smaller (count_of c))) (f + 6) (sub c b f (cell + word_step * (n + 2)) 2) Q)
  where
    go : (e : Bool) → is_spiral (count_of c) ≡ e
        → (FirmBelow (sub c b f (cell + word_step * (n + 2)) 2) (b + 2 * (larger (count_of c) + smaller (count_of c))) (f + 6)
        → All Apart (parts fuel cell (n + 2) (b + 2 * (larger (count_of c) + smaller (count_of c))) (f + 6) (sub c b f (cell + word_step * (n + 2)) 2)))
        → All Apart (parts (suc fuel) cell n b f c)
    go false e i = subst (All Apart) (sym (stop fuel cell n b f c e)) (R.firm.separate, tt)
    go true e i =
        let (some, more) = spiral_is (count_of c) e in
        let s = splits_within (count_of c) in
        let rest : List Part = whole (sub c b f (cell + word_step * (n + 3 + 4 * splits_within (count_of c))) 1) ∷ whole (sub c b f (cell + word_step * (n + 4 + 4 * splits_within (count_of c))) 0) ∷ [] in
        subst (All Apart) (sym (recurse fuel cell n b f c e)) (
          R.firm.separate,
          (
            (sub_ready c b f R some more (cell + word_step * (n + 1)) 3 (omega arith)).firm.separate,
            all_append Apart (parts fuel cell (n + 2) (b + 2 * (larger (count_of c) + smaller (count_of c))) (f + 6) (sub c b f (cell + word_step * (n + 2)) 2)) rest
                (i (sub_ready c b f R some more (cell + word_step * (n + 2)) 2 (omega arith))) (
                  (sub_ready c b f R some more (cell + word_step * (n + 3 + 4 * s)) 1 (omega arith)).firm.separate,
                  ((sub_ready c b f R some more (cell + word_step * (n + 4 + 4 * s)) 0 (omega arith)).firm.separate, tt),
                ),
          ),
        )

drawn_apart : (c : Cell) → Fit c → All Apart (drawn_parts c)
unfolding all_parts All
drawn_apart c T = go (is_split (count_of c)) refl
  where
    go : (s : Bool) → is_split (count_of c) ≡ s → All Apart (drawn_parts c)
    go false e = subst (All Apart) (sym (drawn_whole c e)) (T.separate, tt)
    go true e =
        subst (All Apart) (sym (drawn_all c e))
        (all_apart (larger (count_of c) + smaller (count_of c)) c.index 0 first_inner_crossing first_inner_face c (ready_of c T e))

pub drawn_ordered : DrawnOrdered
drawn_ordered c T x l = let S = all_at Apart no_part (drawn_parts c) (drawn_apart c T) x l in ordered _ S
