-- Whether the words of triangles have room, and what is left where those of cells are written in turn.
use Prim.Native.Nat.{ℕ, zero, suc, ◌+◌, ◌*◌, ◌-◌, ◌≤◌, ◌<◌}
use mathlib.Core.Path.{◌≡◌, refl, sym, ap, ap₂, ◌∙◌}
use mathlib.Core.Bool.{Bool, true, false}
use mathlib.Core.List.{List}
use native.Mathlib.Omega.{arith}
use native.Mathlib.Nat.{add-zero}
use native.Mathlib.Numerals.{add-one}
use native.Mathlib.Decide.{dec_lt}
use lib.Dec.{leb}
use lib.ListN.{length, length-append}
use lib.Seq.{sets, length-sets}
use borrow.Author.Tests.{le-leb, lt-leb}
use Rattle.counting.specs.Pick.{pick}
use Rattle.counting.specs.Lists.{over}
use Rattle.counting.specs.Stored.{stored_in}
use Rattle.counting.specs.claims.Lists.{next_in}
use Rattle.counting.specs.work.Stored.{Stored}
use Rattle.counting.proofs.Fronts.{over_shift}
use Rattle.counting.proofs.Lists.{gather_over}
use Rattle.counting.proofs.Range.{over_snoc}
use Rattle.counting.proofs.Stored.{stored_none, stored_long, stored_as, stored_room, stored_not}
use Rattle.cell.specs.declared.Cell.{Cell}
use Rattle.cell.specs.declared.Triangle.{Triangle}
use Rattle.cell.specs.Words.{word_count, words, all_words}
use Rattle.cell.specs.Triangles.{cell_triangles, triangles_with}
use Rattle.cell.specs.work.Fits.{next_at, area_then, next_after, area_after}
use Rattle.cell.proofs.Taken.{with_all}
use Rattle.cell.proofs.Storing.{length_all, words_of, written_room, written_more}

module _ (l : List Triangle) (area : List ℕ) (at : ℕ) where
  pub no_room : length area < at + word_count * length l → (at ≡ next_in area at (all_words l)) × (area ≡ stored_in area at (all_words l))
  no_room h = let n = stored_not area at (all_words l) (omega (arith, h, length_all l)) in (n.1, n.0)

  pub has-room : at + word_count * length l ≤ length area → (at + word_count * length l ≡ next_in area at (all_words l)) × (sets area at (all_words l) ≡ stored_in area at (all_words l))
  has-room h = let S = stored_room area at (all_words l) (omega (arith, h, length_all l)) in (omega (arith, S.after, length_all l), sym S.area)

-- k more than `at` are no more than `room`
pub room_left : (k at room : ℕ) → at ≤ room → leb k (room - at) ≡ leb (at + k) room
room_left k at room h =
    elim (dec_lt room (at + k)) [
      | yes l ↦ lt-leb k (room - at) (omega arith) ∙ sym (lt-leb (at + k) room l)
      | no l ↦ le-leb k (room - at) (omega arith) ∙ sym (le-leb (at + k) room (omega arith))
    ]

-- all loops of a cell
pub next_all : (c : Cell) (area : List ℕ) (at : ℕ) → next_in area at (all_words (triangles_with c 0)) ≡ next_at c area at
unfolding next_at
next_all c area at = ap (λ l. next_in area at (all_words l)) (with_all c)

pub area_all : (c : Cell) (area : List ℕ) (at : ℕ) → stored_in area at (all_words (triangles_with c 0)) ≡ area_then c area at
unfolding area_then
area_all c area at = ap (λ l. stored_in area at (all_words l)) (with_all c)

-- cells one after the other: n are done
module _ (c : Cell) where
  next_same : (a b : List ℕ) (at : ℕ) → length a ≡ length b → next_at c a at ≡ next_at c b at
  unfolding next_at next_in
  next_same a b at e = rw e

  area_long : (area : List ℕ) (at : ℕ) → length (area_then c area at) ≡ length area
  unfolding area_then stored_in
  area_long area at = go (leb (at + length (all_words (cell_triangles c))) (length area))
    where
      go : (b : Bool) → length (pick b (sets area at (all_words (cell_triangles c))) area) ≡ length area
      go true = length-sets area at (all_words (cell_triangles c))
      go false = refl

module _ (cell : ℕ → Cell) (first : ℕ) (was : List ℕ) (at : ℕ) where
  pub record Put (n : ℕ) (is : List ℕ) (i : ℕ) : Type 0 where
    pub long : length is ≡ length was
    pub next : i ≡ next_after cell first was at n
    pub area : is ≡ area_after cell first was at n

  -- those up to the first
  pub put_none : Put (first - first) was at
  unfolding next_after area_after
  put_none = let e : first - first ≡ 0 = omega arith in rw e (record { long = refl; next = refl; area = refl })

  pub put_more : {k : ℕ} {is : List ℕ} {i : ℕ} → first ≤ k → Put (k - first) is i → {c : Cell} {is' : List ℕ} {j : ℕ} → c ≡ cell k → j ≡ next_at c is i → is' ≡ area_then c is i
      → Put (k + 1 - first) is' j
  unfolding next_after area_after
  put_more {k} {is} {i} l P {c} e p q =
      let s : k + 1 - first ≡ suc (k - first) = omega arith in
      let f : c ≡ cell (first + (k - first)) = e ∙ ap cell (omega arith) in
      rw s (record {
        long = ap length q ∙ area_long c is i ∙ P.long;
        next = p ∙ next_same c is was i P.long ∙ ap (λ v. next_at v was i) f ∙ ap (next_at (cell (first + (k - first))) was) P.next;
        area = q ∙ ap (λ v. area_then v is i) f ∙ ap₂ (area_then (cell (first + (k - first)))) P.area P.next;
      })

  -- where n of them have room together, they are stored
  abbrev each : ℕ → List Triangle
  each k = cell_triangles (cell (first + k))

  stored : (n : ℕ) → at + word_count * length (over each n 0) ≤ length was → Stored was at (over (words_of each) n 0) (area_after cell first was at n) (next_after cell first was at n)
  unfolding next_after area_after next_at area_then over
  stored zero h = stored_none was at
  stored (suc n) h =
      let e = ap length (over_snoc each n 0) ∙ length-append (over each n 0) (each (0 + n)) in
      let S = stored n (omega (arith, e)) in
      let r = written_room each n S (suc n) (omega arith) in
      let mid = area_after cell first was at n in
      let i = next_after cell first was at n in
      let R = has-room (each n) mid i (omega (arith, r, stored_long S)) in
      rw (add-one n) at (written_more each n S refl (next_same (cell (first + n)) was mid i (sym (stored_long S)) ∙ sym R.0) refl (sym R.1))

  pub all_put : (n : ℕ) → at + length (over (words_of (λ k. cell_triangles (cell k))) n first) ≤ length was
      → Stored was at (over (words_of (λ k. cell_triangles (cell k))) n first) (area_after cell first was at n) (next_after cell first was at n)
  all_put n h =
      let f = words_of (λ k. cell_triangles (cell k)) in
      let e : over (words_of each) n 0 ≡ over f n first = over_shift f first n 0 ∙ ap (over f n) (add-zero first) in
      stored_as (stored n (omega (arith, h, ap length e, ap length (gather_over words each n 0), length_all (over each n 0)))) e refl
