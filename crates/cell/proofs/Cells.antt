-- The loops of a cell and their triangles in turn: those from crossings below p are done.
use Prim.Native.Nat.{ℕ, suc, ◌+◌, ◌-◌, ◌≤◌, ◌<◌}
use mathlib.Core.Path.{◌≡◌, refl, sym, ap, ◌∙◌}
use mathlib.Core.Bool.{Bool, true, false, ◌||◌}
use mathlib.Core.List.{List, [], ◌∷◌, ◌++◌}
use native.Mathlib.Nat.{zero-add, add-zero, sub-zero}
use native.Mathlib.Omega.{arith}
use lib.Dec.{eqb, ltb}
use lib.ListN.{length, drop, length-append, drop_of_length-le}
use lib.Seq.{drop-append-le, drop-append-add}
use borrow.Author.Tests.{lt-ltb, le-ltb}
use Rattle.answer.specs.Answer.{result_of}
use Rattle.counting.specs.Pick.{pick}
use Rattle.counting.specs.Lists.{over, kept}
use Rattle.counting.specs.work.Stored.{Summed}
use Rattle.counting.proofs.Fronts.{over_more, over_at}
use Rattle.counting.proofs.Stored.{summed_more}
use Rattle.cell.specs.declared.Cell.{Cell}
use Rattle.cell.specs.Cell.{Edges, crossings}
use Rattle.cell.specs.Loop.{loop_size, leasts, loop_told, loop_answer}
use Rattle.cell.specs.work.Limits.{most_in_cell}
use Rattle.cell.specs.work.Round.{round_answer}
use Rattle.cell.specs.declared.Triangle.{Triangle}
use Rattle.std.proofs.Common.{Some, None}
use Rattle.cell.specs.Of.{edges_of}
use Rattle.cell.specs.Triangles.{loop_triangles, cell_triangles, asked_triangles, triangles_with}
use Rattle.cell.specs.work.Nth.{nth_of, nth_numbers, nth_answer}
use Rattle.cell.proofs.LoopTriangles.{Entry}
use Rattle.cell.proofs.Loops.{answer_is}
use Rattle.cell.proofs.Going.{Looped}
use Rattle.cell.proofs.Taken.{loop_few, asked_is, asked_not, length_with, with_few}

-- the number of triangles of each that is asked for
abbrev pub many_at : (c : Cell) (only p : ℕ) → ℕ
many_at c only p = length (asked_triangles c only p)

module _ (only : ℕ) {c : Cell} {p m : ℕ} {b : Bool} {hs ps : List ℕ} (L : Looped c p m b hs ps) {t : ℕ} (S : Summed (many_at c only) most_in_cell p t) where
  pub counted_more : (k : ℕ) → (eqb only 0 || eqb m only) ≡ true → k ≡ length (loop_triangles c p) → Summed (many_at c only) most_in_cell (p + 1) (t + k)
  counted_more k a e =
      let f : k ≡ many_at c only p = e ∙ ap length (sym (asked_is c only p (rw L.size at a))) in
      summed_more (many_at c only) most_in_cell S k f (omega (arith, loop_few c p, L.size, L.few))

  pub counted_less : (eqb only 0 || eqb m only) ≡ false → Summed (many_at c only) most_in_cell (p + 1) t
  counted_less a = rw (add-zero t) at (summed_more (many_at c only) most_in_cell S 0 (ap length (sym (asked_not c only p (rw L.size at a)))) (omega arith))

pub counted_all : (c : Cell) (only : ℕ) {p t : ℕ} → Summed (many_at c only) most_in_cell p t → p ≡ crossings (edges_of c) → p ≤ most_in_cell → (t ≡ length (triangles_with c only)) × (t ≤ most_in_cell)
counted_all c only {p} {t} S e h =
    let f : t ≡ length (triangles_with c only) = S.is ∙ rw e (sym (length_with c only)) in
    (f, omega (arith, with_few c only))

-- a cell without crossings has no triangles
pub no_triangles : (c : Cell) (only : ℕ) → crossings (edges_of c) ≡ 0 → triangles_with c only ≡ []
unfolding triangles_with over
no_triangles c only e = rw e

-- Entry t of the lists of f, joined, is entry `left` of those from p on.
module _ {A : Type 0} (f : ℕ → List A) where
  pub record Seeking (t p left : ℕ) : Type 0 where
    pub is : t ≡ length (over f p 0) + left

  pub seeking_none : (t : ℕ) → Seeking t 0 t
  unfolding over
  seeking_none t = record { is = sym (zero-add t) }

  module _ {t p left : ℕ} (S : Seeking t p left) where
    pub seeking_more : (k : ℕ) → k ≡ length (f p) → k ≤ left → Seeking t (p + 1) (left - k)
    seeking_more k e h = record { is = omega (arith, S.is, ap length (over_more f p), length-append (over f p 0) (f p)) }

    pub seeking_off : drop t (over f p 0) ≡ []
    seeking_off = drop_of_length-le (over f p 0) {i = t} (omega (arith, S.is))

    pub seeking_here : (n : ℕ) → p < n → left ≤ length (f p) → drop t (over f n 0) ≡ drop left (f p) ++ over f (n - suc p) (suc p)
    seeking_here n l h =
        rw (S.is, over_at f n p l)
        (drop-append-add (over f p 0) (f p ++ over f (n - suc p) (suc p)) left ∙ drop-append-le left (f p) (over f (n - suc p) (suc p)) h)

-- triangle t of the cell
module _ (c : Cell) {t p left : ℕ} (S : Seeking (loop_triangles c) t p left) where
  pub triangle_off : p ≡ crossings (edges_of c) → (None ≡ nth_of (cell_triangles c) t) × (nth_numbers None ≡ nth_answer (cell_triangles c) t)
  unfolding cell_triangles nth_of nth_answer
  triangle_off l = let e = rw l at (seeking_off (loop_triangles c) S) in (rw e, rw e)

  pub triangle_here : p < crossings (edges_of c) → (r : Triangle) {w : List Triangle} → w ≡ loop_triangles c p → left < length (loop_triangles c p) → Entry w left r
      → (Some r ≡ nth_of (cell_triangles c) t) × (nth_numbers (Some r) ≡ nth_answer (cell_triangles c) t)
  unfolding cell_triangles nth_of nth_answer
  triangle_here l r {w} e h q =
      let f = rw (← e, q) at (seeking_here (loop_triangles c) S (crossings (edges_of c)) l (omega arith)) in
      (rw f, rw f)

-- the loop from each, if there is one
abbrev pub least_at : Edges → ℕ → List ℕ
least_at w p = pick (ltb 0 (loop_size w p)) (p ∷ []) []

-- loop k of the cell
module _ (c : Cell) {k p left : ℕ} (S : Seeking (least_at (edges_of c)) k p left) where
  abbrev w : Edges
  w = edges_of c

  pub loop_off : p ≡ crossings w → result_of [] ≡ loop_answer w c.nodes k
  unfolding loop_answer leasts kept loop_told
  loop_off l = sym (ap (loop_told w c.nodes) (rw l at (seeking_off (least_at w) S)))

  pub loop_skip : loop_size w p ≡ 0 → Seeking (least_at w) k (p + 1) left
  loop_skip z = rw (sub-zero left) at (seeking_more (least_at w) S 0 (rw (le-ltb 0 (loop_size w p) (omega arith)) refl) (omega arith))

  module _ (h : 0 < loop_size w p) where
    one : least_at w p ≡ p ∷ []
    one = rw (lt-ltb 0 (loop_size w p) h) refl

    pub loop_pass : 0 < left → Seeking (least_at w) k (p + 1) (left - 1)
    loop_pass l = seeking_more (least_at w) S 1 (sym (ap length one)) l

    pub loop_here : p < crossings w → left ≡ 0 → {m : ℕ} {b : Bool} {hs ps : List ℕ} → Looped c p m b hs ps → round_answer c.nodes hs ps b ≡ loop_answer w c.nodes k
    unfolding loop_answer leasts kept loop_told
    loop_here l z L =
        let e = seeking_here (least_at w) S (crossings w) l (omega arith) in
        rw (L.halves_are, L.points_are, L.told) (answer_is c p l h ∙ sym (ap (loop_told w c.nodes) (rw (z, one) at e)))
