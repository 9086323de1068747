-- What is worked out by lists is what the definitions give.
use Prim.Native.Nat.{ℕ, ◌+◌, ◌*◌, ◌/◌, ◌<◌}
use mathlib.Core.Path.{◌≡◌, refl, sym, ap, ap₂, ◌∙◌}
use mathlib.Core.Logic.{⊎_elim}
use mathlib.Core.Bool.{Bool, true, false}
use mathlib.Core.List.{List, [], ◌∷◌}
use native.Mathlib.Omega.{arith}
use native.Mathlib.Decide.{dec_lt}
use lib.Dec.{eqb, ltb}
use lib.ListN.{get_or, length}
use borrow.Author.Tests.{le-ltb}
use Rattle.counting.specs.Pick.{pick}
use Rattle.counting.specs.Lists.{one, total, values, kept, after, tally, it}
use Rattle.counting.proofs.Range.{total_ext, length_over, after_lt}
use Rattle.counting.proofs.Lists.{tally_over, values_at}
use Rattle.slots.specs.Slots.{slot_edge, first_slot, second_slot}
use Rattle.slots.specs.claims.Claims.{EdgeSlot}
use Rattle.slots.proofs.Slots.{slot-edge}
use Rattle.walk.specs.Step as walks
use Rattle.walk.specs.Walk as walk
use Rattle.walk.proofs.Iterate.{tally_orbit}
use Rattle.walk.proofs.Found.{it_ext, size_ext}
use Rattle.manifold.specs.Shape.{shape_of, many_of}
use Rattle.cell.specs.Cell.{Edges, crossings, base, edge, index, join_at, mate, first_slot_at, second_slot_at, slot, step}
use Rattle.cell.specs.Loop.{loop_size, dart, folded, normal, leasts}
use Rattle.cell.specs.Triangles.{loop_count, many_from, triangle_count}
use Rattle.cell.proofs.Lay.{lay}
use Rattle.cell.proofs.Step.{step_is}
use Rattle.cell.proofs.Mates.{mate_joined, mate_unjoined, joined_edge, mate_cases, slot_has}
use Rattle.cell.proofs.Loops.{dart_live, dart_after, tally_darts}
use Rattle.cell.proofs.Folds.{folded_ends}
use Rattle.cases.proofs.Quick.{join_on, joined_on, mate_on, step_on, sizes_on, normal_on, counts_on, both_on, both_by, both}

module _ (w : Edges) where
  abbrev N : ℕ
  N = crossings w

  abbrev counts : List ℕ
  counts = values w.count 6

  abbrev bases : List ℕ
  bases = values (base w) 6

  abbrev edges : List ℕ
  edges = values (edge w) N

  abbrev quick : ℕ → ℕ
  quick = step_on N counts bases edges

  abbrev steps : List ℕ
  steps = values quick (2 * N)

  abbrev next : ℕ → ℕ
  next d = get_or steps d 0

  edge_at : (x : ℕ) → x < N → get_or edges x 0 ≡ edge w x
  edge_at x l = values_at (edge w) N x 0 l

  module _ (x : ℕ) (l : x < N) (f : ℕ) (S : EdgeSlot (edge w x) f) where
    count-at : (j : ℕ) → j < 3 → get_or counts (slot_edge f j) 0 ≡ w.count (slot_edge f j)
    count-at j h = values_at w.count 6 (slot_edge f j) 0 (slot-edge f j S.lt h).lt

    join_is : join_on N counts bases edges f x ≡ join_at w f x
    unfolding join_on join_at index
    join_is =
        rw (edge_at x l, count-at 0 (omega arith), count-at 1 (omega arith), count-at 2 (omega arith), values_at (base w) 6 (edge w x) 0 ((lay w).edge_lt x l)) refl

    mate_is : mate_on N counts bases edges f x ≡ mate w f x
    unfolding mate_on joined_on
    mate_is =
        ⊎_elim
        (λ q. ap (joined_on N counts bases edges f) (join_is ∙ q.2)
        ∙ ap (λ b. b + q.1) (values_at (base w) 6 (slot_edge f q.0) 0 (slot-edge f q.0 S.lt (joined_edge w f x q.2)).lt)
        ∙ sym (mate_joined w f x q.2))
        (λ q. ap (joined_on N counts bases edges f) (join_is ∙ q) ∙ sym (mate_unjoined w f x q))
        (mate_cases w f x l S)

  abbrev fa : ℕ → ℕ
  fa x = first_slot (get_or edges x 0)

  abbrev fb : ℕ → ℕ
  fb x = second_slot (get_or edges x 0)

  land_is : (f y : ℕ) → walks.land N fa fb (mate_on N counts bases edges) f y ≡ walks.land N (first_slot_at w) (second_slot_at w) (mate w) f y
  unfolding walks.land
  land_is f y = elim (dec_lt y N) [ yes h ↦ rw (edge_at y h) refl | no h ↦ rw (le-ltb y N (omega arith)) refl ]

  quick_is : (d : ℕ) → d < 2 * N → quick d ≡ step w d
  unfolding step_on walks.step walks.face slot
  quick_is d l =
      rw (edge_at (d / 2) (omega arith))
      (land_is (slot w d) (mate_on N counts bases edges (slot w d) (d / 2))
      ∙ ap (walks.land N (first_slot_at w) (second_slot_at w) (mate w) (slot w d)) (mate_is (d / 2) (omega arith) (slot w d) (slot_has w d l))
      ∙ sym (step_is w d))

  next-is : (d : ℕ) → d < 2 * N → step w d ≡ next d
  next-is d l = sym (values_at quick (2 * N) d 0 l ∙ quick_is d l)

  module _ (p : ℕ) (l : p < N) where
    abbrev n : ℕ
    n = loop_size w p

    size_is : walk.size N next p ≡ n
    unfolding loop_size
    size_is = sym (size_ext N (step w) next next-is p l)

    abbrev folded_on : ℕ → Bool
    folded_on d = eqb (get_or edges (d / 2) 0) (get_or edges (next d / 2) 0)

    dart_is : (k : ℕ) → k < n → dart w p k ≡ it next k (2 * p)
    unfolding dart
    dart_is k h = it_ext N (step w) next next-is k (2 * p) (λ i q. dart_live w p l i (omega arith))

    folded_is : (k : ℕ) → k < n → folded_on (it next k (2 * p)) ≡ folded w (dart w p k)
    folded_is k h =
        let d = dart w p k in
        let ld = dart_live w p l k h in
        let le : step w d < 2 * N = rw (← dart_after w p l k h) (dart_live w p l (after n k) (after_lt n k h)) in
        ap folded_on (sym (dart_is k h))
        ∙ ap₂ eqb (edge_at (d / 2) (omega arith)) (ap (λ e. get_or edges (e / 2) 0) (sym (next-is d ld)) ∙ edge_at (step w d / 2) (omega arith))
        ∙ sym (folded_ends w d ld le)

    normal_is : normal_on N edges steps p n ≡ normal w p
    unfolding normal_on normal
    normal_is =
        ap (λ i. eqb i 0)
        (tally_orbit folded_on next n (2 * p)
        ∙ total_ext (λ k. one (folded_on (it next k (2 * p)))) (λ k. one (folded w (dart w p k))) n 0 (λ k _ q. ap one (folded_is k (omega arith)))
        ∙ sym (tally_darts w p l (folded w)))

  abbrev sizes : List ℕ
  sizes = values (walk.size N next) N

  size_at : (p : ℕ) → p < N → get_or sizes p 0 ≡ loop_size w p
  size_at p l = values_at (walk.size N next) N p 0 l ∙ size_is p l

  loops_are : tally (ltb 0) sizes ≡ loop_count w
  unfolding loop_count leasts kept tally
  loops_are =
      tally_over (ltb 0) (λ i. walk.size N next i ∷ []) N 0
      ∙ total_ext (λ p. one (ltb 0 (walk.size N next p)) + 0) (λ p. length (pick (ltb 0 (loop_size w p)) (p ∷ []) [])) N 0 (λ p _ q. ap (λ m. one (ltb 0 m) + 0) (size_is p (omega arith)) ∙ single p (ltb 0 (loop_size w p)))
      ∙ sym (length_over (λ p. pick (ltb 0 (loop_size w p)) (p ∷ []) []) N 0)
    where
      single : (p : ℕ) (b : Bool) → one b + 0 ≡ length (pick b (p ∷ []) [])
      single p true = refl
      single p false = refl

  triangles_are : total (λ p. many_of (shape_of (get_or sizes p 0) (normal_on N edges steps p (get_or sizes p 0))) (get_or sizes p 0)) N 0 ≡ triangle_count w
  unfolding triangle_count many_from
  triangles_are =
      total_ext (λ p. many_of (shape_of (get_or sizes p 0) (normal_on N edges steps p (get_or sizes p 0))) (get_or sizes p 0)) (many_from w) N 0
      (λ p _ q. let l : p < N = omega arith in
      ap (λ m. many_of (shape_of m (normal_on N edges steps p m)) m) (size_at p l) ∙ ap (λ b. many_of (shape_of (loop_size w p) b) (loop_size w p)) (normal_is p l))

  pub both_are : both w ≡ loop_count w ∷ triangle_count w ∷ []
  unfolding both both_by both_on counts_on sizes_on
  both_are = ap₂ (λ m k. m ∷ k ∷ []) loops_are triangles_are
