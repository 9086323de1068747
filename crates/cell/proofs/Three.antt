-- A loop of three segments runs round a node of the cell: its segments lie on three slots, and its points on the three edges at that node.
use Prim.Native.Nat.{ℕ, ◌+◌, ◌*◌, ◌/◌, ◌%◌, ◌<◌}
use mathlib.Core.Path.{◌≡◌, refl, sym, ap, ◌∙◌}
use mathlib.Core.Logic.{◌⊎◌, inl, inr, ◌≢◌, ⊎_elim}
use mathlib.Core.Bool.{Bool, true, false, not, ◌&&◌, ◌||◌}
use mathlib.Core.List.{List}
use native.Mathlib.Omega.{arith}
use lib.Dec.{eqb}
use lib.ListN.{get_or}
use borrow.Author.Tests.{eqb-true, eq-eqb, ne_eqb, not-true}
use Rattle.counting.specs.Lists.{one, total, tally, it}
use Rattle.counting.specs.Search.{first as least, every}
use Rattle.counting.proofs.Bools.{and_left, and_right, or_cases}
use Rattle.counting.proofs.Search.{every_is}
use Rattle.slots.specs.Slots.{contains}
use Rattle.cell.specs.Cell.{Edges, crossings, edge, slot, step}
use Rattle.cell.specs.Loop.{loop_size, dart, loop_darts, folded, normal, parity, type_by, type_of}
use Rattle.cell.proofs.Lay.{lay}
use Rattle.cell.proofs.Mates.{slot_has}
use Rattle.cell.proofs.Follow.{contained, next_on, next_apart}
use Rattle.cell.proofs.Folds.{folded_ends}
use Rattle.cell.proofs.Loops.{the_loop, dart_live, tally_darts}

-- the edge that two slots share
edge_in : ℕ → ℕ → ℕ
edge_in s t = least (λ k. contains k s && contains k t) 6

share_test : ℕ → ℕ → ℕ → Bool
share_test s t k = eqb s t || (not (contains k s) || (not (contains k t) || eqb k (edge_in s t)))

share_pass : every (λ s. every (λ t. every (share_test s t) 6) 4) 4 ≡ true
unfolding every share_test edge_in least contains
share_pass = refl

shared : (s t k : ℕ) → s < 4 → t < 4 → k < 6 → s ≢ t → contains k s ≡ true → contains k t ≡ true → k ≡ edge_in s t
unfolding share_test
shared s t k ls lt lk n a b =
    let e = every_is (share_test s t) 6 (every_is (λ t. every (share_test s t) 6) 4 (every_is (λ s. every (λ t. every (share_test s t) 6) 4) 4 share_pass s ls) t lt) k lk in
    let f = rw (ne_eqb s t n, a, b) at e in
    eqb-true k (edge_in s t) f

-- the crossings on the edges from the lowest node, mod 2
abbrev par : ℕ → ℕ → ℕ → ℕ → ℕ
par e f g k = (one (eqb e k) + (one (eqb f k) + (one (eqb g k) + 0))) % 2

abbrev pars : ℕ → ℕ → ℕ → ℕ
pars e f g = par e f g 0 + par e f g 1 + par e f g 2

round_test : ℕ → ℕ → ℕ → Bool
round_test e f g = (not (eqb e f) && (not (eqb f g) && not (eqb g e))) && (eqb (pars e f g) 1 || eqb (pars e f g) 3)

three_test : ℕ → ℕ → ℕ → Bool
three_test s t u = eqb s t || (eqb t u || (eqb u s || round_test (edge_in u s) (edge_in s t) (edge_in t u)))

three_pass : every (λ s. every (λ t. every (three_test s t) 4) 4) 4 ≡ true
unfolding every three_test round_test edge_in least contains
three_pass = refl

round : (s t u : ℕ) → s < 4 → t < 4 → u < 4 → s ≢ t → t ≢ u → u ≢ s → round_test (edge_in u s) (edge_in s t) (edge_in t u) ≡ true
unfolding three_test
round s t u ls lt lu a b d =
    let e = every_is (three_test s t) 4 (every_is (λ t. every (three_test s t) 4) 4 (every_is (λ s. every (λ t. every (three_test s t) 4) 4) 4 three_pass s ls) t lt) u lu in
    rw (ne_eqb s t a, ne_eqb t u b, ne_eqb u s d) at e

module _ (w : Edges) where
  abbrev N : ℕ
  N = crossings w

  module _ (p : ℕ) (l : p < N) (three : loop_size w p ≡ 3) where
    d0 : ℕ
    d0 = dart w p 0

    d1 : ℕ
    d1 = dart w p 1

    d2 : ℕ
    d2 = dart w p 2

    one_two : d1 ≡ step w d0
    unfolding d0 d1 dart it
    one_two = refl

    two_three : d2 ≡ step w d1
    unfolding d1 d2 dart it
    two_three = refl

    three_one : d0 ≡ step w d2
    unfolding d0 d2 dart it
    three_one = sym (ap (λ n. it (step w) n (2 * p)) (sym three) ∙ (the_loop w p l (omega arith)).home)

    live : (k : ℕ) → k < 3 → dart w p k < 2 * N
    live k h = dart_live w p l k (omega arith)

    abbrev e0 : ℕ
    e0 = edge w (d0 / 2)

    abbrev e1 : ℕ
    e1 = edge w (d1 / 2)

    abbrev e2 : ℕ
    e2 = edge w (d2 / 2)

    -- the edge of a dart is shared by the slots that it comes by and leaves by
    between : (d e : ℕ) → d < 2 * N → e < 2 * N → e ≡ step w d → edge w (e / 2) ≡ edge_in (slot w d) (slot w e)
    between d e ld le q =
        let on : step w d < 2 * N = rw (← q) le in
        let a = next_on w d ld on in
        shared (slot w d) (slot w e) (edge w (e / 2)) (slot_has w d ld).lt (slot_has w e le).lt ((lay w).edge_lt (e / 2) (omega arith))
        (λ f. next_apart w d ld on (f ∙ ap (slot w) q)) (rw (← q) at a) (contained (slot_has w e le))

    apart : (d e : ℕ) → d < 2 * N → e < 2 * N → e ≡ step w d → slot w d ≢ slot w e
    apart d e ld le q f = next_apart w d ld (rw (← q) le) (f ∙ ap (slot w) q)

    l0 : d0 < 2 * N
    unfolding d0
    l0 = live 0 (omega arith)

    l1 : d1 < 2 * N
    unfolding d1
    l1 = live 1 (omega arith)

    l2 : d2 < 2 * N
    unfolding d2
    l2 = live 2 (omega arith)

    passes : round_test e0 e1 e2 ≡ true
    passes =
        rw (between d2 d0 l2 l0 three_one, between d0 d1 l0 l1 one_two, between d1 d2 l1 l2 two_three)
        (round (slot w d0) (slot w d1) (slot w d2) (slot_has w d0 l0).lt (slot_has w d1 l1).lt (slot_has w d2 l2).lt
        (apart d0 d1 l0 l1 one_two) (apart d1 d2 l1 l2 two_three) (apart d2 d0 l2 l0 three_one))

    abbrev A : Bool
    A = not (eqb e0 e1) && (not (eqb e1 e2) && not (eqb e2 e0))

    all_apart : A ≡ true
    unfolding round_test
    all_apart = and_left A (eqb (pars e0 e1 e2) 1 || eqb (pars e0 e1 e2) 3) passes

    -- what is tallied of three darts
    tally_three : (t : ℕ → Bool) → tally t (loop_darts w p) ≡ one (t d0) + (one (t d1) + (one (t d2) + 0))
    unfolding total d0 d1 d2
    tally_three t = tally_darts w p l t ∙ ap (λ n. total (λ k. one (t (dart w p k))) n 0) three

    pub three_normal : normal w p ≡ true
    unfolding normal
    three_normal =
        let a : eqb e0 e1 ≡ false = not-true (eqb e0 e1) (and_left (not (eqb e0 e1)) (not (eqb e1 e2) && not (eqb e2 e0)) all_apart) in
        let r = and_right (not (eqb e0 e1)) (not (eqb e1 e2) && not (eqb e2 e0)) all_apart in
        let b : eqb e1 e2 ≡ false = not-true (eqb e1 e2) (and_left (not (eqb e1 e2)) (not (eqb e2 e0)) r) in
        let d : eqb e2 e0 ≡ false = not-true (eqb e2 e0) (and_right (not (eqb e1 e2)) (not (eqb e2 e0)) r) in
        let x : folded w d0 ≡ false = folded_ends w d0 l0 (rw (← one_two) l1) ∙ ap (λ y. eqb e0 (edge w (y / 2))) (sym one_two) ∙ a in
        let y : folded w d1 ≡ false = folded_ends w d1 l1 (rw (← two_three) l2) ∙ ap (λ y. eqb e1 (edge w (y / 2))) (sym two_three) ∙ b in
        let z : folded w d2 ≡ false = folded_ends w d2 l2 (rw (← three_one) l0) ∙ ap (λ y. eqb e2 (edge w (y / 2))) (sym three_one) ∙ d in
        eq-eqb (tally (folded w) (loop_darts w p)) 0 (tally_three (folded w) ∙ omega (arith, ap one x, ap one y, ap one z))

    parity_three : (k : ℕ) → parity w p k ≡ par e0 e1 e2 k
    unfolding parity
    parity_three k = ap (λ x. x % 2) (tally_three (λ d. eqb (edge w (d / 2)) k))

    pub three_corner : (v : List ℕ) → (get_or (type_of w v p) 0 0 ≡ 1) ⊎ (get_or (type_of w v p) 0 0 ≡ 3)
    unfolding type_of type_by round_test
    three_corner v =
        rw (parity_three 0, parity_three 1, parity_three 2)
        (⊎_elim
        (λ (q : eqb (pars e0 e1 e2) 1 ≡ true). (let s = eqb-true (pars e0 e1 e2) 1 q in
        inl (rw (ne_eqb (pars e0 e1 e2) 0 (λ f. omega arith), ne_eqb (pars e0 e1 e2) 2 (λ f. omega arith), ne_eqb (pars e0 e1 e2) 3 (λ f. omega arith)) refl)))
        (λ (q : eqb (pars e0 e1 e2) 3 ≡ true). (let s = eqb-true (pars e0 e1 e2) 3 q in
        inr (rw (ne_eqb (pars e0 e1 e2) 0 (λ f. omega arith), ne_eqb (pars e0 e1 e2) 2 (λ f. omega arith), q) refl)))
        (or_cases (eqb (pars e0 e1 e2) 1) (eqb (pars e0 e1 e2) 3) (and_right A (eqb (pars e0 e1 e2) 1 || eqb (pars e0 e1 e2) 3) passes)))
