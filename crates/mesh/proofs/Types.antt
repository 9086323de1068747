-- A loop has an even number of crossings on each face, so that its type is the same from each node.
use Prim.Native.Nat.{ℕ, ◌+◌, ◌/◌, ◌%◌, ◌<◌}
use mathlib.Core.Path.{◌≡◌, refl, sym, ap, ap₂, ◌∙◌}
use mathlib.Core.Logic.{⊎_elim}
use mathlib.Core.Bool.{Bool, true, not, ◌||◌}
use mathlib.Core.List.{[], ◌∷◌}
use native.Mathlib.Omega.{arith}
use lib.Dec.{eqb, ltb}
use lib.ListN.{get_or}
use borrow.Author.Tests.{eqb-true, ltb-true}
use Rattle.counting.specs.Lists.{one, total, after, seek}
use Rattle.counting.specs.Search.{every, first}
use Rattle.counting.proofs.Bools.{imply}
use Rattle.counting.proofs.Search.{every_is}
use Rattle.counting.proofs.Below.{below_six}
use Rattle.counting.proofs.Range.{total_ext, total_add, total_round, after_lt}
use Rattle.slots.specs.Slots.{lo, hi, position, lower, upper, edge_between, slot_edge, contains}
use Rattle.slots.specs.claims.Slots.{other_slot}
use Rattle.slots.proofs.Slots.{third_of}
use Rattle.cell.specs.Cell.{Edges, crossings, edge, slot}
use Rattle.cell.specs.Loop.{loop_size, dart, parity, node_with, type_by, type_of}
use Rattle.cell.specs.Nodes.{joining}
use Rattle.cell.specs.claims.Claims.{StepOf}
use Rattle.cell.proofs.Claims.{cell_laws}
use Rattle.cell.proofs.Loops.{dart_live, dart_after, tally_darts}
use Rattle.mesh.specs.claims.Types.{type_from, apart, crossings_on, TypeLaws, TypesTold, TypeExamples}

-- THE CROSSINGS ON A FACE

abbrev slots_tell : ℕ → ℕ → ℕ → Bool
slots_tell k s a = eqb (one (contains k s)) (one (eqb a s) + one (eqb (other_slot k a) s))

-- the two slots of an edge, and no other, contain it
two_slots : (k s a : ℕ) → k < 6 → s < 4 → a < 4 → contains k a ≡ true → one (contains k s) ≡ one (eqb a s) + one (eqb (other_slot k a) s)
unfolding every contains lo hi
two_slots k s a lk ls la h =
    eqb-true _ _ (imply (contains k a) (slots_tell k s a) h
    (every_is (λ a. not (contains k a) || slots_tell k s a) 4 (every_is (λ s. every (λ a. not (contains k a) || slots_tell k s a) 4) 4
    (every_is (λ k. every (λ s. every (λ a. not (contains k a) || slots_tell k s a) 4) 4) 6 refl k lk) s ls) a la))

abbrev edges_tell : ℕ → ℕ → Bool
edges_tell k s = eqb (one (eqb k (slot_edge s 0)) + one (eqb k (slot_edge s 1)) + one (eqb k (slot_edge s 2))) (one (contains k s))

-- the edges of a slot are those that it contains
slot_edges : (k s : ℕ) → k < 6 → s < 4 → one (eqb k (slot_edge s 0)) + one (eqb k (slot_edge s 1)) + one (eqb k (slot_edge s 2)) ≡ one (contains k s)
unfolding every contains slot_edge
slot_edges k s lk ls =
    eqb-true _ _ (every_is (edges_tell k) 4 (every_is (λ k. every (edges_tell k) 4) 6 refl k lk) s ls)

module _ (w : Edges) (p : ℕ) (l : p < crossings w) where
  abbrev n : ℕ
  n = loop_size w p

  abbrev at : ℕ → ℕ
  at k = dart w p k

  goes : (k : ℕ) → k < n → StepOf w (at k)
  goes k h =
      (cell_laws w []).follows (at k) (dart_live w p l k h)
      (rw (← dart_after w p l k h) (dart_live w p l (after n k) (after_lt n k h)))

  module _ (s : ℕ) (ls : s < 4) where
    abbrev on : ℕ → ℕ
    on k = one (contains (edge w (at k / 2)) s)

    abbrev by : ℕ → ℕ
    by k = one (eqb (slot w (at k)) s)

    -- the crossing that a step comes to is on the face that it went by, and on the one that the next step goes by
    two : (k : ℕ) → k < n → on (after n k) ≡ by k + by (after n k)
    two k h =
        let S = goes k h in
        let T = goes (after n k) (after_lt n k h) in
        let e = dart_after w p l k h in
        let there : contains (edge w (at (after n k) / 2)) (slot w (at k)) ≡ true = rw e S.there.on in
        let lt = (cell_laws w []).lay.edge_lt (at (after n k) / 2) T.lies.inside in
        let other : slot w (at (after n k)) ≡ other_slot (edge w (at (after n k) / 2)) (slot w (at k)) =
        ⊎_elim (λ (q : slot w (at (after n k)) ≡ slot w (at k)). absurd (S.turned (rw (← e) (sym q)))) (λ q. q)
        ((third_of (edge w (at (after n k) / 2)) (slot w (at k)) lt S.lies.slot_lt there).only (slot w (at (after n k))) T.lies.slot_lt T.lies.on) in
        two_slots (edge w (at (after n k) / 2)) s (slot w (at k)) lt ls S.lies.slot_lt there
        ∙ ap (λ x. one (eqb (slot w (at k)) s) + one (eqb x s)) (sym other)

    twice : total on n 0 ≡ total by n 0 + total by n 0
    twice =
        sym (total_round on n)
        ∙ total_ext (λ k. on (after n k)) (λ k. by k + by (after n k)) n 0 (λ k _ h. two k (omega arith))
        ∙ total_add by (λ k. by (after n k)) n 0
        ∙ ap (λ m. total by n 0 + m) (total_round by n)

    abbrev one_on : ℕ → ℕ → ℕ
    one_on j k = one (eqb (edge w (at k / 2)) (slot_edge s j))

    counted : crossings_on w p (slot_edge s 0) + crossings_on w p (slot_edge s 1) + crossings_on w p (slot_edge s 2) ≡ total on n 0
    counted =
        ap₂ ◌+◌ (ap₂ ◌+◌ (each 0) (each 1)) (each 2)
        ∙ ap (λ m. m + total (one_on 2) n 0) (sym (total_add (one_on 0) (one_on 1) n 0))
        ∙ sym (total_add (λ k. one_on 0 k + one_on 1 k) (one_on 2) n 0)
        ∙ total_ext (λ k. one_on 0 k + one_on 1 k + one_on 2 k) on n 0
        (λ k _ h. slot_edges (edge w (at k / 2)) s ((cell_laws w []).lay.edge_lt (at k / 2) (goes k (omega arith)).lies.inside) ls)
      where
        each : (j : ℕ) → crossings_on w p (slot_edge s j) ≡ total (one_on j) n 0
        each j = tally_darts w p l (λ d. eqb (edge w (d / 2)) (slot_edge s j))

    even_face : (crossings_on w p (slot_edge s 0) + crossings_on w p (slot_edge s 1) + crossings_on w p (slot_edge s 2)) % 2 ≡ 0
    even_face = omega (arith, counted, twice)

-- THE TYPE FROM ANY NODE

-- the parities on all edges, from those at the lowest node
abbrev six : ℕ → ℕ → ℕ → ℕ → ℕ
six x y z k = get_or (x ∷ y ∷ z ∷ (x + y) % 2 ∷ (x + z) % 2 ∷ (y + z) % 2 ∷ []) k 0

abbrev types_tell : ℕ → ℕ → ℕ → ℕ → ℕ → Bool
types_tell x y z u k = eqb ((one (apart (six x y z) u (lo k)) + one (apart (six x y z) u (hi k))) % 2) (six x y z k)

told : (x y z u k : ℕ) → x < 2 → y < 2 → z < 2 → u < 4 → k < 6 → (one (apart (six x y z) u (lo k)) + one (apart (six x y z) u (hi k))) % 2 ≡ six x y z k
unfolding every first seek type_from apart type_by node_with joining edge_between position lo hi
told x y z u k lx ly lz lu lk =
    eqb-true _ _
    (every_is (types_tell x y z u) 6 (every_is (λ u. every (types_tell x y z u) 6) 4 (every_is (λ z. every (λ u. every (types_tell x y z u) 6) 4) 2
    (every_is (λ y. every (λ z. every (λ u. every (types_tell x y z u) 6) 4) 2) 2
    (every_is (λ x. every (λ y. every (λ z. every (λ u. every (types_tell x y z u) 6) 4) 2) 2) 2 refl x lx) y ly) z lz) u lu) k lk)

-- the edges from a node
from_lt : (u i : ℕ) → u < 4 → i < 3 → joining u (position u i) < 6
unfolding every first seek joining edge_between position lo hi
from_lt u i lu li = ltb-true _ _ (every_is (λ i. ltb (joining u (position u i)) 6) 3 (every_is (λ u. every (λ i. ltb (joining u (position u i)) 6) 3) 4 refl u lu) i li)

-- parities that agree on the six edges give the same type
module _ (q r : ℕ → ℕ) (same : (k : ℕ) → k < 6 → q k ≡ r k) (u : ℕ) (lu : u < 4) where
  same_type : type_from q u ≡ type_from r u
  unfolding type_from
  same_type =
      rw (
        same (joining u (position u 0)) (from_lt u 0 lu (omega arith)),
        same (joining u (position u 1)) (from_lt u 1 lu (omega arith)),
        same (joining u (position u 2)) (from_lt u 2 lu (omega arith)),
      )

  same_apart : (i : ℕ) → apart q u i ≡ apart r u i
  unfolding apart
  same_apart i = rw same_type

module _ (w : Edges) (p : ℕ) (l : p < crossings w) where
  abbrev q : ℕ → ℕ
  q = parity w p

  agree : (k : ℕ) → k < 6 → q k ≡ six (q 0) (q 1) (q 2) k
  unfolding parity slot_edge edge_between first seek position lower upper lo hi
  agree =
      below_six (λ k. q k ≡ six (q 0) (q 1) (q 2) k) refl refl refl
      (omega (arith, even_face w p l 3 (omega arith)))
      (omega (arith, even_face w p l 2 (omega arith)))
      (omega (arith, even_face w p l 1 (omega arith)))

  less : (k : ℕ) → q k < 2
  unfolding parity
  less k = omega arith

  type_laws : TypeLaws w p
  unfolding type_from type_of joining edge_between first seek position lo hi
  type_laws = record {
    even = even_face w p l;
    sides = λ u k lu lk.
        ap₂ (λ a b. (one a + one b) % 2) (same_apart q (six (q 0) (q 1) (q 2)) agree u lu (lo k)) (same_apart q (six (q 0) (q 1) (q 2)) agree u lu (hi k))
        ∙ told (q 0) (q 1) (q 2) u k (less 0) (less 1) (less 2) lu lk
        ∙ sym (agree k lk);
    lowest = refl;
  }

pub types_told : TypesTold
types_told w p l = type_laws w p l

pub type_examples : TypeExamples
unfolding type_from type_by node_with joining edge_between first seek position lo hi
type_examples = record { corner = refl; diagonal = refl; upper_corner = refl; contractible = refl }
