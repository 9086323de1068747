-- What holds of every edge and every slot of a cell: each fact is a computed test over the edges, the slots or both, lifted to any of them.
use Prim.Native.Nat.{ℕ, ◌+◌, ◌-◌, ◌<◌, ◌≤◌}
use mathlib.Core.Path.{◌≡◌, refl, sym, ◌∙◌}
use mathlib.Core.Logic.{◌⊎◌, inl, inr, ⊎_elim, ◌≢◌}
use mathlib.Core.Bool.{Bool, true, not, ◌&&◌, ◌||◌}
use native.Mathlib.Omega.{arith}
use native.Mathlib.Decide.{dec_lt}
use lib.Dec.{eqb, ltb}
use borrow.Author.Tests.{eqb-true, eqb-false, ltb-true, eq-eqb, lt-ltb, le-ltb, not-true}
use Rattle.counting.specs.Pick.{pick}
use Rattle.counting.specs.Search.{every}
use Rattle.counting.proofs.Bools.{clash, and_left, and_right, or_cases, imply}
use Rattle.counting.proofs.Search.{every_is, is_every}
pub use Rattle.slots.specs.claims.Claims.{SlotEdge, EdgeSlot, TwoSlots, Third}
use Rattle.slots.specs.Slots.{lo, hi, position, lower, upper, edge_between, slot_edge, edge_rank, contains, first_slot, second_slot}
use Rattle.slots.specs.claims.Slots.{rank_in, third_position, other_slot}

-- a test of two numbers, for any of them
module _ (m n : ℕ) (t : ℕ → ℕ → Bool) (passes : every (λ a. every (t a) n) m ≡ true) where
  pub each : (a b : ℕ) → a < m → b < n → t a b ≡ true
  each a b la lb = every_is (t a) n (every_is (λ a. every (t a) n) m passes a la) b lb

-- a test of each slot with each edge that it contains
module _ (t : ℕ → ℕ → Bool) (passes : every (λ k. every (λ s. not (contains k s) || t k s) 4) 6 ≡ true) where
  each_in : (k s : ℕ) → k < 6 → s < 4 → contains k s ≡ true → t k s ≡ true
  each_in k s lk ls h = imply (contains k s) (t k s) h (each 6 4 (λ k s. not (contains k s) || t k s) passes k s lk ls)

-- which of two numbers it is
either : (a b n : ℕ) → (eqb a n || eqb b n) ≡ true → (a ≡ n) ⊎ (b ≡ n)
either a b n e = ⊎_elim (λ q. inl (eqb-true a n q)) (λ q. inr (eqb-true b n q)) (or_cases (eqb a n) (eqb b n) e)

pub slot-edge : (s j : ℕ) → s < 4 → j < 3 → SlotEdge s j
unfolding every slot_edge edge_rank first_slot second_slot contains position
slot-edge s j ls lj = record {
  lt = ltb-true (slot_edge s j) 6 (each 4 3 (λ s j. ltb (slot_edge s j) 6) refl s j ls lj);
  place_is = eqb-true (edge_rank s (slot_edge s j)) j (each 4 3 (λ s j. eqb (edge_rank s (slot_edge s j)) j) refl s j ls lj);
  on = either (first_slot (slot_edge s j)) (second_slot (slot_edge s j)) s
      (each 4 3 (λ s j. eqb (first_slot (slot_edge s j)) s || eqb (second_slot (slot_edge s j)) s) refl s j ls lj);
  lo_is = eqb-true (lo (slot_edge s j)) (position s (lower j)) (each 4 3 (λ s j. eqb (lo (slot_edge s j)) (position s (lower j))) refl s j ls lj);
  hi_is = eqb-true (hi (slot_edge s j)) (position s (upper j)) (each 4 3 (λ s j. eqb (hi (slot_edge s j)) (position s (upper j))) refl s j ls lj);
  within = each 4 3 (λ s j. contains (slot_edge s j) s) refl s j ls lj;
}

-- the slots that contain an edge
module _ (k s : ℕ) (lk : k < 6) (ls : s < 4) (h : contains k s ≡ true) where
  pub edge_slot : EdgeSlot k s
  unfolding every contains slot_edge edge_rank
  edge_slot = record {
    lt = ls;
    place_lt = ltb-true (edge_rank s k) 3 (each_in (λ k s. ltb (edge_rank s k) 3) refl k s lk ls h);
    edge_is = eqb-true (slot_edge s (edge_rank s k)) k (each_in (λ k s. eqb (slot_edge s (edge_rank s k)) k) refl k s lk ls h);
  }

  pub one_of_two : (first_slot k ≡ s) ⊎ (second_slot k ≡ s)
  unfolding every contains first_slot second_slot
  one_of_two = either (first_slot k) (second_slot k) s (each_in (λ k s. eqb (first_slot k) s || eqb (second_slot k) s) refl k s lk ls h)

  pub third_of : Third k s
  unfolding every contains lo hi
  third_of = record {
    lt = ltb-true (third_position k s) 4 (each_in (λ k s. ltb (third_position k s) 4) refl k s lk ls h);
    not_omitted = eqb-false (third_position k s) s (not-true _ (each_in (λ k s. not (eqb (third_position k s) s)) refl k s lk ls h));
    not_lo = eqb-false (third_position k s) (lo k) (not-true _ (each_in (λ k s. not (eqb (third_position k s) (lo k))) refl k s lk ls h));
    not_hi = eqb-false (third_position k s) (hi k) (not-true _ (each_in (λ k s. not (eqb (third_position k s) (hi k))) refl k s lk ls h));
    other = each_in (λ k s. contains k (other_slot k s)) refl k s lk ls h;
    back = eqb-true (other_slot k (other_slot k s)) s (each_in (λ k s. eqb (other_slot k (other_slot k s)) s) refl k s lk ls h);
    only = λ t lt i. ⊎_elim (λ q. inl (sym q)) (λ q. inr (sym q)) (either s (other_slot k s) t
        (imply (contains k t) (eqb s t || eqb (other_slot k s) t) i
        (every_is (λ t. not (contains k t) || (eqb s t || eqb (other_slot k s) t)) 4
        (each_in (λ k s. every (λ t. not (contains k t) || (eqb s t || eqb (other_slot k s) t)) 4) refl k s lk ls h) t lt)));
  }

pub two_slots : (k : ℕ) → k < 6 → TwoSlots k
unfolding every contains first_slot second_slot lo hi
two_slots k l = record {
  first_lt = ltb-true (first_slot k) 4 (every_is (λ k. ltb (first_slot k) 4) 6 refl k l);
  second_lt = ltb-true (second_slot k) 4 (every_is (λ k. ltb (second_slot k) 4) 6 refl k l);
  first_has = every_is (λ k. contains k (first_slot k)) 6 refl k l;
  second_has = every_is (λ k. contains k (second_slot k)) 6 refl k l;
  apart = ltb-true (second_slot k) (first_slot k) (every_is (λ k. ltb (second_slot k) (first_slot k)) 6 refl k l);
  lower_third = ltb-true (third_position k (first_slot k)) (third_position k (second_slot k)) (every_is (λ k. ltb (third_position k (first_slot k)) (third_position k (second_slot k))) 6 refl k l);
  rising = ltb-true (lo k) (hi k) (every_is (λ k. ltb (lo k) (hi k)) 6 refl k l);
  within = ltb-true (hi k) 4 (every_is (λ k. ltb (hi k) 4) 6 refl k l);
}

pub first-slot : (k : ℕ) → k < 6 → EdgeSlot k (first_slot k)
first-slot k l = edge_slot k (first_slot k) l (two_slots k l).first_lt (two_slots k l).first_has

pub second-slot : (k : ℕ) → k < 6 → EdgeSlot k (second_slot k)
second-slot k l = edge_slot k (second_slot k) l (two_slots k l).second_lt (two_slots k l).second_has

-- positions and ranks in a slot, case by case
module _ (s i : ℕ) where
  pub corner_low : i < s → i ≡ position s i
  unfolding position
  corner_low h = rw (lt-ltb i s h)

  pub corner_high : s ≤ i → i + 1 ≡ position s i
  unfolding position
  corner_high h = rw (le-ltb i s h) (omega arith)

  pub rank_low : i < s → i ≡ rank_in s i
  rank_low h = rw (lt-ltb i s h)

  pub rank_high : s ≤ i → i - 1 ≡ rank_in s i
  rank_high h = rw (le-ltb i s h)

-- they tell each other
pub corner_lt : (s i : ℕ) → i < 3 → position s i < 4
corner_lt s i l = elim (dec_lt i s) [ yes h ↦ omega (arith, corner_low s i h) | no h ↦ omega (arith, corner_high s i (omega arith)) ]

pub omitted : (s i : ℕ) → position s i ≢ s
omitted s i e = elim (dec_lt i s) [ yes h ↦ omega (arith, corner_low s i h) | no h ↦ omega (arith, corner_high s i (omega arith)) ]

pub corners_rise : (s i j : ℕ) → i < j → position s i < position s j
corners_rise s i j l =
    elim (dec_lt j s) [
      | yes h ↦ omega (arith, corner_low s i (omega arith), corner_low s j h)
      | no h ↦ elim (dec_lt i s) [
        | yes k ↦ omega (arith, corner_low s i k, corner_high s j (omega arith))
        | no k ↦ omega (arith, corner_high s i (omega arith), corner_high s j (omega arith))
      ]
    ]

pub rank-of : (s i : ℕ) → s < 4 → i < 4 → i ≢ s → (rank_in s i < 3) × (position s (rank_in s i) ≡ i)
rank-of s i ls li n =
    elim (dec_lt i s) [
      | yes h ↦ let e = rank_low s i h in (omega arith, rw (← e) (sym (corner_low s i h)))
      | no h ↦ let e = rank_high s i (omega arith) in (omega arith, rw (← e) (sym (corner_high s (i - 1) (omega arith)) ∙ omega arith))
    ]

-- edge j of a slot has its third position at the rank 2 - j
pub slot_rank : (s j : ℕ) → s < 4 → j < 3 → rank_in s (third_position (slot_edge s j) s) ≡ 2 - j
unfolding every slot_edge lo hi
slot_rank s j ls lj = eqb-true _ _ (each 4 3 (λ s j. eqb (rank_in s (third_position (slot_edge s j) s)) (2 - j)) refl s j ls lj)

-- the positions of a slot tell it
pub same_slot : (s t : ℕ) → s < 4 → t < 4 → ((i : ℕ) → i < 3 → position s i ≡ position t i) → s ≡ t
unfolding every position
same_slot s t ls lt h =
    ⊎_elim (λ (e : eqb s t ≡ true). eqb-true s t e)
    (λ (e : not (every (λ i. eqb (position s i) (position t i)) 3) ≡ true).
    clash (is_every (λ i. eqb (position s i) (position t i)) 3 (λ i l. eq-eqb (position s i) (position t i) (h i l))) (not-true _ e))
    (or_cases (eqb s t) (not (every (λ i. eqb (position s i) (position t i)) 3))
    (each 4 4 (λ s t. eqb s t || not (every (λ i. eqb (position s i) (position t i)) 3)) refl s t ls lt))

-- two positions and their edge
pub edge_pair : (a b : ℕ) → a < b → b < 4 → (edge_between a b < 6) × (lo (edge_between a b) ≡ a) × (hi (edge_between a b) ≡ b)
unfolding every edge_between lo hi
edge_pair a b l h = (
  ltb-true _ _ (rising (λ a b. ltb (edge_between a b) 6) refl),
  eqb-true _ _ (rising (λ a b. eqb (lo (edge_between a b)) a) refl),
  eqb-true _ _ (rising (λ a b. eqb (hi (edge_between a b)) b) refl),
)
  where
    rising : (t : ℕ → ℕ → Bool) → every (λ a. every (λ b. not (ltb a b) || t a b) 4) 4 ≡ true → t a b ≡ true
    rising t passes = imply (ltb a b) (t a b) (lt-ltb a b l) (each 4 4 (λ a b. not (ltb a b) || t a b) passes a b (omega arith) h)

-- earlier edges have earlier ends, by the lower and then the higher
pub edge_order : (k l : ℕ) → k < l → l < 6 → (lo k < lo l) ⊎ ((lo k ≡ lo l) × (hi k < hi l))
unfolding every lo hi
edge_order k l h ll =
    ⊎_elim (λ (q : ltb (lo k) (lo l) ≡ true). inl (ltb-true (lo k) (lo l) q))
    (λ (q : (eqb (lo k) (lo l) && ltb (hi k) (hi l)) ≡ true).
    inr (eqb-true (lo k) (lo l) (and_left _ (ltb (hi k) (hi l)) q), ltb-true (hi k) (hi l) (and_right (eqb (lo k) (lo l)) _ q)))
    (or_cases (ltb (lo k) (lo l)) (eqb (lo k) (lo l) && ltb (hi k) (hi l))
    (imply (ltb k l) (ltb (lo k) (lo l) || (eqb (lo k) (lo l) && ltb (hi k) (hi l))) (lt-ltb k l h)
    (each 6 6 (λ k l. not (ltb k l) || (ltb (lo k) (lo l) || (eqb (lo k) (lo l) && ltb (hi k) (hi l)))) refl k l (omega arith) ll)))

-- the ends of a face's edges are two of its three positions
pub face_ends : (j : ℕ) → j < 3 → (lower j < upper j) × (upper j < 3)
unfolding every lower upper
face_ends j l = (
  ltb-true (lower j) (upper j) (every_is (λ j. ltb (lower j) (upper j)) 3 refl j l),
  ltb-true (upper j) 3 (every_is (λ j. ltb (upper j) 3) 3 refl j l),
)

-- the sum of an edge's ends, from which its other slot is found
pub ends_sum : (k : ℕ) → k < 6 → lo k + hi k ≡ pick (ltb k 3) (k + 1) k
unfolding every lo hi
ends_sum k l = eqb-true _ _ (every_is (λ k. eqb (lo k + hi k) (pick (ltb k 3) (k + 1) k)) 6 refl k l)

-- the lower of an edge's two slots
pub second_is : (k : ℕ) → k < 6 → pick (eqb k 0) 2 (pick (ltb k 3) 1 0) ≡ second_slot k
unfolding every second_slot
second_is k l = eqb-true _ _ (every_is (λ k. eqb (pick (eqb k 0) 2 (pick (ltb k 3) 1 0)) (second_slot k)) 6 refl k l)
