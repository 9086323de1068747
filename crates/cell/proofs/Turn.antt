-- The step of a cell by positions: from the k-th crossing from a on ab, left by the face abc, the curve comes to the k-th from a on ac where k is
-- below the corner count at a.
use Prim.Native.Nat.{ℕ, ◌+◌, ◌*◌, ◌-◌, ◌/◌, ◌<◌}
use mathlib.Core.Path.{◌≡◌, refl, sym, ap, ◌∙◌}
use mathlib.Core.Bool.{Bool, true, false}
use native.Mathlib.Omega.{arith}
use lib.Dec.{ltb}
use borrow.Author.Tests.{ltb-true, ltb-false, lt-ltb}
use Rattle.counting.specs.Pick.{pick}
use Rattle.slots.specs.Slots.{lo, hi, slot_edge, edge_rank, first_slot, second_slot, lower, upper}
use Rattle.slots.proofs.Slots.{EdgeSlot, two_slots, first-slot, second-slot}
use Rattle.walk.proofs.Step.{by_parity}
use Rattle.face.specs.Face.{joined, count_on, kth, corner_count_at}
use Rattle.face.specs.claims.Ends.{End, low, high}
use Rattle.face.proofs.Ends.{edge-of}
use Rattle.face.proofs.Gaps.{kth_lower, kth_upper}
use Rattle.face.proofs.Corner.{corner_le, corner_swap}
use Rattle.face.proofs.Claims.{face_laws}
use Rattle.cell.specs.Cell.{Edges, crossings, edge, index, slot, step}
use Rattle.cell.specs.claims.Half.{half_slot, edge_of, dart_number}
use Rattle.cell.specs.work.Dart.{Parts}
use Rattle.cell.proofs.Lay.{lay}
use Rattle.cell.proofs.Half.{half-slot, half_place, half-edge}
use Rattle.cell.proofs.Reach.{slot-count}
use Rattle.cell.proofs.Step.{join_on, number_first, number_second, number_half, slot_first, slot_second, step_joined, parts_number, parts_edge, parts_index, parts_slot}
use Rattle.cell.specs.claims.Nodes.{Arranged, kth_from, crossing_at, dart_at}
use Rattle.cell.specs.Nodes.{joining, count_between, corner_from}
use Rattle.cell.proofs.Nodes.{pos, acbd, bcad, both_ways, place_lt, edge_is, end_is, other_is, opposite_is, twin_is, joining_ends}

-- counts and corner counts either way round
module _ (w : ℕ → ℕ) where
  pub flip_count : {a b c d : ℕ} → Arranged a b c d → count_between w a b ≡ count_between w b a
  flip_count A = ap w (both_ways A)

  pub corner_flip : {a b c d : ℕ} → Arranged a b c d → corner_from w a b c ≡ corner_from w a c b
  unfolding corner_from
  corner_flip {a} {b} {c} A = rw (← flip_count (bcad A)) (corner_swap (count_between w a b) (count_between w a c) (count_between w b c))

module _ (w : Edges) where
  kth_lt : (a b k : ℕ) → k < count_between w.count a b → kth_from w.count a b k < count_between w.count a b
  unfolding kth_from
  kth_lt a b k l = go (ltb a b)
    where
      go : (t : Bool) → pick t k (count_between w.count a b - 1 - k) < count_between w.count a b
      go true = l
      go false = omega arith

  pub kth_once : (a b k l : ℕ) → k < count_between w.count a b → l < count_between w.count a b → kth_from w.count a b k ≡ kth_from w.count a b l → k ≡ l
  unfolding kth_from
  kth_once a b k l hk hl = go (ltb a b)
    where
      go : (t : Bool) → pick t k (count_between w.count a b - 1 - k) ≡ pick t l (count_between w.count a b - 1 - l) → k ≡ l
      go true e = e
      go false e = omega arith

  module _ {a b c d : ℕ} (A : Arranged a b c d) where
    -- the face abc
    abbrev e0 : ℕ
    e0 = w.count (slot_edge d 0)

    abbrev e1 : ℕ
    e1 = w.count (slot_edge d 1)

    abbrev e2 : ℕ
    e2 = w.count (slot_edge d 2)

    -- counted from the other end
    kth_flip : (k : ℕ) → k < count_between w.count a b → kth_from w.count a b k ≡ kth_from w.count b a (count_between w.count a b - 1 - k)
    unfolding kth_from
    kth_flip k l = rw (count_between, ← both_ways A) (go (ltb a b) (ltb b a) refl refl)
      where
        go : (s t : Bool) → ltb a b ≡ s → ltb b a ≡ t → pick s k (count_between w.count a b - 1 - k) ≡ pick t (count_between w.count a b - 1 - k) (count_between w.count a b - 1 - (count_between w.count a b - 1 - k))
        go true true p q = absurd (omega (arith, ltb-true a b p, ltb-true b a q))
        go true false p q = omega arith
        go false true p q = refl
        go false false p q = absurd (omega (arith, ltb-false a b p, ltb-false b a q, A.ab))

    pub crossing_flip : (k : ℕ) → k < count_between w.count a b → crossing_at w a b k ≡ crossing_at w b a (count_between w.count a b - 1 - k)
    unfolding crossing_at
    crossing_flip k l = rw (kth_flip k l, both_ways A) refl

    pub dart_flip : (k : ℕ) → k < count_between w.count a b → dart_at w a b d k ≡ dart_at w b a d (count_between w.count a b - 1 - k)
    unfolding dart_at
    dart_flip k l = rw (crossing_flip k l, both_ways A) refl

    pub count_is : count_on e0 e1 e2 (edge_rank d (joining a b)) ≡ count_between w.count a b
    count_is = slot-count w d (edge_rank d (joining a b)) (place_lt A) ∙ ap w.count (edge_is A)

    kth_is : (k : ℕ) → kth e0 e1 e2 (pos d a) (edge_rank d (joining a b)) k ≡ kth_from w.count a b k
    unfolding kth_from
    kth_is k = rw (end_is A) (go (ltb a b))
      where
        go : (t : Bool) → kth e0 e1 e2 (pick t (lower (edge_rank d (joining a b))) (upper (edge_rank d (joining a b)))) (edge_rank d (joining a b)) k ≡ pick t k (count_between w.count a b - 1 - k)
        go true = kth_lower e0 e1 e2 (edge_rank d (joining a b)) k
        go false = kth_upper e0 e1 e2 k (edge-of (edge_rank d (joining a b)) (place_lt A)) ∙ ap (λ n. n - 1 - k) count_is

    pub ends : End (pos d a) (edge_rank d (joining a b))
    ends = rw (end_is A) (go (ltb a b))
      where
        go : (t : Bool) → End (pick t (lower (edge_rank d (joining a b))) (upper (edge_rank d (joining a b)))) (edge_rank d (joining a b))
        go true = low (edge-of (edge_rank d (joining a b)) (place_lt A))
        go false = high (edge-of (edge_rank d (joining a b)) (place_lt A))

  module _ {a b c d : ℕ} (A : Arranged a b c d) where
    parts : (k : ℕ) → k < count_between w.count a b → Parts w (3 * d + edge_rank d (joining a b)) (kth_from w.count a b k) (crossing_at w a b k)
    unfolding crossing_at
    parts k l =
        let e : edge_of (3 * d + edge_rank d (joining a b)) ≡ joining a b = half-edge d (edge_rank d (joining a b)) (place_lt A) ∙ edge_is A in
        record { half_lt = omega (arith, place_lt A, A.d_lt); index_lt = rw e (kth_lt a b k l); number_is = rw e refl }

    corner_is : corner_count_at (e0 A) (e1 A) (e2 A) (pos d a) (edge_rank d (joining a b)) ≡ corner_from w.count a b c
    unfolding corner_count_at corner_from
    corner_is = rw (other_is A, opposite_is A, count_is A, count_is (acbd A), count_is (bcad A))

    -- the k-th crossings from a are joined
    joins : (k : ℕ) → k < corner_from w.count a b c
        → join_on w (3 * d + edge_rank d (joining a b)) (kth_from w.count a b k) ≡ joined (edge_rank d (joining a c)) (kth_from w.count a c k)
    unfolding join_on
    joins k l =
        rw (half-slot d (edge_rank d (joining a b)) (place_lt A), half_place d (edge_rank d (joining a b)) (place_lt A))
        (rw (kth_is A k, other_is A, kth_is (acbd A) k) at ((face_laws (e0 A) (e1 A) (e2 A)).corner (pos d a) (edge_rank d (joining a b)) k (ends A) (rw corner_is l)))

    -- the step round a corner
    pub turn : (k : ℕ) → k < corner_from w.count a b c → step w (dart_at w a b d k) ≡ dart_at w a c b k
    unfolding dart_at crossing_at corner_from
    turn k l =
        let C = acbd A in
        let kb : k < count_between w.count a b = omega (arith, corner_le (count_between w.count a b) (count_between w.count a c) (count_between w.count b c)) in
        let kc : k < count_between w.count a c = omega (arith, corner_le (count_between w.count a b) (count_between w.count a c) (count_between w.count b c)) in
        let s = half-slot d (edge_rank d (joining a b)) (place_lt A) in
        let e = step_joined w (parts k kb) (edge_rank d (joining a c)) (kth_from w.count a c k) (place_lt C) (rw (s, edge_is C) (kth_lt a c k kc)) (joins k l) in
        rw (s, twin_is A, edge_is C) at e

  -- what a dart is read from
  module _ {a b c d : ℕ} (A : Arranged a b c d) (k : ℕ) (l : k < count_between w.count a b) where
    crossing_lt : crossing_at w a b k < crossings w
    crossing_lt = parts_number w (parts A k l)

    dart_half : dart_at w a b d k / 2 ≡ crossing_at w a b k
    unfolding dart_at
    dart_half = number_half (3 * d + edge_rank d (joining a b)) (crossing_at w a b k)

    pub dart_lt : dart_at w a b d k < 2 * crossings w
    dart_lt = omega (arith, crossing_lt, dart_half)

    pub dart_edge : edge w (dart_at w a b d k / 2) ≡ joining a b
    unfolding dart_at
    dart_edge = parts_edge w (parts A k l) ∙ half-edge d (edge_rank d (joining a b)) (place_lt A) ∙ edge_is A

    pub dart_index : index w (dart_at w a b d k / 2) ≡ kth_from w.count a b k
    unfolding dart_at
    dart_index = parts_index w (parts A k l)

    pub crossing-edge : edge w (crossing_at w a b k) ≡ joining a b
    crossing-edge = rw dart_half at dart_edge

    pub crossing-index : index w (crossing_at w a b k) ≡ kth_from w.count a b k
    crossing-index = rw dart_half at dart_index

    pub dart_slot : slot w (dart_at w a b d k) ≡ d
    unfolding dart_at
    dart_slot = parts_slot w (parts A k l) ∙ half-slot d (edge_rank d (joining a b)) (place_lt A)

  -- a dart from its crossing, edge and slot; crossings and darts by positions
  number_is : (d : ℕ) → d < 2 * crossings w → dart_number (3 * slot w d + edge_rank (slot w d) (edge w (d / 2))) (d / 2) ≡ d
  number_is = by_parity (crossings w) (λ d. dart_number (3 * slot w d + edge_rank (slot w d) (edge w (d / 2))) (d / 2) ≡ d)
      (λ x l. (let h : 2 * x / 2 ≡ x = omega arith in
      let S = first-slot (edge w x) ((lay w).edge_lt x l) in
      rw (h, slot_first w x) (number_first (by (first_slot (edge w x)) (edge w x)) x (rw (by-edge S, by_slot S) refl))))
      (λ x l. (let h : (2 * x + 1) / 2 ≡ x = omega arith in
      let S = second-slot (edge w x) ((lay w).edge_lt x l) in
      rw (h, slot_second w x) (number_second (by (second_slot (edge w x)) (edge w x)) x
      (λ e. omega (arith, (two_slots (edge w x) ((lay w).edge_lt x l)).apart, rw (by-edge S, by_slot S) at e)))))
    where
      by : ℕ → ℕ → ℕ
      by s k = 3 * s + edge_rank s k

      by-edge : {s k : ℕ} → EdgeSlot k s → edge_of (by s k) ≡ k
      by-edge {s} {k} S = half-edge s (edge_rank s k) S.place_lt ∙ S.edge_is

      by_slot : {s k : ℕ} → EdgeSlot k s → half_slot (by s k) ≡ s
      by_slot {s} {k} S = half-slot s (edge_rank s k) S.place_lt

  pub crossing_is : (x : ℕ) → x < crossings w → crossing_at w (lo (edge w x)) (hi (edge w x)) (index w x) ≡ x
  unfolding crossing_at kth_from
  crossing_is x l =
      let kl : edge w x < 6 = (lay w).edge_lt x l in
      rw (joining_ends (edge w x) kl, lt-ltb (lo (edge w x)) (hi (edge w x)) (two_slots (edge w x) kl).rising) ((lay w).back x l)

  pub dart_is : (d : ℕ) → d < 2 * crossings w → d ≡ dart_at w (lo (edge w (d / 2))) (hi (edge w (d / 2))) (slot w d) (index w (d / 2))
  unfolding dart_at
  dart_is d l = rw (crossing_is (d / 2) (omega arith), joining_ends (edge w (d / 2)) ((lay w).edge_lt (d / 2) (omega arith))) (sym (number_is d l))
