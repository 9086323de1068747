-- A step from a dart in parts, branch by branch: round the lower end of its edge, round the upper end, or between.
use Prim.Native.Nat.{ℕ, zero, suc, ◌+◌, ◌*◌, ◌-◌, ◌%◌, ◌≤◌, ◌<◌}
use mathlib.Core.Path.{◌≡◌, refl, sym, ap, ◌∙◌}
use mathlib.Core.Bool.{Bool, true, false}
use native.Mathlib.Omega.{arith}
use lib.Dec.{eqb, ltb}
use Rattle.counting.specs.Pick.{pick}
use Rattle.slots.specs.Slots.{slot_edge, lower, upper}
use Rattle.face.specs.Face.{along, joined_by, joined, is_along, other, count_on, kth, partner, face_answer, face_join}
use Rattle.face.specs.claims.Ends.{Edge, on_ab, on_ac, on_bc, End, low, high}
use Rattle.face.specs.work.Ends.{Corners}
use Rattle.face.proofs.Ends.{edge-of, edge_lt as face-edge-lt, on, end_other}
use Rattle.face.proofs.Gaps.{corner_fits}
use Rattle.face.proofs.Branches.{answer_low, answer_high, answer_up, answer_down, face_low, face_high, face_skip, face_up, face_down}
use Rattle.cell.specs.Cell.{Edges, number, crossings, step}
use Rattle.cell.specs.Loop.{folded}
use Rattle.cell.specs.work.Half.{half_edges, twin, around}
use Rattle.cell.specs.claims.Half.{half_slot, rank_of, edge_of, dart_number}
use Rattle.cell.specs.work.Route.{half_corner}
use Rattle.cell.specs.work.Dart.{Parts}
use Rattle.cell.proofs.Half.{place_lt, twin_lt, twin_edge, half-edge}
use Rattle.cell.proofs.Step.{join_on, answer_on, fold_is, step_joined, step_unjoined}

-- a step from crossing x over half-edge h leads to index u of the edge of half-edge g, left by g
pub record Reach (w : Edges) (h x g u : ℕ) : Type 0 where
  pub parts : Parts w g u (number w (edge_of g) u)
  pub is : step w (dart_number h x) ≡ dart_number g (number w (edge_of g) u)

before_lt : {t n : ℕ} → t < n → t - 1 < n
before_lt l = omega arith

-- the k-th crossing from the shared node, on the other edge there: counted from its own lower end, or turned
module _ (ab ac bc : ℕ) where
  kth_low : {e : ℕ} → Edge e → (k : ℕ) → kth ab ac bc (lower e) (other (lower e) e) k ≡ pick (eqb e 2) (count_on ab ac bc (other (lower e) e) - 1 - k) k
  unfolding kth lower other
  kth_low on_ab k = refl
  kth_low on_ac k = refl
  kth_low on_bc k = refl

  kth_high : {e : ℕ} → Edge e → (k : ℕ) → kth ab ac bc (upper e) (other (upper e) e) k ≡ pick (ltb 0 e) (count_on ab ac bc (other (upper e) e) - 1 - k) k
  unfolding kth lower upper other
  kth_high on_ab k = refl
  kth_high on_ac k = refl
  kth_high on_bc k = refl

  kth_lt : (v e k : ℕ) → k < count_on ab ac bc e → kth ab ac bc v e k < count_on ab ac bc e
  unfolding kth
  kth_lt v e k l = go (eqb v (lower e))
    where
      go : (b : Bool) → pick b k (count_on ab ac bc e - 1 - k) < count_on ab ac bc e
      go true = l
      go false = omega arith

module _ (w : Edges) where
  -- the count of edge j of slot s, as its face has it
  pub slot-count : (s j : ℕ) → j < 3 → count_on (w.count (slot_edge s 0)) (w.count (slot_edge s 1)) (w.count (slot_edge s 2)) j ≡ w.count (slot_edge s j)
  unfolding count_on
  slot-count s zero l = refl
  slot-count s (suc zero) l = refl
  slot-count s (suc (suc zero)) l = refl
  slot-count s (suc (suc (suc j))) l = absurd (omega arith)

  module _ (h : ℕ) where
    abbrev ab : ℕ
    ab = w.count (slot_edge (half_slot h) 0)

    abbrev ac : ℕ
    ac = w.count (slot_edge (half_slot h) 1)

    abbrev bc : ℕ
    bc = w.count (slot_edge (half_slot h) 2)

    module _ (l : h < half_edges) where
      own : Edge (rank_of h)
      own = edge-of (rank_of h) (place_lt h l)

      own-count : count_on ab ac bc (rank_of h) ≡ w.count (edge_of h)
      unfolding edge_of
      own-count = slot-count (half_slot h) (rank_of h) (place_lt h l)

      -- the counts of the edge and of its two corners, as its face has them
      corners : Corners ab ac bc (rank_of h) (w.count (edge_of h)) (half_corner w (lower (rank_of h)) h) (half_corner w (upper (rank_of h)) h)
      unfolding half_corner
      corners = record { edge = own; own = sym own-count; at_lower = refl; at_upper = refl }

      pub high_own : half_corner w (upper (rank_of h)) h ≤ w.count (edge_of h)
      unfolding half_corner
      high_own = omega (arith, own-count, corner_fits ab ac bc (upper (rank_of h)) (rank_of h))

      -- the crossings of the next edge round the node v
      next_count : (v : ℕ) → End v (rank_of h) → count_on ab ac bc (other v (rank_of h)) ≡ w.count (edge_of (around v h))
      unfolding around
      next_count v E =
          let i = other v (rank_of h) in
          let il : i < 3 = face-edge-lt (on (end_other E)) in
          let gl : 3 * half_slot h + i < half_edges = omega arith in
          slot-count (half_slot h) i il ∙ ap w.count (sym (twin_edge (3 * half_slot h + i) gl ∙ half-edge (half_slot h) i il))

      around_lt : (v : ℕ) → End v (rank_of h) → around v h < half_edges
      unfolding around
      around_lt v E =
          let il : other v (rank_of h) < 3 = face-edge-lt (on (end_other E)) in
          twin_lt (3 * half_slot h + other v (rank_of h)) (omega arith)

      pub low_lt : around (lower (rank_of h)) h < half_edges
      low_lt = around_lt (lower (rank_of h)) (low own)

      pub high_lt : around (upper (rank_of h)) h < half_edges
      high_lt = around_lt (upper (rank_of h)) (high own)

      -- a corner's crossings are on both of its edges
      around_fits : (v k : ℕ) → End v (rank_of h) → k < half_corner w v h → k < w.count (edge_of (around v h))
      unfolding half_corner
      around_fits v k E l = omega (arith, next_count v E, corner_fits ab ac bc v (rank_of h))

      pub low_fits : (k : ℕ) → k < half_corner w (lower (rank_of h)) h → k < w.count (edge_of (around (lower (rank_of h)) h))
      low_fits k = around_fits (lower (rank_of h)) k (low own)

      pub high_fits : (k : ℕ) → k < half_corner w (upper (rank_of h)) h → k < w.count (edge_of (around (upper (rank_of h)) h))
      high_fits k = around_fits (upper (rank_of h)) k (high own)

  module _ {h t x : ℕ} (P : Parts w h t x) where
    abbrev j : ℕ
    j = rank_of h

    abbrev l : h < half_edges
    l = P.half_lt

    reach : (i u : ℕ) → i < 3 → u < w.count (slot_edge (half_slot h) i) → join_on w h t ≡ joined i u → Reach w h x (twin (3 * half_slot h + i)) u
    reach i u il ul e =
        let g = 3 * half_slot h + i in
        let gl : g < half_edges = omega (arith, P.half_lt) in
        let k : edge_of (twin g) ≡ slot_edge (half_slot h) i = twin_edge g gl ∙ half-edge (half_slot h) i il in
        record {
          parts = record { half_lt = twin_lt g gl; index_lt = rw k ul; number_is = refl };
          is = step_joined w P i u il ul e ∙ rw k refl;
        }

    -- round the node v, an end of the edge
    round : {v : ℕ} (k : ℕ) → End v j → k < half_corner w v h → join_on w h t ≡ joined (other v j) (kth (ab h) (ac h) (bc h) v (other v j) k)
        → Reach w h x (around v h) (kth (ab h) (ac h) (bc h) v (other v j) k)
    unfolding around half_corner
    round {v} k E b e =
        let i = other v j in
        let il : i < 3 = face-edge-lt (on (end_other E)) in
        reach i (kth (ab h) (ac h) (bc h) v i k) il
        (rw (slot-count (half_slot h) i il) at (kth_lt (ab h) (ac h) (bc h) v i k (omega (arith, corner_fits (ab h) (ac h) (bc h) v j)))) e

    join_face : join_on w h t ≡ face_join (ab h) (ac h) (bc h) j t
    unfolding join_on
    join_face = refl

    answer_face : folded w (dart_number h x) ≡ is_along (face_answer (ab h) (ac h) (bc h) j t)
    unfolding answer_on
    answer_face = fold_is w P

    told_round : (v k : ℕ) → face_answer (ab h) (ac h) (bc h) j t ≡ partner (ab h) (ac h) (bc h) v j k → folded w (dart_number h x) ≡ false
    unfolding partner
    told_round v k e = answer_face ∙ ap is_along e

    told_along : {u : ℕ} → face_answer (ab h) (ac h) (bc h) j t ≡ joined_by j u along → folded w (dart_number h x) ≡ true
    told_along e = answer_face ∙ ap is_along e

    pub low_told : t < half_corner w (lower j) h → folded w (dart_number h x) ≡ false
    low_told b = told_round (lower j) t (answer_low (corners h l) t b)

    pub high_told : (k : ℕ) → k ≡ w.count (edge_of h) - 1 - t → k < half_corner w (upper j) h → folded w (dart_number h x) ≡ false
    high_told k e b = told_round (upper j) (w.count (edge_of h) - 1 - t) (answer_high (corners h l) t P.index_lt (omega arith))

    -- the k-th from its lower or its upper end
    pub turn_low : t < half_corner w (lower j) h → Reach w h x (around (lower j) h) (pick (eqb j 2) (w.count (edge_of (around (lower j) h)) - 1 - t) t)
    turn_low b =
        rw (kth_low (ab h) (ac h) (bc h) (own h l) t, next_count h l (lower j) (low (own h l)))
        at (round t (low (own h l)) b (join_face ∙ face_low (corners h l) t b))

    pub turn_high : (k : ℕ) → k ≡ w.count (edge_of h) - 1 - t → k < half_corner w (upper j) h
        → Reach w h x (around (upper j) h) (pick (ltb 0 j) (w.count (edge_of (around (upper j) h)) - 1 - k) k)
    turn_high k e b =
        rw (kth_high (ab h) (ac h) (bc h) (own h l) k, next_count h l (upper j) (high (own h l)))
        at (round k (high (own h l)) b (join_face ∙ rw e (face_high (corners h l) t P.index_lt (omega arith))))

    -- past both corners: neighbours in pairs, down from the upper one
    module _ (a : half_corner w (lower j) h ≤ t) (b : t + half_corner w (upper j) h < w.count (edge_of h)) where
      fold : (u : ℕ) → u < w.count (edge_of h) → face_join (ab h) (ac h) (bc h) j t ≡ joined j u → Reach w h x (twin h) u
      unfolding edge_of
      fold u ul e =
          let here : 3 * half_slot h + j ≡ h = omega arith in
          let r = reach j u (place_lt h l) ul (join_face ∙ e) in
          rw here at r

      pub up_told : (w.count (edge_of h) - half_corner w (upper j) h - t) % 2 ≡ 0 → folded w (dart_number h x) ≡ true
      up_told z = told_along {u = t + 1} (answer_up (corners h l) t a b z)

      pub between_up : (w.count (edge_of h) - half_corner w (upper j) h - t) % 2 ≡ 0 → Reach w h x (twin h) (t + 1)
      between_up z = fold (t + 1) (omega arith) (face_up (corners h l) t a b z)

      module _ (z : (w.count (edge_of h) - half_corner w (upper j) h - t) % 2 ≡ 1) where
        pub between_end : t ≡ half_corner w (lower j) h → step w (dart_number h x) ≡ 2 * crossings w
        between_end e = step_unjoined w P (join_face ∙ face_skip (corners h l) t a b z e)

        pub down_told : half_corner w (lower j) h < t → folded w (dart_number h x) ≡ true
        down_told e = told_along {u = t - 1} (answer_down (corners h l) t a b z e)

        pub between_down : half_corner w (lower j) h < t → Reach w h x (twin h) (t - 1)
        between_down e = fold (t - 1) (before_lt P.index_lt) (face_down (corners h l) t a b z e)
