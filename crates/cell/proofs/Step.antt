-- A step from a dart in parts, through the answer of the face call.
use Prim.Native.Nat.{ℕ, ◌+◌, ◌*◌, ◌/◌, ◌≤◌, ◌<◌}
use mathlib.Core.Path.{◌≡◌, refl, sym, ap, ◌∙◌}
use mathlib.Core.Logic.{◌≢◌, ⊎_elim}
use mathlib.Core.Bool.{Bool, true, false, not}
use mathlib.Core.List.{List}
use native.Mathlib.Omega.{arith}
use lib.Dec.{eqb}
use borrow.Author.Tests.{eqb-true, eqb-false, eq-eqb, ne_eqb, le-ltb}
use Rattle.counting.specs.Lists.{one}
use Rattle.slots.specs.Slots.{slot_edge, first_slot, second_slot}
use Rattle.slots.proofs.Slots.{one_of_two}
use Rattle.face.specs.Face.{joined, is_along, face_answer, face_join}
use Rattle.face.specs.claims.Claims.{unjoined}
use Rattle.walk.specs.Step as walk
use Rattle.walk.proofs.Step.{face_first, face_second, land_first, land_second}
use Rattle.cell.specs.Cell.{Edges, crossings, edge, index, number, answer_at, join_at, joined_to, mate, first_slot_at, second_slot_at, slot, step}
use Rattle.cell.specs.Loop.{folded}
use Rattle.cell.specs.work.Half.{half_edges, twin}
use Rattle.cell.specs.claims.Half.{half_slot, rank_of, edge_of, dart_number}
use Rattle.cell.specs.work.Dart.{Parts}
use Rattle.cell.proofs.Lay.{lay}
use Rattle.cell.proofs.Half.{slot_lt, edge_lt, place_is, within, twin_edge, twin_second, twin_first, half-slot, half-edge}

-- what the face call joins a crossing to on the slot of half-edge h, and its whole answer
unfoldable pub join_on : Edges → ℕ → ℕ → List ℕ
join_on w h t = face_join (w.count (slot_edge (half_slot h) 0)) (w.count (slot_edge (half_slot h) 1)) (w.count (slot_edge (half_slot h) 2)) (rank_of h) t

unfoldable pub answer_on : Edges → ℕ → ℕ → List ℕ
answer_on w h t = face_answer (w.count (slot_edge (half_slot h) 0)) (w.count (slot_edge (half_slot h) 1)) (w.count (slot_edge (half_slot h) 2)) (rank_of h) t

-- the dart of crossing x that leaves by half-edge h is the first or the second
module _ (h x : ℕ) where
  pub number_first : first_slot (edge_of h) ≡ half_slot h → dart_number h x ≡ 2 * x
  unfolding dart_number
  number_first e = rw (eq-eqb (first_slot (edge_of h)) (half_slot h) e) (omega arith)

  pub number_second : first_slot (edge_of h) ≢ half_slot h → dart_number h x ≡ 2 * x + 1
  unfolding dart_number
  number_second e = rw (ne_eqb (first_slot (edge_of h)) (half_slot h) e)

  pub number_half : dart_number h x / 2 ≡ x
  unfolding dart_number
  number_half = go (eqb (first_slot (edge_of h)) (half_slot h))
    where
      go : (b : Bool) → (2 * x + one (not b)) / 2 ≡ x
      go true = omega arith
      go false = omega arith

module _ (w : Edges) where
  -- the crossing with index t on edge k
  module _ (k t : ℕ) (l : k < 6) (tl : t < w.count k) where
    pub number_lt : number w k t < crossings w
    number_lt = (lay w).number_lt k t l tl

    pub edge-number : edge w (number w k t) ≡ k
    edge-number = (lay w).number_edge k t l tl

    pub index_number : index w (number w k t) ≡ t
    index_number = (lay w).number_index k t l tl

  pub slot_first : (x : ℕ) → slot w (2 * x) ≡ first_slot (edge w x)
  unfolding slot
  slot_first x = face_first (crossings w) (first_slot_at w) (second_slot_at w) (mate w) x

  pub slot_second : (x : ℕ) → slot w (2 * x + 1) ≡ second_slot (edge w x)
  unfolding slot
  slot_second x = face_second (crossings w) (first_slot_at w) (second_slot_at w) (mate w) x

  pub step_is : (d : ℕ) → step w d ≡ walk.land (crossings w) (first_slot_at w) (second_slot_at w) (mate w) (slot w d) (mate w (slot w d) (d / 2))
  unfolding step walk.step slot
  step_is d = refl

  land_none : (s x : ℕ) → crossings w ≤ x → walk.land (crossings w) (first_slot_at w) (second_slot_at w) (mate w) s x ≡ 2 * crossings w
  unfolding walk.land
  land_none s x l = rw (le-ltb x (crossings w) l)

  -- a crossing that is come to over half-edge g is left by its twin
  pub land_twin : (g u : ℕ) → g < half_edges → u < w.count (edge_of g)
      → walk.land (crossings w) (first_slot_at w) (second_slot_at w) (mate w) (half_slot g) (number w (edge_of g) u) ≡ dart_number (twin g) (number w (edge_of g) u)
  land_twin g u l ul = go (eqb (first_slot (edge_of g)) (half_slot g)) refl
    where
      y : ℕ
      y = number w (edge_of g) u

      yl : y < crossings w
      yl = number_lt (edge_of g) u (edge_lt g l) ul

      ye : edge w y ≡ edge_of g
      ye = edge-number (edge_of g) u (edge_lt g l) ul

      go : (b : Bool) → eqb (first_slot (edge_of g)) (half_slot g) ≡ b → walk.land (crossings w) (first_slot_at w) (second_slot_at w) (mate w) (half_slot g) y ≡ dart_number (twin g) y
      go true e =
          let f = eqb-true (first_slot (edge_of g)) (half_slot g) e in
          land_first (crossings w) (first_slot_at w) (second_slot_at w) (mate w) (half_slot g) y yl (ap first_slot ye ∙ f)
          ∙ sym (number_second (twin g) y (rw (twin_edge g l) (eqb-false (first_slot (edge_of g)) (half_slot (twin g)) (twin_second g l f))))
      go false e =
          let f = eqb-false (first_slot (edge_of g)) (half_slot g) e in
          land_second (crossings w) (first_slot_at w) (second_slot_at w) (mate w) (half_slot g) y yl (λ q. f (sym (ap first_slot ye) ∙ q))
          ∙ sym (number_first (twin g) y (rw (twin_edge g l) (eqb-true (first_slot (edge_of g)) (half_slot (twin g)) (twin_first g l f))))

  module _ {h t x : ℕ} (P : Parts w h t x) where
    number_in : x < crossings w
    number_in = rw P.number_is (number_lt (edge_of h) t (edge_lt h P.half_lt) P.index_lt)

    edge-in : edge w x ≡ edge_of h
    edge-in = rw P.number_is (edge-number (edge_of h) t (edge_lt h P.half_lt) P.index_lt)

    index_in : index w x ≡ t
    index_in = rw P.number_is (index_number (edge_of h) t (edge_lt h P.half_lt) P.index_lt)

    pub parts_number : x < crossings w
    parts_number = number_in

    pub parts_edge : edge w (dart_number h x / 2) ≡ edge_of h
    parts_edge = rw (number_half h x) edge-in

    pub parts_index : index w (dart_number h x / 2) ≡ t
    parts_index = rw (number_half h x) index_in

    -- the dart's slot is that of its half-edge
    pub parts_slot : slot w (dart_number h x) ≡ half_slot h
    parts_slot = go (eqb (first_slot (edge_of h)) (half_slot h)) refl
      where
        go : (b : Bool) → eqb (first_slot (edge_of h)) (half_slot h) ≡ b → slot w (dart_number h x) ≡ half_slot h
        go true e = let f = eqb-true (first_slot (edge_of h)) (half_slot h) e in rw (number_first h x f, slot_first x, edge-in) f
        go false e =
            let f = eqb-false (first_slot (edge_of h)) (half_slot h) e in
            rw (number_second h x f, slot_second x, edge-in)
            (⊎_elim (λ q. absurd (f q)) (λ q. q) (one_of_two (edge_of h) (half_slot h) (edge_lt h P.half_lt) (slot_lt h P.half_lt) (within h P.half_lt)))

    join_is : join_at w (half_slot h) x ≡ join_on w h t
    unfolding join_at join_on
    join_is = rw (edge-in, index_in, place_is h P.half_lt)

    -- whether the segment goes along its edge
    pub fold_is : folded w (dart_number h x) ≡ is_along (answer_on w h t)
    unfolding folded answer_at answer_on
    fold_is = rw (parts_slot, number_half h x, edge-in, index_in, place_is h P.half_lt)

    step_land : step w (dart_number h x) ≡ walk.land (crossings w) (first_slot_at w) (second_slot_at w) (mate w) (half_slot h) (mate w (half_slot h) x)
    step_land = step_is (dart_number h x) ∙ rw (parts_slot, number_half h x)

    -- a step over a segment, and one from an unjoined crossing
    pub step_joined : (j u : ℕ) → j < 3 → u < w.count (slot_edge (half_slot h) j) → join_on w h t ≡ joined j u
        → step w (dart_number h x) ≡ dart_number (twin (3 * half_slot h + j)) (number w (slot_edge (half_slot h) j) u)
    unfolding mate joined_to
    step_joined j u jl ul e =
        let g = 3 * half_slot h + j in
        let s : half_slot g ≡ half_slot h = half-slot (half_slot h) j jl in
        let k : edge_of g ≡ slot_edge (half_slot h) j = half-edge (half_slot h) j jl in
        let gl : g < half_edges = omega (arith, P.half_lt) in
        let m : mate w (half_slot h) x ≡ number w (slot_edge (half_slot h) j) u = rw (join_is, e) in
        let a = land_twin g u gl (rw k ul) in
        step_land ∙ rw m (rw (s, k) at a)

    pub step_unjoined : join_on w h t ≡ unjoined → step w (dart_number h x) ≡ 2 * crossings w
    unfolding mate joined_to
    step_unjoined e =
        let m : mate w (half_slot h) x ≡ crossings w = rw (join_is, e) in
        step_land ∙ rw m (land_none (half_slot h) (crossings w) (omega arith))
