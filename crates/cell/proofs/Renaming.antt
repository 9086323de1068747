-- The triangles of a cell with other names.
use Prim.Native.Nat.{ℕ, ◌+◌, ◌*◌, ◌/◌, ◌≤◌, ◌<◌, min}
use mathlib.Core.Path.{◌≡◌, refl, sym, ap, ap₂, ◌∙◌}
use mathlib.Core.Logic.{⊎_elim}
use mathlib.Core.Bool.{Bool, true, false, ◌&&◌, ◌||◌}
use mathlib.Core.List.{map}
use native.Mathlib.Nat.{eq-zero-or-pos, eq-or-lt_of_le}
use native.Mathlib.Omega.{arith}
use native.Mathlib.Decide.{dec_lt}
use lib.Dec.{eqb, ltb}
use lib.ListN.{get_or}
use borrow.Author.Tests.{lt-ltb, le-ltb, eq-eqb, ne_eqb}
use Rattle.counting.specs.Pick.{pick}
use Rattle.counting.specs.Lists.{one, total, after}
use Rattle.counting.proofs.Range.{total_ext, over_ext, after_lt}
use Rattle.counting.proofs.Lists.{map_over}
use Rattle.slots.specs.Slots.{slot_edge}
use Rattle.slots.specs.claims.Claims.{EdgeSlot}
use Rattle.slots.proofs.Slots.{slot-edge}
use Rattle.walk.specs.Step as walk
use Rattle.walk.proofs.Found.{it_ext, size_ext}
use Rattle.manifold.specs.Shape.{shape_of, triangles_of}
use Rattle.manifold.proofs.Shapes.{fits, triangles_ext, map_triangles}
use Rattle.cell.specs.declared.Cell.{Cell}
use Rattle.cell.specs.declared.Corner.TheVariants.{Crossing, Middle}
use Rattle.cell.specs.declared.Side.TheVariants.{Segment, Inner}
use Rattle.face.specs.Face.{is_along}
use Rattle.cell.specs.Cell.{Edges, ahead, base, crossings, edge, index, number, answer_at, join_at, mate, first_slot_at, second_slot_at, slot, step}
use Rattle.cell.specs.Loop.{loop_size, dart, folded, normal, in_grid}
use Rattle.cell.specs.Of.{count_of, start_of, edges_of}
use Rattle.cell.specs.Triangles.{triangle, number_of, segment_of, point, segment, loop_triangles, cell_triangles}
use Rattle.cell.specs.Renaming.{Renaming, renamed_corner, renamed_side, renamed}
use Rattle.cell.specs.claims.Renaming.{RenamedCell, CellsRenamed}
use Rattle.cell.proofs.Lay.{lay}
use Rattle.cell.proofs.Step.{step_is}
use Rattle.cell.proofs.Mates.{mate_joined, mate_unjoined, joined_edge, joined_index, mate_cases, slot_has}
use Rattle.cell.proofs.Loops.{dart_live, tally_darts}
use Rattle.cell.proofs.Taken.{dart_leads}

-- numbers in the same order, by their tests
orders : (x y u z : ℕ) → (x < y → u < z) → (y < x → z < u) → (x ≡ y → u ≡ z) → (ltb x y ≡ ltb u z) × (eqb x y ≡ eqb u z)
orders x y u z f g h =
    elim (dec_lt x y) [
      | yes l ↦ (rw (lt-ltb x y l, lt-ltb u z (f l)), rw (ne_eqb x y (λ e. omega arith), ne_eqb u z (λ e. omega (arith, f l))))
      | no l ↦ elim (dec_lt y x) [
        | yes m ↦ (rw (le-ltb x y (omega arith), le-ltb u z (omega (arith, g m))), rw (ne_eqb x y (λ e. omega arith), ne_eqb u z (λ e. omega (arith, g m))))
        | no m ↦ (let e : x ≡ y = omega arith in (rw (le-ltb x y (omega arith), le-ltb u z (omega (arith, h e))), rw (eq-eqb x y e, eq-eqb u z (h e))))
      ]
    ]

-- a map that keeps the order of two numbers keeps their lower one
min_kept : (f : ℕ → ℕ) (g h : ℕ) → (g ≤ h → f g ≤ f h) → (h ≤ g → f h ≤ f g) → f (min g h) ≡ min (f g) (f h)
min_kept f g h p q =
    elim (dec_lt g h) [
      | yes l ↦ (let e : min g h ≡ g = omega arith in ap f e ∙ omega (arith, p (omega arith)))
      | no l ↦ (let e : min g h ≡ h = omega arith in ap f e ∙ omega (arith, q (omega arith)))
    ]

module _ (r : Renaming) (a b : Cell) (R : RenamedCell r a b) where
  -- b, with the counts of a in place of its own, which are the same
  abbrev b' : Cell
  b' = record { counts = a.counts; starts = b.starts; names = b.names; nodes = b.nodes; index = b.index }

  abbrev n : ℕ → ℕ
  n = count_of a

  abbrev v : Edges
  v = edges_of a

  abbrev w : Edges
  w = edges_of b'

  abbrev N : ℕ
  N = crossings v

  -- of two edges with crossings the same is laid first
  ahead_same : (j k : ℕ) → j < 6 → k < 6 → 0 < n j → 0 < n k → ahead v k j ≡ ahead w k j
  unfolding ahead
  ahead_same j k lj lk pj pk =
      let q = orders (start_of a j) (start_of a k) (start_of b j) (start_of b k)
      (λ l. omega (arith, R.order j k 0 0 lj lk pj pk (omega arith), R.starts j 0 lj pj, R.starts k 0 lk pk))
      (λ l. omega (arith, R.order k j 0 0 lk lj pk pj (omega arith), R.starts j 0 lj pj, R.starts k 0 lk pk))
      (λ e. omega (arith, R.starts j 0 lj pj, R.starts k 0 lk pk, ap (λ g. r.crossing (g + 0)) e)) in
      ap₂ (λ x y. x || (y && ltb j k)) q.0 q.1

  base_same : (k : ℕ) → k < 6 → 0 < n k → base v k ≡ base w k
  unfolding base
  base_same k l h =
      total_ext (λ j. pick (ahead v k j) (n j) 0) (λ j. pick (ahead w k j) (n j) 0) 6 0
      (λ j _ lj. ⊎_elim (λ (e : n j ≡ 0). rw e (none (ahead v k j) ∙ sym (none (ahead w k j)))) (λ (q : 0 < n j). ap (λ x. pick x (n j) 0) (ahead_same j k (omega arith) l q h))
      (eq-zero-or-pos (n j)))
    where
      none : (x : Bool) → ◌≡◌ {A = ℕ} (pick x 0 0) 0
      none true = refl
      none false = refl

  -- so the crossings are numbered alike
  module _ (x : ℕ) (l : x < N) where
    at : x ≡ number w (edge v x) (index v x)
    at = sym ((lay v).back x l) ∙ ap (λ k. k + index v x) (base_same (edge v x) ((lay v).edge_lt x l) (omega (arith, (lay v).index_lt x l)))

    edge_same : edge v x ≡ edge w x
    edge_same = sym (ap (edge w) at ∙ (lay w).number_edge (edge v x) (index v x) ((lay v).edge_lt x l) ((lay v).index_lt x l))

    index_same : index v x ≡ index w x
    index_same = sym (ap (index w) at ∙ (lay w).number_index (edge v x) (index v x) ((lay v).edge_lt x l) ((lay v).index_lt x l))

    answer_same : (f : ℕ) → answer_at w f x ≡ answer_at v f x
    unfolding answer_at
    answer_same f = rw (edge_same, index_same)

    join_same : (f : ℕ) → join_at w f x ≡ join_at v f x
    unfolding join_at
    join_same f = rw (edge_same, index_same)

    mate_same : (f : ℕ) → EdgeSlot (edge v x) f → mate v f x ≡ mate w f x
    mate_same f S =
        ⊎_elim
        (λ q. let k = (slot-edge f q.0 S.lt (joined_edge v f x q.2)).lt in
        mate_joined v f x q.2 ∙ ap (λ k. k + q.1) (base_same (slot_edge f q.0) k (omega (arith, joined_index v f x q.2)))
        ∙ sym (mate_joined w f x (join_same f ∙ q.2)))
        (λ q. mate_unjoined v f x q ∙ sym (mate_unjoined w f x (join_same f ∙ q))) (mate_cases v f x l S)

    number_renamed : r.crossing (number_of a x) ≡ number_of b' x
    unfolding number_of in_grid
    number_renamed = R.starts (edge v x) (index v x) ((lay v).edge_lt x l) ((lay v).index_lt x l) ∙ ap₂ (λ k i. start_of b k + i) edge_same index_same

  order_kept : (x y : ℕ) → x < N → y < N → number_of a x ≤ number_of a y → r.crossing (number_of a x) ≤ r.crossing (number_of a y)
  unfolding number_of in_grid
  order_kept x y lx ly h =
      ⊎_elim (λ (e : number_of a x ≡ number_of a y). omega (arith, ap r.crossing e))
      (λ (q : number_of a x < number_of a y).
      omega (arith, R.order (edge v x) (edge v y) (index v x) (index v y) ((lay v).edge_lt x lx) ((lay v).edge_lt y ly) ((lay v).index_lt x lx) ((lay v).index_lt y ly) q))
      (eq-or-lt_of_le h)

  -- the walks are the same
  module _ (d : ℕ) (l : d < 2 * N) where
    slot_same : slot v d ≡ slot w d
    unfolding slot walk.face
    slot_same = rw (edge_same (d / 2) (omega arith))

    onward : mate v (slot v d) (d / 2) ≡ mate w (slot w d) (d / 2)
    onward = mate_same (d / 2) (omega arith) (slot v d) (slot_has v d l) ∙ ap (λ f. mate w f (d / 2)) slot_same

    step_same : step v d ≡ step w d
    unfolding walk.land
    step_same = step_is v d ∙ land (slot v d) (mate v (slot v d) (d / 2)) ∙ rw (onward, slot_same) (sym (step_is w d))
      where
        land : (f y : ℕ) → walk.land N (first_slot_at v) (second_slot_at v) (mate v) f y ≡ walk.land N (first_slot_at w) (second_slot_at w) (mate w) f y
        land f y = elim (dec_lt y N) [ yes h ↦ rw (edge_same y h) | no h ↦ rw (le-ltb y N (omega arith)) ]

    -- the segment along a dart that goes on
    along : mate v (slot v d) (d / 2) < N → renamed_side r (segment_of a d) ≡ segment_of b' d
    unfolding segment_of
    along ly =
        let x = d / 2 in
        let y = mate v (slot v d) x in
        let lx : x < N = omega arith in
        ap₂ Segment (R.names (slot v d) (slot_has v d l).lt ∙ ap (λ f. get_or b.names f 0) slot_same)
        (min_kept r.crossing (number_of a x) (number_of a y) (order_kept x y lx ly) (order_kept y x ly lx)
        ∙ ap₂ min (number_renamed x lx) (number_renamed y ly ∙ ap (number_of b') onward))

  module _ (p : ℕ) (l : p < N) where
    abbrev m : ℕ
    m = loop_size v p

    size_same : m ≡ loop_size w p
    unfolding loop_size
    size_same = size_ext N (step v) (step w) step_same p l

    dart_same : (k : ℕ) → k < m → dart v p k ≡ dart w p k
    unfolding dart
    dart_same k h = it_ext N (step v) (step w) step_same k (2 * p) (λ i q. dart_live v p l i (omega arith))

    next_live : (k : ℕ) → k < m → dart v p (after m k) < 2 * N
    next_live k h = dart_live v p l (after m k) (after_lt m k h)

    folded_same : (k : ℕ) → k < m → folded v (dart v p k) ≡ folded w (dart w p k)
    unfolding folded
    folded_same k h =
        let d = dart v p k in
        let ld = dart_live v p l k h in
        ap is_along (sym (answer_same (d / 2) (omega arith) (slot v d)) ∙ ap (λ f. answer_at w f (d / 2)) (slot_same d ld))
        ∙ ap (λ e. is_along (answer_at w (slot w e) (e / 2))) (dart_same k h)

    normal_same : normal v p ≡ normal w p
    unfolding normal
    normal_same =
        ap (λ i. eqb i 0)
        (tally_darts v p l (folded v)
        ∙ total_ext (λ k. one (folded v (dart v p k))) (λ k. one (folded w (dart w p k))) m 0 (λ k _ q. ap one (folded_same k (omega arith)))
        ∙ ap (λ i. total (λ k. one (folded w (dart w p k))) i 0) size_same ∙ sym (tally_darts w p l (folded w)))

    point_renamed : (k : ℕ) → k < m → renamed_corner r (point a p k) ≡ point b' p k
    unfolding point
    point_renamed k h =
        ap Crossing (number_renamed (dart v p k / 2) (omega (arith, dart_live v p l k h)) ∙ ap (λ d. number_of b' (d / 2)) (dart_same k h))

    segment_renamed : (k : ℕ) → k < m → renamed_side r (segment a p k) ≡ segment b' p k
    unfolding segment
    segment_renamed k h =
        along (dart v p k) (dart_live v p l k h) (omega (arith, dart_leads a p l k h, next_live k h)) ∙ ap (segment_of b') (dart_same k h)

    loop_renamed : map (renamed r) (loop_triangles a p) ≡ loop_triangles b' p
    unfolding loop_triangles triangle
    loop_renamed =
        let i = r.cell a.index in
        let g = r.crossing (number_of a p) in
        map_triangles (triangle a.index (number_of a p)) (point a p) Middle (segment a p) Inner m
        (renamed r) (renamed_corner r) (renamed_side r) (triangle i g) (λ x y z r s t. refl) (shape_of m (normal v p))
        ∙ triangles_ext (triangle i g) (λ k. renamed_corner r (point a p k)) Middle (λ k. renamed_side r (segment a p k)) Inner m
        (triangle b.index (number_of b' p)) (point b' p) (segment b' p) (λ _. ap₂ triangle R.index (number_renamed p l)) point_renamed segment_renamed
        (shape_of m (normal v p)) (fits m (normal v p))
        ∙ ap₂ (λ m q. triangles_of (triangle b.index (number_of b' p)) (point b' p) Middle (segment b' p) Inner m (shape_of m q)) size_same normal_same

pub cells_renamed : CellsRenamed
unfolding cell_triangles
cells_renamed r a b R =
    map_over (renamed r) (loop_triangles a) (crossings (edges_of a)) 0
    ∙ over_ext (λ p. map (renamed r) (loop_triangles a p)) (loop_triangles (b' r a b R)) (crossings (edges_of a)) 0 (λ p _ h. loop_renamed r a b R p (omega arith))
    ∙ ap (λ l. cell_triangles (record { counts = l; starts = b.starts; names = b.names; nodes = b.nodes; index = b.index })) R.counts
