-- All splits of a cell: the parts that the recursion lists refine it.
use Prim.Native.Nat.{ℕ, zero, suc, ◌+◌, ◌-◌, ◌*◌, ◌≤◌, ◌<◌}
use mathlib.Core.Path.{◌≡◌, refl, sym, ap, ap₂, ◌∙◌, subst}
use mathlib.Core.Logic.{◌⊎◌, inl, inr, ◌≢◌, ⊎_elim}
use mathlib.Core.Bool.{Bool, true, false}
use mathlib.Core.List.{List, [], ◌∷◌, ◌++◌}
use native.Mathlib.Omega.{arith}
use native.Mathlib.Decide.{dec_lt, ℕ_discrete}
use lib.ListN.{length, get_or, length-append, get_or-append}
use lib.Seq.{get_or-append-add}
use Rattle.counting.specs.Lists.{total, pre}
use Rattle.counting.specs.Pack.{row, col}
use Rattle.counting.proofs.Pack.{row_pack, col_pack}
use Rattle.walk.specs.Darts.{half}
use Rattle.manifold.specs.claims.Piece.{Local, Piece, slot_of}
use Rattle.cell.specs.declared.Cell.{Cell}
use Rattle.cell.specs.Cell.{crossings, edge, index}
use Rattle.cell.specs.Of.{count_of, edges_of}
use Rattle.cell.specs.Loop.{in_grid}
use Rattle.cell.specs.Triangles.{number_of}
use Rattle.cell.specs.Level.{is_level_cell}
use Rattle.cell.specs.claims.Polygons.{local_of}
use Rattle.cell.proofs.Lay.{lay}
use Rattle.booking.specs.Booking.{larger, smaller, is_spiral}
use Rattle.split.specs.Limits.{word_step}
use Rattle.split.specs.Labels.{labelled, label}
use Rattle.split.specs.work.Five.{arm_count, inside}
use Rattle.split.specs.SubCell.{arm_start, inner_name, sub_at, sub}
use Rattle.split.specs.Parts.{Part, whole, corners, splits_within, parts, no_part}
use Rattle.split.specs.claims.Family as family
use Rattle.split.specs.claims.Family.{Meets, Refines}
use Rattle.split.specs.work.Shown.{InnerFace, InnerPoint, five, Order}
use Rattle.split.specs.claims.Five.{name_of, FirmBelow, own_piece}
use Rattle.split.specs.claims.Claims.{part_local, RefinedBy, PartsRefine}
use Rattle.split.proofs.Shows.{piece}
use Rattle.split.proofs.Compose.{refines_ext, refines_above, self, compose}
use Rattle.split.proofs.Labels.{spiral_is, labelled_lt, label_at, at-label}
use Rattle.split.proofs.SubNumbers.{sub_cells}
use Rattle.split.proofs.Sub.{sub_ready}
use Rattle.split.proofs.Five.{five_refines}
use Rattle.split.proofs.Parts.{stop, more as recurse}

-- another name for the inner faces and points
reface : (A : Local) (m : ℕ) (B : ℕ → Local) (Face Point Face' Point' : ℕ → Type 0) → ((f : ℕ) → Face f → Face' f) → ((f : ℕ) → Face' f → Face f) → ((g : ℕ) → Point g → Point' g)
    → Refines A m B Face Point → Refines A m B Face' Point'
reface A m B Face Point Face' Point' to back at R = record {
  piece = R.piece;
  whole = R.whole;
  cover = R.cover;
  once = R.once;
  kind = λ j e l on. ⊎_elim (λ o. inl o) (λ f. inr (to ((B j).name (slot_of (B j) e)) f)) (R.kind j e l on);
  inner_few = λ j k l e lj lk ll on f. R.inner_few j k l e lj lk ll on (back ((B j).name (slot_of (B j) e)) f);
  inner_ends = λ j k d e lj lk jd je f. R.inner_ends j k d e lj lk jd je (back ((B j).name (slot_of (B j) d)) f);
  inner_paired = λ j e l on f. R.inner_paired j e l on (back ((B j).name (slot_of (B j) e)) f);
  points = λ j g l v. ⊎_elim (λ a. inl a) (λ p. inr (at g p)) (R.points j g l v);
  linked = R.linked;
}

-- a cell that is not split
pub leaf : (c : Cell) (b f : ℕ) → Piece (local_of c) → ((s : ℕ) → s < 4 → name_of c s < f) → RefinedBy c b f (whole c ∷ [])
leaf c b f P under =
    refines_ext (local_of c) 1 (λ x. local_of c) (λ x. part_local (get_or (whole c ∷ []) x no_part)) (λ x. f ≤ x) (λ g. b ≤ g) here
    (refines_above (local_of c) 1 (λ x. local_of c) (λ x. ⊥) (λ g. ⊥) P (self (local_of c) P) b f (λ x h. absurd h) (λ g h. absurd h) under)
  where
    here : (x : ℕ) → x < 1 → local_of c ≡ part_local (get_or (whole c ∷ []) x no_part)
    here zero h = refl
    here (suc x) h = absurd (omega arith)

-- the numbers of a ready cell are below b
number_below : (c : Cell) (b f x : ℕ) → FirmBelow c b f → x < crossings (edges_of c) → number_of c x < b
unfolding number_of in_grid
number_below c b f x R l = R.below (edge (edges_of c) x) (index (edges_of c) x) ((lay (edges_of c)).edge_lt x l) ((lay (edges_of c)).index_lt x l)

pub meets_below : (c : Cell) (b f g : ℕ) → FirmBelow c b f → Meets (local_of c) g → g < b
meets_below c b f g R v = let l = v.on.lt in subst (λ n. n < b) v.is (number_below c b f (half v.d) R (omega arith))

pub own_below : (c : Cell) (b f g : ℕ) → FirmBelow c b f → Meets (own_piece c) g → g < b
own_below c b f g R v = let l = v.on.lt in subst (λ n. n < b) v.is (number_below c b f (half v.d) R (omega arith))

-- one split, with the parts l of the sub-cell that omits k; wd m is word 0 of the sub-cell that omits the label m
module _ (c : Cell) (b f : ℕ) (R : FirmBelow c b f) (some : 0 < smaller (count_of c)) (more : smaller (count_of c) < larger (count_of c)) (wd : ℕ → ℕ) (l : List Part)
    (N : RefinedBy (sub c b f (wd 2) 2) (b + 2 * (larger (count_of c) + smaller (count_of c))) (f + 6) l) where
  abbrev b' : ℕ
  b' = b + 2 * (larger (count_of c) + smaller (count_of c))

  abbrev K : is_level_cell (count_of c) ≡ true
  K = R.firm.level

  abbrev word : ℕ → ℕ
  word M = wd (label (count_of c) M)

  abbrev A : Local
  A = local_of c

  -- the positions omitted, in the order of working: those of l, k, j, i
  abbrev order : ℕ → ℕ
  order q = labelled (count_of c) (3 - q)

  ordered : Order order
  ordered = record {
    lt = λ q h. labelled_lt (count_of c) K some more (3 - q) (omega arith);
    once = λ q r lq lr e.
        let z : 3 - q ≡ 3 - r = sym (label_at (count_of c) K some more (3 - q) (omega arith)) ∙ ap (label (count_of c)) e ∙ label_at (count_of c) K some more (3 - r) (omega arith) in
        omega arith;
    back = λ M h.
        let (a, e) = at-label (count_of c) K some more M h in
        let z : 3 - (3 - label (count_of c) M) ≡ label (count_of c) M = omega arith in
        (3 - label (count_of c) M, omega arith, ap (labelled (count_of c)) z ∙ e);
  }

  abbrev at_position : ℕ → Local
  at_position M = local_of (sub_at c b f (wd (label (count_of c) M)) M)

  abbrev B : ℕ → Local
  B = five (own_piece c) at_position order

  abbrev sub_piece : ℕ → Cell
  sub_piece m = sub c b f (wd m) m

  -- a sub-cell by its label
  part_is : (m : ℕ) → m < 4 → at_position (labelled (count_of c) m) ≡ part_local (whole (sub_piece m))
  unfolding sub
  part_is m lm = ap (λ v. local_of (sub_at c b f v (labelled (count_of c) m))) (ap wd (label_at (count_of c) K some more m lm))

  ready : (m : ℕ) → m < 4 → FirmBelow (sub_piece m) b' (f + 6)
  ready m lm = sub_ready c b f R some more (wd m) m lm

  refined : Refines A 5 B (InnerFace (inside c b f)) (InnerPoint (arm_start c b) (arm_count c))
  refined = five_refines c b f R some more word order ordered

  -- names and numbers of the five parts are below those of the nested splits
  sub_name : (m s : ℕ) → m < 4 → s < 4 → (at_position (labelled (count_of c) m)).name s < f + 6
  sub_name m s lm ls = subst (λ D. D.name s < f + 6) (sym (part_is m lm)) ((ready m lm).under s ls)

  sub_meets : (m g : ℕ) → m < 4 → Meets (at_position (labelled (count_of c) m)) g → g < b'
  sub_meets m g lm v = meets_below (sub_piece m) b' (f + 6) g (ready m lm) (subst (λ D. Meets D g) (part_is m lm) v)

  abbrev k : ℕ → ℕ
  k j = get_or (1 ∷ 1 ∷ length l ∷ 1 ∷ 1 ∷ []) j 0

  C : ℕ → ℕ → Local
  C (suc (suc zero)) = λ i. part_local (get_or l i no_part)
  C zero = λ i. B 0
  C (suc zero) = λ i. B 1
  C (suc (suc (suc j))) = λ i. B (suc (suc (suc j)))

  abbrev G : ℕ → ℕ → Type 0
  G j x = (j ≡ 2) × (f + 6 ≤ x)

  abbrev H : ℕ → ℕ → Type 0
  H j g = (j ≡ 2) × (b' ≤ g)

  alone : (j : ℕ) → j < 5 → j ≢ 2 → Refines (B j) 1 (λ i. B j) (G j) (H j)
  alone j lj ne = reface (B j) 1 (λ i. B j) (λ x. ⊥) (λ g. ⊥) (G j) (H j) (λ x h. absurd h) (λ x h. ne h.0) (λ g h. absurd h) (self (B j) (refined.piece j lj))

  nested_in : Refines (B 2) (length l) (λ i. part_local (get_or l i no_part)) (G 2) (H 2)
  nested_in =
      reface (B 2) (length l) (λ i. part_local (get_or l i no_part)) (λ x. f + 6 ≤ x) (λ g. b' ≤ g) (G 2) (H 2) (λ x h. (refl, h)) (λ x h. h.1) (λ g h. (refl, h))
      (subst (λ D. Refines D (length l) (λ i. part_local (get_or l i no_part)) (λ x. f + 6 ≤ x) (λ g. b' ≤ g)) (sym (part_is 2 (omega arith))) N)

  in_parts : (j : ℕ) → j < 5 → Refines (B j) (k j) (C j) (G j) (H j)
  unfolding C
  in_parts zero h = alone 0 h (λ q. omega (arith, q))
  in_parts (suc zero) h = alone 1 h (λ q. omega (arith, q))
  in_parts (suc (suc zero)) h = nested_in
  in_parts (suc (suc (suc zero))) h = alone 3 h (λ q. omega (arith, q))
  in_parts (suc (suc (suc (suc zero)))) h = alone 4 h (λ q. omega (arith, q))
  in_parts (suc (suc (suc (suc (suc j))))) h = absurd (omega arith)

  name_below : (j s : ℕ) → j < 5 → s < (B j).slots → (B j).name s < f + 6
  name_below zero s lj ls = omega (arith, R.under s ls)
  name_below (suc q) s lj ls = sub_name (3 - q) s (omega arith) ls

  meet_below : (j g : ℕ) → j < 5 → Meets (B j) g → g < b'
  meet_below zero g lj v = omega (arith, own_below c b f g R v)
  meet_below (suc q) g lj v = sub_meets (3 - q) g (omega arith) v

  laid_out : family.Refined (record { size = 5; at = B }) k C G H
  laid_out = record {
    parts = in_parts;
    faces = λ p q x lp lq u v. u.0 ∙ sym v.0;
    inner = λ p q s lp lq ls u. omega (arith, u.1, name_below q s lq ls);
    points = λ p q g lp lq u v. u.0 ∙ sym v.0;
    apart = λ p q g lp lq u v. omega (arith, u.1, meet_below q g lq v);
  }

  inner_above : (s : ℕ) → s < 4 → InnerFace (inside c b f) (name_of c s) → ⊥
  unfolding inner_name
  inner_above s ls u = omega (arith, R.under s ls, u.is)

  all-parts : Refines A (pre k 5) (λ x. C (row k 5 x) (col k 5 x))
      (λ x. InnerFace (inside c b f) x ⊎ ((j : ℕ) × (j < 5) × G j x)) (λ g. InnerPoint (arm_start c b) (arm_count c) g ⊎ ((j : ℕ) × (j < 5) × H j g))
  all-parts =
      compose A 5 B (InnerFace (inside c b f)) (InnerPoint (arm_start c b) (arm_count c))
      (piece c R.firm) refined (λ s ls u. inner_above s ls u)
      k C G H laid_out (λ j s lj ls u. omega (arith, u.1, R.under s ls))

  -- the parts in order
  abbrev listed : List Part
  listed = corners c ∷ whole (sub_piece 3) ∷ (l ++ (whole (sub_piece 1) ∷ whole (sub_piece 0) ∷ []))

  sizes : (pre k 0 ≡ 0) × (pre k 1 ≡ 1) × (pre k 2 ≡ 2) × (pre k 3 ≡ 2 + length l) × (pre k 4 ≡ 3 + length l) × (pre k 5 ≡ 4 + length l)
  unfolding pre total
  sizes = (omega arith, omega arith, omega arith, omega arith, omega arith, omega arith)

  long_is : pre k 5 ≡ length listed
  long_is = rw length-append (omega (arith, sizes.5))

  abbrev at_all : ℕ → Local
  at_all x = C (row k 5 x) (col k 5 x)

  at_place : (j i x : ℕ) → j < 5 → i < k j → pre k j + i ≡ x → at_all x ≡ C j i
  at_place j i x lj li q = subst (λ x. at_all x ≡ C j i) q (ap₂ C (row_pack k 5 j i lj li) (col_pack k 5 j i lj li))

  after_list : (y : ℕ) → y ≡ length l → get_or (l ++ (whole (sub_piece 1) ∷ whole (sub_piece 0) ∷ [])) y no_part ≡ whole (sub_piece 1)
  after_list y q =
      let e : length l + 0 ≡ y = omega arith in
      subst (λ y. get_or (l ++ (whole (sub_piece 1) ∷ whole (sub_piece 0) ∷ [])) y no_part ≡ whole (sub_piece 1)) e (get_or-append-add l (whole (sub_piece 1) ∷ whole (sub_piece 0) ∷ []) 0 no_part)

  last_list : (y : ℕ) → y ≡ length l + 1 → get_or (l ++ (whole (sub_piece 1) ∷ whole (sub_piece 0) ∷ [])) y no_part ≡ whole (sub_piece 0)
  last_list y q =
      subst (λ y. get_or (l ++ (whole (sub_piece 1) ∷ whole (sub_piece 0) ∷ [])) y no_part ≡ whole (sub_piece 0)) (sym q) (get_or-append-add l (whole (sub_piece 1) ∷ whole (sub_piece 0) ∷ []) 1 no_part)

  each_is : (x : ℕ) → x < 4 + length l → at_all x ≡ part_local (get_or listed x no_part)
  unfolding C
  each_is zero h = at_place 0 0 0 (omega arith) (omega arith) (omega (arith, sizes.0))
  each_is (suc zero) h = at_place 1 0 1 (omega arith) (omega arith) (omega (arith, sizes.1)) ∙ part_is 3 (omega arith)
  each_is (suc (suc y)) h =
      elim (dec_lt y (length l)) [
        | yes z ↦ at_place 2 y (suc (suc y)) (omega arith) z (omega (arith, sizes.2)) ∙ ap part_local (sym (get_or-append l (whole (sub_piece 1) ∷ whole (sub_piece 0) ∷ []) no_part y z))
        | no z ↦ elim (ℕ_discrete y (length l)) [
          | yes e ↦ at_place 3 0 (suc (suc y)) (omega arith) (omega arith) (omega (arith, sizes.3)) ∙ part_is 1 (omega arith) ∙ ap part_local (sym (after_list y e))
          | no e ↦ at_place 4 0 (suc (suc y)) (omega arith) (omega arith) (omega (arith, sizes.4)) ∙ part_is 0 (omega arith) ∙ ap part_local (sym (last_list y (omega arith)))
        ]
      ]

  abbrev AnyFace : ℕ → Type 0
  AnyFace x = InnerFace (inside c b f) x ⊎ ((j : ℕ) × (j < 5) × G j x)

  abbrev AnyPoint : ℕ → Type 0
  AnyPoint g = InnerPoint (arm_start c b) (arm_count c) g ⊎ ((j : ℕ) × (j < 5) × H j g)

  face_ge : (x : ℕ) → AnyFace x → f ≤ x
  unfolding inner_name
  face_ge x (inl u) = omega (arith, u.is)
  face_ge x (inr (j, lj, u)) = omega (arith, u.1)

  point_ge : (g : ℕ) → AnyPoint g → b ≤ g
  unfolding arm_start
  point_ge g (inl u) = omega (arith, u.is)
  point_ge g (inr (j, lj, u)) = omega (arith, u.1)

  step : RefinedBy c b f listed
  step =
      refines_above A (length listed) (λ x. part_local (get_or listed x no_part)) AnyFace AnyPoint (piece c R.firm)
      (refines_ext A (length listed) at_all (λ x. part_local (get_or listed x no_part)) AnyFace AnyPoint (λ x h. each_is x (omega (arith, h, long_is, sizes.5)))
      (subst (λ n. Refines A n at_all AnyFace AnyPoint) long_is all-parts))
      b f face_ge point_ge R.under

pub parts_refine : PartsRefine
unfolding parts
parts_refine zero cell n b f c R h = leaf c b f (piece c R.firm) R.under
parts_refine (suc fuel) cell n b f c R h =
    go (is_spiral (count_of c)) refl (λ Q x. parts_refine fuel cell (n + 2) (b + 2 * (larger (count_of c) + smaller (count_of c))) (f + 6) (sub c b f (cell + word_step * (n + 2)) 2) Q x)
  where
    v : ℕ → ℕ
    v = count_of (sub c b f (cell + word_step * (n + 2)) 2)

    b' : ℕ
    b' = b + 2 * (larger (count_of c) + smaller (count_of c))

    s : ℕ
    s = splits_within (count_of c)

    word : ℕ → ℕ
    word m = get_or ((cell + word_step * (n + 4 + 4 * s)) ∷ (cell + word_step * (n + 3 + 4 * s)) ∷ (cell + word_step * (n + 2)) ∷ (cell + word_step * (n + 1)) ∷ []) m 0

    go : (e : Bool) → is_spiral (count_of c) ≡ e
        → (FirmBelow (sub c b f (cell + word_step * (n + 2)) 2) b' (f + 6) → larger v + smaller v ≤ fuel
        → RefinedBy (sub c b f (cell + word_step * (n + 2)) 2) b' (f + 6) (parts fuel cell (n + 2) b' (f + 6) (sub c b f (cell + word_step * (n + 2)) 2)))
        → RefinedBy c b f (parts (suc fuel) cell n b f c)
    go false e i = subst (RefinedBy c b f) (sym (stop fuel cell n b f c e)) (leaf c b f (piece c R.firm) R.under)
    go true e i =
        let (some, more) = spiral_is (count_of c) e in
        let M = (sub_cells c R.firm.level some more b f (cell + word_step * (n + 2))).omits_k in
        subst (RefinedBy c b f) (sym (recurse fuel cell n b f c e))
        (step c b f R some more word (parts fuel cell (n + 2) b' (f + 6) (sub c b f (cell + word_step * (n + 2)) 2))
        (i (sub_ready c b f R some more (cell + word_step * (n + 2)) 2 (omega arith)) (omega (arith, M.first, M.second))))
