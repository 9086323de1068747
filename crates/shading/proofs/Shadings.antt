-- Shadings and the marks: the marks give a shading where there is one, the one that 02 asks for, and no other.
use Prim.Native.Nat.{ℕ, ◌+◌, ◌*◌, ◌/◌, ◌%◌, ◌<◌}
use mathlib.Core.Path.{◌≡◌, refl, sym, ap, ◌∙◌}
use mathlib.Core.Logic.{◌⊎◌, inl, inr, ⊎_elim, ◌≢◌}
use mathlib.Core.Bool.{Bool, true, false, not}
use mathlib.Core.List.{List}
use native.Mathlib.Decide.{dec_lt}
use native.Mathlib.Omega.{arith}
use lib.ListN.{length, get_or}
use lib.Seq.{ext_get_or}
use borrow.Author.Tests.{eqb-true, eq-eqb, not-false}
use Rattle.counting.specs.Search.{every}
use Rattle.counting.proofs.Bools.{holds_or, clash}
use Rattle.counting.proofs.Lists.{length_singles, values_at}
use Rattle.counting.proofs.Search.{every_is, is_every}
use Rattle.grid.specs.Grid.{Grid, has_node, low, high, count_of}
use Rattle.grid.specs.claims.Accepted.{Sound}
use Rattle.grid.proofs.Nodes.{node_at, low_has, high_has}
use Rattle.shading.specs.Marks.{most_nodes, final_marks, agrees, byte_of, unshaded, side_bytes, unused_byte}
use Rattle.shading.specs.claims.Shading.{IsShading, NoShading, EndsAre, Connected, here, further, IsLowest, IsShadingArea}
use Rattle.shading.specs.work.Work.{across, Agrees}
use Rattle.shading.proofs.Across.{across_odd, across_between}
use Rattle.shading.proofs.Paths.{reverse}
use Rattle.shading.proofs.Marks.{Marked, EndsWithin, marked}

even_or_odd : (n : ℕ) → (n % 2 ≡ 0) ⊎ (n % 2 ≡ 1)
even_or_odd n = elim (dec_lt (n % 2) 1) [
  | yes h ↦ inl (omega arith)
  | no h ↦ inr (omega arith)
]

-- sides 0 and 1 that differ, or are equal
across_differ : (c p q : ℕ) → c % 2 ≡ 1 → p < 2 → q < 2 → p ≢ q → p ≡ across c q
across_differ c p q e h k d = omega arith

across_equal : (c p q : ℕ) → c % 2 ≡ 0 → p ≡ q → p ≡ across c q
across_equal c p q e d = omega arith

parts_odd : (a b c : ℕ) → a / 2 ≡ b / 2 → (a + b) % 2 ≡ c % 2 → a ≡ across c b
parts_odd a b c e d = omega arith

sum_even : (a b c : ℕ) → (a + b + c) % 2 ≡ 0 → (a + b) % 2 ≡ c % 2
sum_even a b c e = omega arith

odd_differ : (a b c : ℕ) → c % 2 ≡ 1 → (a + b) % 2 ≡ c % 2 → a % 2 ≢ b % 2
odd_differ a b c e d q = omega arith

even_equal : (a b c : ℕ) → c % 2 ≡ 0 → (a + b) % 2 ≡ c % 2 → a % 2 ≡ b % 2
even_equal a b c e d = omega arith

from_zero : (m : ℕ) → across m 0 ≡ m % 2
from_zero m = omega arith

module _ (G : Grid) (S : Sound G) where
  abbrev n : ℕ
  n = length G.counts

  pub node_within : (x : ℕ) → has_node G.cells x ≡ true → x < most_nodes
  node_within x h = let a = node_at G.cells x h in omega (arith, a.is, S.within a.cell a.place a.cell_lt a.place_lt)

  pub ends_within : EndsWithin G
  ends_within e h = (node_within (low G.edges e) (low_has G S e h), node_within (high G.edges e) (high_has G S e h))

  abbrev marks : List ℕ
  marks = final_marks G.edges G.counts

  -- the mark of a node
  abbrev pub mark : ℕ → ℕ
  mark x = get_or marks x 0

  pub marked_all : Marked G n marks
  unfolding final_marks
  marked_all = marked G ends_within n (omega arith)

  -- the sides of a shading are labels that agree with all edges
  pub shading_agrees : (side : ℕ → ℕ) → IsShading G side → Agrees G.edges G.counts n side
  shading_agrees side I e h =
      let u = I.zero_or_one (low G.edges e) (low_has G S e h) in
      let v = I.zero_or_one (high G.edges e) (high_has G S e h) in
      ⊎_elim (λ q. across_equal (count_of G.counts e) (side (low G.edges e)) (side (high G.edges e)) q (I.equal e h q))
      (λ q. across_differ (count_of G.counts e) (side (low G.edges e)) (side (high G.edges e)) q u v (I.differ e h q))
      (even_or_odd (count_of G.counts e))

  -- where labels agree with all edges, so do the marks
  module _ (h : ℕ → ℕ) (A : Agrees G.edges G.counts n h) where
    agrees_even : (e : ℕ) → e < n → (mark (low G.edges e) + mark (high G.edges e) + count_of G.counts e) % 2 ≡ 0
    agrees_even e k =
        let M = marked_all in
        let u = low G.edges e in
        let v = high G.edges e in
        let s = mark u + mark v + count_of G.counts e in
        let w = across_between (mark u) (mark v) (count_of G.counts e) (h (mark u / 2)) (h (mark v / 2)) (h u) (h v)
        (M.fits h A u (ends_within e k).0) (M.fits h A v (ends_within e k).1) (A e k) in
        ⊎_elim (λ q. q) (λ q. absurd (across_odd s (h (mark v / 2)) q (sym w ∙ ap h (M.one e k)))) (even_or_odd s)

    pub labels_shade : unshaded G ≡ false
    unfolding unshaded agrees
    labels_shade =
        not_not (is_every (agrees G.edges G.counts marks) n
        (λ e k. eq-eqb _ _ (sum_even (mark (low G.edges e)) (mark (high G.edges e)) (count_of G.counts e) (agrees_even e k))))
      where
        not_not : {b : Bool} → b ≡ true → not b ≡ false
        not_not e = rw e

  pub lacking : unshaded G ≡ true → NoShading G
  lacking e side I = clash e (labels_shade side (shading_agrees side I))

  -- edges lead from a node to others of its part alone, and to nodes of cells alone
  part_leads : (e x y : ℕ) → e < n → EndsAre G e x y → mark x / 2 ≡ mark y / 2
  part_leads e x y h (inl (p, q)) = rw (← p, ← q) (marked_all.one e h)
  part_leads e x y h (inr (p, q)) = rw (← p, ← q) (sym (marked_all.one e h))

  pub part_connected : {x y : ℕ} → Connected G x y → mark x / 2 ≡ mark y / 2
  part_connected here = refl
  part_connected (further {y} e z p h j) = part_connected p ∙ part_leads e y z h j

  end_has : (e x y : ℕ) → e < n → EndsAre G e x y → has_node G.cells y ≡ true
  end_has e x y h (inl (p, q)) = rw (← q) (high_has G S e h)
  end_has e x y h (inr (p, q)) = rw (← q) (low_has G S e h)

  pub connected_has : {x y : ℕ} → Connected G x y → has_node G.cells x ≡ true → has_node G.cells y ≡ true
  connected_has here k = k
  connected_has (further {y} e z p h j) k = end_has e y z h j

  -- the part of a node is the lowest node of it
  pub part_has : (x : ℕ) → has_node G.cells x ≡ true → has_node G.cells (mark x / 2) ≡ true
  part_has x k = connected_has (reverse G (marked_all.path x (node_within x k))) k

  part_lowest : (x : ℕ) → has_node G.cells x ≡ true → IsLowest G (mark x / 2)
  part_lowest x k y p =
      let M = marked_all in
      let q = part_connected p in
      let o = M.own x (node_within x k) in
      omega (arith, q, o, M.low_part y (node_within y (connected_has p (part_has x k))))

  pub lowest_mark : (x : ℕ) → has_node G.cells x ≡ true → IsLowest G x → mark x ≡ 2 * x
  lowest_mark x k L =
      let M = marked_all in
      let h = node_within x k in
      let e : mark x / 2 ≡ x = omega (arith, M.low_part x h, L (mark x / 2) (reverse G (M.path x h))) in
      sym (ap mark e) ∙ M.own x h ∙ ap (λ i. 2 * i) e

  -- the bytes
  pub length_sides : length (side_bytes G) ≡ most_nodes
  unfolding side_bytes
  length_sides = length_singles (byte_of G.cells marks) most_nodes 0

  side-at : (x : ℕ) → x < most_nodes → get_or (side_bytes G) x 0 ≡ byte_of G.cells marks x
  unfolding side_bytes
  side-at x h = values_at (byte_of G.cells marks) most_nodes x 0 h

  node_side : (x : ℕ) → has_node G.cells x ≡ true → get_or (side_bytes G) x 0 ≡ mark x % 2
  node_side x k = side-at x (node_within x k) ∙ rw k

  other_side : (x : ℕ) → x < most_nodes → has_node G.cells x ≡ false → get_or (side_bytes G) x 0 ≡ unused_byte
  other_side x h k = side-at x h ∙ rw k

  module _ (shaded : unshaded G ≡ false) where
    edge_agrees : (e : ℕ) → e < n → (mark (low G.edges e) + mark (high G.edges e)) % 2 ≡ count_of G.counts e % 2
    unfolding unshaded agrees
    edge_agrees e h =
        eqb-true ((mark (low G.edges e) + mark (high G.edges e)) % 2) (count_of G.counts e % 2)
        (every_is (agrees G.edges G.counts marks) n (not-false (every (agrees G.edges G.counts marks) n) shaded) e h)

    -- the marks are labels that agree with all edges
    pub marks_agree : Agrees G.edges G.counts n mark
    marks_agree e h = parts_odd (mark (low G.edges e)) (mark (high G.edges e)) (count_of G.counts e) (marked_all.one e h) (edge_agrees e h)

    pub sides_shade : IsShading G (λ x. get_or (side_bytes G) x 0)
    sides_shade = record {
      zero_or_one = λ x k. omega (arith, node_side x k);
      differ = λ e h q. rw (node_side (low G.edges e) (low_has G S e h), node_side (high G.edges e) (high_has G S e h))
          (odd_differ (mark (low G.edges e)) (mark (high G.edges e)) (count_of G.counts e) q (edge_agrees e h));
      equal = λ e h q. rw (node_side (low G.edges e) (low_has G S e h), node_side (high G.edges e) (high_has G S e h))
          (even_equal (mark (low G.edges e)) (mark (high G.edges e)) (count_of G.counts e) q (edge_agrees e h));
    }

    pub sides_are : IsShadingArea G (side_bytes G)
    sides_are = record {
      long = length_sides;
      shading = sides_shade;
      lowest = λ x k L. node_side x k ∙ (let e = lowest_mark x k L in omega arith);
      others = other_side;
    }

  -- no other area is the one asked for
  module _ (area : List ℕ) (I : IsShadingArea G area) where
    only_node : (x : ℕ) → has_node G.cells x ≡ true → get_or area x 0 ≡ get_or (side_bytes G) x 0
    only_node x k =
        let h : ℕ → ℕ = λ y. get_or area y 0 in
        let f = marked_all.fits h (shading_agrees h I.shading) x (node_within x k) in
        let z = I.lowest (mark x / 2) (part_has x k) (part_lowest x k) in
        f ∙ ap (across (mark x)) z ∙ from_zero (mark x) ∙ sym (node_side x k)

    only_at : (x : ℕ) → x < most_nodes → get_or area x 0 ≡ get_or (side_bytes G) x 0
    only_at x h = ⊎_elim (only_node x) (λ k. I.others x h k ∙ sym (other_side x h k)) (holds_or (has_node G.cells x))

    pub only_sides : area ≡ side_bytes G
    only_sides = ext_get_or 0 area (side_bytes G) (I.long ∙ sym length_sides) (λ x h. only_at x (omega (arith, I.long)))
