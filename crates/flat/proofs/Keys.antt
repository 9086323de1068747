-- Triangles and their edges by keys: rows 1, 3, 4 and 5.
use Rattle.std.specs.Prelude.{Option, Some, None, position, option_map}
use Rattle.std.proofs.lemmas.List.{get_or-take, length-take-le}
use Rattle.std.proofs.Common.{take}
use Rattle.counting.proofs.Positions.{position_found}
use Prim.Native.Nat.{ℕ, ◌%◌, ◌*◌, ◌+◌, ◌-◌, ◌/◌, ◌<◌, ◌≤◌, min}
use mathlib.Core.Path.{◌∙◌, ◌≡◌, ap, refl, sym}
use mathlib.Core.Logic.{◌≢◌}
use mathlib.Core.Bool.{Bool, false, not, true}
use mathlib.Core.List.{List}
use native.Mathlib.Decide.{ℕ_discrete}
use native.Mathlib.Omega.{arith}
use lib.Dec.{eqb, ltb}
use lib.ListN.{get_or, length, length-replicate, replicate, set}
use lib.Seq.{sets}
use borrow.Author.Tests.{eq-eqb, eqb-true, le-ltb, lt-ltb, ne_eqb}
use Rattle.counting.specs.Pick.{pick}
use Rattle.counting.specs.Lists.{over, values}
use Rattle.counting.specs.Stored.{filled}
use Rattle.counting.specs.Search.{count, every, first, last, some}
use Rattle.counting.specs.work.Search.{found}
use Rattle.counting.proofs.Search.{AtMostOne, count_blocks, count_ext, count_none, count_plus, count_two, count_zero, first_blocks, first_ext, first_none, last_is, last_le, some_ext, some_last}
use Rattle.counting.proofs.Stored.{sets_more}
use Rattle.slots.specs.Slots.{lower, upper}
use Rattle.face.specs.claims.Ends.{Edge, on_ab, on_ac, on_bc}
use Rattle.face.proofs.Ends.{edge-of}
use Rattle.slots.specs.Limits.{highest_node}
use Rattle.slots.specs.work.Limits.{most_edges}
use Rattle.grid.specs.work.Shared.{earlier_at, key_room, join}
use Rattle.counting.specs.work.Tables.{Table, same_key}
use Rattle.grid.specs.work.Work.{third_at}
use Rattle.counting.proofs.Tables.{filled_table}
use Rattle.grid.proofs.Blocks.{block_found, block_none, found_same}
use Rattle.grid.proofs.Packed.{join_eqb}
use Rattle.flat.specs.FlatGrid.{most_flat_triangles, node, same_edge, shares, triangles_in}
use Rattle.flat.specs.Accepted.{SameEdge}
use Rattle.flat.specs.Rows.{bad_triangle, crowded, repeats, same_triangle}
use Rattle.flat.specs.work.Work.{RisingTriangles, side_key, triangle_key, twice}
use Rattle.flat.proofs.Accepts.{nodes_rise, same_true, triangle_fine}

-- row 3
pub rising_triangles : (triangles : List ℕ) → ((i : ℕ) → get_or triangles i 0 < 65536) → triangles_in triangles ≤ most_flat_triangles
    → triangles_in triangles ≤ first (bad_triangle triangles) (triangles_in triangles) → RisingTriangles triangles
rising_triangles triangles small few none = record { small = small; few = few; nodes = λ f i h l. (fine f h).0 i l; rising = λ f i h l. (fine f h).1 i l }
  where
    fine : (f : ℕ) → f < triangles_in triangles → ((i : ℕ) → i < 3 → node triangles f i ≤ highest_node) × ((i : ℕ) → i < 2 → node triangles f i < node triangles f (i + 1))
    fine f h = triangle_fine triangles f (first_none (bad_triangle triangles) (triangles_in triangles) none f h)

-- entries of the table of earlier places
entry_is : (x : ℕ) → ltb 0 x ≡ not (eqb x 0)
entry_is x = elim (ℕ_discrete x 0) [
  | yes q ↦ rw (eq-eqb x 0 q, le-ltb 0 x (omega arith))
  | no q ↦ rw (ne_eqb x 0 q, lt-ltb 0 x (omega arith))
]

same-key : (keys : List ℕ) (key x : ℕ) → same_key keys key x ≡ true → get_or keys x 0 ≡ key
unfolding same_key
same-key keys key x e = eqb-true (get_or keys x 0) key e

-- row 4
module _ (triangles : List ℕ) (small : (i : ℕ) → get_or triangles i 0 < 65536) where
  triangle_eqb : (g f : ℕ) → same_triangle triangles g f ≡ eqb (triangle_key triangles g) (triangle_key triangles f)
  unfolding same_triangle every triangle_key
  triangle_eqb g f =
      rw (
        join_eqb (join (node triangles g 0) (node triangles g 1)) (node triangles g 2) (join (node triangles f 0) (node triangles f 1)) (node triangles f 2)
            (small (3 * g + 2)) (small (3 * f + 2)),
        join_eqb (node triangles g 0) (node triangles g 1) (node triangles f 0) (node triangles f 1) (small (3 * g + 1)) (small (3 * f + 1)),
      )

  repeats_at : (n : ℕ) (keys : List ℕ) → Table (triangle_key triangles) n keys → (f : ℕ) → f < n → repeats triangles f ≡ ltb 0 (earlier_at keys f)
  unfolding repeats earlier_at same_key
  repeats_at n keys w f h =
      some_ext (λ g. same_triangle triangles g f) (λ g. eqb (get_or keys g 0) (get_or keys f 0)) f (λ g l. triangle_eqb g f ∙ rw (w.at g (omega arith), w.at f h))
      ∙ some_last (λ g. eqb (get_or keys g 0) (get_or keys f 0)) f

  pub repeats_first : (n : ℕ) (keys prev : List ℕ) → Table (triangle_key triangles) n keys → Table (earlier_at keys) n prev
      → first (λ j. not (eqb (get_or prev j 0) 0)) n ≡ first (repeats triangles) n
  repeats_first n keys prev w v =
      first_ext (λ j. not (eqb (get_or prev j 0) 0)) (repeats triangles) n (λ f h. ap (λ x. not (eqb x 0)) (v.at f h) ∙ sym (entry_is (earlier_at keys f)) ∙ sym (repeats_at n keys w f h))

-- row 5
module _ (keys prev : List ℕ) (n : ℕ) (v : Table (earlier_at keys) n prev) where
  pub entry_le : (j : ℕ) → j < n → get_or prev j 0 ≤ j
  unfolding earlier_at
  entry_le j h = rw (v.at j h) (last_le (same_key keys (get_or keys j 0)) j)

  third-at : (j : ℕ) → j < n → twice prev j ≡ third_at keys j
  unfolding twice third_at earlier_at
  third-at j h = elim (ℕ_discrete (get_or prev j 0) 0) [
    | yes q ↦ rw (eq-eqb (get_or prev j 0) 0 q) (sym (count_zero (same_key keys (get_or keys j 0)) j (sym (v.at j h) ∙ q)))
    | no q ↦
        let e : get_or prev j 0 ≡ last (same_key keys (get_or keys j 0)) j = v.at j h in
        let l : 0 < last (same_key keys (get_or keys j 0)) j = omega arith in
        let k : get_or keys (last (same_key keys (get_or keys j 0)) j - 1) 0 ≡ get_or keys j 0 = key-at l in
        let m : last (same_key keys (get_or keys j 0)) j - 1 < n = omega (arith, last_le (same_key keys (get_or keys j 0)) j) in
        rw (ne_eqb (get_or prev j 0) 0 q, e, v.at (last (same_key keys (get_or keys j 0)) j - 1) m, k)
        (sym (entry_is (last (same_key keys (get_or keys j 0)) (last (same_key keys (get_or keys j 0)) j - 1))) ∙ sym (count_two (same_key keys (get_or keys j 0)) j l))
  ]
    where
      key-at : 0 < last (same_key keys (get_or keys j 0)) j → get_or keys (last (same_key keys (get_or keys j 0)) j - 1) 0 ≡ get_or keys j 0
      key-at l = same-key keys (get_or keys j 0) (last (same_key keys (get_or keys j 0)) j - 1) (last_is (same_key keys (get_or keys j 0)) j l)

  pub twice_first : first (twice prev) n ≡ first (third_at keys) n
  twice_first = first_ext (twice prev) (third_at keys) n third-at

module _ (triangles : List ℕ) (good : RisingTriangles triangles) where
  rises : (f i j : ℕ) → f < triangles_in triangles → i < j → j < 3 → node triangles f i < node triangles f j
  rises f i j h = nodes_rise triangles f (λ i l. good.rising f i h l) i j

  -- equal keys are one edge
  edge_eqb : (g j f k : ℕ) → j < 3 → k < 3 → same_edge triangles g j f k ≡ eqb (side_key triangles (3 * g + j)) (side_key triangles (3 * f + k))
  unfolding same_edge side_key
  edge_eqb g j f k lj lk =
      let a : (3 * g + j) / 3 ≡ g = omega arith in
      let b : (3 * g + j) % 3 ≡ j = omega arith in
      let c : (3 * f + k) / 3 ≡ f = omega arith in
      let d : (3 * f + k) % 3 ≡ k = omega arith in
      rw (a, b, c, d) (sym (join_eqb (node triangles g (lower j)) (node triangles g (upper j)) (node triangles f (lower k)) (node triangles f (upper k))
      (good.small (3 * g + upper j)) (good.small (3 * f + upper k))))

  -- two edges of a triangle have different ends
  one_edge : (f j k : ℕ) → f < triangles_in triangles → Edge j → Edge k → SameEdge triangles f j f k → j ≡ k
  unfolding lower upper
  one_edge f j k h on_ab on_ab q = refl
  one_edge f j k h on_ab on_ac q = absurd (omega (arith, q.high_same, rises f 1 2 h (omega arith) (omega arith)))
  one_edge f j k h on_ab on_bc q = absurd (omega (arith, q.low_same, rises f 0 1 h (omega arith) (omega arith)))
  one_edge f j k h on_ac on_ab q = absurd (omega (arith, q.high_same, rises f 1 2 h (omega arith) (omega arith)))
  one_edge f j k h on_ac on_ac q = refl
  one_edge f j k h on_ac on_bc q = absurd (omega (arith, q.low_same, rises f 0 1 h (omega arith) (omega arith)))
  one_edge f j k h on_bc on_ab q = absurd (omega (arith, q.low_same, rises f 0 1 h (omega arith) (omega arith)))
  one_edge f j k h on_bc on_ac q = absurd (omega (arith, q.low_same, rises f 0 1 h (omega arith) (omega arith)))
  one_edge f j k h on_bc on_bc q = refl

  module _ (keys : List ℕ) (w : Table (side_key triangles) (3 * triangles_in triangles) keys) where
    keys_edge : (g j f k : ℕ) → g < triangles_in triangles → j < 3 → f < triangles_in triangles → k < 3
        → same_edge triangles g j f k ≡ eqb (get_or keys (3 * g + j) 0) (get_or keys (3 * f + k) 0)
    keys_edge g j f k hg hj hf hk = edge_eqb g j f k hj hk ∙ rw (w.at (3 * g + j) (omega arith), w.at (3 * f + k) (omega arith))

    apart : (f j k : ℕ) → f < triangles_in triangles → j < 3 → k < 3 → get_or keys (3 * f + j) 0 ≡ get_or keys (3 * f + k) 0 → j ≡ k
    apart f j k h lj lk e = one_edge f j k h (edge-of j lj) (edge-of k lk) (same_true triangles f j f k (keys_edge f j f k h lj h lk ∙ eq-eqb _ _ e))

    module _ (f : ℕ) (h : f < triangles_in triangles) where
      abbrev T : ℕ → ℕ → Bool
      T k x = eqb (get_or keys x 0) (get_or keys (3 * f + k) 0)

      slot : (k : ℕ) → k < 3 → ltb 1 (count (shares triangles f k) f) ≡ third_at keys (3 * f + k)
      unfolding third_at same_key shares
      slot k hk =
          ap (ltb 1) (count_ext (λ g. some (λ j. same_edge triangles g j f k) 3) (λ g. some (λ j. T k (3 * g + j)) 3) f
          (λ g l. some_ext (λ j. same_edge triangles g j f k) (λ j. T k (3 * g + j)) 3 (λ j m. keys_edge g j f k (omega arith) m h hk))
          ∙ sym (count_blocks (T k) 3 f once) ∙ sym above)
        where
          once : (g : ℕ) → g < f → AtMostOne (λ j. T k (3 * g + j)) 3
          once g l i j a b p q = omega (arith, apart g i j (omega arith) (omega arith) b (eqb-true _ _ p ∙ sym (eqb-true _ _ q)))

          above : count (T k) (3 * f + k) ≡ count (T k) (3 * f)
          above =
              count_plus (T k) (3 * f) k
              ∙ rw (count_none (λ i. T k (3 * f + i)) k (λ i l. ne_eqb (get_or keys (3 * f + i) 0) (get_or keys (3 * f + k) 0) (λ q. omega (arith, apart f i k h (omega arith) hk q)))) (omega arith)

      third_keys : crowded triangles f ≡ some (λ k. third_at keys (3 * f + k)) 3
      unfolding crowded
      third_keys = some_ext (λ k. ltb 1 (count (shares triangles f k) f)) (λ k. third_at keys (3 * f + k)) 3 slot

    pub third_first : first (third_at keys) (3 * triangles_in triangles) / 3 ≡ first (crowded triangles) (triangles_in triangles)
    third_first =
        first_blocks (third_at keys) 3 (triangles_in triangles) (omega arith)
        ∙ sym (first_ext (crowded triangles) (λ f. some (λ k. third_at keys (3 * f + k)) 3) (triangles_in triangles) third_keys)

-- as the code meets them
pub earlier_table : {g : ℕ → ℕ} {n : ℕ} {keys : List ℕ} → Table g n keys → (m : ℕ) {prev : List ℕ}
    → prev ≡ filled (earlier_at keys) (key_room (length keys) (length (replicate {A = ℕ} m 0))) (replicate m 0) → n ≤ m → n ≤ most_edges → Table (earlier_at keys) n prev
unfolding key_room
earlier_table {n = n} {keys} k m {prev} e a b =
    let r : length (replicate {A = ℕ} m 0) ≡ m = length-replicate {A = ℕ} m 0 in
    let t = filled_table (earlier_at keys) (min (min (length keys) (length (replicate {A = ℕ} m 0))) most_edges) (replicate m 0) prev e (omega arith) in
    record { room = omega (arith, t.room, k.room); at = λ i h. t.at i (omega (arith, k.room)) }

pub side-at : (triangles : List ℕ) (f k : ℕ) → k < 3 → side_key triangles (3 * f + k) ≡ node triangles f (lower k) * 65536 + node triangles f (upper k)
unfolding side_key
side-at triangles f k l =
    let a : (3 * f + k) / 3 ≡ f = omega arith in
    let b : (3 * f + k) % 3 ≡ k = omega arith in
    rw (a, b)

pub sides_put : (triangles keys : List ℕ) (f a b c : ℕ) → a ≡ node triangles f 0 → b ≡ node triangles f 1 → c ≡ node triangles f 2
    → set (set (set keys (3 * f) (a * 65536 + b)) (3 * f + 1) (a * 65536 + c)) (3 * f + 2) (b * 65536 + c) ≡ sets keys (3 * f) (values (λ k. side_key triangles (3 * f + k)) 3)
unfolding over lower upper
sides_put triangles keys f a b c p q r =
    let g : ℕ → ℕ = λ k. side_key triangles (3 * f + k) in
    let e1 = sets_more g (3 * f) 0 keys keys (3 * f) (a * 65536 + b) refl (omega arith) (rw (p, q) (sym (side-at triangles f 0 (omega arith)))) in
    let e2 = sets_more g (3 * f) 1 keys _ (3 * f + 1) (a * 65536 + c) e1 refl (rw (p, r) (sym (side-at triangles f 1 (omega arith)))) in
    sets_more g (3 * f) 2 keys _ (3 * f + 2) (b * 65536 + c) e2 refl (rw (q, r) (sym (side-at triangles f 2 (omega arith))))

pub twice_none : (prev : List ℕ) (j : ℕ) {p : ℕ} → p ≡ get_or prev j 0 → p ≡ 0 → twice prev j ≡ false
unfolding twice
twice_none prev j q z = rw (eq-eqb (get_or prev j 0) 0 (sym q ∙ z))

pub twice_hit : (prev : List ℕ) (j : ℕ) {p : ℕ} → p ≡ get_or prev j 0 → p ≢ 0 → get_or prev (p - 1) 0 ≢ 0 → twice prev j ≡ true
unfolding twice
twice_hit prev j q z h = rw (← q, ne_eqb _ 0 z, ne_eqb _ 0 h)

pub twice_miss : (prev : List ℕ) (j : ℕ) {p : ℕ} → p ≡ get_or prev j 0 → get_or prev (p - 1) 0 ≡ 0 → twice prev j ≡ false
unfolding twice
twice_miss prev j {p} q h = rw (← q, eq-eqb (get_or prev (p - 1) 0) 0 h) (go (eqb p 0))
  where
    go : (b : Bool) → pick b false false ≡ false
    go true = refl
    go false = refl

-- the first of these places with an entry
pub entry_found : (prev : List ℕ) (n : ℕ) → n ≤ length prev → position (λ p. not (eqb p 0)) (take n prev) ≡ found (λ j. not (eqb (get_or prev j 0) 0)) n
entry_found prev n h =
    let l : length (take n prev) ≡ n = length-take-le n prev h in
    position_found (λ p. not (eqb p 0)) (take n prev) 0 ∙ ap (found (λ j. not (eqb (get_or (take n prev) j 0) 0))) l
    ∙ found_same _ _ n (first_ext _ _ n (λ j k. ap (λ p. not (eqb p 0)) (get_or-take n prev j 0 k)))

-- the block of the first place found
pub third_found : (t u : ℕ → Bool) (n : ℕ) → first t (3 * n) / 3 ≡ first u n → (o : Option ℕ) → o ≡ found t (3 * n) → option_map (λ j. j / 3) o ≡ found u n
third_found t u n q (Some j) e = block_found t u 3 n (omega arith) q j e
third_found t u n q None e = block_none t u 3 n (omega arith) q e
