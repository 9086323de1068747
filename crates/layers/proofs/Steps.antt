-- What the turns and the returns of the code come to.
use Prim.Native.Nat.{ℕ, ◌+◌, ◌-◌, ◌*◌, ◌/◌, ◌%◌, ◌≤◌, ◌<◌}
use mathlib.Core.Path.{◌≡◌, refl, sym, ap, ◌∙◌}
use mathlib.Core.Bool.{Bool, true, false, not}
use mathlib.Core.Logic.{◌⊎◌, inl, ⊎_elim}
use mathlib.Core.List.{List}
use native.Mathlib.Nat.{zero-add, not-suc-le-zero}
use native.Mathlib.Numerals.{add-one}
use native.Mathlib.Omega.{arith}
use native.Mathlib.Decide.{dec_lt, ℕ_discrete}
use lib.Dec.{eqb, leb, ltb}
use lib.ListN.{length, get_or, set, length-set}
use lib.Seq.{sets, length-sets, get_or-set_same, get_or-set_other}
use borrow.Author.Tests.{eq-eqb, ne_eqb, lt-ltb, le-ltb}
use Rattle.counting.specs.Pick.{pick}
use Rattle.counting.specs.Search.{some}
use Rattle.counting.specs.Lists.{pre, total, over, values}
use Rattle.counting.proofs.Bools.{or_left, or_right, or_false, clash, not_clash}
use Rattle.counting.specs.Stored.{filled}
use Rattle.counting.proofs.Pack.{pre_next}
use Rattle.counting.proofs.Range.{total_ext, total_zero, total_split}
use Rattle.counting.proofs.Lists.{length_singles, values_at}
use Rattle.counting.proofs.Stored.{filled_at, sets_more}
use Rattle.counting.proofs.Stores.{get_or_sets_in, get_or_sets_out}
use Rattle.slots.specs.Limits.{most_cells, most_slots}
use Rattle.slots.specs.work.Limits.{most_edges}
use Rattle.counting.proofs.Search.{some_zero, some_hit, some_miss}
use Rattle.layers.specs.Cuts.{cut_at, run_start, bad_cut}
use Rattle.layers.specs.work.Work.{name_from, side_from, used_by, block_size, block_of, most_marks, EdgesMarked, marked_start, StartsSumming, StartsSummed, Layable, Copied, Started}

-- CUTS

module _ (n : ℕ) (cuts : List ℕ) (i : ℕ) where
  bad_low : cut_at cuts i ≤ run_start cuts i → bad_cut n cuts i ≡ true
  unfolding bad_cut
  bad_low h = or_left (not (ltb (run_start cuts i) (cut_at cuts i))) (not (ltb (cut_at cuts i) n)) (ap not (le-ltb (run_start cuts i) (cut_at cuts i) h))

  bad_high : n ≤ cut_at cuts i → bad_cut n cuts i ≡ true
  unfolding bad_cut
  bad_high h = or_right (not (ltb (run_start cuts i) (cut_at cuts i))) (not (ltb (cut_at cuts i) n)) (ap not (le-ltb (cut_at cuts i) n h))

  pub bad_cut_at : {before : ℕ} → before ≡ run_start cuts i → (cut_at cuts i ≤ before) ⊎ (n ≤ cut_at cuts i) → bad_cut n cuts i ≡ true
  bad_cut_at e = ⊎_elim (λ (h : _). bad_low (omega (arith, e))) bad_high

  pub not_bad : run_start cuts i < cut_at cuts i → cut_at cuts i < n → bad_cut n cuts i ≡ false
  unfolding bad_cut
  not_bad h k =
      or_false (not (ltb (run_start cuts i) (cut_at cuts i))) (not (ltb (cut_at cuts i) n))
      (ap not (lt-ltb (run_start cuts i) (cut_at cuts i) h)) (ap not (lt-ltb (cut_at cuts i) n k))

pub start_next : (cuts : List ℕ) (i : ℕ) → cut_at cuts i ≡ run_start cuts (i + 1)
start_next cuts i = rw add-one

-- TABLES

pub base_small : (base x j m : ℕ) → x < m → j < m → pick (leb base x) (x - base) j < m
base_small base x j m h k = go (leb base x)
  where
    go : (b : Bool) → pick b (x - base) j < m
    go true = omega arith
    go false = k

pub marked_none : (from m : ℕ) (sides used : List ℕ) → ((e : ℕ) → get_or used e 0 < m) → EdgesMarked from 0 m sides used used
unfolding used_by
marked_none from m sides used z = record {
  same = refl;
  mark = λ e l. block_unmarked e ∙ sym (some_zero (λ j. eqb (side_from sides from j) e));
  block = λ e l q. clash q (block_unmarked e);
  most = λ e. omega (arith, z e);
}
  where
    block_unmarked : (e : ℕ) → eqb (get_or used e 0) m ≡ false
    block_unmarked e = ne_eqb (get_or used e 0) m (λ q. omega (arith, z e))

-- one edge more, with its block
module _ {from j m : ℕ} {sides before used : List ℕ} (M : EdgesMarked from j m sides before used) (e : ℕ) (q : e ≡ side_from sides from j) (l : e < most_edges) (long : length used ≡ most_marks) where
  abbrev one : List ℕ
  one = set used e m

  abbrev more : List ℕ
  more = set (set used e m) (block_of e) m

  -- marks of edges
  edge_mark : (x : ℕ) → x < most_edges → get_or more x 0 ≡ get_or one x 0
  edge_mark x h = get_or-set_other one (block_of e) x m 0 (λ w. omega arith)

  mark_at : (x : ℕ) → x < most_edges → Dec (x ≡ e) → eqb (get_or more x 0) m ≡ some (λ i. eqb (side_from sides from i) x) (j + 1)
  unfolding used_by
  mark_at x h (yes u) =
      eq-eqb (get_or more x 0) m (edge_mark x h ∙ ap (λ y. get_or one y 0) u ∙ get_or-set_same used e m 0 (omega (arith, long)))
      ∙ sym (some_hit (λ i. eqb (side_from sides from i) x) j (eq-eqb (side_from sides from j) x (sym q ∙ sym u)))
  mark_at x h (no u) =
      ap (λ y. eqb y m) (edge_mark x h ∙ get_or-set_other used e x m 0 u) ∙ M.mark x h
      ∙ sym (some_miss (λ i. eqb (side_from sides from i) x) j (ne_eqb (side_from sides from j) x (λ w. u (sym w ∙ sym q))))

  block_at : (x : ℕ) → x < most_edges → Dec (x / block_size ≡ e / block_size) → eqb (get_or more x 0) m ≡ true → get_or more (block_of x) 0 ≡ m
  block_at x h (yes u) p = ap (λ b. get_or more (most_edges + b) 0) u ∙ get_or-set_same one (block_of e) m 0 (omega (arith, long, length-set used e m))
  block_at x h (no u) p =
      get_or-set_other one (block_of e) (block_of x) m 0 (λ w. u (omega arith)) ∙ get_or-set_other used e (block_of x) m 0 (λ w. omega arith)
      ∙ M.block x h (ap (λ y. eqb y m) (sym (edge_mark x h ∙ get_or-set_other used e x m 0 (λ w. u (ap (λ y. y / block_size) w)))) ∙ p)

  one_most : (x : ℕ) → Dec (x ≡ e) → get_or one x 0 ≤ m
  one_most x (yes u) = omega (arith, ap (λ y. get_or one y 0) u ∙ get_or-set_same used e m 0 (omega (arith, long)))
  one_most x (no u) = omega (arith, get_or-set_other used e x m 0 u, M.most x)

  more_most : (x : ℕ) → Dec (x ≡ block_of e) → get_or more x 0 ≤ m
  more_most x (yes u) = omega (arith, ap (λ y. get_or more y 0) u ∙ get_or-set_same one (block_of e) m 0 (omega (arith, long, length-set used e m)))
  more_most x (no u) = omega (arith, get_or-set_other one (block_of e) x m 0 u, one_most x (ℕ_discrete x e))

  pub marked_more : EdgesMarked from (j + 1) m sides before (set (set used e m) (block_of e) m)
  unfolding used_by
  marked_more = record {
    same = length-set one (block_of e) m ∙ length-set used e m ∙ M.same;
    mark = λ x h. mark_at x h (ℕ_discrete x e);
    block = λ x h. block_at x h (ℕ_discrete (x / block_size) (e / block_size));
    most = λ x. more_most x (ℕ_discrete x (block_of e));
  }

module _ (counts used : List ℕ) (m : ℕ) where
  pub sum_none : 0 ≡ marked_start counts used m 0
  unfolding marked_start pre total
  sum_none = refl

  pub sum_more : (e : ℕ) → marked_start counts used m e + pick (eqb (get_or used e 0) m) (get_or counts e 0) 0 ≡ marked_start counts used m (e + 1)
  unfolding marked_start
  sum_more e = rw add-one (sym (pre_next (λ d. pick (eqb (get_or used d 0) m) (get_or counts d 0) 0) 0 e))

  -- a block without a marked edge
  pub sum_skip : (a z : ℕ) → a ≤ z → ((e : ℕ) → a ≤ e → e < z → eqb (get_or used e 0) m ≡ false) → marked_start counts used m a ≡ marked_start counts used m z
  unfolding marked_start pre
  sum_skip a z h none =
      let f : ℕ → ℕ = λ d. pick (eqb (get_or used d 0) m) (get_or counts d 0) 0 in
      let e : z ≡ a + (z - a) = omega arith in
      let t : total f (z - a) a ≡ 0 = total_zero f (z - a) a (λ d k l. ap (λ b. pick b (get_or counts d 0) 0) (none d k (omega arith))) in
      let s = total_split f a (z - a) 0 in
      let u : total f z 0 ≡ total f (a + (z - a)) 0 = ap (λ n. total f n 0) e in
      let v : total f (z - a) (0 + a) ≡ total f (z - a) a = ap (total f (z - a)) (zero-add a) in
      omega (arith, s, t, u, v)

  -- a block that is added: before its first edge, and one edge more
  abbrev start_from : ℕ → ℕ → ℕ
  start_from at i = marked_start counts used m (at + i)

  pub block_none : (at : ℕ) (l : List ℕ) → l ≡ sets l at (values (λ i. marked_start counts used m (at + i)) (at - at))
  unfolding over
  block_none at l = let z : at - at ≡ 0 = omega arith in ap (λ k. sets l at (values (start_from at) k)) (sym z)

  pub block_more : (at e : ℕ) (l : List ℕ) {starts : List ℕ} {s : ℕ} → at ≤ e → starts ≡ sets l at (values (λ i. marked_start counts used m (at + i)) (e - at)) → s ≡ marked_start counts used m e
      → set starts e s ≡ sets l at (values (λ i. marked_start counts used m (at + i)) (e + 1 - at))
  block_more at e l {starts} {s} h w q =
      let i : e ≡ at + (e - at) = omega arith in
      let j : e - at + 1 ≡ e + 1 - at = omega arith in
      sets_more (start_from at) at (e - at) l starts e s w i (q ∙ ap (marked_start counts used m) i) ∙ ap (λ k. sets l at (values (start_from at) k)) j

  -- no edge of a block is marked whose mark is another
  pub block_unmarked : (starts : List ℕ) → StartsSumming counts used m starts → (e end : ℕ) → e < most_edges → e % block_size ≡ 0 → end ≤ e + block_size → end ≤ most_edges
      → (get_or used (block_of e) 0 ≡ m → ⊥) → (d : ℕ) → e ≤ d → d < end → eqb (get_or used d 0) m ≡ false
  block_unmarked starts S e end l z h k other d a b =
      let q : d / block_size ≡ e / block_size = omega arith in
      not_clash (eqb (get_or used d 0) m) (λ p. other (ap (λ x. get_or used (most_edges + x) 0) (sym q) ∙ S.block d (omega arith) p))

  -- no start yet
  pub starts_none : (starts : List ℕ) → StartsSummed counts used m 0 starts starts
  starts_none starts = record { same = refl; first = λ e l. absurd (not-suc-le-zero l) }

  -- the starts so far, after a block that is passed over and after one that is added
  module _ {at end : ℕ} {before starts : List ℕ} (S : StartsSummed counts used m at before starts) where
    pub starts_skip : ((e : ℕ) → at ≤ e → e < end → eqb (get_or used e 0) m ≡ false) → StartsSummed counts used m end before starts
    starts_skip none = record {
      same = S.same;
      first = λ e l q. elim (dec_lt e at) [
        | yes h ↦ S.first e h q
        | no h ↦ clash q (none e (omega arith) l)
      ];
    }

    pub starts_more : at ≤ end → end ≤ length starts → {after : List ℕ} → after ≡ sets starts at (values (λ i. marked_start counts used m (at + i)) (end - at)) → StartsSummed counts used m end before after
    starts_more h k {after} w =
        let vs = values (λ i. marked_start counts used m (at + i)) (end - at) in
        let lv = length_singles (λ i. marked_start counts used m (at + i)) (end - at) 0 in
        record {
          same = ap length w ∙ length-sets starts at vs ∙ S.same;
          first = λ e l q. elim (dec_lt e at) [
            | yes g ↦ ap (λ r. get_or r e 0) w ∙ get_or_sets_out vs starts at e 0 (inl g) ∙ S.first e g q
            | no g ↦ (let i : e ≡ at + (e - at) = omega arith in
                ap (λ r. get_or r e 0) w ∙ ap (λ k. get_or (sets starts at vs) k 0) i ∙ get_or_sets_in vs starts at (e - at) 0 (omega arith) (omega arith)
                ∙ values_at (λ i. marked_start counts used m (at + i)) (end - at) (e - at) 0 (omega arith) ∙ ap (marked_start counts used m) (sym i))
          ];
        }

-- how far the starts are written: their sum, and the starts of the marked edges before `end`
pub record SummedTo (counts used : List ℕ) (m : ℕ) (before : List ℕ) (end s : ℕ) (starts : List ℕ) : Type 0 where
  pub sum : s ≡ marked_start counts used m end
  pub small : s ≤ 65535 * end
  pub starts_are : StartsSummed counts used m end before starts

module _ (counts used : List ℕ) (m : ℕ) where
  pub summed_none : (starts : List ℕ) (end : ℕ) → end ≡ 0 → SummedTo counts used m starts end 0 starts
  summed_none starts end e = rw e (record { sum = sum_none counts used m; small = omega arith; starts_are = starts_none counts used m starts })

  module _ {before starts : List ℕ} {x s : ℕ} (S : SummedTo counts used m before x s starts) (at end : ℕ) (e : x ≡ at) (h : at ≤ end) where
    here : SummedTo counts used m before at s starts
    here = rw (← e) S

    pub summed_skip : ((d : ℕ) → at ≤ d → d < end → eqb (get_or used d 0) m ≡ false) → SummedTo counts used m before end s starts
    summed_skip none = record {
      sum = here.sum ∙ sum_skip counts used m at end h none;
      small = omega (arith, here.small);
      starts_are = starts_skip counts used m here.starts_are none;
    }

    pub summed_more : {r : ℕ} {after : List ℕ} → end ≤ length starts → (r ≡ marked_start counts used m end) × (r ≤ 65535 * end)
        → after ≡ sets starts at (values (λ i. marked_start counts used m (at + i)) (end - at)) → SummedTo counts used m before end r after
    summed_more k v w = record { sum = v.0; small = v.1; starts_are = starts_more counts used m here.starts_are h k w }

-- the tables of a run
pub copied_run : (names sides ownNames ownSides : List ℕ) (from size : ℕ) → from + size ≤ most_cells → length ownNames ≡ most_slots → length ownSides ≡ most_edges → {names' sides' : List ℕ}
    → names' ≡ filled (name_from names from) (4 * size) ownNames → sides' ≡ filled (side_from sides from) (6 * size) ownSides → Copied names sides from size names' sides'
copied_run names sides ownNames ownSides from size few ln ls {names'} {sides'} n s = record {
  name = λ j h. ap (λ l. get_or l j 0) n ∙ filled_at (name_from names from) (4 * size) ownNames 0 (omega arith) j h;
  side = λ j h. ap (λ l. get_or l j 0) s ∙ filled_at (side_from sides from) (6 * size) ownSides 0 (omega arith) j h;
}

pub started_run : (counts sides ownStarts before : List ℕ) (from size m : ℕ) → Layable counts sides before from size m → length ownStarts ≡ most_edges → {starts' used : List ℕ}
    → EdgesMarked from (6 * size) m sides before used → StartsSummed counts used m (length counts) ownStarts starts' → Started counts sides from size m starts' used
unfolding marked_start pre
started_run counts sides ownStarts before from size m P lt {starts'} {used} M t = record {
  first = λ e h q.
      t.first e h (M.mark e (omega (arith, P.few_edges)) ∙ q)
      ∙ total_ext (λ d. pick (eqb (get_or used d 0) m) (get_or counts d 0) 0) (λ d. pick (used_by sides from (6 * size) d) (get_or counts d 0) 0) e 0
      (λ d a b. ap (λ u. pick u (get_or counts d 0) 0) (M.mark d (omega (arith, P.few_edges))));
  long = t.same ∙ lt;
  most = M.most;
}
