-- The rows have no fault exactly where a flat grid is as the record of acceptance says; what follows for the numbers of edges.
use Prim.Native.Nat.{ℕ, zero, suc, ◌%◌, ◌*◌, ◌+◌, ◌<◌, ◌≤◌}
use mathlib.Core.Path.{◌∙◌, ◌≡◌, ap, refl, sym}
use mathlib.Core.Logic.{◌≢◌, inl, inr, ⊎_elim}
use mathlib.Core.Bool.{◌||◌, false, not, true}
use mathlib.Core.List.{List, [], ◌∷◌}
use native.Mathlib.Omega.{arith}
use lib.Dec.{eqb, leb, ltb}
use lib.ListN.{length}
use borrow.Author.Tests.{eq-eqb, eqb-false, eqb-true, le-ltb, leb-false, lt-leb, ltb-false, ne_eqb, not-false}
use Rattle.counting.specs.claims.Lists.{All}
use Rattle.counting.specs.Search.{count, first, some}
use Rattle.counting.proofs.Below.{climb, trichotomy}
use Rattle.counting.proofs.Bools.{and_left, and_right, and_true, clash, not_clash, or_false, or_none}
use Rattle.counting.proofs.Lists.{all_at}
use Rattle.counting.proofs.Search.{count_two_of, every_is, first_is, is_every, none_some, some_first, some_found, some_is, some_none, two_counted}
use Rattle.answer.specs.Answer.{is_result, result_of}
use Rattle.answer.specs.Rows.{whole, Clear}
use Rattle.answer.specs.claims.Faults.{AllClear, row_at}
use Rattle.answer.specs.work.Faults.{numbered, since}
use Rattle.answer.proofs.Numbers.{answer_tells}
use Rattle.answer.proofs.Rows.{answer_some, clear_answer, clear_or_refusal, clear_since, refusal_answer, refused_by, result_clear, result_is}
use Rattle.slots.specs.Limits.{most_count, highest_node, most_crossings}
use Rattle.slots.specs.Slots.{lower, upper}
use Rattle.grid.specs.Grid.{Before, count_of, crossings, high, joins, low}
use Rattle.grid.specs.Rows.{bad_count, bad_edge, too_many}
use Rattle.grid.proofs.Sorted.{before_not, before_same, clear_edge, edge-ends, same-edge, sorted_edges}
use Rattle.flat.specs.FlatGrid.{FlatGrid, edge_number, has_edge, is_edge, most_flat_triangles, node, same_edge, shares, triangles_in}
use Rattle.flat.specs.Rows.{accepts, bad_length, bad_pairs, bad_triangle, crowded, flat_answer, repeats, rows, same_triangle, unlisted, unused}
use Rattle.flat.specs.Accepted.{Accepted, EdgeIs, SameEdge}
use Rattle.flat.specs.claims.Claims.{EdgeNumbers, AcceptanceYields, AcceptedAnswer, AcceptsOrRefuses, AnswerTold, FaultRefused, NumbersOfAccepted, RefusesFault}

-- the same edge: as a test and as equations, either way round, and from one to the next
module _ (triangles : List ℕ) (g j f k : ℕ) where
  pub same_true : same_edge triangles g j f k ≡ true → SameEdge triangles g j f k
  unfolding same_edge
  same_true h = record {
    low_same = eqb-true _ _ (and_left (eqb (node triangles g (lower j)) (node triangles f (lower k))) (eqb (node triangles g (upper j)) (node triangles f (upper k))) h);
    high_same = eqb-true _ _ (and_right (eqb (node triangles g (lower j)) (node triangles f (lower k))) (eqb (node triangles g (upper j)) (node triangles f (upper k))) h);
  }

  pub true_same : SameEdge triangles g j f k → same_edge triangles g j f k ≡ true
  unfolding same_edge
  true_same h =
      and_true (eqb (node triangles g (lower j)) (node triangles f (lower k))) (eqb (node triangles g (upper j)) (node triangles f (upper k)))
      (eq-eqb (node triangles g (lower j)) (node triangles f (lower k)) h.low_same) (eq-eqb (node triangles g (upper j)) (node triangles f (upper k)) h.high_same)

  pub flip : SameEdge triangles g j f k → SameEdge triangles f k g j
  flip h = record { low_same = sym h.low_same; high_same = sym h.high_same }

via : (triangles : List ℕ) (a r b s c t : ℕ) → SameEdge triangles a r b s → SameEdge triangles b s c t → SameEdge triangles a r c t
via triangles a r b s c t h k = record { low_same = h.low_same ∙ k.low_same; high_same = h.high_same ∙ k.high_same }

-- an edge of a triangle, as a test and as equations
module _ (G : FlatGrid) (f k e : ℕ) where
  pub edge_true : is_edge G f k e ≡ true → EdgeIs G f k e
  unfolding is_edge joins
  edge_true h = record {
    low_is = eqb-true _ _ (and_left (eqb (low G.edges e) (node G.triangles f (lower k))) (eqb (high G.edges e) (node G.triangles f (upper k))) h);
    high_is = eqb-true _ _ (and_right (eqb (low G.edges e) (node G.triangles f (lower k))) (eqb (high G.edges e) (node G.triangles f (upper k))) h);
  }

  pub true_edge : EdgeIs G f k e → is_edge G f k e ≡ true
  unfolding is_edge joins
  true_edge h =
      and_true (eqb (low G.edges e) (node G.triangles f (lower k))) (eqb (high G.edges e) (node G.triangles f (upper k)))
      (eq-eqb (low G.edges e) (node G.triangles f (lower k)) h.low_is) (eq-eqb (high G.edges e) (node G.triangles f (upper k)) h.high_is)

-- what rows 1, 2 and 3 leave
pub length_fine : (triangles : List ℕ) → bad_length triangles ≡ false
    → (length triangles ≡ 3 * triangles_in triangles) × (0 < triangles_in triangles) × (triangles_in triangles ≤ most_flat_triangles)
unfolding bad_length
length_fine triangles e =
    let (a, b) = or_none (not (eqb (length triangles % 3) 0)) (eqb (length triangles) 0 || ltb most_flat_triangles (triangles_in triangles)) e in
    let (p, q) = or_none (eqb (length triangles) 0) (ltb most_flat_triangles (triangles_in triangles)) b in
    let f : length triangles % 3 ≡ 0 = eqb-true (length triangles % 3) 0 (not-false (eqb (length triangles % 3) 0) a) in
    let g = eqb-false (length triangles) 0 p in
    (omega arith, omega arith, ltb-false most_flat_triangles (triangles_in triangles) q)

pub pairs_fine : (edges counts : List ℕ) → bad_pairs edges counts ≡ false → length edges ≡ 2 * length counts
unfolding bad_pairs
pairs_fine edges counts e = eqb-true (length edges) (2 * length counts) (not-false (eqb (length edges) (2 * length counts)) e)

module _ (triangles : List ℕ) (f : ℕ) where
  pub triangle_fine : bad_triangle triangles f ≡ false
      → ((i : ℕ) → i < 3 → node triangles f i ≤ highest_node) × ((i : ℕ) → i < 2 → node triangles f i < node triangles f (i + 1))
  unfolding bad_triangle
  triangle_fine e =
      let (a, b) = or_none (some (λ i. ltb highest_node (node triangles f i)) 3) (some (λ i. leb (node triangles f (i + 1)) (node triangles f i)) 2) e in (
        λ i l. ltb-false highest_node (node triangles f i) (some_none (λ i. ltb highest_node (node triangles f i)) 3 a i l),
        λ i l. leb-false (node triangles f (i + 1)) (node triangles f i) (some_none (λ i. leb (node triangles f (i + 1)) (node triangles f i)) 2 b i l),
      )

  pub nodes_rise : ((i : ℕ) → i < 2 → node triangles f i < node triangles f (i + 1)) → (i j : ℕ) → i < j → j < 3 → node triangles f i < node triangles f j
  nodes_rise h = climb (λ i j. node triangles f i < node triangles f j) 3 (λ i j k a b. omega arith) (λ i l. let q : i + 1 ≡ suc i = omega arith in rw q at (h i (omega arith)))

-- no edge is in three triangles
module _ (triangles : List ℕ) (clear : (f : ℕ) → f < triangles_in triangles → crowded triangles f ≡ false) where
  no_three : (x y z u v w : ℕ) → x < y → y < z → z < triangles_in triangles → u < 3 → v < 3 → w < 3 → SameEdge triangles x u z w → SameEdge triangles y v z w → ⊥
  unfolding crowded shares
  no_three x y z u v w a b h lu lv lw f g =
      let k = ltb-false 1 (count (shares triangles z w) z) (some_none (λ k. ltb 1 (count (shares triangles z k) z)) 3 (clear z h) w lw) in
      omega (
        arith,
        count_two_of (shares triangles z w) z x y a b
            (some_found (λ j. same_edge triangles x j z w) 3 u lu (true_same triangles x u z w f)) (some_found (λ j. same_edge triangles y j z w) 3 v lv (true_same triangles y v z w g)),
      )

  no_third : (a b c r s t : ℕ) → a < triangles_in triangles → b < triangles_in triangles → c < triangles_in triangles → r < 3 → s < 3 → t < 3
      → SameEdge triangles a r b s → SameEdge triangles a r c t → a ≢ b → a ≢ c → b ≢ c → ⊥
  no_third a b c r s t la lb lc lr ls lt f g ab ac bc =
      let bc-edge = via triangles b s a r c t (flip triangles a r b s f) g in
      let cb-edge = flip triangles b s c t bc-edge in
      trichotomy b c
      (λ l. trichotomy a c (λ k. trichotomy a b (λ j. no_three a b c r s t j l lc lr ls lt g bc-edge) (λ j. no_three b a c s r t j k lc ls lr lt bc-edge g) (λ e. ab e))
      (λ k. no_three b c a s t r l k la ls lt lr (flip triangles a r b s f) (flip triangles a r c t g)) (λ e. ac e))
      (λ l. trichotomy a b (λ k. trichotomy a c (λ j. no_three a c b r t s j l lb lr lt ls f cb-edge) (λ j. no_three c a b t r s j k lb lt lr ls cb-edge f) (λ e. ac e))
      (λ k. no_three c b a t s r l k la lt ls lr (flip triangles a r c t g) (flip triangles a r b s f)) (λ e. ab e))
      (λ e. bc e)

-- the rows without a fault
record Faultless (G : FlatGrid) : Type 0 where
  row_1 : bad_length G.triangles ≡ false
  row_2 : bad_pairs G.edges G.counts ≡ false
  row_3 : (f : ℕ) → f < triangles_in G.triangles → bad_triangle G.triangles f ≡ false
  row_4 : (f : ℕ) → f < triangles_in G.triangles → repeats G.triangles f ≡ false
  row_5 : (f : ℕ) → f < triangles_in G.triangles → crowded G.triangles f ≡ false
  row_6 : (e : ℕ) → e < length G.counts → bad_edge G.edges e ≡ false
  row_18 : (e : ℕ) → e < length G.counts → bad_count G.counts e ≡ false
  row_7 : (f : ℕ) → f < triangles_in G.triangles → unlisted G f ≡ false
  row_8 : (e : ℕ) → e < length G.counts → unused G e ≡ false
  row_10 : too_many G.counts ≡ false

module _ (G : FlatGrid) (F : Faultless G) where
  lists : (length G.triangles ≡ 3 * triangles_in G.triangles) × (0 < triangles_in G.triangles) × (triangles_in G.triangles ≤ most_flat_triangles)
  lists = length_fine G.triangles F.row_1

  earlier_triangle : (d c : ℕ) → d < c → c < triangles_in G.triangles → ((i : ℕ) → i < 3 → node G.triangles d i ≡ node G.triangles c i) → ⊥
  unfolding repeats same_triangle
  earlier_triangle d c l h same =
      clash (is_every (λ i. eqb (node G.triangles d i) (node G.triangles c i)) 3 (λ i k. eq-eqb (node G.triangles d i) (node G.triangles c i) (same i k)))
      (some_none (λ d. same_triangle G.triangles d c) c (F.row_4 c h) d l)

  distinct_triangles : (c d : ℕ) → c < triangles_in G.triangles → d < triangles_in G.triangles
      → ((i : ℕ) → i < 3 → node G.triangles c i ≡ node G.triangles d i) → c ≡ d
  distinct_triangles c d lc ld same =
      trichotomy c d (λ l. absurd (earlier_triangle c d l ld same)) (λ l. absurd (earlier_triangle d c l lc (λ i k. sym (same i k)))) (λ e. e)

  accepted_of : Accepted G
  unfolding bad_count unlisted unused has_edge too_many
  accepted_of = record {
    threes = lists.0;
    some_triangle = lists.1;
    few_triangles = lists.2;
    pairs = pairs_fine G.edges G.counts F.row_2;
    within = λ f i h l. (triangle_fine G.triangles f (F.row_3 f h)).0 i l;
    increasing = λ f i j h. nodes_rise G.triangles f (triangle_fine G.triangles f (F.row_3 f h)).1 i j;
    distinct = distinct_triangles;
    third = no_third G.triangles F.row_5;
    ends = edge-ends G.edges (length G.counts) F.row_6;
    sorted = sorted_edges G.edges (length G.counts) F.row_6;
    counts_within = λ e h. ltb-false most_count (count_of G.counts e) (F.row_18 e h);
    listed = λ f k h l.
        let w = some_is (is_edge G f k) (length G.counts) (not-false _ (some_none (λ k. not (some (is_edge G f k) (length G.counts))) 3 (F.row_7 f h) k l)) in
        (w.0, w.1, edge_true G f k w.0 w.2);
    used = λ e h.
        let w = some_is (has_edge G e) (triangles_in G.triangles) (not-false _ (F.row_8 e h)) in
        let v = some_is (λ k. is_edge G w.0 k e) 3 w.2 in
        (w.0, v.0, w.1, v.1, edge_true G w.0 v.0 e v.2);
    few_crossings = ltb-false most_crossings (crossings G.counts) F.row_10;
  }

module _ (G : FlatGrid) (A : Accepted G) where
  number : ℕ → ℕ → ℕ
  number = edge_number G

  number_lt : (f k : ℕ) → f < triangles_in G.triangles → k < 3 → number f k < length G.counts
  unfolding number edge_number
  number_lt f k h l =
      let (e, le, is) = A.listed f k h l in
      some_first (is_edge G f k) (length G.counts) (some_found (is_edge G f k) (length G.counts) e le (true_edge G f k e is))

  number_is : (f k : ℕ) → f < triangles_in G.triangles → k < 3 → EdgeIs G f k (number f k)
  unfolding number edge_number
  number_is f k h l = edge_true G f k (first (is_edge G f k) (length G.counts)) (first_is (is_edge G f k) (length G.counts) (number_lt f k h l))

  -- an edge with the ends of a triangle's edge is that edge
  number_only : (f k e : ℕ) → f < triangles_in G.triangles → k < 3 → e < length G.counts → EdgeIs G f k e → number f k ≡ e
  number_only f k e h l le is =
      let n = number_is f k h l in
      same-edge G.edges (length G.counts) A.sorted (number f k) e (number_lt f k h l) le (n.low_is ∙ sym is.low_is) (n.high_is ∙ sym is.high_is)

  -- the ends of two edges of a triangle
  ends_before : (f k l : ℕ) → f < triangles_in G.triangles → k < l → l < 3
      → Before (node G.triangles f (lower k)) (node G.triangles f (upper k)) (node G.triangles f (lower l)) (node G.triangles f (upper l))
  unfolding lower upper
  ends_before f zero zero h kl ll = absurd (omega arith)
  ends_before f zero (suc zero) h kl ll = inr (refl, A.increasing f 1 2 h (omega arith) (omega arith))
  ends_before f zero (suc (suc zero)) h kl ll = inl (A.increasing f 0 1 h (omega arith) (omega arith))
  ends_before f (suc zero) (suc (suc zero)) h kl ll = inl (A.increasing f 0 1 h (omega arith) (omega arith))
  ends_before f (suc k) (suc zero) h kl ll = absurd (omega arith)
  ends_before f (suc k) zero h kl ll = absurd (omega arith)
  ends_before f (suc (suc k)) (suc (suc zero)) h kl ll = absurd (omega arith)
  ends_before f k (suc (suc (suc l))) h kl ll = absurd (omega arith)

  number_rises : (f k l : ℕ) → f < triangles_in G.triangles → k < l → l < 3 → number f k < number f l
  number_rises f k l h kl ll =
      trichotomy (number f k) (number f l) (λ g. g)
      (λ g. absurd (before_not (node G.triangles f (lower k)) (node G.triangles f (upper k)) (node G.triangles f (lower l)) (node G.triangles f (upper l)) order
      (rw (← a.low_is, ← a.high_is, ← b.low_is, ← b.high_is) (A.sorted (number f l) (number f k) g (number_lt f k h lk)))))
      (λ g. absurd (before_same (node G.triangles f (lower k)) (node G.triangles f (upper k)) (node G.triangles f (lower l)) (node G.triangles f (upper l))
      (sym a.low_is ∙ ap (low G.edges) g ∙ b.low_is) (sym a.high_is ∙ ap (high G.edges) g ∙ b.high_is) order))
    where
      lk : k < 3
      lk = omega arith

      a : EdgeIs G f k (number f k)
      a = number_is f k h lk

      b : EdgeIs G f l (number f l)
      b = number_is f l h ll

      order : Before (node G.triangles f (lower k)) (node G.triangles f (upper k)) (node G.triangles f (lower l)) (node G.triangles f (upper l))
      order = ends_before f k l h kl ll

  pub edge_numbers : EdgeNumbers G
  unfolding number
  edge_numbers = record {
    listed = number_lt;
    is = number_is;
    only = number_only;
    used = λ e h. let (f, k, lf, lk, is) = A.used e h in (f, k, lf, lk, number_only f k e lf lk h is);
    rising = number_rises;
  }

  -- THE OTHER WAY: such a flat grid has no fault

  clear_third : (f : ℕ) → f < triangles_in G.triangles → crowded G.triangles f ≡ false
  unfolding crowded shares
  clear_third f h = none_some (λ k. ltb 1 (count (shares G.triangles f k) f)) 3 (λ k l. not_clash (ltb 1 (count (shares G.triangles f k) f)) (two k l))
    where
      two : (k : ℕ) → k < 3 → ltb 1 (count (shares G.triangles f k) f) ≡ true → ⊥
      two k l e =
          let (i, j, ij, jf, p, q) = two_counted (shares G.triangles f k) f e in
          let u = some_is (λ t. same_edge G.triangles i t f k) 3 p in
          let v = some_is (λ t. same_edge G.triangles j t f k) 3 q in
          A.third f i j k u.0 v.0 h (omega arith) (omega arith) l u.1 v.1 (flip G.triangles i u.0 f k (same_true G.triangles i u.0 f k u.2))
          (flip G.triangles j v.0 f k (same_true G.triangles j v.0 f k v.2)) (λ f. omega arith) (λ f. omega arith) (λ f. omega arith)

  faultless : Faultless G
  unfolding bad_length bad_pairs bad_triangle repeats same_triangle bad_count unlisted unused has_edge too_many
  faultless = record {
    row_1 = rw (eq-eqb (length G.triangles % 3) 0 (omega (arith, A.threes)), ne_eqb (length G.triangles) 0 (λ e. omega (arith, A.some_triangle, A.threes)), le-ltb most_flat_triangles (triangles_in G.triangles) A.few_triangles);
    row_2 = rw (eq-eqb (length G.edges) (2 * length G.counts) A.pairs);
    row_3 = λ f h. or_false (some (λ i. ltb highest_node (node G.triangles f i)) 3) (some (λ i. leb (node G.triangles f (i + 1)) (node G.triangles f i)) 2)
        (none_some (λ i. ltb highest_node (node G.triangles f i)) 3 (λ i l. le-ltb highest_node (node G.triangles f i) (A.within f i h l)))
        (none_some (λ i. leb (node G.triangles f (i + 1)) (node G.triangles f i)) 2 (λ i l. lt-leb (node G.triangles f (i + 1)) (node G.triangles f i) (A.increasing f i (i + 1) h (omega arith) (omega arith))));
    row_4 = λ f h. none_some (λ d. same_triangle G.triangles d f) f (λ d l. not_clash (same_triangle G.triangles d f) (λ e.
        (let q = A.distinct d f (omega arith) h (λ i k. eqb-true _ _ (every_is (λ i. eqb (node G.triangles d i) (node G.triangles f i)) 3 e i k)) in omega arith)));
    row_5 = clear_third;
    row_6 = clear_edge G.edges (length G.counts) A.ends A.sorted;
    row_18 = λ e h. le-ltb most_count (count_of G.counts e) (A.counts_within e h);
    row_7 = λ f h. none_some (λ k. not (some (is_edge G f k) (length G.counts))) 3 (λ k l.
        (let (e, le, is) = A.listed f k h l in ap not (some_found (is_edge G f k) (length G.counts) e le (true_edge G f k e is))));
    row_8 = λ e h.
        let (f, k, lf, lk, is) = A.used e h in
        ap not (some_found (has_edge G e) (triangles_in G.triangles) f lf (some_found (λ k. is_edge G f k e) 3 k lk (true_edge G f k e is)));
    row_10 = le-ltb most_crossings (crossings G.counts) A.few_crossings;
  }

-- THE ANSWER

rows_numbered : (G : FlatGrid) → numbered (rows G) ≡ true
unfolding rows numbered
rows_numbered G = refl

none : (G : FlatGrid) → AllClear (rows G) → (n : ℕ) → Clear (row_at (since n (rows G)) 0)
none G clear n = clear_since (rows G) n clear

clear_faultless : (G : FlatGrid) → AllClear (rows G) → Faultless G
unfolding since rows
clear_faultless G clear = record {
  row_1 = none G clear 1 0 (omega arith);
  row_2 = none G clear 2 0 (omega arith);
  row_3 = none G clear 3;
  row_4 = none G clear 4;
  row_5 = none G clear 5;
  row_6 = none G clear 6;
  row_18 = none G clear 18;
  row_7 = none G clear 7;
  row_8 = none G clear 8;
  row_10 = none G clear 10 0 (omega arith);
}

all_clear : (G : FlatGrid) → Accepted G → AllClear (rows G)
unfolding rows All
all_clear G A =
    let F = faultless G A in
    all_at Clear (whole 0 false) (rows G) (λ p h. F.row_1, (λ p h. F.row_2, (F.row_3, (F.row_4, (F.row_5, (F.row_6, (F.row_18, (F.row_7, (F.row_8, (λ p h. F.row_10, tt))))))))))

pub acceptance_yields : AcceptanceYields
unfolding flat_answer
acceptance_yields G values e = accepted_of G (clear_faultless G (result_clear (rows G) (crossings G.counts ∷ []) (rows_numbered G) (ap is_result e)))

pub accepted_answer : AcceptedAnswer
unfolding flat_answer
accepted_answer G A = clear_answer (rows G) (result_of (crossings G.counts ∷ [])) (all_clear G A)

pub numbers_of_accepted : NumbersOfAccepted
numbers_of_accepted G A = edge_numbers G A

pub refuses_fault : RefusesFault
unfolding flat_answer
refuses_fault G n p r = refusal_answer (rows G) (result_of (crossings G.counts ∷ [])) n p r

pub fault_refused : FaultRefused
unfolding flat_answer
fault_refused G n p h e = refused_by (rows G) (crossings G.counts ∷ []) n p h e

pub accepts_or_refuses : AcceptsOrRefuses
unfolding flat_answer
accepts_or_refuses G = ⊎_elim (λ (h : AllClear (rows G)). inl (clear_answer (rows G) (result_of (crossings G.counts ∷ [])) h)) inr (clear_or_refusal (rows G))

-- there is always an answer
pub never_empty : (G : FlatGrid) → [] ≡ flat_answer G → ⊥
unfolding flat_answer
never_empty G q = answer_some (rows G) (crossings G.counts ∷ []) q

-- an answer that is a result is the number of crossings
pub accepted_is : (G : FlatGrid) → accepts G ≡ true → flat_answer G ≡ result_of (crossings G.counts ∷ [])
unfolding flat_answer
accepted_is G h = result_is (rows G) (crossings G.counts ∷ []) (rows_numbered G) h

pub answer_told : AnswerTold
answer_told G r s a b = answer_tells (λ n. n ∷ []) (λ x y e. cc) r s (a ∙ sym b)
