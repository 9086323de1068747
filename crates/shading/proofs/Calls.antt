-- What the call answers and writes, from what its parts leave.
use Rattle.std.specs.Prelude.{Result, Ok, Err}
use Prim.Native.Nat.{ℕ, ◌+◌, ◌*◌, ◌/◌, ◌%◌, ◌<◌}
use mathlib.Core.Path.{◌≡◌, refl, sym, ap, ◌∙◌, subst}
use mathlib.Core.Logic.{⊎_elim, ◌≢◌}
use mathlib.Core.Bool.{Bool, true, false, not}
use mathlib.Core.List.{List, [], ◌∷◌}
use native.Mathlib.Omega.{arith}
use lib.Dec.{eqb}
use lib.ListN.{length, get_or}
use borrow.Author.Tests.{eq-eqb, ne_eqb}
use Rattle.answer.specs.Answer.{result_of, refusal, is_result}
use Rattle.answer.specs.Rows.{whole, answer_of}
use Rattle.answer.proofs.Rows.{row_passes, row_refuses, rows_end, whole_fault, whole_fine}
use Rattle.counting.specs.Pick.{pick}
use Rattle.counting.proofs.Bools.{holds_or}
use Rattle.counting.proofs.Stored.{filled_whole}
use Rattle.answer.specs.declared.Refusal.{Refusal}
use Rattle.grid.specs.Grid.{Grid, has_node, low, high, built}
use Rattle.grid.specs.Rows.{grid_answer, accepts}
use Rattle.grid.specs.Check.{check_numbers}
use Rattle.grid.specs.claims.Accepted.{Sound}
use Rattle.grid.proofs.Filled.{refused_keeps, crossings_accept, told_built}
use Rattle.grid.proofs.Nodes.{low_has, high_has}
use Rattle.shading.specs.Marks.{most_nodes, unused_byte, final_marks, byte_of, unshaded, side_bytes}
use Rattle.shading.specs.Answer.{shading_numbers, shading_rows, shading_answer, shading_area}
use Rattle.shading.specs.Done.{Done}
use Rattle.shading.specs.work.Work.{across, Agrees, no_link, HasLink, Forest, Fits, AllUnitable, TiedAll, UnitedAll, Roots, BytesBy, Sided, ShadedIn}
use Rattle.shading.proofs.Across.{across_even}
use Rattle.shading.proofs.Shadings.{node_within, mark, marked_all, labels_shade, marks_agree, part_has}
use Rattle.shading.proofs.Climbs.{top, top_fits, top_root, top_low}

module _ (G : Grid) (S : Sound G) where
  abbrev n : ℕ
  n = length G.counts

  -- each node of a cell is a root
  module _ (links : List ℕ) (R : Roots G.cells links) where
    node_root : (x : ℕ) → has_node G.cells x ≡ true → get_or links x 0 ≡ 2 * x
    node_root x k = R.at x (node_within G S x k) ∙ rw k

    node_linked : (x : ℕ) → has_node G.cells x ≡ true → HasLink links x
    node_linked x k = let h = node_within G S x k in (h, λ e. omega (arith, node_root x k))

    free_at : (x : ℕ) → x < most_nodes → has_node G.cells x ≡ false → get_or links x 0 ≡ no_link
    free_at x h k = R.at x h ∙ rw k

    linked_node : (x : ℕ) → HasLink links x → has_node G.cells x ≡ true
    linked_node x L = ⊎_elim (λ k. k) (λ k. absurd (L.1 (free_at x L.0 k))) (holds_or (has_node G.cells x))

    linked_root : (x : ℕ) → HasLink links x → get_or links x 0 ≡ 2 * x
    linked_root x L = node_root x (linked_node x L)

    roots_forest : Forest links
    roots_forest = record {
      long = R.long;
      has = λ x L. (let e : x ≡ get_or links x 0 / 2 = omega (arith, linked_root x L) in subst (HasLink links) e L);
      low_parent = λ x L. omega (arith, linked_root x L);
      root = λ x L e. linked_root x L;
    }

    pub all_unitable : AllUnitable G.edges G.counts links
    all_unitable = record {
      pairs = S.pairs;
      forest = roots_forest;
      fits = λ h x L.
          (let r = linked_root x L in
          let e : x ≡ get_or links x 0 / 2 = omega arith in
          ap h e ∙ sym (across_even (get_or links x 0) (h (get_or links x 0 / 2)) (omega arith)));
      low_linked = λ e h. node_linked (low G.edges e) (low_has G S e h);
      high_linked = λ e h. node_linked (high G.edges e) (high_has G S e h);
    }

    -- all edges are tied
    module _ (l : List ℕ) (T : TiedAll G.edges G.counts links n l) where
      tied_linked : (x : ℕ) → has_node G.cells x ≡ true → HasLink l x
      tied_linked x k = T.nodes.kept x (node_linked x k)

      tied_node : (x : ℕ) → HasLink l x → has_node G.cells x ≡ true
      tied_node x L =
          ⊎_elim (λ k. k) (λ k. absurd (L.1 (T.nodes.free x L.0 (free_at x L.0 k)))) (holds_or (has_node G.cells x))

      top_agrees : Agrees G.edges G.counts n (top l T.forest)
      top_agrees = T.back (top l T.forest) (top_fits l T.forest)

      pub tied_shaded : unshaded G ≡ false
      tied_shaded = labels_shade G S (top l T.forest) top_agrees

      marks_fit : Fits l (mark G S)
      marks_fit = T.fits (mark G S) (marks_agree G S tied_shaded)

      -- a root of the links is the lowest node of its part
      root_mark : (x : ℕ) → HasLink l x → get_or l x 0 / 2 ≡ x → mark G S x ≡ 2 * x
      root_mark x L e =
          let M = marked_all G S in
          let t = top_root l T.forest x (T.forest.root x L e) in
          let p = mark G S x / 2 in
          let f = M.fits (top l T.forest) top_agrees x L.0 in
          let low = top_low l T.forest p (tied_linked p (part_has G S x (tied_node x L))) in
          let q : p ≡ x = omega (arith, M.low_part x L.0, half (mark G S x) (top l T.forest p) x (sym t ∙ f)) in
          sym (ap (mark G S) q) ∙ M.own x L.0 ∙ ap (λ i. 2 * i) q
        where
          half : (s h x : ℕ) → 2 * x ≡ across s h → x ≡ h / 2
          half s h x e = omega arith

      abbrev byte : ℕ → ℕ
      byte = byte_of G.cells (final_marks G.edges G.counts)

      node_byte : (x : ℕ) → has_node G.cells x ≡ true → byte x ≡ mark G S x % 2
      node_byte x k = rw k

      free_byte : (x : ℕ) → has_node G.cells x ≡ false → byte x ≡ unused_byte
      free_byte x k = rw k

      bytes_by : BytesBy l byte
      bytes_by = record {
        free = λ x h e. ⊎_elim (λ k. absurd ((tied_linked x k).1 e)) (free_byte x) (holds_or (has_node G.cells x));
        root = λ x L e. node_byte x (tied_node x L) ∙ (let m = root_mark x L e in omega arith);
        child = λ x L.
            node_byte x (tied_node x L) ∙ ap (λ k. k % 2) (marks_fit x L) ∙ odd_sum (get_or l x 0) (mark G S (get_or l x 0 / 2))
            ∙ ap (λ k. (k + get_or l x 0) % 2) (sym (node_byte (get_or l x 0 / 2) (tied_node (get_or l x 0 / 2) (T.forest.has x L))));
      }
        where
          odd_sum : (s h : ℕ) → across s h % 2 ≡ (h % 2 + s) % 2
          odd_sum s h = omega arith

      pub tied_sides : (before after : List ℕ) → length before ≡ most_nodes → Sided l before after → after ≡ side_bytes G
      unfolding side_bytes
      tied_sides before after h D = D.area byte bytes_by ∙ filled_whole byte most_nodes before h

    pub not_shaded : ((h : ℕ → ℕ) → Agrees G.edges G.counts n h → ⊥) → unshaded G ≡ true
    not_shaded N = ⊎_elim (λ k. k) (λ k. absurd (N (mark G S) (marks_agree G S k))) (holds_or (unshaded G))

-- the rows 19 and 20
module _ (G : Grid) (room : ℕ) where
  pub answers_19 : room ≢ most_nodes → refusal 19 0 ≡ answer_of (shading_rows G room) (result_of [])
  unfolding shading_rows
  answers_19 n =
      row_refuses (whole 19 (not (eqb room most_nodes))) (whole 20 (unshaded G) ∷ []) (result_of []) 0
      (whole_fault (not (eqb room most_nodes)) (rw (ne_eqb room most_nodes n))) (omega arith)

  module _ (e : room ≡ most_nodes) where
    passes_19 : answer_of (whole 20 (unshaded G) ∷ []) (result_of []) ≡ answer_of (shading_rows G room) (result_of [])
    unfolding shading_rows
    passes_19 =
        row_passes (whole 19 (not (eqb room most_nodes))) (whole 20 (unshaded G) ∷ []) (result_of []) 1
        (whole_fine (not (eqb room most_nodes)) (rw (eq-eqb room most_nodes e))) (omega arith)

    pub answers_20 : unshaded G ≡ true → refusal 20 0 ≡ answer_of (shading_rows G room) (result_of [])
    answers_20 u = row_refuses (whole 20 (unshaded G)) [] (result_of []) 0 (whole_fault (unshaded G) u) (omega arith) ∙ passes_19

    pub answers_result : unshaded G ≡ false → result_of [] ≡ answer_of (shading_rows G room) (result_of [])
    answers_result u = rows_end (result_of []) ∙ row_passes (whole 20 (unshaded G)) [] (result_of []) 1 (whole_fine (unshaded G) u) (omega arith) ∙ passes_19

-- what the call does for an accepted grid
module _ (G : Grid) (before : List ℕ) where
  pub in_19 : length before ≢ most_nodes → ShadedIn G before before (refusal 19 0)
  in_19 n = record { answered = answers_19 G (length before) n; area = refl }

  module _ (S : Sound G) (h : length before ≡ most_nodes) (links : List ℕ) (R : Roots G.cells links) (l : List ℕ) (r : Bool)
      (J : UnitedAll G.edges G.counts links l r) where
    pub in_20 : r ≡ false → ShadedIn G before before (refusal 20 0)
    in_20 e = record { answered = answers_20 G (length before) h (not_shaded G S links R (J.none e)); area = refl }

    pub in_forest : r ≡ true → Forest l
    in_forest e = (J.tied e).forest

    pub in_sides : r ≡ true → (after : List ℕ) → Sided l before after → ShadedIn G before after (result_of [])
    in_sides e after D = record {
      answered = answers_result G (length before) h (tied_shaded G S links R l (J.tied e));
      area = tied_sides G S links R l (J.tied e) before after h D;
    }

-- the whole call
module _ (G : Grid) (before : List ℕ) where
  pub kept_answer : accepts G ≡ false → grid_answer G ≡ shading_answer G (length before)
  unfolding shading_answer
  kept_answer k = sym (rw k)

  pub rows-answer : accepts G ≡ true → answer_of (shading_rows G (length before)) (result_of []) ≡ shading_answer G (length before)
  unfolding shading_answer
  rows-answer k = sym (rw k)

  pub area_by : (answer : List ℕ) → answer ≡ shading_answer G (length before) → pick (is_result answer) (side_bytes G) before ≡ shading_area G before
  unfolding shading_area
  area_by answer e = ap (λ (a : List ℕ). pick (is_result a) (side_bytes G) before) e

  module _ (r : Result ℕ Refusal) (e : check_numbers r ≡ grid_answer G) where
    pub refused_done : (f : Refusal) → r ≡ Err f → Done G before before (shading_numbers (Err f))
    refused_done f q =
        let h : check_numbers (Err f) ≡ grid_answer G = ap check_numbers (sym q) ∙ e in
        let k = refused_keeps G f h in
        let a = kept_answer k in
        record { answered = h ∙ a; area = sym (ap (λ b. pick b (side_bytes G) before) k) ∙ area_by (grid_answer G) a }

    pub shaded_done : (total : ℕ) → r ≡ Ok total → (after answer : List ℕ)
        → ShadedIn (built G.cells G.edges G.counts) before after answer → Done G before after answer
    shaded_done total q after answer B =
        let D = subst (λ H. ShadedIn H before after answer) (sym (told_built G r total q e)) B in
        let f : check_numbers (Ok total) ≡ grid_answer G = ap check_numbers (sym q) ∙ e in
        let a : answer ≡ shading_answer G (length before) = D.answered ∙ rows-answer (crossings_accept G total f) in
        record { answered = a; area = D.area ∙ area_by answer a }
