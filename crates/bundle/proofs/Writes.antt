-- The writer: the length of what it writes, and the cases of its answer. Assumes nothing.
use Prim.Native.Nat.{ℕ, ◌+◌, ◌-◌, ◌*◌, ◌/◌, ◌%◌, ◌≤◌, ◌<◌, min}
use mathlib.Core.Path.{◌≡◌, refl, ap, ◌∙◌, sym}
use mathlib.Core.Bool.{Bool, true, false}
use mathlib.Core.List.{List, [], ◌∷◌, ◌++◌}
use native.Mathlib.Nat.{zero-add}
use native.Mathlib.Omega.{arith}
use lib.Dec.{eqb}
use lib.Seq.{get_or-take, get_or-drop}
use lib.ListN.{length, get_or, replicate, length-append, take, drop, length-take, length-drop}
use borrow.Author.Tests.{eq-eqb, ne_eqb, le-leb, lt-leb}
use Rattle.answer.specs.Answer.{result_of, refusal}
use Rattle.counting.specs.Pick.{pick}
use Rattle.counting.specs.Lists.{one, total, over}
use Rattle.counting.specs.work.Stored.{Stored}
use Rattle.counting.proofs.Bools.{and_false_left, and_false_right}
use Rattle.counting.proofs.Range.{total_ext, total_add, length_over, over_ext}
use Rattle.counting.proofs.Search.{count_total}
use Rattle.counting.proofs.Fronts.{length_blocks}
use Rattle.counting.proofs.Stored.{stored_then, stored_front}
use Rattle.bundle.specs.Record.{byte_values, broken_row, word_size, head_bytes, count_place, is_wide}
use Rattle.bundle.specs.work.Record.{cell_size, edge_size}
use Rattle.bundle.specs.Bundle.{cell_nodes, edge_ends, short_row}
use Rattle.bundle.specs.Written.{most_named, word_bytes, list_bytes, count_bytes, end_record, cell_bytes, edge_bytes, bundle_bytes, is_formed, fits_area, is_written, write_answer, area_left}
use Rattle.bundle.specs.work.Needed.{wides, bundle_size}

pub length_list : (l : List ℕ) (from n : ℕ) → length (list_bytes l from n) ≡ word_size * n
length_list l from n = length_blocks (λ i. word_bytes (get_or l (from + i) 0)) word_size n (λ _ _. refl)

-- the bytes of a part of a list
pub part_bytes : (l : List ℕ) (from n : ℕ) → from + n ≤ length l
    → list_bytes (take (from + n - from) (drop from l)) 0 (length (take (from + n - from) (drop from l))) ≡ list_bytes l from n
part_bytes l from n h =
    let q : from + n - from ≡ n = omega arith in
    let e : length (take n (drop from l)) ≡ n = omega (arith, length-take n (drop from l), length-drop from l) in
    rw (q, e) (over_ext _ _ n 0 (λ i a b. ap word_bytes (ap (λ k. get_or (take n (drop from l)) k 0) (zero-add i) ∙ get_or-take n (drop from l) i 0 (omega arith) ∙ get_or-drop from l i 0)))

pub length_cell : (nodes : List ℕ) (k : ℕ) → length (cell_bytes nodes k) ≡ cell_size
unfolding cell_bytes over
length_cell nodes k = refl

-- the bytes of a count
pub bytes_wide : (count : ℕ) → byte_values ≤ count → count_bytes count ≡ word_bytes count
unfolding count_bytes
bytes_wide count h = simp (le-leb _ _ h)

pub bytes_narrow : (count : ℕ) → count < byte_values → count_bytes count ≡ count ∷ []
unfolding count_bytes
bytes_narrow count h = simp (lt-leb _ _ h)

length_count : (count : ℕ) → length (count_bytes count) ≡ 1 + one (is_wide count)
unfolding count_bytes
length_count count = go (is_wide count)
  where
    go : (b : Bool) → length (pick b (word_bytes count) (count ∷ [])) ≡ 1 + one b
    go true = refl
    go false = refl

-- an edge's record is its head, its ends and its count
pub edge_parts : (ends counts : List ℕ) (k : ℕ) → length (edge_bytes ends counts k) ≡ head_bytes + count_place + length (count_bytes (get_or counts k 0))
unfolding edge_bytes over
edge_parts ends counts k = omega arith

length_edge : (ends counts : List ℕ) (k : ℕ) → length (edge_bytes ends counts k) ≡ edge_size + one (is_wide (get_or counts k 0))
length_edge ends counts k = omega (arith, edge_parts ends counts k, length_count (get_or counts k 0))

module _ (nodes ends counts : List ℕ) where
  -- the bytes of a bundle, by its records
  abbrev pub size_by : ℕ
  size_by = bundle_size (length nodes / cell_nodes) (length counts) (wides counts)

  abbrev cells_part : List ℕ
  cells_part = over (cell_bytes nodes) (length nodes / cell_nodes) 0

  abbrev edges_part : List ℕ
  edges_part = over (edge_bytes ends counts) (length counts) 0

  pub length_cells : length cells_part ≡ cell_size * (length nodes / cell_nodes)
  length_cells = length_blocks (cell_bytes nodes) cell_size (length nodes / cell_nodes) (λ k _. length_cell nodes k)

  pub length_edges : length edges_part ≡ edge_size * length counts + wides counts
  unfolding wides
  length_edges =
      let n = length counts in
      let more : ℕ → ℕ = λ k. one (is_wide (get_or counts k 0)) in
      let narrow : ℕ → List ℕ = λ _. replicate edge_size 0 in
      let same : total (λ _. edge_size) n 0 ≡ edge_size * n = sym (length_over narrow n 0) ∙ length_blocks narrow edge_size n (λ _ _. refl) in
      length_over (edge_bytes ends counts) n 0
      ∙ total_ext _ (λ k. edge_size + more k) n 0 (λ k _ _. length_edge ends counts k)
      ∙ total_add (λ _. edge_size) more n 0
      ∙ omega (arith, same, count_total (λ k. is_wide (get_or counts k 0)) n)

  pub length_bundle : length (bundle_bytes nodes ends counts) ≡ size_by
  unfolding bundle_bytes
  length_bundle = omega (arith, length-append (cells_part ++ edges_part) end_record, length-append cells_part edges_part, length_cells, length_edges)

  -- the three parts stored one after the other
  pub all_stored : {area l1 l2 l3 : List ℕ} {a b n : ℕ} → Stored area 0 cells_part l1 a → Stored l1 a edges_part l2 b → Stored l2 b end_record l3 n
      → Stored area 0 (bundle_bytes nodes ends counts) l3 n
  unfolding bundle_bytes
  all_stored p q r = stored_then (stored_then p q) r

  pub answer_written : (room : ℕ) → length nodes % cell_nodes ≡ 0 → length ends ≡ edge_ends * length counts → length (bundle_bytes nodes ends counts) ≤ room
      → (write_answer nodes ends counts room ≡ result_of (length (bundle_bytes nodes ends counts) ∷ [])) × (is_written nodes ends counts room ≡ true)
  unfolding write_answer is_written is_formed fits_area
  answer_written room h4 h2 b = (simp (eq-eqb _ _ h4, eq-eqb _ _ h2, le-leb _ _ b), simp (eq-eqb _ _ h4, eq-eqb _ _ h2, le-leb _ _ b))

  -- the cases of the answer, with the area that each leaves
  module _ (area : List ℕ) where
    abbrev pub Left : (answer area' : List ℕ) → Type 0
    Left answer area' = (answer ≡ write_answer nodes ends counts (length area)) × (area' ≡ area_left nodes ends counts area)

    unformed : is_formed nodes ends counts ≡ false → Left (refusal broken_row 0) area
    unfolding write_answer is_written
    unformed h = (simp h, simp h)

    pub not_fours : (length nodes % cell_nodes ≡ 0 → ⊥) → Left (refusal broken_row 0) area
    unfolding is_formed
    not_fours h = unformed (and_false_left _ _ (ne_eqb _ _ h))

    pub not_pairs : (length ends ≡ edge_ends * length counts → ⊥) → Left (refusal broken_row 0) area
    unfolding is_formed
    not_pairs h = unformed (and_false_right (eqb (length nodes % cell_nodes) 0) _ (ne_eqb _ _ h))

    module _ (h4 : length nodes % cell_nodes ≡ 0) (h2 : length ends ≡ edge_ends * length counts) where
      pub too_short : length area < size_by → (n : ℕ) → n ≡ min size_by most_named → Left (refusal short_row n) area
      unfolding write_answer is_written is_formed fits_area
      too_short l n e =
          let b : length area < length (bundle_bytes nodes ends counts) = omega (arith, l, length_bundle) in
          let m = e ∙ ap (λ x. min x most_named) (sym length_bundle) in
          (ap (refusal short_row) m ∙ simp (eq-eqb _ _ h4, eq-eqb _ _ h2, lt-leb _ _ b), simp (eq-eqb _ _ h4, eq-eqb _ _ h2, lt-leb _ _ b))

      pub all_written : size_by ≤ length area → {l : List ℕ} {n : ℕ} → Stored area 0 (bundle_bytes nodes ends counts) l n → Left (result_of (n ∷ [])) l
      all_written r p =
          let b : length (bundle_bytes nodes ends counts) ≤ length area = omega (arith, r, length_bundle) in
          let w = answer_written (length area) h4 h2 b in
          (ap (λ k. result_of (k ∷ [])) (p.after ∙ zero-add _) ∙ sym w.0, stored_front p b ∙ simp w.1)
