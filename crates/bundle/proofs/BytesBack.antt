-- A bundle that is read and written again has its bytes back. Assumes nothing.
use Prim.Native.Nat.{ℕ, zero, suc, ◌+◌, ◌-◌, ◌*◌, ◌/◌, ◌%◌, ◌≤◌, ◌<◌}
use mathlib.Core.Path.{◌≡◌, refl, sym, ap, ◌∙◌}
use mathlib.Core.Bool.{true, false}
use mathlib.Core.List.{List, [], ◌∷◌, ◌++◌, append_assoc}
use native.Mathlib.Decide.{dec_lt}
use native.Mathlib.Omega.{arith}
use lib.ListN.{length, get_or, take, drop, take-append-drop, length-take, length-drop, drop_of_length-le, get_or-eq_default}
use lib.Seq.{take_all, take-add, get_or-take, get_or-drop, drop-cons, drop-drop, drop-length}
use borrow.Author.Tests.{lt-leb}
use Rattle.answer.specs.Answer.{result_of}
use Rattle.counting.specs.Lists.{over}
use Rattle.counting.specs.claims.Lists.{All}
use Rattle.counting.proofs.Lists.{all_at}
use Rattle.counting.proofs.Range.{over_ext}
use Rattle.counting.proofs.Fronts.{over_more, get_or_blocks, first_parts}
use Rattle.bundle.specs.Record.{byte_values, word_size, length_bytes, head_bytes, count_place, word, kind_at, is_wide, next_record, is_record, body_start, body_size, body}
use Rattle.bundle.specs.Bundle.{cell_nodes, edge_ends, cell_section, edge_section, end_section, is_of, record_start, cells, edges_from, edges, looks_from, looks, stop, surviving, is_bundle, leading_words, nodes_of, ends_of, counts_of, written_over}
use Rattle.bundle.specs.Written.{word_bytes, head_of, record_bytes, list_bytes, kind_for, count_bytes, end_record, cell_bytes, edge_bytes, bundle_bytes}
use Rattle.bundle.specs.claims.Claims.{BytesBack, ReadWritten}
use Rattle.bundle.proofs.OneRecord.{stands, next_ge, body_whole}
use Rattle.bundle.proofs.Runs.{of_record, run_all}
use Rattle.bundle.proofs.Fills.{cell-kind, end-kind, cell-body, end_body, Edge, one_byte, two_bytes, edge-body, edge_ge, length_words, count_kept, length_nodes, length_ends, length_counts}
use Rattle.bundle.proofs.Answers.{bundled, accepted, accepted_cells, accepted_edges, read_bundle, read_taken, left_front}
use Rattle.bundle.proofs.Writes.{answer_written}

low_half : (x y : ℕ) → x < byte_values → x ≡ (x + byte_values * y) % byte_values
low_half x y h = omega arith

high_half : (x y : ℕ) → x < byte_values → y ≡ (x + byte_values * y) / byte_values
high_half x y h = omega arith

-- numbers of 16 bits in a list of bytes
module _ (s : List ℕ) (bytes : (k : ℕ) → get_or s k 0 < byte_values) where
  word_back : (a : ℕ) → a + word_size ≤ length s → take word_size (drop a s) ≡ word_bytes (word s a)
  word_back a h =
      let q : suc a ≡ a + 1 = omega arith in
      ap (take word_size) (drop-cons s a 0 (omega arith) ∙ ap (λ n. get_or s a 0 ∷ drop n s) q ∙ ap (λ (x : List ℕ). get_or s a 0 ∷ x) (drop-cons s (a + 1) 0 (omega arith)))
      ∙ cc (low_half (get_or s a 0) (get_or s (a + 1) 0) (bytes a), high_half (get_or s a 0) (get_or s (a + 1) 0) (bytes a))

  words_back : (n : ℕ) → word_size * n ≤ length s → over (λ i. word_bytes (word s (word_size * i))) n 0 ≡ take (word_size * n) s
  words_back n h = over_ext _ _ n 0 (λ k _ l. sym (word_back (word_size * k) (omega (arith, l, h)))) ∙ first_parts word_size n s

  -- a record is its length, its kind and its body
  record_back : (a : ℕ) → is_record s a ≡ true → drop a s ≡ record_bytes (kind_at s a) (body s a) ++ drop (next_record s a) s
  unfolding kind_at
  record_back a r =
      let kind = kind_at s a in
      let w = stands s a r in
      let m = next_record s a - (a + head_bytes) in
      let n : a + head_bytes + m ≡ next_record s a = omega (arith, next_ge s a r) in
      let head : take head_bytes (drop a s) ≡ head_of kind =
      take-add word_size word_size (drop a s)
      ∙ ap (λ (x : List ℕ). take word_size (drop a s) ++ take word_size x) (drop-drop word_size a s)
      ∙ cc (word_back a (omega (arith, w.inside)), word_back (a + length_bytes) (omega (arith, w.inside)), w.right) in
      let rest : drop (a + head_bytes) s ≡ body s a ++ drop (next_record s a) s =
      sym (take-append-drop m (drop (a + head_bytes) s))
      ∙ ap (λ (x : List ℕ). take m (drop (a + head_bytes) s) ++ x) (drop-drop m (a + head_bytes) s ∙ ap (λ k. drop k s) n)
      ∙ ap (λ (x : List ℕ). x ++ drop (next_record s a) s) (body_whole s a r).0 in
      sym (take-append-drop head_bytes (drop a s))
      ∙ ap (λ (x : List ℕ). take head_bytes (drop a s) ++ x) (drop-drop head_bytes a s ∙ rest)
      ∙ ap (λ (x : List ℕ). x ++ (body s a ++ drop (next_record s a) s)) head
      ∙ sym (append_assoc (head_of kind) (body s a) (drop (next_record s a) s))

-- the numbers of bodies in a list, w of each, as bytes again
module _ (b : ℕ → List ℕ) (w n k : ℕ) (l : k < n) where
  entry : (i : ℕ) → i < w → get_or (over (λ j. leading_words w (b j)) n 0) (w * k + i) 0 ≡ word (b k) (word_size * i)
  entry i h =
      let e : i ≡ 1 * i + 0 = omega arith in
      get_or_blocks (λ j. leading_words w (b j)) w n (λ j _. length_words w (b j)) k i 0 l h
      ∙ ap (λ m. get_or (leading_words w (b k)) m 0) e
      ∙ get_or_blocks (λ j. word (b k) (word_size * j) ∷ []) 1 w (λ _ _. refl) i 0 0 h (omega arith)

  list_back : ((j : ℕ) → get_or (b k) j 0 < byte_values) → word_size * w ≤ length (b k) → list_bytes (over (λ j. leading_words w (b j)) n 0) (w * k) w ≡ take (word_size * w) (b k)
  list_back bytes h = over_ext _ _ w 0 (λ i _ q. ap word_bytes (entry i (omega (arith, q)))) ∙ words_back (b k) bytes w h

-- records one after the other, from the bytes of each
chain : (s : List ℕ) (from n : ℕ) (g : ℕ → List ℕ) → ((k : ℕ) → k < n → drop (record_start s from k) s ≡ g k ++ drop (next_record s (record_start s from k)) s)
    → drop from s ≡ over g n 0 ++ drop (record_start s from n) s
unfolding record_start over
chain s from zero g h = refl
chain s from (suc n) g h =
    let e : n + 1 ≡ suc n = omega arith in
    chain s from n g (λ k l. h k (omega arith))
    ∙ ap (λ (x : List ℕ). over g n 0 ++ x) (h n (omega arith))
    ∙ sym (append_assoc (over g n 0) (g n) (drop (next_record s (record_start s from n)) s))
    ∙ ap (λ (x : List ℕ). x ++ drop (next_record s (record_start s from n)) s) (sym (over_more g n) ∙ ap (λ k. over g k 0) e)

module _ (s : List ℕ) (bytes : (k : ℕ) → get_or s k 0 < byte_values) where
  -- a body's bytes are the bundle's
  body_bytes : (a j : ℕ) → get_or (body s a) j 0 < byte_values
  unfolding body
  body_bytes a j =
      let n = body_size s a in
      let m = body_start s a in
      elim (dec_lt j n) [
        | yes l ↦ omega (arith, get_or-take n (drop m s) j 0 l, get_or-drop m s j 0, bytes (m + j))
        | no l ↦ omega (arith, get_or-eq_default (take n (drop m s)) 0 {n = j} (simp length-take (omega arith)))
      ]

  cell-bytes : (k : ℕ) → k < cells s → drop (record_start s 0 k) s ≡ cell_bytes (nodes_of s) k ++ drop (next_record s (record_start s 0 k)) s
  unfolding cell_bytes cells nodes_of
  cell-bytes k h =
      let a = record_start s 0 k in
      let o = run_all s 0 cell_section k h in
      let n = cell-body s a o in
      let e : list_bytes (nodes_of s) (cell_nodes * k) cell_nodes ≡ body s a =
      list_back (λ j. body s (record_start s 0 j)) cell_nodes (cells s) k h (body_bytes a) (omega (arith, n)) ∙ take_all (word_size * cell_nodes) (body s a) (omega (arith, n)) in
      record_back s bytes a (of_record s cell_section a o) ∙ cc (cell-kind s a o, e)

  -- the kind of an edge and its bytes after the ends are those of its count
  edge_back : (a : ℕ) → is_of s edge_section a ≡ true → (kind_at s a ≡ kind_for (word (body s a) count_place)) × (drop count_place (body s a) ≡ count_bytes (word (body s a) count_place))
  unfolding kind_for count_bytes
  edge_back a o = go (edge-body s a o)
    where
      b : List ℕ
      b = body s a

      go : Edge s a → (kind_at s a ≡ kind_for (word b count_place)) × (drop count_place b ≡ count_bytes (word b count_place))
      go (one_byte e n) =
          let z : get_or b (count_place + 1) 0 ≡ 0 = get_or-eq_default b 0 {n = count_place + 1} (omega arith) in
          let w : word b count_place ≡ get_or b count_place 0 = omega (arith, z) in
          let l : word b count_place < byte_values = omega (arith, w, body_bytes a count_place) in
          let f : is_wide (word b count_place) ≡ false = lt-leb _ _ l in
          (e ∙ simp f, simp f (drop-cons b count_place 0 (omega arith) ∙ cc (w, drop_of_length-le b {i = suc count_place} (omega arith))))
      go (two_bytes e n f) =
          (e ∙ simp f, simp f (sym (take_all word_size (drop count_place b) (simp length-drop (omega arith))) ∙ word_back b (body_bytes a) count_place (omega arith)))

  edge-bytes : looks s ≡ 0 → (k : ℕ) → k < edges s → drop (record_start s (edges_from s) k) s ≡ edge_bytes (ends_of s) (counts_of s) k ++ drop (next_record s (record_start s (edges_from s) k)) s
  unfolding edge_bytes edges ends_of counts_of
  edge-bytes none k h =
      let from = edges_from s in
      let a = record_start s from k in
      let o = run_all s from edge_section k h in
      let n = edge_ge s a o in
      let one : k ≡ 1 * k + 0 = omega arith in
      let u : list_bytes (ends_of s) (edge_ends * k) edge_ends ≡ take (word_size * edge_ends) (body s a) =
      list_back (λ j. body s (record_start s from j)) edge_ends (edges s) k h (body_bytes a) (omega (arith, n)) in
      let v : get_or (counts_of s) k 0 ≡ word (body s a) count_place =
      ap (λ i. get_or (counts_of s) i 0) one ∙ get_or_blocks (λ j. surviving s j ∷ []) 1 (edges s) (λ _ _. refl) k 0 0 h (omega arith) ∙ count_kept s none k in
      let e : list_bytes (ends_of s) (edge_ends * k) edge_ends ++ count_bytes (get_or (counts_of s) k 0) ≡ body s a =
      cc (u, v, (edge_back a o).1) ∙ take-append-drop count_place (body s a) in
      record_back s bytes a (of_record s edge_section a o) ∙ cc (e, v, (edge_back a o).0)

  end_bytes : is_bundle s ≡ true → drop (stop s) s ≡ end_record
  end_bytes h =
      let o = (bundled s h).ended in
      let none : body s (stop s) ≡ [] = sym (take_all 0 (body s (stop s)) (omega (arith, end_body s (stop s) o))) in
      let last : drop (next_record s (stop s)) s ≡ [] = ap (λ n. drop n s) (bundled s h).nothing ∙ drop-length s in
      record_back s bytes (stop s) (of_record s end_section (stop s) o) ∙ cc (end-kind s (stop s) o, none, last)

  all_back : is_bundle s ≡ true → looks s ≡ 0 → bundle_bytes (nodes_of s) (ends_of s) (counts_of s) ≡ s
  unfolding bundle_bytes edges_from looks_from stop record_start
  all_back h none =
      let last : stop s ≡ looks_from s = ap (record_start s (looks_from s)) none in
      let c : length (nodes_of s) / cell_nodes ≡ cells s = omega (arith, length_nodes s) in
      let x = over (cell_bytes (nodes_of s)) (cells s) 0 in
      let y = over (edge_bytes (ends_of s) (counts_of s)) (edges s) 0 in
      ap (λ n. over (cell_bytes (nodes_of s)) n 0 ++ over (edge_bytes (ends_of s) (counts_of s)) (length (counts_of s)) 0 ++ end_record) c
      ∙ ap (λ n. x ++ over (edge_bytes (ends_of s) (counts_of s)) n 0 ++ end_record) (length_counts s)
      ∙ append_assoc x y end_record
      ∙ ap (λ (z : List ℕ). x ++ (y ++ z)) (sym (end_bytes h) ∙ ap (λ n. drop n s) last)
      ∙ ap (λ (z : List ℕ). x ++ z) (sym (chain s (edges_from s) (edges s) (edge_bytes (ends_of s) (counts_of s)) (edge-bytes none)))
      ∙ sym (chain s 0 (cells s) (cell_bytes (nodes_of s)) cell-bytes)

  back : is_bundle s ≡ true → looks s ≡ 0 → (area : List ℕ) → length s ≤ length area → BytesBack s (nodes_of s) (ends_of s) (counts_of s) area
  back h none area l =
      let e = all_back h none in
      let w = answer_written (nodes_of s) (ends_of s) (counts_of s) (length area) (omega (arith, length_nodes s)) (length_ends s ∙ ap (λ n. edge_ends * n) (sym (length_counts s))) (omega (arith, ap length e, l)) in
      record {
        answer = w.0 ∙ ap (λ (z : List ℕ). result_of (length z ∷ [])) e;
        bytes = simp w.1 (ap (λ (z : List ℕ). written_over z area) e);
      }

-- a byte at any place
byte : (s : List ℕ) → All (λ x. x < byte_values) s → (k : ℕ) → get_or s k 0 < byte_values
byte s h k =
    elim (dec_lt k (length s)) [
      | yes l ↦ all_at (λ x. x < byte_values) 0 s h k l
      | no l ↦ omega (arith, get_or-eq_default s 0 {n = k} (omega arith))
    ]

pub read_written : ReadWritten
read_written s b none nodes ends counts c e h area l =
    let g = sym (read_bundle s _ _ _ c e h) in
    let t = read_taken s _ _ _ c e h in
    let n : take (cell_nodes * c) _ ≡ nodes_of s = left_front t (nodes_of s) nodes _ (length_nodes s ∙ ap (λ k. cell_nodes * k) (sym (accepted_cells s c e g))) in
    let m : take (edge_ends * e) _ ≡ ends_of s = left_front t (ends_of s) ends _ (length_ends s ∙ ap (λ k. edge_ends * k) (sym (accepted_edges s c e g))) in
    let k : take e _ ≡ counts_of s = left_front t (counts_of s) counts _ (length_counts s ∙ sym (accepted_edges s c e g)) in
    rw (n, m, k) (back s (byte s b) (accepted s c e g) none area l)
