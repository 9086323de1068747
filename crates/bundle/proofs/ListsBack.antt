-- Lists that are written and read again are the same lists; so a bundle that is read comes back as the bundle of its surviving lists. Assumes nothing.
use Prim.Native.Nat.{ℕ, zero, suc, ◌+◌, ◌-◌, ◌*◌, ◌/◌, ◌%◌, ◌≤◌, ◌<◌, min}
use mathlib.Core.Path.{◌≡◌, refl, sym, ap, ◌∙◌}
use mathlib.Core.Bool.{Bool, true, false}
use mathlib.Core.List.{List, [], ◌∷◌, ◌++◌, append_assoc, append-nil}
use native.Mathlib.Nat.{zero-add, add-zero, le_refl}
use native.Mathlib.Numerals.{add-one}
use native.Mathlib.Decide.{dec_lt}
use native.Mathlib.Omega.{arith}
use lib.Dec.{eqb}
use lib.ListN.{length, get_or, take, drop, length-append, get_or-append}
use lib.Seq.{get_or-append-add, take_at, drop-append-add, drop-cons}
use borrow.Author.Tests.{eqb-true}
use Rattle.answer.specs.Answer.{result_of, refusal}
use Rattle.counting.specs.Pick.{pick}
use Rattle.counting.specs.Lists.{over}
use Rattle.counting.proofs.Bools.{and_left, and_right, and_true}
use Rattle.counting.proofs.Range.{over_ext}
use Rattle.counting.proofs.Fronts.{get_or_blocks, over_more, over_at, in_parts, singles}
use Rattle.bundle.specs.Record.{byte_values, broken_row, cell_kind, end_kind, word_size, length_bytes, head_bytes, count_place, word, length_of, kind_at, count_at, is_wide, may_have, next_record, is_record, body}
use Rattle.bundle.specs.Bundle.{cell_nodes, edge_ends, cell_section, edge_section, look_section, end_section, section_of, section_at, is_of, record_start, run, cells, edges_from, edges, looks_from, looks, stop, surviving, is_bundle, leading_words, count_in, nodes_of, ends_of, counts_of, short_row, written_over}
use Rattle.bundle.specs.Written.{word_bytes, record_bytes, list_bytes, kind_for, count_bytes, end_record, cell_bytes, edge_bytes, bundle_bytes, is_formed, fits_area, is_written, most_named, write_answer}
use Rattle.bundle.specs.claims.Claims.{ListsBack, WrittenRead, ReadAgain}
use Rattle.bundle.proofs.OneRecord.{standing, body_whole}
use Rattle.bundle.proofs.Runs.{Going, going, on, arrived, of_record, is-of, of_section, other_of, next_of}
use Rattle.bundle.proofs.Fills.{end-kind, length_nodes, length_ends, length_counts, count_kept}
use Rattle.bundle.proofs.Answers.{accepted_cells, accepted_edges, read_bundle, read_taken, read_lists, left_front, is-bundle as bundle-is}
use Rattle.bundle.proofs.Writes.{length_list, answer_written}

-- a word after a front of the bytes
word_in : (p t : List ℕ) (j : ℕ) → word (p ++ t) (length p + j) ≡ word t j
word_in p t j =
    let e : length p + j + 1 ≡ length p + (j + 1) = omega arith in
    let f : get_or (p ++ t) (length p + j + 1) 0 ≡ get_or t (j + 1) 0 = ap (λ k. get_or (p ++ t) k 0) e ∙ get_or-append-add p t (j + 1) 0 in
    cc (get_or-append-add p t j 0, f)

halves : (x : ℕ) → x % byte_values + byte_values * (x / byte_values) ≡ x
halves x = omega arith

-- a record with the body b after a front p
module _ (p r b : List ℕ) (kind : ℕ) (size : word_size + length b ≡ length_of kind) (proper : may_have kind (word (b ++ r) count_place) ≡ true) where
  abbrev bytes : List ℕ
  bytes = p ++ (record_bytes kind b ++ r)

  kind_put : kind_at bytes (length p) ≡ kind
  unfolding kind_at
  kind_put = word_in p (record_bytes kind b ++ r) word_size ∙ halves kind

  record_put : is_record bytes (length p) ≡ true
  unfolding next_record count_at
  record_put =
      let t = record_bytes kind b ++ r in
      let e : word bytes (length p) ≡ length_of kind = ap (word bytes) (sym (add-zero (length p))) ∙ word_in p t 0 ∙ halves (length_of kind) in
      let k = kind_put in
      let n = length-append p t in
      let m = length-append b r in
      let q : length p + head_bytes + count_place ≡ length p + (head_bytes + count_place) = omega arith in
      let c : word bytes (length p + head_bytes + count_place) ≡ word (b ++ r) count_place = ap (word bytes) q ∙ word_in p t (head_bytes + count_place) in
      standing bytes (length p)
      (record {
        inside = omega arith;
        known = omega (arith, ap length_of k, size);
        right = e ∙ sym (ap length_of k);
        fits = omega arith;
        proper = cc (c, k) ∙ proper;
      })

  body_put : body bytes (length p) ≡ b
  body_put =
      let n : next_record bytes (length p) - (length p + head_bytes) ≡ length b = omega (arith, next_of bytes (length p) record_put, ap length_of kind_put, size) in
      sym (body_whole bytes (length p) record_put).0
      ∙ ap (λ k. take k (drop (length p + head_bytes) bytes)) n
      ∙ ap (take (length b)) (drop-append-add p (record_bytes kind b ++ r) head_bytes)
      ∙ take_at b r (length b) refl

-- records of one section, each with its kind and its body, between a front and a rest
record Laid (s p r : List ℕ) (section n : ℕ) (kind : ℕ → ℕ) (g b : ℕ → List ℕ) : Type 0 where
  whole : s ≡ p ++ (over g n 0 ++ r)
  each : (k : ℕ) → g k ≡ record_bytes (kind k) (b k)
  within : (k : ℕ) → section_of (kind k) ≡ section
  size : (k : ℕ) → word_size + length (b k) ≡ length_of (kind k)
  proper : (k : ℕ) (t : List ℕ) → may_have (kind k) (word (b k ++ t) count_place) ≡ true

module _ {s p r : List ℕ} {section n : ℕ} {kind : ℕ → ℕ} {g b : ℕ → List ℕ} (l : Laid s p r section n kind g b) where
  -- where record k stands
  abbrev place : ℕ → ℕ
  place k = length p + length (over g k 0)

  place_zero : place 0 ≡ length p
  unfolding over
  place_zero = add-zero (length p)

  place_more : (k : ℕ) → place (k + 1) ≡ place k + (length_bytes + length_of (kind k))
  place_more k = omega (arith, ap length (over_more g k), length-append (over g k 0) (g k), ap length (l.each k), l.size k)

  split : (k : ℕ) → k < n → s ≡ (p ++ over g k 0) ++ (record_bytes (kind k) (b k) ++ (over g (n - suc k) (suc k) ++ r))
  split k h =
      let x = over g k 0 in
      let y = over g (n - suc k) (suc k) in
      let e : p ++ ((x ++ (g k ++ y)) ++ r) ≡ (p ++ x) ++ (g k ++ (y ++ r)) = simp append_assoc in
      l.whole ∙ ap (λ (z : List ℕ). p ++ (z ++ r)) (over_at g n k h) ∙ e ∙ ap (λ (z : List ℕ). (p ++ x) ++ (z ++ (y ++ r))) (l.each k)

  -- what is so of a record after any front is so there
  there : {A : Type 0} (f : List ℕ → ℕ → A) (v : A) (k : ℕ) → k < n → ((q t : List ℕ) → f (q ++ (record_bytes (kind k) (b k) ++ t)) (length q) ≡ v) → f s (place k) ≡ v
  there f v k h e = ap (λ x. f x (place k)) (split k h) ∙ ap (f _) (sym (length-append p (over g k 0))) ∙ e (p ++ over g k 0) _

  kind-is : (k : ℕ) → k < n → kind_at s (place k) ≡ kind k
  kind-is k h = there kind_at (kind k) k h (λ q t. kind_put q t (b k) (kind k) (l.size k) (l.proper k t))

  is_at : (k : ℕ) → k < n → is_of s section (place k) ≡ true
  is_at k h = is-of s section (place k) (there is_record true k h (λ q t. record_put q t (b k) (kind k) (l.size k) (l.proper k t))) (ap section_of (kind-is k h) ∙ l.within k)

  goes : (k : ℕ) → k ≤ n → Going s (length p) section (place k) k
  goes zero h = rw place_zero (going s (length p) section)
  goes (suc k) h =
      let o = is_at k h in
      let q : place (k + 1) ≡ next_record s (place k) = omega (arith, place_more k, next_of s (place k) (of_record s section (place k) o), ap length_of (kind-is k h)) in
      rw (← add-one k, q) (on s (length p) section (place k) k (goes k (omega arith)) o)

  -- none after them: they are a run
  run_is : is_of s section (place n) ≡ false → run s section (length p) ≡ n
  run_is f = sym (arrived s (length p) section (place n) n (goes n (le_refl n)) f)

  starts : (k : ℕ) → k ≤ n → record_start s (length p) k ≡ place k
  starts k h = sym (goes k h).reached

  bodies : (k : ℕ) → k < n → body s (record_start s (length p) k) ≡ b k
  bodies k h = ap (body s) (starts k (omega arith)) ∙ there body (b k) k h (λ q t. body_put q t (b k) (kind k) (l.size k) (l.proper k t))

-- the words of bytes that begin with those of a list
words_of : (l t : List ℕ) (from n : ℕ) → from + n ≤ length l → leading_words n (list_bytes l from n ++ t) ≡ take n (drop from l)
words_of l t from n h = over_ext _ _ n 0 (λ i _ q. ap (λ x. x ∷ []) (entry i (omega (arith, q)))) ∙ singles l 0 from n h
  where
    f : ℕ → List ℕ
    f i = word_bytes (get_or l (from + i) 0)

    half : (i j : ℕ) → i < n → j < word_size → get_or (list_bytes l from n ++ t) (word_size * i + j) 0 ≡ get_or (f i) j 0
    half i j a b =
        get_or-append (list_bytes l from n) t 0 (word_size * i + j) (omega (arith, length_list l from n))
        ∙ get_or_blocks f word_size n (λ _ _. refl) i j 0 a b

    entry : (i : ℕ) → i < n → word (list_bytes l from n ++ t) (word_size * i) ≡ get_or l (from + i) 0
    entry i a =
        let z : word_size * i ≡ word_size * i + 0 = omega arith in
        let x : get_or (list_bytes l from n ++ t) (word_size * i) 0 ≡ get_or l (from + i) 0 % byte_values = ap (λ k. get_or (list_bytes l from n ++ t) k 0) z ∙ half i 0 a (omega arith) in
        cc (x, half i 1 a (omega arith)) ∙ halves (get_or l (from + i) 0)

module _ (nodes ends counts : List ℕ) where
  abbrev c : ℕ
  c = length nodes / cell_nodes

  abbrev e : ℕ
  e = length counts

  abbrev s : List ℕ
  s = bundle_bytes nodes ends counts

  abbrev cs : List ℕ
  cs = over (cell_bytes nodes) c 0

  abbrev es : List ℕ
  es = over (edge_bytes ends counts) e 0

  abbrev cell_body : ℕ → List ℕ
  cell_body k = list_bytes nodes (cell_nodes * k) cell_nodes

  abbrev edge_body : ℕ → List ℕ
  edge_body k = list_bytes ends (edge_ends * k) edge_ends ++ count_bytes (get_or counts k 0)

  abbrev edge_kinds : ℕ → ℕ
  edge_kinds k = kind_for (get_or counts k 0)

  cells_laid : Laid s [] (es ++ end_record) cell_section c (λ _. cell_kind) (cell_bytes nodes) cell_body
  unfolding bundle_bytes cell_bytes length_of section_of may_have over
  cells_laid = record { whole = append_assoc cs es end_record; each = λ k. refl; within = λ k. refl; size = λ k. refl; proper = λ k t. refl }

  -- an edge's record, by its count
  record EdgeLaid (k : ℕ) : Type 0 where
    within : section_of (edge_kinds k) ≡ edge_section
    size : word_size + length (edge_body k) ≡ length_of (edge_kinds k)
    proper : (t : List ℕ) → may_have (edge_kinds k) (word (edge_body k ++ t) count_place) ≡ true
    back : word (edge_body k) count_place ≡ get_or counts k 0

  edge_laid : (k : ℕ) → EdgeLaid k
  unfolding kind_for count_bytes length_of section_of may_have over
  edge_laid k = go (is_wide x) refl
    where
      x : ℕ
      x = get_or counts k 0

      go : (b : Bool) → is_wide x ≡ b → EdgeLaid k
      go true h = record { within = simp h; size = simp h; proper = λ t. simp h (ap is_wide (halves x) ∙ h); back = simp h (halves x) }
      go false h = record { within = simp h; size = simp h; proper = λ t. simp h; back = simp h (add-zero x) }

  edges_laid : Laid s cs end_record edge_section e edge_kinds (edge_bytes ends counts) edge_body
  unfolding bundle_bytes edge_bytes
  edges_laid =
      record {
        whole = append_assoc cs es end_record;
        each = λ k. refl;
        within = λ k. (edge_laid k).within;
        size = λ k. (edge_laid k).size;
        proper = λ k. (edge_laid k).proper;
      }

  end_at : is_of s end_section (length (cs ++ es)) ≡ true
  unfolding bundle_bytes length_of section_of may_have
  end_at = is-of s end_section (length (cs ++ es)) (record_put (cs ++ es) [] [] end_kind refl refl) (ap section_of (kind_put (cs ++ es) [] [] end_kind refl refl))

  -- no cell after the cells, and neither edge nor look after the edges
  no_cell : is_of s cell_section (length cs) ≡ false
  unfolding over
  no_cell = elim (dec_lt 0 e) [ yes l ↦ other edge_section _ (is_at edges_laid 0 l) (place_zero edges_laid) (omega arith) | no l ↦ other end_section _ end_at (omega (arith, length-append cs es, none (omega arith))) (omega arith) ]
    where
      none : e ≡ 0 → length es ≡ 0
      none h = ap (λ n. length (over (edge_bytes ends counts) n 0)) h

      other : (section at : ℕ) → is_of s section at ≡ true → at ≡ length cs → cell_section < section → is_of s cell_section (length cs) ≡ false
      other section at h p l = other_of s cell_section (length cs) (λ q. let k = of_section s section at h in let f = ap (section_at s) p in omega (arith, k, f, q, l))

  no_more : (section : ℕ) → section < end_section → (at : ℕ) → at ≡ length (cs ++ es) → is_of s section at ≡ false
  no_more section l at e = other_of s section at (λ q. let k = of_section s end_section _ end_at in omega (arith, k, q, l, ap (section_at s) e))

  -- so the reader finds them all
  cells-are : cells s ≡ c
  unfolding cells
  cells-are = run_is cells_laid (ap (is_of s cell_section) (zero-add (length cs)) ∙ no_cell)

  from_is : edges_from s ≡ length cs
  unfolding edges_from
  from_is = ap (record_start s 0) cells-are ∙ starts cells_laid c (le_refl c) ∙ zero-add (length cs)

  edges-are : edges s ≡ e
  unfolding edges
  edges-are = ap (run s edge_section) from_is ∙ run_is edges_laid (no_more edge_section (omega arith) _ (sym (length-append cs es)))

  base_is : looks_from s ≡ length (cs ++ es)
  unfolding looks_from
  base_is = ap (record_start s (edges_from s)) edges-are ∙ ap (λ n. record_start s n e) from_is ∙ starts edges_laid e (le_refl e) ∙ sym (length-append cs es)

  looks-are : looks s ≡ 0
  unfolding looks
  looks-are = sym (arrived s (looks_from s) look_section (looks_from s) 0 (going s (looks_from s) look_section) (no_more look_section (omega arith) _ base_is))

  stop_is : stop s ≡ length (cs ++ es)
  unfolding stop record_start
  stop_is = ap (record_start s (looks_from s)) looks-are ∙ base_is

  next-is : next_record s (stop s) ≡ length s
  unfolding bundle_bytes length_of
  next-is =
      ap (next_record s) stop_is
      ∙ next_of s (length (cs ++ es)) (of_record s end_section _ end_at)
      ∙ ap (λ k. length (cs ++ es) + (length_bytes + length_of k)) (end-kind s (length (cs ++ es)) end_at)
      ∙ sym (length-append (cs ++ es) end_record)

  is-bundle : is_bundle s ≡ true
  is-bundle = bundle-is s (ap (is_of s end_section) stop_is ∙ end_at) next-is (omega (arith, looks-are))

  edge-of : (k : ℕ) → k < e → body s (record_start s (edges_from s) k) ≡ edge_body k
  edge-of k h = ap (λ n. body s (record_start s n k)) from_is ∙ bodies edges_laid k h

  -- a list of what the bodies mean, w entries each, is the list that was written
  listed : (f : ℕ → List ℕ) (w n m : ℕ) (l : List ℕ) → m ≡ n → length l ≡ w * n → ((k : ℕ) → k < n → f k ≡ take w (drop (w * k) l)) → over f m 0 ≡ l
  listed f w n m l q h g = ap (λ k. over f k 0) q ∙ over_ext _ _ n 0 (λ k _ i. g k (omega (arith, i))) ∙ in_parts w n l h

  module _ (h4 : length nodes % cell_nodes ≡ 0) (h2 : length ends ≡ edge_ends * e) where
    fours : length nodes ≡ cell_nodes * c
    fours = omega (arith, h4)

    nodes_are : nodes_of s ≡ nodes
    unfolding nodes_of
    nodes_are = listed _ cell_nodes c (cells s) nodes cells-are fours (λ k l. ap (leading_words cell_nodes) (bodies cells_laid k l ∙ sym (append-nil (cell_body k))) ∙ words_of nodes [] (cell_nodes * k) cell_nodes (omega (arith, fours)))

    ends_are : ends_of s ≡ ends
    unfolding ends_of
    ends_are = listed _ edge_ends e (edges s) ends edges-are h2 (λ k l. ap (leading_words edge_ends) (edge-of k l) ∙ words_of ends (count_bytes (get_or counts k 0)) (edge_ends * k) edge_ends (omega (arith, h2)))

    counts_are : counts_of s ≡ counts
    unfolding counts_of
    counts_are = listed _ 1 e (edges s) counts edges-are (omega arith) one_of
      where
        one_of : (k : ℕ) → k < e → surviving s k ∷ [] ≡ take 1 (drop (1 * k) counts)
        one_of k l =
            let z : k ≡ 1 * k = omega arith in
            ap (λ x. x ∷ []) (count_kept s looks-are k ∙ ap count_in (edge-of k l) ∙ (edge_laid k).back)
            ∙ ap (take 1) (sym (drop-cons counts k 0 l))
            ∙ ap (λ n. take 1 (drop n counts)) z

    module _ (ns es' cs' : List ℕ) (hn : length nodes ≤ length ns) (he : length ends ≤ length es') (hc : length counts ≤ length cs') where
      back : ListsBack nodes ends counts s ns es' cs'
      back =
          let r = read_lists s (length ns) (length es') (length cs') is-bundle (omega (arith, cells-are, fours, hn)) (omega (arith, edges-are, h2, he)) (omega (arith, edges-are, hc)) in
          record {
            answer = r.0 ∙ cc (cells-are, edges-are);
            nodes_back = simp r.1 (ap (λ x. written_over x ns) nodes_are);
            ends_back = simp r.1 (ap (λ x. written_over x es') ends_are);
            counts_back = simp r.1 (ap (λ x. written_over x cs') counts_are);
          }

-- what a result of the writer says
record Formed (nodes ends counts : List ℕ) (area n : ℕ) : Type 0 where
  fours : length nodes % cell_nodes ≡ 0
  pairs : length ends ≡ edge_ends * length counts
  written : is_written nodes ends counts area ≡ true
  all : n ≡ length (bundle_bytes nodes ends counts)

formed : (nodes ends counts : List ℕ) (area n : ℕ) → write_answer nodes ends counts area ≡ result_of (n ∷ []) → Formed nodes ends counts area n
unfolding write_answer is_written is_formed
formed nodes ends counts area n h = go (is_formed nodes ends counts) (fits_area nodes ends counts area) refl refl h
  where
    a : Bool
    a = eqb (length nodes % cell_nodes) 0

    b : Bool
    b = eqb (length ends) (edge_ends * length counts)

    go : (f t : Bool) → is_formed nodes ends counts ≡ f → fits_area nodes ends counts area ≡ t
        → pick f (pick t (result_of (length (bundle_bytes nodes ends counts) ∷ [])) (refusal short_row (min (length (bundle_bytes nodes ends counts)) most_named))) (refusal broken_row 0) ≡ result_of (n ∷ [])
        → Formed nodes ends counts area n
    go true true p q r = record { fours = eqb-true _ _ (and_left a b p); pairs = eqb-true _ _ (and_right a b p); written = and_true _ _ p q; all = cc }
    go true false p q r = let z : ◌≡◌ {A = ℕ} short_row 0 = cc in absurd (omega arith)
    go false t p q r = let z : ◌≡◌ {A = ℕ} broken_row 0 = cc in absurd (omega arith)

pub written_read : WrittenRead
written_read nodes ends counts area n h ns es cs hn he hc =
    let f = formed nodes ends counts (length area) n h in
    rw (left_front f.written (bundle_bytes nodes ends counts) area n (sym f.all)) (back nodes ends counts f.fours f.pairs ns es cs hn he hc)

pub read_again : ReadAgain
read_again s nodes ends counts c e h area l =
    let g = sym (read_bundle s _ _ _ c e h) in
    let t = read_taken s _ _ _ c e h in
    let n : take (cell_nodes * c) _ ≡ nodes_of s = left_front t (nodes_of s) nodes _ (length_nodes s ∙ ap (λ k. cell_nodes * k) (sym (accepted_cells s c e g))) in
    let m : take (edge_ends * e) _ ≡ ends_of s = left_front t (ends_of s) ends _ (length_ends s ∙ ap (λ k. edge_ends * k) (sym (accepted_edges s c e g))) in
    let k : take e _ ≡ counts_of s = left_front t (counts_of s) counts _ (length_counts s ∙ sym (accepted_edges s c e g)) in
    let fours : length (nodes_of s) % cell_nodes ≡ 0 = omega (arith, length_nodes s) in
    let pairs : length (ends_of s) ≡ edge_ends * length (counts_of s) = length_ends s ∙ ap (λ i. edge_ends * i) (sym (length_counts s)) in
    let w = answer_written (nodes_of s) (ends_of s) (counts_of s) (length area) fours pairs l in
    rw (n, m, k)
    (record {
      back = record { answer = w.0; bytes = simp w.1 };
      again = back (nodes_of s) (ends_of s) (counts_of s) fours pairs;
    })
