-- The sizes of records, and a turn of the loops that fill lists from records. Assumes nothing.
use Prim.Native.Nat.{ℕ, ◌+◌, ◌-◌, ◌*◌, ◌≤◌, ◌<◌}
use mathlib.Core.Path.{◌≡◌, refl, sym, ap, ◌∙◌, subst}
use mathlib.Core.Bool.{true}
use mathlib.Core.List.{List, [], ◌∷◌}
use native.Mathlib.Nat.{le_refl}
use native.Mathlib.Omega.{arith}
use lib.ListN.{length, get_or, drop, set}
use lib.Seq.{get_or-take, get_or-drop, sets}
use Rattle.counting.specs.Lists.{over}
use Rattle.counting.specs.work.Stored.{Stored}
use Rattle.counting.specs.Stored.{filled}
use Rattle.counting.proofs.Range.{over_ext}
use Rattle.counting.proofs.Fronts.{length_blocks}
use Rattle.counting.proofs.Search.{last_none}
use Rattle.counting.proofs.Stored.{stored_one, stored_more, stored_front}
use Rattle.bundle.specs.Record.{cell_kind, edge_kind, end_kind, wide_kind, look_kind, word_size, head_bytes, count_place, word, length_of, kind_at, count_at, is_wide, may_have, next_record, is_record, body}
use Rattle.bundle.specs.work.Record.{cell_size, edge_size, end_size, look_size}
use Rattle.bundle.specs.Bundle.{cell_section, edge_section, look_section, end_section, is_of, record_start, cells, edges_from, edges, looks_from, looks, edge_at, stop, is_for, count_from, count_after, is_bundle, cell_nodes, edge_ends, leading_words, count_in, surviving, nodes_of, ends_of, counts_of, written_over}
use Rattle.bundle.proofs.OneRecord.{KindCase, cell, edge, wide, look, end, kind_cases, stands, body_whole, body_length}
use Rattle.bundle.proofs.Runs.{body_of, of_record, of_section, run_apart}
use Rattle.bundle.proofs.Answers.{bundled}

-- a word of a record's body, in the bytes
pub body_word : (s : List ℕ) (at : ℕ) → is_record s at ≡ true → (j : ℕ) → j + word_size ≤ length (body s at) → word (body s at) j ≡ word s (at + head_bytes + j)
body_word s at r j l =
    let e = sym (body_whole s at r).0 in
    let m : next_record s at - (at + head_bytes) ≡ length (body s at) = omega (arith, body_length s at r) in
    let byte : (i : ℕ) → i < length (body s at) → get_or (body s at) i 0 ≡ get_or s (at + head_bytes + i) 0 = λ i h.
    ap (λ (x : List ℕ). get_or x i 0) e ∙ get_or-take (next_record s at - (at + head_bytes)) (drop (at + head_bytes) s) i 0 (omega (arith, m, h)) ∙ get_or-drop (at + head_bytes) s i 0 in
    let f : at + head_bytes + (j + 1) ≡ at + head_bytes + j + 1 = omega arith in
    cc (byte j (omega arith), byte (j + 1) (omega arith), ap (λ k. get_or s k 0) f)

-- a record of a section has one of its kinds, and its body is as long as the kind says: the nodes of a cell; the ends of an edge and a byte, or two
module _ (s : List ℕ) (at : ℕ) where
  kind-at : (section : ℕ) → is_of s section at ≡ true → KindCase (kind_at s at) section
  kind-at section h = subst (KindCase (kind_at s at)) (of_section s section at h) (kind_cases _ (stands s at (of_record s section at h)).known)

  pub cell-kind : is_of s cell_section at ≡ true → kind_at s at ≡ cell_kind
  cell-kind h = elim (kind-at cell_section h) [ cell e ↦ e ]

  pub end-kind : is_of s end_section at ≡ true → kind_at s at ≡ end_kind
  end-kind h = elim (kind-at end_section h) [ end e ↦ e ]

  length_at : (kind : ℕ) → kind_at s at ≡ kind → (section : ℕ) → is_of s section at ≡ true → word_size + length (body s at) ≡ length_of kind
  length_at kind e section h = body_of s at (of_record s section at h) ∙ ap length_of e

  pub cell-body : is_of s cell_section at ≡ true → length (body s at) ≡ word_size * cell_nodes
  unfolding length_of
  cell-body h = omega (arith, length_at cell_kind (cell-kind h) cell_section h)

  pub end_body : is_of s end_section at ≡ true → length (body s at) ≡ 0
  unfolding length_of
  end_body h = omega (arith, length_at end_kind (end-kind h) end_section h)

  pub look-kind : is_of s look_section at ≡ true → kind_at s at ≡ look_kind
  look-kind h = elim (kind-at look_section h) [ look e ↦ e ]

  pub look_body : is_of s look_section at ≡ true → length (body s at) ≡ count_place + word_size
  unfolding length_of
  look_body h = omega (arith, length_at look_kind (look-kind h) look_section h)

  -- the count of a record with two bytes for it, in its body
  wide_count : is_of s edge_section at ≡ true → length (body s at) ≡ count_place + word_size → count_at s at ≡ word (body s at) count_place
  unfolding count_at
  wide_count h n = sym (body_word s at (of_record s edge_section at h) count_place (omega arith))

  -- a count of one byte ends the body
  pub data Edge : Type 0 where
    one_byte : kind_at s at ≡ edge_kind → length (body s at) ≡ count_place + 1 → Edge
    two_bytes : kind_at s at ≡ wide_kind → length (body s at) ≡ count_place + word_size → is_wide (word (body s at) count_place) ≡ true → Edge

  pub edge-body : is_of s edge_section at ≡ true → Edge
  unfolding length_of may_have
  edge-body h = go (kind-at edge_section h)
    where
      go : KindCase (kind_at s at) edge_section → Edge
      go (edge e) = one_byte e (omega (arith, length_at edge_kind e edge_section h))
      go (wide e) =
          let n : length (body s at) ≡ count_place + word_size = omega (arith, length_at wide_kind e edge_section h) in
          two_bytes e n (ap is_wide (sym (wide_count h n)) ∙ sym (ap (λ k. may_have k (count_at s at)) e) ∙ (stands s at (of_record s edge_section at h)).proper)

  pub edge_ge : is_of s edge_section at ≡ true → count_place < length (body s at)
  edge_ge h = go (edge-body h)
    where
      go : Edge → count_place < length (body s at)
      go (one_byte _ n) = omega arith
      go (two_bytes _ n _) = omega arith

pub length_words : (n : ℕ) (b : List ℕ) → length (leading_words n b) ≡ n
length_words n b = let e : 1 * n ≡ n = omega arith in length_blocks (λ i. word b (word_size * i) ∷ []) 1 n (λ _ _. refl) ∙ e

-- what a list has of record k from a place on
abbrev pub nodes_by : List ℕ → ℕ → ℕ → List ℕ
nodes_by s from k = leading_words cell_nodes (body s (record_start s from k))

abbrev pub ends_by : List ℕ → ℕ → ℕ → List ℕ
ends_by s from k = leading_words edge_ends (body s (record_start s from k))

abbrev pub count_by : List ℕ → ℕ → ℕ → List ℕ
count_by s from k = count_in (body s (record_start s from k)) ∷ []

-- the lists are as long as the bundle's numbers say
module _ (s : List ℕ) where
  pub length_nodes : length (nodes_of s) ≡ cell_nodes * cells s
  unfolding nodes_of
  length_nodes = length_blocks (nodes_by s 0) cell_nodes (cells s) (λ j _. length_words cell_nodes (body s (record_start s 0 j)))

  pub length_ends : length (ends_of s) ≡ edge_ends * edges s
  unfolding ends_of
  length_ends = length_blocks (ends_by s (edges_from s)) edge_ends (edges s) (λ j _. length_words edge_ends (body s (record_start s (edges_from s) j)))

  pub length_counts : length (counts_of s) ≡ edges s
  unfolding counts_of
  length_counts = let e : 1 * edges s ≡ edges s = omega arith in length_blocks (λ n. surviving s n ∷ []) 1 (edges s) (λ j _. refl) ∙ e

  -- before any look an edge has its own count, and so it has where there is none
  pub count_own : (n : ℕ) → count_after s 0 n ≡ count_in (body s (edge_at s n))
  unfolding count_after count_from
  count_own n = ap (count_from s n) (last_none (is_for s n))

  pub count_kept : looks s ≡ 0 → (n : ℕ) → surviving s n ≡ count_in (body s (edge_at s n))
  unfolding surviving
  count_kept h n = ap (λ m. count_after s m n) h ∙ count_own n

  -- and the bundle is at least as long as its records
  record_ge : (section n at : ℕ) → is_of s section at ≡ true → n ≤ head_bytes + length (body s at) → at + n ≤ next_record s at
  record_ge section n at h l = omega (arith, body_length s at (of_record s section at h), l)

  cells_apart : cell_size * cells s ≤ edges_from s
  unfolding edges_from cells
  cells_apart = omega (arith, run_apart s 0 cell_section cell_size (λ at h. record_ge cell_section cell_size at h (omega (arith, cell-body s at h))) (cells s) (le_refl (cells s)))

  edges_apart : edges_from s + edge_size * edges s ≤ looks_from s
  unfolding looks_from edges
  edges_apart = run_apart s (edges_from s) edge_section edge_size (λ at h. record_ge edge_section edge_size at h (omega (arith, edge_ge s at h))) (edges s) (le_refl (edges s))

  looks_apart : looks_from s + look_size * looks s ≤ stop s
  unfolding stop looks
  looks_apart = run_apart s (looks_from s) look_section look_size (λ at h. record_ge look_section look_size at h (omega (arith, look_body s at h))) (looks s) (le_refl (looks s))

  pub bundle-size : is_bundle s ≡ true → cell_size * cells s + edge_size * edges s + end_size ≤ length s
  bundle-size h =
      let w = bundled s h in
      omega (arith, w.nothing, record_ge end_section end_size (stop s) w.ended (omega arith), cells_apart, edges_apart, looks_apart)

-- what the body of record k means to a list is stored next
module _ (s : List ℕ) (from at k : ℕ) (h : at ≡ record_start s from k) where
  pub turn : (f : List ℕ → List ℕ) {l0 l l' : List ℕ} {m next : ℕ}
      → Stored l0 0 (over (λ j. f (body s (record_start s from j))) k 0) l m → Stored l m (f (body s at)) l' next
      → Stored l0 0 (over (λ j. f (body s (record_start s from j))) (k + 1) 0) l' next
  turn f p q = stored_more (λ j. f (body s (record_start s from j))) k p (rw h at q)

  pub count_turn : (x : ℕ) → x ≡ count_in (body s at) → {l0 l : List ℕ}
      → Stored l0 0 (over (count_by s from) k 0) l k → Stored l0 0 (over (count_by s from) (k + 1) 0) (set l k x) (k + 1)
  count_turn x e {l0} {l} p = turn (λ b. count_in b ∷ []) p (rw (← e) (stored_one l k x))

-- the edges' own counts are stored
pub own_filled : (s : List ℕ) (from k : ℕ) {next : ℕ} {l l0 : List ℕ} → from ≡ edges_from s → k ≡ edges s → Stored l0 0 (over (count_by s from) k 0) l next → l ≡ filled (count_after s 0) (edges s) l0
unfolding filled
own_filled s from k {next} {l} {l0} b e p =
    p.area
    ∙ ap (λ n. sets l0 0 (over (count_by s from) n 0)) e
    ∙ ap (λ f. sets l0 0 (over (count_by s f) (edges s) 0)) b
    ∙ ap (sets l0 0) (over_ext _ _ (edges s) 0 (λ n _ _. ap (λ x. x ∷ []) (sym (count_own s n))))

-- all of them are stored
pub filled_all : (g : ℕ → List ℕ) (k n : ℕ) {next : ℕ} {l l0 : List ℕ} → Stored l0 0 (over g k 0) l next → k ≡ n → next ≤ length l0 → l ≡ written_over (over g n 0) l0
filled_all g k n {next} {l} {l0} p h b = let e : l ≡ written_over (over g k 0) l0 = stored_front p (omega (arith, p.after, b)) in e ∙ ap (λ m. written_over (over g m 0) l0) h
