-- Later looks: their places, pairs as keys, and a block of looks. Assumes nothing.
use Prim.Native.Nat.{ℕ, zero, suc, ◌+◌, ◌-◌, ◌*◌, ◌≤◌, ◌<◌}
use mathlib.Core.Path.{◌≡◌, refl, sym, ap, ◌∙◌}
use mathlib.Core.Bool.{Bool, true, false, not, ◌&&◌}
use mathlib.Core.List.{List}
use native.Mathlib.Nat.{mul-zero}
use native.Mathlib.Decide.{ℕ_discrete}
use native.Mathlib.Omega.{arith}
use lib.Dec.{eqb}
use lib.ListN.{length, get_or, set, replicate, length-set}
use lib.Seq.{get_or-set_same, get_or-set_other}
use borrow.Author.Tests.{eqb-true, eq-eqb, ne_eqb, lt-ltb}
use Rattle.counting.specs.Search.{last, some}
use Rattle.counting.proofs.Bools.{and_left, and_right, and_true, bool_same, eqb_comm}
use Rattle.counting.proofs.Search.{last_plus, last_ext, some_zero, some_hit, some_miss, some_ext}
use Rattle.bundle.specs.Record.{byte_values, word_size, head_bytes, count_place, word, length_of, next_record, is_record, body}
use Rattle.bundle.specs.work.Record.{look_size}
use Rattle.bundle.specs.Bundle.{edge_section, look_section, is_of, record_start, run, edges_from, edges, looks_from, looks, edge_at, look_at, end_in, count_in, same_pair, is_for, is_stray, count_from, count_after}
use Rattle.trees.specs.work.Trees.{has_key, top_for, Tops}
use Rattle.bundle.specs.work.Looked.{pair_key, key_at, edge_key, look_key, block_key, EndsWithin, AllEdges, LooksLent, top_of, top_unmet, KeysMarked, count_or}
use Rattle.trees.proofs.Trees.{top_le, top_key, top_self}
use Rattle.bundle.proofs.OneRecord.{stands, body_length}
use Rattle.bundle.proofs.Runs.{Walked, here, walked_next, of_record, next_of, run_all}
use Rattle.bundle.proofs.Fills.{body_word, look-kind, look_body, edge_ge}

-- equal keys are equal pairs
key_pair : (a b c d : ℕ) → b < 65536 → d < 65536 → (eqb a c && eqb b d) ≡ eqb (pair_key a b) (pair_key c d)
key_pair a b c d hb hd =
    bool_same (eqb a c && eqb b d) (eqb (pair_key a b) (pair_key c d))
    (λ h. let p = eqb-true a c (and_left (eqb a c) (eqb b d) h) in let q = eqb-true b d (and_right (eqb a c) (eqb b d) h) in eq-eqb (pair_key a b) (pair_key c d) (omega arith))
    (λ h. let e = eqb-true (pair_key a b) (pair_key c d) h in and_true _ _ (eq-eqb a c (omega arith)) (eq-eqb b d (omega arith)))

module _ (s : List ℕ) where
  -- looks are all as long
  look_here : (k : ℕ) → k < looks s → is_of s look_section (look_at s k) ≡ true
  unfolding looks
  look_here k h = run_all s (looks_from s) look_section k h

  pub look_place : (k : ℕ) → k ≤ looks s → look_at s k ≡ looks_from s + look_size * k
  unfolding record_start length_of
  look_place zero h = omega (arith, mul-zero look_size)
  look_place (suc k) h =
      let o = look_here k h in
      omega (arith, look_place k (omega arith), next_of s (look_at s k) (of_record s look_section _ o), ap length_of (look-kind s (look_at s k) o))

  pub look_within : (k : ℕ) → k < looks s → looks_from s + look_size * k + look_size ≤ length s
  look_within k h =
      let r = of_record s look_section _ (look_here k h) in
      omega (arith, look_place k (omega arith), look_body s _ (look_here k h), body_length s (look_at s k) r, (stands s (look_at s k) r).fits)

  pub look_few : (k : ℕ) → k < looks s → k < length s
  look_few k h = omega (arith, look_within k h)

  edge_here : (n : ℕ) → n < edges s → is_of s edge_section (edge_at s n) ≡ true
  unfolding edges
  edge_here n h = run_all s (edges_from s) edge_section n h

  -- the key of a record is that of its body
  key_body : (at : ℕ) → is_record s at ≡ true → count_place ≤ length (body s at) → key_at s at ≡ pair_key (end_in (body s at) 0) (end_in (body s at) 1)
  unfolding key_at
  key_body at r l =
      let z : at + head_bytes + 0 ≡ at + head_bytes = omega arith in
      sym (cc (body_word s at r 0 (omega arith), body_word s at r word_size (omega arith), ap (word s) z))

  -- the count of a look
  pub look_count : (k : ℕ) → k < looks s → word s (looks_from s + look_size * k + head_bytes + count_place) ≡ count_in (body s (look_at s k))
  look_count k h =
      let o = look_here k h in
      ap (λ n. word s (n + head_bytes + count_place)) (sym (look_place k (omega arith)))
      ∙ sym (body_word s (look_at s k) (of_record s look_section _ o) count_place (omega (arith, look_body s (look_at s k) o)))

  module _ (bytes : (i : ℕ) → get_or s i 0 < byte_values) where
    word_small : (at : ℕ) → word s at < 65536
    word_small at = omega (arith, bytes at, bytes (at + 1))

    -- a look is for an edge where their keys are equal
    pub for_key : (n k : ℕ) → n < edges s → k < looks s → is_for s n k ≡ eqb (edge_key s n) (look_key s k)
    unfolding is_for same_pair
    for_key n k hn hk =
        let e = of_record s edge_section _ (edge_here n hn) in
        let l = of_record s look_section _ (look_here k hk) in
        let le : count_place ≤ length (body s (edge_at s n)) = omega (arith, edge_ge s (edge_at s n) (edge_here n hn)) in
        let ll : count_place ≤ length (body s (look_at s k)) = omega (arith, look_body s (look_at s k) (look_here k hk)) in
        key_pair (end_in (body s (edge_at s n)) 0) (end_in (body s (edge_at s n)) 1) (end_in (body s (look_at s k)) 0) (end_in (body s (look_at s k)) 1) (second (edge_at s n) e le) (second (look_at s k) l ll)
        ∙ cc (key_body (edge_at s n) e le, key_body (look_at s k) l ll)
      where
        second : (at : ℕ) → is_record s at ≡ true → count_place ≤ length (body s at) → end_in (body s at) 1 < 65536
        second at r l = omega (arith, body_word s at r word_size (omega arith), word_small (at + head_bytes + word_size))

    -- n looks from look m on
    module _ (m n : ℕ) (part : m + n ≤ looks s) where
      same_for : (e i : ℕ) → e < edges s → i < n → has_key (block_key s m) (edge_key s e) i ≡ is_for s e (m + i)
      unfolding has_key
      same_for e i he hi = eqb_comm (look_key s (m + i)) (edge_key s e) ∙ sym (for_key e (m + i) he (omega arith))

      -- the last of them for an edge
      pub top-for : (e : ℕ) → e < edges s → top_of s m n e ≡ last (λ i. is_for s e (m + i)) n
      top-for e he = last_ext _ _ n (λ i hi. same_for e i he hi)

      -- the count of an edge after them, from its count before
      pub count_block : (e : ℕ) → e < edges s → count_after s (m + n) e ≡ count_or s m (top_of s m n e) (count_after s m e)
      unfolding count_after count_or count_from
      count_block e he = go (top_of s m n e) (sym (top-for e he))
        where
          go : (p : ℕ) → last (λ i. is_for s e (m + i)) n ≡ p → count_from s e (last (is_for s e) (m + n)) ≡ count_or s m p (count_after s m e)
          go zero q = let x : last (is_for s e) (m + n) ≡ last (is_for s e) m = last_plus (is_for s e) m n ∙ simp q in ap (count_from s e) x
          go (suc j) q =
              let f : m + suc j ≡ suc (m + j) = omega arith in
              let x : last (is_for s e) (m + n) ≡ suc (m + j) = last_plus (is_for s e) m n ∙ simp (q, lt-ltb 0 (suc j) (omega arith)) f in
              ap (count_from s e) x

      -- a place without mark is a stray look
      module _ (tops : List ℕ) (met : List Bool) (t : Tops (block_key s m) n 0 tops) (w : KeysMarked s m n met) (j : ℕ) (hj : j < n) where
        abbrev key : ℕ
        key = look_key s (m + j)

        abbrev top : ℕ
        top = top_for (block_key s m) n key

        found : (k : ℕ) → top_for (block_key s m) n k ≡ top → k ≡ block_key s m (top - 1)
        found k q = sym (rw q at (top_key (block_key s m) n k (omega (arith, q, top_self (block_key s m) n j hj))))

        edge_met : (e : ℕ) → e < edges s → eqb (top_of s m n e) top ≡ is_for s e (m + j)
        edge_met e he =
            bool_same (eqb (top_of s m n e) top) (is_for s e (m + j))
            (λ h. let q = eqb-true (top_of s m n e) top h in for_key e (m + j) he (omega arith) ∙ eq-eqb _ _ (found (edge_key s e) q ∙ sym (found key refl)))
            (λ h. let q = eqb-true _ _ (sym (for_key e (m + j) he (omega arith)) ∙ h) in eq-eqb _ _ (ap (top_for (block_key s m) n) q))

        pub unmarked_stray : top_unmet tops met j ≡ is_stray s (m + j)
        unfolding top_unmet is_stray
        unmarked_stray =
            let up = top_self (block_key s m) n j hj in
            let e : suc (top - 1) ≡ top = omega (arith, up) in
            ap (λ x. not (get_or met (x - 1) false)) (t.at j (omega arith) hj)
            ∙ ap not (w.at (top - 1) (omega (arith, up, top_le (block_key s m) n key)) ∙ some_ext _ _ (edges s) (λ x h. ap (eqb (top_of s m n x)) e ∙ edge_met x h))

-- new marks
pub unset : (n i : ℕ) → get_or (replicate n false) i false ≡ false
unset zero i = refl
unset (suc n) zero = refl
unset (suc n) (suc i) = unset n i

-- the loop of `mark` has come to edge k
pub record Marking (s : List ℕ) (m n : ℕ) (met₀ met : List Bool) (k : ℕ) : Type 0 where
  pub long : length met ≡ length met₀
  pub marks : (i : ℕ) → i < n → get_or met i false ≡ some (λ e. eqb (top_of s m n e) (suc i)) k

module _ (s : List ℕ) (m n : ℕ) (met₀ : List Bool) where
  pub marking_none : ((i : ℕ) → get_or met₀ i false ≡ false) → Marking s m n met₀ met₀ 0
  marking_none blank = record { long = refl; marks = λ i h. blank i ∙ sym (some_zero (λ e. eqb (top_of s m n e) (suc i))) }

  module _ (met : List Bool) (k : ℕ) (w : Marking s m n met₀ met k) where
    -- no look has the edge's key
    pub marking_skip : 0 ≡ top_of s m n k → Marking s m n met₀ met (k + 1)
    marking_skip z = record { long = w.long; marks = λ i h. w.marks i h ∙ sym (some_miss _ k (ne_eqb _ _ (λ x. omega (arith, z, x)))) }

    -- p is the last that has
    pub marking_more : (p : ℕ) → n ≤ length met₀ → suc p ≡ top_of s m n k → Marking s m n met₀ (set met p true) (k + 1)
    marking_more p room e =
        record {
          long = length-set met p true ∙ w.long;
          marks = λ i h. elim (ℕ_discrete p i) [
            | yes q ↦ rw (← q, get_or-set_same met p true false (omega (arith, w.long, e, top_le (block_key s m) n (edge_key s k)))) (sym (some_hit _ k (eq-eqb _ _ (sym e))))
            | no q ↦ get_or-set_other met p i true false (λ x. q (sym x)) ∙ w.marks i h ∙ sym (some_miss _ k (ne_eqb _ _ (λ x. omega (arith, q, e, x))))
          ];
        }

-- a walk over the edges
module _ (s : List ℕ) (from count at k : ℕ) (l : AllEdges s from count) (g : Walked s from edge_section at k) where
  run_of : run s edge_section from ≡ count
  unfolding edges
  run_of = ap (run s edge_section) l.begin ∙ sym l.all

  -- it has come to all
  pub edge_all : count ≤ k → k ≡ edges s
  edge_all h = omega (arith, h, g.upto, run_of, l.all)

  module _ (h : k < count) where
    edge-of : is_of s edge_section at ≡ true
    edge-of = here s from edge_section at k g (omega (arith, h, run_of))

    pub edge_whole : is_record s at ≡ true
    edge_whole = of_record s edge_section at edge-of

    pub edge-ends : EndsWithin s at
    edge-ends = omega (arith, edge_ge s at edge-of, body_length s at edge_whole, (stands s at edge_whole).fits)

    pub edge_next : (next : ℕ) → next ≡ next_record s at → Walked s from edge_section next (k + 1)
    edge_next next e = rw e (walked_next s from edge_section at k g (omega (arith, h, run_of)))

    pub edge-key : key_at s at ≡ edge_key s k
    edge-key = ap (key_at s) (g.reached ∙ ap (λ p. record_start s p k) l.begin)

    pub edge-number : k < edges s
    edge-number = omega (arith, h, l.all)

-- look k of all the looks
module _ {s : List ℕ} {from count base n : ℕ} (l : LooksLent s from count base n) (k : ℕ) (h : k < n) where
  listed : k < looks s
  listed = omega (arith, h, l.all)

  pub look_there : base + look_size * k + look_size ≤ length s
  look_there = omega (arith, look_within s k listed, l.begin)

  pub look_keyed : key_at s (base + look_size * k) ≡ look_key s k
  look_keyed = ap (λ b. key_at s (b + look_size * k)) l.begin ∙ ap (key_at s) (sym (look_place s k (omega (arith, listed))))

  pub look_counted : word s (base + look_size * k + head_bytes + count_place) ≡ count_in (body s (look_at s k))
  look_counted = ap (λ b. word s (b + look_size * k + head_bytes + count_place)) l.begin ∙ look_count s k listed
