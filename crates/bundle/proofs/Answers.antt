-- The cases of the reader's answers. Assumes nothing.
use Prim.Native.Nat.{ℕ, ◌*◌, ◌≤◌, ◌<◌}
use mathlib.Core.Path.{◌≡◌, refl, sym, ap, ◌∙◌}
use mathlib.Core.Bool.{Bool, true, false, not, ◌&&◌}
use mathlib.Core.List.{List, [], ◌∷◌}
use native.Mathlib.Decide.{dec_lt, ℕ_discrete}
use native.Mathlib.Omega.{arith}
use lib.Dec.{leb, eqb}
use lib.ListN.{length, take}
use lib.Seq.{take_at}
use borrow.Author.Tests.{leb-true, eqb-true, eq-eqb, ne_eqb, le-leb, le-ltb, lt-ltb}
use Rattle.answer.specs.Answer.{result_of, refusal}
use Rattle.counting.specs.Pick.{pick}
use Rattle.counting.proofs.Bools.{clash, not_clash, and_true, and_left, and_right}
use Rattle.bundle.specs.Record.{broken_row, next_record}
use Rattle.bundle.specs.Bundle.{cell_section, edge_section, look_section, end_section, is_of, record_start, run, cells, edges_from, edges, looks_from, looks, stop, look_at, first_stray, bundle_answer, is_laid, is_bundle, has_room, is_taken, read_answer, nodes_of, ends_of, counts_of, cell_nodes, edge_ends, written_over, leaves, nodes_left, ends_left, counts_left, short_row, stray_row}
use Rattle.bundle.specs.work.Needed.{LaidOut}
use Rattle.bundle.proofs.OneRecord.{apart}

module _ (s : List ℕ) where
  -- the numbers of three runs are those of the bundle
  module _ (c p e q l r : ℕ) (hc : c ≡ run s cell_section 0) (hp : p ≡ record_start s 0 c) (he : e ≡ run s edge_section p) (hq : q ≡ record_start s p e)
      (hl : l ≡ run s look_section q) (hr : r ≡ record_start s q l) where
    pub laid : LaidOut s c p e q l r
    unfolding cells edges_from edges looks_from looks stop
    laid =
        let fp : p ≡ edges_from s = hp ∙ ap (record_start s 0) hc in
        let fe : e ≡ edges s = he ∙ ap (run s edge_section) fp in
        let fq : q ≡ looks_from s = hq ∙ ap (λ n. record_start s n e) fp ∙ ap (record_start s (edges_from s)) fe in
        let fl : l ≡ looks s = hl ∙ ap (run s look_section) fq in
        record {
          cells_are = hc;
          edges_begin = fp;
          edges_are = fe;
          looks_begin = fq;
          looks_are = fl;
          stops = hr ∙ ap (λ n. record_start s n l) fq ∙ ap (record_start s (looks_from s)) fl;
        }

  -- row 13
  pub answer_open : is_of s end_section (stop s) ≡ false → bundle_answer s ≡ refusal broken_row (stop s)
  unfolding bundle_answer
  answer_open h = simp h

  pub answer_after : is_of s end_section (stop s) ≡ true → (next_record s (stop s) ≡ length s → ⊥) → bundle_answer s ≡ refusal broken_row (next_record s (stop s))
  unfolding bundle_answer
  answer_after h l = simp (h, ne_eqb _ _ l)

  -- row 22
  pub answer_stray : is_of s end_section (stop s) ≡ true → next_record s (stop s) ≡ length s → first_stray s < looks s → bundle_answer s ≡ refusal stray_row (look_at s (first_stray s))
  unfolding bundle_answer
  answer_stray h l k = simp (h, eq-eqb _ _ l, lt-ltb _ _ k)

  pub answer_lists : is_of s end_section (stop s) ≡ true → next_record s (stop s) ≡ length s → looks s ≤ first_stray s → bundle_answer s ≡ result_of (cells s ∷ edges s ∷ [])
  unfolding bundle_answer
  answer_lists h l k = simp (h, eq-eqb _ _ l, le-ltb _ _ k)

  -- which of the four cases the bytes are
  pub data Case : Type 0 where
    unended : is_of s end_section (stop s) ≡ false → Case
    more : is_of s end_section (stop s) ≡ true → (next_record s (stop s) ≡ length s → ⊥) → Case
    stray : is_of s end_section (stop s) ≡ true → next_record s (stop s) ≡ length s → first_stray s < looks s → Case
    whole : is_of s end_section (stop s) ≡ true → next_record s (stop s) ≡ length s → looks s ≤ first_stray s → Case

  pub case_of : Case
  case_of = go (is_of s end_section (stop s)) refl
    where
      go : (b : Bool) → is_of s end_section (stop s) ≡ b → Case
      go false h = unended h
      go true h =
          elim (ℕ_discrete (next_record s (stop s)) (length s)) [
            | no n ↦ more h n
            | yes e ↦ elim (dec_lt (first_stray s) (looks s)) [ yes l ↦ stray h e l | no l ↦ whole h e (omega arith) ]
          ]

  -- only the last is a bundle
  pub is-laid : is_of s end_section (stop s) ≡ true → next_record s (stop s) ≡ length s → is_laid s ≡ true
  unfolding is_laid
  is-laid h e = and_true _ _ h (eq-eqb _ _ e)

  pub is-bundle : is_of s end_section (stop s) ≡ true → next_record s (stop s) ≡ length s → looks s ≤ first_stray s → is_bundle s ≡ true
  unfolding is_bundle
  is-bundle h e l = and_true _ _ (is-laid h e) (le-leb _ _ l)

  -- what it is to be one
  pub record Bundled : Type 0 where
    pub ended : is_of s end_section (stop s) ≡ true
    pub nothing : next_record s (stop s) ≡ length s
    pub met : looks s ≤ first_stray s

  pub bundled : is_bundle s ≡ true → Bundled
  unfolding is_bundle is_laid
  bundled h =
      let a = is_of s end_section (stop s) in
      let b = eqb (next_record s (stop s)) (length s) in
      let c = leb (looks s) (first_stray s) in
      let g = and_left (a && b) c h in
      record { ended = and_left a b g; nothing = eqb-true _ _ (and_right a b g); met = leb-true _ _ (and_right (a && b) c h) }

  pub bundle-answer : is_bundle s ≡ true → bundle_answer s ≡ result_of (cells s ∷ edges s ∷ [])
  bundle-answer h = let w = bundled h in answer_lists w.ended w.nothing w.met

  -- a refusal has a row's number
  pub record Refusing : Type 0 where
    pub row : ℕ
    pub place : ℕ
    pub some : 0 < row
    pub is : bundle_answer s ≡ refusal row place

  pub refused : is_bundle s ≡ false → Refusing
  refused h = go case_of
    where
      go : Case → Refusing
      go (unended e) = record { row = broken_row; place = stop s; some = omega arith; is = answer_open e }
      go (more e n) = record { row = broken_row; place = next_record s (stop s); some = omega arith; is = answer_after e n }
      go (stray e n l) = record { row = stray_row; place = look_at s (first_stray s); some = omega arith; is = answer_stray e n l }
      go (whole e n l) = clash (is-bundle e n l) h

  -- what an answer says of the bytes
  pub accepted : (c e : ℕ) → result_of (c ∷ e ∷ []) ≡ bundle_answer s → is_bundle s ≡ true
  accepted c e h = go (is_bundle s) refl
    where
      go : (b : Bool) → is_bundle s ≡ b → b ≡ true
      go true q = refl
      go false q = apart _ _ _ _ (h ∙ (refused q).is)

  pub accepted_cells : (c e : ℕ) → result_of (c ∷ e ∷ []) ≡ bundle_answer s → c ≡ cells s
  accepted_cells c e h = let q = bundle-answer (accepted c e h) in cc

  pub accepted_edges : (c e : ℕ) → result_of (c ∷ e ∷ []) ≡ bundle_answer s → e ≡ edges s
  accepted_edges c e h = let q = bundle-answer (accepted c e h) in cc

  pub rejected : (number place : ℕ) → refusal number place ≡ bundle_answer s → is_bundle s ≡ false
  rejected number place h = not_clash (is_bundle s) (λ q. apart _ _ _ _ (sym (h ∙ bundle-answer q)))

  -- row 14
  module _ (n m l : ℕ) where
    pub room : cell_nodes * cells s ≤ n → edge_ends * edges s ≤ m → edges s ≤ l → has_room s n m l ≡ true
    unfolding has_room
    room a b c = simp (le-leb _ _ a, le-leb _ _ b, le-leb _ _ c)

    pub no_room : (cell_nodes * cells s ≤ n → edge_ends * edges s ≤ m → edges s ≤ l → ⊥) → has_room s n m l ≡ false
    unfolding has_room
    no_room h =
        let a = leb (cell_nodes * cells s) n in
        let b = leb (edge_ends * edges s) m in
        let c = leb (edges s) l in
        not_clash (a && b && c)
        (λ q. h (leb-true _ _ (and_left a b (and_left (a && b) c q))) (leb-true _ _ (and_right a b (and_left (a && b) c q))) (leb-true _ _ (and_right (a && b) c q)))

  -- a result of the reader is the bundle's own, and the lists have room
  read_result : (n m l c e : ℕ) → read_answer s n m l ≡ result_of (c ∷ e ∷ []) → (bundle_answer s ≡ result_of (c ∷ e ∷ [])) × ((is_bundle s && not (has_room s n m l)) ≡ false)
  unfolding read_answer
  read_result n m l c e h = go (is_bundle s && not (has_room s n m l)) h
    where
      go : (b : Bool) → pick b (refusal short_row 0) (bundle_answer s) ≡ result_of (c ∷ e ∷ []) → (bundle_answer s ≡ result_of (c ∷ e ∷ [])) × (b ≡ false)
      go true q = apart _ _ _ _ (sym q)
      go false q = (q, refl)

  pub read_bundle : (n m l c e : ℕ) → read_answer s n m l ≡ result_of (c ∷ e ∷ []) → bundle_answer s ≡ result_of (c ∷ e ∷ [])
  read_bundle n m l c e h = (read_result n m l c e h).0

  pub read_taken : (n m l c e : ℕ) → read_answer s n m l ≡ result_of (c ∷ e ∷ []) → is_taken s n m l ≡ true
  unfolding is_taken
  read_taken n m l c e h = go (is_bundle s) (has_room s n m l) (accepted c e (sym (read_bundle n m l c e h))) (read_result n m l c e h).1
    where
      go : (a b : Bool) → a ≡ true → (a && not b) ≡ false → (a && b) ≡ true
      go true true p q = refl
      go true false p q = clash refl q
      go false b p q = p

  -- and lists with room have it
  pub read_lists : (n m l : ℕ) → is_bundle s ≡ true → cell_nodes * cells s ≤ n → edge_ends * edges s ≤ m → edges s ≤ l
      → (read_answer s n m l ≡ result_of (cells s ∷ edges s ∷ [])) × (is_taken s n m l ≡ true)
  unfolding read_answer is_taken
  read_lists n m l h a b c = (simp (h, room n m l a b c) (bundle-answer h), simp (h, room n m l a b c))

-- the front of a lent list after a call that accepts
pub left_front : {b : Bool} → b ≡ true → (new old : List ℕ) (n : ℕ) → length new ≡ n → take n (leaves b new old) ≡ new
left_front h new old n l = simp h (take_at new _ n l)

-- what the reader answers and leaves in the lists that it was lent
abbrev pub Leaves : (s ns es cs answer ns' es' cs' : List ℕ) → Type 0
Leaves s ns es cs answer ns' es' cs' =
    (answer ≡ read_answer s (length ns) (length es) (length cs))
    × ((ns' ≡ nodes_left s ns es cs) × ((es' ≡ ends_left s ns es cs) × (cs' ≡ counts_left s ns es cs)))

module _ (s ns es cs : List ℕ) where
  pub leaves_broken : is_bundle s ≡ false → Leaves s ns es cs (bundle_answer s) ns es cs
  unfolding read_answer is_taken
  leaves_broken h = (simp h, (simp h, (simp h, simp h)))

  module _ (h : is_bundle s ≡ true) where
    pub leaves_short : has_room s (length ns) (length es) (length cs) ≡ false → Leaves s ns es cs (refusal short_row 0) ns es cs
    unfolding read_answer is_taken
    leaves_short r = (simp (h, r), (simp (h, r), (simp (h, r), simp (h, r))))

    pub leaves_lists : has_room s (length ns) (length es) (length cs) ≡ true
        → Leaves s ns es cs (bundle_answer s) (written_over (nodes_of s) ns) (written_over (ends_of s) es) (written_over (counts_of s) cs)
    unfolding read_answer is_taken
    leaves_lists r = (simp (h, r), (simp (h, r), (simp (h, r), simp (h, r))))
