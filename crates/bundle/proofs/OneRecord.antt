-- One record: what it is to stand at a place, and what each answer of the record reader says. Assumes nothing.
use Prim.Native.Nat.{ℕ, ◌+◌, ◌-◌, ◌≤◌, ◌<◌}
use mathlib.Core.Path.{◌≡◌, refl, sym, ap, ◌∙◌}
use mathlib.Core.Bool.{Bool, true, false, ◌&&◌}
use mathlib.Core.List.{List, [], ◌∷◌}
use native.Mathlib.Decide.{dec_lt}
use native.Mathlib.Omega.{arith}
use lib.Dec.{ltb, leb, eqb}
use lib.ListN.{length, get_or, take, drop, length-take, length-drop}
use borrow.Author.Tests.{ltb-true, leb-true, eqb-true, lt-ltb, le-ltb, le-leb, eq-eqb, ne_eqb}
use Rattle.answer.specs.Answer.{result_of, refusal}
use Rattle.counting.specs.Pick.{pick}
use Rattle.counting.proofs.Bools.{clash, and_left, and_right, not_clash}
use Rattle.bundle.specs.Record.{cell_kind, edge_kind, end_kind, wide_kind, look_kind, kind_number, word_size, length_bytes, head_bytes, cell_length, edge_length, end_length, wide_length, look_length, word, length_of, kind_at, next_record, count_at, may_have, is_record, record_answer, broken_row, body, body_size, body_start}
use Rattle.bundle.specs.Bundle.{cell_section, edge_section, look_section, end_section, section_of}
use Rattle.bundle.specs.work.Kinds.{section_number}
use Rattle.bundle.specs.declared.kinds.Kind.{Kind}
use Rattle.bundle.specs.declared.kinds.Kind.TheVariants.{Cell, Edge, End, Wide, Look}
use Rattle.bundle.specs.declared.kinds.Section.{Section}
use Rattle.bundle.specs.declared.kinds.Section.TheVariants.{Cells, Edges, Looks, End as Last}
use Rattle.bundle.specs.work.Needed.{WideLent}

-- a kind with a length is one of five, each in its section
pub data KindCase (k : ℕ) : ℕ → Type 0 where
  cell : k ≡ cell_kind → KindCase k cell_section
  edge : k ≡ edge_kind → KindCase k edge_section
  wide : k ≡ wide_kind → KindCase k edge_section
  look : k ≡ look_kind → KindCase k look_section
  end : k ≡ end_kind → KindCase k end_section

kind_pick : (k : ℕ) (a b c d e : Bool) → eqb k cell_kind ≡ a → eqb k edge_kind ≡ b → eqb k end_kind ≡ c → eqb k wide_kind ≡ d → eqb k look_kind ≡ e
    → 0 < pick a cell_length (pick b edge_length (pick c end_length (pick d wide_length (pick e look_length 0))))
    → KindCase k (pick a cell_section (pick b edge_section (pick d edge_section (pick e look_section (pick c end_section 0)))))
kind_pick k true b c d e ea eb ec ed ee h = cell (eqb-true _ _ ea)
kind_pick k false true c d e ea eb ec ed ee h = edge (eqb-true _ _ eb)
kind_pick k false false c true e ea eb ec ed ee h = wide (eqb-true _ _ ed)
kind_pick k false false c false true ea eb ec ed ee h = look (eqb-true _ _ ee)
kind_pick k false false true false false ea eb ec ed ee h = end (eqb-true _ _ ec)
kind_pick k false false false false false ea eb ec ed ee h = absurd (omega (arith, h))

pub kind_cases : (k : ℕ) → 0 < length_of k → KindCase k (section_of k)
unfolding length_of section_of
kind_cases k h = kind_pick k (eqb k cell_kind) (eqb k edge_kind) (eqb k end_kind) (eqb k wide_kind) (eqb k look_kind) refl refl refl refl refl h

-- whose record has at least the two bytes of the kind
pub length_ge : (kind : ℕ) → 0 < length_of kind → word_size ≤ length_of kind
unfolding length_of
length_ge kind h = go (section_of kind) (kind_cases kind h)
  where
    go : (section : ℕ) → KindCase kind section → word_size ≤ length_of kind
    go _ (cell e) = omega (arith, ap length_of e)
    go _ (edge e) = omega (arith, ap length_of e)
    go _ (wide e) = omega (arith, ap length_of e)
    go _ (look e) = omega (arith, ap length_of e)
    go _ (end e) = omega (arith, ap length_of e)

-- a number of none of them has none
pub unknown_length : (k : ℕ) → (k ≡ cell_kind → ⊥) → (k ≡ edge_kind → ⊥) → (k ≡ end_kind → ⊥) → (k ≡ wide_kind → ⊥) → (k ≡ look_kind → ⊥) → length_of k ≡ 0
unfolding length_of
unknown_length k a b c d e = simp (ne_eqb _ _ a, ne_eqb _ _ b, ne_eqb _ _ c, ne_eqb _ _ d, ne_eqb _ _ e)

-- and a kind has one
pub kind_known : (k : Kind) → length_of (kind_number k) ≡ 0 → ⊥
unfolding length_of
kind_known Cell e = omega (arith, e)
kind_known Edge e = omega (arith, e)
kind_known End e = omega (arith, e)
kind_known Wide e = omega (arith, e)
kind_known Look e = omega (arith, e)

-- a section by its number
abbrev sections : List Section
sections = Cells ∷ Edges ∷ Looks ∷ Last ∷ []

section_back : (k : Section) → get_or sections (section_number k - 1) Cells ≡ k
section_back Cells = refl
section_back Edges = refl
section_back Looks = refl
section_back Last = refl

pub section_tells : (k l : Section) → section_number k ≡ section_number l → k ≡ l
section_tells k l e = sym (section_back k) ∙ ap (λ n. get_or sections (n - 1) Cells) e ∙ section_back l

-- a kind but that of wide edges has any count
pub may_other : (kind : Kind) (count : ℕ) → (kind ≡ Wide → ⊥) → true ≡ may_have (kind_number kind) count
unfolding may_have
may_other Cell count h = refl
may_other Edge count h = refl
may_other End count h = refl
may_other Wide count h = absurd (h refl)
may_other Look count h = refl

-- the five parts of `is_record`
pub record Stands (s : List ℕ) (at : ℕ) : Type 0 where
  pub inside : at + head_bytes ≤ length s
  pub known : 0 < length_of (kind_at s at)
  pub right : word s at ≡ length_of (kind_at s at)
  pub fits : next_record s at ≤ length s
  pub proper : may_have (kind_at s at) (count_at s at) ≡ true

-- a result of two values is no refusal
pub apart : {A : Type 0} (a b c d : ℕ) → result_of (a ∷ b ∷ []) ≡ refusal c d → A
apart a b c d h = let z : ◌≡◌ {A = ℕ} 0 1 = cc in absurd (omega arith)

module _ (s : List ℕ) (at : ℕ) where
  pub stands : is_record s at ≡ true → Stands s at
  unfolding is_record
  stands h =
      let a = leb (at + head_bytes) (length s) in
      let b = ltb 0 (length_of (kind_at s at)) in
      let c = eqb (word s at) (length_of (kind_at s at)) in
      let d = leb (next_record s at) (length s) in
      let e = may_have (kind_at s at) (count_at s at) in
      let g = and_left (a && b && c && d) e h in
      record {
        inside = leb-true _ _ (and_left a b (and_left (a && b) c (and_left (a && b && c) d g)));
        known = ltb-true _ _ (and_right a b (and_left (a && b) c (and_left (a && b && c) d g)));
        right = eqb-true _ _ (and_right (a && b) c (and_left (a && b && c) d g));
        fits = leb-true _ _ (and_right (a && b && c) d g);
        proper = and_right (a && b && c && d) e h;
      }

  pub standing : Stands s at → is_record s at ≡ true
  unfolding is_record
  standing w = simp (le-leb _ _ w.inside, lt-ltb _ _ w.known, eq-eqb _ _ w.right, le-leb _ _ w.fits, w.proper)

  pub absent : (Stands s at → ⊥) → is_record s at ≡ false
  absent h = not_clash (is_record s at) (λ e. h (stands e))

  -- a record has at least the bytes of length and kind
  pub next_ge : is_record s at ≡ true → at + head_bytes ≤ next_record s at
  unfolding next_record
  next_ge h = let w = stands h in let l = length_ge _ w.known in let r = w.right in omega arith

  -- the three answers
  pub answer_whole : is_record s at ≡ true → record_answer s at ≡ result_of (kind_at s at ∷ next_record s at ∷ [])
  unfolding record_answer
  answer_whole h = let w = stands h in let l : at < length s = omega (arith, w.inside) in simp (lt-ltb _ _ l, h)

  pub answer_refused : at < length s → is_record s at ≡ false → record_answer s at ≡ refusal broken_row at
  unfolding record_answer
  answer_refused l h = simp (lt-ltb _ _ l, h)

  pub answer_outside : length s ≤ at → record_answer s at ≡ refusal broken_row (length s)
  unfolding record_answer
  answer_outside l = simp (le-ltb _ _ l)

  -- what an answer says of the bytes
  pub record Found (kind next : ℕ) : Type 0 where
    pub whole : is_record s at ≡ true
    pub kind_is : kind ≡ kind_at s at
    pub next_is : next ≡ next_record s at

  pub found : (kind next : ℕ) → result_of (kind ∷ next ∷ []) ≡ record_answer s at → Found kind next
  found kind next h = go (is_record s at) refl
    where
      go : (b : Bool) → is_record s at ≡ b → Found kind next
      go true e = let q = answer_whole e in record { whole = e; kind_is = cc; next_is = cc }
      go false e = elim (dec_lt at (length s)) [ yes l ↦ apart _ _ _ _ (h ∙ answer_refused l e) | no l ↦ apart _ _ _ _ (h ∙ answer_outside (omega arith)) ]

  pub not_found : (number place : ℕ) → refusal number place ≡ record_answer s at → is_record s at ≡ false
  not_found number place h = not_clash (is_record s at) (λ e. apart _ _ _ _ (sym (h ∙ answer_whole e)))

  -- the body, and where it starts
  pub body_whole : is_record s at ≡ true → (take (next_record s at - (at + head_bytes)) (drop (at + head_bytes) s) ≡ body s at) × (at + head_bytes ≡ body_start s at)
  unfolding body body_size body_start
  body_whole h = (simp h, simp h)

  -- its bytes reach to the next record
  pub body_length : is_record s at ≡ true → at + (head_bytes + length (body s at)) ≡ next_record s at
  body_length h =
      let e : length (body s at) ≡ next_record s at - (at + head_bytes) = sym (ap length (body_whole h).0) ∙ simp (length-take, length-drop) (omega (arith, next_ge h, (stands h).fits)) in
      omega (arith, e, next_ge h)

  pub body_none : is_record s at ≡ false → ([] ≡ body s at) × (0 ≡ body_start s at)
  unfolding body body_size body_start
  body_none h = (simp h, simp h)

-- the cases of the record reader: a length, a kind, that kind's length and whether the count is one that it may have were read at a place within
-- the bytes
module _ (s : List ℕ) (at : ℕ) (l : at < length s) where
  pub case_short : length s - at < head_bytes → refusal broken_row at ≡ record_answer s at
  case_short h = sym (answer_refused s at l (absent s at (λ w. omega (arith, w.inside, h))))

  module _ (len kind right : ℕ) (el : len ≡ word s at) (ek : kind ≡ word s (at + length_bytes)) (er : right ≡ length_of kind) where
    len_of : right ≡ length_of (kind_at s at)
    unfolding kind_at
    len_of = er ∙ ap length_of ek

    pub case_unknown : right ≡ 0 → refusal broken_row at ≡ record_answer s at
    case_unknown h = sym (answer_refused s at l (absent s at (λ w. omega (arith, w.known, h, len_of))))

    pub case_wrong : (len ≡ right → ⊥) → refusal broken_row at ≡ record_answer s at
    case_wrong h = sym (answer_refused s at l (absent s at (λ w. h (el ∙ w.right ∙ sym len_of))))

    pub case_cut : length s - at < length_bytes + len → refusal broken_row at ≡ record_answer s at
    unfolding next_record
    case_cut h = sym (answer_refused s at l (absent s at (λ w. omega (arith, w.fits, h, el, l))))

    -- all bytes of a record of kind 4 with its length are there, the count too
    pub wide_inside : len ≡ right → length_bytes + len ≤ length s - at → WideLent s at kind
    unfolding length_of
    wide_inside h1 h2 e = omega (arith, h1, h2, er, ap length_of e)

    module _ (may : Bool) (em : may ≡ may_have kind (count_at s at)) where
      proper_of : may ≡ may_have (kind_at s at) (count_at s at)
      unfolding kind_at
      proper_of = em ∙ ap (λ k. may_have k (count_at s at)) ek

      pub case_small : may ≡ false → refusal broken_row at ≡ record_answer s at
      case_small h = sym (answer_refused s at l (absent s at (λ w. clash (proper_of ∙ w.proper) h)))

      pub case_whole : head_bytes ≤ length s - at → (right ≡ 0 → ⊥) → len ≡ right → length_bytes + len ≤ length s - at → may ≡ true
          → result_of (kind ∷ (at + (length_bytes + len)) ∷ []) ≡ record_answer s at
      unfolding next_record kind_at
      case_whole h4 h0 h1 h2 hm =
          let w : Stands s at = record {
            inside = omega arith;
            known = omega (arith, len_of, h0);
            right = sym el ∙ h1 ∙ len_of;
            fits = omega arith;
            proper = sym proper_of ∙ hm;
          } in
          let e : at + (length_bytes + len) ≡ at + length_bytes + word s at = omega arith in
          cc (answer_whole s at (standing s at w))
