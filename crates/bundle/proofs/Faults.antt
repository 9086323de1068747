-- The reader's refusal is the lowest fault of row 13, or else the lowest stray look. Assumes nothing.
use Prim.Native.Nat.{ℕ, zero, suc, ◌+◌, ◌-◌, ◌≤◌, ◌<◌}
use mathlib.Core.Path.{◌≡◌, refl, sym, ap, ◌∙◌, subst}
use mathlib.Core.Bool.{Bool, true, false, not}
use mathlib.Core.List.{List}
use native.Mathlib.Nat.{add-zero, le_refl}
use native.Mathlib.Decide.{dec_lt}
use native.Mathlib.Omega.{arith}
use lib.ListN.{length}
use borrow.Author.Tests.{not-true}
use Rattle.answer.specs.Answer.{refusal}
use Rattle.counting.proofs.Bools.{clash}
use Rattle.counting.proofs.Search.{some_none, none_some, first_is, first_below}
use Rattle.bundle.specs.Record.{head_bytes, broken_row, kind_at, next_record, is_record, body}
use Rattle.bundle.specs.Bundle.{cell_section, edge_section, look_section, end_section, section_at, is_of, record_start, run, cells, edges_from, edges, looks_from, looks, edge_at, look_at, stop, same_pair, is_for, is_stray, first_stray, stray_row, bundle_answer}
use Rattle.bundle.specs.claims.Fault.{AllWhole, section_by, Fault, broken, disordered, trailing, endless, Stray}
use Rattle.bundle.specs.claims.Claims.{LowestFault, NoFault, LowestStray, NoStray, StrayRefused}
use Rattle.bundle.proofs.OneRecord.{KindCase, cell, edge, wide, look, end, kind_cases, apart, stands, next_ge}
use Rattle.bundle.proofs.Runs.{of_record, of_section, is-of, run_all, run_stop, run_inside}
use Rattle.bundle.proofs.Answers.{Case, unended, more, stray, whole, case_of, bundled, answer_open, answer_after, answer_stray, answer_lists, accepted}

start_add : (s : List ℕ) (p k j : ℕ) → record_start s (record_start s p k) j ≡ record_start s p (k + j)
unfolding record_start
start_add s p k zero = ap (record_start s p) (sym (add-zero k))
start_add s p k (suc j) = let e : suc (k + j) ≡ k + suc j = omega arith in ap (next_record s) (start_add s p k j) ∙ ap (record_start s p) e

-- the cells, edges and looks together
abbrev records : List ℕ → ℕ
records s = cells s + edges s + looks s

module _ (s : List ℕ) where
  -- whole records start ever later
  grows : (d m : ℕ) → AllWhole s (m + d) → record_start s 0 m ≤ record_start s 0 (m + d)
  unfolding record_start
  grows zero m w = omega (arith, ap (record_start s 0) (add-zero m))
  grows (suc d) m w =
      let e : m + suc d ≡ suc (m + d) = omega arith in
      let h = grows d m (λ j l. w j (omega arith)) in
      let n = next_ge s (record_start s 0 (m + d)) (w (m + d) (omega arith)) in
      omega (arith, ap (record_start s 0) e, h, n)

  later : (m k : ℕ) → m ≤ k → AllWhole s k → record_start s 0 m ≤ record_start s 0 k
  later m k h w =
      let e : m + (k - m) ≡ k = omega arith in
      omega (arith, grows (k - m) m (λ j l. w j (omega arith)), ap (record_start s 0) e)

  inside : (k : ℕ) → is_record s (record_start s 0 k) ≡ true → record_start s 0 k + head_bytes ≤ length s
  inside k h = (stands s (record_start s 0 k) h).inside

  -- the first m records are whole and in order, and no end stands before the last of them
  record Clean (m : ℕ) : Type 0 where
    whole : AllWhole s m
    sorted : (j k : ℕ) → j < k → k < m → section_by s j ≤ section_by s k
    unclosed : (j : ℕ) → suc j < m → section_by s j ≡ end_section → ⊥

  module _ (m : ℕ) (c : Clean m) where
    none_below : (q : ℕ) → q < record_start s 0 m → Fault s q → ⊥
    none_below q l (broken k e w b f) =
        elim (dec_lt k m) [ yes h ↦ clash (ap (is_record s) e ∙ c.whole k h) f | no h ↦ let g = later m k (omega arith) w in omega arith ]
    none_below q l (disordered j k e w b f) =
        elim (dec_lt k m) [ yes h ↦ let g = c.sorted j k b h in omega arith | no h ↦ let g = later m k (omega arith) (λ i r. w i (omega arith)) in omega arith ]
    none_below q l (trailing k e w f b) =
        elim (dec_lt (suc k) m) [ yes h ↦ c.unclosed k h f | no h ↦ let g = later m (suc k) (omega arith) w in omega arith ]
    none_below q l (endless k e w b f) =
        elim (dec_lt k m) [ yes h ↦ let g = inside k (c.whole k h) in omega arith | no h ↦ let g = later m k (omega arith) w in omega arith ]

  -- the records of the three sections, by their numbers
  section_record : (section from n first : ℕ) → n ≡ run s section from → from ≡ record_start s 0 first → (j : ℕ) → first ≤ j → j < first + n → is_of s section (record_start s 0 j) ≡ true
  section_record section from n first r b j l h =
      let e : first + (j - first) ≡ j = omega arith in
      sym (ap (is_of s section) (ap (λ p. record_start s p (j - first)) b ∙ start_add s 0 first (j - first) ∙ ap (record_start s 0) e)) ∙ run_all s from section (j - first) (omega (arith, r))

  looks_start : looks_from s ≡ record_start s 0 (cells s + edges s)
  unfolding looks_from edges_from
  looks_start = start_add s 0 (cells s) (edges s)

  cell_record : (j : ℕ) → j < cells s → is_of s cell_section (record_start s 0 j) ≡ true
  unfolding cells record_start
  cell_record j h = section_record cell_section 0 (cells s) 0 refl refl j (omega arith) (omega arith)

  edge_record : (j : ℕ) → cells s ≤ j → j < cells s + edges s → is_of s edge_section (record_start s 0 j) ≡ true
  unfolding edges_from edges
  edge_record j l h = section_record edge_section (edges_from s) (edges s) (cells s) refl refl j l h

  look_record : (j : ℕ) → cells s + edges s ≤ j → j < records s → is_of s look_section (record_start s 0 j) ≡ true
  unfolding looks
  look_record j l h = section_record look_section (looks_from s) (looks s) (cells s + edges s) refl looks_start j l h

  pub stop_start : stop s ≡ record_start s 0 (records s)
  unfolding stop
  stop_start = ap (λ p. record_start s p (looks s)) looks_start ∙ start_add s 0 (cells s + edges s) (looks s)

  edges_inside : edges_from s ≤ length s
  unfolding edges_from cells
  edges_inside = run_inside s 0 cell_section (cells s) (omega arith) (le_refl (cells s))

  looks_inside : looks_from s ≤ length s
  unfolding looks_from edges
  looks_inside = run_inside s (edges_from s) edge_section (edges s) edges_inside (le_refl (edges s))

  pub stop_inside : stop s ≤ length s
  unfolding stop looks
  stop_inside = run_inside s (looks_from s) look_section (looks s) looks_inside (le_refl (looks s))

  -- before the stop a record is whole, and its section goes by its number
  record Before (j : ℕ) : Type 0 where
    is : is_record s (record_start s 0 j) ≡ true
    cell_low : cell_section ≤ section_by s j
    edge_low : cells s ≤ j → edge_section ≤ section_by s j
    look_low : cells s + edges s ≤ j → look_section ≤ section_by s j
    cell_high : j < cells s → section_by s j ≤ cell_section
    edge_high : j < cells s + edges s → section_by s j ≤ edge_section
    look_high : section_by s j ≤ look_section

  before : (j section : ℕ) → is_of s section (record_start s 0 j) ≡ true → cell_section ≤ section → (cells s ≤ j → edge_section ≤ section) → (cells s + edges s ≤ j → look_section ≤ section)
      → (j < cells s → section ≤ cell_section) → (j < cells s + edges s → section ≤ edge_section) → section ≤ look_section → Before j
  before j section o a b c d e f =
      let q = of_section s section _ o in
      record {
        is = of_record s section _ o;
        cell_low = omega (arith, q, a);
        edge_low = λ h. omega (arith, q, b h);
        look_low = λ h. omega (arith, q, c h);
        cell_high = λ h. omega (arith, q, d h);
        edge_high = λ h. omega (arith, q, e h);
        look_high = omega (arith, q, f);
      }

  kind : (j : ℕ) → j < records s → Before j
  kind j h =
      elim (dec_lt j (cells s)) [
        | yes l ↦ before j cell_section (cell_record j l) (omega arith) (λ b. omega arith) (λ b. omega arith) (λ b. omega arith) (λ b. omega arith) (omega arith)
        | no l ↦
            elim (dec_lt j (cells s + edges s)) [
              | yes m ↦ before j edge_section (edge_record j (omega arith) m) (omega arith) (λ b. omega arith) (λ b. omega arith) (λ b. omega arith) (λ b. omega arith) (omega arith)
              | no m ↦ before j look_section (look_record j (omega arith) h) (omega arith) (λ b. omega arith) (λ b. omega arith) (λ b. omega arith) (λ b. omega arith) (omega arith)
            ]
      ]

  not_end : (j : ℕ) → j < records s → section_by s j ≡ end_section → ⊥
  not_end j h e = omega (arith, (kind j h).look_high, e)

  in_order : (j k : ℕ) → j < k → k < records s → section_by s j ≤ section_by s k
  in_order j k l h =
      let a = kind j (omega arith) in
      let b = kind k h in
      elim (dec_lt j (cells s)) [
        | yes c ↦ omega (arith, a.cell_high c, b.cell_low)
        | no c ↦
            elim (dec_lt j (cells s + edges s)) [
              | yes e ↦ omega (arith, a.edge_high e, b.edge_low (omega arith))
              | no e ↦ omega (arith, a.look_high, b.look_low (omega arith))
            ]
      ]

  clean : Clean (records s)
  clean = record { whole = λ j h. (kind j h).is; sorted = in_order; unclosed = λ j h e. not_end j (omega arith) e }

  module _ (h : is_of s end_section (stop s) ≡ true) where
    end-record : is_of s end_section (record_start s 0 (records s)) ≡ true
    end-record = ap (is_of s end_section) (sym stop_start) ∙ h

    clean_end : Clean (suc (records s))
    clean_end =
        record {
          whole = λ j l. elim (dec_lt j (records s)) [ yes b ↦ (kind j b).is | no b ↦ let e : j ≡ records s = omega arith in ap (λ i. is_record s (record_start s 0 i)) e ∙ of_record s end_section _ end-record ];
          sorted = λ j k l b.
              elim (dec_lt k (records s)) [
                | yes r ↦ in_order j k l r
                | no r ↦
                    let e : k ≡ records s = omega arith in
                    let f : section_by s k ≡ end_section = ap (section_by s) e ∙ of_section s end_section _ end-record in
                    omega (arith, (kind j (omega arith)).look_high, f)
              ];
          unclosed = λ j l e. not_end j (omega arith) e;
        }

    -- bytes after the end
    tail_fault : (next_record s (stop s) ≡ length s → ⊥) → Fault s (next_record s (stop s)) × ((q : ℕ) → q < next_record s (stop s) → Fault s q → ⊥)
    unfolding record_start
    tail_fault n =
        let e : next_record s (stop s) ≡ record_start s 0 (suc (records s)) = ap (next_record s) stop_start in
        let f = (stands s (stop s) (of_record s end_section (stop s) h)).fits in
        let l : next_record s (stop s) < length s = omega (arith, f, n) in
        (trailing (records s) e clean_end.whole (of_section s end_section _ end-record) l, λ q b. none_below (suc (records s)) clean_end q (omega arith))

    no_fault : next_record s (stop s) ≡ length s → (q : ℕ) → Fault s q → ⊥
    unfolding record_start
    no_fault n q x = go x
      where
        e : record_start s 0 (suc (records s)) ≡ length s
        e = ap (next_record s) (sym stop_start) ∙ n

        below : q < length s → Fault s q → ⊥
        below l y = none_below (suc (records s)) clean_end q (omega (arith, e, l)) y

        go : Fault s q → ⊥
        go (broken k p w b f) = below b (broken k p w b f)
        go (disordered j k p w b f) = let g = inside k (w k (omega arith)) in below (omega arith) (disordered j k p w b f)
        go (trailing k p w f b) = below b (trailing k p w f b)
        go (endless k p w b f) =
            elim (dec_lt (records s) k) [
              | yes l ↦ f (records s) l (of_section s end_section _ end-record)
              | no l ↦ let g = inside k (clean_end.whole k (omega arith)) in omega arith
            ]

  no_more_cells : is_of s cell_section (edges_from s) ≡ false
  unfolding edges_from cells
  no_more_cells = run_stop s 0 cell_section

  no_more_edges : is_of s edge_section (looks_from s) ≡ false
  unfolding looks_from edges
  no_more_edges = run_stop s (edges_from s) edge_section

  no_more_looks : is_of s look_section (stop s) ≡ false
  unfolding stop looks
  no_more_looks = run_stop s (looks_from s) look_section

  no_looks : looks s ≡ 0 → stop s ≡ looks_from s
  unfolding stop record_start
  no_looks e = ap (record_start s (looks_from s)) e

  no_edges : edges s ≡ 0 → looks_from s ≡ edges_from s
  unfolding looks_from record_start
  no_edges e = ap (record_start s (edges_from s)) e

  -- where the sections stop, a record whose section is below that of the one before it
  module _ (w : is_record s (stop s) ≡ true) where
    late_fault : (j : ℕ) → records s ≡ suc j → section_at s (stop s) < section_by s j → Fault s (stop s)
    late_fault j q l =
        let n = records s in
        let g : section_by s n ≡ section_at s (stop s) = ap (section_at s) (sym stop_start) in
        let last : is_record s (record_start s 0 n) ≡ true = ap (is_record s) (sym stop_start) ∙ w in
        disordered j n stop_start
        (λ i h. elim (dec_lt i n) [ yes r ↦ (kind i r).is | no r ↦ let e : i ≡ n = omega arith in ap (λ k. is_record s (record_start s 0 k)) e ∙ last ]) (omega arith) (omega (arith, l, g))

    cell_fault : section_at s (stop s) ≡ cell_section → Fault s (stop s)
    cell_fault k =
        elim (dec_lt 0 (edges s + looks s)) [
          | yes l ↦ let j = records s - 1 in late_fault j (omega arith) (omega (arith, k, (kind j (omega arith)).edge_low (omega arith)))
          | no l ↦ clash (is-of s cell_section (stop s) w k) (ap (is_of s cell_section) (no_looks (omega arith) ∙ no_edges (omega arith)) ∙ no_more_cells)
        ]

    edge_fault : section_at s (stop s) ≡ edge_section → Fault s (stop s)
    edge_fault k =
        elim (dec_lt 0 (looks s)) [
          | yes l ↦ let j = records s - 1 in late_fault j (omega arith) (omega (arith, k, (kind j (omega arith)).look_low (omega arith)))
          | no l ↦ clash (is-of s edge_section (stop s) w k) (ap (is_of s edge_section) (no_looks (omega arith)) ∙ no_more_edges)
        ]

  stop_fault : is_of s end_section (stop s) ≡ false → Fault s (stop s)
  stop_fault h = go (is_record s (stop s)) refl
    where
      go : (b : Bool) → is_record s (stop s) ≡ b → Fault s (stop s)
      go true w = known (section_at s (stop s)) refl (kind_cases _ (stands s (stop s) w).known)
        where
          known : (section : ℕ) → section_at s (stop s) ≡ section → KindCase (kind_at s (stop s)) section → Fault s (stop s)
          known _ e (cell _) = cell_fault w e
          known _ e (edge _) = edge_fault w e
          known _ e (wide _) = edge_fault w e
          known _ e (look _) = clash (is-of s look_section (stop s) w e) no_more_looks
          known _ e (end _) = clash (is-of s end_section (stop s) w e) h
      go false w =
          elim (dec_lt (stop s) (length s)) [
            | yes l ↦ broken (records s) stop_start clean.whole l w
            | no l ↦ let i = stop_inside in endless (records s) stop_start clean.whole (omega arith) (λ j b e. not_end j b e)
          ]

  abbrev Low : ℕ → Type 0
  Low place = Fault s place × ((q : ℕ) → q < place → Fault s q → ⊥)

  same_place : (p q : ℕ) → bundle_answer s ≡ refusal broken_row p → bundle_answer s ≡ refusal broken_row q → q ≡ p
  same_place p q a b = cc

  other_row : {A : Type 0} (p q : ℕ) → bundle_answer s ≡ refusal broken_row p → bundle_answer s ≡ refusal stray_row q → A
  other_row p q a b = let z : ◌≡◌ {A = ℕ} broken_row stray_row = cc in absurd (omega arith)

  lowest : (place : ℕ) → bundle_answer s ≡ refusal broken_row place → Low place
  lowest place a = go (case_of s)
    where
      go : Case s → Low place
      go (unended h) =
          let e = stop_start in
          subst Low (same_place place (stop s) a (answer_open s h)) (stop_fault h, λ q l. none_below (records s) clean q (omega (arith, e, l)))
      go (more h n) = subst Low (same_place place (next_record s (stop s)) a (answer_after s h n)) (tail_fault h n)
      go (stray h n l) = other_row _ _ a (answer_stray s h n l)
      go (whole h n l) = apart _ _ _ _ (sym (answer_lists s h n l) ∙ a)

  -- row 22
  stray_at : (k : ℕ) → k < looks s → is_stray s k ≡ true → Stray s (look_at s k)
  unfolding is_stray is_for
  stray_at k l h = record { look = k; listed = l; begins = refl; unmet = λ n b. some_none _ (edges s) (not-true _ h) n b }

  stray_is : (q : ℕ) (x : Stray s q) → is_stray s x.look ≡ true
  unfolding is_stray is_for
  stray_is q x = ap not (none_some _ (edges s) (λ n b. ap (λ p. same_pair (body s (edge_at s n)) (body s p)) (sym x.begins) ∙ x.unmet n b))

  looks_rise : (m k : ℕ) → m ≤ k → k < looks s → look_at s m ≤ look_at s k
  unfolding looks
  looks_rise m k h l =
      let at : (i : ℕ) → look_at s i ≡ record_start s 0 (cells s + edges s + i) = λ i. ap (λ p. record_start s p i) looks_start ∙ start_add s 0 (cells s + edges s) i in
      omega (arith, at m, at k, later (cells s + edges s + m) (cells s + edges s + k) (omega arith) (λ j b. clean.whole j (omega arith)))

  abbrev LowStray : ℕ → Type 0
  LowStray place = Stray s place × ((q : ℕ) → q < place → Stray s q → ⊥)

  stray_low : first_stray s < looks s → LowStray (look_at s (first_stray s))
  unfolding first_stray
  stray_low l = (
    stray_at _ l (first_is (is_stray s) (looks s) l),
    λ q b x. elim (dec_lt x.look (first_stray s)) [
      | yes r ↦ clash (stray_is q x) (first_below (is_stray s) (looks s) x.look r)
      | no r ↦ omega (arith, looks_rise (first_stray s) x.look (omega arith) x.listed, x.begins, b)
    ],
  )

  same_stray : (p q : ℕ) → bundle_answer s ≡ refusal stray_row p → bundle_answer s ≡ refusal stray_row q → q ≡ p
  same_stray p q a b = cc

  lowest_look : (place : ℕ) → bundle_answer s ≡ refusal stray_row place → ((q : ℕ) → Fault s q → ⊥) × LowStray place
  lowest_look place a = go (case_of s)
    where
      go : Case s → ((q : ℕ) → Fault s q → ⊥) × LowStray place
      go (unended h) = other_row _ _ (answer_open s h) a
      go (more h n) = other_row _ _ (answer_after s h n) a
      go (stray h n l) = (no_fault h n, subst LowStray (same_stray place (look_at s (first_stray s)) a (answer_stray s h n l)) (stray_low l))
      go (whole h n l) = apart _ _ _ _ (sym (answer_lists s h n l) ∙ a)

  none_stray : looks s ≤ first_stray s → (q : ℕ) → Stray s q → ⊥
  unfolding first_stray
  none_stray h q x = clash (stray_is q x) (first_below (is_stray s) (looks s) x.look (omega (arith, h, x.listed)))

  refused_stray : (q : ℕ) → Stray s q → ((p : ℕ) → Fault s p → ⊥) → (place : ℕ) × (bundle_answer s ≡ refusal stray_row place)
  refused_stray q x none = go (case_of s)
    where
      go : Case s → (place : ℕ) × (bundle_answer s ≡ refusal stray_row place)
      go (unended h) = absurd (none _ (stop_fault h))
      go (more h n) = absurd (none _ (tail_fault h n).0)
      go (stray h n l) = (look_at s (first_stray s), answer_stray s h n l)
      go (whole h n l) = absurd (none_stray l q x)

pub lowest_fault : LowestFault
lowest_fault s place h = lowest s place h

pub no_fault_accepted : NoFault
no_fault_accepted s c e h q x = let w = bundled s (accepted s c e (sym h)) in no_fault s w.ended w.nothing q x

pub lowest_stray : LowestStray
lowest_stray s place h = lowest_look s place h

pub no_stray_accepted : NoStray
no_stray_accepted s c e h q x = none_stray s (bundled s (accepted s c e (sym h))).met q x

pub stray_refused : StrayRefused
stray_refused s q x none = refused_stray s q x none
