use Prim.Native.Nat.{ℕ, ◌+◌, ◌*◌, ◌≤◌, ◌<◌}
use mathlib.Core.Path.{◌≡◌, sym, ap, ◌∙◌}
use mathlib.Core.Bool.{true}
use mathlib.Core.List.{[], ◌∷◌}
use native.Mathlib.Omega.{arith}
use lib.ListN.{length}
use Rattle.answer.specs.Answer.{result_of, refusal}
use Rattle.answer.specs.Refusal.{refusal_numbers}
use Rattle.counting.proofs.Search.{found_first, found_none}
use Rattle.bundle.specs.Record.{broken_row, next_record}
use Rattle.bundle.specs.work.Record.{look_size}
use Rattle.bundle.specs.Bundle.{end_section, is_of, cells, looks, look_at, stop, is_stray, first_stray, stray_row}
use Rattle.bundle.proofs.Runs.{some_next, none_next}
use Rattle.bundle.proofs.Answers.{answer_open, answer_after, answer_stray, answer_lists}
use Rattle.bundle.proofs.Looked.{look_place, look_within}
use Rattle.bundle.proofs.reader.scan.Goals as goal
use Rattle.bundle.proofs.reader.scan.Goals.{In-Some, In-Some-first_stray}

-- an end stands where the sections stop
ended : (c : In-Some) → (is_of c.args.bytes.now end_section (stop c.args.bytes.now) ≡ true) × (c.in-Some.next ≡ next_record c.args.bytes.now (stop c.args.bytes.now))
ended c = rw c.layout_of.ensures.stops at (some_next c.args.bytes.now end_section _ _ c.in-Some.ensures)

-- a look is for no edge
abbrev Stray : Type 0
Stray = In-Some-first_stray

lowest : (c : Stray) → (c.in-Some-first_stray.k ≡ first_stray c.args.bytes.now) × (first_stray c.args.bytes.now < looks c.args.bytes.now)
unfolding first_stray
lowest c = let w = found_first (is_stray c.args.bytes.now) (looks c.args.bytes.now) _ c.in-Some-first_stray.ensures in (w.0, omega (arith, w.0, w.1))

place : (c : Stray) → c.layout_of.result.edges.stop + look_size * c.in-Some-first_stray.k ≡ look_at c.args.bytes.now (first_stray c.args.bytes.now)
place c = let s = c.args.bytes.now in let w = lowest c in omega (arith, look_place s (first_stray s) (omega (arith, w.1)), c.layout_of.ensures.looks_begin, w.0)

within : (c : Stray) → c.layout_of.result.edges.stop + look_size * c.in-Some-first_stray.k + look_size ≤ length c.args.bytes.now
within c =
    let s = c.args.bytes.now in
    let w = lowest c in
    omega (arith, place c, look_place s (first_stray s) (omega (arith, w.1)), look_within s (first_stray s) w.1)

pub returns-in_default : goal.returns-in_default
returns-in_default c =
    let s = c.args.bytes.now in
    let e = c.layout_of.ensures.stops in
    ap refusal_numbers c.at.ensures ∙ ap (refusal broken_row) e ∙ sym (answer_open s (rw e at (none_next s end_section _ c.in_default.ensures)))

pub returns-then-next-bytes : goal.returns-then-next-bytes
returns-then-next-bytes c =
    let r = ended (goal.at.returns-then-next-bytes c).In-Some in
    ap refusal_numbers c.at-then-next-bytes.ensures ∙ ap (refusal broken_row) r.1 ∙ sym (answer_after c.args.bytes.now r.0 (λ h. omega (arith, c.if-next-bytes.true, r.1, h)))

pub invariant_of-looked : goal.invariant_of-looked
invariant_of-looked c = let w = c.layout_of.ensures in
    record { lent = record { bytes = λ i. omega (arith, c.type_inv.bytes i); listed = record { begin = w.edges_begin; all = w.edges_are }; begin = w.looks_begin; all = w.looks_are } }

pub overflow_mul-k : goal.overflow_mul-k
overflow_mul-k c = omega (arith, within (goal.at.overflow_mul-k c).In-Some-first_stray)

pub overflow_add-edges : goal.overflow_add-edges
overflow_add-edges c = omega (arith, within (goal.at.overflow_add-edges c).In-Some-first_stray)

pub returns-in-Some-first_stray : goal.returns-in-Some-first_stray
returns-in-Some-first_stray c =
    let r = ended (goal.at.returns-in-Some-first_stray c).In-Some in
    let p = (goal.at.returns-in-Some-first_stray c).In-Some-first_stray in
    ap refusal_numbers c.at-in-Some-first_stray.ensures ∙ ap (refusal stray_row) (place p) ∙ sym (answer_stray c.args.bytes.now r.0 (sym r.1 ∙ c.if-next-bytes.false) (lowest p).1)

pub returns : goal.returns
unfolding first_stray
returns c =
    let s = c.args.bytes.now in
    let r = ended (goal.at.returns c).In-Some in
    let w = c.layout_of.ensures in
    ap (λ (x : ℕ). result_of (x ∷ c.layout_of.result.edges.count ∷ [])) w.cells_are
    ∙ ap (λ (x : ℕ). result_of (cells s ∷ x ∷ [])) w.edges_are
    ∙ sym (answer_lists s r.0 (sym r.1 ∙ c.if-next-bytes.false) (omega (arith, found_none (is_stray s) (looks s) c.in_default-first_stray.ensures)))
