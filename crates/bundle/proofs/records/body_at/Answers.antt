use Prim.Native.Nat.{ℕ, ◌+◌, ◌-◌, ◌≤◌}
use mathlib.Core.Path.{refl, sym, ap, ◌∙◌}
use native.Mathlib.Nat.{zero-add}
use native.Mathlib.Omega.{arith}
use lib.ListN.{length, take, drop}
use Rattle.bundle.specs.Record.{head_bytes, kind_number}
use Rattle.bundle.proofs.OneRecord.{Found, found, not_found, stands, next_ge, body_whole, body_none}
use Rattle.bundle.proofs.records.body_at.Goals as goal
use Rattle.bundle.proofs.records.body_at.Goals.{In-Ok}

-- what the record reader told
told : (c : In-Ok) → Found c.args.bytes.now c.args.start (kind_number c.in-Ok.record.kind) c.in-Ok.record.next
told c = found _ _ _ _ c.in-Ok.ensures

within : (c : In-Ok) → (c.args.start + head_bytes ≤ c.in-Ok.record.next) × (c.in-Ok.record.next ≤ length c.args.bytes.now)
within c =
    let t = told c in
    (omega (arith, t.next_is, next_ge c.args.bytes.now c.args.start t.whole), omega (arith, t.next_is, (stands c.args.bytes.now c.args.start t.whole).fits))

pub overflow_add-result : goal.overflow_add-result
overflow_add-result c = omega (arith, within (goal.at.overflow_add-result c).In-Ok)

pub slice_bounds-result-count : goal.slice_bounds-result-count
slice_bounds-result-count c = omega (arith, within (goal.at.slice_bounds-result-count c).In-Ok)

pub slice_bounds-result-start : goal.slice_bounds-result-start
slice_bounds-result-start c = omega (arith, within (goal.at.slice_bounds-result-start c).In-Ok)

pub slice_bounds-result-end : goal.slice_bounds-result-end
slice_bounds-result-end c = omega (arith, within (goal.at.slice_bounds-result-end c).In-Ok)

pub returns-in-Ok : goal.returns-in-Ok
returns-in-Ok c =
    let t = told (goal.at.returns-in-Ok c).In-Ok in
    let s = c.args.bytes.now in
    let from = c.args.start + head_bytes in
    let e = body_whole s c.args.start t.whole in
    record { contents = ap (λ (n : ℕ). take (n - from) (drop from s)) t.next_is ∙ e.0; place = (refl, ap (λ (n : ℕ). n + c.args.bytes.ref_ptr.1) e.1) }

pub returns-in-Err : goal.returns-in-Err
returns-in-Err c =
    let a = c.args in
    let e = body_none a.bytes.now a.start (not_found a.bytes.now a.start _ _ c.in-Err.ensures) in
    record { contents = e.0; place = (refl, sym (zero-add a.bytes.ref_ptr.1) ∙ ap (λ (n : ℕ). n + a.bytes.ref_ptr.1) e.1) }
