use Rattle.std.proofs.Common.{◌≡◌, ap, sym, ◌∙◌}
use Rattle.answer.specs.Refusal.{refusal_numbers}
use Rattle.bundle.specs.Record.{word, kind_number}
use Prim.Native.Nat.{◌+◌}
use mathlib.Core.Path.{refl}
use Rattle.bundle.proofs.OneRecord.{answer_outside, case_short, case_unknown, case_wrong, case_cut, wide_inside, case_small, case_whole, kind_known}
use Rattle.bundle.proofs.records.record_at.Goals as goal
use Rattle.bundle.proofs.records.record_at.Goals.{In-Ok}

-- the kind's number stands after the length
kind_read : (c : In-Ok) → kind_number c.in-Ok.kind ≡ word c.args.bytes.now (c.args.start + 2)
kind_read c = c.in-Ok.ensures ∙ c.word_at.ensures

pub returns-then-bytes-start : goal.returns-then-bytes-start
returns-then-bytes-start c = ap refusal_numbers c.at.ensures ∙ sym (answer_outside _ _ c.if-bytes-start.true)

pub returns-then-bytes-start-lt-HEAD_BYTES : goal.returns-then-bytes-start-lt-HEAD_BYTES
returns-then-bytes-start-lt-HEAD_BYTES c = ap refusal_numbers c.at-2.ensures ∙ case_short _ _ c.if-bytes-start.false c.if-bytes-start-lt-HEAD_BYTES.true

pub returns-in_default : goal.returns-in_default
returns-in_default c = ap refusal_numbers c.at-2.ensures ∙ case_unknown _ _ c.if-bytes-start.false _ _ _ c.word_at-length.ensures c.word_at.ensures refl c.in_default.ensures.1

pub returns-then-length : goal.returns-then-length
returns-then-length c =
    ap refusal_numbers c.at-2.ensures
    ∙ case_wrong _ _ c.if-bytes-start.false _ _ _ c.word_at-length.ensures (kind_read (goal.at.returns-then-length c).In-Ok) c.length.ensures c.if-length.true

pub returns-then-bytes-start-2 : goal.returns-then-bytes-start-2
returns-then-bytes-start-2 c =
    ap refusal_numbers c.at-2.ensures
    ∙ case_cut _ _ c.if-bytes-start.false _ _ _ c.word_at-length.ensures (kind_read (goal.at.returns-then-bytes-start-2 c).In-Ok) c.length.ensures c.if-bytes-start-2.true

pub may_have-requires : goal.may_have-requires
may_have-requires c = wide_inside c.args.bytes.now c.args.start c.if-bytes-start.false _ _ _ c.word_at-length.ensures (kind_read (goal.at.may_have-requires c).In-Ok) c.length.ensures c.if-length.false c.if-bytes-start-2.false

pub returns-then-not-may_have : goal.returns-then-not-may_have
returns-then-not-may_have c =
    ap refusal_numbers c.at-2.ensures
    ∙ case_small _ _ c.if-bytes-start.false _ _ _ c.word_at-length.ensures (kind_read (goal.at.returns-then-not-may_have c).In-Ok) c.length.ensures _ c.may_have.ensures c.if-not-may_have.true

pub returns : goal.returns
returns c =
    case_whole _ _ c.if-bytes-start.false _ _ _ c.word_at-length.ensures (kind_read (goal.at.returns c).In-Ok) c.length.ensures _ c.may_have.ensures c.if-bytes-start-lt-HEAD_BYTES.false (λ z. kind_known c.in-Ok.kind (sym c.length.ensures ∙ z)) c.if-length.false c.if-bytes-start-2.false c.if-not-may_have.false
