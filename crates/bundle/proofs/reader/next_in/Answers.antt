use Rattle.std.proofs.Common.{◌≡◌, ap, sym, ◌∙◌, rules}
use denote.Enum.Bare.{same_true, same_false}
use Rattle.bundle.specs.contracts.kinds.Section.{the_type}
use Rattle.bundle.specs.Bundle.{section_of}
use Rattle.bundle.specs.work.Kinds.{section_number}
use Rattle.bundle.proofs.OneRecord.{found, not_found, section_tells}
use Rattle.bundle.proofs.Runs.{next_some, next_none, is-of, none_of, other_of}
use Rattle.bundle.proofs.reader.next_in.Goals as goal

pub returns-in-Ok : goal.returns-in-Ok
returns-in-Ok c =
    let t = found c.args.bytes.now c.args.at _ _ c.in-Ok.ensures in
    let e : c.section.result ≡ c.args.section = same_true the_type (search rules) _ _ (sym c.if-eq.ensures) in
    rw t.next_is (next_some _ _ _ (is-of _ _ _ t.whole (ap section_of (sym t.kind_is) ∙ sym c.section.ensures ∙ ap section_number e)))

pub returns-in_default : goal.returns-in_default
returns-in_default c =
    let t = found c.args.bytes.now c.args.at _ _ c.in-Ok.ensures in
    next_none _ _ _ (other_of _ _ _ (λ h. same_false the_type c.section.result c.args.section (sym c.if-eq.ensures) (section_tells _ _ (c.section.ensures ∙ ap section_of t.kind_is ∙ h))))

pub returns-in_default-2 : goal.returns-in_default-2
returns-in_default-2 c = next_none _ _ _ (none_of _ _ _ (not_found _ _ _ _ c.in_default.ensures))
