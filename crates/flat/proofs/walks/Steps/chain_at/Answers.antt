use mathlib.Core.Path.{◌∙◌, refl, sym}
use native.Mathlib.Omega.{arith}
use Rattle.flat.proofs.Walked.{closed_finds, none_finds, open_finds, ran_entry, ran_lt, ran_short, turns}
use Rattle.flat.proofs.walks.Steps.chain_at.Goals as goal

pub run-w-requires : goal.run-w-requires
run-w-requires c = omega (arith, c.requires.p_lt_n)

pub overflow_add-result : goal.overflow_add-result
overflow_add-result c = let c-run = c.run-w in
    let c-pre = c.requires in
    omega (arith, ran_short _ _ (turns c.args.self.table) c-run.ensures, c.args.self.table.few)

pub returns-then-self-a : goal.returns-then-self-a
returns-then-self-a c = let c-run = c.run-w in
    let c-pre = c.requires in
    closed_finds _ _ (turns c.args.self.table) _ c-pre.p_lt_n c-pre.fresh c-run.ensures (ran_entry c.args.self.table c-run.ensures refl ∙ c.if-self-a.true)

pub run-v-requires : goal.run-v-requires
run-v-requires c = omega (arith, c.requires.p_lt_n)

pub lower_end-start-requires : goal.lower_end-start-requires
lower_end-start-requires c = let c-run = c.run-w in
    let c-pre = c.requires in
    record { a_bound = omega (arith, ran_lt _ _ c-run.ensures, c.args.self.table.few); b_bound = omega (arith, ran_lt _ _ c.run-v.ensures, c.args.self.table.few) }

pub overflow_add-k : goal.overflow_add-k
overflow_add-k c = omega (arith, ran_short _ _ (turns c.args.self.table) c.run-w.ensures, ran_short _ _ (turns c.args.self.table) c.run-v.ensures, c.args.self.table.few)

pub overflow_add-result-2 : goal.overflow_add-result-2
overflow_add-result-2 c = omega (arith, ran_short _ _ (turns c.args.self.table) c.run-w.ensures, ran_short _ _ (turns c.args.self.table) c.run-v.ensures, c.args.self.table.few)

pub overflow_add-result-3 : goal.overflow_add-result-3
overflow_add-result-3 c = omega (arith, ran_short _ _ (turns c.args.self.table) c.run-w.ensures, ran_short _ _ (turns c.args.self.table) c.run-v.ensures, c.args.self.table.few)

pub returns-then-k-l-eq0 : goal.returns-then-k-l-eq0
returns-then-k-l-eq0 c = none_finds _ _ (turns c.args.self.table) _ c.requires.p_lt_n c.requires.fresh c.run-w.ensures c.run-v.ensures (λ z. c.if-self-a.false (sym (ran_entry c.args.self.table c.run-w.ensures refl) ∙ z)) c.if-k-l-eq0.true

pub returns : goal.returns
returns c = rw c.lower_end-start.ensures (open_finds _ _ (turns c.args.self.table) _ c.requires.p_lt_n c.requires.fresh c.run-w.ensures c.run-v.ensures (λ z. c.if-self-a.false (sym (ran_entry c.args.self.table c.run-w.ensures refl) ∙ z)) c.if-k-l-eq0.false)
