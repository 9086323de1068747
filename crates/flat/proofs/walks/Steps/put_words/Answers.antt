use Prim.Native.Nat.{ℕ}
use mathlib.Core.Path.{◌∙◌}
use native.Mathlib.Omega.{arith}
use lib.ListN.{length-replicate}
use Rattle.counting.proofs.Tables.{zeros}
use Rattle.flat.specs.Chain.{all_chain_words}
use Rattle.flat.proofs.Walked.{finds_none, finds_runs, finds_short, swept_fresh, swept_none, writing_all, writing_at, writing_marked, writing_more, writing_none, writing_none_at, writing_room, turns}
use Rattle.flat.proofs.walks.Steps.put_words.Goals as goal

pub loop-p-init : goal.loop-p-init
unfolding all_chain_words
loop-p-init c = let c-pre = c.requires in
    (length-replicate {A = ℕ} 65535 0, writing_none _ _ _ _ c.requires (swept_none _ _ _ (omega (arith, length-replicate {A = ℕ} 65535 0, c.args.self.table.few)) (zeros 65535)))

pub loop-p-preserved-then-marks-p-ne0 : goal.loop-p-preserved-then-marks-p-ne0
loop-p-preserved-then-marks-p-ne0 c = let c-loop = c.loop-p in
    let c-pre = c.requires in
    (c-loop.invariant.0, writing_marked _ _ (turns c.args.self.table) c-loop.invariant.1 (omega arith) c.if-marks-p-ne0.true)

pub chain_at-requires : goal.chain_at-requires
chain_at-requires c = let c-pre = c.requires in record { p_lt_n = omega arith; fresh = swept_fresh _ _ (turns c.args.self.table) (omega arith) c.loop-p.invariant.1.swept c.if-marks-p-ne0.false }

pub loop-p-preserved-in_default : goal.loop-p-preserved-in_default
loop-p-preserved-in_default c = let c-loop = c.loop-p in
    (c-loop.invariant.0, writing_none_at _ _ (turns c.args.self.table) c-loop.invariant.1 (omega arith) (finds_none _ _ (turns c.args.self.table) _ c.chain_at.ensures c.in_default.is))

pub put_chain-at-requires : goal.put_chain-at-requires
put_chain-at-requires c = let found = c.in-Some.ensures in
    let c-loop = c.loop-p in
    let c-pre = c.requires in
    record { darts_from = finds_runs _ _ (turns c.args.self.table) (omega arith) found; size_le_n = finds_short _ _ (turns c.args.self.table) (omega arith) found; start_in_bounds = writing_room _ _ (turns c.args.self.table) c-loop.invariant.1 (omega arith) found; n_in_bounds = c-loop.invariant.1.swept.room }

pub loop-p-preserved : goal.loop-p-preserved
loop-p-preserved c = let c-put-chain = c.put_chain-at in
    let found = c.in-Some.ensures in
    let c-loop = c.loop-p in
    let c-pre = c.requires in
    (c-put-chain.ensures.marked_on.same ∙ c-loop.invariant.0, writing_more _ _ (turns c.args.self.table) c-loop.invariant.1 (omega arith) found c-put-chain.ensures.marked_on c-put-chain.ensures.stored)

pub returns : goal.returns
returns c = let c-loop = c.loop-p in
    let c-pre = c.requires in
    record { area_after = writing_all _ _ (turns c.args.self.table) c-loop.invariant.1 (omega arith); value = writing_at _ _ (turns c.args.self.table) c-loop.invariant.1 (omega arith) }
